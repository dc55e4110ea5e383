pub mod Window
pub mod Found
pub mod Bins
pub mod Pixels
pub mod Inner
