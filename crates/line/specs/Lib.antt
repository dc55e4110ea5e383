pub mod Altered
pub mod Line
pub mod Inner
