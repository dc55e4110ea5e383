pub mod Index
pub mod Byte
pub mod Share
pub mod Shade
pub mod Grey
pub mod Inner
