pub mod Value
pub mod Bytes
mod Halves
mod Rounding
pub mod Shares
pub mod Shades
pub mod Grey
pub mod Cases
