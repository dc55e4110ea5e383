mod Blocks
mod Pixels
mod Equal
mod Sums
pub mod Whole
mod LightRule
pub mod Cases
