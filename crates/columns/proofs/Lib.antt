pub mod Laws
pub mod Soundness
pub mod Tally
pub mod Added
pub mod Tested
pub mod Sums
pub mod Counts
mod Overlap
mod Adding
mod Located
mod CellPixels
mod Clipping
mod Positions
mod Lies
