mod Accepted
pub mod Sound
pub mod Answers
mod Extents
pub mod Fits
mod Fittings
mod Heads
pub mod Openings
pub mod Said
mod Sizes
mod Steps
