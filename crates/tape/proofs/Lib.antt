pub mod Runs
pub mod Symbols
pub mod Accepted
pub mod Below
pub mod Answers
mod Differing
mod Each
mod Overlay
pub mod OneSide
mod Whole
