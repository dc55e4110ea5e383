mod Tallying
pub mod Altered
mod Parted
mod Bytewise
mod Masks
pub mod Shading
mod Passing
mod Walk
mod Counted
pub mod Parts
pub mod Paper
pub mod Laws
pub mod Accounts
pub mod HeadPixel
pub mod SweptPixel
pub mod InkPixel
