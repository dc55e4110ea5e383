pub mod Laws
pub mod Reach
