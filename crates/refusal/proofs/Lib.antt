pub mod Passed
pub mod Kept
pub mod Chained
