pub mod Runs
pub mod Inner
pub mod Calls
pub mod Joining
pub mod Worked
