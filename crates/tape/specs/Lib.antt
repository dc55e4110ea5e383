pub mod Tape
pub mod Checks
pub mod Joined
pub mod Calls
pub mod Inner
