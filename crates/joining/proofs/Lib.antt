mod Canonical
mod Gathering
mod Placing
mod Sides
mod Answers
mod Passing
pub mod Claim
mod Worked
