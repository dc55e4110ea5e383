pub mod Clicking
pub mod Answers
mod Compared
mod Steps
mod Indexed
mod Together
mod Same
mod RowCalls
mod Step
mod PlainClicks
mod Seen
pub mod Demand3
pub mod Grey
pub mod Accounts
pub mod UprightMeaning
pub mod EqualMeaning
pub mod Worked
pub mod Examples
