mod Digits
mod Lines
mod Rows
pub mod Reading
