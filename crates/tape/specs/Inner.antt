-- What contracts between functions say. No claim and no contract of the interface reaches it.
pub mod Checks
pub mod Sides
pub mod Sound
pub mod Windows
