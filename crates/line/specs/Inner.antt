-- What contracts between functions say. No claim and no contract of the interface reaches it.
pub mod Altered
pub mod Swept
pub mod Shading
pub mod Tallying
pub mod Counting
