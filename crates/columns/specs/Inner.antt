-- What contracts between functions say. No claim and no contract of the interface reaches it.
pub mod Usable
pub mod Extent
pub mod Adding
pub mod Swept
