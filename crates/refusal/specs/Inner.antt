-- What laws between crates say. No claim and no contract of the interface reaches it.
pub mod Chained
