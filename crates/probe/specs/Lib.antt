pub mod Probes
pub mod Across
