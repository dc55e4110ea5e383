mod Bands
pub mod Overwritten
pub mod RowChecks
mod Placed
