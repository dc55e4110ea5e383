pub mod Soundness
pub mod Memory
pub mod Asking
pub mod Opening
pub mod Orders
pub mod Fit
pub mod Inner
