pub mod RowCall
pub mod Inner
