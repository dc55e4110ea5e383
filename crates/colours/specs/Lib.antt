pub mod Mix
pub mod Meanings
pub mod Palettes
pub mod Table
pub mod Rgba
pub mod LightRule
pub mod Inner
