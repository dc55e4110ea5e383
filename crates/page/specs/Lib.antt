pub mod Page
pub mod Reading
