pub mod Reading
pub mod Files
