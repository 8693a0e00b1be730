pub mod ImageLaws
pub mod CallLaws
pub mod RunLaws
mod BlockLaws
mod Events
mod Images
mod Last
mod MemoryCalls
