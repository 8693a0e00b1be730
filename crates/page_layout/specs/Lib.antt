pub mod Html
pub mod Table
pub mod Linked
pub mod Page
