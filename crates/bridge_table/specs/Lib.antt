-- What contracts see of the records.
pub mod Kept
pub mod Stage
