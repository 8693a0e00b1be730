pub mod PlainText
pub mod Asked
pub mod Desk
pub mod Claims
pub mod Taken
pub mod Told
pub mod Laws
