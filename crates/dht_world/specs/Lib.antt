pub mod Answers
pub mod Bricks
pub mod Following
pub mod Lines
pub mod Clients
pub mod World
pub mod Places
