pub mod Pushes
pub mod Ranks
pub mod Onwards
pub mod Turns
pub mod Settles
pub mod Outers
pub mod Lates
pub mod Rights
