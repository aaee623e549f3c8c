pub mod Told
pub mod Reads
pub mod Cards
pub mod Means
