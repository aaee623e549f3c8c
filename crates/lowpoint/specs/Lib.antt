pub mod Cuts
pub mod Lows
pub mod Finds
pub mod Steps
