pub mod Anew
pub mod Waiting
pub mod Flushes
