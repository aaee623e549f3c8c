pub mod Format
pub mod Faults
pub mod Laws
