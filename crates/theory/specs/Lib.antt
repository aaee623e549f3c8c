pub mod Search
pub mod Walk
pub mod Order
pub mod Models
pub mod Memory
pub mod Loops
