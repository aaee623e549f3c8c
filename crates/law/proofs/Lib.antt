pub mod Stacks
pub mod Agrees
pub mod Turns
pub mod Laws
pub mod Prefixes
