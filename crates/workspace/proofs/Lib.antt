pub mod Tops
pub mod Nexts
pub mod Zeros
