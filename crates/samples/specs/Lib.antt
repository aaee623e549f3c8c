pub mod Sparse
pub mod Flags
