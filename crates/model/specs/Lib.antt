pub mod Model
pub mod Kinds
pub mod Paths
pub mod Sets
pub mod Views
pub mod Laws
