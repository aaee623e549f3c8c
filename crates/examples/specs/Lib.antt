pub mod Graphs
pub mod Examples
pub mod Refuted
