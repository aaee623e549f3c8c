pub mod Lists
pub mod Steps
pub mod Rows
pub mod Passed
pub mod Graphs
pub mod Formed
mod Examples
