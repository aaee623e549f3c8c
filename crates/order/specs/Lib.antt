pub mod Search
pub mod Questions
pub mod Right
