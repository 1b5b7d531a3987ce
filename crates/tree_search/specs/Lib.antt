pub mod Questions
pub mod Tables
