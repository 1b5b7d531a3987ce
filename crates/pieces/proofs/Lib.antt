-- What is proved of `pieces`.
pub mod Creations
pub mod Queries
pub mod Replies
