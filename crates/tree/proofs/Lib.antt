-- What is proved of both trees.
pub mod Far
pub mod Zips
