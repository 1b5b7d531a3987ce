-- What is proved of the words that are written.
pub mod Puts
