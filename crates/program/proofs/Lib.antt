-- What is proved of the programs.
pub mod Starts
