-- What is proved of the soundness test, and of calls that begin with it.
pub mod Calls
pub mod Starts
