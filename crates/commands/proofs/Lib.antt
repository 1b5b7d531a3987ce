-- What is proved of the commands.
pub mod Said
pub mod Once
pub mod Words
