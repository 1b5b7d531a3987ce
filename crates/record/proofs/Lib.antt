-- Laws of the definitions, for the proofs of the code and of the programs.
pub mod Digits
pub mod Parts
pub mod Streams
pub mod Kept
pub mod Words
pub mod Reading
pub mod Quotes
pub mod Round
pub mod Examples
pub mod Commands
pub mod Spelling
