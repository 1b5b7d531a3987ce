-- What the answers of the way down mean. Definitions only.
pub mod Spots
