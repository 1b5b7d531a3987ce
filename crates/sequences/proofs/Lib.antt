-- What is true of any calls that meet the contracts.
pub mod Stable
pub mod Unique
pub mod Sequences
pub mod ByCalls
