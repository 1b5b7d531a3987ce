-- What theorems about any calls speak of. Definitions only.
pub mod Runs
pub mod Determined
pub mod Examples
