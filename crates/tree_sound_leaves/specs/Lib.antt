-- What the soundness test's leaves mean. Definitions only.
pub mod Areas
