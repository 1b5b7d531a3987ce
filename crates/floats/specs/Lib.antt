-- What is meant: the next value up, and the length of an interval. Definitions only.
pub mod Values
pub mod Next
pub mod Span
