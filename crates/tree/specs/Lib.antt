-- What the code that both trees share means. Definitions only.
pub mod Lists
pub mod Sides
