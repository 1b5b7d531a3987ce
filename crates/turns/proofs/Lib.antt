pub mod Turns
pub mod Working
