pub mod Marks
pub mod Numbers
