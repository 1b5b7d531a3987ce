-- Document 01, "Records of the command program", as definitions, in the order in which they are read.
pub mod Text
pub mod Numbers
pub mod Commands
pub mod Input
pub mod Read
