-- What is meant by a pool of places and by a tree in it, in the order in which it is read. Definitions only.
pub mod Lists
pub mod Writes
pub mod Held
pub mod Trees
pub mod Worlds
pub mod Meanings
pub mod Read
