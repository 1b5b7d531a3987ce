-- Document 01 as definitions, over any number of axes, in the order in which they are read.
pub mod Boxes
pub mod Trees
pub mod Searches
pub mod Calls
pub mod Soundness
pub mod History
