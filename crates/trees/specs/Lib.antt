-- What both trees share. Definitions only.
pub mod Points
pub mod Pieces
pub mod Handed
