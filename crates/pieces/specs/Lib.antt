-- What the answers of `pieces` say. Definitions only.
pub mod Creations
pub mod Replies
pub mod Views
