-- Bytes read as words. Definitions only.
pub mod Words
