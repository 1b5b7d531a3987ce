pub mod Tests
pub mod Lines
