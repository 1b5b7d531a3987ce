pub mod Table
pub mod Deep
