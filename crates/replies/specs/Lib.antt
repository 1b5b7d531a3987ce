-- What the command programs print. Definitions only.
pub mod Lines
pub mod Programs
pub mod Printed
