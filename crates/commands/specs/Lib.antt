-- What the commands of both programs mean. Definitions only.
pub mod Commands
