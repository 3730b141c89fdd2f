-- the command
pub mod Command
-- the journal of a script
pub mod Journal
-- what words ask for
pub mod Asked
