-- Plans and statements as contracts see them: trees without pointers.
pub mod Plan
pub mod Statement
