-- The lemmas, by topic.
pub mod Listed
pub mod Blanks
pub mod Closed
pub mod Loops
pub mod Prefixes
