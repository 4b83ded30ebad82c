-- The lemmas, by topic.
pub mod Accepted
pub mod Meant
pub mod Turned
