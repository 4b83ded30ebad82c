-- The lemmas, by topic.
pub mod Searches
