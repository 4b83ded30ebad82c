-- The lemmas, by topic.
pub mod Verdicts
pub mod Places
pub mod Kept
pub mod Counted
pub mod Charged
pub mod Lawful
pub mod Carried
