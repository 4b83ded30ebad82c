-- The lemmas, by topic.
pub mod Lined
pub mod Read
pub mod Seen
pub mod Settled
pub mod Sights
