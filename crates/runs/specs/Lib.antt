-- The definitions that the contracts cite.
pub mod Models
pub mod Answers
pub mod Law
pub mod States
pub mod Told
