-- The definitions that the contracts cite.
pub mod Joins
pub mod Shapes
pub mod Groups
pub mod Weights
pub mod Sworn
pub mod Sums
pub mod SwornLemmas
