-- The lemmas, by topic.
pub mod Filters
pub mod Joins
pub mod Groups
pub mod Shapes
pub mod Orders
pub mod Along
pub mod Sums
pub mod Sworn
