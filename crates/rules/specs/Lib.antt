-- The definitions that the contracts cite.
pub mod Rows
pub mod Properly
pub mod Costs
pub mod Orders
pub mod Steps
pub mod Soundness
pub mod Networks
