-- The definitions that the contracts cite.
pub mod Faults
pub mod Drafts
pub mod Searches
