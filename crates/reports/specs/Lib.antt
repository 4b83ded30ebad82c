-- The definitions that the contracts cite.
pub mod Lines
pub mod Found
pub mod Account
pub mod Faults
pub mod Spellings
pub mod Apart
pub mod ReadBack
