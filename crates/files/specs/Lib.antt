-- The definitions that the contracts cite, in the order of reading.
pub mod Parts
pub mod Numbers
pub mod Words
pub mod Faults
pub mod Letters
pub mod Heads
pub mod Statements
pub mod Drafts
pub mod Sheets
pub mod Loads
pub mod Views
pub mod Standing
pub mod Files
