-- The lemmas of the proofs.
mod Unions
mod Entries
pub mod Agreeing
pub mod Composites
pub mod Lacking
pub mod Spoken
pub mod Readings
pub mod Printing
pub mod Scored
pub mod Compared
pub mod Trials
pub mod Rowed
pub mod Completed
pub mod Looked
pub mod Charted
