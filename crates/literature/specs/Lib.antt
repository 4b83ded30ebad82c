-- The definitions that the contracts cite.
pub mod Relations
pub mod Scores
pub mod Printed
pub mod Letters
pub mod Laws
pub mod Tried
pub mod Published
pub mod Held
pub mod Literature
pub mod Output
