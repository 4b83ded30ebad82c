pub mod Small
pub mod Figures
