pub mod Layout
pub mod Wrote
pub mod Call
