pub mod Choice
pub mod Big
pub mod Read
