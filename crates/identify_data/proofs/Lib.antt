pub mod Found
pub mod Parts
pub mod Read
pub mod Tables
pub mod Written
