pub mod Layout
pub mod Lends
pub mod NameTable
pub mod NumberTable
pub mod Variants
