pub mod Changed
pub mod Lists
pub mod Pages
pub mod Ready
pub mod Planned
