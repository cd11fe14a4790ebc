pub mod Changing
pub mod Removing
pub mod Shows
pub mod Staying
pub mod Together
pub mod Units
