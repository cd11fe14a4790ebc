pub mod Blanks
pub mod Cuts
pub mod Fronts
pub mod Overwrites
pub mod Parts
pub mod Shown
pub mod Strays
