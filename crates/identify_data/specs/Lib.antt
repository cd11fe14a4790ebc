pub mod Controller
pub mod Descriptors
pub mod Fields
pub mod Laws
pub mod Namespace
