pub mod Controllers
pub mod Views
