pub mod FatalErrorStatus
pub mod Field
pub mod Name
pub mod PduType
pub mod Status
pub mod Window
