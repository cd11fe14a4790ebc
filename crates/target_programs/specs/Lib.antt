pub mod Disks
pub mod Explained
pub mod ServedDisk
pub mod Status
