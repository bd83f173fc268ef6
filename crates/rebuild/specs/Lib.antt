pub mod Rebuild
pub mod Clean
