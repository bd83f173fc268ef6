pub mod Window
pub mod InWindow
