pub mod Lists
pub mod Cells
pub mod Products
pub mod Rows
pub mod Diagonal
pub mod Workspaces
