pub mod Categories
pub mod Fronts
pub mod Listing
pub mod Pages
pub mod Pieces
