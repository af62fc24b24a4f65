pub mod SeenBounds
pub mod SeenTexts
pub mod ShownFits
pub mod ShownTrees
pub mod ShownStates
-- Lookups, listings and the visit of the root, over a state and over any texts.
pub mod Joins
pub mod Values
pub mod Lookups
pub mod Rows
pub mod Listings
pub mod Roots
pub mod SeenValues
pub mod SeenNibbles
pub mod RisingRows
pub mod ListedRows
pub mod ListedPlaces
