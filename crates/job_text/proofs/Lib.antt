pub mod LineParts
pub mod FieldReaders
pub mod JobParts
pub mod WholeJob
pub mod PartsInARow
pub mod KeysRead
mod ImageLengths
pub mod ImageCounts
pub mod Stops
pub mod BadPlaces
mod PlacesWorked
