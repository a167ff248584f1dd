pub mod GroupPlaces
pub mod LoadMeans
pub mod NextLoad
pub mod Opening
pub mod SetLoads
