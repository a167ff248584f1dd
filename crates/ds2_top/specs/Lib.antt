-- The top call.
pub mod Outside
pub mod Reported
pub mod StoredObjects
pub mod DecodedFiles
pub mod RuntimeFaults
pub mod Leaves
pub mod Headline
