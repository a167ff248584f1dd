pub mod LocationBits
pub mod MarkedSets
pub mod MarkedReads
pub mod ElseWalks
pub mod KnownFlags
pub mod RecordedWalks
pub mod RecordedStatements
pub mod RecordedParts
