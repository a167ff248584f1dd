pub mod PileView
pub mod Results
pub mod OperationKinds
