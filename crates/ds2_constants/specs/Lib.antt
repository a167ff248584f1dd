pub mod ConstantKeys
pub mod ConstantNumbers
pub mod KeyOrder
pub mod UsedOnce
