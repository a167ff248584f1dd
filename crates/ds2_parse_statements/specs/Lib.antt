pub mod StatementSymbols
pub mod ExpressionParts
pub mod StatementParts
