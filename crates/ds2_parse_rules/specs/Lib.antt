pub mod GrammarTokens
pub mod ExpressionGrammar
pub mod StatementGrammar
pub mod ReadingGrammar
pub mod GlobalGrammar
pub mod UnitGrammar
pub mod TokenClasses
pub mod TreeViews
