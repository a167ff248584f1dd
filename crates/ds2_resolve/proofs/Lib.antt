pub mod MakerLemmas
pub mod MentionedTables
pub mod BeforeLemmas
pub mod TokenLemmas
pub mod RuleParts
