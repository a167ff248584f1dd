pub mod GrammarTokenLaws
pub mod PlainLaws
pub mod RuleSteps
pub mod FrontSteps
pub mod PartSteps
