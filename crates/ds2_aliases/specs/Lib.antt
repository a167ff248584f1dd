-- Which methods reach a name, and what methods hand to in_out parameters.
pub mod ReachingMethods
pub mod MethodLinks
pub mod ReachedNames
pub mod HandedGlobals
-- What methods mention.
pub mod MentionParts
pub mod PartsOfMethods
