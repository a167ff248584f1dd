pub mod TestLemmas
pub mod LinkLemmas
pub mod ReachLemmas
pub mod AliasLemmas
pub mod HandedLemmas
pub mod MentionLemmas
