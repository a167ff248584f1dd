mod UsageLemmas
mod BrokenLemmas
