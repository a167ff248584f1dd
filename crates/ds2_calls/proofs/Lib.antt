mod MethodLemmas
pub mod SortLemmas
mod KnownLemmas
pub mod CallLemmas
pub mod UseLemmas
