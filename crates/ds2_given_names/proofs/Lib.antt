pub mod OutputLemmas
pub mod LimitLemmas
pub mod TooManyLemmas
pub mod RepetitionLemmas
pub mod NumberLemmas
pub mod TypeNumberLemmas
