pub mod SearchLemmas
pub mod NumberLemmas
pub mod CalleeLemmas
pub mod BodyLemmas
