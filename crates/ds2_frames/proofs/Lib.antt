pub mod PileLemmas
pub mod LineLemmas
