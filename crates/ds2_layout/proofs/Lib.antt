pub mod LayoutLemmas
pub mod ReadingThread
