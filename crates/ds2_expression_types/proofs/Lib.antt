pub mod ArgumentLists
pub mod SeveralValues
pub mod LinkViews
pub mod Growing
