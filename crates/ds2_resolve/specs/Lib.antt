-- The tables that the data programs of a source make and that its units mention, and what the code keeps of what stands before a unit.
pub mod TableMakers
pub mod StoreMentions
pub mod StandingBefore
