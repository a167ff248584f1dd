-- What a use of a name breaks, by tests on names, what tables of names tell, and what a unit breaks of the rules on uses.
pub mod UseRules
pub mod ScopeTables
pub mod ListedParts
pub mod BrokenUses
