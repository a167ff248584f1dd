-- What is misplaced in one part of a unit, calls of `setparms` aside.
pub mod MisplacedParts
-- What a declaration of an instance breaks, by tests on names, and what tables of names tell.
pub mod InstanceTests
pub mod InstanceTables
pub mod InstanceRules
