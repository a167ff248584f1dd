-- How the run of a group ended.
use Rattle.std.specs.Prelude.{Bool, true, false}
use Rattle.ds2_value.specs.declared.fault.Ending.{Ending}
use Rattle.ds2_value.specs.declared.fault.Ending.TheVariants.{Normal, Faulted}

-- Whether a run ended by a fault.
abbrev pub ended_by_fault : Ending → Bool
ended_by_fault Normal = false
ended_by_fault (Faulted kind place) = true
