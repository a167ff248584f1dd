-- What the search for the grain stands on.
use Rattle.std.specs.Prelude.{Bool, List}
use Rattle.ds2_deeds.specs.NamedLocations.{locations_named}
use Rattle.ds2_locality.specs.Verdict.{JudgedThread}
use Rattle.ds2_locality.specs.Walk.{no_flag}
use Rattle.ds2_recorded_walk.specs.declared.record.RecordedWalk.{RecordedWalk}
use Rattle.ds2_local.specs.declared.judged.JudgedBodies.{JudgedBodies}
use Rattle.ds2_local.specs.EffectSteps.{RunTells}
use Rattle.ds2_local.specs.JudgedBodies.{HoldsJudged}
use Rattle.ds2_local.specs.RunGrounds.{AreCells}
use Rattle.ds2_local.specs.Verdicts.{TellsCells}

-- the code holds a thread program, its cells and the recorded walk of later loads
pub record HoldsWalks (t : JudgedThread) (b : JudgedBodies) (cells : List Bool) (later : RecordedWalk) : Type 0 where
  pub judged : HoldsJudged t b
  pub told : TellsCells t
  pub are_cells : AreCells t (locations_named b.numbers.locations.now) cells
  pub later_tells : RunTells t (locations_named b.numbers.locations.now) no_flag later
