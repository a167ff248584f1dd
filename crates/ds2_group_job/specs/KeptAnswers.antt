-- What units of a thread program have left in a record of rows and lines.
use Rattle.std.specs.Prelude.{◌≡◌, ◌++◌, map, Some}
use Rattle.ds2_value.specs.Run.{Written}
use Rattle.ds2_code_answer.specs.StageTold.{StageTold}
use Rattle.ds2_machine.specs.declared.record.UnitRecord.{UnitRecord}
use Rattle.ds2_unit.specs.Threads.{rows_kept}
use Rattle.ds2_unit.specs.declared.units_end.UnitsEnd.{UnitsEnd}

-- what units tell has been kept behind what was written before, and this is how they have ended
pub record HasKeptTold (before after : UnitRecord) (told : StageTold) (end : UnitsEnd) : Type 0 where
  pub rows : rows_kept after.rows ≡ rows_kept before.rows ++ map (λ (w : Written). w.row) told.rows
  pub lines : after.lines ≡ before.lines ++ told.lines
  pub ended : told.ending ≡ Some end.ending
  pub counted : end.executed ≡ told.executed
