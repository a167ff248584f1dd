-- The layout of a typed program's code fits its tables, and the thread program that it reads from.
use Rattle.std.specs.Prelude.{IsTrue, None, Some}
use Rattle.ds2_meaning.specs.IsTyped.{IsTypedUnit, ReadsNoStage, FitsStage}
use Rattle.ds2_meaning.specs.ProgramTree.{UnitTree}
use Rattle.ds2_code.specs.ValidCode.{layout_fits}
use Rattle.ds2_program_code.specs.ProgramCode.{program_code}

-- slots and layout of a typed program's code fit: the columns of its tables, and those of the thread program where it reads from one
pub record TypedLayoutsFit : Type 0 where
  pub over_tables : (p : UnitTree) → IsTypedUnit p → ReadsNoStage p.reading → IsTrue (layout_fits (program_code p) None)
  pub over_stage : (p stage : UnitTree) → IsTypedUnit p → IsTypedUnit stage → FitsStage p stage → IsTrue (layout_fits (program_code p) (Some (program_code stage)))
