-- What stands behind a call whose result is dropped.
use Rattle.std.specs.Prelude.{Bool, true, false, List, [], ◌∷◌}
use Rattle.ds2_code.specs.declared.instr.Instr.{Instr}
use Rattle.ds2_code.specs.declared.instr.Instr.TheVariants as instr

-- a result is dropped where there is one
abbrev pub dropped_result : Bool → List Instr
dropped_result true = instr.DropTop ∷ []
dropped_result false = []
