use Rattle.std.proofs.Common.{◌≡◌, ◌++◌, length}
use Rattle.std.specs.Prelude.{map}
use Rattle.ds2_code_answer.specs.CodeLoads.{by_key_of_part}
use Rattle.ds2_loads.proofs.statement.by_keys.Given as goal

abbrev pub invariant-bys : goal.invariant-bys
invariant-bys l = l.keys ++ map by_key_of_part l.rest ≡ map by_key_of_part l.bys

abbrev pub decreases-bys : goal.decreases-bys
decreases-bys l = length l.rest
