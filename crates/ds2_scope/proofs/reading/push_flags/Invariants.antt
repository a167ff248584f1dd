use Rattle.std.proofs.Common.{◌≡◌, ◌++◌, drop}
use Rattle.ds2_names.specs.SourceUnit.{flag_names}
use Rattle.ds2_scope.proofs.reading.push_flags.Given as goal

abbrev pub invariant-inputs : goal.invariant-inputs
invariant-inputs l = l.names ++ flag_names (drop l.input-index l.inputs) ≡ l.fn.names ++ flag_names l.inputs
