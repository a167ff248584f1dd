use Rattle.std.proofs.Common.{◌≡◌, drop}
use Rattle.ds2_meaning.specs.IsTyped.{is_present}
use Rattle.ds2_local.proofs.reading.is_present.Given as goal

abbrev pub invariant-inputs : goal.invariant-inputs
invariant-inputs l = is_present (drop l.input-index l.inputs) l.name ≡ is_present l.inputs l.name
