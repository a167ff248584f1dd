use Rattle.std.proofs.Common.{◌≡◌, drop}
use Rattle.std.specs.List.{list_any}
use Rattle.ds2_meaning.specs.declared.readings.Input.{Input}
use Rattle.ds2_value.specs.Schema.{has_column}
use Rattle.ds2_local.proofs.reading.is_column_among.Given as goal

abbrev pub invariant-inputs : goal.invariant-inputs
invariant-inputs l = list_any (λ (input : Input). has_column l.name input.columns) (drop l.input-index l.inputs) ≡ list_any (λ (input : Input). has_column l.name input.columns) l.inputs
