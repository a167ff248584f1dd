use Rattle.std.proofs.Common.{◌≡◌, ℕ, List, drop}
use Rattle.std.specs.Prelude.{◌||◌}
use Rattle.std.specs.HashSet.{contains_text}
use Rattle.std.specs.List.{list_any}
use Rattle.ds2_value.specs.Schema.{has_column}
use Rattle.ds2_meaning.specs.declared.readings.Input.{Input}
use Rattle.ds2_layout.proofs.names.add_inputs.Given as goal

abbrev pub invariant-inputs : goal.invariant-inputs
invariant-inputs l = (other : List ℕ) →
    (list_any (λ (input : Input). has_column other input.columns) (drop l.input-index l.inputs) || contains_text l.set other)
    ≡ (list_any (λ (input : Input). has_column other input.columns) l.inputs || contains_text l.fn.set other)
