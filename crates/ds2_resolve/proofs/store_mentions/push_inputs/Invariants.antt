use Rattle.std.proofs.Common.{◌≡◌, ◌++◌, drop}
use Rattle.ds2_names.specs.NameRules.{from_each}
use Rattle.ds2_resolve.specs.StoreMentions.{is_of_store, stored_table}
use Rattle.ds2_resolve.proofs.store_mentions.push_inputs.Given as goal

abbrev pub invariant-inputs : goal.invariant-inputs
invariant-inputs l = l.found ++ from_each (stored_table (is_of_store l.makers)) (drop l.input-index l.inputs) ≡ l.fn.found ++ from_each (stored_table (is_of_store l.makers)) l.inputs
