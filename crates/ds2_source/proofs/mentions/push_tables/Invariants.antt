use Rattle.std.proofs.Common.{◌≡◌, ◌++◌, drop}
use Rattle.std.specs.Prelude.{map}
use Rattle.ds2_tree.specs.declared.readings.Input.{Input}
use Rattle.ds2_names.specs.SourceUnit.{placed_name}
use Rattle.ds2_source.proofs.mentions.push_tables.Given as goal

abbrev pub invariant-inputs : goal.invariant-inputs
invariant-inputs l =
    l.found ++ map (λ (i : Input). placed_name i.table) (drop l.input-index l.inputs) ≡ l.fn.found ++ map (λ (i : Input). placed_name i.table) l.inputs
