use Rattle.std.proofs.Common.{◌≡◌, ◌++◌, drop, map}
use Rattle.std.specs.Prelude.{unwrap_or}
use Rattle.std.specs.HashMap.{get_by_text}
use Rattle.ds2_meaning.specs.declared.globals.OutputColumn.{OutputColumn}
use Rattle.ds2_layout.specs.SlotSearch.{projection_by}
use Rattle.ds2_layout.proofs.numbers.projection.Given as goal

abbrev pub invariant-columns : goal.invariant-columns
invariant-columns l = l.slots ++ map (λ name. unwrap_or (get_by_text l.numbers name) 0) (map (λ (c : OutputColumn). c.source) (drop l.column-index l.column-items)) ≡ projection_by (get_by_text l.numbers) l.output
