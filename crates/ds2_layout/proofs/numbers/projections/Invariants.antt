use Rattle.std.proofs.Common.{◌≡◌, ◌++◌, drop, map}
use Rattle.std.specs.HashMap.{get_by_text}
use Rattle.ds2_layout.specs.SlotSearch.{projection_by}
use Rattle.ds2_layout.proofs.numbers.projections.Given as goal

abbrev pub invariant-outputs : goal.invariant-outputs
invariant-outputs l = l.all ++ map (projection_by (get_by_text l.numbers)) (drop l.output-index l.outputs) ≡ map (projection_by (get_by_text l.numbers)) l.outputs
