use Rattle.std.proofs.Common.{◌≡◌, ℕ, List, drop}
use Rattle.std.specs.Prelude.{if◌then◌else◌}
use Rattle.ds2_resolve.specs.TableMakers.{maker_in, makes_table}
use Rattle.ds2_resolve.proofs.makers.note_outputs.Given as goal

abbrev pub invariant-outputs : goal.invariant-outputs
invariant-outputs l =
    (name : List ℕ) → (if makes_table (drop l.o-index l.outputs) name then l.number else maker_in l.makers name) ≡ (if makes_table l.outputs name then l.number else maker_in l.fn.makers name)
