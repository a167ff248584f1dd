use Rattle.std.proofs.Common.{◌≡◌, ℕ, List, drop}
use Rattle.std.specs.Prelude.{nat_eq, map}
use Rattle.std.specs.Cmp.Lexicographic.{pointwise}
use Rattle.std.specs.HashMap.{get}
use Rattle.std.specs.Option.{option_or}
use Rattle.ds2_tree.specs.UnitViews.{global_tree}
use Rattle.ds2_names.specs.SourceUnit.{source_instances}
use Rattle.ds2_calls.specs.InstanceSorts.{sort_named}
use Rattle.ds2_calls.proofs.instances.instance_sorts.Given as goal

abbrev pub invariant-globals : goal.invariant-globals
invariant-globals l =
    (name : List ℕ) → option_or (get (pointwise nat_eq) l.sorts name) (sort_named (source_instances (map global_tree (drop l.global-index l.globals))) name)
    ≡ sort_named (source_instances (map global_tree l.globals)) name
