use Rattle.std.proofs.Common.{◌≡◌, ◌++◌, drop}
use Rattle.std.specs.Prelude.{map}
use Rattle.ds2_tree.specs.UnitViews.{global_tree}
use Rattle.ds2_names.specs.NameRules.{from_each}
use Rattle.ds2_resolve.specs.StoreMentions.{is_of_store, stored_in_global}
use Rattle.ds2_resolve.proofs.store_mentions.stored_tables.Given as goal

abbrev pub invariant-globals : goal.invariant-globals
invariant-globals l =
    l.found ++ from_each (stored_in_global (is_of_store l.makers)) (map global_tree (drop l.global-index l.globals)) ≡ from_each (stored_in_global (is_of_store l.makers)) (map global_tree l.globals)
