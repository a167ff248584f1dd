use Rattle.std.proofs.Common.{◌≡◌, ◌++◌, drop}
use Rattle.std.specs.Prelude.{map}
use Rattle.ds2_tree.specs.UnitViews.{global_tree}
use Rattle.ds2_names.specs.NameRules.{from_each}
use Rattle.ds2_names.specs.SourceLimits.{tables_in_item}
use Rattle.ds2_source.proofs.mentions.mentioned_tables.Given as goal

abbrev pub invariant-globals : goal.invariant-globals
invariant-globals l = l.found ++ from_each tables_in_item (map global_tree (drop l.global-index l.globals)) ≡ from_each tables_in_item (map global_tree l.globals)
