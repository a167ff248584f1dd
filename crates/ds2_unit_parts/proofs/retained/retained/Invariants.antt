use Rattle.std.proofs.Common.{◌≡◌, ◌++◌, codes, drop}
use Rattle.std.specs.Prelude.{map}
use Rattle.ds2_names.specs.NameRules.{listed_in_statements}
use Rattle.ds2_tree.specs.UnitViews.{global_tree}
use Rattle.ds2_unit_parts.proofs.retained.retained.Given as goal

abbrev pub invariant-globals : goal.invariant-globals
invariant-globals l =
    l.names ++ listed_in_statements (codes "retain") (map global_tree (drop l.global-index l.globals)) ≡ listed_in_statements (codes "retain") (map global_tree l.globals)
