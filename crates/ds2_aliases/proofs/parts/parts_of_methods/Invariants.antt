use Rattle.std.proofs.Common.{◌≡◌, ◌++◌, drop}
use Rattle.std.specs.Prelude.{map}
use Rattle.ds2_tree.specs.UnitViews.{global_tree}
use Rattle.ds2_names.specs.SourceUnit.{source_methods}
use Rattle.ds2_aliases.specs.MentionParts.{flags_by_calls}
use Rattle.ds2_aliases.specs.PartsOfMethods.{parts_of_method}
use Rattle.ds2_aliases.proofs.parts.parts_of_methods.Given as goal

abbrev pub invariant-globals : goal.invariant-globals
invariant-globals l =
    l.all ++ map (parts_of_method (flags_by_calls l.calls)) (source_methods (map global_tree (drop l.global-index l.globals)))
    ≡ map (parts_of_method (flags_by_calls l.calls)) (source_methods (map global_tree l.globals))
