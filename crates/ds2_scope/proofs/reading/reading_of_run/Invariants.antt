use Rattle.std.proofs.Common.{◌≡◌, drop}
use Rattle.std.specs.Prelude.{map}
use Rattle.ds2_tree.specs.UnitViews.{global_tree}
use Rattle.ds2_names.specs.SourceUnit.{source_methods, reading_of_run}
use Rattle.ds2_scope.proofs.reading.reading_of_run.Given as goal

abbrev pub invariant-globals : goal.invariant-globals
invariant-globals l = reading_of_run (source_methods (map global_tree (drop l.global-index l.globals))) ≡ reading_of_run (source_methods (map global_tree l.globals))
