use Rattle.std.proofs.Common.{◌≡◌, drop}
use Rattle.std.specs.Prelude.{map}
use Rattle.ds2_tree.specs.UnitViews.{global_tree}
use Rattle.ds2_names.specs.SourceUnit.{source_methods}
use Rattle.ds2_names.specs.Uses.{method_named}
use Rattle.ds2_instance_types.proofs.constructors.method_named.Given as goal

abbrev pub invariant-globals : goal.invariant-globals
invariant-globals l = method_named (source_methods (map global_tree (drop l.global-index l.globals))) l.name ≡ method_named (source_methods (map global_tree l.globals)) l.name
