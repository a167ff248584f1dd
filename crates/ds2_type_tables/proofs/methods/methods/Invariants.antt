use Rattle.std.proofs.Common.{◌≡◌, ℕ, List, drop}
use Rattle.std.specs.Prelude.{nat_eq, map}
use Rattle.std.specs.Cmp.Lexicographic.{pointwise}
use Rattle.std.specs.HashMap.{get}
use Rattle.std.specs.Option.{option_or}
use Rattle.ds2_tree.specs.UnitViews.{global_tree}
use Rattle.ds2_names.specs.SourceUnit.{source_methods}
use Rattle.ds2_elaboration.specs.ProgramTypes.{methods_to_call}
use Rattle.ds2_scope.specs.CodeUnits.{unit_kind}
use Rattle.ds2_type_tables.specs.Callables.{known_from}
use Rattle.ds2_type_tables.proofs.methods.methods.Given as goal

abbrev pub invariant-globals : goal.invariant-globals
invariant-globals l =
    (name : List ℕ) → option_or (get (pointwise nat_eq) l.table name) (known_from l.number (methods_to_call (unit_kind l.kind) (source_methods (map global_tree (drop l.global-index l.globals)))) name)
    ≡ known_from 0 (methods_to_call (unit_kind l.kind) (source_methods (map global_tree l.globals))) name
