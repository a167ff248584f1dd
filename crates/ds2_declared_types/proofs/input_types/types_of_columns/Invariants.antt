use Rattle.std.proofs.Common.{◌≡◌, ℕ, List, drop}
use Rattle.std.specs.Prelude.{nat_eq}
use Rattle.std.specs.Cmp.Lexicographic.{pointwise}
use Rattle.std.specs.HashMap.{get}
use Rattle.std.specs.Option.{option_or}
use Rattle.ds2_elaboration.specs.SourceTypes.{type_of_column}
use Rattle.ds2_declared_types.proofs.input_types.types_of_columns.Given as goal

abbrev pub invariant-columns : goal.invariant-columns
invariant-columns l =
    (name : List ℕ) → option_or (get (pointwise nat_eq) l.types name) (type_of_column name (drop l.column-index l.columns)) ≡ type_of_column name l.columns
