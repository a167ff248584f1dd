use Rattle.std.proofs.Common.{◌≡◌, ℕ, List, take}
use Rattle.std.specs.Prelude.{nat_eq}
use Rattle.std.specs.Cmp.Lexicographic.{pointwise}
use Rattle.std.specs.HashMap.{get}
use Rattle.ds2_names.specs.NameRules.{from_each}
use Rattle.ds2_types.specs.Judgements.{first_type_refusal}
use Rattle.ds2_type_tables.specs.Clashes.{clash_of_column}
use Rattle.ds2_type_tables.proofs.clashes.clash_table.Given as goal

abbrev pub invariant-columns : goal.invariant-columns
invariant-columns l =
    (name : List ℕ) → get (pointwise nat_eq) l.clashes name ≡ first_type_refusal (from_each (clash_of_column name) (take l.c-index l.columns))
