use Rattle.std.proofs.Common.{◌≡◌, ℕ, List, drop}
use Rattle.std.specs.Prelude.{nat_eq}
use Rattle.std.specs.Cmp.Lexicographic.{pointwise}
use Rattle.std.specs.HashMap.{get}
use Rattle.ds2_given_names.specs.OutputParts.{first_new, first_new_of}
use Rattle.ds2_given_names.proofs.output_columns.first_columns.Given as goal

abbrev pub invariant-columns : goal.invariant-columns
invariant-columns l = (name : List ℕ) → first_new (get (pointwise nat_eq) l.firsts name) (first_new_of (drop l.n-index l.columns) name) ≡ first_new_of l.columns name
