use Rattle.std.proofs.Common.{◌≡◌, ℕ, List, drop}
use Rattle.std.specs.Prelude.{nat_eq}
use Rattle.std.specs.Cmp.Lexicographic.{pointwise}
use Rattle.std.specs.HashMap.{get}
use Rattle.std.specs.Option.{option_or}
use Rattle.ds2_type_tables.specs.Bys.{if_listed}
use Rattle.ds2_type_tables.proofs.bys.bys.Given as goal

abbrev pub invariant-names : goal.invariant-names
invariant-names l = (name : List ℕ) → option_or (get (pointwise nat_eq) l.table name) (if_listed (drop l.by-index l.names) name) ≡ if_listed l.names name
