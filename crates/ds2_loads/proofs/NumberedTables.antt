-- The rows of tables by number.
use Rattle.std.proofs.Common.{◌≡◌, ℕ, zero, suc, List, [], ◌∷◌, Some, None, refl, ap, sym}
use Rattle.std.specs.Prelude.{slice_get}
use Rattle.std.proofs.lemmas.Option.{slice_get-map}
use Rattle.ds2_value.specs.Value.{or_null}
use Rattle.ds2_table.specs.Table.{Contents, table_value}
use Rattle.ds2_code_answer.specs.CodeTables.{rows_of_each}
use Rattle.ds2_slots.specs.LoadedHashes.{row_in_table}

pub ruleset numbered = (slice_get-map)

-- a value in a table of a number, and in one that is not there
pub value_there : (tables : List Contents) (t : ℕ) (table : Contents) (i c : ℕ) → slice_get tables t ≡ Some table → table_value table.rows i c ≡ or_null (slice_get (row_in_table (rows_of_each tables) t i) c)
value_there [] t table i c h = let none : None ≡ Some table = h in cc
value_there (x ∷ tables) zero table i c h = let same : x ≡ table = cc in ap (λ (z : Contents). table_value z.rows i c) (sym same)
value_there (x ∷ tables) (suc t) table i c h = value_there tables t table i c h

pub value_nowhere : (tables : List Contents) (t i c : ℕ) → slice_get tables t ≡ None → or_null None ≡ or_null (slice_get (row_in_table (rows_of_each tables) t i) c)
value_nowhere [] t i c h = refl
value_nowhere (x ∷ tables) zero i c h = let none : Some x ≡ None = h in cc
value_nowhere (x ∷ tables) (suc t) i c h = value_nowhere tables t i c h

pub ruleset numbered_rows = (value_there, value_nowhere)
