-- The next load of `set` at a place.
use Rattle.std.proofs.Common.{◌≡◌, ℕ, zero, suc, ◌+◌, ◌^◌, ◌<◌, ◌≤◌, min, List, [], ◌∷◌, length, sym, ap, arith}
use Rattle.std.specs.Prelude.{slice_get, Some, None}
use Rattle.std.specs.Option.{option_map}
use Rattle.std.proofs.lemmas.Option.{slice_get_past, slice_get_within}
use Rattle.ds2_table.specs.Loads.{InputRow, KeyedLoad, set_loads}
use Rattle.ds2_reading.specs.KeyOrder.{InputKeys, IsThere}
use Rattle.ds2_reading.specs.Places.{all_rows}
use Rattle.ds2_reading.specs.declared.table_row.TableRow.{TableRow}
use Rattle.ds2_reading.proofs.AllRows.{rows_of_one_within}
use Rattle.ds2_rows.specs.SetPlaces.{IsReady}
use Rattle.ds2_rows.proofs.SetLoads.{as_many_loads}

-- past the end of a list
past : {A : Type 0} (xs : List A) (k : ℕ) → None ≡ slice_get xs k → length xs ≤ k
past [] k e = omega arith
past (x ∷ xs) zero e = let none : None ≡ Some x = e in cc
past (x ∷ xs) (suc k) e = omega (arith, past xs k e)

module _ (input : InputKeys) (place : ℕ) (h : IsReady input place) where
  abbrev rows : List InputRow
  rows = all_rows input.descending input.tables

  abbrev loads : List KeyedLoad
  loads = set_loads input.descending input.tables

  -- where no row is at the place, no load is left
  pub no_load : None ≡ slice_get rows place → None ≡ option_map (λ (l : KeyedLoad). l.load) (slice_get loads place)
  no_load e =
      sym (ap (option_map (λ (l : KeyedLoad). l.load)) (slice_get_past loads place (omega (arith, as_many_loads input.descending input.tables, past rows place e))))

  pub none_given : None ≡ slice_get rows place → place ≡ min (place + 1) (length loads)
  none_given e = omega (arith, as_many_loads input.descending input.tables, past rows place e, h.within)

  module _ (row : InputRow) (e : Some row ≡ slice_get rows place) where
    there : place < length rows
    there = slice_get_within rows place row (sym e)

    pub place_fits : place + 1 < 2 ^ 64
    place_fits = omega (arith, h.room, there)

    pub ready_behind : IsReady input (place + 1)
    ready_behind = record { few_tables = h.few_tables; few_bys = h.few_bys; keys = h.keys; room = h.room; within = omega (arith, there) }

    pub one_given : place + 1 ≡ min (place + 1) (length loads)
    one_given = omega (arith, as_many_loads input.descending input.tables, there)

  -- the number of a row is one of the machine
  pub number_fits : (row : TableRow) → IsThere input.tables row → row.row + 1 < 2 ^ 64
  number_fits row t = omega (arith, h.room, t.within, rows_of_one_within input.descending input.tables row.table)
