-- Places in the loads of a program that have no groups, before the first load.
use Rattle.std.proofs.Common.{◌≡◌, ℕ, ◌<◌, ◌≤◌, Bool, true, false, ◌&&◌, ◌⊎◌, inl, inr, List, map, length, refl, sym, ap, ◌∙◌, subst, true≢false, IsTrue, arith}
use Rattle.std.specs.Prelude.{nat_le}
use Rattle.std.proofs.lemmas.Bool.Decides.{leb_tells}
use Rattle.ds2_table.specs.Loads.{KeyedLoad, set_load, set_loads}
use Rattle.ds2_table.specs.Table.{Contents}
use Rattle.ds2_reading.specs.CursorState.{Cursor, cursor_at_start}
use Rattle.ds2_reading.specs.ReadingFits.{read_tables_fit, by_keys_fit, reading_fits_tables}
use Rattle.ds2_reading.specs.ReadingKeys.{directions_of, keys_of_reading}
use Rattle.ds2_reading.specs.declared.reading.Reading.{Reading}
use Rattle.ds2_code_answer.specs.CodeLoads.{load_settings}
use Rattle.ds2_loads.specs.LoadCursors.{settings_of_keyed, IsCursorOver, IsLoadOver, IsOpenCursor, IsOpenWalk}
use Rattle.ds2_loads.specs.RowsBehind.{rows_behind}
use Rattle.ds2_loads.specs.StatementSource.{settings_left}
use Rattle.ds2_loads.specs.declared.load_cursor.LoadCursor.{LoadCursor}
use Rattle.ds2_loads.specs.declared.load_cursor.LoadCursor.TheVariants as cursor
use Rattle.ds2_loads.specs.declared.table_load.TableLoad.{TableLoad}
use Rattle.ds2_loads.proofs.RowLists.{no_bys, rows_are_loads}

-- ---- walks

module _ (statement : Reading) (retains : Bool) (tables : List Contents) (loads : List KeyedLoad) (c : Cursor)
    (is : c ≡ cursor_at_start (length statement.tables) (length statement.bys) 0 loads) where
  pub set_walk_opened : IsOpenWalk statement retains tables loads (cursor.SetWalk c)
  set_walk_opened = record {
    over = let P : Cursor → Type 0 = λ x. IsCursorOver statement (cursor.SetWalk x) in subst P (sym is) (refl, refl, omega arith);
    left = λ at over. ap (settings_left at) is;
  }

  pub merge_walk_opened : IsOpenWalk statement retains tables loads (cursor.MergeWalk c)
  merge_walk_opened = record {
    over = let P : Cursor → Type 0 = λ x. IsCursorOver statement (cursor.MergeWalk x) in subst P (sym is) (refl, refl, omega arith);
    left = λ at over. ap (settings_left at) is;
  }

-- ---- a cursor with groups is one without

pub walk_of_cursor : (statement : Reading) (retains : Bool) (tables : List Contents) (grain : ℕ) (loads : List KeyedLoad) (c : LoadCursor) → IsOpenCursor statement grain loads c
    → IsOpenWalk statement retains tables loads c
walk_of_cursor statement retains tables grain loads c h = record { over = h.over; left = λ at over. h.left at over.reading }

-- ---- rows in their order

first_of_two : (a b : Bool) → (a && b) ≡ true → a ≡ true
first_of_two true b h = refl
first_of_two false b h = absurd cc

at_most_so_many : (a b : ℕ) → nat_le a b ≡ true → a ≤ b
at_most_so_many a b h = by (leb_tells a b)
  where
    by : ((nat_le a b ≡ true) × (a ≤ b)) ⊎ ((nat_le a b ≡ false) × (b < a)) → a ≤ b
    by (inl k) = k.1
    by (inr k) = absurd (true≢false (sym h ∙ k.0))

few_tables : (tables : List Contents) (statement : Reading) → IsTrue (reading_fits_tables tables statement) → length statement.tables ≤ 16
few_tables tables statement h =
    let few = nat_le (length statement.tables) 16 in
    let both = few && nat_le (length statement.bys) 16 in
    at_most_so_many (length statement.tables) 16
    (first_of_two few (nat_le (length statement.bys) 16) (first_of_two both (read_tables_fit tables statement.tables && by_keys_fit tables statement.tables statement.bys) h))

module _ (statement : Reading) (tables : List Contents) (fits : IsTrue (reading_fits_tables tables statement)) (none : length statement.bys ≡ 0) where
  abbrev all : List KeyedLoad
  all = set_loads (directions_of statement.bys) (keys_of_reading tables statement)

  settings_are : (at : TableLoad) → IsLoadOver statement false tables at → map (settings_of_keyed at) all ≡ map (λ (l : KeyedLoad). load_settings at.slots.now statement false tables l.load) all
  settings_are at over = λ i. map (λ (l : KeyedLoad). load_settings at.slots.now (over.reading i) (over.retained i) (over.tables i) l.load) all

  pub rows_opened : IsOpenWalk statement false tables all (cursor.Rows (record { table = 0; row = 0 }))
  rows_opened = record {
    over = (refl, sym none, few_tables tables statement fits);
    left = λ at over.
        (λ i. map (λ row. load_settings at.slots.now (over.reading i) (over.retained i) (over.tables i) (set_load (length (over.reading i).tables) row).load) (rows_behind (over.tables i) 0 0 (over.reading i).tables))
        ∙ rows_are_loads at.slots.now statement tables (no_bys statement.bys none)
        ∙ sym (settings_are at over);
  }
