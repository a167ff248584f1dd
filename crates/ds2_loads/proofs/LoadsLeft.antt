-- The loads that are left of a cursor.
use Rattle.std.proofs.Common.{◌≡◌, ℕ, zero, suc, ◌+◌, min, List, [], ◌∷◌, length, map, drop, Option, Some, None, refl, sym, ap, ◌∙◌, arith}
use Rattle.std.specs.Prelude.{slice_get}
use Rattle.std.specs.Option.{option_map}
use Rattle.ds2_table.specs.Loads.{Load, KeyedLoad}
use Rattle.ds2_reading.specs.declared.load.Load.{Load as LoadInCode}
use Rattle.ds2_reading.specs.CursorState.{Cursor, next_load_of, behind_next}
use Rattle.ds2_reading.specs.LoadMeaning.{load_meaning}
use Rattle.ds2_code.specs.Desk.{SlotSettings}
use Rattle.ds2_loads.specs.declared.table_load.TableLoad.{TableLoad}
use Rattle.ds2_loads.specs.StatementSource.{settings_of_statement, settings_left}

-- the first of the loads that are left is this one, and those behind it
pub record IsFirstLeft (loads : List KeyedLoad) (given : ℕ) (load : Load) : Type 0 where
  pub first : KeyedLoad
  pub is : first.load ≡ load
  pub left : drop given loads ≡ first ∷ drop (min (given + 1) (length loads)) loads

pub first_left : (loads : List KeyedLoad) (given : ℕ) (load : Load) → option_map (λ (l : KeyedLoad). l.load) (slice_get loads given) ≡ Some load → IsFirstLeft loads given load
first_left [] zero load h = absurd cc
first_left [] (suc given) load h = absurd cc
first_left (l ∷ loads) zero load h =
    let one : min (0 + 1) (suc (length loads)) ≡ 1 = omega arith in
    record { first = l; is = cc; left = ap (λ z. l ∷ drop z (l ∷ loads)) (sym one) }
first_left (l ∷ loads) (suc given) load h =
    let rest = first_left loads given load h in
    let more : min (suc given + 1) (suc (length loads)) ≡ suc (min (given + 1) (length loads)) = omega arith in
    record { first = rest.first; is = rest.is; left = rest.left ∙ ap (λ z. rest.first ∷ drop z (l ∷ loads)) (sym more) }

pub none_left : (loads : List KeyedLoad) (given : ℕ) → option_map (λ (l : KeyedLoad). l.load) (slice_get loads given) ≡ None → drop given loads ≡ []
none_left [] zero h = refl
none_left [] (suc given) h = refl
none_left (l ∷ loads) zero h = absurd cc
none_left (l ∷ loads) (suc given) h = none_left loads given h

-- ---- what the next load of a cursor sets

module _ (at : TableLoad) (cursor : Cursor) (given : Option LoadInCode) (is : option_map (load_meaning cursor.tables cursor.bys) given ≡ next_load_of cursor) where
  pub none_set : given ≡ None → settings_left at cursor ≡ []
  none_set none =
      ap (map (λ (l : KeyedLoad). settings_of_statement at l.load))
      (none_left cursor.loads cursor.given (sym is ∙ ap (option_map (load_meaning cursor.tables cursor.bys)) none))

  pub first_set : (load : LoadInCode) (after : Cursor) → given ≡ Some load → after ≡ behind_next cursor → cursor.tables ≡ length at.reading.now.tables → cursor.bys ≡ length at.reading.now.bys
      → settings_left at cursor ≡ settings_of_statement at (load_meaning (length at.reading.now.tables) (length at.reading.now.bys) load) ∷ settings_left at after
  first_set load after some behind tables bys =
      let it = first_left cursor.loads cursor.given (load_meaning cursor.tables cursor.bys load) (sym is ∙ ap (option_map (load_meaning cursor.tables cursor.bys)) some) in
      let left : List SlotSettings = map (λ (l : KeyedLoad). settings_of_statement at l.load) (drop (min (cursor.given + 1) (length cursor.loads)) cursor.loads) in
      ap (map (λ (l : KeyedLoad). settings_of_statement at l.load)) it.left
      ∙ ap (λ (z : Load). settings_of_statement at z ∷ left) it.is
      ∙ ap (λ n. settings_of_statement at (load_meaning n cursor.bys load) ∷ left) tables
      ∙ ap (λ n. settings_of_statement at (load_meaning (length at.reading.now.tables) n load) ∷ left) bys
      ∙ ap (λ (x : Cursor). settings_of_statement at (load_meaning (length at.reading.now.tables) (length at.reading.now.bys) load) ∷ settings_left at x) (sym behind)
