-- Each global that a load sets has a slot.
use Rattle.std.proofs.Common.{◌≡◌, ℕ, Bool, true, false, not, ◌||◌, List, [], ◌∷◌, ◌++◌, bytes_eq, Option, Some, None, refl, sym, ap, if◌then◌else◌}
use Rattle.std.proofs.lemmas.Bool.{true≢false}
use Rattle.ds2_value.specs.Row.{Row, Columns}
use Rattle.ds2_value.specs.declared.ty.Ty.{Ty}
use Rattle.ds2_value.specs.declared.ty.Ty.TheVariants.{BigInt}
use Rattle.ds2_table.specs.Loads.{Load}
use Rattle.ds2_meaning.specs.declared.globals.Variable.{Variable}
use Rattle.ds2_meaning.specs.declared.location.Global.{Global}
use Rattle.ds2_meaning.specs.declared.location.Global.TheVariants.{Named, First, Last, Present}
use Rattle.ds2_meaning.specs.declared.readings.ByVariable.{ByVariable}
use Rattle.ds2_meaning.specs.declared.readings.Input.{Input}
use Rattle.ds2_meaning.specs.declared.readings.Reading.{Reading}
use Rattle.ds2_meaning.specs.declared.readings.Reading.TheVariants.{Nothing, Once, Set, Merge, From}
use Rattle.ds2_meaning.specs.IsTyped.{type_in, flag_type, is_by, is_flag_of, is_present, globals_of, AreVariables, AreTypedInputs, IsTypedReading}
use Rattle.ds2_meaning.specs.ProgramTree.{UnitTree, data_vector}
use Rattle.ds2_meaning.specs.Reading.{InputTables, Settings, inputs_of, bys_of, nulls, all_nulls, row_settings, row_numbered, settings_of_row, tables_settings, present_setting, present_settings, by_settings, settings_in, settings_of, stage_columns}
use Rattle.ds2_gen.specs.UnitTheorem.{AreSameSettings}
use Rattle.ds2_program_code.specs.PlacedProgram.{first_of_run, system_placement}
use Rattle.ds2_program_code.specs.LoadSettings.{slot_settings, TypedLoadsHaveSlots}
use Rattle.ds2_program_code.proofs.Lists.{bytes_self}
use Rattle.ds2_program_code.proofs.Slots.{slot_cell}

-- each global has a type
abbrev HaveTypes : (Global → Option Ty) → Settings → Type 0
HaveTypes globals [] = Unit {0}
HaveTypes globals (set ∷ more) = ((ty : Ty) × (globals set.0 ≡ Some ty)) × HaveTypes globals more

module _ (globals : Global → Option Ty) where
  both_have : (xs ys : Settings) → HaveTypes globals xs → HaveTypes globals ys → HaveTypes globals (xs ++ ys)
  both_have [] ys a b = b
  both_have (x ∷ xs) ys a b = (a.0, both_have xs ys a.1 b)

  if_have : (b : Bool) (xs : Settings) → HaveTypes globals xs → HaveTypes globals (if b then xs else [])
  if_have true xs h = h
  if_have false xs h = tt

  module _ (variables : List Variable) (named : (name : List ℕ) (ty : Ty) → type_in variables name ≡ Some ty → globals (Named name) ≡ Some ty) where
    nulls_have : (columns : Columns) → AreVariables variables columns → HaveTypes globals (nulls columns)
    nulls_have [] typed = tt
    nulls_have (c ∷ columns) typed = ((typed.0.0, named c.name typed.0.0 typed.0.1), nulls_have columns typed.1)

    row_have : (columns : Columns) (row : Row) → AreVariables variables columns → HaveTypes globals (row_settings variables columns row)
    row_have [] row typed = tt
    row_have (c ∷ columns) [] typed = tt
    row_have (c ∷ columns) (v ∷ row) typed = ((typed.0.0, named c.name typed.0.0 typed.0.1), row_have columns row typed.1)

    row_or_none : (columns : Columns) (o : Option Row) → AreVariables variables columns → HaveTypes globals (settings_of_row variables columns o)
    row_or_none columns None typed = tt
    row_or_none columns (Some row) typed = row_have columns row typed

    all_nulls_have : (bys : List ByVariable) (inputs : List Input) → AreTypedInputs variables bys inputs → HaveTypes globals (all_nulls inputs)
    all_nulls_have bys [] typed = tt
    all_nulls_have bys (i ∷ inputs) typed = both_have (nulls i.columns) (all_nulls inputs) (nulls_have i.columns typed.1) (all_nulls_have bys inputs typed.3)

    tables_have : (bys : List ByVariable) (inputs : List Input) (tables : InputTables) (numbers : List (Option ℕ)) → AreTypedInputs variables bys inputs → HaveTypes globals (tables_settings variables inputs tables numbers)
    tables_have bys [] tables numbers typed = tt
    tables_have bys (i ∷ inputs) [] numbers typed = tt
    tables_have bys (i ∷ inputs) (rows ∷ tables) [] typed = tt
    tables_have bys (i ∷ inputs) (rows ∷ tables) (number ∷ numbers) typed =
        both_have (settings_of_row variables i.columns (row_numbered rows number)) (tables_settings variables inputs tables numbers)
        (row_or_none i.columns (row_numbered rows number) typed.1) (tables_have bys inputs tables numbers typed.3)

  flag_there : (b rest : Bool) → b ≡ true → (if b then true else rest) ≡ true
  flag_there true rest e = refl
  flag_there false rest e = absurd (true≢false (sym e))

  later_there : (b rest : Bool) → rest ≡ true → (if b then true else rest) ≡ true
  later_there true rest e = refl
  later_there false rest e = e

  present_have : (present : Option (List ℕ)) (b : Bool) → ((name : List ℕ) → is_flag_of present name ≡ true → globals (Present name) ≡ Some BigInt) → HaveTypes globals (present_setting present b)
  present_have None b typed = tt
  present_have (Some name) b typed = ((BigInt, typed name (bytes_self name)), tt)

  presents_have : (inputs : List Input) (flags : List Bool) → ((name : List ℕ) → is_present inputs name ≡ true → globals (Present name) ≡ Some BigInt) → HaveTypes globals (present_settings inputs flags)
  presents_have [] flags typed = tt
  presents_have (i ∷ inputs) [] typed = tt
  presents_have (i ∷ inputs) (b ∷ flags) typed =
      both_have (present_setting i.present b) (present_settings inputs flags)
      (present_have i.present b (λ name e. typed name (flag_there (is_flag_of i.present name) (is_present inputs name) e)))
      (presents_have inputs flags (λ name e. typed name (later_there (is_flag_of i.present name) (is_present inputs name) e)))

  bys_have : (flag : List ℕ → Global) (bys : List ByVariable) (flags : List Bool) → ((name : List ℕ) → is_by bys name ≡ true → globals (flag name) ≡ Some BigInt) → HaveTypes globals (by_settings flag bys flags)
  bys_have flag [] flags typed = tt
  bys_have flag (b ∷ bys) [] typed = tt
  bys_have flag (b ∷ bys) (f ∷ flags) typed = (
    (BigInt, typed b.name (flag_there (bytes_eq b.name b.name) (is_by bys b.name) (bytes_self b.name))),
    bys_have flag bys flags (λ name e. typed name (later_there (bytes_eq b.name name) (is_by bys name) e)),
  )

  -- all that a load sets
  module _ (variables : List Variable) (named : (name : List ℕ) (ty : Ty) → type_in variables name ≡ Some ty → globals (Named name) ≡ Some ty) where
    settings_have : (inputs : List Input) (bys : List ByVariable) (retains : Bool) (tables : InputTables) (load : Load) → AreTypedInputs variables bys inputs
        → ((name : List ℕ) → is_present inputs name ≡ true → globals (Present name) ≡ Some BigInt) → ((name : List ℕ) → is_by bys name ≡ true → globals (First name) ≡ Some BigInt) → ((name : List ℕ) → is_by bys name ≡ true → globals (Last name) ≡ Some BigInt)
        → HaveTypes globals (settings_in variables inputs bys retains tables load)
    settings_have inputs bys retains tables load typed present first last =
        let empty = if not retains || load.is_fresh then all_nulls inputs else [] in
        let rows = tables_settings variables inputs tables load.rows in
        let flags = present_settings inputs load.present in
        let firsts = by_settings First bys load.first in
        both_have (empty ++ rows ++ flags ++ firsts) (by_settings Last bys load.last)
        (both_have (empty ++ rows ++ flags) firsts
        (both_have (empty ++ rows) flags
        (both_have empty rows (if_have (not retains || load.is_fresh) (all_nulls inputs) (all_nulls_have variables named bys inputs typed)) (tables_have variables named bys inputs tables load.rows typed))
        (presents_have inputs load.present present))
        (bys_have First bys load.first first))
        (bys_have Last bys load.last last)

    reading_have : (reading : Reading) (tables : InputTables) (load : Load) → IsTypedReading variables reading
        → ((name : List ℕ) → is_present (inputs_of reading) name ≡ true → globals (Present name) ≡ Some BigInt) → ((name : List ℕ) → is_by (bys_of reading) name ≡ true → globals (First name) ≡ Some BigInt)
        → ((name : List ℕ) → is_by (bys_of reading) name ≡ true → globals (Last name) ≡ Some BigInt) → HaveTypes globals (settings_of variables reading tables load)
    reading_have Nothing tables load typed present first last = tt
    reading_have Once tables load typed present first last = tt
    reading_have (Set inputs bys) tables load typed present first last = settings_have inputs bys false tables load typed.2 present first last
    reading_have (Merge inputs bys retains) tables load typed present first last = settings_have inputs bys retains tables load typed.2 present first last
    reading_have (From instance workers columns) tables load typed present first last = tt

    stage_have : (reading : Reading) (row : Row) → IsTypedReading variables reading → HaveTypes globals (row_settings variables (stage_columns reading) row)
    stage_have Nothing row typed = tt
    stage_have Once row typed = tt
    stage_have (Set inputs bys) row typed = tt
    stage_have (Merge inputs bys retains) row typed = tt
    stage_have (From instance workers columns) row typed = row_have variables named columns row typed.2

same_settings : (p : UnitTree) (load : Settings) → HaveTypes (globals_of p) load → AreSameSettings (system_placement p (first_of_run p) p.run) load (slot_settings p load)
same_settings p [] h = tt
same_settings p (set ∷ more) h = (slot_cell p None set.0 h.0.0 h.0.1, refl, same_settings p more h.1)

pub typed_loads_have_slots : TypedLoadsHaveSlots
typed_loads_have_slots p typed = record {
  over_tables = λ tables load.
      same_settings p (settings_of (data_vector p) p.reading tables load)
      (reading_have (globals_of p) (data_vector p) (λ name ty e. e) p.reading tables load typed.reading (λ name e. ap flag_type e) (λ name e. ap flag_type e) (λ name e. ap flag_type e));
  of_rows = λ row. same_settings p (row_settings (data_vector p) (stage_columns p.reading) row) (stage_have (globals_of p) (data_vector p) (λ name ty e. e) p.reading row typed.reading);
}
