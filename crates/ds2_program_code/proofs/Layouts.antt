-- The layout of a typed program fits its tables and its thread program.
use Rattle.std.proofs.Common.{◌≡◌, ℕ, ◌+◌, ◌-◌, ◌≤◌, max, nat_eq, nat_le, Bool, true, false, not, ◌&&◌, ◌||◌, List, [], ◌∷◌, map, flat_map, slice_get, bytes_eq, position, Option, Some, None, unwrap_or, IsTrue, refl, sym, ap, ◌∙◌, subst, arith, eq-eqb, le-leb, leb-true, if◌then◌else◌}
use Rattle.std.specs.List.{list_all}
use Rattle.std.specs.Option.{option_map, option_map_or}
use Rattle.std.proofs.lemmas.Bool.{true≢false, and_from, and_parts, or_parts, or_left, or_right, not-true, not_from_false}
use Rattle.std.proofs.lemmas.Iterator.Adapters.{position_from-zero}
use Rattle.std.proofs.lemmas.Slice.Eq.{bytes_eq-Decides}
use Rattle.ds2_value.specs.Row.{Columns}
use Rattle.ds2_value.specs.Schema.{has_column, distinct_names, types_in_bounds, is_schema}
use Rattle.ds2_value.specs.Types.{is_from_one, in_bounds, join_of, takes, same_ty}
use Rattle.ds2_value.specs.declared.schema.Column.{Column}
use Rattle.ds2_value.specs.declared.ty.Ty.{Ty}
use Rattle.ds2_value.specs.declared.ty.Ty.TheVariants.{BigInt, Decimal as DecimalOf, Char, Varchar}
use Rattle.ds2_meaning.specs.declared.globals.OutputColumn.{OutputColumn}
use Rattle.ds2_meaning.specs.declared.globals.OutputTable.{OutputTable}
use Rattle.ds2_meaning.specs.declared.globals.Variable.{Variable}
use Rattle.ds2_meaning.specs.declared.hashes.DeclaredHash.{DeclaredHash}
use Rattle.ds2_meaning.specs.declared.hashes.HashVariable.{HashVariable}
use Rattle.ds2_meaning.specs.declared.hashes.LoadedTable.{LoadedTable}
use Rattle.ds2_meaning.specs.declared.location.Global.{Global}
use Rattle.ds2_meaning.specs.declared.location.Global.TheVariants.{Named, First, Last, Present}
use Rattle.ds2_meaning.specs.declared.readings.ByVariable.{ByVariable}
use Rattle.ds2_meaning.specs.declared.readings.Input.{Input}
use Rattle.ds2_meaning.specs.declared.readings.Reading.{Reading}
use Rattle.ds2_meaning.specs.declared.readings.Reading.TheVariants as read
use Rattle.ds2_meaning.specs.IsTyped.{type_in, AreInBounds, AreVariables, AreByColumns, AreTypedInputs, IsTypedReading, is_by, is_flag_of, is_present, flag_type, globals_of, AreOutputColumns, AreTypedOutputs, AreHashVariables, AreTypedHashes, column_type, AreLoadedVariables, IsTypedLoad, AreStageColumns, IsTypedUnit, ReadsNoStage, ReadsStage}
use Rattle.ds2_meaning.specs.Location.{Home}
use Rattle.ds2_meaning.specs.ProgramMeaning.{global_name, output_columns}
use Rattle.ds2_meaning.specs.ProgramTree.{UnitTree, data_vector}
use Rattle.ds2_meaning.specs.Reading.{inputs_of, bys_of, stage_columns}
use Rattle.ds2_layout.specs.Layout.{program_slots, source_slot}
use Rattle.ds2_code.specs.declared.parts.ByPart.{ByPart}
use Rattle.ds2_code.specs.declared.parts.HashPart.{HashPart}
use Rattle.ds2_code.specs.declared.parts.ProgramParts.{ProgramParts}
use Rattle.ds2_code.specs.OperandTypes.{slot_type}
use Rattle.ds2_code.specs.ValidCode.{joins_to_slot, columns_fit, is_flag_slot, is_among_numbers, read_fits, by_fits, tables_fit, reading_fits, is_other_name, names_differ, output_fits, chosen_columns_fit, hash_table_fits, types_fit, one_output_fits, layout_fits}
use Rattle.ds2_program_code.specs.CodeParts.{slot_of_global, code_slots, variable_slots, columns_of_variables, hash_table_part, hash_part, hash_parts, input_part, by_variable_part, reading_part, output_part}
use Rattle.ds2_program_code.specs.ProgramCode.{program_code}
use Rattle.ds2_program_code.specs.LayoutsFit.{TypedLayoutsFit}
use Rattle.ds2_program_code.specs.KeptTypes.{EachValueHasType}
use Rattle.ds2_program_code.specs.PlacedProgram.{number_of_first}
use Rattle.ds2_program_code.proofs.Homes.{UnitHome, homes_of, homes_apart, AreLookedUp, all_looked}
use Rattle.ds2_program_code.proofs.Lists.{same_some, bytes_swap, bytes_self, slice_mapped, Beside, beside_here, beside_later}
use Rattle.ds2_program_code.proofs.Names.{position_numbered, slot_at_number}
use Rattle.ds2_program_code.proofs.Objects.{hash_parts_of, hash_parts_by_home}
use Rattle.ds2_program_code.proofs.Ranges.{all_both, home_objects}
use Rattle.ds2_program_code.proofs.Slots.{located, globals_at, slot_numbered}
use Rattle.ds2_program_code.proofs.SlotTypes.{slot_has_type}

-- a column of an output as a column of its table
abbrev column_of : OutputColumn → Column
column_of c = record { name = c.name; ty = c.ty }

unshifted : (q : Option ℕ) → option_map (λ k. 0 + k) q ≡ q
unshifted None = refl
unshifted (Some k) = let e : 0 + k ≡ k = omega arith in ap Some e

-- the position of the first item that passes a test is its number
pub position_is : {X : Type 0} (test : X → Bool) (xs : List X) (n : ℕ) → number_of_first test xs ≡ Some n → position test xs ≡ Some n
position_is test xs n e = position_from-zero test xs ∙ position_numbered test test (λ x. refl) 0 xs ∙ unshifted (number_of_first test xs) ∙ e

-- ---- joins

type_self : (t : Ty) → same_ty t t ≡ true
type_self BigInt = refl
type_self (DecimalOf p s) = and_from (nat_eq p p) (nat_eq s s) (eq-eqb p p refl) (eq-eqb s s refl)
type_self (Char n) = eq-eqb n n refl
type_self (Varchar n) = eq-eqb n n refl

abbrev when_few : ℕ → ℕ → Option Ty
when_few digits after = if nat_le digits 38 then Some (DecimalOf digits after) else None

decimals_joined : (digits after p s : ℕ) → p ≡ digits → s ≡ after → p ≤ 38 → option_map_or (same_ty (DecimalOf p s)) (when_few digits after) false ≡ true
decimals_joined digits after p s e f h =
    subst (λ d. option_map_or (same_ty (DecimalOf p s)) (when_few d after) false ≡ true) e
    (subst (λ a. option_map_or (same_ty (DecimalOf p s)) (when_few p a) false ≡ true) f
    (ap (λ b. option_map_or (same_ty (DecimalOf p s)) (if b then Some (DecimalOf p s) else None) false) (le-leb p 38 h) ∙ type_self (DecimalOf p s)))

texts_joined : (n m k : ℕ) → k ≡ n → nat_eq n k ≡ true
texts_joined n m k e = eq-eqb n k (sym e)

greater : (m n : ℕ) → m ≤ n → max m n ≡ n
greater m n h = omega arith

whole_digits : (p s : ℕ) → 19 + s ≤ p → p ≡ max (19 - 0) (p - s) + max 0 s
whole_digits p s h = omega arith

whole_after : (s : ℕ) → s ≡ max 0 s
whole_after s = omega arith

both_digits : (p s q t : ℕ) → t ≤ s → q + s ≤ p + t → s ≤ p → p ≡ max (q - t) (p - s) + max t s
both_digits p s q t h k l = omega arith

both_after : (s t : ℕ) → t ≤ s → s ≡ max t s
both_after s t h = omega arith

most_digits : (p s : ℕ) → in_bounds (DecimalOf p s) ≡ true → (p ≤ 38) × (s ≤ p)
most_digits p s e =
    let parts = and_parts (is_from_one p 38) (nat_le s p) e in
    let range = and_parts (nat_le 1 p) (nat_le p 38) parts.0 in
    (leb-true p 38 range.1, leb-true s p parts.1)

-- a type that takes the values of another one is the join of both
joined : (a b : Ty) → in_bounds a ≡ true → takes a b ≡ true → option_map_or (same_ty a) (join_of b a) false ≡ true
joined BigInt BigInt bounds e = refl
joined BigInt (DecimalOf q t) bounds e = absurd (true≢false (sym e))
joined BigInt (Char m) bounds e = absurd (true≢false (sym e))
joined BigInt (Varchar m) bounds e = absurd (true≢false (sym e))
joined (DecimalOf p s) BigInt bounds e =
    decimals_joined (max (19 - 0) (p - s) + max 0 s) (max 0 s) p s (whole_digits p s (leb-true (19 + s) p e)) (whole_after s) (most_digits p s bounds).0
joined (DecimalOf p s) (DecimalOf q t) bounds e =
    let parts = and_parts (nat_le t s) (nat_le (q + s) (p + t)) e in
    decimals_joined (max (q - t) (p - s) + max t s) (max t s) p s (both_digits p s q t (leb-true t s parts.0) (leb-true (q + s) (p + t) parts.1) (most_digits p s bounds).1) (both_after s t (leb-true t s parts.0)) (most_digits p s bounds).0
joined (DecimalOf p s) (Char m) bounds e = absurd (true≢false (sym e))
joined (DecimalOf p s) (Varchar m) bounds e = absurd (true≢false (sym e))
joined (Char n) BigInt bounds e = absurd (true≢false (sym e))
joined (Char n) (DecimalOf q t) bounds e = absurd (true≢false (sym e))
joined (Char n) (Char m) bounds e = texts_joined n m (max m n) (greater m n (leb-true m n e))
joined (Char n) (Varchar m) bounds e = absurd (true≢false (sym e))
joined (Varchar n) BigInt bounds e = absurd (true≢false (sym e))
joined (Varchar n) (DecimalOf q t) bounds e = absurd (true≢false (sym e))
joined (Varchar n) (Char m) bounds e = texts_joined n m (max m n) (greater m n (leb-true m n e))
joined (Varchar n) (Varchar m) bounds e = texts_joined n m (max m n) (greater m n (leb-true m n e))

-- ---- types of variables are in bounds

bounds_by : (b : Bool) (v : Variable) (o : Option Ty) (ty : Ty) → IsTrue (in_bounds v.ty) → (if b then Some v.ty else o) ≡ Some ty → (o ≡ Some ty → in_bounds ty ≡ true) → in_bounds ty ≡ true
bounds_by true v o ty here e later = subst (λ t. in_bounds t ≡ true) (same_some v.ty ty e) here
bounds_by false v o ty here e later = later e

pub in_bounds_of : (vs : List Variable) (name : List ℕ) (ty : Ty) → AreInBounds vs → type_in vs name ≡ Some ty → in_bounds ty ≡ true
in_bounds_of [] name ty bounds e = absurd cc
in_bounds_of (v ∷ vs) name ty bounds e = bounds_by (bytes_eq v.name name) v (type_in vs name) ty bounds.0 e (λ f. in_bounds_of vs name ty bounds.1 f)

module _ (p : UnitTree) (typed : IsTypedUnit p) where
  -- a type joins with the slot of a variable that takes its values
  variable_joined : (name : List ℕ) (ty other : Ty) → type_in (data_vector p) name ≡ Some ty → IsTrue (takes ty other) → joins_to_slot (Some other) (slot_type (code_slots p) (slot_of_global p None (Named name))) ≡ true
  variable_joined name ty other e h =
      ap (λ o. joins_to_slot (Some other) o) (slot_has_type p None (Named name) ty e)
      ∙ joined ty other (in_bounds_of (data_vector p) name ty (IsTypedUnit.variables typed).0 e) h

  columns_join : (columns : Columns) → AreVariables (data_vector p) columns → columns_fit (code_slots p) columns (map (λ (c : Column). slot_of_global p None (Named c.name)) columns) ≡ true
  columns_join [] is = refl
  columns_join (c ∷ columns) is =
      and_from (joins_to_slot (Some c.ty) (slot_type (code_slots p) (slot_of_global p None (Named c.name)))) (columns_fit (code_slots p) columns (map (λ (x : Column). slot_of_global p None (Named x.name)) columns))
      (variable_joined c.name is.0.0 c.ty is.0.1 is.0.2) (columns_join columns is.1)

  flag_fits : (global : Global) → globals_of p global ≡ Some BigInt → is_flag_slot (code_slots p) (slot_of_global p None global) ≡ true
  flag_fits global e = ap (λ o. option_map_or (same_ty BigInt) o false) (slot_has_type p None global BigInt e)

  present_fits : (present : Option (List ℕ)) → ((name : List ℕ) → is_flag_of present name ≡ true → globals_of p (Present name) ≡ Some BigInt)
      → option_map_or (is_flag_slot (code_slots p)) (option_map (λ (name : List ℕ). slot_of_global p None (Present name)) present) true ≡ true
  present_fits None is = refl
  present_fits (Some name) is = flag_fits (Present name) (is name (bytes_self name))

  among_by : (b : Bool) (c : Column) (columns : Columns) (name : List ℕ) → bytes_eq c.name name ≡ b → (b || has_column name columns) ≡ true
      → (has_column name columns ≡ true → is_among_numbers (slot_of_global p None (Named name)) (map (λ (x : Column). slot_of_global p None (Named x.name)) columns) ≡ true)
      → (nat_eq (slot_of_global p None (Named name)) (slot_of_global p None (Named c.name)) || is_among_numbers (slot_of_global p None (Named name)) (map (λ (x : Column). slot_of_global p None (Named x.name)) columns)) ≡ true
  among_by true c columns name same e later =
      or_left (nat_eq (slot_of_global p None (Named name)) (slot_of_global p None (Named c.name))) (is_among_numbers (slot_of_global p None (Named name)) (map (λ (x : Column). slot_of_global p None (Named x.name)) columns))
      (eq-eqb (slot_of_global p None (Named name)) (slot_of_global p None (Named c.name)) (ap (λ n. slot_of_global p None (Named n)) (sym ((bytes_eq-Decides c.name name).0 same))))
  among_by false c columns name same e later =
      or_right (nat_eq (slot_of_global p None (Named name)) (slot_of_global p None (Named c.name))) (is_among_numbers (slot_of_global p None (Named name)) (map (λ (x : Column). slot_of_global p None (Named x.name)) columns)) (later e)

  column_among : (columns : Columns) (name : List ℕ) → has_column name columns ≡ true → is_among_numbers (slot_of_global p None (Named name)) (map (λ (c : Column). slot_of_global p None (Named c.name)) columns) ≡ true
  column_among [] name e = absurd (true≢false (sym e))
  column_among (c ∷ columns) name e = among_by (bytes_eq c.name name) c columns name refl e (λ f. column_among columns name f)

  -- ---- tables of a reading

  bys_among : (columns : Columns) (bys : List ByVariable) → AreByColumns bys columns
      → list_all (λ (b : ByPart). is_among_numbers b.slot (map (λ (c : Column). slot_of_global p None (Named c.name)) columns)) (map (by_variable_part p) bys) ≡ true
  bys_among columns [] is = refl
  bys_among columns (b ∷ bys) is =
      and_from (is_among_numbers (slot_of_global p None (Named b.name)) (map (λ (c : Column). slot_of_global p None (Named c.name)) columns))
      (list_all (λ (x : ByPart). is_among_numbers x.slot (map (λ (c : Column). slot_of_global p None (Named c.name)) columns)) (map (by_variable_part p) bys))
      (column_among columns b.name is.0) (bys_among columns bys is.1)

  first_there : (b rest : Bool) → b ≡ true → (if b then true else rest) ≡ true
  first_there true rest e = refl
  first_there false rest e = absurd (true≢false (sym e))

  rest_there : (b rest : Bool) → rest ≡ true → (if b then true else rest) ≡ true
  rest_there true rest e = refl
  rest_there false rest e = e

  input_fits : (bys : List ByVariable) (i : Input) → IsTrue (is_schema i.columns) → AreVariables (data_vector p) i.columns → AreByColumns bys i.columns → ((name : List ℕ) → is_flag_of i.present name ≡ true → globals_of p (Present name) ≡ Some BigInt)
      → read_fits (code_slots p) (map (by_variable_part p) bys) (input_part p i) ≡ true
  input_fits bys i schema is columns present =
      let parts = and_parts (distinct_names i.columns) (types_in_bounds i.columns) schema in
      let slots = map (λ (c : Column). slot_of_global p None (Named c.name)) i.columns in
      and_from (columns_fit (code_slots p) i.columns slots && distinct_names i.columns)
      (option_map_or (is_flag_slot (code_slots p)) (option_map (λ (name : List ℕ). slot_of_global p None (Present name)) i.present) true && list_all (λ (b : ByPart). is_among_numbers b.slot slots) (map (by_variable_part p) bys))
      (and_from (columns_fit (code_slots p) i.columns slots) (distinct_names i.columns) (columns_join i.columns is) parts.0)
      (and_from (option_map_or (is_flag_slot (code_slots p)) (option_map (λ (name : List ℕ). slot_of_global p None (Present name)) i.present) true) (list_all (λ (b : ByPart). is_among_numbers b.slot slots) (map (by_variable_part p) bys))
      (present_fits i.present present) (bys_among i.columns bys columns))

  inputs_fit : (bys : List ByVariable) (inputs : List Input) → AreTypedInputs (data_vector p) bys inputs → ((name : List ℕ) → is_present inputs name ≡ true → globals_of p (Present name) ≡ Some BigInt)
      → list_all (read_fits (code_slots p) (map (by_variable_part p) bys)) (map (input_part p) inputs) ≡ true
  inputs_fit bys [] is present = refl
  inputs_fit bys (i ∷ inputs) is present =
      and_from (read_fits (code_slots p) (map (by_variable_part p) bys) (input_part p i)) (list_all (read_fits (code_slots p) (map (by_variable_part p) bys)) (map (input_part p) inputs))
      (input_fits bys i is.0 is.1 is.2 (λ name e. present name (first_there (is_flag_of i.present name) (is_present inputs name) e)))
      (inputs_fit bys inputs is.3 (λ name e. present name (rest_there (is_flag_of i.present name) (is_present inputs name) e)))

  bys_fit : (bys : List ByVariable) → ((name : List ℕ) → is_by bys name ≡ true → globals_of p (First name) ≡ Some BigInt) → ((name : List ℕ) → is_by bys name ≡ true → globals_of p (Last name) ≡ Some BigInt)
      → list_all (by_fits (code_slots p)) (map (by_variable_part p) bys) ≡ true
  bys_fit [] first last = refl
  bys_fit (b ∷ bys) first last =
      let here = first_there (bytes_eq b.name b.name) (is_by bys b.name) (bytes_self b.name) in
      and_from (by_fits (code_slots p) (by_variable_part p b)) (list_all (by_fits (code_slots p)) (map (by_variable_part p) bys))
      (and_from (is_flag_slot (code_slots p) (slot_of_global p None (First b.name))) (is_flag_slot (code_slots p) (slot_of_global p None (Last b.name))) (flag_fits (First b.name) (first b.name here)) (flag_fits (Last b.name) (last b.name here)))
      (bys_fit bys (λ name e. first name (rest_there (bytes_eq b.name name) (is_by bys name) e)) (λ name e. last name (rest_there (bytes_eq b.name name) (is_by bys name) e)))

  both_fit : (inputs : List Input) (bys : List ByVariable) → AreTypedInputs (data_vector p) bys inputs → ((name : List ℕ) → is_present inputs name ≡ true → globals_of p (Present name) ≡ Some BigInt)
      → ((name : List ℕ) → is_by bys name ≡ true → globals_of p (First name) ≡ Some BigInt) → ((name : List ℕ) → is_by bys name ≡ true → globals_of p (Last name) ≡ Some BigInt)
      → tables_fit (code_slots p) (map (input_part p) inputs) (map (by_variable_part p) bys) ≡ true
  both_fit inputs bys is present first last =
      and_from (list_all (read_fits (code_slots p) (map (by_variable_part p) bys)) (map (input_part p) inputs)) (list_all (by_fits (code_slots p)) (map (by_variable_part p) bys)) (inputs_fit bys inputs is present) (bys_fit bys first last)

  tables_layout : (reading : Reading) → ReadsNoStage reading → IsTypedReading (data_vector p) reading → ((name : List ℕ) → is_present (inputs_of reading) name ≡ true → globals_of p (Present name) ≡ Some BigInt)
      → ((name : List ℕ) → is_by (bys_of reading) name ≡ true → globals_of p (First name) ≡ Some BigInt) → ((name : List ℕ) → is_by (bys_of reading) name ≡ true → globals_of p (Last name) ≡ Some BigInt)
      → reading_fits (code_slots p) None (reading_part p reading) ≡ true
  tables_layout read.Nothing none is present first last = refl
  tables_layout read.Once none is present first last = refl
  tables_layout (read.Set inputs bys) none is present first last = both_fit inputs bys is.2 present first last
  tables_layout (read.Merge inputs bys retains) none is present first last = both_fit inputs bys is.2 present first last
  tables_layout (read.From instance workers columns) none is present first last = absurd none

  -- ---- outputs

  other_column : (name : List ℕ) (columns : List OutputColumn) → has_column name (map (λ (c : OutputColumn). column_of c) columns) ≡ false
      → is_other_name name (map (λ (c : List ℕ × ℕ). c.0) (map (λ (c : OutputColumn). (c.name, source_slot (program_slots p) c.source)) columns)) ≡ true
  other_column name [] e = refl
  other_column name (c ∷ columns) e =
      let parts = or_parts (bytes_eq c.name name) (has_column name (map (λ (x : OutputColumn). column_of x) columns)) e in
      and_from (not (bytes_eq name c.name)) (is_other_name name (map (λ (x : List ℕ × ℕ). x.0) (map (λ (x : OutputColumn). (x.name, source_slot (program_slots p) x.source)) columns)))
      (not_from_false (bytes_eq name c.name) (bytes_swap name c.name ∙ parts.0)) (other_column name columns parts.1)

  names_apart_in : (columns : List OutputColumn) → distinct_names (map (λ (c : OutputColumn). column_of c) columns) ≡ true
      → names_differ (map (λ (c : List ℕ × ℕ). c.0) (map (λ (c : OutputColumn). (c.name, source_slot (program_slots p) c.source)) columns)) ≡ true
  names_apart_in [] e = refl
  names_apart_in (c ∷ columns) e =
      let parts = and_parts (not (has_column c.name (map (λ (x : OutputColumn). column_of x) columns))) (distinct_names (map (λ (x : OutputColumn). column_of x) columns)) e in
      let names = map (λ (x : List ℕ × ℕ). x.0) (map (λ (x : OutputColumn). (x.name, source_slot (program_slots p) x.source)) columns) in
      and_from (is_other_name c.name names) (names_differ names) (other_column c.name columns (not-true (has_column c.name (map (λ (x : OutputColumn). column_of x) columns)) parts.0)) (names_apart_in columns parts.1)

  outputs_fit : (outputs : List OutputTable) → AreTypedOutputs (data_vector p) outputs → list_all output_fits (map (output_part p) outputs) ≡ true
  outputs_fit [] is = refl
  outputs_fit (o ∷ outputs) is =
      and_from (output_fits (output_part p o)) (list_all output_fits (map (output_part p) outputs))
      (names_apart_in o.columns (and_parts (distinct_names (output_columns o)) (types_in_bounds (output_columns o)) is.1).0) (outputs_fit outputs is.3)

  -- ---- hash objects

  column_by : (b : Bool) (c : Column) (columns : Columns) (name : List ℕ) (ty : Ty) → bytes_eq c.name name ≡ b → (if b then Some c.ty else column_type columns name) ≡ Some ty
      → (column_type columns name ≡ Some ty → Beside (λ (x : Column). bytes_eq x.name name) columns (map (λ (x : Column). x.ty) columns) ty)
      → Beside (λ (x : Column). bytes_eq x.name name) (c ∷ columns) (c.ty ∷ map (λ (x : Column). x.ty) columns) ty
  column_by true c columns name ty same e later =
      subst (λ t. Beside (λ (x : Column). bytes_eq x.name name) (c ∷ columns) (c.ty ∷ map (λ (x : Column). x.ty) columns) t) (same_some c.ty ty e)
      (beside_here (λ (x : Column). bytes_eq x.name name) c columns c.ty (map (λ (x : Column). x.ty) columns) same)
  column_by false c columns name ty same e later =
      beside_later (λ (x : Column). bytes_eq x.name name) c columns c.ty (map (λ (x : Column). x.ty) columns) ty same (later e)

  column_beside : (columns : Columns) (name : List ℕ) (ty : Ty) → column_type columns name ≡ Some ty → Beside (λ (x : Column). bytes_eq x.name name) columns (map (λ (x : Column). x.ty) columns) ty
  column_beside [] name ty e = absurd cc
  column_beside (c ∷ columns) name ty e = column_by (bytes_eq c.name name) c columns name ty refl e (λ f. column_beside columns name ty f)

  -- the column of a name has its type at its number
  column_numbered : (columns : Columns) (name : List ℕ) (ty : Ty) → column_type columns name ≡ Some ty
      → option_map (λ (c : Column). c.ty) (slice_get columns (unwrap_or (position (λ (c : Column). bytes_eq c.name name) columns) 0)) ≡ Some ty
  column_numbered columns name ty e =
      let test : Column → Bool = λ x. bytes_eq x.name name in
      let it = column_beside columns name ty e in
      let here : position test columns ≡ Some it.0 = position_is test columns it.0 it.1 in
      ap (λ o. option_map (λ (c : Column). c.ty) (slice_get columns (unwrap_or o 0))) here ∙ sym (slice_mapped (λ (c : Column). c.ty) columns it.0) ∙ it.2

  chosen_fit : (home : Home) (columns : Columns) (vs : List HashVariable) → AreHashVariables (globals_at p home) vs → AreLoadedVariables columns vs
      → chosen_columns_fit (code_slots p) columns (columns_of_variables columns vs) (variable_slots p home vs) ≡ true
  chosen_fit home columns [] is loaded = refl
  chosen_fit home columns (v ∷ vs) is loaded =
      let name = global_name v.global in
      let k = unwrap_or (position (λ (c : Column). bytes_eq c.name name) columns) 0 in
      let n = slot_of_global p home v.global in
      and_from (joins_to_slot (option_map (λ (c : Column). c.ty) (slice_get columns k)) (slot_type (code_slots p) n)) (chosen_columns_fit (code_slots p) columns (columns_of_variables columns vs) (variable_slots p home vs))
      (ap (λ o. joins_to_slot o (slot_type (code_slots p) n)) (column_numbered columns name loaded.0.0 loaded.0.1)
      ∙ ap (λ o. joins_to_slot (Some loaded.0.0) o) (slot_has_type p home v.global v.ty is.0)
      ∙ joined v.ty loaded.0.0 is.1 loaded.0.2)
      (chosen_fit home columns vs is.2 loaded.1)

  loaded_fits : (home : Home) (h : DeclaredHash) (o : Option LoadedTable) → AreHashVariables (globals_at p home) h.key_variables → AreHashVariables (globals_at p home) h.data_variables → IsTypedLoad h o
      → option_map_or (hash_table_fits (code_slots p) (hash_part p home h)) (option_map (hash_table_part h) o) true ≡ true
  loaded_fits home h None keys data' is = refl
  loaded_fits home h (Some loaded) keys data' is =
      let parts = and_parts (distinct_names loaded.columns) (types_in_bounds loaded.columns) is.0 in
      let fits_keys = chosen_columns_fit (code_slots p) loaded.columns (columns_of_variables loaded.columns h.key_variables) (variable_slots p home h.key_variables) in
      let fits_data = chosen_columns_fit (code_slots p) loaded.columns (columns_of_variables loaded.columns h.data_variables) (variable_slots p home h.data_variables) in
      and_from (distinct_names loaded.columns) (fits_keys && fits_data) parts.0
      (and_from fits_keys fits_data (chosen_fit home loaded.columns h.key_variables keys is.1) (chosen_fit home loaded.columns h.data_variables data' is.2))

  hashes_fit : (home : Home) (hashes : List DeclaredHash) → AreTypedHashes (globals_at p home) hashes
      → list_all (λ (hash : HashPart). option_map_or (hash_table_fits (code_slots p) hash) hash.loaded true) (map (hash_part p home) hashes) ≡ true
  hashes_fit home [] is = refl
  hashes_fit home (h ∷ hashes) is =
      and_from (option_map_or (hash_table_fits (code_slots p) (hash_part p home h)) (option_map (hash_table_part h) h.loaded) true)
      (list_all (λ (hash : HashPart). option_map_or (hash_table_fits (code_slots p) hash) hash.loaded true) (map (hash_part p home) hashes))
      (loaded_fits home h h.loaded is.0.0 is.0.1 is.0.3) (hashes_fit home hashes is.1)

  module _ (values : EachValueHasType) where
    homes_fit : (us : List UnitHome) → AreLookedUp (homes_of p) us
        → list_all (λ (hash : HashPart). option_map_or (hash_table_fits (code_slots p) hash) hash.loaded true) (flat_map (hash_parts_of p) us) ≡ true
    homes_fit [] looked = refl
    homes_fit (u ∷ us) looked =
        all_both (λ (hash : HashPart). option_map_or (hash_table_fits (code_slots p) hash) hash.loaded true) (hash_parts_of p u) (flat_map (hash_parts_of p) us)
        (hashes_fit u.home u.objects.hashes (home_objects values p typed u looked.0).0) (homes_fit us looked.1)

    hash_tables_fit : list_all (λ (hash : HashPart). option_map_or (hash_table_fits (code_slots p) hash) hash.loaded true) (hash_parts p) ≡ true
    hash_tables_fit =
        ap (λ l. list_all (λ (hash : HashPart). option_map_or (hash_table_fits (code_slots p) hash) hash.loaded true) l) (hash_parts_by_home p) ∙ homes_fit (homes_of p) (all_looked (homes_of p) (homes_apart p typed))

    -- the whole layout, where the reading fits
    whole_layout : (stage : Option ProgramParts) → reading_fits (code_slots p) stage (reading_part p p.reading) ≡ true → layout_fits (program_code p) stage ≡ true
    whole_layout stage reading =
        and_from (list_all (λ (hash : HashPart). option_map_or (hash_table_fits (code_slots p) hash) hash.loaded true) (hash_parts p))
        (reading_fits (code_slots p) stage (reading_part p p.reading) && list_all output_fits (map (output_part p) p.outputs)) hash_tables_fit
        (and_from (reading_fits (code_slots p) stage (reading_part p p.reading)) (list_all output_fits (map (output_part p) p.outputs)) reading (outputs_fit p.outputs (IsTypedUnit.outputs typed)))

  -- ---- a thread program

  module _ (stage : UnitTree) where
    source_is : (name : List ℕ) (ty : Ty) → type_in (data_vector stage) name ≡ Some ty → source_slot (program_slots stage) name ≡ slot_of_global stage None (Named name)
    source_is name ty e =
        let it = slot_numbered stage None (Named name) ty e in
        ap (λ o. unwrap_or o 0) (slot_at_number stage (located None (Named name)) it.0 it.1 ∙ sym it.1)

    source_type : (name : List ℕ) (ty : Ty) → type_in (data_vector stage) name ≡ Some ty → slot_type (code_slots stage) (source_slot (program_slots stage) name) ≡ Some ty
    source_type name ty e = ap (λ n. slot_type (code_slots stage) n) (source_is name ty e) ∙ slot_has_type stage None (Named name) ty e

    types_join : (columns : List OutputColumn) → AreOutputColumns (data_vector stage) columns → AreVariables (data_vector p) (map (λ (c : OutputColumn). column_of c) columns)
        → types_fit (code_slots p) (map (λ (c : List ℕ × ℕ). slot_type (code_slots stage) c.1) (map (λ (c : OutputColumn). (c.name, source_slot (program_slots stage) c.source)) columns))
        (map (λ (c : Column). slot_of_global p None (Named c.name)) (map (λ (c : OutputColumn). column_of c) columns)) ≡ true
    types_join [] made is = refl
    types_join (c ∷ columns) made is =
        and_from (joins_to_slot (slot_type (code_slots stage) (source_slot (program_slots stage) c.source)) (slot_type (code_slots p) (slot_of_global p None (Named c.name))))
        (types_fit (code_slots p) (map (λ (x : List ℕ × ℕ). slot_type (code_slots stage) x.1) (map (λ (x : OutputColumn). (x.name, source_slot (program_slots stage) x.source)) columns))
        (map (λ (x : Column). slot_of_global p None (Named x.name)) (map (λ (x : OutputColumn). column_of x) columns)))
        (ap (λ o. joins_to_slot o (slot_type (code_slots p) (slot_of_global p None (Named c.name)))) (source_type c.source c.ty made.0) ∙ variable_joined c.name is.0.0 c.ty is.0.1 is.0.2)
        (types_join columns made.1 is.1)

    one_fits : (columns : Columns) (outputs : List OutputTable) → AreStageColumns columns outputs → AreTypedOutputs (data_vector stage) outputs → AreVariables (data_vector p) columns
        → one_output_fits (code_slots p) (code_slots stage) (map (output_part stage) outputs) (map (λ (c : Column). slot_of_global p None (Named c.name)) columns) ≡ true
    one_fits columns [] same made is = absurd same
    one_fits columns (o ∷ []) same made is =
        subst (λ (cs : Columns). one_output_fits (code_slots p) (code_slots stage) (map (output_part stage) (o ∷ [])) (map (λ (c : Column). slot_of_global p None (Named c.name)) cs) ≡ true) (sym same)
        (types_join o.columns made.2 (subst (λ (cs : Columns). AreVariables (data_vector p) cs) same is))
    one_fits columns (o ∷ other ∷ outputs) same made is = absurd same

    stage_layout : (reading : Reading) → ReadsStage reading → IsTypedReading (data_vector p) reading → AreStageColumns (stage_columns reading) stage.outputs → AreTypedOutputs (data_vector stage) stage.outputs
        → reading_fits (code_slots p) (Some (program_code stage)) (reading_part p reading) ≡ true
    stage_layout read.Nothing reads is same made = absurd reads
    stage_layout read.Once reads is same made = absurd reads
    stage_layout (read.Set inputs bys) reads is same made = absurd reads
    stage_layout (read.Merge inputs bys retains) reads is same made = absurd reads
    stage_layout (read.From instance workers columns) reads is same made = one_fits columns stage.outputs same made is.2

pub typed_layouts_fit : EachValueHasType → TypedLayoutsFit
typed_layouts_fit values = record {
  over_tables = λ p typed none.
      whole_layout p typed values None (tables_layout p typed p.reading none typed.reading (λ name e. ap flag_type e) (λ name e. ap flag_type e) (λ name e. ap flag_type e));
  over_stage = λ p stage typed made fits.
      whole_layout p typed values (Some (program_code stage)) (stage_layout p typed stage p.reading fits.0 typed.reading fits.2 (IsTypedUnit.outputs made));
}
