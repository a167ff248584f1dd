-- Each group of a thread program begins with a load that sets all columns and flags.
use Rattle.std.proofs.Common.{◌≡◌, ℕ, zero, suc, ◌-◌, ◌≤◌, Bool, true, false, List, [], ◌∷◌, length, map, drop, slice_get, Option, Some, None, refl, sym, ap, ◌∙◌, subst, arith}
use Rattle.std.specs.List.{AllByRecursion}
use Rattle.std.specs.Prelude.{pos}
use Rattle.std.proofs.lemmas.Bool.{true≢false}
use Rattle.ds2_value.specs.Row.{Row, Columns}
use Rattle.ds2_value.specs.Schema.{row_fits}
use Rattle.ds2_value.specs.declared.value.Value.{Value}
use Rattle.ds2_value.specs.declared.value.Value.TheVariants.{Int}
use Rattle.ds2_table.specs.Loads.{KeyedLoad, next_key, flagged, keyed_load, set_load, input_rows, in_by_order, each_once, keys_of_rows, loads_of_keys, group_with_key, group_keys, groups}
use Rattle.ds2_meaning.specs.declared.globals.Variable.{Variable}
use Rattle.ds2_meaning.specs.declared.location.Global.{Global}
use Rattle.ds2_meaning.specs.declared.location.Global.TheVariants.{Named, First, Last, Present, Parameter}
use Rattle.ds2_meaning.specs.declared.readings.ByVariable.{ByVariable}
use Rattle.ds2_meaning.specs.declared.readings.Input.{Input}
use Rattle.ds2_meaning.specs.declared.readings.Reading.{Reading}
use Rattle.ds2_meaning.specs.declared.readings.Reading.TheVariants.{Nothing, Once, Set, Merge, From}
use Rattle.ds2_meaning.specs.IsTyped.{is_by, MergesBy}
use Rattle.ds2_meaning.specs.Location.{Home, Storage, Holds}
use Rattle.ds2_meaning.specs.ProgramTree.{UnitTree, data_vector}
use Rattle.ds2_meaning.specs.Reading.{TableRows, Settings, InputTables, inputs_of, bys_of, input_tables, value_under, key_in, keys_in, descending_of, keyed_loads, settings_in, settings_of, row_settings, with_settings, stage_columns}
use Rattle.ds2_locality.specs.Deeds.{global_at}
use Rattle.ds2_locality.specs.Independence.{LocatedLoad, located, settings_at, loads_of_tables, located_group, thread_groups, IsTableGroup, IsRowGroup, IsGroupOfReading}
use Rattle.ds2_locality.specs.KeptLocations.{is_column_or_flag, seen_at, bys_from, is_first_of_by}
use Rattle.ds2_locality.specs.Verdict.{JudgedThread, coarsest}
use Rattle.ds2_locality.proofs.Loading.{own_load, read_back, Sets, first_at, One, set_whole, merge_whole, stage_whole, statement_ones}
use Rattle.ds2_locality.proofs.Opening.{map_length, Proper, Opens, beside_length, next_length, Heads, first_opens, set_loads_proper, merge_loads_proper}
use Rattle.ds2_locality.proofs.SameGroups.{BeginsGroup, StartsSo}
use Rattle.ds2_locality.proofs.SameUnits.{IsOwnLoad}

-- ---- lists

all_at : {A : Type 0} (P : A → Type 0) (xs : List A) (g : ℕ) (y : A) → AllByRecursion P xs → slice_get xs g ≡ Some y → P y
all_at P [] g y h e = absurd cc
all_at P (x ∷ xs) zero y h e = let same : x ≡ y = cc in subst P same h.0
all_at P (x ∷ xs) (suc g) y h e = all_at P xs g y h.1 e

heads_to : (P Q : KeyedLoad → Type 0) → ((l : KeyedLoad) → P l → Q l) → (ls : List KeyedLoad) → Heads P ls → Heads Q ls
heads_to P Q f [] h = tt
heads_to P Q f (l ∷ ls) h = f l h

heads_any : (P : KeyedLoad → Type 0) → ((l : KeyedLoad) → P l) → (ls : List KeyedLoad) → Heads P ls
heads_any P f [] = tt
heads_any P f (l ∷ ls) = f l

-- ---- how many values and flags a load has

keys_of_input : (bys : List ByVariable) (columns : Columns) (rows : List Row) → AllByRecursion (λ (key : List Value). length key ≡ length bys) (map (key_in bys columns) rows)
keys_of_input bys columns [] = tt
keys_of_input bys columns (row ∷ rows) = (map_length (λ (by : ByVariable). value_under by.name columns row) bys, keys_of_input bys columns rows)

keys_all : (bys : List ByVariable) (inputs : List Input) (tables : InputTables) → AllByRecursion (λ (keys : List (List Value)). AllByRecursion (λ (key : List Value). length key ≡ length bys) keys) (keys_in bys inputs tables)
keys_all bys [] tables = tt
keys_all bys (input ∷ inputs) [] = tt
keys_all bys (input ∷ inputs) (rows ∷ tables) = (keys_of_input bys input.columns rows, keys_all bys inputs tables)

keys_count : (bys : List ByVariable) (inputs : List Input) (tables : TableRows) → length (keys_in bys inputs (input_tables tables inputs)) ≡ length inputs
keys_count bys [] tables = refl
keys_count bys (input ∷ inputs) tables = ap suc (keys_count bys inputs tables)

-- a load with its flags
pub record Flagged (n tables : ℕ) (l : KeyedLoad) : Type 0 where
  pub present : length l.load.present ≡ tables
  pub firsts : length l.load.first ≡ n
  pub lasts : length l.load.last ≡ n

flagged_lengths : (n tables : ℕ) (previous : Option (List Value)) (ls : List KeyedLoad) → AllByRecursion (Proper n tables) ls → ((q : List Value) → previous ≡ Some q → length q ≡ n) → AllByRecursion (Flagged n tables) (flagged previous ls)
flagged_lengths n tables previous [] h f = tt
flagged_lengths n tables previous (l ∷ ls) h f = (
  record { present = h.0.present; firsts = beside_length n previous l.key f h.0.keys; lasts = beside_length n (next_key ls) l.key (next_length n tables ls h.1) h.0.keys },
  flagged_lengths n tables (Some l.key) ls h.1 (λ q e. let same : l.key ≡ q = cc in ap length (sym same) ∙ h.0.keys),
)

-- ---- the first load of a group, by its settings

-- settings of a first load
pub record Begins (r : Reading) (grain : ℕ) (settings : Settings) : Type 0 where
  pub whole : (home : Home) (g : Global) → is_column_or_flag r home g ≡ true → Sets (global_at home g) settings
  pub ones : (name : List ℕ) → is_by (bys_from grain r) name ≡ true → (c : Storage) → One (with_settings settings c (first_at name))

less_one : (p : ℕ) → suc p - 1 ≡ p
less_one p = omega arith

set_begins : (variables : List Variable) (inputs : List Input) (bys : List ByVariable) (tables : InputTables) (n p : ℕ) (l : KeyedLoad) → n ≡ length inputs → Opens (length bys) n p l
    → Begins (Set inputs bys) (suc p) (settings_in variables inputs bys false tables l.load)
set_begins variables inputs bys tables n p l e o = record {
  whole = set_whole variables inputs bys tables l.load (o.present ∙ e) o.firsts o.lasts;
  ones = λ name is c. statement_ones variables inputs bys false tables l.load (o.present ∙ e) o.firsts o.lasts p name o.ones (subst (λ k. is_by (drop k bys) name ≡ true) (less_one p) is) c;
}

merge_begins : (variables : List Variable) (inputs : List Input) (bys : List ByVariable) (retains : Bool) (tables : InputTables) (n p : ℕ) (l : KeyedLoad) → n ≡ length inputs → Opens (length bys) n p l
    → Begins (Merge inputs bys retains) (suc p) (settings_in variables inputs bys retains tables l.load)
merge_begins variables inputs bys retains tables n p l e o = record {
  whole = merge_whole variables inputs bys retains tables l.load (o.present ∙ e) o.firsts o.lasts o.fresh;
  ones = λ name is c. statement_ones variables inputs bys retains tables l.load (o.present ∙ e) o.firsts o.lasts p name o.ones (subst (λ k. is_by (drop k bys) name ≡ true) (less_one p) is) c;
}

alone_begins : (variables : List Variable) (inputs : List Input) (tables : InputTables) (n : ℕ) (l : KeyedLoad) → n ≡ length inputs → Flagged zero n l → Begins (Set inputs []) zero (settings_in variables inputs [] false tables l.load)
alone_begins variables inputs tables n l e f = record {
  whole = set_whole variables inputs [] tables l.load (f.present ∙ e) f.firsts f.lasts;
  ones = λ name is c. absurd (true≢false (sym is));
}

once_sets_nothing : (home : Home) (g : Global) → is_column_or_flag Once home g ≡ true → Sets (global_at home g) []
once_sets_nothing None (Named name) h = absurd (true≢false (sym h))
once_sets_nothing None (First name) h = absurd (true≢false (sym h))
once_sets_nothing None (Last name) h = absurd (true≢false (sym h))
once_sets_nothing None (Present name) h = absurd (true≢false (sym h))
once_sets_nothing None (Parameter name) h = absurd (true≢false (sym h))
once_sets_nothing (Some instance) g h = absurd (true≢false (sym h))

no_by : (k : ℕ) (name : List ℕ) → is_by (drop k []) name ≡ true → ⊥
no_by zero name h = true≢false (sym h)
no_by (suc k) name h = true≢false (sym h)

once_begins : (grain : ℕ) → Begins Once grain []
once_begins grain = record { whole = once_sets_nothing; ones = λ name is c. absurd (no_by (grain - 1) name is) }

stage_begins : (variables : List Variable) (instance : List ℕ) (workers : ℕ) (columns : Columns) (row : Row) (grain : ℕ) → row_fits row columns ≡ true → Begins (From instance workers columns) grain (row_settings variables columns row)
stage_begins variables instance workers columns row grain fit = record {
  whole = stage_whole variables instance workers columns row fit;
  ones = λ name is c. absurd (no_by (grain - 1) name is);
}

-- ---- by the reading statement

abbrev BeginsAt : List Variable → Reading → TableRows → ℕ → KeyedLoad → Type 0
BeginsAt variables r tables grain l = Begins r grain (settings_of variables r (input_tables tables (inputs_of r)) l.load)

reading_heads : (variables : List Variable) (r : Reading) (tables : TableRows) (p : ℕ) (key : List Value)
    → Heads (BeginsAt variables r tables (suc p)) (group_with_key (suc p) key (keyed_loads r (input_tables tables (inputs_of r))))
reading_heads variables Nothing tables p key = tt
reading_heads variables Once tables p key = heads_any (BeginsAt variables Once tables (suc p)) (λ l. once_begins (suc p)) (group_with_key (suc p) key (keyed_load [] [] [] ∷ []))
reading_heads variables (Set inputs bys) tables p key =
    let rows = input_tables tables inputs in
    let keys = keys_in bys inputs rows in
    let raw = map (set_load (length keys)) (in_by_order (descending_of bys) (input_rows 0 keys)) in
    heads_to (Opens (length bys) (length keys) p) (BeginsAt variables (Set inputs bys) tables (suc p)) (λ l o. set_begins variables inputs bys rows (length keys) p l (keys_count bys inputs tables) o)
    (group_with_key (suc p) key (flagged None raw))
    (first_opens (length bys) (length keys) p key None raw (set_loads_proper (length bys) (descending_of bys) keys (keys_all bys inputs rows)) tt)
reading_heads variables (Merge inputs bys retains) tables p key =
    let rows = input_tables tables inputs in
    let keys = keys_in bys inputs rows in
    let raw = loads_of_keys (length keys) (input_rows 0 keys) (each_once [] (keys_of_rows (in_by_order (descending_of bys) (input_rows 0 keys)))) in
    heads_to (Opens (length bys) (length keys) p) (BeginsAt variables (Merge inputs bys retains) tables (suc p)) (λ l o. merge_begins variables inputs bys retains rows (length keys) p l (keys_count bys inputs tables) o)
    (group_with_key (suc p) key (flagged None raw))
    (first_opens (length bys) (length keys) p key None raw (merge_loads_proper (length bys) (descending_of bys) keys (keys_all bys inputs rows)) tt)
reading_heads variables (From instance workers columns) tables p key = tt

all_begin : (variables : List Variable) (inputs : List Input) (tables : TableRows) (n : ℕ) (ls : List KeyedLoad) → n ≡ length inputs → AllByRecursion (Flagged zero n) ls → AllByRecursion (BeginsAt variables (Set inputs []) tables zero) ls
all_begin variables inputs tables n [] e h = tt
all_begin variables inputs tables n (l ∷ ls) e h = (alone_begins variables inputs (input_tables tables inputs) n l e h.0, all_begin variables inputs tables n ls e h.1)

reading_alone : (variables : List Variable) (r : Reading) (tables : TableRows) → coarsest (length (bys_of r)) ≤ zero → MergesBy r → AllByRecursion (BeginsAt variables r tables zero) (keyed_loads r (input_tables tables (inputs_of r)))
reading_alone variables Nothing tables few merges = tt
reading_alone variables Once tables few merges = (once_begins zero, tt)
reading_alone variables (Set inputs []) tables few merges =
    let rows = input_tables tables inputs in
    let keys = keys_in [] inputs rows in
    let raw = map (set_load (length keys)) (in_by_order [] (input_rows 0 keys)) in
    all_begin variables inputs tables (length keys) (flagged None raw) (keys_count [] inputs tables)
    (flagged_lengths zero (length keys) None raw (set_loads_proper zero [] keys (keys_all [] inputs rows)) (λ q e. absurd cc))
reading_alone variables (Set inputs (by ∷ bys)) tables few merges = absurd (omega (arith, few))
reading_alone variables (Merge inputs [] retains) tables few merges = absurd merges
reading_alone variables (Merge inputs (by ∷ bys) retains) tables few merges = absurd (omega (arith, few))
reading_alone variables (From instance workers columns) tables few merges = tt

-- ---- the groups of a thread program

module _ (t : JudgedThread) where
  abbrev p : UnitTree
  p = t.program

  first_one : (grain : ℕ) (settings : Settings) → Begins p.reading grain settings → (home : Home) (g : Global) → is_first_of_by (bys_from grain p.reading) home g ≡ true → (c : Storage)
      → seen_at p (global_at home g) (with_settings (settings_at (located settings)) c (global_at home g)) ≡ Holds (Int (pos 1))
  first_one grain settings b None (First name) h c =
      ap (λ (s : Settings). seen_at p (first_at name) (with_settings s c (first_at name))) (read_back settings) ∙ ap (seen_at p (first_at name)) (b.ones name h c)
  first_one grain settings b None (Named name) h c = absurd (true≢false (sym h))
  first_one grain settings b None (Last name) h c = absurd (true≢false (sym h))
  first_one grain settings b None (Present name) h c = absurd (true≢false (sym h))
  first_one grain settings b None (Parameter name) h c = absurd (true≢false (sym h))
  first_one grain settings b (Some instance) g h c = absurd (true≢false (sym h))

  begins_group : (grain : ℕ) (settings : Settings) → Begins p.reading grain settings → BeginsGroup t grain (located settings)
  begins_group grain settings b = record {
    whole = λ at h. b.whole at.home at.global h;
    ones = λ at h c. first_one grain settings b at.home at.global h c;
  }

  abbrev settings_by : TableRows → KeyedLoad → Settings
  settings_by tables l = settings_of (data_vector p) p.reading (input_tables tables (inputs_of p.reading)) l.load

  head_begins : (grain : ℕ) (tables : TableRows) (group : List KeyedLoad) → Heads (BeginsAt (data_vector p) p.reading tables grain) group → StartsSo t grain (located_group p tables group)
  head_begins grain tables [] h = tt
  head_begins grain tables (l ∷ ls) h = begins_group grain (settings_by tables l) h

  single_groups : (tables : TableRows) (loads : List KeyedLoad) → AllByRecursion (BeginsAt (data_vector p) p.reading tables zero) loads
      → AllByRecursion (StartsSo t zero) (map (located_group p tables) (map (λ (l : KeyedLoad). l ∷ []) loads))
  single_groups tables [] h = tt
  single_groups tables (l ∷ ls) h = (begins_group zero (settings_by tables l) h.0, single_groups tables ls h.1)

  keyed_groups : (tables : TableRows) (k : ℕ) (keys : List (List Value))
      → AllByRecursion (StartsSo t (suc k)) (map (located_group p tables) (map (λ (key : List Value). group_with_key (suc k) key (loads_of_tables p tables)) keys))
  keyed_groups tables k [] = tt
  keyed_groups tables k (key ∷ keys) =
      (head_begins (suc k) tables (group_with_key (suc k) key (loads_of_tables p tables)) (reading_heads (data_vector p) p.reading tables k key), keyed_groups tables k keys)

  all_groups : (tables : TableRows) (grain : ℕ) → coarsest (length (bys_of p.reading)) ≤ grain → MergesBy p.reading → AllByRecursion (StartsSo t grain) (thread_groups p tables grain)
  all_groups tables zero few merges = single_groups tables (loads_of_tables p tables) (reading_alone (data_vector p) p.reading tables few merges)
  all_groups tables (suc k) few merges = keyed_groups tables k (group_keys (suc k) (loads_of_tables p tables))

  own_group : (tables : TableRows) (group : List KeyedLoad) → AllByRecursion IsOwnLoad (located_group p tables group)
  own_group tables [] = tt
  own_group tables (l ∷ ls) = (own_load (settings_by tables l), own_group tables ls)

  own_groups : (tables : TableRows) (gs : List (List KeyedLoad)) → AllByRecursion (λ (ls : List LocatedLoad). AllByRecursion IsOwnLoad ls) (map (located_group p tables) gs)
  own_groups tables [] = tt
  own_groups tables (g ∷ gs) = (own_group tables g, own_groups tables gs)

  -- what is known of a group
  abbrev pub Fair : ℕ → List LocatedLoad → Type 0
  Fair grain loads = StartsSo t grain loads × AllByRecursion IsOwnLoad loads

  table_group : (grain : ℕ) (loads : List LocatedLoad) → coarsest (length (bys_of p.reading)) ≤ grain → MergesBy p.reading → IsTableGroup p grain loads → Fair grain loads
  table_group grain loads few merges g = (
    all_at (StartsSo t grain) (thread_groups p g.tables grain) g.among.0 loads (all_groups g.tables grain few merges) g.among.1,
    all_at (λ (ls : List LocatedLoad). AllByRecursion IsOwnLoad ls) (thread_groups p g.tables grain) g.among.0 loads (own_groups g.tables (groups grain (loads_of_tables p g.tables))) g.among.1,
  )

  row_group : (grain : ℕ) (loads : List LocatedLoad) (instance : List ℕ) (workers : ℕ) (columns : Columns) → From instance workers columns ≡ p.reading → IsRowGroup p loads → Fair grain loads
  row_group grain loads instance workers columns e g =
      let settings = row_settings (data_vector p) (stage_columns p.reading) g.row in
      let begins : Begins p.reading grain settings =
      subst (λ (r : Reading). row_fits g.row (stage_columns r) ≡ true → Begins r grain (row_settings (data_vector p) (stage_columns r) g.row)) e (λ fit. stage_begins (data_vector p) instance workers columns g.row grain fit) g.fits in
      subst (Fair grain) (sym g.is) (begins_group grain settings begins, (own_load settings, tt))

  fair_by : (r : Reading) (grain : ℕ) (loads : List LocatedLoad) → r ≡ p.reading → coarsest (length (bys_of p.reading)) ≤ grain → MergesBy p.reading → IsGroupOfReading r p grain loads → Fair grain loads
  fair_by Nothing grain loads e few merges g = table_group grain loads few merges g
  fair_by Once grain loads e few merges g = table_group grain loads few merges g
  fair_by (Set inputs bys) grain loads e few merges g = table_group grain loads few merges g
  fair_by (Merge inputs bys retains) grain loads e few merges g = table_group grain loads few merges g
  fair_by (From instance workers columns) grain loads e few merges g = row_group grain loads instance workers columns e g

  -- a group begins as it should, and sets the program's own locations
  pub group_is_fair : (grain : ℕ) (loads : List LocatedLoad) → coarsest (length (bys_of p.reading)) ≤ grain → MergesBy p.reading → IsGroupOfReading p.reading p grain loads → Fair grain loads
  group_is_fair grain loads few merges g = fair_by p.reading grain loads refl few merges g
