-- The fixed locations hold after a group what they held before.
use Rattle.std.proofs.Common.{◌≡◌, ℕ, zero, suc, Bool, true, false, not, ◌||◌, List, [], ◌∷◌, ◌++◌, map, slice_get, bytes_eq, length, Option, Some, None, refl, sym, ap, ◌∙◌, subst, if◌then◌else◌}
use Rattle.std.specs.List.{AllByRecursion, list_any, range_with_len}
use Rattle.std.proofs.lemmas.Bool.{true≢false, and_parts, not-true}
use Rattle.std.proofs.lemmas.Slice.Eq.{bytes_eq-Decides}
use Rattle.ds2_value.specs.Progress.{UnitOutcome, Completed, Interrupted, Strayed}
use Rattle.ds2_value.specs.Row.{Row, Columns}
use Rattle.ds2_value.specs.Run.{Event}
use Rattle.ds2_value.specs.Schema.{has_column}
use Rattle.ds2_value.specs.declared.schema.Column.{Column}
use Rattle.ds2_value.specs.declared.value.Value.{Value}
use Rattle.ds2_value.specs.declared.value.Value.TheVariants.{Null}
use Rattle.ds2_table.specs.Loads.{Load, KeyedLoad, groups}
use Rattle.ds2_schedule.specs.Groups.{UnitRun, Normally, ByFault, with_before, then_from, run_loads}
use Rattle.ds2_meaning.specs.declared.globals.Variable.{Variable}
use Rattle.ds2_meaning.specs.declared.location.Global.{Global}
use Rattle.ds2_meaning.specs.declared.location.Global.TheVariants.{Named, First, Last, Present}
use Rattle.ds2_meaning.specs.declared.readings.ByVariable.{ByVariable}
use Rattle.ds2_meaning.specs.declared.readings.Input.{Input}
use Rattle.ds2_meaning.specs.declared.readings.Reading.{Reading}
use Rattle.ds2_meaning.specs.declared.readings.Reading.TheVariants.{Nothing, Once, Set, Merge, From}
use Rattle.ds2_meaning.specs.Execution.{write_each}
use Rattle.ds2_meaning.specs.IsTyped.{is_by, is_flag_of, is_present, IsTypedUnit}
use Rattle.ds2_meaning.specs.Location.{Location, is_same_location, Content, Storage, Holds, with_content}
use Rattle.ds2_meaning.specs.ProgramMeaning.{carry_out, unit_end, unit_state, implicit_output, is_cleared_at, with_cleared}
use Rattle.ds2_meaning.specs.ProgramTree.{UnitTree, data_vector, output_sources, program_has_output}
use Rattle.ds2_meaning.specs.Reading.{Settings, InputTables, nulls, all_nulls, row_settings, settings_of_row, row_numbered, tables_settings, present_setting, present_settings, by_settings, settings_in, settings_of, with_settings, input_tables, inputs_of, stage_columns}
use Rattle.ds2_meaning.specs.RunState.{RunState, StatementOutcome, Proceeds, Leaves, Continues, Returns, Faults}
use Rattle.ds2_locality.specs.Deeds.{global_at, run_can_change}
use Rattle.ds2_locality.specs.Independence.{UnitsGave, unit_ended, LocatedLoad, located, settings_at, located_units, seen_way, thread_stage, loads_of_tables, located_group, IsTableGroup, IsGroupOfReading, is_fixed, LeavesFixed, RunLeavesFixed}
use Rattle.ds2_locality.specs.KeptLocations.{is_column_or_flag, is_kept, seen_at}
use Rattle.ds2_locality.proofs.Frame.{location_is, ObjectsSeen, each_written_has}
use Rattle.ds2_locality.proofs.Kept.{KeptBy, run_allowed, system_kept}
use Rattle.ds2_locality.proofs.Objects.{objects_are_seen}

-- ---- lists

all_of_two : {A : Type 0} (P : A → Type 0) (xs ys : List A) → AllByRecursion P xs → AllByRecursion P ys → AllByRecursion P (xs ++ ys)
all_of_two P [] ys g h = h
all_of_two P (x ∷ xs) ys g h = (g.0, all_of_two P xs ys g.1 h)

mapped_at : {A B : Type 0} (f : A → B) (xs : List A) (g : ℕ) (y : B) → slice_get (map f xs) g ≡ Some y → (z : A) × (f z ≡ y)
mapped_at f [] g y e = absurd cc
mapped_at f (x ∷ xs) zero y e = (x, cc)
mapped_at f (x ∷ xs) (suc g) y e = mapped_at f xs g y e

or_left : (a b : Bool) → a ≡ true → (a || b) ≡ true
or_left true b e = refl
or_left false b e = absurd (true≢false (sym e))

or_right : (a b : Bool) → b ≡ true → (a || b) ≡ true
or_right true b e = refl
or_right false b e = e

then_true : (a b : Bool) → a ≡ true → (if a then true else b) ≡ true
then_true true b e = refl
then_true false b e = absurd (true≢false (sym e))

else_true : (a b : Bool) → b ≡ true → (if a then true else b) ≡ true
else_true true b e = refl
else_true false b e = e

name_self : (name : List ℕ) → bytes_eq name name ≡ true
name_self name = (bytes_eq-Decides name name).1 refl

-- ---- what a load sets

columns_named : (Q : List ℕ → Type 0) (columns : Columns) → ((name : List ℕ) → has_column name columns ≡ true → Q name) → AllByRecursion (λ (c : Column). Q c.name) columns
columns_named Q [] f = tt
columns_named Q (c ∷ columns) f = (
  f c.name (or_left (bytes_eq c.name c.name) (has_column c.name columns) (name_self c.name)),
  columns_named Q columns (λ name h. f name (or_right (bytes_eq c.name name) (has_column name columns) h)),
)

abbrev column_of_any : List Input → List ℕ → Bool
column_of_any inputs name = list_any (λ (input : Input). has_column name input.columns) inputs

inputs_named : (Q : List ℕ → Type 0) (inputs : List Input) → ((name : List ℕ) → column_of_any inputs name ≡ true → Q name)
    → AllByRecursion (λ (input : Input). AllByRecursion (λ (c : Column). Q c.name) input.columns) inputs
inputs_named Q [] f = tt
inputs_named Q (input ∷ inputs) f = (
  columns_named Q input.columns (λ name h. f name (or_left (has_column name input.columns) (column_of_any inputs name) h)),
  inputs_named Q inputs (λ name h. f name (or_right (has_column name input.columns) (column_of_any inputs name) h)),
)

bys_named : (Q : List ℕ → Type 0) (bys : List ByVariable) → ((name : List ℕ) → is_by bys name ≡ true → Q name) → AllByRecursion (λ (by : ByVariable). Q by.name) bys
bys_named Q [] f = tt
bys_named Q (by ∷ bys) f = (
  f by.name (then_true (bytes_eq by.name by.name) (is_by bys by.name) (name_self by.name)),
  bys_named Q bys (λ name h. f name (else_true (bytes_eq by.name name) (is_by bys name) h)),
)

abbrev PresentIs : (List ℕ → Type 0) → Option (List ℕ) → Type 0
PresentIs Q None = Unit {0}
PresentIs Q (Some name) = Q name

present_named : (Q : List ℕ → Type 0) (inputs : List Input) → ((name : List ℕ) → is_present inputs name ≡ true → Q name) → AllByRecursion (λ (input : Input). PresentIs Q input.present) inputs
present_named Q [] f = tt
present_named Q (input ∷ inputs) f =
    (here input.present (λ name h. f name h), present_named Q inputs (λ name h. f name (else_true (is_flag_of input.present name) (is_present inputs name) h)))
  where
    here : (o : Option (List ℕ)) → ((name : List ℕ) → (if is_flag_of o name then true else is_present inputs name) ≡ true → Q name) → PresentIs Q o
    here None g = tt
    here (Some name) g = g name (then_true (bytes_eq name name) (is_present inputs name) (name_self name))

module _ (P : Global → Type 0) where
  abbrev Sets : Settings → Type 0
  Sets settings = AllByRecursion (λ (set : Global × Value). P set.0) settings

  abbrev NamedOf : Columns → Type 0
  NamedOf columns = AllByRecursion (λ (c : Column). P (Named c.name)) columns

  nulls_set : (columns : Columns) → NamedOf columns → Sets (nulls columns)
  nulls_set [] h = tt
  nulls_set (c ∷ columns) h = (h.0, nulls_set columns h.1)

  all_nulls_set : (inputs : List Input) → AllByRecursion (λ (input : Input). NamedOf input.columns) inputs → Sets (all_nulls inputs)
  all_nulls_set [] h = tt
  all_nulls_set (input ∷ inputs) h = all_of_two (λ (set : Global × Value). P set.0) (nulls input.columns) (all_nulls inputs) (nulls_set input.columns h.0) (all_nulls_set inputs h.1)

  row_sets : (variables : List Variable) (columns : Columns) (row : Row) → NamedOf columns → Sets (row_settings variables columns row)
  row_sets variables [] row h = tt
  row_sets variables (c ∷ columns) [] h = tt
  row_sets variables (c ∷ columns) (v ∷ row) h = (h.0, row_sets variables columns row h.1)

  some_row_sets : (variables : List Variable) (columns : Columns) (o : Option Row) → NamedOf columns → Sets (settings_of_row variables columns o)
  some_row_sets variables columns None h = tt
  some_row_sets variables columns (Some row) h = row_sets variables columns row h

  tables_set : (variables : List Variable) (inputs : List Input) (tables : InputTables) (numbers : List (Option ℕ)) → AllByRecursion (λ (input : Input). NamedOf input.columns) inputs
      → Sets (tables_settings variables inputs tables numbers)
  tables_set variables [] tables numbers h = tt
  tables_set variables (input ∷ inputs) [] numbers h = tt
  tables_set variables (input ∷ inputs) (rows ∷ tables) [] h = tt
  tables_set variables (input ∷ inputs) (rows ∷ tables) (number ∷ numbers) h =
      all_of_two (λ (set : Global × Value). P set.0) (settings_of_row variables input.columns (row_numbered rows number)) (tables_settings variables inputs tables numbers)
      (some_row_sets variables input.columns (row_numbered rows number) h.0) (tables_set variables inputs tables numbers h.1)

  one_present_set : (o : Option (List ℕ)) (b : Bool) → PresentIs (λ name. P (Present name)) o → Sets (present_setting o b)
  one_present_set None b h = tt
  one_present_set (Some name) b h = (h, tt)

  present_set : (inputs : List Input) (present : List Bool) → AllByRecursion (λ (input : Input). PresentIs (λ name. P (Present name)) input.present) inputs → Sets (present_settings inputs present)
  present_set [] present h = tt
  present_set (input ∷ inputs) [] h = tt
  present_set (input ∷ inputs) (b ∷ present) h =
      all_of_two (λ (set : Global × Value). P set.0) (present_setting input.present b) (present_settings inputs present) (one_present_set input.present b h.0) (present_set inputs present h.1)

  by_sets : (flag : List ℕ → Global) (bys : List ByVariable) (flags : List Bool) → AllByRecursion (λ (by : ByVariable). P (flag by.name)) bys → Sets (by_settings flag bys flags)
  by_sets flag [] flags h = tt
  by_sets flag (by ∷ bys) [] h = tt
  by_sets flag (by ∷ bys) (f ∷ flags) h = (h.0, by_sets flag bys flags h.1)

  first_set : (b : Bool) (inputs : List Input) → AllByRecursion (λ (input : Input). NamedOf input.columns) inputs → Sets (if b then all_nulls inputs else [])
  first_set true inputs h = all_nulls_set inputs h
  first_set false inputs h = tt

  statement_sets : (variables : List Variable) (inputs : List Input) (bys : List ByVariable) (retains : Bool) (tables : InputTables) (load : Load)
      → AllByRecursion (λ (input : Input). NamedOf input.columns) inputs → AllByRecursion (λ (input : Input). PresentIs (λ name. P (Present name)) input.present) inputs
      → AllByRecursion (λ (by : ByVariable). P (First by.name)) bys → AllByRecursion (λ (by : ByVariable). P (Last by.name)) bys → Sets (settings_in variables inputs bys retains tables load)
  statement_sets variables inputs bys retains tables load named present firsts lasts =
      let Q : Global × Value → Type 0 = λ set. P set.0 in
      let a = if not retains || load.is_fresh then all_nulls inputs else [] in
      let b = tables_settings variables inputs tables load.rows in
      let c = present_settings inputs load.present in
      let d = by_settings First bys load.first in
      let e = by_settings Last bys load.last in
      all_of_two Q (a ++ b ++ c ++ d) e
      (all_of_two Q (a ++ b ++ c) d
      (all_of_two Q (a ++ b) c (all_of_two Q a b (first_set (not retains || load.is_fresh) inputs named) (tables_set variables inputs tables load.rows named))
      (present_set inputs load.present present))
      (by_sets First bys load.first firsts))
      (by_sets Last bys load.last lasts)

-- a load sets columns and flags of its reading statement alone
reading_sets : (variables : List Variable) (r : Reading) (tables : InputTables) (load : Load)
    → AllByRecursion (λ (set : Global × Value). is_column_or_flag r None set.0 ≡ true) (settings_of variables r tables load)
reading_sets variables Nothing tables load = tt
reading_sets variables Once tables load = tt
reading_sets variables (Set inputs bys) tables load =
    let P : Global → Type 0 = λ (g : Global). is_column_or_flag (Set inputs bys) None g ≡ true in
    statement_sets P variables inputs bys false tables load
    (inputs_named (λ name. P (Named name)) inputs (λ name h. h)) (present_named (λ name. P (Present name)) inputs (λ name h. h))
    (bys_named (λ name. P (First name)) bys (λ name h. h)) (bys_named (λ name. P (Last name)) bys (λ name h. h))
reading_sets variables (Merge inputs bys retains) tables load =
    let P : Global → Type 0 = λ (g : Global). is_column_or_flag (Merge inputs bys retains) None g ≡ true in
    statement_sets P variables inputs bys retains tables load
    (inputs_named (λ name. P (Named name)) inputs (λ name h. h)) (present_named (λ name. P (Present name)) inputs (λ name h. h))
    (bys_named (λ name. P (First name)) bys (λ name h. h)) (bys_named (λ name. P (Last name)) bys (λ name h. h))
reading_sets variables (From instance workers columns) tables load = tt

settings_back : (settings : Settings) → settings_at (located settings) ≡ settings
settings_back [] = refl
settings_back (set ∷ settings) = ap (λ rest. set ∷ rest) (settings_back settings)

-- ---- the loads of a group

module _ (p : UnitTree) where
  abbrev Own : Reading → LocatedLoad → Type 0
  Own r load = AllByRecursion (λ (set : Global × Value). is_column_or_flag r None set.0 ≡ true) (settings_at load)

  table_loads : (r : Reading) (tables : InputTables) (group : List KeyedLoad) → AllByRecursion (Own r) (map (λ (l : KeyedLoad). located (settings_of (data_vector p) r tables l.load)) group)
  table_loads r tables [] = tt
  table_loads r tables (l ∷ group) = (
    subst (λ settings. AllByRecursion (λ (set : Global × Value). is_column_or_flag r None set.0 ≡ true) settings) (sym (settings_back (settings_of (data_vector p) r tables l.load)))
        (reading_sets (data_vector p) r tables l.load),
    table_loads r tables group,
  )

  group_over_tables : (grain : ℕ) (loads : List LocatedLoad) → IsTableGroup p grain loads → AllByRecursion (Own p.reading) loads
  group_over_tables grain loads g =
      let found = mapped_at (located_group p g.tables) (groups grain (loads_of_tables p g.tables)) g.among.0 loads g.among.1 in
      subst (AllByRecursion (Own p.reading)) found.1 (table_loads p.reading (input_tables g.tables (inputs_of p.reading)) found.0)

  row_group : (r : Reading) (loads : List LocatedLoad) (row : Row) → r ≡ p.reading → loads ≡ located (row_settings (data_vector p) (stage_columns r) row) ∷ [] → AllByRecursion (Own r) loads
  row_group r loads row same is =
      subst (AllByRecursion (Own r)) (sym is) (
        subst (λ settings. AllByRecursion (λ (set : Global × Value). is_column_or_flag r None set.0 ≡ true) settings) (sym (settings_back (row_settings (data_vector p) (stage_columns r) row)))
            (row_sets (λ (g : Global). is_column_or_flag r None g ≡ true) (data_vector p) (stage_columns r) row (columns_named (λ name. is_column_or_flag r None (Named name) ≡ true) (stage_columns r) (stage_named r))),
        tt,
      )
    where
      stage_named : (r : Reading) (name : List ℕ) → has_column name (stage_columns r) ≡ true → is_column_or_flag r None (Named name) ≡ true
      stage_named Nothing name h = absurd (true≢false (sym h))
      stage_named Once name h = absurd (true≢false (sym h))
      stage_named (Set inputs bys) name h = absurd (true≢false (sym h))
      stage_named (Merge inputs bys retains) name h = absurd (true≢false (sym h))
      stage_named (From instance workers columns) name h = h

  group_loads_by : (r : Reading) (grain : ℕ) (loads : List LocatedLoad) → r ≡ p.reading → IsGroupOfReading r p grain loads → AllByRecursion (Own p.reading) loads
  group_loads_by Nothing grain loads e g = group_over_tables grain loads g
  group_loads_by Once grain loads e g = group_over_tables grain loads g
  group_loads_by (Set inputs bys) grain loads e g = group_over_tables grain loads g
  group_loads_by (Merge inputs bys retains) grain loads e g = group_over_tables grain loads g
  group_loads_by (From instance workers columns) grain loads e g = row_group p.reading loads g.row refl g.is

  pub group_loads : (grain : ℕ) (loads : List LocatedLoad) → IsGroupOfReading p.reading p grain loads → AllByRecursion (Own p.reading) loads
  group_loads grain loads g = group_loads_by p.reading grain loads refl g

-- ---- a fixed location

module _ (p : UnitTree) (typed : IsTypedUnit p) (x : Location) (kept : is_kept p x ≡ true) (still : run_can_change p x ≡ false) (old : Content) where
  seen : ObjectsSeen p
  seen = objects_are_seen p typed

  not_set : is_column_or_flag p.reading x.home x.global ≡ false
  not_set = not-true (is_column_or_flag p.reading x.home x.global) (and_parts (not (is_column_or_flag p.reading x.home x.global)) (not (is_cleared_at p x.home x.global)) kept).0

  not_cleared : is_cleared_at p x.home x.global ≡ false
  not_cleared = not-true (is_cleared_at p x.home x.global) (and_parts (not (is_column_or_flag p.reading x.home x.global)) (not (is_cleared_at p x.home x.global)) kept).1

  other_than : (b : Bool) (g : Global) → is_same_location x (global_at None g) ≡ b → is_column_or_flag p.reading None g ≡ true → b ≡ false
  other_than true g e own = absurd (true≢false (sym own ∙ sym (ap (λ (z : Location). is_column_or_flag p.reading z.home z.global) (location_is x (global_at None g) e)) ∙ not_set))
  other_than false g e own = refl

  settings_keep : (settings : Settings) (before : Storage) → AllByRecursion (λ (set : Global × Value). is_column_or_flag p.reading None set.0 ≡ true) settings → with_settings settings before x ≡ before x
  settings_keep [] before h = refl
  settings_keep (set ∷ settings) before h =
      settings_keep settings (with_content (global_at None set.0) (Holds set.1) before) h.1
      ∙ ap (λ (b : Bool). if b then Holds set.1 else before x) (other_than (is_same_location x (global_at None set.0)) set.0 refl h.0)

  abbrev Holding : Storage → Type 0
  Holding c = seen_at p x (c x) ≡ old

  loaded_holds : (load : LocatedLoad) (c : Storage) → Own p p.reading load → Holding c → Holding (with_settings (settings_at load) (with_cleared p c))
  loaded_holds load c own h =
      ap (seen_at p x) (settings_keep (settings_at load) (with_cleared p c) own ∙ ap (λ (b : Bool). if b then Holds Null else c x) not_cleared) ∙ h

  abbrev UnitHolds : UnitOutcome Storage → Type 0
  UnitHolds (Completed c unit n) = Holding c
  UnitHolds (Interrupted fault unit n) = Unit {0}
  UnitHolds Strayed = Unit {0}

  output_by : (b : Bool) (w : RunState) → Holding w.storage
      → Holding (if b then w else write_each None (output_sources p) (range_with_len 0 (length p.outputs)) w).storage
  output_by true w h = h
  output_by false w h = each_written_has p seen x old (λ m. Unit {0}) None (output_sources p) (range_with_len 0 (length p.outputs)) w h

  ended_holds : (o : StatementOutcome) → KeptBy p seen x old o → UnitHolds (unit_end (implicit_output p) o)
  ended_holds (Proceeds w) h = output_by (program_has_output p) w h
  ended_holds (Leaves w) h = output_by (program_has_output p) w h
  ended_holds (Continues w) h = output_by (program_has_output p) w h
  ended_holds (Returns v w) h = output_by (program_has_output p) w h
  ended_holds (Faults f w) h = tt

  unit_holds : (budget : ℕ) (load : LocatedLoad) (c : Storage) → Own p p.reading load → Holding c → UnitHolds ((located_units p budget).run load c)
  unit_holds budget load c own h =
      ended_holds (carry_out p p.run budget (with_settings (settings_at load) (with_cleared p c)))
      (system_kept p seen x old (run_allowed p x still) (unit_state budget (with_settings (settings_at load) (with_cleared p c))) (loaded_holds load c own h))

  abbrev RunHolds : UnitRun Storage (UnitsGave (List Event)) → Type 0
  RunHolds (Normally c o) = Holding c
  RunHolds (ByFault o) = Unit {0}

  ending_holds : (o : UnitOutcome Storage) → UnitHolds o → RunHolds (unit_ended seen_way o)
  ending_holds (Completed c unit n) h = h
  ending_holds (Interrupted fault unit n) h = tt
  ending_holds Strayed h = tt

  before_holds : (o : UnitsGave (List Event)) (r : UnitRun Storage (UnitsGave (List Event))) → RunHolds r → RunHolds (with_before (thread_stage p) o r)
  before_holds o (Normally c q) h = h
  before_holds o (ByFault q) h = tt

  then_holds : (r : UnitRun Storage (UnitsGave (List Event))) (go : Storage → UnitRun Storage (UnitsGave (List Event))) → RunHolds r → ((c : Storage) → Holding c → RunHolds (go c))
      → RunHolds (then_from (thread_stage p) r go)
  then_holds (Normally c o) go h k = before_holds o (go c) (k c h)
  then_holds (ByFault o) go h k = tt

  pub loads_hold : (budget : ℕ) (loads : List LocatedLoad) (c : Storage) → AllByRecursion (Own p p.reading) loads → Holding c → RunHolds (run_loads (thread_stage p) budget loads c)
  loads_hold budget [] c own h = h
  loads_hold budget (load ∷ loads) c own h =
      then_holds (unit_ended seen_way ((located_units p budget).run load c)) (run_loads (thread_stage p) budget loads)
      (ending_holds ((located_units p budget).run load c) (unit_holds budget load c own.0 h)) (λ d k. loads_hold budget loads d own.1 k)

fixed_parts : (p : UnitTree) (x : Location) → is_fixed p x ≡ true → (is_kept p x ≡ true) × (run_can_change p x ≡ false)
fixed_parts p x e =
    let parts = and_parts (is_kept p x) (not (run_can_change p x)) e in (parts.0, not-true (run_can_change p x) parts.1)

-- what a run leaves at x is what is seen there before
abbrev LeavesAt : UnitTree → Storage → Location → UnitRun Storage (UnitsGave (List Event)) → Type 0
LeavesAt p c x (Normally d o) = seen_at p x (d x) ≡ seen_at p x (c x)
LeavesAt p c x (ByFault o) = Unit {0}

left_by : (p : UnitTree) (c : Storage) (r : UnitRun Storage (UnitsGave (List Event)))
    → ((x : Location) → is_fixed p x ≡ true → LeavesAt p c x r) → LeavesFixed p c r
left_by p c (Normally d o) f = λ x e. f x e
left_by p c (ByFault o) f = tt

pub run_leaves_fixed : RunLeavesFixed
run_leaves_fixed p typed grain budget loads group c =
    left_by p c (run_loads (thread_stage p) budget loads c)
    (λ x e. let parts = fixed_parts p x e in loads_hold p typed x parts.0 parts.1 (seen_at p x (c x)) budget loads c (group_loads p grain loads group) refl)
