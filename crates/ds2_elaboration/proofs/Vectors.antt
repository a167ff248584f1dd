-- The types of the variables of a unit are in bounds, and its flags are those of its reading statement.
use Rattle.std.proofs.Common.{◌≡◌, ℕ, bytes_eq, codes, Bool, true, false, ◌||◌, List, [], ◌∷◌, map, if◌then◌else◌, Option, Some, None, refl, subst}
use Rattle.std.proofs.lemmas.Bool.{and_parts}
use Rattle.ds2_token.specs.declared.token.Token.{Token}
use Rattle.ds2_tree.specs.Globals.{Method}
use Rattle.ds2_tree.specs.declared.readings.ByVariable as source_by
use Rattle.ds2_tree.specs.declared.readings.Input as source_input
use Rattle.ds2_tree.specs.declared.readings.InputFlag.{InputFlag}
use Rattle.ds2_tree.specs.declared.readings.Reading as source_reading
use Rattle.ds2_tree.specs.declared.readings.Reading.TheVariants as read_as
use Rattle.ds2_value.specs.Row.{Columns}
use Rattle.ds2_value.specs.Schema.{types_in_bounds, distinct_names, is_schema}
use Rattle.ds2_value.specs.Types.{in_bounds, join_of, JoinTakesBoth}
use Rattle.ds2_value.specs.declared.ty.Ty.{Ty}
use Rattle.ds2_meaning.specs.declared.readings.MentionedTable.{MentionedTable}
use Rattle.ds2_meaning.specs.IsTyped.{AreInBounds, is_by, is_present}
use Rattle.ds2_meaning.specs.ProgramTree.{is_listed}
use Rattle.ds2_meaning.specs.Reading.{inputs_of, bys_of}
use Rattle.ds2_names.specs.SourceUnit.{TableColumns, spelled_name, PlacedName, placed_name, names_alone, reading_of_run, tables_of_reading, bys_of_reading, flag_names}
use Rattle.ds2_names.specs.Uses.{method_named}
use Rattle.ds2_elaboration.specs.ProgramTypes.{read_input, read_by, read_statement, reading_of_method}
use Rattle.ds2_elaboration.specs.SourceTypes.{type_of_column, ColumnTyping, Absent, Joined, Clashed, agrees_with_declared, agreed, with_table, joined_over, joined_type}
use Rattle.ds2_elaboration.proofs.Accepted.{same_item}

-- ---- columns

-- a type that is known of a column is in bounds
abbrev pub IsBoundedTyping : ColumnTyping → Type 0
IsBoundedTyping Absent = Unit {0}
IsBoundedTyping (Joined ty) = in_bounds ty ≡ true
IsBoundedTyping Clashed = Unit {0}

column_bounded_if : (b : Bool) (own : Ty) (rest : Option Ty) (ty : Ty) → in_bounds own ≡ true → (rest ≡ Some ty → in_bounds ty ≡ true)
    → (if b then Some own else rest) ≡ Some ty → in_bounds ty ≡ true
column_bounded_if true own rest ty f g h = subst (λ t. in_bounds t ≡ true) (same_item own ty h) f
column_bounded_if false own rest ty f g h = g h

pub column_bounded : (name : List ℕ) (columns : Columns) → types_in_bounds columns ≡ true → (ty : Ty) → type_of_column name columns ≡ Some ty → in_bounds ty ≡ true
column_bounded name [] f ty h = cc
column_bounded name (c ∷ columns) f ty h =
    let p = and_parts (in_bounds c.ty) (types_in_bounds columns) f in
    column_bounded_if (bytes_eq c.name name) c.ty (type_of_column name columns) ty p.0 (column_bounded name columns p.1 ty) h

module _ (join : JoinTakesBoth) where
  agreed_if : (b : Bool) (ty : Ty) → in_bounds ty ≡ true → IsBoundedTyping (if b then Joined ty else Clashed)
  agreed_if true ty h = h
  agreed_if false ty h = tt

  agreed_bounded : (declared found : Option Ty) → ((ty : Ty) → found ≡ Some ty → in_bounds ty ≡ true) → IsBoundedTyping (agreed declared found)
  agreed_bounded declared None f = tt
  agreed_bounded declared (Some ty) f = agreed_if (agrees_with_declared declared ty) ty (f ty refl)

  table_bounded : (declared : Option Ty) (typing : ColumnTyping) (found : Option Ty) → IsBoundedTyping typing → ((ty : Ty) → found ≡ Some ty → in_bounds ty ≡ true)
      → IsBoundedTyping (with_table declared typing found)
  table_bounded declared Absent None k f = tt
  table_bounded declared (Joined so_far) None k f = k
  table_bounded declared Clashed None k f = tt
  table_bounded declared Absent (Some ty) k f = agreed_bounded declared (Some ty) f
  table_bounded declared (Joined so_far) (Some ty) k f =
      agreed_bounded declared (join_of so_far ty) (λ joined e. (join so_far ty joined k (f ty refl) e).0)
  table_bounded declared Clashed (Some ty) k f = tt

  joined_bounded : (tables : TableColumns) → ((table : List ℕ) → is_schema (tables table) ≡ true) → (declared : Option Ty) (name : List ℕ) (typing : ColumnTyping)
      (inputs : List source_input.Input) → IsBoundedTyping typing → IsBoundedTyping (joined_over tables declared name typing inputs)
  joined_bounded tables schemas declared name typing [] k = k
  joined_bounded tables schemas declared name typing (i ∷ inputs) k =
      let columns = tables (spelled_name i.table) in
      let bounds = (and_parts (distinct_names columns) (types_in_bounds columns) (schemas (spelled_name i.table))).1 in
      joined_bounded tables schemas declared name (with_table declared typing (type_of_column name columns)) inputs
      (table_bounded declared typing (type_of_column name columns) k (column_bounded name columns bounds))

  joined_type_bounded : (typing : ColumnTyping) → IsBoundedTyping typing → in_bounds (joined_type typing) ≡ true
  joined_type_bounded Absent k = refl
  joined_type_bounded (Joined ty) k = k
  joined_type_bounded Clashed k = refl

  -- what is known of a column of the thread program that is read from
  pub stage_bounded : (columns : Columns) → types_in_bounds columns ≡ true → (declared : Option Ty) (name : List ℕ)
      → IsBoundedTyping (with_table declared Absent (type_of_column name columns))
  stage_bounded columns h declared name = table_bounded declared Absent (type_of_column name columns) tt (column_bounded name columns h)

  pub columns_bounded : (tables : TableColumns) → ((table : List ℕ) → is_schema (tables table) ≡ true) → (before : List ℕ → ColumnTyping)
      → ((name : List ℕ) → IsBoundedTyping (before name)) → (inputs : List source_input.Input) (names : List PlacedName)
      → AreInBounds (map (λ (n : PlacedName). record { name = n.name; ty = joined_type (joined_over tables None n.name (before n.name) inputs) }) names)
  columns_bounded tables schemas before f inputs [] = tt
  columns_bounded tables schemas before f inputs (n ∷ names) = (
    joined_type_bounded (joined_over tables None n.name (before n.name) inputs) (joined_bounded tables schemas None n.name (before n.name) inputs (f n.name)),
    columns_bounded tables schemas before f inputs names,
  )

-- ---- flags

there_if : (b s r : Bool) → (b || r) ≡ true → (r ≡ true → s ≡ true) → (if b then true else s) ≡ true
there_if true s r h f = refl
there_if false s r h f = f h

by_present : (bys : List source_by.ByVariable) (name : List ℕ) → is_listed (names_alone (map (λ (b : source_by.ByVariable). placed_name b.name) bys)) name ≡ true
    → is_by (map read_by bys) name ≡ true
by_present [] name h = cc
by_present (b ∷ bys) name h =
    there_if (bytes_eq (spelled_name b.name) name) (is_by (map read_by bys) name)
    (is_listed (names_alone (map (λ (x : source_by.ByVariable). placed_name x.name) bys)) name) h (by_present bys name)

flag_present : (tables : TableColumns) (made : List MentionedTable) (table : Token) (flag : Option InputFlag) (inputs : List source_input.Input) (name : List ℕ)
    → (is_listed (names_alone (flag_names inputs)) name ≡ true → is_present (map (read_input tables made) inputs) name ≡ true)
    → is_listed (names_alone (flag_names (record { table = table; flag = flag } ∷ inputs))) name ≡ true
    → is_present (map (read_input tables made) (record { table = table; flag = flag } ∷ inputs)) name ≡ true
flag_present tables made table None inputs name f h = f h
flag_present tables made table (Some flag) inputs name f h =
    there_if (bytes_eq (spelled_name flag.name) name) (is_present (map (read_input tables made) inputs) name) (is_listed (names_alone (flag_names inputs)) name) h f

flags_present : (tables : TableColumns) (made : List MentionedTable) (inputs : List source_input.Input) (name : List ℕ) → is_listed (names_alone (flag_names inputs)) name ≡ true
    → is_present (map (read_input tables made) inputs) name ≡ true
flags_present tables made [] name h = cc
flags_present tables made (i ∷ inputs) name h = flag_present tables made i.table i.flag inputs name (flags_present tables made inputs name) h

-- the reading statement of a method, where there is one
abbrev pub reading_if_any : Option Method → Option source_reading.Reading
reading_if_any None = None
reading_if_any (Some m) = m.reading

reading_found_if : (b : Bool) (m : Method) (reading : Option source_reading.Reading) (rest : Option Method) → reading ≡ reading_if_any rest
    → (if b then m.reading else reading) ≡ reading_if_any (if b then Some m else rest)
reading_found_if true m reading rest e = refl
reading_found_if false m reading rest e = e

pub reading_found : (methods : List Method) → reading_of_run methods ≡ reading_if_any (method_named methods (codes "run"))
reading_found [] = refl
reading_found (m ∷ methods) =
    reading_found_if (bytes_eq (spelled_name m.name) (codes "run")) m (reading_of_run methods) (method_named methods (codes "run")) (reading_found methods)

flag_of_reading : (tables : TableColumns) (made : List MentionedTable) (columns : Columns) (reading : Option source_reading.Reading) (name : List ℕ)
    → is_listed (names_alone (flag_names (tables_of_reading reading))) name ≡ true → is_present (inputs_of (read_statement tables made columns reading)) name ≡ true
flag_of_reading tables made columns None name h = cc
flag_of_reading tables made columns (Some (read_as.Set keyword inputs end by)) name h = flags_present tables made inputs name h
flag_of_reading tables made columns (Some (read_as.SetFrom keyword from instance threads end)) name h = cc
flag_of_reading tables made columns (Some (read_as.Merge keyword inputs retain end by)) name h = flags_present tables made inputs name h

by_of_reading : (tables : TableColumns) (made : List MentionedTable) (columns : Columns) (reading : Option source_reading.Reading) (name : List ℕ)
    → is_listed (names_alone (map (λ (b : source_by.ByVariable). placed_name b.name) (bys_of_reading reading))) name ≡ true
    → is_by (bys_of (read_statement tables made columns reading)) name ≡ true
by_of_reading tables made columns None name h = cc
by_of_reading tables made columns (Some (read_as.Set keyword inputs end by)) name h = by_present (bys_of_reading (Some (read_as.Set keyword inputs end by))) name h
by_of_reading tables made columns (Some (read_as.SetFrom keyword from instance threads end)) name h = cc
by_of_reading tables made columns (Some (read_as.Merge keyword inputs retain end by)) name h = by_present by.variables name h

flag_of_found : (tables : TableColumns) (made : List MentionedTable) (columns : Columns) (found : Option Method) (name : List ℕ)
    → is_listed (names_alone (flag_names (tables_of_reading (reading_if_any found)))) name ≡ true → is_present (inputs_of (reading_of_method tables made columns found)) name ≡ true
flag_of_found tables made columns None name h = cc
flag_of_found tables made columns (Some m) name h = flag_of_reading tables made columns m.reading name h

by_of_found : (tables : TableColumns) (made : List MentionedTable) (columns : Columns) (found : Option Method) (name : List ℕ)
    → is_listed (names_alone (map (λ (b : source_by.ByVariable). placed_name b.name) (bys_of_reading (reading_if_any found)))) name ≡ true
    → is_by (bys_of (reading_of_method tables made columns found)) name ≡ true
by_of_found tables made columns None name h = cc
by_of_found tables made columns (Some m) name h = by_of_reading tables made columns m.reading name h

pub flag_stands : (tables : TableColumns) (made : List MentionedTable) (columns : Columns) (methods : List Method) (name : List ℕ)
    → is_listed (names_alone (flag_names (tables_of_reading (reading_of_run methods)))) name ≡ true
    → is_present (inputs_of (reading_of_method tables made columns (method_named methods (codes "run")))) name ≡ true
flag_stands tables made columns methods name h =
    flag_of_found tables made columns (method_named methods (codes "run")) name
    (subst (λ r. is_listed (names_alone (flag_names (tables_of_reading r))) name ≡ true) (reading_found methods) h)

pub by_stands : (tables : TableColumns) (made : List MentionedTable) (columns : Columns) (methods : List Method) (name : List ℕ)
    → is_listed (names_alone (map (λ (b : source_by.ByVariable). placed_name b.name) (bys_of_reading (reading_of_run methods)))) name ≡ true
    → is_by (bys_of (reading_of_method tables made columns (method_named methods (codes "run")))) name ≡ true
by_stands tables made columns methods name h =
    by_of_found tables made columns (method_named methods (codes "run")) name
    (subst (λ r. is_listed (names_alone (map (λ (b : source_by.ByVariable). placed_name b.name) (bys_of_reading r))) name ≡ true) (reading_found methods) h)
