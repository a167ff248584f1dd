-- The code of a typed program answers as the program means.
use Rattle.std.proofs.Common.{◌≡◌, ℕ, Bool, true, false, ◌&&◌, List, [], ◌∷◌, ◌++◌, map, drop, length, replicate, None, IsTrue, refl, sym, ap, ◌∙◌, subst}
use Rattle.std.proofs.lemmas.List.{length-map}
use Rattle.ds2_value.specs.Row.{Row, Columns}
use Rattle.ds2_value.specs.Schema.{distinct_names, types_in_bounds}
use Rattle.ds2_value.specs.declared.schema.Column.{Column}
use Rattle.ds2_value.specs.declared.value.Value.{Value}
use Rattle.ds2_value.specs.declared.value.Value.TheVariants.{Null}
use Rattle.ds2_table.specs.Loads.{KeyedLoad, groups}
use Rattle.ds2_table.specs.OneThread.{Answer, with_groups, then_unit, after_stage, run_each, alone_answer}
use Rattle.ds2_table.specs.Table.{Contents}
use Rattle.ds2_meaning.specs.declared.globals.OutputTable.{OutputTable}
use Rattle.ds2_meaning.specs.declared.globals.Variable.{Variable}
use Rattle.ds2_meaning.specs.declared.location.Global.TheVariants.{Named, Parameter}
use Rattle.ds2_meaning.specs.declared.readings.Input.{Input}
use Rattle.ds2_meaning.specs.declared.readings.MentionedTable.{MentionedTable}
use Rattle.ds2_meaning.specs.declared.readings.Reading.{Reading}
use Rattle.ds2_meaning.specs.declared.readings.Reading.TheVariants as read
use Rattle.ds2_meaning.specs.IsTyped.{IsTypedUnit, AreTypedOutputs, AreStageColumns, ReadsNoStage, FitsStage, IsTypedProgram}
use Rattle.ds2_meaning.specs.Location.{Storage}
use Rattle.ds2_meaning.specs.ProgramMeaning.{program_units, opening_of, parameters_given, program_answer}
use Rattle.ds2_meaning.specs.ProgramTree.{UnitTree, ProgramTree, OverTables, OverStage, reader_of, data_vector}
use Rattle.ds2_meaning.specs.Reading.{TableRows, Settings, inputs_of, keyed_loads, row_settings, stage_instance, stage_columns}
use Rattle.ds2_meaning.specs.TableLaws.{tables_at_opening, tables_mentioned}
use Rattle.ds2_code.specs.declared.parts.ProgramParts.{ProgramParts}
use Rattle.ds2_code.specs.CodeUnit.{code_init, opening_hashes, opening_data, row_slot_settings}
use Rattle.ds2_code.specs.Desk.{ProgramData, SlotSettings, with_slot_settings}
use Rattle.ds2_program_code.specs.PlacedProgram.{parameter_locations}
use Rattle.ds2_program_code.specs.CodeParts.{slot_of_global, code_slots, hash_parts, reading_part}
use Rattle.ds2_program_code.specs.LoadSettings.{slot_settings, table_load, stage_load}
use Rattle.ds2_program_code.specs.Opening.{opening_tables, TypedProgramsOpenAlike}
use Rattle.ds2_program_code.specs.ProgramCode.{program_code}
use Rattle.ds2_program_code.specs.ProgramRuns.{HoldsProgram, TypedUnitsRunAsMeant}
use Rattle.ds2_program_code.specs.StageRows.{StageRowsSetSlots}
use Rattle.ds2_code_answer.specs.CodeAnswer.{code_units, first_parameter_count, code_opening, code_program}
use Rattle.ds2_code_answer.specs.CodeLoads.{load_settings, code_reading, retains_columns, slots_of_stage}
use Rattle.ds2_code_answer.specs.CodeTables.{first_read_table, tables_of_stage, rows_of_each}
use Rattle.ds2_same_meaning.specs.SameAnswer.{code_of_stages, HasNamedInstances, IsTranslatable, AreLikeAnswers, HaveRowsMentioned, TypedProgramsAnswerAlike}
use Rattle.ds2_same_meaning.specs.SameLoads.{rows_read, TypedLoadsAreAlike}
use Rattle.ds2_same_meaning.proofs.LoadsAlike.{map_append, loads_are, load_sets}
use Rattle.ds2_same_meaning.proofs.OpeningsAlike.{loaded_count, no_parameters, hashes_open, drop_front, drop_mapped, read_rows}
use Rattle.ds2_same_meaning.proofs.RowsFit.{rows_read_fit}
use Rattle.ds2_same_meaning.proofs.RunsAlike.{unit_then_alike, each_alike, grouped_alike, after_stage_alike}
use Rattle.ds2_same_meaning.proofs.StageGiven.{parameter_count, stage_given}

-- ---- the tables

module _ (p : UnitTree) (tables : TableRows) (contents : List Contents) (rest : List MentionedTable) (has : rows_of_each contents ≡ map tables (tables_at_opening p ++ rest)) where
  in_two : rows_of_each contents ≡ opening_tables p tables ++ map tables rest
  in_two = has ∙ map_append tables (tables_at_opening p) rest

  -- the rows of the tables behind those of the hash objects
  rows_behind : rows_of_each (drop (first_read_table (program_code p)) contents) ≡ map tables rest
  rows_behind =
      drop_mapped (λ (t : Contents). t.rows) (first_read_table (program_code p)) contents
      ∙ ap (λ z. drop (first_read_table (program_code p)) z) in_two
      ∙ ap (λ n. drop n (opening_tables p tables ++ map tables rest)) (loaded_count p)
      ∙ drop_front tables (tables_at_opening p) (map tables rest)

  -- the data before the first unit
  data_opens : (values : List Value) (stages : List ProgramParts) → length (parameter_locations p) ≡ first_parameter_count stages
      → opening_data (program_code p) values (opening_tables p tables) (length (parameter_locations p)) ≡ code_opening (program_code p) stages contents values
  data_opens values stages count =
      let hashes : opening_hashes (code_slots p) (hash_parts p) (rows_of_each contents) ≡ opening_hashes (code_slots p) (hash_parts p) (opening_tables p tables) =
      ap (λ z. opening_hashes (code_slots p) (hash_parts p) z) in_two
      ∙ hashes_open (code_slots p) (hash_parts p) (opening_tables p tables) (map tables rest) (length-map (tables_at_opening p) tables ∙ sym (loaded_count p)) in
      ap (λ n. opening_data (program_code p) values (opening_tables p tables) n) count
      ∙ ap (λ items. record (opening_data (program_code p) values (opening_tables p tables) (first_parameter_count stages)) { hashes = items }) (sym hashes)

  opens_alike : TypedProgramsOpenAlike → IsTypedUnit p → (values : List Value) (stages : List ProgramParts) → length (parameter_locations p) ≡ first_parameter_count stages
      → HoldsProgram p (opening_of p tables values) (code_opening (program_code p) stages contents values)
  opens_alike open_alike typed values stages count =
      let P : ProgramData → Type 0 = λ s. HoldsProgram p (opening_of p tables values) s in subst P (data_opens values stages count) (open_alike p tables values typed)

-- ---- a program over tables

-- the answer of the code of a program with the thread programs that it reads from, with these values of its parameters
abbrev answer_of_code : ProgramTree → List Contents → (budget grain : ℕ) → List Value → Answer
answer_of_code p contents budget grain values =
    alone_answer (code_program (program_code (reader_of p)) (code_of_stages p) contents budget grain) (code_opening (program_code (reader_of p)) (code_of_stages p) contents values)

-- the loads of the code of a program over tables are those of the program
pub loads_alike : TypedProgramsOpenAlike → TypedLoadsAreAlike
loads_alike open_alike p typed reads named tables contents has =
    let tables_in : List MentionedTable = map (λ (input : Input). input.table) (inputs_of p.reading) in
    let here : rows_of_each (drop (first_read_table (program_code p)) contents) ≡ rows_read p tables = rows_behind p tables contents tables_in has ∙ read_rows tables (inputs_of p.reading) in
    record {
      loads = loads_are p tables contents (first_read_table (program_code p)) p.reading (IsTypedUnit.reading typed) here;
      sets = λ load slots. load_sets p tables contents (first_read_table (program_code p)) p.reading load slots (IsTypedUnit.reading typed) here;
      rows = rows_read_fit p reads tables contents here;
      opens = λ values. opens_alike p tables contents tables_in has open_alike typed values [] (no_parameters p reads named.0);
    }

module _ (open_alike : TypedProgramsOpenAlike) (run_alike : TypedUnitsRunAsMeant) where
  over_tables : (p : UnitTree) → IsTypedUnit p → ReadsNoStage p.reading → HasNamedInstances (OverTables p)
      → (tables : TableRows) (contents : List Contents) (budget grain : ℕ) (values : List Value) → HaveRowsMentioned (OverTables p) tables contents
      → AreLikeAnswers (answer_of_code (OverTables p) contents budget grain values) (program_answer (OverTables p) values tables budget grain)
  over_tables p typed reads named tables contents budget grain values has =
      let both = loads_alike open_alike p typed reads named tables contents has in
      let state = code_opening (program_code p) [] contents values in
      let kept = opening_of p tables values in
      let sets : KeyedLoad → SlotSettings = λ l. load_settings (code_slots p) (code_reading (program_code p)) (retains_columns (reading_part p p.reading)) contents l.load in
      let settings : KeyedLoad → Settings = λ l. table_load p (rows_read p tables) l.load in
      let loads = keyed_loads p.reading (rows_read p tables) in
      let done : Answer = then_unit (code_init (program_code p) budget state) (run_each (code_units (program_code p) budget) (map sets loads)) in
      let meant : Answer = then_unit ((program_units p budget).init kept) (run_each (program_units p budget) (map settings loads)) in
      let alike : AreLikeAnswers done meant =
      unit_then_alike p (code_init (program_code p) budget state) ((program_units p budget).init kept) (run_each (code_units (program_code p) budget) (map sets loads)) (run_each (program_units p budget) (map settings loads))
      ((run_alike p typed).in_init budget kept state (both.opens values))
      (λ next held h. each_alike p (run_alike p typed) budget sets settings (λ l. (run_alike p typed).over_tables (rows_read p tables) l.load) (λ l slots. both.sets l.load slots) loads held next h) in
      let Q : List KeyedLoad → Type 0 = λ ls.
      AreLikeAnswers (with_groups (length (groups grain ls)) (then_unit (code_init (program_code p) budget state) (run_each (code_units (program_code p) budget) (map sets ls))))
      (with_groups (length (groups grain loads)) meant) in
      subst Q (sym both.loads) (grouped_alike (length (groups grain loads)) done meant alike)

-- ---- a program over a thread program

both_rules : (a b : Bool) → (a && b) ≡ true → a ≡ true
both_rules true b h = refl
both_rules false b h = absurd cc

reader_typed : (p : ProgramTree) → IsTypedProgram p → IsTypedUnit (reader_of p)
reader_typed (OverTables p) typed = typed.0
reader_typed (OverStage p stage) typed = typed.0

slots_read : (p : UnitTree) (r : Reading) → slots_of_stage (reading_part p r) ≡ map (λ (c : Column). slot_of_global p None (Named c.name)) (stage_columns r)
slots_read p read.Nothing = refl
slots_read p read.Once = refl
slots_read p (read.Set inputs bys) = refl
slots_read p (read.Merge inputs bys retains) = refl
slots_read p (read.From instance workers columns) = refl

-- the columns of the rows have distinct names
columns_distinct : (columns : Columns) (variables : List Variable) (outputs : List OutputTable) → AreStageColumns columns outputs → AreTypedOutputs variables outputs → IsTrue (distinct_names columns)
columns_distinct columns variables [] are typed = absurd are
columns_distinct columns variables (o ∷ []) are typed =
    both_rules (distinct_names columns) (types_in_bounds columns) (ap (λ (cs : Columns). distinct_names cs && types_in_bounds cs) are ∙ typed.1)
columns_distinct columns variables (o ∷ (q ∷ outputs)) are typed = absurd are

module _ (p q : UnitTree) (typed : IsTypedUnit p) (fits : FitsStage p q) (stage_typed : IsTypedUnit q) where
  -- a place for each parameter of the thread program
  places_count : (stages : List ProgramParts) → length (parameter_locations p) ≡ first_parameter_count (program_code q ∷ stages)
  places_count stages = parameter_count p typed q.parameters fits.3 ∙ sym (length-map q.parameters (λ (v : Variable). slot_of_global q None (Parameter v.name)))

  -- the thread program begins with the parameters that the program's data have as with those that are meant
  stage_opens : (stages : List ProgramParts) (contents : List Contents) (kept : Storage) (state : ProgramData) → HoldsProgram p kept state
      → code_opening (program_code q) stages contents state.parameters ≡ code_opening (program_code q) stages contents (parameters_given (stage_instance p.reading) q.parameters kept)
  stage_opens stages contents kept state holds =
      ap (λ (sets : SlotSettings). record (code_opening (program_code q) stages contents []) { slots = with_slot_settings sets (replicate (length (code_slots q)) Null) })
      (stage_given p typed q.parameters fits.3 (IsTypedUnit.parameters stage_typed).1 kept state holds (λ (v : Variable). slot_of_global q None (Parameter v.name)))

  row_sets : StageRowsSetSlots → (row slots : Row)
      → with_slot_settings (row_slot_settings (code_slots p) (slots_of_stage (reading_part p p.reading)) row) slots ≡ with_slot_settings (slot_settings p (stage_load p row)) slots
  row_sets rows_set row slots =
      ap (λ (ns : List ℕ). with_slot_settings (row_slot_settings (code_slots p) ns row) slots) (slots_read p p.reading)
      ∙ rows_set p typed (columns_distinct (stage_columns p.reading) (data_vector q) q.outputs fits.2 (IsTypedUnit.outputs stage_typed)) row slots

module _ (open_alike : TypedProgramsOpenAlike) (run_alike : TypedUnitsRunAsMeant) (rows_set : StageRowsSetSlots) where
  -- behind `init` of a program whose thread program answers alike for the parameters that are meant
  behind_init : (p : UnitTree) (stage : ProgramTree) → IsTypedUnit p → FitsStage p (reader_of stage) → IsTypedUnit (reader_of stage) → (tables : TableRows) (contents : List Contents) (budget grain : ℕ)
      → ((values : List Value) → AreLikeAnswers (answer_of_code stage contents budget grain values) (program_answer stage values tables budget grain))
      → (kept : Storage) (state : ProgramData) → HoldsProgram p kept state
      → (let done = alone_answer (code_program (program_code (reader_of stage)) (code_of_stages stage) contents budget grain) (code_opening (program_code (reader_of stage)) (code_of_stages stage) contents state.parameters) in
      let meant = program_answer stage (parameters_given (stage_instance p.reading) (reader_of stage).parameters kept) tables budget grain in
      AreLikeAnswers
      (after_stage done.ending done (λ rows. with_groups (length rows) (run_each (code_units (program_code p) budget) (map (row_slot_settings (code_slots p) (slots_of_stage (reading_part p p.reading))) rows) state)))
      (after_stage meant.ending meant (λ rows. with_groups (length rows) (run_each (program_units p budget) (map (row_settings (data_vector p) (stage_columns p.reading)) rows) kept))))
  behind_init p stage typed fits stage_typed tables contents budget grain each kept state holds =
      let q = reader_of stage in
      let stages = code_of_stages stage in
      let values = parameters_given (stage_instance p.reading) q.parameters kept in
      let meant : Answer = program_answer stage values tables budget grain in
      let sets : Row → SlotSettings = row_slot_settings (code_slots p) (slots_of_stage (reading_part p p.reading)) in
      let settings : Row → Settings = row_settings (data_vector p) (stage_columns p.reading) in
      let go : List Row → Answer = λ rows. with_groups (length rows) (run_each (code_units (program_code p) budget) (map sets rows) state) in
      let go_meant : List Row → Answer = λ rows. with_groups (length rows) (run_each (program_units p budget) (map settings rows) kept) in
      let P : ProgramData → Type 0 = λ s.
      let done = alone_answer (code_program (program_code q) stages contents budget grain) s in AreLikeAnswers (after_stage done.ending done go) (after_stage meant.ending meant go_meant) in
      subst P (sym (stage_opens p q typed fits stage_typed stages contents kept state holds))
      (after_stage_alike (answer_of_code stage contents budget grain values) meant (each values) go go_meant
      (λ rows.
      grouped_alike (length rows) (run_each (code_units (program_code p) budget) (map sets rows) state) (run_each (program_units p budget) (map settings rows) kept)
      (each_alike p (run_alike p typed) budget sets settings (λ row. (run_alike p typed).of_rows row) (row_sets p q typed fits stage_typed rows_set) rows kept state holds)))

  -- ---- chains

  chain_alike : (p : ProgramTree) → IsTypedProgram p → HasNamedInstances p → (tables : TableRows) (contents : List Contents) (budget grain : ℕ) (values : List Value) → HaveRowsMentioned p tables contents
      → AreLikeAnswers (answer_of_code p contents budget grain values) (program_answer p values tables budget grain)
  chain_alike (OverTables p) typed named tables contents budget grain values has = over_tables open_alike run_alike p typed.0 typed.1 named tables contents budget grain values has
  chain_alike (OverStage p stage) typed named tables contents budget grain values has =
      let q = reader_of stage in
      let stage_typed : IsTypedUnit q = reader_typed stage typed.2 in
      let state = code_opening (program_code p) (code_of_stages (OverStage p stage)) contents values in
      let kept = opening_of p tables values in
      let behind = tables_of_stage (program_code p) contents in
      let holds : HoldsProgram p kept state = opens_alike p tables contents (tables_mentioned stage) has open_alike typed.0 values (code_of_stages (OverStage p stage)) (places_count p q typed.0 typed.1 stage_typed (code_of_stages stage)) in
      let each : (given : List Value) → AreLikeAnswers (answer_of_code stage behind budget grain given) (program_answer stage given tables budget grain) =
      λ given. chain_alike stage typed.2 named.1 tables behind budget grain given (rows_behind p tables contents (tables_mentioned stage) has) in
      unit_then_alike p (code_init (program_code p) budget state) ((program_units p budget).init kept) _ _ ((run_alike p typed.0).in_init budget kept state holds)
      (λ next held h. behind_init p stage typed.0 typed.1 stage_typed tables behind budget grain each held next h)

pub programs_answer_alike : TypedProgramsOpenAlike → TypedUnitsRunAsMeant → StageRowsSetSlots → TypedProgramsAnswerAlike
programs_answer_alike open_alike run_alike rows_set p translatable values tables contents budget grain has =
    chain_alike open_alike run_alike rows_set p (IsTranslatable.typed translatable) (IsTranslatable.instances translatable) tables contents budget grain values has
