-- A program's answer depends on the tables that it mentions alone.
use Rattle.std.proofs.Common.{◌≡◌, ℕ, List, [], ◌∷◌, ◌++◌, map, length, refl, ap, Option, Some, None}
use Rattle.ds2_table.specs.Loads.{KeyedLoad, groups}
use Rattle.ds2_table.specs.OneThread.{Reads, ReadsFrom, alone_answer}
use Rattle.ds2_value.specs.declared.value.Value.{Value}
use Rattle.ds2_meaning.specs.declared.hashes.DeclaredHash.{DeclaredHash}
use Rattle.ds2_meaning.specs.declared.hashes.LoadedTable.{LoadedTable}
use Rattle.ds2_meaning.specs.declared.readings.Input.{Input}
use Rattle.ds2_meaning.specs.declared.readings.MentionedTable.{MentionedTable}
use Rattle.ds2_meaning.specs.HashObjects.{object_at}
use Rattle.ds2_meaning.specs.Location.{Home, Storage, Items, with_content}
use Rattle.ds2_meaning.specs.ProgramMeaning.{program_units, program_over_loads, nothing_kept, with_rows_as_items, first_items, with_hashes_opened, with_iterators_opened, with_instances_opened, with_parameters, opening_of, parameters_given, tables_made, tables_left_at}
use Rattle.ds2_meaning.specs.ProgramTree.{InstanceTree, UnitTree, ProgramTree, OverTables, OverStage, reader_of, data_vector}
use Rattle.ds2_meaning.specs.Reading.{TableRows, inputs_of, input_tables, keyed_loads, settings_of, row_settings, stage_instance, stage_columns}
use Rattle.ds2_meaning.specs.TableLaws.{tables_read, tables_loaded, tables_loaded_by, tables_at_opening, tables_mentioned, AgreeOn, TablesMentionedDecide, FaultLeavesNoTable}

-- ---- agreement on tables

first_names : (names more : List MentionedTable) (before after : TableRows) → AgreeOn (names ++ more) before after → AgreeOn names before after
first_names [] more before after h = tt
first_names (name ∷ names) more before after h = (h.0, first_names names more before after h.1)

further_names : (names more : List MentionedTable) (before after : TableRows) → AgreeOn (names ++ more) before after → AgreeOn more before after
further_names [] more before after h = h
further_names (name ∷ names) more before after h = further_names names more before after h.1

-- ---- the opening

same_hashes : (hashes : List DeclaredHash) (home : Home) (before after : TableRows) → AgreeOn (tables_loaded hashes) before after → (c d : Storage) → c ≡ d
    → with_hashes_opened before home hashes c ≡ with_hashes_opened after home hashes d
same_hashes [] home before after h c d e = e
same_hashes (hash ∷ hashes) home before after h c d e = of_load (λ k. same_hashes hashes home before after k c d e) hash.loaded h
  where
    of_load : (AgreeOn (tables_loaded hashes) before after → with_hashes_opened before home hashes c ≡ with_hashes_opened after home hashes d)
        → (loaded : Option LoadedTable) → AgreeOn (tables_loaded (record hash { loaded = loaded } ∷ hashes)) before after
        → with_content (object_at home hash.name) (Items (first_items hash loaded before)) (with_hashes_opened before home hashes c)
        ≡ with_content (object_at home hash.name) (Items (first_items hash loaded after)) (with_hashes_opened after home hashes d)
    of_load again None k = ap (with_content (object_at home hash.name) (Items [])) (again k)
    of_load again (Some loaded) k =
        let rest = again k.1 in λ i. with_content (object_at home hash.name) (Items (with_rows_as_items hash loaded.columns (k.0 i) [])) (rest i)

same_instances : (instances : List InstanceTree) (before after : TableRows) → AgreeOn (tables_loaded_by instances) before after → (c : Storage)
    → with_instances_opened before instances c ≡ with_instances_opened after instances c
same_instances [] before after h c = refl
same_instances (i ∷ instances) before after h c =
    same_hashes i.objects.hashes (Some i.name) before after (first_names (tables_loaded i.objects.hashes) (tables_loaded_by instances) before after h)
    (with_iterators_opened (Some i.name) i.objects.iterators (with_instances_opened before instances c))
    (with_iterators_opened (Some i.name) i.objects.iterators (with_instances_opened after instances c))
    (ap (with_iterators_opened (Some i.name) i.objects.iterators)
    (same_instances instances before after (further_names (tables_loaded i.objects.hashes) (tables_loaded_by instances) before after h) c))

same_opening : (p : UnitTree) (before after : TableRows) → AgreeOn (tables_at_opening p) before after → (values : List Value)
    → opening_of p before values ≡ opening_of p after values
same_opening p before after h values =
    ap (with_parameters p.parameters values)
    (same_hashes p.objects.hashes None before after (first_names (tables_loaded p.objects.hashes) (tables_loaded_by p.instances) before after h)
    (with_iterators_opened None p.objects.iterators (with_instances_opened before p.instances nothing_kept))
    (with_iterators_opened None p.objects.iterators (with_instances_opened after p.instances nothing_kept))
    (ap (with_iterators_opened None p.objects.iterators)
    (same_instances p.instances before after (further_names (tables_loaded p.objects.hashes) (tables_loaded_by p.instances) before after h) nothing_kept)))

-- the opening of a program over a reading statement's tables, or over a stage
same_reader : (p : ProgramTree) (before after : TableRows) → AgreeOn (tables_mentioned p) before after → (values : List Value)
    → opening_of (reader_of p) before values ≡ opening_of (reader_of p) after values
same_reader (OverTables p) before after h values = same_opening p before after (first_names (tables_at_opening p) (tables_read p.reading) before after h) values
same_reader (OverStage p stage) before after h values = same_opening p before after (first_names (tables_at_opening p) (tables_mentioned stage) before after h) values

-- ---- programs

same_inputs : (inputs : List Input) (before after : TableRows) → AgreeOn (map (λ (input : Input). input.table) inputs) before after
    → input_tables before inputs ≡ input_tables after inputs
same_inputs [] before after h = refl
same_inputs (input ∷ inputs) before after h = let rest = same_inputs inputs before after h.1 in λ i. h.0 i ∷ rest i

same_program : (p : ProgramTree) (before after : TableRows) (budget grain : ℕ) → AgreeOn (tables_mentioned p) before after
    → program_over_loads p before budget grain ≡ program_over_loads p after budget grain
same_program (OverTables p) before after budget grain h =
    ap (λ rows. Reads (program_units p budget) (map (λ (l : KeyedLoad). settings_of (data_vector p) p.reading rows l.load) (keyed_loads p.reading rows))
    (length (groups grain (keyed_loads p.reading rows))))
    (same_inputs (inputs_of p.reading) before after (further_names (tables_at_opening p) (tables_read p.reading) before after h))
same_program (OverStage p stage) before after budget grain h =
    let rest = further_names (tables_at_opening p) (tables_mentioned stage) before after h in
    let inner = same_program stage before after budget grain rest in
    let opened = same_reader stage before after rest in
    λ i. ReadsFrom (program_units p budget) (inner i) (λ values. opened values i) (parameters_given (stage_instance p.reading) (reader_of stage).parameters)
    (row_settings (data_vector p) (stage_columns p.reading))

pub tables_mentioned_decide : TablesMentionedDecide
tables_mentioned_decide p values before after budget grain h =
    let q = same_program p before after budget grain h in
    let opened = same_reader p before after h values in
    λ i. alone_answer (q i) (opened i)

pub fault_leaves_no_table : FaultLeavesNoTable
fault_leaves_no_table p answer fault place h = ap (λ e. tables_left_at e (tables_made 0 p.outputs answer.rows)) h
