-- The code of a program mentions the tables that the program mentions, with their columns.
use Rattle.std.proofs.Common.{◌≡◌, List, [], ◌∷◌, ◌++◌, map, flat_map, Option, Some, None, refl, sym, ap, ◌∙◌}
use Rattle.std.proofs.lemmas.List.{map-append}
use Rattle.ds2_value.specs.Row.{Columns}
use Rattle.ds2_meaning.specs.declared.hashes.DeclaredHash.{DeclaredHash}
use Rattle.ds2_meaning.specs.declared.hashes.LoadedTable.{LoadedTable}
use Rattle.ds2_meaning.specs.declared.readings.Input.{Input}
use Rattle.ds2_meaning.specs.declared.readings.MentionedTable.{MentionedTable}
use Rattle.ds2_meaning.specs.declared.readings.Reading.{Reading}
use Rattle.ds2_meaning.specs.declared.readings.Reading.TheVariants as read
use Rattle.ds2_meaning.specs.IsTyped.{ReadsNoStage, IsTypedProgram}
use Rattle.ds2_meaning.specs.Location.{Home}
use Rattle.ds2_meaning.specs.ProgramTree.{InstanceTree, UnitTree, ProgramTree, OverTables, OverStage, reader_of}
use Rattle.ds2_meaning.specs.Reading.{inputs_of}
use Rattle.ds2_meaning.specs.TableLaws.{tables_read, tables_loaded, tables_loaded_by, tables_at_opening, tables_mentioned}
use Rattle.ds2_code.specs.declared.parts.HashPart.{HashPart}
use Rattle.ds2_code.specs.declared.parts.HashTable.{HashTable}
use Rattle.ds2_code.specs.declared.parts.ReadPart.{ReadPart}
use Rattle.ds2_code.specs.declared.parts.TableReference.{TableReference}
use Rattle.ds2_program_code.specs.CodeParts.{hash_part, hash_parts, input_part, reading_part}
use Rattle.ds2_program_code.specs.ProgramCode.{program_code}
use Rattle.ds2_code_answer.specs.CodeTables.{with_loaded_table, hash_references, reading_references, program_references, columns_named}
use Rattle.ds2_same_meaning.specs.SameAnswer.{code_of_stages}
use Rattle.ds2_same_meaning.specs.SameMeaning.{table_referred, columns_read, columns_loaded, columns_loaded_by, columns_at_opening, columns_mentioned}

-- the tables of hash objects before those of others
references_before : (xs ys : List HashPart) → hash_references (xs ++ ys) ≡ hash_references xs ++ hash_references ys
references_before [] ys = refl
references_before (x ∷ xs) ys = ap (with_loaded_table x.loaded) (references_before xs ys) ∙ with_more x.loaded
  where
    with_more : (o : Option HashTable) → with_loaded_table o (hash_references xs ++ hash_references ys) ≡ with_loaded_table o (hash_references xs) ++ hash_references ys
    with_more None = refl
    with_more (Some t) = refl

module _ (p : UnitTree) where
  -- the hash objects of an instance in code
  abbrev parts_of_instance : InstanceTree → List HashPart
  parts_of_instance i = map (hash_part p (Some i.name)) i.objects.hashes

  -- ---- what is read of each table: a value of its reference

  module _ {A : Type 0} (value : TableReference → A) (loads : List DeclaredHash → List A) (loads_by : List InstanceTree → List A)
      (of_home : (home : Home) (hashes : List DeclaredHash) → map value (hash_references (map (hash_part p home) hashes)) ≡ loads hashes)
      (none_by : loads_by [] ≡ []) (more_by : (i : InstanceTree) (instances : List InstanceTree) → loads_by (i ∷ instances) ≡ loads i.objects.hashes ++ loads_by instances) where
    of_instances : (instances : List InstanceTree) → map value (hash_references (flat_map parts_of_instance instances)) ≡ loads_by instances
    of_instances [] = sym none_by
    of_instances (i ∷ instances) =
        ap (map value) (references_before (parts_of_instance i) (flat_map parts_of_instance instances))
        ∙ map-append value (hash_references (parts_of_instance i)) (hash_references (flat_map parts_of_instance instances))
        ∙ ap (λ r. r ++ map value (hash_references (flat_map parts_of_instance instances))) (of_home (Some i.name) i.objects.hashes)
        ∙ ap (λ r. loads i.objects.hashes ++ r) (of_instances instances)
        ∙ sym (more_by i instances)

    at_opening : map value (hash_references (hash_parts p)) ≡ loads p.objects.hashes ++ loads_by p.instances
    at_opening =
        let own = map (hash_part p None) p.objects.hashes in
        let more = flat_map parts_of_instance p.instances in
        ap (map value) (references_before own more)
        ∙ map-append value (hash_references own) (hash_references more)
        ∙ ap (λ r. r ++ map value (hash_references more)) (of_home None p.objects.hashes)
        ∙ ap (λ r. loads p.objects.hashes ++ r) (of_instances p.instances)

    -- those of the hash objects stand before others
    all_tables : (others : List TableReference) (read : List A) → map value others ≡ read → map value (hash_references (hash_parts p) ++ others) ≡ (loads p.objects.hashes ++ loads_by p.instances) ++ read
    all_tables others read e =
        map-append value (hash_references (hash_parts p)) others ∙ ap (λ r. r ++ map value others) at_opening ∙ ap (λ r. (loads p.objects.hashes ++ loads_by p.instances) ++ r) e

  -- ---- names and makers

  one_referred : (home : Home) (h : DeclaredHash) (o : Option LoadedTable) (hashes : List DeclaredHash) → map table_referred (hash_references (map (hash_part p home) hashes)) ≡ tables_loaded hashes
      → map table_referred (hash_references (hash_part p home (record h { loaded = o }) ∷ map (hash_part p home) hashes)) ≡ tables_loaded (record h { loaded = o } ∷ hashes)
  one_referred home h None hashes rest = rest
  one_referred home h (Some loaded) hashes rest = ap (λ r. loaded.table ∷ r) rest

  home_referred : (home : Home) (hashes : List DeclaredHash) → map table_referred (hash_references (map (hash_part p home) hashes)) ≡ tables_loaded hashes
  home_referred home [] = refl
  home_referred home (h ∷ hashes) = one_referred home h h.loaded hashes (home_referred home hashes)

  inputs_referred : (inputs : List Input) → map table_referred (map (λ (r : ReadPart). r.table) (map (input_part p) inputs)) ≡ map (λ (input : Input). input.table) inputs
  inputs_referred [] = refl
  inputs_referred (i ∷ inputs) = ap (λ r. i.table ∷ r) (inputs_referred inputs)

  reading_referred : (r : Reading) → ReadsNoStage r → map table_referred (reading_references (reading_part p r)) ≡ tables_read r
  reading_referred read.Nothing none = refl
  reading_referred read.Once none = refl
  reading_referred (read.Set inputs bys) none = inputs_referred inputs
  reading_referred (read.Merge inputs bys retains) none = inputs_referred inputs
  reading_referred (read.From instance workers columns) none = absurd none

  opening_referred : (others : List TableReference) (read : List MentionedTable) → map table_referred others ≡ read → map table_referred (hash_references (hash_parts p) ++ others) ≡ tables_at_opening p ++ read
  opening_referred others read e = all_tables table_referred tables_loaded tables_loaded_by home_referred refl (λ i instances. refl) others read e

  -- ---- columns

  one_named : (home : Home) (h : DeclaredHash) (o : Option LoadedTable) (hashes : List DeclaredHash) → map columns_named (hash_references (map (hash_part p home) hashes)) ≡ columns_loaded hashes
      → map columns_named (hash_references (hash_part p home (record h { loaded = o }) ∷ map (hash_part p home) hashes)) ≡ columns_loaded (record h { loaded = o } ∷ hashes)
  one_named home h None hashes rest = rest
  one_named home h (Some loaded) hashes rest = ap (λ r. loaded.columns ∷ r) rest

  home_named : (home : Home) (hashes : List DeclaredHash) → map columns_named (hash_references (map (hash_part p home) hashes)) ≡ columns_loaded hashes
  home_named home [] = refl
  home_named home (h ∷ hashes) = one_named home h h.loaded hashes (home_named home hashes)

  inputs_named : (inputs : List Input) → map columns_named (map (λ (r : ReadPart). r.table) (map (input_part p) inputs)) ≡ map columns_read inputs
  inputs_named [] = refl
  inputs_named (i ∷ inputs) = ap (λ r. i.columns ∷ r) (inputs_named inputs)

  reading_named : (r : Reading) → ReadsNoStage r → map columns_named (reading_references (reading_part p r)) ≡ map columns_read (inputs_of r)
  reading_named read.Nothing none = refl
  reading_named read.Once none = refl
  reading_named (read.Set inputs bys) none = inputs_named inputs
  reading_named (read.Merge inputs bys retains) none = inputs_named inputs
  reading_named (read.From instance workers columns) none = absurd none

  opening_named : (others : List TableReference) (read : List Columns) → map columns_named others ≡ read → map columns_named (hash_references (hash_parts p) ++ others) ≡ columns_at_opening p ++ read
  opening_named others read e = all_tables columns_named columns_loaded columns_loaded_by home_named refl (λ i instances. refl) others read e

-- ---- a program with the thread programs that it reads from

pub same_tables : (p : ProgramTree) → IsTypedProgram p → map table_referred (program_references (program_code (reader_of p)) (code_of_stages p)) ≡ tables_mentioned p
same_tables (OverTables p) typed = opening_referred p (reading_references (reading_part p p.reading)) (tables_read p.reading) (reading_referred p p.reading typed.1)
same_tables (OverStage p stage) typed = opening_referred p (program_references (program_code (reader_of stage)) (code_of_stages stage)) (tables_mentioned stage) (same_tables stage typed.2)

pub same_columns : (p : ProgramTree) → IsTypedProgram p → map columns_named (program_references (program_code (reader_of p)) (code_of_stages p)) ≡ columns_mentioned p
same_columns (OverTables p) typed = opening_named p (reading_references (reading_part p p.reading)) (map columns_read (inputs_of p.reading)) (reading_named p p.reading typed.1)
same_columns (OverStage p stage) typed = opening_named p (program_references (program_code (reader_of stage)) (code_of_stages stage)) (columns_mentioned stage) (same_columns stage typed.2)
