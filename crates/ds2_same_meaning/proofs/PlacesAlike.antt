-- The code of a program names at each hash object and at each place of its reading statement the table that the program names there.
use Rattle.std.proofs.Common.{◌≡◌, List, [], ◌∷◌, ◌++◌, map, flat_map, Option, Some, None, refl, sym, ap, ◌∙◌}
use Rattle.std.specs.Option.{option_map}
use Rattle.std.proofs.lemmas.List.{map-append}
use Rattle.ds2_meaning.specs.declared.hashes.DeclaredHash.{DeclaredHash}
use Rattle.ds2_meaning.specs.declared.hashes.LoadedTable.{LoadedTable}
use Rattle.ds2_meaning.specs.declared.readings.Input.{Input}
use Rattle.ds2_meaning.specs.declared.readings.Reading.{Reading}
use Rattle.ds2_meaning.specs.declared.readings.Reading.TheVariants as read
use Rattle.ds2_meaning.specs.Location.{Home}
use Rattle.ds2_meaning.specs.ProgramTree.{InstanceTree, UnitTree}
use Rattle.ds2_meaning.specs.Reading.{inputs_of}
use Rattle.ds2_code.specs.declared.parts.HashPart.{HashPart}
use Rattle.ds2_code.specs.declared.parts.HashTable.{HashTable}
use Rattle.ds2_code.specs.declared.parts.ReadPart.{ReadPart}
use Rattle.ds2_program_code.specs.CodeParts.{hash_part, hash_parts, hash_table_part, input_part, reading_part}
use Rattle.ds2_program_code.specs.ProgramCode.{program_code}
use Rattle.ds2_code_answer.specs.CodeTables.{reading_references}
use Rattle.ds2_same_meaning.specs.SameMeaning.{table_with_columns, table_of_hash_part, table_of_declared_hash, declared_hashes_of, NamesSameTables}

-- ---- hash objects

loaded_alike : (h : DeclaredHash) (o : Option LoadedTable)
    → option_map (λ (loaded : HashTable). table_with_columns loaded.table) (option_map (hash_table_part h) o) ≡ option_map (λ (loaded : LoadedTable). (loaded.table, loaded.columns)) o
loaded_alike h None = refl
loaded_alike h (Some loaded) = refl

module _ (p : UnitTree) where
  home_alike : (home : Home) (hashes : List DeclaredHash) → map table_of_hash_part (map (hash_part p home) hashes) ≡ map table_of_declared_hash hashes
  home_alike home [] = refl
  home_alike home (h ∷ hashes) = λ i. loaded_alike h h.loaded i ∷ home_alike home hashes i

  -- the hash objects of an instance in code
  abbrev parts_of : InstanceTree → List HashPart
  parts_of instance = map (hash_part p (Some instance.name)) instance.objects.hashes

  -- those that it declares
  abbrev hashes_of : InstanceTree → List DeclaredHash
  hashes_of instance = instance.objects.hashes

  instances_alike : (instances : List InstanceTree) → map table_of_hash_part (flat_map parts_of instances) ≡ map table_of_declared_hash (flat_map hashes_of instances)
  instances_alike [] = refl
  instances_alike (first ∷ instances) =
      map-append table_of_hash_part (parts_of first) (flat_map parts_of instances)
      ∙ (λ i. home_alike (Some first.name) first.objects.hashes i ++ instances_alike instances i)
      ∙ sym (map-append table_of_declared_hash (hashes_of first) (flat_map hashes_of instances))

  hashes_alike : map table_of_hash_part (hash_parts p) ≡ map table_of_declared_hash (declared_hashes_of p)
  hashes_alike =
      map-append table_of_hash_part (map (hash_part p None) p.objects.hashes) (flat_map parts_of p.instances)
      ∙ (λ i. home_alike None p.objects.hashes i ++ instances_alike p.instances i)
      ∙ sym (map-append table_of_declared_hash p.objects.hashes (flat_map hashes_of p.instances))

  -- ---- the reading statement

  inputs_alike : (inputs : List Input) → map table_with_columns (map (λ (r : ReadPart). r.table) (map (input_part p) inputs)) ≡ map (λ (input : Input). (input.table, input.columns)) inputs
  inputs_alike [] = refl
  inputs_alike (input ∷ inputs) = ap (λ r. (input.table, input.columns) ∷ r) (inputs_alike inputs)

  reading_alike : (r : Reading) → map table_with_columns (reading_references (reading_part p r)) ≡ map (λ (input : Input). (input.table, input.columns)) (inputs_of r)
  reading_alike read.Nothing = refl
  reading_alike read.Once = refl
  reading_alike (read.Set inputs bys) = inputs_alike inputs
  reading_alike (read.Merge inputs bys retains) = inputs_alike inputs
  reading_alike (read.From instance workers columns) = refl

  pub names_same_tables : NamesSameTables p (program_code p)
  names_same_tables = record { hashes = hashes_alike; reading = reading_alike p.reading }
