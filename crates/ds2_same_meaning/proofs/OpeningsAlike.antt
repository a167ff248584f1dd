-- The tables that a typed program opens with are the first of its tables, and it has no parameters to give where it reads no thread program.
use Rattle.std.proofs.Common.{◌≡◌, ℕ, zero, suc, ◌+◌, Bool, true, false, bytes_eq, List, [], ◌∷◌, ◌++◌, map, flat_map, filter, drop, length, Option, Some, None, refl, sym, ap, ◌∙◌, arith, length-append, if◌then◌else◌}
use Rattle.ds2_value.specs.Row.{Row}
use Rattle.ds2_meaning.specs.declared.hashes.DeclaredHash.{DeclaredHash}
use Rattle.ds2_meaning.specs.declared.hashes.LoadedTable.{LoadedTable}
use Rattle.ds2_meaning.specs.declared.hashes.ThreadInstance.{ThreadInstance}
use Rattle.ds2_meaning.specs.declared.readings.Input.{Input}
use Rattle.ds2_meaning.specs.declared.readings.Reading.{Reading}
use Rattle.ds2_meaning.specs.declared.readings.Reading.TheVariants as read
use Rattle.ds2_meaning.specs.IsTyped.{thread_parameters, ReadsNoStage}
use Rattle.ds2_meaning.specs.Location.{Home}
use Rattle.ds2_meaning.specs.ProgramTree.{InstanceTree, UnitTree}
use Rattle.ds2_meaning.specs.Reading.{TableRows, input_tables, stage_instance}
use Rattle.ds2_meaning.specs.TableLaws.{tables_loaded, tables_loaded_by, tables_at_opening}
use Rattle.ds2_code.specs.declared.parts.HashPart.{HashPart}
use Rattle.ds2_code.specs.declared.parts.HashTable.{HashTable}
use Rattle.ds2_code.specs.declared.parts.Slot.{Slot}
use Rattle.ds2_code.specs.CodeUnit.{opening_items, further_tables, opening_hashes}
use Rattle.ds2_program_code.specs.PlacedProgram.{parameters_at, parameter_locations}
use Rattle.ds2_program_code.specs.CodeParts.{hash_part, hash_parts}
use Rattle.ds2_code_answer.specs.CodeTables.{with_loaded_table, hash_references}

-- ---- how many tables hash objects are loaded from

references_behind : (xs ys : List HashPart) → hash_references (xs ++ ys) ≡ hash_references xs ++ hash_references ys
references_behind [] ys = refl
references_behind (x ∷ xs) ys = ap (with_loaded_table x.loaded) (references_behind xs ys) ∙ with_more x.loaded
  where
    with_more : (o : Option HashTable) → with_loaded_table o (hash_references xs ++ hash_references ys) ≡ with_loaded_table o (hash_references xs) ++ hash_references ys
    with_more None = refl
    with_more (Some t) = refl

module _ (p : UnitTree) where
  one_counts : (home : Home) (h : DeclaredHash) (o : Option LoadedTable) (hashes : List DeclaredHash) → length (hash_references (map (hash_part p home) hashes)) ≡ length (tables_loaded hashes)
      → length (hash_references (hash_part p home (record h { loaded = o }) ∷ map (hash_part p home) hashes)) ≡ length (tables_loaded (record h { loaded = o } ∷ hashes))
  one_counts home h None hashes rest = rest
  one_counts home h (Some loaded) hashes rest = ap suc rest

  home_counts : (home : Home) (hashes : List DeclaredHash) → length (hash_references (map (hash_part p home) hashes)) ≡ length (tables_loaded hashes)
  home_counts home [] = refl
  home_counts home (h ∷ hashes) = one_counts home h h.loaded hashes (home_counts home hashes)

  instances_count : (instances : List InstanceTree) → length (hash_references (flat_map (λ (i : InstanceTree). map (hash_part p (Some i.name)) i.objects.hashes) instances)) ≡ length (tables_loaded_by instances)
  instances_count [] = refl
  instances_count (i ∷ instances) =
      let own = map (hash_part p (Some i.name)) i.objects.hashes in
      let more = flat_map (λ (j : InstanceTree). map (hash_part p (Some j.name)) j.objects.hashes) instances in
      ap length (references_behind own more) ∙ length-append (hash_references own) (hash_references more)
      ∙ ap (λ n. n + length (hash_references more)) (home_counts (Some i.name) i.objects.hashes)
      ∙ ap (λ n. length (tables_loaded i.objects.hashes) + n) (instances_count instances)
      ∙ sym (length-append (tables_loaded i.objects.hashes) (tables_loaded_by instances))

  pub loaded_count : length (hash_references (hash_parts p)) ≡ length (tables_at_opening p)
  loaded_count =
      let own = map (hash_part p None) p.objects.hashes in
      let more = flat_map (λ (i : InstanceTree). map (hash_part p (Some i.name)) i.objects.hashes) p.instances in
      ap length (references_behind own more) ∙ length-append (hash_references own) (hash_references more)
      ∙ ap (λ n. n + length (hash_references more)) (home_counts None p.objects.hashes)
      ∙ ap (λ n. length (tables_loaded p.objects.hashes) + n) (instances_count p.instances)
      ∙ sym (length-append (tables_loaded p.objects.hashes) (tables_loaded_by p.instances))

  -- ---- no parameters

  named_none : (threads : List ThreadInstance) → thread_parameters threads [] ≡ None → filter (λ (t : ThreadInstance). bytes_eq t.name []) threads ≡ []
  named_none [] h = refl
  named_none (t ∷ threads) h = by_name (bytes_eq t.name []) refl (λ rest. named_none threads rest)
    where
      by_name : (b : Bool) → bytes_eq t.name [] ≡ b → (thread_parameters threads [] ≡ None → filter (λ (u : ThreadInstance). bytes_eq u.name []) threads ≡ [])
          → filter (λ (u : ThreadInstance). bytes_eq u.name []) (t ∷ threads) ≡ []
      by_name true is later =
          let found : (if bytes_eq t.name [] then Some t.parameters else thread_parameters threads []) ≡ Some t.parameters = ap (λ b. if b then Some t.parameters else thread_parameters threads []) is in absurd cc
      by_name false is later =
          let rest : thread_parameters threads [] ≡ None = sym (ap (λ b. if b then Some t.parameters else thread_parameters threads []) is) ∙ h in
          ap (λ b. if b then t ∷ filter (λ (u : ThreadInstance). bytes_eq u.name []) threads else filter (λ (u : ThreadInstance). bytes_eq u.name []) threads) is ∙ later rest

  no_stage : (r : Reading) → ReadsNoStage r → stage_instance r ≡ []
  no_stage read.Nothing h = refl
  no_stage read.Once h = refl
  no_stage (read.Set inputs bys) h = refl
  no_stage (read.Merge inputs bys retains) h = refl
  no_stage (read.From instance workers columns) h = absurd h

  pub no_parameters : ReadsNoStage p.reading → thread_parameters p.threads [] ≡ None → length (parameter_locations p) ≡ 0
  no_parameters reads none =
      ap (λ name. length (flat_map parameters_at (filter (λ (t : ThreadInstance). bytes_eq t.name name) p.threads))) (no_stage p.reading reads)
      ∙ ap (λ ts. length (flat_map parameters_at ts)) (named_none p.threads none)

-- ---- further tables

module _ (slots : List Slot) where
  one_more : (h : HashPart) (o : Option HashTable) (hashes : List HashPart) (xs ys : List (List Row)) → length xs ≡ length (with_loaded_table o (hash_references hashes))
      → ((zs : List (List Row)) → length zs ≡ length (hash_references hashes) → opening_hashes slots hashes (zs ++ ys) ≡ opening_hashes slots hashes zs)
      → opening_items slots h o (xs ++ ys) ∷ opening_hashes slots hashes (further_tables o (xs ++ ys)) ≡ opening_items slots h o xs ∷ opening_hashes slots hashes (further_tables o xs)
  one_more h None hashes xs ys count rest = ap (λ z. [] ∷ z) (rest xs count)
  one_more h (Some t) hashes [] ys count rest = absurd cc
  one_more h (Some t) hashes (x ∷ xs) ys count rest =
      let fewer : length xs ≡ length (hash_references hashes) = omega (arith, count) in ap (λ z. opening_items slots h (Some t) (x ∷ xs) ∷ z) (rest xs fewer)

  pub hashes_open : (hashes : List HashPart) (xs ys : List (List Row)) → length xs ≡ length (hash_references hashes) → opening_hashes slots hashes (xs ++ ys) ≡ opening_hashes slots hashes xs
  hashes_open [] xs ys count = refl
  hashes_open (h ∷ hashes) xs ys count = one_more h h.loaded hashes xs ys count (λ zs fewer. hashes_open hashes zs ys fewer)

-- ---- the tables of the statement

pub drop_front : {A B : Type 0} (f : A → B) (xs : List A) (ys : List B) → drop (length xs) (map f xs ++ ys) ≡ ys
drop_front f [] ys = refl
drop_front f (x ∷ xs) ys = drop_front f xs ys

pub drop_mapped : {A B : Type 0} (f : A → B) (n : ℕ) (xs : List A) → map f (drop n xs) ≡ drop n (map f xs)
drop_mapped f zero xs = refl
drop_mapped f (suc n) [] = refl
drop_mapped f (suc n) (x ∷ xs) = drop_mapped f n xs

pub read_rows : (tables : TableRows) (inputs : List Input) → map tables (map (λ (input : Input). input.table) inputs) ≡ input_tables tables inputs
read_rows tables [] = refl
read_rows tables (input ∷ inputs) = ap (λ z. tables input.table ∷ z) (read_rows tables inputs)
