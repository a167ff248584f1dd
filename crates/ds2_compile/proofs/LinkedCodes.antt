-- Each table that the code of a program names is one of the store, or the code of an earlier program makes it.
use Rattle.std.proofs.Common.{◌≡◌, ◌⊎◌, inl, inr, ◌-◌, ◌==◌, ◌&&◌, ℕ, zero, suc, Bool, true, false, not, List, [], ◌∷◌, ◌++◌, map, slice_get, is_some, flat_map, Option, Some, None, bytes_eq, refl, sym, ap, subst, ◌∙◌}
use Rattle.std.specs.List.{AllByRecursion, list_all, list_any}
use Rattle.std.specs.Option.{option_map, option_map_or}
use Rattle.std.proofs.lemmas.Bool.{and_from, eq-eqb}
use Rattle.std.proofs.lemmas.List.{map-append}
use Rattle.std.proofs.lemmas.Option.{slice_get-map}
use Rattle.std.proofs.lemmas.Slice.Eq.{bytes_eq-Decides}
use Rattle.ds2_value.specs.Types.{same_ty}
use Rattle.ds2_value.specs.declared.ty.Ty.{Ty}
use Rattle.ds2_value.specs.declared.ty.Ty.TheVariants.{BigInt, Decimal, Char, Varchar}
use Rattle.ds2_meaning.specs.Location.{Home}
use Rattle.ds2_meaning.specs.IsTyped.{IsTypedDataProgram, IsTypedProgram, IsTypedUnit}
use Rattle.ds2_meaning.specs.ProgramMeaning.{output_columns}
use Rattle.ds2_meaning.specs.ProgramTree.{InstanceTree, UnitTree, ProgramTree, OverTables, OverStage, reader_of}
use Rattle.ds2_meaning.specs.declared.globals.OutputColumn.{OutputColumn}
use Rattle.ds2_meaning.specs.declared.globals.OutputTable.{OutputTable}
use Rattle.ds2_meaning.specs.declared.hashes.DeclaredHash.{DeclaredHash}
use Rattle.ds2_meaning.specs.declared.hashes.LoadedTable.{LoadedTable}
use Rattle.ds2_names.specs.SourceUnit.{TableColumns}
use Rattle.ds2_same_meaning.specs.Layout.{program_slots, source_slot}
use Rattle.ds2_code.specs.OperandTypes.{slot_type}
use Rattle.ds2_value.specs.Row.{Columns}
use Rattle.ds2_elaboration.specs.ElaborationLaws.{StandsAmong}
use Rattle.ds2_code.specs.declared.parts.HashPart.{HashPart}
use Rattle.ds2_code.specs.declared.parts.HashTable.{HashTable}
use Rattle.ds2_code.specs.declared.parts.ProgramParts.{ProgramParts}
use Rattle.ds2_code.specs.declared.parts.ReadPart.{ReadPart}
use Rattle.ds2_code.specs.declared.parts.ReadingPart.{ReadingPart}
use Rattle.ds2_code.specs.declared.parts.ReadingPart.TheVariants as reading
use Rattle.ds2_code.specs.declared.parts.StagedParts.{StagedParts}
use Rattle.ds2_code.specs.declared.parts.TableReference.{TableReference}
use Rattle.ds2_object.specs.ObjectSpelling.{column_is, columns_are, has_maker, has_no_name, hash_linked, is_slot_of, linked_behind, makes_reference, output_is, parts_linked, program_linked, reading_linked}
use Rattle.ds2_same_meaning.specs.CodeParts.{code_slots, hash_part, hash_parts, hash_table_part, output_part, reading_part}
use Rattle.ds2_same_meaning.specs.CodeTables.{hash_references, program_references, reading_references, with_loaded_table}
use Rattle.ds2_same_meaning.specs.ProgramCode.{program_code}
use Rattle.ds2_same_meaning.specs.SameAnswer.{code_of_stages, staged_code}
use Rattle.ds2_same_meaning.specs.SameMeaning.{HasOutputSlots, OutputsHaveSlots}
use Rattle.ds2_compile.proofs.KnownTables.{IsKnownTable}
use Rattle.ds2_compile.proofs.Mentions.{bytes_same, or_left, or_right}
use Rattle.ds2_compile.proofs.SettledPrograms.{AreHashesReferred, AreSettled, IfThere, IsInstanceSettled, IsLoadReferred, IsProgramSettled, IsReferred, IsUnitSettled, all_both, mention_of}

-- each program is typed
abbrev pub AreTyped : List ProgramTree → Type 0
AreTyped programs = AllByRecursion IsTypedDataProgram programs

reader_typed : (p : ProgramTree) → IsTypedProgram p → IsTypedUnit (reader_of p)
reader_typed (OverTables p) typed = typed.0
reader_typed (OverStage p stage) typed = typed.0

-- ---- an output is the table that is named

ty_is : (ty : Ty) → same_ty ty ty ≡ true
ty_is BigInt = refl
ty_is (Decimal p s) = and_from (p == p) (s == s) (eq-eqb p p refl) (eq-eqb s s refl)
ty_is (Char n) = eq-eqb n n refl
ty_is (Varchar n) = eq-eqb n n refl

-- the slots of columns have their types
abbrev HaveSlots : UnitTree → List OutputColumn → Type 0
HaveSlots p columns = AllByRecursion (λ (c : OutputColumn). slot_type (code_slots p) (source_slot (program_slots p) c.source) ≡ Some c.ty) columns

module _ (p : UnitTree) where
  columns_hold : (columns : List OutputColumn) → HaveSlots p columns
      → columns_are (code_slots p) (map (λ (c : OutputColumn). (c.name, source_slot (program_slots p) c.source)) columns) (map (λ (c : OutputColumn). record { name = c.name; ty = c.ty }) columns) ≡ true
  columns_hold [] slots = refl
  columns_hold (c ∷ columns) slots =
      let slot = source_slot (program_slots p) c.source in
      let here : is_slot_of (code_slots p) slot c.ty ≡ true = ap (λ o. option_map_or (same_ty c.ty) o false) slots.0 ∙ ty_is c.ty in
      and_from (column_is (code_slots p) (c.name, slot) (record { name = c.name; ty = c.ty }))
      (columns_are (code_slots p) (map (λ (c : OutputColumn). (c.name, source_slot (program_slots p) c.source)) columns) (map (λ (c : OutputColumn). record { name = c.name; ty = c.ty }) columns))
      (and_from (bytes_eq c.name c.name) (is_slot_of (code_slots p) slot c.ty) (bytes_same c.name) here) (columns_hold columns slots.1)

  output_holds : (r : TableReference) (o : OutputTable) → HasOutputSlots p o → o.name ≡ r.name → r.columns ≡ output_columns o → output_is (code_slots p) r (output_part p o) ≡ true
  output_holds r o slots named columns =
      and_from (bytes_eq o.name r.name) (columns_are (code_slots p) (map (λ (c : OutputColumn). (c.name, source_slot (program_slots p) c.source)) o.columns) r.columns)
      ((bytes_eq-Decides o.name r.name).1 named)
      (subst (λ (cs : Columns). columns_are (code_slots p) (map (λ (c : OutputColumn). (c.name, source_slot (program_slots p) c.source)) o.columns) cs ≡ true) (sym columns) (columns_hold o.columns slots))

  among_holds : (r : TableReference) (o : OutputTable) (outputs : List OutputTable) → AllByRecursion (HasOutputSlots p) outputs → StandsAmong outputs o → o.name ≡ r.name → r.columns ≡ output_columns o
      → list_any (output_is (code_slots p) r) (map (output_part p) outputs) ≡ true
  among_holds r o [] slots among named columns = absurd among
  among_holds r o (x ∷ outputs) slots (inl e) named columns =
      or_left (output_is (code_slots p) r (output_part p x)) (list_any (output_is (code_slots p) r) (map (output_part p) outputs))
      (output_holds r x slots.0 (ap OutputTable.name (sym e) ∙ named) (columns ∙ ap output_columns e))
  among_holds r o (x ∷ outputs) slots (inr among) named columns =
      or_right (output_is (code_slots p) r (output_part p x)) (list_any (output_is (code_slots p) r) (map (output_part p) outputs)) (among_holds r o outputs slots.1 among named columns)

-- ---- the maker of a table

all_at : {A : Type 0} (P : A → Type 0) (xs : List A) (k : ℕ) (x : A) → AllByRecursion P xs → slice_get xs k ≡ Some x → P x
all_at P [] k x all e = absurd (cc e)
all_at P (y ∷ xs) zero x all e = subst P (cc e) all.0
all_at P (y ∷ xs) (suc k) x all e = all_at P xs k x all.1 e

all_pushed : {A : Type 0} (P : A → Type 0) (xs : List A) (x : A) → AllByRecursion P xs → P x → AllByRecursion P (xs ++ x ∷ [])
all_pushed P [] x all h = (h, tt)
all_pushed P (y ∷ xs) x all h = (all.0, all_pushed P xs x all.1 h)

-- ---- the tables that code names

module _ (names : List (List ℕ)) (store : TableColumns) (earlier : List UnitTree) where
  abbrev AllReferred : List TableReference → Type 0
  AllReferred rs = AllByRecursion (IsReferred names store earlier) rs

  -- with the table of one hash object more
  one_hash : (p : UnitTree) (home : Home) (h : DeclaredHash) (loaded : Option LoadedTable) (others : List TableReference) → IfThere (IsLoadReferred names store earlier) loaded → AllReferred others
      → AllReferred (with_loaded_table (option_map (hash_table_part h) loaded) others)
  one_hash p home h None others is more = more
  one_hash p home h (Some loaded) others is more = (is, more)

  declared_referred : (p : UnitTree) (home : Home) (hashes : List DeclaredHash) → AreHashesReferred names store earlier hashes → AllReferred (hash_references (map (hash_part p home) hashes))
  declared_referred p home [] are = tt
  declared_referred p home (h ∷ hashes) are = one_hash p home h h.loaded (hash_references (map (hash_part p home) hashes)) are.0 (declared_referred p home hashes are.1)

  with_hash : (loaded : Option HashTable) (xs ys : List TableReference) → with_loaded_table loaded (xs ++ ys) ≡ with_loaded_table loaded xs ++ ys
  with_hash None xs ys = refl
  with_hash (Some t) xs ys = refl

  references_both : (xs ys : List HashPart) → hash_references (xs ++ ys) ≡ hash_references xs ++ hash_references ys
  references_both [] ys = refl
  references_both (x ∷ xs) ys = ap (with_loaded_table x.loaded) (references_both xs ys) ∙ with_hash x.loaded (hash_references xs) (hash_references ys)

  both_referred : (xs ys : List HashPart) → AllReferred (hash_references xs) → AllReferred (hash_references ys) → AllReferred (hash_references (xs ++ ys))
  both_referred xs ys f g = subst (λ (rs : List TableReference). AllReferred rs) (sym (references_both xs ys)) (all_both (IsReferred names store earlier) (hash_references xs) (hash_references ys) f g)

  instances_referred : (p : UnitTree) (instances : List InstanceTree) → AllByRecursion (IsInstanceSettled names store earlier) instances
      → AllReferred (hash_references (flat_map (λ (i : InstanceTree). map (hash_part p (Some i.name)) i.objects.hashes) instances))
  instances_referred p [] are = tt
  instances_referred p (i ∷ instances) are =
      both_referred (map (hash_part p (Some i.name)) i.objects.hashes) (flat_map (λ (i : InstanceTree). map (hash_part p (Some i.name)) i.objects.hashes) instances)
      (declared_referred p (Some i.name) i.objects.hashes are.0) (instances_referred p instances are.1)

  hashes_referred : (p : UnitTree) → IsUnitSettled names store earlier p → AllReferred (hash_references (hash_parts p))
  hashes_referred p is =
      both_referred (map (hash_part p None) p.objects.hashes) (flat_map (λ (i : InstanceTree). map (hash_part p (Some i.name)) i.objects.hashes) p.instances)
      (declared_referred p None p.objects.hashes (IsUnitSettled.hashes is)) (instances_referred p p.instances (IsUnitSettled.instances is))

  -- those of a program with the thread program that it reads from
  pub program_referred : (p : ProgramTree) → IsProgramSettled names store earlier p → AllReferred (program_references (program_code (reader_of p)) (code_of_stages p))
  program_referred (OverTables p) is =
      all_both (IsReferred names store earlier) (hash_references (hash_parts p)) (reading_references (reading_part p p.reading)) (hashes_referred p is) (IsUnitSettled.reads is)
  program_referred (OverStage p stage) is =
      all_both (IsReferred names store earlier) (hash_references (hash_parts p)) (program_references (program_code (reader_of stage)) (code_of_stages stage)) (hashes_referred p is.0)
      (program_referred stage is.1)

reader_settled : (names : List (List ℕ)) (store : TableColumns) (earlier : List UnitTree) (p : ProgramTree) → IsProgramSettled names store earlier p → IsUnitSettled names store earlier (reader_of p)
reader_settled names store earlier (OverTables p) is = is
reader_settled names store earlier (OverStage p stage) is = is.0

-- ---- links

-- a program that was made into its reader
record IsReaderOf (found : Option ProgramTree) (p : UnitTree) : Type 0 where
  program : ProgramTree
  there : found ≡ Some program
  reader : reader_of program ≡ p

reader_there : (found : Option ProgramTree) (p : UnitTree) → option_map reader_of found ≡ Some p → IsReaderOf found p
reader_there None p e = absurd (cc e)
reader_there (Some q) p e = record { program = q; there = refl; reader = cc e }

module _ (have : OutputsHaveSlots) (names : List (List ℕ)) (store : TableColumns) (earlier : List ProgramTree) (typed : AreTyped earlier) where
  abbrev codes_before : List StagedParts
  codes_before = map staged_code earlier

  maker_there : (r : TableReference) → IsKnownTable store (map reader_of earlier) (mention_of r) r.columns → has_maker codes_before r ≡ true
  maker_there r (inl (stored, columns)) =
      or_left (r.maker == 0) (option_map_or (λ (q : StagedParts). makes_reference q.program r) (slice_get codes_before (r.maker - 1)) false) (eq-eqb r.maker 0 stored)
  maker_there r (inr (not_stored, made)) =
      let found = reader_there (slice_get earlier (r.maker - 1)) made.program (sym (slice_get-map reader_of earlier (r.maker - 1)) ∙ made.at) in
      let q = IsReaderOf.program found in
      let at : slice_get codes_before (r.maker - 1) ≡ Some (staged_code q) = slice_get-map staged_code earlier (r.maker - 1) ∙ ap (option_map staged_code) (IsReaderOf.there found) in
      let own : IsTypedDataProgram q = all_at IsTypedDataProgram earlier (r.maker - 1) q typed (IsReaderOf.there found) in
      let unit : IsTypedUnit made.program = subst IsTypedUnit (IsReaderOf.reader found) (reader_typed q own.0) in
      let makes : makes_reference (program_code made.program) r ≡ true =
      among_holds made.program r made.output (UnitTree.outputs made.program) (have made.program unit) made.among made.named made.columns_are in
      or_right (r.maker == 0) (option_map_or (λ (q : StagedParts). makes_reference q.program r) (slice_get codes_before (r.maker - 1)) false)
      (ap (λ o. option_map_or (λ (q : StagedParts). makes_reference q.program r) o false) at
      ∙ ap (λ (p : UnitTree). makes_reference (program_code p) r) (IsReaderOf.reader found) ∙ makes)

  -- ---- programs

  tables_linked : (tables : List ReadPart) → AllByRecursion (IsReferred names store (map reader_of earlier)) (map (λ (t : ReadPart). t.table) tables)
      → list_all (λ (t : ReadPart). has_maker codes_before t.table) tables ≡ true
  tables_linked [] known = refl
  tables_linked (t ∷ tables) known =
      and_from (has_maker codes_before t.table) (list_all (λ (t : ReadPart). has_maker codes_before t.table) tables) (maker_there t.table (IsReferred.known known.0)) (tables_linked tables known.1)

  reading_holds : (read : ReadingPart) → AllByRecursion (IsReferred names store (map reader_of earlier)) (reading_references read) → reading_linked codes_before read ≡ true
  reading_holds (reading.Set tables bys) known = tables_linked tables known
  reading_holds (reading.Merge tables bys retains) known = tables_linked tables known
  reading_holds (reading.Stage threads slots) known = refl
  reading_holds reading.Once known = refl
  reading_holds reading.Nothing known = refl

  hashes_hold : (hashes : List HashPart) → AllByRecursion (IsReferred names store (map reader_of earlier)) (hash_references hashes) → list_all (hash_linked codes_before) hashes ≡ true
  hashes_hold [] known = refl
  hashes_hold (h ∷ hashes) known = by h.loaded known (hashes_hold hashes)
    where
      by : (loaded : Option HashTable) → AllByRecursion (IsReferred names store (map reader_of earlier)) (with_loaded_table loaded (hash_references hashes))
          → (AllByRecursion (IsReferred names store (map reader_of earlier)) (hash_references hashes) → list_all (hash_linked codes_before) hashes ≡ true)
          → (option_map_or (λ (t : HashTable). has_maker codes_before t.table) loaded true && list_all (hash_linked codes_before) hashes) ≡ true
      by None known others = others known
      by (Some t) known others = and_from (has_maker codes_before t.table) (list_all (hash_linked codes_before) hashes) (maker_there t.table (IsReferred.known known.0)) (others known.1)

  unit_holds : (p : UnitTree) → IsUnitSettled names store (map reader_of earlier) p → parts_linked codes_before (program_code p) ≡ true
  unit_holds p is =
      and_from (list_all (hash_linked codes_before) (hash_parts p)) (reading_linked codes_before (reading_part p p.reading))
      (hashes_hold (hash_parts p) (hashes_referred names store (map reader_of earlier) p is)) (reading_holds (reading_part p p.reading) (IsUnitSettled.reads is))

  stages_hold : (p : ProgramTree) → IsProgramSettled names store (map reader_of earlier) p → list_all (parts_linked codes_before) (code_of_stages p) ≡ true
  stages_hold (OverTables p) is = refl
  stages_hold (OverStage p stage) is =
      and_from (parts_linked codes_before (program_code (reader_of stage))) (list_all (parts_linked codes_before) (code_of_stages stage))
      (unit_holds (reader_of stage) (reader_settled names store (map reader_of earlier) stage is.1)) (stages_hold stage is.1)

  program_holds : (p : ProgramTree) → IsTypedDataProgram p → IsProgramSettled names store (map reader_of earlier) p → program_linked codes_before (staged_code p) ≡ true
  program_holds p own is =
      and_from (has_no_name (staged_code p)) (parts_linked codes_before (program_code (reader_of p)) && list_all (parts_linked codes_before) (code_of_stages p)) (ap (λ n. not (is_some n)) own.1)
      (and_from (parts_linked codes_before (program_code (reader_of p))) (list_all (parts_linked codes_before) (code_of_stages p))
      (unit_holds (reader_of p) (reader_settled names store (map reader_of earlier) p is)) (stages_hold p is))

pub programs_hold : OutputsHaveSlots → (names : List (List ℕ)) (store : TableColumns) (earlier programs : List ProgramTree) → AreTyped earlier → AreTyped programs → AreSettled names store earlier programs
    → linked_behind (map staged_code earlier) (map staged_code programs) ≡ true
programs_hold have names store earlier [] before typed settled = refl
programs_hold have names store earlier (p ∷ programs) before typed settled =
    and_from (program_linked (map staged_code earlier) (staged_code p)) (linked_behind (map staged_code earlier ++ staged_code p ∷ []) (map staged_code programs))
    (program_holds have names store earlier before p typed.0 settled.0)
    (subst (λ (codes : List StagedParts). linked_behind codes (map staged_code programs) ≡ true) (map-append staged_code earlier (p ∷ []))
    (programs_hold have names store (earlier ++ p ∷ []) programs (all_pushed IsTypedDataProgram earlier p before typed.0) typed.1 settled.1))
