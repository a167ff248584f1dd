-- Code that can be run over tables that are held: each table that it names has the columns that it names.
use Rattle.std.proofs.Common.{◌≡◌, ◌∙◌, ◌&&◌, ◌||◌, ◌==◌, ◌-◌, ◌+◌, Bool, true, false, not, bytes_eq, ℕ, zero, suc, List, [], ◌∷◌, ◌++◌, length, map, slice_get, unwrap_or, option_map, Option, Some, None, refl, sym, ap, subst, eqb-true, arith}
use Rattle.std.specs.Prelude.{if◌then◌else◌, min}
use Rattle.std.specs.List.{AllByRecursion, list_all, list_any}
use Rattle.std.specs.Option.{option_map_or}
use Rattle.std.proofs.lemmas.List.Folds.{list_any-append}
use Rattle.std.proofs.lemmas.Slice.Eq.{bytes_eq-Decides}
use Rattle.ds2_value.specs.Row.{Columns}
use Rattle.ds2_value.specs.Run.{Written}
use Rattle.ds2_value.specs.Types.{same_ty}
use Rattle.ds2_value.specs.declared.ty.Ty.{Ty}
use Rattle.ds2_value.specs.declared.ty.Ty.TheVariants.{BigInt, Decimal as DecimalOf, Char, Varchar}
use Rattle.ds2_table.specs.OneThread.{Answer}
use Rattle.ds2_table.specs.Table.{Contents}
use Rattle.ds2_meaning.specs.ProgramTree.{is_listed}
use Rattle.ds2_code.specs.ValidCode.{IsValidStaged, IsValidChain, is_other_name, is_short, names_differ, outputs_differ}
use Rattle.ds2_code.specs.declared.parts.HashPart.{HashPart}
use Rattle.ds2_code.specs.declared.parts.HashTable.{HashTable}
use Rattle.ds2_code.specs.declared.parts.OutputPart.{OutputPart}
use Rattle.ds2_code.specs.declared.parts.ProgramParts.{ProgramParts}
use Rattle.ds2_code.specs.declared.parts.ReadPart.{ReadPart}
use Rattle.ds2_code.specs.declared.parts.ReadingPart.{ReadingPart}
use Rattle.ds2_code.specs.declared.parts.ReadingPart.TheVariants as reading
use Rattle.ds2_code.specs.declared.parts.Slot.{Slot}
use Rattle.ds2_code.specs.declared.parts.StagedParts.{StagedParts}
use Rattle.ds2_code.specs.declared.parts.TableReference.{TableReference}
use Rattle.ds2_code_answer.specs.CodeTables.{AreTablesOfCode, columns_had, columns_named, hash_references, program_references, reading_references, with_loaded_table}
use Rattle.ds2_object.specs.ObjectSpelling.{column_is, columns_are, has_maker, is_slot_of, linked_behind, makes_reference, object_linked, output_is, parts_linked, program_linked, reading_linked, hash_linked, has_no_name}
use Rattle.ds2_unit.specs.Outputs.{column_of_output, rows_of_output, table_of_output, tables_from}
use Rattle.ds2_same_meaning.specs.SameMeaning.{number_of_bys, tables_of_outputs}
use Rattle.ds2_answer.specs.HeldTables.{HeldTables, NamedTable, contents_named, made_by_name, table_held, tables_held}
use Rattle.ds2_answer.specs.ObjectPlans.{answer_over, first_referred, known_too, new_name, object_inputs, references_of, run_of_code}
use Rattle.ds2_answer.specs.ProgramPlans.{ProgramLeft}
use Rattle.ds2_answer.specs.StagesLeft.{VerdictsTold}
use Rattle.ds2_answer.specs.TablePlans.{are_columns_named, are_columns_of, none_made, same_columns}
use Rattle.ds2_store_steps.specs.CodeReferences.{IsKeptName, known_behind_references}
use Rattle.ds2_exec.specs.CodeRuns.{AreLinked, HasColumnsStored}
use Rattle.ds2_exec.specs.OutputSinks.{HaveKept}
use Rattle.ds2_exec.specs.StageEnds.{GrainFits, GrainsFit}
use Rattle.ds2_unit.specs.Grains.{IsGrainOf, IsGrainOfReading}
use Rattle.ds2_verdicts.specs.ThreadVerdicts.{verdict_named}
use Rattle.ds2_store_steps.specs.TableReads.{AreTablesRead, HasColumnsNamed, names_read}
use Rattle.ds2_store_steps.proofs.ReferenceSteps.{both_hold}

-- ---- types and columns

type_is : (t u : Ty) → same_ty t u ≡ true → t ≡ u
type_is BigInt BigInt h = refl
type_is BigInt (DecimalOf q t) h = absurd (cc)
type_is BigInt (Char m) h = absurd (cc)
type_is BigInt (Varchar m) h = absurd (cc)
type_is (DecimalOf p s) BigInt h = absurd (cc)
type_is (DecimalOf p s) (DecimalOf q t) h =
    let k = both_hold (p == q) (s == t) h in ap (λ z. DecimalOf z s) (eqb-true p q k.0) ∙ ap (λ z. DecimalOf q z) (eqb-true s t k.1)
type_is (DecimalOf p s) (Char m) h = absurd (cc)
type_is (DecimalOf p s) (Varchar m) h = absurd (cc)
type_is (Char n) BigInt h = absurd (cc)
type_is (Char n) (DecimalOf q t) h = absurd (cc)
type_is (Char n) (Char m) h = ap (λ z. Char z) (eqb-true n m h)
type_is (Char n) (Varchar m) h = absurd (cc)
type_is (Varchar n) BigInt h = absurd (cc)
type_is (Varchar n) (DecimalOf q t) h = absurd (cc)
type_is (Varchar n) (Char m) h = absurd (cc)
type_is (Varchar n) (Varchar m) h = ap (λ z. Varchar z) (eqb-true n m h)

-- two lists of columns that have the same names and types are equal
pub columns_equal : (cs ds : Columns) → same_columns cs ds ≡ true → cs ≡ ds
columns_equal [] [] h = refl
columns_equal [] (d ∷ ds) h = absurd (cc h)
columns_equal (c ∷ cs) [] h = absurd (cc h)
columns_equal (c ∷ cs) (d ∷ ds) h =
    let k = both_hold (bytes_eq c.name d.name && same_ty c.ty d.ty) (same_columns cs ds) h in
    let m = both_hold (bytes_eq c.name d.name) (same_ty c.ty d.ty) k.0 in
    let name_is : c.name ≡ d.name = (bytes_eq-Decides c.name d.name).0 m.0 in
    let type_same : c.ty ≡ d.ty = type_is c.ty d.ty m.1 in
    λ i. record { name = name_is i; ty = type_same i } ∷ columns_equal cs ds k.1 i

slot_is : (o : Option Slot) (ty : Ty) → option_map_or (same_ty ty) (option_map (λ (s : Slot). s.ty) o) false ≡ true → option_map_or (λ (s : Slot). s.ty) o BigInt ≡ ty
slot_is None ty h = absurd (cc h)
slot_is (Some s) ty h = sym (type_is ty s.ty h)

-- the columns of an output are those of a reference to it
output_columns_are : (slots : List Slot) (made : List (List ℕ × ℕ)) (columns : Columns) → columns_are slots made columns ≡ true → map (column_of_output slots) made ≡ columns
output_columns_are slots [] [] h = refl
output_columns_are slots [] (c ∷ cs) h = absurd (cc h)
output_columns_are slots (o ∷ os) [] h = absurd (cc h)
output_columns_are slots (o ∷ os) (c ∷ cs) h =
    let k = both_hold (column_is slots o c) (columns_are slots os cs) h in
    let m = both_hold (bytes_eq o.0 c.name) (is_slot_of slots o.1 c.ty) k.0 in
    let name_is : o.0 ≡ c.name = (bytes_eq-Decides o.0 c.name).0 m.0 in
    let type_same : option_map_or (λ (s : Slot). s.ty) (slice_get slots o.1) BigInt ≡ c.ty = slot_is (slice_get slots o.1) c.ty m.1 in
    λ i. record { name = name_is i; ty = type_same i } ∷ output_columns_are slots os cs k.1 i

-- ---- tables that programs have made

-- tables have the columns of each reference to them that links to a program
abbrev pub MakesTables : StagedParts → List NamedTable → Type 0
MakesTables code tables = (r : TableReference) → makes_reference code.program r ≡ true → Contents.columns (contents_named tables r.name) ≡ r.columns

differs_not : (b : Bool) → b ≡ true → not b ≡ true → ⊥
differs_not true e n = absurd (cc n)
differs_not false e n = absurd (cc e)

-- no output of these has a name that is none of theirs
no_output : (slots : List Slot) (name : List ℕ) (r : TableReference) (outputs : List OutputPart) → name ≡ r.name → is_other_name name (map (λ (o : OutputPart). o.name) outputs) ≡ true → list_any (output_is slots r) outputs ≡ true → ⊥
no_output slots name r [] is other h = absurd (cc h)
no_output slots name r (o ∷ outputs) is other h =
    let parts = both_hold (not (bytes_eq name o.name)) (is_other_name name (map (λ (p : OutputPart). p.name) outputs)) other in
    by (bytes_eq o.name r.name) refl h (λ e. differs_not (bytes_eq name o.name) ((bytes_eq-Decides name o.name).1 (is ∙ sym ((bytes_eq-Decides o.name r.name).0 e))) parts.0)
    (no_output slots name r outputs is parts.1)
  where
    by : (e : Bool) → bytes_eq o.name r.name ≡ e → ((e && columns_are slots o.columns r.columns) || list_any (output_is slots r) outputs) ≡ true → (bytes_eq o.name r.name ≡ true → ⊥)
        → (list_any (output_is slots r) outputs ≡ true → ⊥) → ⊥
    by true e k never again = never e
    by false e k never again = again k

-- the tables that code makes of rows have the columns of each reference to them
made_columns : (slots : List Slot) (number : ℕ) (outputs : List OutputPart) (rows : List Written) (r : TableReference) → names_differ (map (λ (o : OutputPart). o.name) outputs) ≡ true
    → list_any (output_is slots r) outputs ≡ true → Contents.columns (contents_named (map made_by_name (tables_of_outputs outputs (tables_from slots number outputs rows))) r.name) ≡ r.columns
made_columns slots number [] rows r differ h = absurd (cc h)
made_columns slots number (o ∷ outputs) rows r differ h =
    let apart = both_hold (is_other_name o.name (map (λ (p : OutputPart). p.name) outputs)) (names_differ (map (λ (p : OutputPart). p.name) outputs)) differ in
    by (bytes_eq o.name r.name) refl (columns_are slots o.columns r.columns) refl h
    (λ e. no_output slots o.name r outputs ((bytes_eq-Decides o.name r.name).0 e) apart.0)
    (made_columns slots (number + 1) outputs rows r apart.1)
  where
    by : (e : Bool) → bytes_eq o.name r.name ≡ e → (d : Bool) → columns_are slots o.columns r.columns ≡ d → ((e && d) || list_any (output_is slots r) outputs) ≡ true
        → (bytes_eq o.name r.name ≡ true → list_any (output_is slots r) outputs ≡ true → ⊥)
        → (list_any (output_is slots r) outputs ≡ true
        → Contents.columns (contents_named (map made_by_name (tables_of_outputs outputs (tables_from slots (number + 1) outputs rows))) r.name) ≡ r.columns)
        → Contents.columns (if e then table_of_output slots o (rows_of_output number rows) else contents_named (map made_by_name (tables_of_outputs outputs (tables_from slots (number + 1) outputs rows))) r.name) ≡ r.columns
    by true e true d k never again = output_columns_are slots o.columns r.columns d
    by true e false d k never again = absurd (never e k)
    by false e d is k never again = again k

-- the outputs of valid code differ in their names
chain_outputs : (code : ProgramParts) (stages : List ProgramParts) → IsValidChain code stages → outputs_differ code ≡ true
chain_outputs code [] valid = valid.outputs
chain_outputs code (stage ∷ stages) (valid, others) = valid.outputs

-- the tables that valid code leaves can be linked to
pub code_makes : (told : VerdictsTold) (code : StagedParts) (budget : ℕ) (held : HeldTables) (tables : List NamedTable) → IsValidStaged code → tables ≡ ProgramLeft.tables (run_of_code told budget code held) → MakesTables code tables
code_makes told code budget held tables valid is r links =
    ap (λ (ts : List NamedTable). Contents.columns (contents_named ts r.name)) is
    ∙ made_columns code.program.slots 0 code.program.outputs (Answer.rows (answer_over told code budget held)) r (chain_outputs code.program code.stages valid.chain) links

-- programs that have run have made tables that can be linked to
abbrev pub HaveMade : List StagedParts → List (List NamedTable) → Type 0
HaveMade [] [] = Unit {0}
HaveMade [] (tables ∷ made) = ⊥
HaveMade (code ∷ earlier) [] = ⊥
HaveMade (code ∷ earlier) (tables ∷ made) = MakesTables code tables × HaveMade earlier made

pub made_more : (earlier : List StagedParts) (made : List (List NamedTable)) (code : StagedParts) (tables : List NamedTable) → HaveMade earlier made → MakesTables code tables → HaveMade (earlier ++ code ∷ []) (made ++ tables ∷ [])
made_more [] [] code tables have makes = (makes, tt)
made_more [] (t ∷ made) code tables have makes = absurd have
made_more (c ∷ earlier) [] code tables have makes = absurd have
made_more (c ∷ earlier) (t ∷ made) code tables (first, have) makes = (first, made_more earlier made code tables have makes)

-- a reference to a program's output
linked_made : (earlier : List StagedParts) (made : List (List NamedTable)) (k : ℕ) (r : TableReference) → HaveMade earlier made → option_map_or (λ (p : StagedParts). makes_reference p.program r) (slice_get earlier k) false ≡ true
    → Contents.columns (contents_named (unwrap_or (slice_get made k) []) r.name) ≡ r.columns
linked_made [] [] k r have h = absurd (cc h)
linked_made [] (t ∷ made) k r have h = absurd have
linked_made (c ∷ earlier) [] k r have h = absurd have
linked_made (c ∷ earlier) (t ∷ made) zero r (makes, have) h = makes r h
linked_made (c ∷ earlier) (t ∷ made) (suc k) r (makes, have) h = linked_made earlier made k r have h

-- a reference that is linked names a table that is held with its columns
linked_held : (earlier : List StagedParts) (held : HeldTables) (r : TableReference) → HaveMade earlier held.made → HasColumnsStored held.stored r → has_maker earlier r ≡ true → Contents.columns (table_held held r) ≡ r.columns
linked_held earlier held r have stored h = by (r.maker == 0) refl h
  where
    by : (e : Bool) → (r.maker == 0) ≡ e → (e || option_map_or (λ (p : StagedParts). makes_reference p.program r) (slice_get earlier (r.maker - 1)) false) ≡ true
        → Contents.columns (contents_named (if e then held.stored else unwrap_or (slice_get held.made (r.maker - 1)) []) r.name) ≡ r.columns
    by true e k = stored e
    by false e k = linked_made earlier held.made (r.maker - 1) r have k

-- a table is the store's, or one of these programs makes it
abbrev IsMade : List StagedParts → TableReference → Type 0
IsMade earlier r = has_maker earlier r ≡ true

references_held : (earlier : List StagedParts) (held : HeldTables) (references : List TableReference) → HaveMade earlier held.made → AllByRecursion (HasColumnsStored held.stored) references
    → AllByRecursion (IsMade earlier) references → map columns_had (map (table_held held) references) ≡ map columns_named references
references_held earlier held [] have stored made = refl
references_held earlier held (r ∷ references) have (first, stored) (is, made) =
    λ i. linked_held earlier held r have first is i ∷ references_held earlier held references have stored made i

all_both : {T : Type 0} (P : T → Type 0) (some others : List T) → AllByRecursion P some → AllByRecursion P others → AllByRecursion P (some ++ others)
all_both P [] others all more = more
all_both P (x ∷ some) others (first, all) more = (first, all_both P some others all more)

hashes_made : (earlier : List StagedParts) (hashes : List HashPart) → list_all (hash_linked earlier) hashes ≡ true → AllByRecursion (IsMade earlier) (hash_references hashes)
hashes_made earlier [] h = tt
hashes_made earlier (x ∷ hashes) h =
    let k = both_hold (hash_linked earlier x) (list_all (hash_linked earlier) hashes) h in by x.loaded k.0 (hashes_made earlier hashes k.1)
  where
    by : (loaded : Option HashTable) → option_map_or (λ (t : HashTable). has_maker earlier t.table) loaded true ≡ true → AllByRecursion (IsMade earlier) (hash_references hashes)
        → AllByRecursion (IsMade earlier) (with_loaded_table loaded (hash_references hashes))
    by None k others = others
    by (Some table) k others = (k, others)

reads_made : (earlier : List StagedParts) (parts : List ReadPart) → list_all (λ (p : ReadPart). has_maker earlier p.table) parts ≡ true → AllByRecursion (IsMade earlier) (map (λ (p : ReadPart). p.table) parts)
reads_made earlier [] h = tt
reads_made earlier (p ∷ parts) h =
    let k = both_hold (has_maker earlier p.table) (list_all (λ (q : ReadPart). has_maker earlier q.table) parts) h in (k.0, reads_made earlier parts k.1)

reading_made : (earlier : List StagedParts) (r : ReadingPart) → reading_linked earlier r ≡ true → AllByRecursion (IsMade earlier) (reading_references r)
reading_made earlier (reading.Set tables bys) h = reads_made earlier tables h
reading_made earlier (reading.Merge tables bys retains) h = reads_made earlier tables h
reading_made earlier (reading.Stage threads slots) h = tt
reading_made earlier reading.Once h = tt
reading_made earlier reading.Nothing h = tt

program_made : (earlier : List StagedParts) (program : ProgramParts) (stages : List ProgramParts) → parts_linked earlier program ≡ true → list_all (parts_linked earlier) stages ≡ true
    → AllByRecursion (IsMade earlier) (program_references program stages)
program_made earlier program [] h k =
    let one = both_hold (list_all (hash_linked earlier) program.hashes) (reading_linked earlier program.reading) h in
    all_both (IsMade earlier) (hash_references program.hashes) (reading_references program.reading) (hashes_made earlier program.hashes one.0) (reading_made earlier program.reading one.1)
program_made earlier program (stage ∷ stages) h k =
    let one = both_hold (list_all (hash_linked earlier) program.hashes) (reading_linked earlier program.reading) h in
    let two = both_hold (parts_linked earlier stage) (list_all (parts_linked earlier) stages) k in
    all_both (IsMade earlier) (hash_references program.hashes) (program_references stage stages) (hashes_made earlier program.hashes one.0) (program_made earlier stage stages two.0 two.1)

-- the tables that linked code names are held with the columns that it names
pub code_held : (earlier : List StagedParts) (held : HeldTables) (code : StagedParts) → HaveMade earlier held.made
    → AllByRecursion (HasColumnsStored held.stored) (program_references code.program code.stages) → program_linked earlier code ≡ true → AreTablesOfCode code (tables_held held code)
code_held earlier held code have stored linked =
    let one = both_hold (has_no_name code) (parts_linked earlier code.program && list_all (parts_linked earlier) code.stages) linked in
    let two = both_hold (parts_linked earlier code.program) (list_all (parts_linked earlier) code.stages) one.1 in
    references_held earlier held (program_references code.program code.stages) have stored (program_made earlier code.program code.stages two.0 two.1)

-- ---- tables that were read for an object

-- the first table of a name among those read has the columns of a reference to it
referred_read : (read : List NamedTable) (all : List TableReference) (r : TableReference) → AllByRecursion (HasColumnsNamed all) read → is_listed (names_read read) r.name ≡ true
    → ((columns : Columns) → are_columns_named all r.name columns ≡ true → r.columns ≡ columns) → Contents.columns (contents_named read r.name) ≡ r.columns
referred_read [] all r are h same = absurd (cc h)
referred_read (t ∷ read) all r (first, are) h same =
    by (bytes_eq t.name r.name) refl h (λ k. referred_read read all r are k same)
  where
    by : (e : Bool) → bytes_eq t.name r.name ≡ e → (e || is_listed (names_read read) r.name) ≡ true → (is_listed (names_read read) r.name ≡ true → Contents.columns (contents_named read r.name) ≡ r.columns)
        → Contents.columns (if e then t.contents else contents_named read r.name) ≡ r.columns
    by true e k again = sym (same t.contents.columns (ap (λ (n : List ℕ). are_columns_named all n t.contents.columns) (sym ((bytes_eq-Decides t.name r.name).0 e)) ∙ first))
    by false e k again = again k

own_columns : (r : TableReference) (columns : Columns) → (r.maker == 0) ≡ true → are_columns_of r.name columns r ≡ true → r.columns ≡ columns
own_columns r columns stored h =
    columns_equal r.columns columns
    (ap (λ (b : Bool). not b || same_columns r.columns columns) (sym (ap (λ (b : Bool). b && bytes_eq r.name r.name) stored ∙ (bytes_eq-Decides r.name r.name).1 refl)) ∙ h)

-- what is asked of all columns of a table is asked of a reference's
abbrev AsksOf : List TableReference → TableReference → Type 0
AsksOf all r = (name : List ℕ) (columns : Columns) → are_columns_named all name columns ≡ true → are_columns_of name columns r ≡ true

asks_of_references : (all references : List TableReference) → ((name : List ℕ) (columns : Columns) → are_columns_named all name columns ≡ true → list_all (are_columns_of name columns) references ≡ true)
    → AllByRecursion (AsksOf all) references
asks_of_references all [] asks = tt
asks_of_references all (r ∷ references) asks = (
  λ name columns h. (both_hold (are_columns_of name columns r) (list_all (are_columns_of name columns) references) (asks name columns h)).0,
  asks_of_references all references (λ name columns h. (both_hold (are_columns_of name columns r) (list_all (are_columns_of name columns) references) (asks name columns h)).1),
)

-- ---- the names of tables that an object reads

or_none : (b : Bool) → b ≡ (b || false)
or_none true = refl
or_none false = refl

known_named : (a b k n l : Bool) → (b ≡ true → n ≡ k) → (((a && b) || k) || l) ≡ (k || ((b && (a && not n)) || l))
known_named true true true n l same = refl
known_named true true false true l same = absurd (let e = same refl in cc e)
known_named true true false false l same = refl
known_named true false true n l same = refl
known_named true false false n l same = refl
known_named false true true n l same = refl
known_named false true false n l same = refl
known_named false false true n l same = refl
known_named false false false n l same = refl

and_true_is : (b : Bool) → (b || false) ≡ (b && true)
and_true_is true = refl
and_true_is false = refl

and_false_is : (b : Bool) → false ≡ (b && false)
and_false_is true = refl
and_false_is false = refl

new_listed : (known : List ℕ → Bool) (r : TableReference) (name : List ℕ) → is_listed (new_name known r) name ≡ (bytes_eq r.name name && ((r.maker == 0) && not (known r.name)))
new_listed known r name = by ((r.maker == 0) && not (known r.name))
  where
    by : (e : Bool) → is_listed (if e then r.name ∷ [] else []) name ≡ (bytes_eq r.name name && e)
    by true = and_true_is (bytes_eq r.name name)
    by false = and_false_is (bytes_eq r.name name)

-- what is known behind references was known, or is among their names
known_first : (known : List ℕ → Bool) (references : List TableReference) (name : List ℕ) → known_behind_references known references name ≡ (known name || is_listed (first_referred known references) name)
known_first known [] name = or_none (known name)
known_first known (r ∷ references) name =
    let others : List (List ℕ) = first_referred (known_too r known) references in
    known_first (known_too r known) references name
    ∙ known_named (r.maker == 0) (bytes_eq r.name name) (known name) (known r.name) (is_listed others name) (λ e. ap known ((bytes_eq-Decides r.name name).0 e))
    ∙ ap (λ (b : Bool). known name || (b || is_listed others name)) (sym (new_listed known r name))
    ∙ ap (λ (b : Bool). known name || b) (sym (list_any-append (λ (other : List ℕ). bytes_eq other name) (new_name known r) others))

or_known : (a b : Bool) → b ≡ true → (a || b) ≡ true
or_known true b h = refl
or_known false b h = h

still_known : (known : List ℕ → Bool) (references : List TableReference) (name : List ℕ) → known name ≡ true → known_behind_references known references name ≡ true
still_known known [] name h = h
still_known known (r ∷ references) name h = still_known (known_too r known) references name (or_known ((r.maker == 0) && bytes_eq r.name name) (known name) h)

-- a reference to a table of the store is known behind all
abbrev IsKnownIn : (List ℕ → Bool) → TableReference → Type 0
IsKnownIn known r = (r.maker == 0) ≡ true → known r.name ≡ true

own_known : (r : TableReference) (known : List ℕ → Bool) → (r.maker == 0) ≡ true → known_too r known r.name ≡ true
own_known r known stored = ap (λ (b : Bool). (b && bytes_eq r.name r.name) || known r.name) stored ∙ ap (λ (b : Bool). b || known r.name) ((bytes_eq-Decides r.name r.name).1 refl)

each_known : (known : List ℕ → Bool) (references : List TableReference) → AllByRecursion (IsKnownIn (known_behind_references known references)) references
each_known known [] = tt
each_known known (r ∷ references) = (λ stored. still_known (known_too r known) references r.name (own_known r known stored), each_known (known_too r known) references)

all_left : {T : Type 0} (P : T → Type 0) (some others : List T) → AllByRecursion P (some ++ others) → AllByRecursion P some
all_left P [] others all = tt
all_left P (x ∷ some) others (first, all) = (first, all_left P some others all)

all_right : {T : Type 0} (P : T → Type 0) (some others : List T) → AllByRecursion P (some ++ others) → AllByRecursion P others
all_right P [] others all = all
all_right P (x ∷ some) others (first, all) = all_right P some others all

-- ---- linked programs

columns_in : (all references : List TableReference) (read : List NamedTable) → AreTablesRead all (first_referred none_made all) read
    → AllByRecursion (AsksOf all) references → AllByRecursion (IsKnownIn (known_behind_references none_made all)) references → AllByRecursion (HasColumnsStored read) references
columns_in all [] read tables asks known = tt
columns_in all (r ∷ references) read tables (ask, asks) (is, known) = (
  λ stored.
      let listed : is_listed (names_read read) r.name ≡ true =
      ap (λ (names : List (List ℕ)). is_listed names r.name) tables.names_are ∙ sym (known_first none_made all r.name) ∙ is stored in
      referred_read read all r tables.columns listed (λ columns h. own_columns r columns stored (ask r.name columns h)),
  columns_in all references read tables asks known,
)

-- the programs of an object can be run over the tables that were read for it
pub object_links : (codes' : List StagedParts) (references : List TableReference) (names : List (List ℕ)) (read : List NamedTable) → object_linked codes' ≡ true → references ≡ references_of codes' → names ≡ object_inputs codes'
    → AreTablesRead references names read → AreLinked codes' read
object_links codes' references names read linked references_are names_are tables =
    let all : List TableReference = references_of codes' in
    let were : AreTablesRead all (first_referred none_made all) read = subst (λ (rs : List TableReference). AreTablesRead rs (first_referred none_made all) read) references_are
    (subst (λ (ns : List (List ℕ)). AreTablesRead references ns read) names_are tables) in
    record {
      links = (both_hold (is_short codes') (linked_behind [] codes') linked).1;
      columns = columns_in all all read were (asks_of_references all all (λ name columns h. h)) (each_known none_made all);
    }

-- ---- grains without verdicts

pub plain_fits : (bys : ℕ) → IsGrainOf bys (min bys 1)
plain_fits zero = record { within = omega arith; above = λ some. absurd (omega (arith, some)) }
plain_fits (suc n) = record { within = omega arith; above = λ some. omega arith }

reading_fits : (r : ReadingPart) → IsGrainOfReading r (min (number_of_bys r) 1)
reading_fits (reading.Set tables bys) = plain_fits (length bys)
reading_fits (reading.Merge tables bys retains) = plain_fits (length bys)
reading_fits (reading.Stage threads slots) = plain_fits 0
reading_fits reading.Once = plain_fits 0
reading_fits reading.Nothing = plain_fits 0

stages_fit : (stages : List ProgramParts) → AllByRecursion (GrainFits (verdict_named [])) stages
stages_fit [] = tt
stages_fit (stage ∷ stages) = (reading_fits stage.reading, stages_fit stages)

-- where no verdict is told, each grain fits
pub grains_fit : (codes' : List StagedParts) → AllByRecursion (GrainsFit (verdict_named [])) codes'
grains_fit [] = tt
grains_fit (code ∷ codes') = (stages_fit code.stages, grains_fit codes')

-- ---- tables of which rows are kept

-- of each program that has run the tables of which rows are kept have of each name that is kept what all its tables have
abbrev pub HaveKeptAll : (keeps : List ℕ → Bool) → (kept all : List (List NamedTable)) → Type 0
HaveKeptAll keeps [] [] = Unit {0}
HaveKeptAll keeps [] (tables ∷ all) = ⊥
HaveKeptAll keeps (some ∷ kept) [] = ⊥
HaveKeptAll keeps (some ∷ kept) (tables ∷ all) = HaveKept keeps some tables × HaveKeptAll keeps kept all

kept_behind : (keeps : List ℕ → Bool) (kept all : List (List NamedTable)) (some tables : List NamedTable) → HaveKeptAll keeps kept all → HaveKept keeps some tables → HaveKeptAll keeps (kept ++ some ∷ []) (all ++ tables ∷ [])
kept_behind keeps [] [] some tables have is = (is, tt)
kept_behind keeps [] (t ∷ all) some tables have is = absurd have
kept_behind keeps (k ∷ kept) [] some tables have is = absurd have
kept_behind keeps (k ∷ kept) (t ∷ all) some tables (first, have) is = (first, kept_behind keeps kept all some tables have is)

kept_at : (keeps : List ℕ → Bool) (kept all : List (List NamedTable)) (k : ℕ) (name : List ℕ) → HaveKeptAll keeps kept all → keeps name ≡ true
    → contents_named (unwrap_or (slice_get kept k) []) name ≡ contents_named (unwrap_or (slice_get all k) []) name
kept_at keeps [] [] k name have is = refl
kept_at keeps [] (t ∷ all) k name have is = absurd have
kept_at keeps (s ∷ kept) [] k name have is = absurd have
kept_at keeps (s ∷ kept) (t ∷ all) zero name (first, have) is = first name is
kept_at keeps (s ∷ kept) (t ∷ all) (suc k) name (first, have) is = kept_at keeps kept all k name have is

-- tables that are held, as a command holds them
abbrev held_with : List NamedTable → List (List NamedTable) → HeldTables
held_with stored made = record { stored = stored; made = made }

reference_kept : (keeps : List ℕ → Bool) (stored : List NamedTable) (kept all : List (List NamedTable)) (r : TableReference) → HaveKeptAll keeps kept all → IsKeptName keeps r
    → table_held (held_with stored kept) r ≡ table_held (held_with stored all) r
reference_kept keeps stored kept all r have is = by (r.maker == 0) refl
  where
    by : (e : Bool) → (r.maker == 0) ≡ e → contents_named (if e then stored else unwrap_or (slice_get kept (r.maker - 1)) []) r.name ≡ contents_named (if e then stored else unwrap_or (slice_get all (r.maker - 1)) []) r.name
    by true e = refl
    by false e = kept_at keeps kept all (r.maker - 1) r.name have (is e)

references_kept : (keeps : List ℕ → Bool) (stored : List NamedTable) (kept all : List (List NamedTable)) (references : List TableReference) → HaveKeptAll keeps kept all → AllByRecursion (IsKeptName keeps) references
    → map (table_held (held_with stored kept)) references ≡ map (table_held (held_with stored all)) references
references_kept keeps stored kept all [] have are = refl
references_kept keeps stored kept all (r ∷ references) have (is, are) =
    λ i. reference_kept keeps stored kept all r have is i ∷ references_kept keeps stored kept all references have are i

-- ---- programs that are left

-- the references of a program
abbrev references_in : StagedParts → List TableReference
references_in code = program_references code.program code.stages

-- programs that have run, those that are left, what is held of tables, and all tables that programs have made
pub record RunsLeft (keeps : List ℕ → Bool) (told : VerdictsTold) (left : List StagedParts) (stored : List NamedTable) (kept all : List (List NamedTable)) : Type 0 where
  pub earlier : List StagedParts
  pub fit : AllByRecursion (GrainsFit told) left
  pub have : HaveMade earlier all
  pub links : linked_behind earlier left ≡ true
  pub columns : AllByRecursion (HasColumnsStored stored) (references_of left)
  pub named : AllByRecursion (IsKeptName keeps) (references_of left)
  pub held : HaveKeptAll keeps kept all

pub runs_begin : (keeps : List ℕ → Bool) (told : VerdictsTold) (codes' : List StagedParts) (references : List TableReference) (stored : List NamedTable) (kept : List (List NamedTable)) → AllByRecursion (GrainsFit told) codes' → AreLinked codes' stored
    → references ≡ references_of codes' → AllByRecursion (IsKeptName keeps) references → kept ≡ [] → RunsLeft keeps told codes' stored kept []
runs_begin keeps told codes' references stored kept fit linked references_are named none =
    subst (λ (k : List (List NamedTable)). RunsLeft keeps told codes' stored k []) (sym none)
    (record { earlier = []; fit = fit; have = tt; links = linked.links; columns = linked.columns; named = subst (λ (rs : List TableReference). AllByRecursion (IsKeptName keeps) rs) references_are named; held = tt })

module _ (keeps : List ℕ → Bool) (told : VerdictsTold) (stored : List NamedTable) where
  first_left : (left after : List StagedParts) (code : StagedParts) (kept all : List (List NamedTable)) → left ≡ code ∷ after → RunsLeft keeps told left stored kept all → RunsLeft keeps told (code ∷ after) stored kept all
  first_left left after code kept all is runs = subst (λ (cs : List StagedParts). RunsLeft keeps told cs stored kept all) is runs

  -- what the next program names is held as if all tables were
  pub next_tables : (left after : List StagedParts) (code : StagedParts) (kept all : List (List NamedTable)) → left ≡ code ∷ after → RunsLeft keeps told left stored kept all
      → tables_held (held_with stored kept) code ≡ tables_held (held_with stored all) code
  next_tables left after code kept all is runs =
      let first = first_left left after code kept all is runs in
      references_kept keeps stored kept all (references_in code) first.held (all_left (IsKeptName keeps) (references_in code) (references_of after) first.named)

  -- the next program can be run
  pub next_runs : (left after : List StagedParts) (code : StagedParts) (kept all : List (List NamedTable)) → left ≡ code ∷ after → RunsLeft keeps told left stored kept all
      → GrainsFit told code × AreTablesOfCode code (tables_held (held_with stored kept) code)
  next_runs left after code kept all is runs =
      let first = first_left left after code kept all is runs in
      let links = both_hold (program_linked first.earlier code) (linked_behind (first.earlier ++ code ∷ []) after) first.links in (
        first.fit.0,
        subst (λ (ts : List Contents). AreTablesOfCode code ts) (sym (next_tables left after code kept all is runs))
            (code_held first.earlier (held_with stored all) code first.have (all_left (HasColumnsStored stored) (references_in code) (references_of after) first.columns) links.0),
      )

  -- behind it the others can be run
  pub others_run : (left after : List StagedParts) (code : StagedParts) (kept all behind : List (List NamedTable)) (some tables : List NamedTable) → left ≡ code ∷ after → behind ≡ kept ++ some ∷ []
      → HaveKept keeps some tables → MakesTables code tables → RunsLeft keeps told left stored kept all → RunsLeft keeps told after stored behind (all ++ tables ∷ [])
  others_run left after code kept all behind some tables is behind_is keep makes runs =
      let first = first_left left after code kept all is runs in
      let links = both_hold (program_linked first.earlier code) (linked_behind (first.earlier ++ code ∷ []) after) first.links in
      subst (λ (k : List (List NamedTable)). RunsLeft keeps told after stored k (all ++ tables ∷ [])) (sym behind_is)
      (record {
        earlier = first.earlier ++ code ∷ [];
        fit = first.fit.1;
        have = made_more first.earlier all code tables first.have makes;
        links = links.1;
        columns = all_right (HasColumnsStored stored) (references_in code) (references_of after) first.columns;
        named = all_right (IsKeptName keeps) (references_in code) (references_of after) first.named;
        held = kept_behind keeps kept all some tables first.held keep;
      })
