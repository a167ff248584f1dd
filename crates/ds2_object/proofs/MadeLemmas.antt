-- Tables that programs make: their columns, their spellings, sets of these.
use Rattle.std.proofs.Common.{◌≡◌, ℕ, zero, suc, ◌-◌, ◌^◌, ◌==◌, ◌<◌, ◌≤◌, Bool, true, false, ◌&&◌, ◌||◌, IsTrue, List, [], ◌∷◌, ◌++◌, length, map, take, drop, get_or, slice_get, nat_lt, Option, Some, None, option_map, refl, sym, ap, subst, ◌∙◌, eqb-true, eq-eqb, arith}
use Rattle.std.specs.Prelude.{bytes_eq}
use Rattle.std.specs.List.{list_all, list_any}
use Rattle.std.specs.Option.{option_map_or}
use Rattle.std.proofs.lemmas.Bool.{ltb-true}
use Rattle.std.proofs.lemmas.List.{length-map, take_rest}
use Rattle.std.proofs.lemmas.Slice.Eq.{bytes_eq-Decides}
use Rattle.std.proofs.Math.Bool.{and-false}
use Rattle.ds2_base.specs.Bytes.{Bytes}
use Rattle.ds2_token.specs.Words.{is_table_name}
use Rattle.ds2_value.specs.Types.{in_bounds, same_ty}
use Rattle.ds2_value.specs.declared.schema.Column.{Column}
use Rattle.ds2_value.specs.declared.ty.Ty.{Ty}
use Rattle.ds2_value.specs.declared.ty.Ty.TheVariants.{BigInt, Decimal as DecimalOf, Char, Varchar}
use Rattle.ds2_code.specs.ValidCode.{is_short, hash_in_range, all_below, reading_in_range, output_in_range, own_lists_short, hash_short, method_short, reading_short, constant_allowed, reference_allowed, method_allowed, reading_allowed, IsValidProgram, IsValidChain, IsValidStaged}
use Rattle.ds2_code.specs.declared.parts.HashPart.{HashPart}
use Rattle.ds2_code.specs.declared.parts.HashTable.{HashTable}
use Rattle.ds2_code.specs.declared.parts.OutputPart.{OutputPart}
use Rattle.ds2_code.specs.declared.parts.ProgramParts.{ProgramParts}
use Rattle.ds2_code.specs.declared.parts.Slot.{Slot}
use Rattle.ds2_code.specs.declared.parts.StagedParts.{StagedParts}
use Rattle.ds2_code.specs.declared.parts.TableReference.{TableReference}
use Rattle.ds2_object_words.specs.CodeParts.{reference_line}
use Rattle.ds2_object_words.specs.Parts.{number32_part, Writes, ItemsWritten}
use Rattle.ds2_object_words.specs.Words.{name_part, table_name_part, type_part, column_part}
use Rattle.ds2_object_words.proofs.CodePartLemmas.{reference_law}
use Rattle.ds2_object_words.proofs.ListSteps.{ItemsLeft, first_ruled, none_written, one_written, all_written}
use Rattle.ds2_object_words.proofs.PartLemmas.{both, and_true, begins_no_other}
use Rattle.ds2_object_words.proofs.WriteSteps.{column_written, reference_written, list_written, any_items}
use Rattle.ds2_object.specs.MadeTables.{has_spelled_slot, made_table_column, is_spelled_output, made_table, is_output_of, is_among_outputs, SpellingSet, has_bytes, has_spelling, AddsTables, HasMade}
use Rattle.ds2_object.specs.ObjectSpelling.{is_slot_of, column_is, columns_are, output_is, has_maker}

-- ---- truth

same_truth : (a b : Bool) → (a ≡ true → b ≡ true) → (b ≡ true → a ≡ true) → a ≡ b
same_truth true b f g = sym (f refl)
same_truth false true f g = g refl
same_truth false false f g = refl

-- ---- types and columns

type_is : (t u : Ty) → same_ty t u ≡ true → t ≡ u
type_is BigInt BigInt h = refl
type_is BigInt (DecimalOf q t) h = absurd cc
type_is BigInt (Char m) h = absurd cc
type_is BigInt (Varchar m) h = absurd cc
type_is (DecimalOf p s) BigInt h = absurd cc
type_is (DecimalOf p s) (DecimalOf q t) h =
    let k = both (p == q) (s == t) h in ap (λ z. DecimalOf z s) (eqb-true p q k.0) ∙ ap (λ z. DecimalOf q z) (eqb-true s t k.1)
type_is (DecimalOf p s) (Char m) h = absurd cc
type_is (DecimalOf p s) (Varchar m) h = absurd cc
type_is (Char n) BigInt h = absurd cc
type_is (Char n) (DecimalOf q t) h = absurd cc
type_is (Char n) (Char m) h = ap (λ z. Char z) (eqb-true n m h)
type_is (Char n) (Varchar m) h = absurd cc
type_is (Varchar n) BigInt h = absurd cc
type_is (Varchar n) (DecimalOf q t) h = absurd cc
type_is (Varchar n) (Char m) h = absurd cc
type_is (Varchar n) (Varchar m) h = ap (λ z. Varchar z) (eqb-true n m h)

type_same : (t : Ty) → same_ty t t ≡ true
type_same BigInt = refl
type_same (DecimalOf p s) = and_true (p == p) (s == s) (eq-eqb p p refl) (eq-eqb s s refl)
type_same (Char n) = eq-eqb n n refl
type_same (Varchar n) = eq-eqb n n refl

bytes_same : (xs : Bytes) → bytes_eq xs xs ≡ true
bytes_same xs = (bytes_eq-Decides xs xs).1 refl

slot_is : (o : Option Slot) (ty : Ty) → IsTrue (option_map_or (same_ty ty) (option_map (λ (s : Slot). s.ty) o) false) → option_map_or (λ (s : Slot). s.ty) o BigInt ≡ ty
slot_is None ty h = absurd (let k : false ≡ true = h in cc)
slot_is (Some s) ty h = sym (type_is ty s.ty h)

slot_same : (o : Option Slot) → IsTrue (option_map_or (λ (s : Slot). in_bounds s.ty) o false)
    → IsTrue (option_map_or (same_ty (option_map_or (λ (s : Slot). s.ty) o BigInt)) (option_map (λ (s : Slot). s.ty) o) false)
slot_same None h = absurd (let k : false ≡ true = h in cc)
slot_same (Some s) h = type_same s.ty

-- columns of a table that are those of an output
columns_back : (slots : List Slot) (made : List (Bytes × ℕ)) (columns : List Column) → IsTrue (columns_are slots made columns) → map (made_table_column slots) made ≡ columns
columns_back slots [] [] h = refl
columns_back slots [] (c ∷ cs) h = absurd (let k : false ≡ true = h in cc)
columns_back slots (o ∷ os) [] h = absurd (let k : false ≡ true = h in cc)
columns_back slots (o ∷ os) (c ∷ cs) h =
    let k = both (column_is slots o c) (columns_are slots os cs) h in
    let m = both (bytes_eq o.0 c.name) (is_slot_of slots o.1 c.ty) k.0 in
    let name : o.0 ≡ c.name = (bytes_eq-Decides o.0 c.name).0 m.0 in
    let ty : option_map_or (λ (s : Slot). s.ty) (slice_get slots o.1) BigInt ≡ c.ty = slot_is (slice_get slots o.1) c.ty m.1 in
    let first : made_table_column slots o ≡ c = rw (name, ty) refl in
    rw (first, columns_back slots os cs k.1) refl

-- and the columns of an output are those of it as a table
columns_there : (slots : List Slot) (made : List (Bytes × ℕ)) → IsTrue (list_all (has_spelled_slot slots) made) → IsTrue (columns_are slots made (map (made_table_column slots) made))
columns_there slots [] h = refl
columns_there slots (o ∷ os) h =
    let k = both (has_spelled_slot slots o) (list_all (has_spelled_slot slots) os) h in
    and_true (column_is slots o (made_table_column slots o)) (columns_are slots os (map (made_table_column slots) os))
    (and_true (bytes_eq o.0 o.0) (is_slot_of slots o.1 (made_table_column slots o).ty) (bytes_same o.0) (slot_same (slice_get slots o.1) k.0)) (columns_there slots os k.1)

-- a column that was written
pub made_column_written : (slots : List Slot) (made : Bytes × ℕ) (s : Slot) (a b c : Bytes) → slice_get slots made.1 ≡ Some s → Writes name_part a made.0 b → Writes type_part b s.ty c
    → Writes column_part a (made_table_column slots made) c
made_column_written slots made s a b c e name ty =
    let same : option_map_or (λ (s : Slot). s.ty) (slice_get slots made.1) BigInt ≡ s.ty = rw e refl in
    column_written {x = made_table_column slots made} name (subst (λ (t : Ty). Writes type_part b t c) (sym same) ty)

-- the type of a slot that is there
pub slot_bounds : (slots : List Slot) (made : Bytes × ℕ) (s : Slot) → slice_get slots made.1 ≡ Some s → IsTrue (has_spelled_slot slots made) → IsTrue (in_bounds s.ty)
slot_bounds slots made s e h = ap (λ (o : Option Slot). option_map_or (λ (s : Slot). in_bounds s.ty) o false) (sym e) ∙ h

pub no_slot : (slots : List Slot) (made : Bytes × ℕ) → slice_get slots made.1 ≡ None → IsTrue (has_spelled_slot slots made) → ⊥
no_slot slots made e h = absurd (let k : false ≡ true = ap (λ (o : Option Slot). option_map_or (λ (s : Slot). in_bounds s.ty) o false) (sym e) ∙ h in cc)

-- ---- columns, one after the other

-- a list that is not empty, by its first item and those behind it
pub first_and_rest : {A : Type 0} (xs : List A) (x : A) → 1 ≤ length xs → x ≡ get_or xs 0 x → xs ≡ x ∷ take (length xs - 1) (drop 1 xs)
first_and_rest [] x some first = absurd (omega arith)
first_and_rest {A} (y ∷ xs) x some first = ap (λ (z : A). z ∷ xs) (sym first) ∙ ap (λ (t : List A). x ∷ t) (sym (take_rest (y ∷ xs) 1))

-- nothing is asked of a column
abbrev pub any_column : Column → Bool
any_column c = true

pub none_behind : {A : Type 0} (xs : List A) → length xs < 1 → xs ≡ []
none_behind [] none = refl
none_behind (x ∷ xs) none = absurd (omega arith)

-- how far the columns of an output are written
pub record ColumnsLeft (before : Bytes) (slots : List Slot) (columns : List (Bytes × ℕ)) (out : Bytes) (rest : List (Bytes × ℕ)) : Type 0 where
  pub items : ItemsLeft column_part any_column before (map (made_table_column slots) columns) out (map (made_table_column slots) rest)
  pub there : IsTrue (list_all (has_spelled_slot slots) rest)

pub columns_begun : (before : Bytes) (slots : List Slot) (columns : List (Bytes × ℕ)) → IsTrue (list_all (has_spelled_slot slots) columns) → ColumnsLeft before slots columns before columns
columns_begun before slots columns h = record { items = none_written column_part any_column before (map (made_table_column slots) columns) (any_items (map (made_table_column slots) columns)); there = h }

pub first_column : (before : Bytes) (slots : List Slot) (columns : List (Bytes × ℕ)) (out : Bytes) (c : Bytes × ℕ) (whole rest : List (Bytes × ℕ)) → whole ≡ c ∷ rest
    → ColumnsLeft before slots columns out whole → IsTrue (has_spelled_slot slots c)
first_column before slots columns out c whole rest e left = first_ruled (has_spelled_slot slots) c whole rest e left.there

pub column_more : (before : Bytes) (slots : List Slot) (columns : List (Bytes × ℕ)) (out : Bytes) (c : Bytes × ℕ) (whole rest : List (Bytes × ℕ)) (after : Bytes) → whole ≡ c ∷ rest
    → ColumnsLeft before slots columns out whole → Writes column_part out (made_table_column slots c) after → ColumnsLeft before slots columns after rest
column_more before slots columns out c whole rest after e left written = record {
  items = one_written column_part any_column before (map (made_table_column slots) columns) out (made_table_column slots c) (map (made_table_column slots) whole) (map (made_table_column slots) rest) after
      (ap (map (made_table_column slots)) e) left.items written;
  there = (both (has_spelled_slot slots c) (list_all (has_spelled_slot slots) rest) (ap (list_all (has_spelled_slot slots)) (sym e) ∙ left.there)).1;
}

pub columns_all : (before : Bytes) (slots : List Slot) (columns : List (Bytes × ℕ)) (out : Bytes) (rest : List (Bytes × ℕ)) → rest ≡ [] → ColumnsLeft before slots columns out rest
    → ItemsWritten column_part before (map (made_table_column slots) columns) out
columns_all before slots columns out rest e left =
    all_written column_part any_column before (map (made_table_column slots) columns) out (map (made_table_column slots) rest) (ap (map (made_table_column slots)) e) left.items

-- ---- outputs

pub output_named : (slots : List Slot) (o : OutputPart) → IsTrue (is_spelled_output slots o) → IsTrue (is_table_name o.name)
output_named slots o h = (both (is_table_name o.name) (is_short o.columns) (both (is_table_name o.name && is_short o.columns) (list_all (has_spelled_slot slots) o.columns) h).0).0

pub output_short : (slots : List Slot) (o : OutputPart) → IsTrue (is_spelled_output slots o) → length o.columns < 2 ^ 32
output_short slots o h =
    let k = both (is_table_name o.name && is_short o.columns) (list_all (has_spelled_slot slots) o.columns) h in
    ltb-true (length o.columns) (2 ^ 32) (both (is_table_name o.name) (is_short o.columns) k.0).1

pub output_slots : (slots : List Slot) (o : OutputPart) → IsTrue (is_spelled_output slots o) → IsTrue (list_all (has_spelled_slot slots) o.columns)
output_slots slots o h = (both (is_table_name o.name && is_short o.columns) (list_all (has_spelled_slot slots) o.columns) h).1

-- an output that was written as a table
pub table_spelled : (slots : List Slot) (maker : ℕ) (o : OutputPart) (a b c d e : Bytes) → a ≡ [] → Writes table_name_part a o.name b → Writes number32_part b maker c
    → Writes number32_part c (length o.columns) d → ItemsWritten column_part d (map (made_table_column slots) o.columns) e → Writes reference_line [] (made_table slots maker o) e
table_spelled slots maker o a b c d e empty named number count columns =
    let name : Writes table_name_part [] o.name b = subst (λ (z : Bytes). Writes table_name_part z o.name b) empty named in
    let same : length (map (made_table_column slots) o.columns) ≡ length o.columns = length-map o.columns (made_table_column slots) in
    let counted : Writes number32_part c (length (map (made_table_column slots) o.columns)) d = rw same count in
    reference_written {x = made_table slots maker o} name number (list_written counted columns)

output_back : (maker : ℕ) (slots : List Slot) (o : OutputPart) (r : TableReference) → IsTrue (is_output_of maker slots o r) → made_table slots maker o ≡ r
output_back maker slots o r h =
    let k = both (r.maker == maker) (output_is slots r o) h in
    let m = both (bytes_eq o.name r.name) (columns_are slots o.columns r.columns) k.1 in
    let number : maker ≡ r.maker = sym (eqb-true r.maker maker k.0) in
    let name : o.name ≡ r.name = (bytes_eq-Decides o.name r.name).0 m.0 in
    let columns : map (made_table_column slots) o.columns ≡ r.columns = columns_back slots o.columns r.columns m.1 in
    rw (number, name, columns) refl

output_there : (maker : ℕ) (slots : List Slot) (o : OutputPart) → IsTrue (is_spelled_output slots o) → IsTrue (is_output_of maker slots o (made_table slots maker o))
output_there maker slots o h =
    and_true (maker == maker) (output_is slots (made_table slots maker o) o) (eq-eqb maker maker refl)
    (and_true (bytes_eq o.name o.name) (columns_are slots o.columns (map (made_table_column slots) o.columns)) (bytes_same o.name) (columns_there slots o.columns (output_slots slots o h)))

-- a spelling of an output is that of a table exactly where the table is the output
key_is : (maker : ℕ) (slots : List Slot) (o : OutputPart) (r : TableReference) (key : Bytes) → Writes reference_line [] (made_table slots maker o) key → IsTrue (is_spelled_output slots o)
    → IsTrue (reference_line.allows r) → bytes_eq key (reference_line.spelled r) ≡ is_output_of maker slots o r
key_is maker slots o r key written spelled allowed =
    same_truth (bytes_eq key (reference_line.spelled r)) (is_output_of maker slots o r)
    (λ e.
    let same : reference_line.spelled (made_table slots maker o) ≡ reference_line.spelled r = sym written.bytes ∙ (bytes_eq-Decides key (reference_line.spelled r)).0 e in
    let is : made_table slots maker o ≡ r =
    (begins_no_other reference_line reference_law (made_table slots maker o) r [] [] written.allowed allowed (ap (λ (z : Bytes). z ++ []) same)).0 in
    subst (λ (z : TableReference). IsTrue (is_output_of maker slots o z)) is (output_there maker slots o spelled))
    (λ e.
    let is : made_table slots maker o ≡ r = output_back maker slots o r e in
    (bytes_eq-Decides key (reference_line.spelled r)).1 (written.bytes ∙ ap reference_line.spelled is))

-- ---- sets

-- an output whose spelling was put into a set
pub output_added : (maker : ℕ) (slots : List Slot) (o : OutputPart) (key : Bytes) (before after : SpellingSet) → Writes reference_line [] (made_table slots maker o) key
    → IsTrue (is_spelled_output slots o) → ((other : Bytes) → has_bytes after other ≡ (bytes_eq key other || has_bytes before other))
    → AddsTables before (is_output_of maker slots o) after
output_added maker slots o key before after written spelled added = λ r allowed.
    added (reference_line.spelled r) ∙ ap (λ (b : Bool). b || has_spelling before r) (key_is maker slots o r key written spelled allowed)

-- how far outputs are put into a set
pub record OutputsLeft (before : SpellingSet) (maker : ℕ) (slots : List Slot) (outputs : List OutputPart) (made : SpellingSet) (rest : List OutputPart) : Type 0 where
  pub tables : (r : TableReference) → IsTrue (reference_line.allows r)
      → (is_among_outputs maker slots rest r || has_spelling made r) ≡ (is_among_outputs maker slots outputs r || has_spelling before r)
  pub spelled : IsTrue (list_all (is_spelled_output slots) rest)

pub outputs_begun : (before : SpellingSet) (maker : ℕ) (slots : List Slot) (outputs : List OutputPart) → IsTrue (list_all (is_spelled_output slots) outputs)
    → OutputsLeft before maker slots outputs before outputs
outputs_begun before maker slots outputs h = record { tables = λ r allowed. refl; spelled = h }

pub output_first : (before : SpellingSet) (maker : ℕ) (slots : List Slot) (outputs : List OutputPart) (made : SpellingSet) (o : OutputPart) (whole rest : List OutputPart)
    → whole ≡ o ∷ rest → OutputsLeft before maker slots outputs made whole → IsTrue (is_spelled_output slots o)
output_first before maker slots outputs made o whole rest e left = first_ruled (is_spelled_output slots) o whole rest e left.spelled

regrouped : (is this others old : Bool) → ((is && others) || ((is && this) || old)) ≡ ((is && (this || others)) || old)
regrouped false this others old = refl
regrouped true true true old = refl
regrouped true true false old = refl
regrouped true false true old = refl
regrouped true false false old = refl

pub output_more : (before : SpellingSet) (maker : ℕ) (slots : List Slot) (outputs : List OutputPart) (made after : SpellingSet) (o : OutputPart) (whole rest : List OutputPart)
    → whole ≡ o ∷ rest → OutputsLeft before maker slots outputs made whole → AddsTables made (is_output_of maker slots o) after → OutputsLeft before maker slots outputs after rest
output_more before maker slots outputs made after o whole rest e left added = record {
  tables = λ r allowed.
      ap (λ (b : Bool). is_among_outputs maker slots rest r || b) (added r allowed)
      ∙ regrouped (r.maker == maker) (output_is slots r o) (list_any (output_is slots r) rest) (has_spelling made r)
      ∙ ap (λ (os : List OutputPart). is_among_outputs maker slots os r || has_spelling made r) (sym e) ∙ left.tables r allowed;
  spelled = (both (is_spelled_output slots o) (list_all (is_spelled_output slots) rest) (ap (list_all (is_spelled_output slots)) (sym e) ∙ left.spelled)).1;
}

pub outputs_all : (before : SpellingSet) (maker : ℕ) (slots : List Slot) (outputs : List OutputPart) (made : SpellingSet) (rest : List OutputPart) → rest ≡ []
    → OutputsLeft before maker slots outputs made rest → AddsTables before (is_among_outputs maker slots outputs) made
outputs_all before maker slots outputs made rest e left = λ r allowed.
    sym (ap (λ (b : Bool). b || has_spelling made r) (and-false (r.maker == maker)))
    ∙ ap (λ (os : List OutputPart). is_among_outputs maker slots os r || has_spelling made r) (sym e) ∙ left.tables r allowed

-- ---- outputs of valid code

slot_bound : (slots : List Slot) (n : ℕ) → IsTrue (list_all (λ (s : Slot). in_bounds s.ty) slots) → n < length slots → IsTrue (option_map_or (λ (s : Slot). in_bounds s.ty) (slice_get slots n) false)
slot_bound [] n h lt = absurd (omega (arith, lt))
slot_bound (s ∷ slots) zero h lt = (both (in_bounds s.ty) (list_all (λ (s : Slot). in_bounds s.ty) slots) h).0
slot_bound (s ∷ slots) (suc n) h lt =
    let less : n < length slots = omega (arith, lt) in
    slot_bound slots n (both (in_bounds s.ty) (list_all (λ (s : Slot). in_bounds s.ty) slots) h).1 less

columns_bound : (slots : List Slot) (columns : List (Bytes × ℕ)) → IsTrue (list_all (λ (s : Slot). in_bounds s.ty) slots)
    → IsTrue (list_all (λ (c : Bytes × ℕ). nat_lt c.1 (length slots)) columns) → IsTrue (list_all (has_spelled_slot slots) columns)
columns_bound slots [] h k = refl
columns_bound slots (c ∷ columns) h k =
    let m = both (nat_lt c.1 (length slots)) (list_all (λ (c : Bytes × ℕ). nat_lt c.1 (length slots)) columns) k in
    and_true (has_spelled_slot slots c) (list_all (has_spelled_slot slots) columns) (slot_bound slots c.1 h (ltb-true c.1 (length slots) m.0)) (columns_bound slots columns h m.1)

outputs_bound : (slots : List Slot) (outputs : List OutputPart) → IsTrue (list_all (λ (s : Slot). in_bounds s.ty) slots) → IsTrue (list_all (λ (o : OutputPart). is_table_name o.name) outputs)
    → IsTrue (list_all (λ (o : OutputPart). is_short o.columns) outputs) → IsTrue (list_all (output_in_range (length slots)) outputs) → IsTrue (list_all (is_spelled_output slots) outputs)
outputs_bound slots [] bounds named short ranges = refl
outputs_bound slots (o ∷ outputs) bounds named short ranges =
    let k = both (is_table_name o.name) (list_all (λ (o : OutputPart). is_table_name o.name) outputs) named in
    let m = both (is_short o.columns) (list_all (λ (o : OutputPart). is_short o.columns) outputs) short in
    let n = both (output_in_range (length slots) o) (list_all (output_in_range (length slots)) outputs) ranges in
    and_true (is_spelled_output slots o) (list_all (is_spelled_output slots) outputs)
    (and_true (is_table_name o.name && is_short o.columns) (list_all (has_spelled_slot slots) o.columns) (and_true (is_table_name o.name) (is_short o.columns) k.0 m.0)
    (columns_bound slots o.columns bounds n.0)) (outputs_bound slots outputs bounds k.1 m.1 n.1)

program_outputs : (code : ProgramParts) (stage : Option ProgramParts) → IsValidProgram code stage → IsTrue (list_all (is_spelled_output code.slots) code.outputs)
program_outputs code stage v =
    let n = length code.slots in
    let outputs_short = λ (o : OutputPart). is_short o.columns in
    let outputs_named = λ (o : OutputPart). is_table_name o.name in
    let loaded_allowed = λ (h : HashPart). option_map_or (λ (t : HashTable). reference_allowed t.table) h.loaded true in
    let values = both (list_all (λ (s : Slot). in_bounds s.ty) code.slots && list_all constant_allowed code.constants)
    ((list_all loaded_allowed code.hashes && list_all method_allowed code.methods) && (reading_allowed code.reading && list_all outputs_named code.outputs)) v.values in
    let bounds = both (list_all (λ (s : Slot). in_bounds s.ty) code.slots) (list_all constant_allowed code.constants) values.0 in
    let late = both (list_all loaded_allowed code.hashes && list_all method_allowed code.methods) (reading_allowed code.reading && list_all outputs_named code.outputs) values.1 in
    let named = both (reading_allowed code.reading) (list_all outputs_named code.outputs) late.1 in
    let lists = both (own_lists_short code)
    ((list_all hash_short code.hashes && list_all method_short code.methods) && (reading_short code.reading && list_all outputs_short code.outputs)) v.lists in
    let inner = both (list_all hash_short code.hashes && list_all method_short code.methods) (reading_short code.reading && list_all outputs_short code.outputs) lists.1 in
    let short = both (reading_short code.reading) (list_all outputs_short code.outputs) inner.1 in
    let parts = both (list_all (hash_in_range n) code.hashes && (all_below (length code.hashes) code.iterators && all_below n code.parameters))
    (reading_in_range n code.reading && list_all (output_in_range n) code.outputs) v.ranges in
    let ranges = both (reading_in_range n code.reading) (list_all (output_in_range n) code.outputs) parts.1 in
    outputs_bound code.slots code.outputs bounds.0 named.1 short.1 ranges.1

chain_outputs : (code : ProgramParts) (stages : List ProgramParts) → IsValidChain code stages → IsTrue (list_all (is_spelled_output code.slots) code.outputs)
chain_outputs code [] v = program_outputs code None v
chain_outputs code (stage ∷ stages) v = program_outputs code (Some stage) v.0

-- the outputs of valid code have spellings
pub valid_outputs : (s : StagedParts) → IsValidStaged s → IsTrue (list_all (is_spelled_output s.program.slots) s.program.outputs)
valid_outputs s v = chain_outputs s.program s.stages v.chain

-- ---- look-ups

-- a table of the store
pub stored : (r : TableReference) (set : SpellingSet) (earlier : List StagedParts) → r.maker ≡ 0 → HasMade set earlier → true ≡ has_maker earlier r
stored r set earlier e has = rw e refl

-- a table that was looked up
pub looked_up : (r : TableReference) (set : SpellingSet) (empty key : Bytes) (is : Bool) (earlier : List StagedParts) → (r.maker == 0) ≡ false → empty ≡ []
    → Writes reference_line empty r key → is ≡ has_bytes set key → HasMade set earlier → is ≡ has_maker earlier r
looked_up r set empty key is earlier e begun written found has =
    let spelled : key ≡ reference_line.spelled r = written.bytes ∙ ap (λ (z : Bytes). z ++ reference_line.spelled r) begun in
    found ∙ ap (has_bytes set) spelled ∙ sym (ap (λ (b : Bool). b || has_spelling set r) e) ∙ has r written.allowed
