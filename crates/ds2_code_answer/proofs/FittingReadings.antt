-- The reading statement of valid code fits the tables that the code names.
use Rattle.std.proofs.Common.{◌≡◌, ℕ, zero, suc, ◌+◌, Bool, true, false, ◌&&◌, ◌||◌, if◌then◌else◌, List, [], ◌∷◌, ◌++◌, length, map, drop, Option, Some, None, refl, sym, ap, ◌∙◌, subst, add-one, slice_get, nat_eq, nat_le, ◌==◌}
use Rattle.std.specs.List.{list_all, list_any}
use Rattle.std.specs.Option.{option_map_or}
use Rattle.std.proofs.lemmas.Bool.{eqb-true, eq-eqb}
use Rattle.std.proofs.lemmas.List.{length-map}
use Rattle.ds2_value.specs.Row.{Columns}
use Rattle.ds2_value.specs.Schema.{distinct_names}
use Rattle.ds2_value.specs.declared.schema.Column.{Column}
use Rattle.ds2_value.specs.declared.ty.Ty.{Ty}
use Rattle.ds2_value.specs.declared.ty.Ty.TheVariants.{BigInt, Decimal as DecimalOf, Char, Varchar}
use Rattle.ds2_table.specs.Table.{Contents}
use Rattle.ds2_reading.specs.ReadingFits.{column_type_at, is_of_number_kind, by_column_is, are_by_columns, by_key_fits, by_keys_fit, read_table_fits, read_tables_fit, reading_fits_tables}
use Rattle.ds2_code.specs.declared.parts.ByPart.{ByPart}
use Rattle.ds2_code.specs.declared.parts.HashPart.{HashPart}
use Rattle.ds2_code.specs.declared.parts.ProgramParts.{ProgramParts}
use Rattle.ds2_code.specs.declared.parts.ReadPart.{ReadPart}
use Rattle.ds2_code.specs.declared.parts.ReadingPart.{ReadingPart}
use Rattle.ds2_code.specs.declared.parts.ReadingPart.TheVariants as reading
use Rattle.ds2_code.specs.declared.parts.Slot.{Slot}
use Rattle.ds2_code.specs.OperandTypes.{slot_type}
use Rattle.ds2_code.specs.ValidCode.{all_below, hash_in_range, reading_in_range, read_in_range, by_in_range, tables_in_range, output_in_range, joins_to_slot, columns_fit, is_flag_slot, is_among_numbers, read_fits, by_fits, hash_table_fits, output_fits, reading_fits, tables_fit, IsValidProgram, IsValidChain}
use Rattle.ds2_code_answer.specs.CodeLoads.{read_numbered, reads_numbered, by_key_of_part, reading_over, reading_numbered}
use Rattle.ds2_code_answer.specs.CodeTables.{hash_references, reading_references, program_references, columns_named, columns_had}
use Rattle.ds2_code_answer.specs.CodeLoadLaws.{ReadingsFitTables}

-- ---- tests

both : (a b : Bool) → (a && b) ≡ true → (a ≡ true) × (b ≡ true)
both true b h = (refl, h)
both false b h = absurd cc

together : (a b : Bool) → a ≡ true → b ≡ true → (a && b) ≡ true
together true b g h = h
together false b g h = absurd cc

behind_or : (b : Bool) → (b || true) ≡ true
behind_or true = refl
behind_or false = refl

either_kind : (f : Bool → Bool) (k : Bool) → f k ≡ true → (f true || f false) ≡ true
either_kind f true h = ap (λ z. z || f false) h
either_kind f false h = ap (λ z. f true || z) h ∙ behind_or (f true)

all_both : {A : Type 0} (f g : A → Bool) (xs : List A) → list_all (λ x. f x && g x) xs ≡ true → (list_all f xs ≡ true) × (list_all g xs ≡ true)
all_both f g [] h = (refl, refl)
all_both f g (x ∷ xs) h =
    let here = both (f x && g x) (list_all (λ y. f y && g y) xs) h in
    let one = both (f x) (g x) here.0 in
    let rest = all_both f g xs here.1 in
    (together (f x) (list_all f xs) one.0 rest.0, together (g x) (list_all g xs) one.1 rest.1)

-- ---- lists

behind_first : {A : Type 0} (xs : List A) (k : ℕ) (c : A) (cs : List A) → drop k xs ≡ c ∷ cs → (slice_get xs k ≡ Some c) × (drop (suc k) xs ≡ cs)
behind_first [] zero c cs h = absurd cc
behind_first [] (suc k) c cs h = absurd cc
behind_first (x ∷ xs) zero c cs h = let same : x ≡ c = cc in let rest : xs ≡ cs = cc in (ap Some same, rest)
behind_first (x ∷ xs) (suc k) c cs h = behind_first xs k c cs h

behind_all : {A B : Type 0} (f : A → B) (hs rs : List A) → drop (length hs) (map f (hs ++ rs)) ≡ map f rs
behind_all f [] rs = refl
behind_all f (h ∷ hs) rs = behind_all f hs rs

-- ---- a table

-- a table of a number, with these columns
record HasTableAt (tables : List Contents) (number : ℕ) (columns : Columns) : Type 0 where
  table : Contents
  here : slice_get tables number ≡ Some table
  has : table.columns ≡ columns

table_there : (tables : List Contents) (number : ℕ) (columns : Columns) → slice_get (map columns_had tables) number ≡ Some columns → HasTableAt tables number columns
table_there [] number columns h = absurd cc
table_there (t ∷ tables) zero columns h = record { table = t; here = refl; has = cc }
table_there (t ∷ tables) (suc number) columns h =
    let rest = table_there tables number columns h in record { table = rest.table; here = rest.here; has = rest.has }

-- ---- columns and slots

module _ (slots : List Slot) where
  as_many : (cs : Columns) (ns : List ℕ) → columns_fit slots cs ns ≡ true → length cs ≡ length ns
  as_many [] [] h = refl
  as_many [] (n ∷ ns) h = absurd cc
  as_many (c ∷ cs) [] h = absurd cc
  as_many (c ∷ cs) (n ∷ ns) h = ap suc (as_many cs ns (both (joins_to_slot (Some c.ty) (slot_type slots n)) (columns_fit slots cs ns) h).1)

-- whether a type is one of numbers
abbrev kind_of_type : Option Ty → Bool
kind_of_type None = true
kind_of_type (Some ty) = is_of_number_kind ty true

joined_kind : (o : Option Ty) (ty : Ty) → joins_to_slot (Some ty) o ≡ true → is_of_number_kind ty (kind_of_type o) ≡ true
joined_kind None ty h = absurd cc
joined_kind (Some BigInt) BigInt h = refl
joined_kind (Some BigInt) (DecimalOf p s) h = refl
joined_kind (Some BigInt) (Char n) h = absurd cc
joined_kind (Some BigInt) (Varchar n) h = absurd cc
joined_kind (Some (DecimalOf q t)) BigInt h = refl
joined_kind (Some (DecimalOf q t)) (DecimalOf p s) h = refl
joined_kind (Some (DecimalOf q t)) (Char n) h = absurd cc
joined_kind (Some (DecimalOf q t)) (Varchar n) h = absurd cc
joined_kind (Some (Char m)) BigInt h = absurd cc
joined_kind (Some (Char m)) (DecimalOf p s) h = absurd cc
joined_kind (Some (Char m)) (Char n) h = refl
joined_kind (Some (Char m)) (Varchar n) h = refl
joined_kind (Some (Varchar m)) BigInt h = absurd cc
joined_kind (Some (Varchar m)) (DecimalOf p s) h = absurd cc
joined_kind (Some (Varchar m)) (Char n) h = refl
joined_kind (Some (Varchar m)) (Varchar n) h = refl

-- the test on a column of a slot
abbrev column_kind : Bool → Option Ty → Bool
column_kind numbers o = option_map_or (λ ty. is_of_number_kind ty numbers) o false

module _ (slots : List Slot) (n : ℕ) where
  abbrev slot_kind : Bool
  slot_kind = kind_of_type (slot_type slots n)

  this_or_later : (m : ℕ) (ms : List ℕ) (c : Column) (cs : Columns) (b : Bool) → nat_eq m n ≡ b → joins_to_slot (Some c.ty) (slot_type slots m) ≡ true
      → ((n == m) || list_any (λ k. n == k) ms) ≡ true → (list_any (λ k. n == k) ms ≡ true → column_kind slot_kind (column_type_at ms cs n) ≡ true)
      → column_kind slot_kind (if b then Some c.ty else column_type_at ms cs n) ≡ true
  this_or_later m ms c cs true e joins there later =
      let P : ℕ → Type 0 = λ k. joins_to_slot (Some c.ty) (slot_type slots k) ≡ true in
      joined_kind (slot_type slots n) c.ty (subst P (eqb-true m n e) joins)
  this_or_later m ms c cs false e joins there later = later (otherwise (n == m) refl there)
    where
      otherwise : (t : Bool) → (n == m) ≡ t → (t || list_any (λ k. n == k) ms) ≡ true → list_any (λ k. n == k) ms ≡ true
      otherwise false is h = h
      otherwise true is h = let swapped : nat_eq m n ≡ true = eq-eqb m n (sym (eqb-true n m is)) in absurd cc

  column_is : (cs : Columns) (ns : List ℕ) → columns_fit slots cs ns ≡ true → is_among_numbers n ns ≡ true → column_kind slot_kind (column_type_at ns cs n) ≡ true
  column_is cs [] fit there = absurd cc
  column_is [] (m ∷ ms) fit there = absurd cc
  column_is (c ∷ cs) (m ∷ ms) fit there =
      let parts = both (joins_to_slot (Some c.ty) (slot_type slots m)) (columns_fit slots cs ms) fit in
      this_or_later m ms c cs (nat_eq m n) refl parts.0 there (λ later. column_is cs ms parts.1 later)

-- ---- the tables of a statement

module _ (slots : List Slot) (tables : List Contents) where
  -- what is known of a table of a statement
  record FitsTable (bys : List ByPart) (number : ℕ) (read : ReadPart) : Type 0 where
    there : HasTableAt tables number read.table.columns
    fit : columns_fit slots read.table.columns read.slots ≡ true
    among : list_all (λ (by : ByPart). is_among_numbers by.slot read.slots) bys ≡ true

  -- likewise of the tables that are numbered from this number on
  abbrev FitTables : List ByPart → ℕ → List ReadPart → Type 0
  FitTables bys number [] = Unit {0}
  FitTables bys number (read ∷ reads) = FitsTable bys number read × FitTables bys (number + 1) reads

  tables_known : (bys : List ByPart) (number : ℕ) (reads : List ReadPart) → drop number (map columns_had tables) ≡ map columns_named (map (λ (r : ReadPart). r.table) reads)
      → list_all (read_fits slots bys) reads ≡ true → FitTables bys number reads
  tables_known bys number [] h fit = tt
  tables_known bys number (read ∷ reads) h fit =
      let here = behind_first (map columns_had tables) number read.table.columns (map columns_named (map (λ (r : ReadPart). r.table) reads)) h in
      let parts = both (read_fits slots bys read) (list_all (read_fits slots bys) reads) fit in
      let own = both (columns_fit slots read.table.columns read.slots && distinct_names read.table.columns)
      (option_map_or (is_flag_slot slots) read.present true && list_all (λ (by : ByPart). is_among_numbers by.slot read.slots) bys) parts.0 in
      let columns = both (columns_fit slots read.table.columns read.slots) (distinct_names read.table.columns) own.0 in
      let flags = both (option_map_or (is_flag_slot slots) read.present true) (list_all (λ (by : ByPart). is_among_numbers by.slot read.slots) bys) own.1 in (
        record { there = table_there tables number read.table.columns here.0; fit = columns.0; among = flags.1 },
        tables_known bys (number + 1) reads (ap (λ z. drop z (map columns_had tables)) (add-one number) ∙ here.1) parts.1,
      )

  one_table_fits : (number : ℕ) (read : ReadPart) → HasTableAt tables number read.table.columns → columns_fit slots read.table.columns read.slots ≡ true
      → read_table_fits tables (read_numbered number read) ≡ true
  one_table_fits number read there fit =
      let P : Option Contents → Type 0 = λ o. option_map_or (λ (t : Contents). nat_eq (length t.columns) (length read.slots)) o false ≡ true in
      let Q : Columns → Type 0 = λ cs. nat_eq (length cs) (length read.slots) ≡ true in
      subst P (sym there.here) (subst Q (sym there.has) (eq-eqb (length read.table.columns) (length read.slots) (as_many slots read.table.columns read.slots fit)))

  all_tables_fit : (bys : List ByPart) (number : ℕ) (reads : List ReadPart) → FitTables bys number reads → list_all (read_table_fits tables) (reads_numbered number reads) ≡ true
  all_tables_fit bys number [] h = refl
  all_tables_fit bys number (read ∷ reads) h =
      together (read_table_fits tables (read_numbered number read)) (list_all (read_table_fits tables) (reads_numbered (number + 1) reads))
      (one_table_fits number read h.0.there h.0.fit) (all_tables_fit bys (number + 1) reads h.1)

  -- ---- BY variables

  one_by_column : (n number : ℕ) (read : ReadPart) → HasTableAt tables number read.table.columns → columns_fit slots read.table.columns read.slots ≡ true → is_among_numbers n read.slots ≡ true
      → by_column_is tables n (slot_kind slots n) (read_numbered number read) ≡ true
  one_by_column n number read there fit among =
      let P : Option Contents → Type 0 = λ o. option_map_or (λ (t : Contents). option_map_or (λ ty. is_of_number_kind ty (slot_kind slots n)) (column_type_at read.slots t.columns n) false) o false ≡ true in
      let Q : Columns → Type 0 = λ cs. option_map_or (λ ty. is_of_number_kind ty (slot_kind slots n)) (column_type_at read.slots cs n) false ≡ true in
      subst P (sym there.here) (subst Q (sym there.has) (column_is slots n read.table.columns read.slots fit among))

  -- the first of some BY variables, and those behind it
  first_by : (by : ByPart) (bys : List ByPart) (number : ℕ) (reads : List ReadPart) → FitTables (by ∷ bys) number reads
      → list_all (by_column_is tables by.slot (slot_kind slots by.slot)) (reads_numbered number reads) ≡ true
  first_by by bys number [] h = refl
  first_by by bys number (read ∷ reads) h =
      together (by_column_is tables by.slot (slot_kind slots by.slot) (read_numbered number read)) (list_all (by_column_is tables by.slot (slot_kind slots by.slot)) (reads_numbered (number + 1) reads))
      (one_by_column by.slot number read h.0.there h.0.fit (both (is_among_numbers by.slot read.slots) (list_all (λ (b : ByPart). is_among_numbers b.slot read.slots) bys) h.0.among).0)
      (first_by by bys (number + 1) reads h.1)

  further_bys : (by : ByPart) (bys : List ByPart) (number : ℕ) (reads : List ReadPart) → FitTables (by ∷ bys) number reads → FitTables bys number reads
  further_bys by bys number [] h = tt
  further_bys by bys number (read ∷ reads) h = (
    record {
      there = h.0.there;
      fit = h.0.fit;
      among = (both (is_among_numbers by.slot read.slots) (list_all (λ (b : ByPart). is_among_numbers b.slot read.slots) bys) h.0.among).1;
    },
    further_bys by bys (number + 1) reads h.1,
  )

  all_bys_fit : (bys : List ByPart) (number : ℕ) (reads : List ReadPart) → FitTables bys number reads → by_keys_fit tables (reads_numbered number reads) (map by_key_of_part bys) ≡ true
  all_bys_fit [] number reads h = refl
  all_bys_fit (by ∷ bys) number reads h =
      together (by_key_fits tables (reads_numbered number reads) (by_key_of_part by)) (by_keys_fit tables (reads_numbered number reads) (map by_key_of_part bys))
      (either_kind (are_by_columns tables (reads_numbered number reads) by.slot) (slot_kind slots by.slot) (first_by by bys number reads h))
      (all_bys_fit bys number reads (further_bys by bys number reads h))

  -- ---- the statement

  as_many_reads : (number : ℕ) (reads : List ReadPart) → length (reads_numbered number reads) ≡ length reads
  as_many_reads number [] = refl
  as_many_reads number (read ∷ reads) = ap suc (as_many_reads (number + 1) reads)

  statement_fits : (size number : ℕ) (reads : List ReadPart) (bys : List ByPart) → tables_in_range size reads bys ≡ true → tables_fit slots reads bys ≡ true
      → drop number (map columns_had tables) ≡ map columns_named (map (λ (r : ReadPart). r.table) reads) → reading_fits_tables tables (reading_over number reads bys) ≡ true
  statement_fits size number reads bys range fit has =
      let few = both (nat_le (length reads) 16 && nat_le (length bys) 16) (list_all (read_in_range size) reads && list_all (by_in_range size) bys) range in
      let counts = both (nat_le (length reads) 16) (nat_le (length bys) 16) few.0 in
      let known = tables_known bys number reads has (both (list_all (read_fits slots bys) reads) (list_all (by_fits slots) bys) fit).0 in
      together (nat_le (length (reads_numbered number reads)) 16 && nat_le (length (map by_key_of_part bys)) 16)
      (read_tables_fit tables (reads_numbered number reads) && by_keys_fit tables (reads_numbered number reads) (map by_key_of_part bys))
      (together (nat_le (length (reads_numbered number reads)) 16) (nat_le (length (map by_key_of_part bys)) 16)
      (ap (λ z. nat_le z 16) (as_many_reads number reads) ∙ counts.0) (ap (λ z. nat_le z 16) (length-map bys by_key_of_part) ∙ counts.1))
      (together (read_tables_fit tables (reads_numbered number reads)) (by_keys_fit tables (reads_numbered number reads) (map by_key_of_part bys))
      (all_tables_fit bys number reads known) (all_bys_fit bys number reads known))

  part_fits : (size number : ℕ) (r : ReadingPart) → reading_in_range size r ≡ true → reading_fits slots None r ≡ true
      → drop number (map columns_had tables) ≡ map columns_named (reading_references r) → reading_fits_tables tables (reading_numbered number r) ≡ true
  part_fits size number (reading.Set reads bys) range fit has = statement_fits size number reads bys range fit has
  part_fits size number (reading.Merge reads bys retains) range fit has = statement_fits size number reads bys range fit has
  part_fits size number (reading.Stage threads into) range fit has = refl
  part_fits size number reading.Once range fit has = refl
  part_fits size number reading.Nothing range fit has = refl

-- ---- valid code

module _ (code : ProgramParts) (tables : List Contents) where
  program_fits : IsValidProgram code None → map columns_had tables ≡ map columns_named (hash_references code.hashes ++ reading_references code.reading)
      → reading_fits_tables tables (reading_numbered (length (hash_references code.hashes)) code.reading) ≡ true
  program_fits valid has =
      let size = length code.slots in
      let numbers = both (list_all (hash_in_range size) code.hashes && (all_below (length code.hashes) code.iterators && all_below size code.parameters))
      (reading_in_range size code.reading && list_all (output_in_range size) code.outputs) valid.ranges in
      let range = both (reading_in_range size code.reading) (list_all (output_in_range size) code.outputs) numbers.1 in
      let parts = both (list_all (λ (hash : HashPart). option_map_or (hash_table_fits code.slots hash) hash.loaded true) code.hashes)
      (reading_fits code.slots None code.reading && list_all output_fits code.outputs) valid.layout in
      let fit = both (reading_fits code.slots None code.reading) (list_all output_fits code.outputs) parts.1 in
      part_fits code.slots tables size (length (hash_references code.hashes)) code.reading range.0 fit.0
      (ap (λ z. drop (length (hash_references code.hashes)) z) has ∙ behind_all columns_named (hash_references code.hashes) (reading_references code.reading))

pub readings_fit : ReadingsFitTables
readings_fit parts tables valid alone has =
    let P : List ProgramParts → Type 0 = λ stages. IsValidChain parts.program stages in
    let Q : List ProgramParts → Type 0 = λ stages. map columns_had tables ≡ map columns_named (program_references parts.program stages) in
    program_fits parts.program tables (subst P alone valid.chain) (subst Q alone has)
