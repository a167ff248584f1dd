-- How an instruction is read: its operation code, its row, its fields.
use Rattle.std.proofs.Common.{◌≡◌, ℕ, zero, suc, ◌≤◌, true, false, List, [], ◌∷◌, length, map, Option, Some, None, option_map, slice_get, nat_lt, Ok, Err, refl, sym, ap, ◌∙◌, lt-ltb, le-ltb, arith}
use Rattle.std.specs.Option.{option_map_or, option_and_then}
use Rattle.std.proofs.lemmas.Option.{slice_get_within}
use Rattle.ds2_base.specs.Bytes.{Bytes}
use Rattle.ds2_code.specs.declared.instr.Instr.{Instr}
use Rattle.ds2_object_words.specs.declared.flaw.Flaw.TheVariants.{Bad}
use Rattle.ds2_object_words.specs.Parts.{FieldRead, and_read, byte_part}
use Rattle.ds2_object_instrs.specs.declared.instrs.Fields.{Fields}
use Rattle.ds2_object_instrs.specs.declared.instrs.Shape.{Shape}
use Rattle.ds2_object_instrs.specs.declared.instrs.Shape.TheVariants as shape
use Rattle.ds2_object_instrs.specs.declared.instrs.WrittenInstr.{WrittenInstr}
use Rattle.ds2_object_instrs.specs.InstrSpelling.{field_number, shape_part, InstrRow, number_row, instr_rows, row_of_code, instr_row_of, operation_part, fields_part, written_instr_part, instr_of}

-- the fields that were read, as an instruction
abbrev pub row_read : InstrRow → Bytes → FieldRead (Option Instr)
row_read row bytes = and_read ((shape_part row.shape).read bytes) (λ fields rest. Ok (row.make fields, rest))

-- what is read behind an operation code
abbrev pub instr_read : Bytes → FieldRead (Option Instr)
instr_read bytes = and_read (written_instr_part.read bytes) (λ w rest. Ok (instr_of w, rest))

abbrev answered : Option Instr → Bytes → FieldRead (Option Instr)
answered made rest = Ok (made, rest)

-- the fields behind a code whose row is known, whatever was read
row_is : (code : ℕ) (row : InstrRow) → row_of_code code ≡ Some row → (r : FieldRead Fields)
    → and_read (and_read (and_read r (λ (fields : Fields) (behind : Bytes). Ok ((code, fields), behind))) (λ (x : ℕ × Fields) (rest : Bytes). Ok (record { code = x.0; fields = x.1 }, rest)))
    (λ (w : WrittenInstr) (rest : Bytes). Ok (instr_of w, rest))
    ≡ and_read r (λ (fields : Fields) (rest : Bytes). Ok (row.make fields, rest))
row_is code row found (Ok x) = ap (λ (o : Option InstrRow). answered (option_and_then (λ (r : InstrRow). r.make x.0) o) x.1) found
row_is code row found (Err flaw) = refl

-- an operation code with a row
pub known_code : (bytes rest : Bytes) (code : ℕ) (row : InstrRow) → byte_part.read bytes ≡ Ok (code, rest) → row_of_code code ≡ Some row → instr_read bytes ≡ row_read row rest
unfolding written_instr_part operation_part
known_code bytes rest code row e found =
    let within : nat_lt code (length instr_rows) ≡ true = lt-ltb code (length instr_rows) (slice_get_within instr_rows code row found) in
    let shaped : option_map_or (λ (r : InstrRow). r.shape) (row_of_code code) shape.NoField ≡ row.shape =
    ap (λ (o : Option InstrRow). option_map_or (λ (r : InstrRow). r.shape) o shape.NoField) found in
    rw (e, within) (row_is code row found ((fields_part code).read rest) ∙ ap (λ (s : Shape). and_read ((shape_part s).read rest) (λ (fields : Fields) (behind : Bytes). answered (row.make fields) behind)) shaped)

-- a list of so many items has one at each number below
past_end : {A : Type 0} (xs : List A) (n : ℕ) → slice_get xs n ≡ None → length xs ≤ n
past_end [] n e = omega arith
past_end (x ∷ xs) zero e = absurd cc
past_end (x ∷ xs) (suc n) e = let k : length xs ≤ n = past_end xs n e in omega arith

-- what is made of an item of a list is the item of the list that is made of all
pub got_mapped : {A B : Type 0} (f : A → B) (xs : List A) (n : ℕ) → option_map f (slice_get xs n) ≡ slice_get (map f xs) n
got_mapped f [] n = refl
got_mapped f (x ∷ xs) zero = refl
got_mapped f (x ∷ xs) (suc n) = got_mapped f xs n

-- what an instruction's row with a number makes of fields
pub number_made : (f : ℕ → Instr) (row i : Instr) (fields : Fields) (o : Option ℕ) → row ≡ i → instr_row_of i ≡ number_row f → o ≡ field_number fields → option_map f o ≡ (instr_row_of row).make fields
number_made f row i fields o is same e = ap (option_map f) e ∙ sym (ap (λ (r : InstrRow). r.make fields) (ap instr_row_of is ∙ same))

-- an operation code without a row
pub unknown_code : (bytes rest : Bytes) (code left : ℕ) → byte_part.read bytes ≡ Ok (code, rest) → row_of_code code ≡ None → left ≡ length bytes
    → instr_read bytes ≡ Err (Bad left)
unfolding written_instr_part operation_part
unknown_code bytes rest code left e none is =
    let past : nat_lt code (length instr_rows) ≡ false = le-ltb code (length instr_rows) (past_end instr_rows code none) in
    rw (e, past, is) refl
