-- Instructions are parts: what is written of one is what is read, and no other instruction is written so.
use Rattle.std.proofs.Common.{◌≡◌, ℕ, zero, suc, ◌+◌, Bool, true, false, cond, IsTrue, List, [], ◌∷◌, length, Option, Some, None, slice_get, nat_lt, refl, sym, ap, subst, ◌∙◌, option_map, lt-ltb, arith}
use Rattle.std.proofs.lemmas.Option.{slice_get_within}
use Rattle.std.specs.Option.{option_map_or, option_and_then}
use Rattle.ds2_base.specs.declared.place.Place.{Place}
use Rattle.ds2_value.specs.declared.comparison.Comparison.{Comparison}
use Rattle.ds2_value.specs.declared.comparison.Comparison.TheVariants.{Equal, NotEqual, Less, LessOrEqual, Greater, GreaterOrEqual}
use Rattle.ds2_value.specs.declared.hash_function.HashFunction.{HashFunction}
use Rattle.ds2_value.specs.declared.hash_function.HashFunction.TheVariants.{Find, Check, Add, Replace, Remove, Clear, NumItems}
use Rattle.ds2_value.specs.declared.hash_function.IteratorFunction.{IteratorFunction}
use Rattle.ds2_value.specs.declared.hash_function.IteratorFunction.TheVariants.{First, Next, Prev, Last}
use Rattle.ds2_value.specs.declared.ty.Ty.{Ty}
use Rattle.ds2_value.specs.ValueFunctions.{function_row}
use Rattle.ds2_value.specs.declared.value_function.ValueFunction.{ValueFunction}
use Rattle.ds2_value.specs.declared.value_function.ValueFunction.TheVariants as function
use Rattle.ds2_code.specs.declared.instr.Instr.{Instr}
use Rattle.ds2_code.specs.declared.instr.Instr.TheVariants as instr
use Rattle.ds2_code.specs.OperationCode.{operation_code}
use Rattle.ds2_object_instrs.specs.declared.instrs.Fields.{Fields}
use Rattle.ds2_object_instrs.specs.declared.instrs.Fields.TheVariants.{NoField, NumberField, TypeField, DigitsFields, LengthField, TestField, PlaceFields, CallFields}
use Rattle.ds2_object_instrs.specs.declared.instrs.Shape.{Shape}
use Rattle.ds2_object_instrs.specs.declared.instrs.Shape.TheVariants as shape
use Rattle.ds2_object_instrs.specs.declared.instrs.WrittenInstr.{WrittenInstr}
use Rattle.ds2_object_words.specs.Parts.{byte_part, number16_part, number32_part, then_part, ◌⨾◌}
use Rattle.ds2_object_words.specs.PartLaws.{IsLawfulPart}
use Rattle.ds2_object_words.specs.Words.{type_part}
use Rattle.ds2_object_instrs.specs.InstrSpelling.{comparison_values, comparison_number, hash_function_values, hash_function_number, iterator_function_values, iterator_function_number, field_number, field_type, field_digits, field_length, field_test, field_place, field_call, is_no_field, shape_part, shape_of_fields, InstrRow, bare_row, number_row, type_row, digits_row, length_row, test_row, written_place, place_row, function_call, call_row, instr_rows, row_of_code, fields_of, operation_part, fields_part, written_instr_part, written_instr_of, instr_of}
use Rattle.ds2_object_words.proofs.PartLemmas.{empty_law, then_law, seen_as_law, variant_law, checked_law, number_at_place, some_is}
use Rattle.ds2_object_words.proofs.NumberLemmas.{byte_law, number16_law, number32_law}
use Rattle.ds2_object_words.proofs.WordLemmas.{pair_law, type_law}

-- ---- fields

no_field_only : (fields : Fields) → IsTrue (is_no_field fields) → NoField ≡ fields
no_field_only NoField h = refl
no_field_only (NumberField n) h = absurd (let k : false ≡ true = h in cc)
no_field_only (TypeField ty) h = absurd (let k : false ≡ true = h in cc)
no_field_only (DigitsFields p s) h = absurd (let k : false ≡ true = h in cc)
no_field_only (LengthField n) h = absurd (let k : false ≡ true = h in cc)
no_field_only (TestField n) h = absurd (let k : false ≡ true = h in cc)
no_field_only (PlaceFields line column) h = absurd (let k : false ≡ true = h in cc)
no_field_only (CallFields object function) h = absurd (let k : false ≡ true = h in cc)

number_back : (fields : Fields) (n : ℕ) → field_number fields ≡ Some n → NumberField n ≡ fields
number_back NoField n e = absurd cc
number_back (NumberField m) n e = ap NumberField (sym (some_is m n e))
number_back (TypeField m) n e = absurd cc
number_back (DigitsFields p s) n e = absurd cc
number_back (LengthField m) n e = absurd cc
number_back (TestField m) n e = absurd cc
number_back (PlaceFields line column) n e = absurd cc
number_back (CallFields object function) n e = absurd cc

type_back : (fields : Fields) (ty : Ty) → field_type fields ≡ Some ty → TypeField ty ≡ fields
type_back NoField ty e = absurd cc
type_back (NumberField m) ty e = absurd cc
type_back (TypeField m) ty e = ap TypeField (sym (some_is m ty e))
type_back (DigitsFields p s) ty e = absurd cc
type_back (LengthField m) ty e = absurd cc
type_back (TestField m) ty e = absurd cc
type_back (PlaceFields line column) ty e = absurd cc
type_back (CallFields object function) ty e = absurd cc

length_back : (fields : Fields) (n : ℕ) → field_length fields ≡ Some n → LengthField n ≡ fields
length_back NoField n e = absurd cc
length_back (NumberField m) n e = absurd cc
length_back (TypeField m) n e = absurd cc
length_back (DigitsFields p s) n e = absurd cc
length_back (LengthField m) n e = ap LengthField (sym (some_is m n e))
length_back (TestField m) n e = absurd cc
length_back (PlaceFields line column) n e = absurd cc
length_back (CallFields object function) n e = absurd cc

test_back : (fields : Fields) (n : ℕ) → field_test fields ≡ Some n → TestField n ≡ fields
test_back NoField n e = absurd cc
test_back (NumberField m) n e = absurd cc
test_back (TypeField m) n e = absurd cc
test_back (DigitsFields p s) n e = absurd cc
test_back (LengthField m) n e = absurd cc
test_back (TestField m) n e = ap TestField (sym (some_is m n e))
test_back (PlaceFields line column) n e = absurd cc
test_back (CallFields object function) n e = absurd cc

digits_fields_back : (fields : Fields) (a : ℕ × ℕ) → field_digits fields ≡ Some a → DigitsFields a.0 a.1 ≡ fields
digits_fields_back NoField a e = absurd cc
digits_fields_back (NumberField m) a e = absurd cc
digits_fields_back (TypeField m) a e = absurd cc
digits_fields_back (DigitsFields p s) a e = ap (λ (x : ℕ × ℕ). DigitsFields x.0 x.1) (sym (some_is {A = ℕ × ℕ} (p, s) a e))
digits_fields_back (LengthField m) a e = absurd cc
digits_fields_back (TestField m) a e = absurd cc
digits_fields_back (PlaceFields line column) a e = absurd cc
digits_fields_back (CallFields object function) a e = absurd cc

place_back : (fields : Fields) (a : ℕ × ℕ) → field_place fields ≡ Some a → PlaceFields a.0 a.1 ≡ fields
place_back NoField a e = absurd cc
place_back (NumberField m) a e = absurd cc
place_back (TypeField m) a e = absurd cc
place_back (DigitsFields p s) a e = absurd cc
place_back (LengthField m) a e = absurd cc
place_back (TestField m) a e = absurd cc
place_back (PlaceFields line column) a e = ap (λ (x : ℕ × ℕ). PlaceFields x.0 x.1) (sym (some_is {A = ℕ × ℕ} (line, column) a e))
place_back (CallFields object function) a e = absurd cc

call_back : (fields : Fields) (a : ℕ × ℕ) → field_call fields ≡ Some a → CallFields a.0 a.1 ≡ fields
call_back NoField a e = absurd cc
call_back (NumberField m) a e = absurd cc
call_back (TypeField m) a e = absurd cc
call_back (DigitsFields p s) a e = absurd cc
call_back (LengthField m) a e = absurd cc
call_back (TestField m) a e = absurd cc
call_back (PlaceFields line column) a e = absurd cc
call_back (CallFields object function) a e = ap (λ (x : ℕ × ℕ). CallFields x.0 x.1) (sym (some_is {A = ℕ × ℕ} (object, function) a e))

pub shape_law : (s : Shape) → IsLawfulPart (shape_part s)
shape_law shape.NoField = empty_law NoField is_no_field refl no_field_only
shape_law shape.NumberField = variant_law NumberField field_number number32_part number32_law (λ a h. refl) number_back
shape_law shape.TypeField = variant_law TypeField field_type type_part type_law (λ a h. refl) type_back
shape_law shape.DigitsFields = variant_law (λ (x : ℕ × ℕ). DigitsFields x.0 x.1) field_digits (byte_part ⨾ byte_part) (pair_law byte_part byte_part byte_law byte_law) (λ a h. refl) digits_fields_back
shape_law shape.LengthField = variant_law LengthField field_length number16_part number16_law (λ a h. refl) length_back
shape_law shape.TestField = variant_law TestField field_test byte_part byte_law (λ a h. refl) test_back
shape_law shape.PlaceFields = variant_law (λ (x : ℕ × ℕ). PlaceFields x.0 x.1) field_place (number32_part ⨾ number32_part) (pair_law number32_part number32_part number32_law number32_law) (λ a h. refl) place_back
shape_law shape.CallFields = variant_law (λ (x : ℕ × ℕ). CallFields x.0 x.1) field_call (number32_part ⨾ byte_part) (pair_law number32_part byte_part number32_law byte_law) (λ a h. refl) call_back

operation_law : IsLawfulPart operation_part
unfolding operation_part
operation_law = checked_law (λ (code : ℕ). nat_lt code (length instr_rows)) byte_part byte_law

pub written_instr_law : IsLawfulPart written_instr_part
unfolding written_instr_part
written_instr_law =
    seen_as_law (λ (x : ℕ × Fields). record { code = x.0; fields = x.1 }) (λ (i : WrittenInstr). (i.code, i.fields)) (then_part operation_part fields_part)
    (then_law operation_part fields_part operation_law (λ code. shape_law (option_map_or (λ (row : InstrRow). row.shape) (row_of_code code) shape.NoField)))
    (λ a h. refl) (λ b h. refl)

-- ---- instructions and what is written of them

comparison_found : (c : Comparison) → slice_get comparison_values (comparison_number c) ≡ Some c
comparison_found Equal = refl
comparison_found NotEqual = refl
comparison_found Less = refl
comparison_found LessOrEqual = refl
comparison_found Greater = refl
comparison_found GreaterOrEqual = refl

hash_function_found : (f : HashFunction) → slice_get hash_function_values (hash_function_number f) ≡ Some f
hash_function_found Find = refl
hash_function_found Check = refl
hash_function_found Add = refl
hash_function_found Replace = refl
hash_function_found Remove = refl
hash_function_found Clear = refl
hash_function_found NumItems = refl

iterator_function_found : (f : IteratorFunction) → slice_get iterator_function_values (iterator_function_number f) ≡ Some f
iterator_function_found First = refl
iterator_function_found Next = refl
iterator_function_found Prev = refl
iterator_function_found Last = refl

-- what comes of the fields of a row is an instruction of the row with these fields
record KeepsFields (code : ℕ) (row : InstrRow) : Type 0 where
  keeps : (fields : Fields) (i : Instr) → row.make fields ≡ Some i → (operation_code i ≡ code) × (fields_of i ≡ fields)

-- where the value of a step comes from
mapped_some : {A B : Type 0} (f : A → B) (o : Option A) (y : B) → option_map f o ≡ Some y → (a : A) × (o ≡ Some a) × (f a ≡ y)
mapped_some f None y e = absurd cc
mapped_some f (Some a) y e = (a, refl, some_is (f a) y e)

-- the value of a step of a step
chained_some : {A B : Type 0} (f : A → Option B) (o : Option A) (y : B) → option_and_then f o ≡ Some y → (a : A) × (o ≡ Some a) × (f a ≡ Some y)
chained_some f None y e = absurd cc
chained_some f (Some a) y e = (a, refl, e)

comparisons_numbered : (n : ℕ) (c : Comparison) → slice_get comparison_values n ≡ Some c → comparison_number c ≡ n
comparisons_numbered n c e = number_at_place comparison_number 0 comparison_values (refl, (refl, (refl, (refl, (refl, (refl, tt)))))) n c e ∙ omega arith

hash_functions_numbered : (n : ℕ) (f : HashFunction) → slice_get hash_function_values n ≡ Some f → hash_function_number f ≡ n
hash_functions_numbered n f e = number_at_place hash_function_number 0 hash_function_values (refl, (refl, (refl, (refl, (refl, (refl, (refl, tt))))))) n f e ∙ omega arith

iterator_functions_numbered : (n : ℕ) (f : IteratorFunction) → slice_get iterator_function_values n ≡ Some f → iterator_function_number f ≡ n
iterator_functions_numbered n f e = number_at_place iterator_function_number 0 iterator_function_values (refl, (refl, (refl, (refl, tt)))) n f e ∙ omega arith

bare_made : (b : Bool) (i j : Instr) → cond b (Some i) None ≡ Some j → (b ≡ true) × (i ≡ j)
bare_made true i j e = (refl, some_is i j e)
bare_made false i j e = absurd cc

bare_keeps : (code : ℕ) (i : Instr) → operation_code i ≡ code → fields_of i ≡ NoField → KeepsFields code (bare_row i)
bare_keeps code i is_code is_bare = record {
  keeps = λ fields j e.
      let k = bare_made (is_no_field fields) i j e in
      (ap operation_code (sym k.1) ∙ is_code, ap fields_of (sym k.1) ∙ is_bare ∙ no_field_only fields k.0);
}

number_keeps : (code : ℕ) (f : ℕ → Instr) → ((n : ℕ) → operation_code (f n) ≡ code) → ((n : ℕ) → fields_of (f n) ≡ NumberField n) → KeepsFields code (number_row f)
number_keeps code f is_code is_field = record {
  keeps = λ fields j e.
      let k = mapped_some f (field_number fields) j e in
      (ap operation_code (sym k.2) ∙ is_code k.0, ap fields_of (sym k.2) ∙ is_field k.0 ∙ number_back fields k.0 k.1);
}

type_keeps : (code : ℕ) (f : Ty → Instr) → ((ty : Ty) → operation_code (f ty) ≡ code) → ((ty : Ty) → fields_of (f ty) ≡ TypeField ty) → KeepsFields code (type_row f)
type_keeps code f is_code is_field = record {
  keeps = λ fields j e.
      let k = mapped_some f (field_type fields) j e in
      (ap operation_code (sym k.2) ∙ is_code k.0, ap fields_of (sym k.2) ∙ is_field k.0 ∙ type_back fields k.0 k.1);
}

digits_keep : (code : ℕ) (f : ℕ → ℕ → Instr) → ((p s : ℕ) → operation_code (f p s) ≡ code) → ((p s : ℕ) → fields_of (f p s) ≡ DigitsFields p s) → KeepsFields code (digits_row f)
digits_keep code f is_code is_field = record {
  keeps = λ fields j e.
      let k = mapped_some (λ (x : ℕ × ℕ). f x.0 x.1) (field_digits fields) j e in
      (ap operation_code (sym k.2) ∙ is_code k.0.0 k.0.1, ap fields_of (sym k.2) ∙ is_field k.0.0 k.0.1 ∙ digits_fields_back fields k.0 k.1);
}

length_keeps : (code : ℕ) (f : ℕ → Instr) → ((n : ℕ) → operation_code (f n) ≡ code) → ((n : ℕ) → fields_of (f n) ≡ LengthField n) → KeepsFields code (length_row f)
length_keeps code f is_code is_field = record {
  keeps = λ fields j e.
      let k = mapped_some f (field_length fields) j e in
      (ap operation_code (sym k.2) ∙ is_code k.0, ap fields_of (sym k.2) ∙ is_field k.0 ∙ length_back fields k.0 k.1);
}

test_keeps : (code : ℕ) (f : Comparison → Instr) → ((c : Comparison) → operation_code (f c) ≡ code) → ((c : Comparison) → fields_of (f c) ≡ TestField (comparison_number c))
    → KeepsFields code (test_row f)
test_keeps code f is_code is_field = record {
  keeps = λ fields j e.
      let k = mapped_some f (option_and_then (slice_get comparison_values) (field_test fields)) j e in
      let m = chained_some (slice_get comparison_values) (field_test fields) k.0 k.1 in
      (ap operation_code (sym k.2) ∙ is_code k.0, ap fields_of (sym k.2) ∙ is_field k.0 ∙ ap TestField (comparisons_numbered m.0 k.0 m.2) ∙ test_back fields m.0 m.1);
}

place_keeps : (code : ℕ) (f : Place → Instr) → ((p : Place) → operation_code (f p) ≡ code) → ((p : Place) → fields_of (f p) ≡ PlaceFields p.line p.column) → KeepsFields code (place_row f)
place_keeps code f is_code is_field = record {
  keeps = λ fields j e.
      let k = mapped_some f (option_map written_place (field_place fields)) j e in
      let m = mapped_some written_place (field_place fields) k.0 k.1 in (
        ap operation_code (sym k.2) ∙ is_code k.0,
        ap fields_of (sym k.2) ∙ is_field k.0 ∙ ap (λ (p : Place). PlaceFields p.line p.column) (sym m.2) ∙ place_back fields m.0 m.1,
      );
}

call_keeps : {F : Type 0} (code : ℕ) (functions : List F) (number : F → ℕ) (f : ℕ → F → Instr) → ((n : ℕ) (g : F) → slice_get functions n ≡ Some g → number g ≡ n)
    → ((n : ℕ) (g : F) → operation_code (f n g) ≡ code) → ((n : ℕ) (g : F) → fields_of (f n g) ≡ CallFields n (number g)) → (fields : Fields) (j : Instr)
    → option_map (λ (x : ℕ × F). f x.0 x.1) (option_and_then (function_call functions) (field_call fields)) ≡ Some j → (operation_code j ≡ code) × (fields_of j ≡ fields)
call_keeps {F} code functions number f numbered is_code is_field fields j e =
    let k = mapped_some (λ (x : ℕ × F). f x.0 x.1) (option_and_then (function_call functions) (field_call fields)) j e in
    let m = chained_some (function_call functions) (field_call fields) k.0 k.1 in
    let q = mapped_some (λ (g : F). (m.0.0, g)) (slice_get functions m.0.1) k.0 m.2 in (
      ap operation_code (sym k.2) ∙ is_code k.0.0 k.0.1,
      ap fields_of (sym k.2) ∙ is_field k.0.0 k.0.1 ∙ ap (λ (x : ℕ × F). CallFields x.0 (number x.1)) (sym q.2)
          ∙ ap (CallFields m.0.0) (numbered m.0.1 q.0 q.1) ∙ call_back fields m.0 m.1,
    )

call_row_keeps : {F : Type 0} (code : ℕ) (functions : List F) (number : F → ℕ) (f : ℕ → F → Instr) → ((n : ℕ) (g : F) → slice_get functions n ≡ Some g → number g ≡ n)
    → ((n : ℕ) (g : F) → operation_code (f n g) ≡ code) → ((n : ℕ) (g : F) → fields_of (f n g) ≡ CallFields n (number g)) → KeepsFields code (call_row functions f)
call_row_keeps code functions number f numbered is_code is_field = record { keeps = call_keeps code functions number f numbered is_code is_field }

-- rows keep their fields, the first one with this operation code, those behind it with the codes that follow
record KeepFields (code : ℕ) (rows : List InstrRow) : Type 0 where
  kept : (n : ℕ) (row : InstrRow) → slice_get rows n ≡ Some row → KeepsFields (code + n) row

kept_at : (code : ℕ) (r : InstrRow) (rows : List InstrRow) → KeepsFields code r → KeepFields (suc code) rows
    → (n : ℕ) (row : InstrRow) → slice_get (r ∷ rows) n ≡ Some row → KeepsFields (code + n) row
kept_at code r rows first others zero row e =
    let same : code ≡ code + zero = omega arith in
    subst (λ k. KeepsFields k row) same (subst (KeepsFields code) (some_is r row e) first)
kept_at code r rows first others (suc n) row e =
    let same : suc code + n ≡ code + suc n = omega arith in
    subst (λ k. KeepsFields k row) same (others.kept n row e)

no_row : {code : ℕ} → KeepFields code []
no_row = record { kept = λ n row e. absurd cc }

infixr 20 ◌&◌
◌&◌ : {code : ℕ} {row : InstrRow} {rows : List InstrRow} → KeepsFields code row → KeepFields (suc code) rows → KeepFields code (row ∷ rows)
first & others = record { kept = kept_at _ _ _ first others }

-- each row keeps its fields
rows_keep : KeepFields 0 instr_rows
rows_keep =
    number_keeps 0 instr.Const (λ n. refl) (λ n. refl) & type_keeps 1 instr.Null (λ ty. refl) (λ ty. refl) &
    number_keeps 2 instr.GLoad (λ n. refl) (λ n. refl) & number_keeps 3 instr.GStore (λ n. refl) (λ n. refl) &
    number_keeps 4 instr.LLoad (λ n. refl) (λ n. refl) & number_keeps 5 instr.LStore (λ n. refl) (λ n. refl) &
    bare_keeps 6 instr.DropTop refl refl & bare_keeps 7 instr.IToD refl refl &
    digits_keep 8 instr.Rescale (λ p s. refl) (λ p s. refl) & length_keeps 9 instr.Pad (λ n. refl) (λ n. refl) &
    length_keeps 10 instr.Cut (λ n. refl) (λ n. refl) & bare_keeps 11 instr.IAdd refl refl &
    bare_keeps 12 instr.ISub refl refl & bare_keeps 13 instr.IMul refl refl & bare_keeps 14 instr.INeg refl refl &
    bare_keeps 15 (instr.Apply function.IntegerAbsolute) refl refl & bare_keeps 16 (instr.Apply function.IntegerModulo) refl refl & bare_keeps 17 instr.DAdd refl refl &
    bare_keeps 18 instr.DSub refl refl & bare_keeps 19 instr.DMul refl refl & bare_keeps 20 instr.DDiv refl refl &
    bare_keeps 21 instr.DNeg refl refl & bare_keeps 22 (instr.Apply function.DecimalAbsolute) refl refl & bare_keeps 23 (instr.Apply function.DecimalModulo) refl refl &
    bare_keeps 24 (instr.Apply function.Floor) refl refl & bare_keeps 25 (instr.Apply function.Ceiling) refl refl &
    test_keeps 26 instr.ICmp (λ c. refl) (λ c. refl) & test_keeps 27 instr.DCmp (λ c. refl) (λ c. refl) &
    test_keeps 28 instr.TCmp (λ c. refl) (λ c. refl) & bare_keeps 29 instr.And refl refl &
    bare_keeps 30 instr.Or refl refl & bare_keeps 31 instr.Not refl refl & bare_keeps 32 instr.ITruth refl refl &
    bare_keeps 33 instr.DTruth refl refl & bare_keeps 34 (instr.Apply function.IsNull) refl refl &
    number_keeps 35 instr.Choose (λ n. refl) (λ n. refl) & number_keeps 36 instr.Least (λ n. refl) (λ n. refl) &
    number_keeps 37 instr.Greatest (λ n. refl) (λ n. refl) & bare_keeps 38 instr.Cat refl refl &
    bare_keeps 39 (instr.Apply function.Length) refl refl & bare_keeps 40 (instr.Apply function.Substring) refl refl & bare_keeps 41 (instr.Apply function.SubstringFrom) refl refl &
    bare_keeps 42 (instr.Apply function.Trim) refl refl & place_keeps 43 instr.Tick (λ p. refl) (λ p. refl) &
    number_keeps 44 instr.Jump (λ n. refl) (λ n. refl) & number_keeps 45 instr.JFalse (λ n. refl) (λ n. refl) &
    number_keeps 46 instr.JTrue (λ n. refl) (λ n. refl) & number_keeps 47 instr.Call (λ n. refl) (λ n. refl) &
    bare_keeps 48 instr.Ret refl refl & bare_keeps 49 instr.RetV refl refl & bare_keeps 50 instr.NoWhen refl refl &
    number_keeps 51 instr.Output (λ n. refl) (λ n. refl) & bare_keeps 52 instr.Show refl refl &
    number_keeps 53 instr.Put (λ n. refl) (λ n. refl) &
    call_row_keeps 54 hash_function_values hash_function_number instr.HCall hash_functions_numbered (λ n g. refl) (λ n g. refl) &
    call_row_keeps 55 iterator_function_values iterator_function_number instr.ICall iterator_functions_numbered (λ n g. refl) (λ n g. refl) &
    number_keeps 56 instr.SetParm (λ n. refl) (λ n. refl) & bare_keeps 57 instr.End refl refl & no_row

-- the row of an instruction has the shape of its fields, and makes it of them
abbrev MakesAgain : Instr → Option InstrRow → Type 0
MakesAgain i None = ⊥
MakesAgain i (Some row) = (row.shape ≡ shape_of_fields (fields_of i)) × (row.make (fields_of i) ≡ Some i)

function_again : (f : ValueFunction) → MakesAgain (instr.Apply f) (row_of_code (function_row f).code)
function_again function.IntegerAbsolute = (refl, refl)
function_again function.IntegerModulo = (refl, refl)
function_again function.DecimalAbsolute = (refl, refl)
function_again function.DecimalModulo = (refl, refl)
function_again function.Floor = (refl, refl)
function_again function.Ceiling = (refl, refl)
function_again function.IsNull = (refl, refl)
function_again function.Length = (refl, refl)
function_again function.Substring = (refl, refl)
function_again function.SubstringFrom = (refl, refl)
function_again function.Trim = (refl, refl)

made_again : (i : Instr) → MakesAgain i (row_of_code (operation_code i))
made_again (instr.Const n) = (refl, refl)
made_again (instr.Null ty) = (refl, refl)
made_again (instr.GLoad n) = (refl, refl)
made_again (instr.GStore n) = (refl, refl)
made_again (instr.LLoad n) = (refl, refl)
made_again (instr.LStore n) = (refl, refl)
made_again instr.DropTop = (refl, refl)
made_again instr.IToD = (refl, refl)
made_again (instr.Rescale p s) = (refl, refl)
made_again (instr.Pad n) = (refl, refl)
made_again (instr.Cut n) = (refl, refl)
made_again instr.IAdd = (refl, refl)
made_again instr.ISub = (refl, refl)
made_again instr.IMul = (refl, refl)
made_again instr.INeg = (refl, refl)
made_again instr.DAdd = (refl, refl)
made_again instr.DSub = (refl, refl)
made_again instr.DMul = (refl, refl)
made_again instr.DDiv = (refl, refl)
made_again instr.DNeg = (refl, refl)
made_again (instr.ICmp comparison) = (refl, rw (comparison_found comparison) refl)
made_again (instr.DCmp comparison) = (refl, rw (comparison_found comparison) refl)
made_again (instr.TCmp comparison) = (refl, rw (comparison_found comparison) refl)
made_again instr.And = (refl, refl)
made_again instr.Or = (refl, refl)
made_again instr.Not = (refl, refl)
made_again instr.ITruth = (refl, refl)
made_again instr.DTruth = (refl, refl)
made_again (instr.Choose n) = (refl, refl)
made_again (instr.Least n) = (refl, refl)
made_again (instr.Greatest n) = (refl, refl)
made_again (instr.Apply f) = function_again f
made_again instr.Cat = (refl, refl)
made_again (instr.Tick place) = (refl, refl)
made_again (instr.Jump n) = (refl, refl)
made_again (instr.JFalse n) = (refl, refl)
made_again (instr.JTrue n) = (refl, refl)
made_again (instr.Call n) = (refl, refl)
made_again instr.Ret = (refl, refl)
made_again instr.RetV = (refl, refl)
made_again instr.NoWhen = (refl, refl)
made_again (instr.Output n) = (refl, refl)
made_again instr.Show = (refl, refl)
made_again (instr.Put n) = (refl, refl)
made_again (instr.HCall hash f) = (refl, rw (hash_function_found f) refl)
made_again (instr.ICall iterator f) = (refl, rw (iterator_function_found f) refl)
made_again (instr.SetParm n) = (refl, refl)
made_again instr.End = (refl, refl)

written_is : (code : ℕ) (fields : Fields) (i : Instr) → operation_code i ≡ code → fields_of i ≡ fields → written_instr_of i ≡ record { code = code; fields = fields }
written_is code fields i same_code same_fields = rw (same_code, same_fields) refl

-- no other instruction is written so
pub instr_only : (w : WrittenInstr) (i : Instr) → instr_of w ≡ Some i → written_instr_of i ≡ w
instr_only w i e =
    let k = chained_some (λ (row : InstrRow). row.make w.fields) (row_of_code w.code) i e in
    let same_code : 0 + w.code ≡ w.code = omega arith in
    let row : KeepsFields w.code k.0 = subst (λ code. KeepsFields code k.0) same_code (rows_keep.kept w.code k.0 k.1) in
    let same = row.keeps w.fields i k.2 in
    written_is w.code w.fields i same.0 same.1

again_of : (i : Instr) (o : Option InstrRow) → MakesAgain i o → option_and_then (λ (row : InstrRow). row.make (fields_of i)) o ≡ Some i
again_of i None h = absurd h
again_of i (Some row) h = h.1

-- an instruction is what is written of it
pub instr_written : (i : Instr) → instr_of (written_instr_of i) ≡ Some i
instr_written i = again_of i (row_of_code (operation_code i)) (made_again i)

shape_found : (i : Instr) (o : Option InstrRow) → MakesAgain i o → option_map_or (λ (row : InstrRow). row.shape) o shape.NoField ≡ shape_of_fields (fields_of i)
shape_found i None h = absurd h
shape_found i (Some row) h = h.0

-- the row with an instruction's operation code has the shape of its fields
pub own_shape : (i : Instr) → option_map_or (λ (row : InstrRow). row.shape) (row_of_code (operation_code i)) shape.NoField ≡ shape_of_fields (fields_of i)
own_shape i = shape_found i (row_of_code (operation_code i)) (made_again i)

found_within : (i : Instr) (code : ℕ) (o : Option InstrRow) → slice_get instr_rows code ≡ o → MakesAgain i o → nat_lt code (length instr_rows) ≡ true
found_within i code None e h = absurd h
found_within i code (Some row) e h = lt-ltb code (length instr_rows) (slice_get_within instr_rows code row e)

-- an operation code is the number of a row
pub own_code : (i : Instr) → nat_lt (operation_code i) (length instr_rows) ≡ true
own_code i = found_within i (operation_code i) (row_of_code (operation_code i)) refl (made_again i)
