-- How many operands an instruction takes and leaves, where their types suffice.
use Rattle.std.proofs.Common.{◌≡◌, ℕ, ◌+◌, Bool, true, false, List, [], ◌∷◌, Option, Some, None, length, refl, sym, ap, ◌∙◌, subst, arith}
use Rattle.ds2_value.specs.declared.ty.TheConstants.{TEXT_CHARACTERS}
use Rattle.std.specs.Prelude.{max, nat_le, ◌&&◌, if◌then◌else◌, map, reverse, replicate, slice_get}
use Rattle.std.proofs.lemmas.List.{length-replicate, length-map}
use Rattle.std.proofs.lemmas.List.{length-reverse}
use Rattle.ds2_value.specs.Types.{in_bounds}
use Rattle.ds2_value.specs.declared.ty.Ty.{Ty}
use Rattle.ds2_value.specs.declared.ty.Ty.TheVariants.{BigInt, Decimal as DecimalOf, Char, Varchar}
use Rattle.ds2_code.specs.declared.instr.Instr.{Instr}
use Rattle.ds2_code.specs.declared.instr.Instr.TheVariants as instr
use Rattle.ds2_code.specs.declared.parts.HashPart.{HashPart}
use Rattle.ds2_code.specs.declared.parts.MethodPart.{MethodPart}
use Rattle.ds2_code.specs.declared.parts.OutputPart.{OutputPart}
use Rattle.ds2_code.specs.declared.parts.ParameterPart.{ParameterPart}
use Rattle.ds2_code.specs.declared.parts.ProgramParts.{ProgramParts}
use Rattle.ds2_code.specs.InstructionTable.{Kind, Pure, Partial, Loads, Stores, Drops, CallsHash, CallsIterator, Writes, Puts, Ticks, Jumps, Tests, Enters, GoesBack, Raises, Finishes, kind_of}
use Rattle.ds2_value.specs.ValueFunctions.{function_row, type_by, is_of_class, always, as_operand, by_scales}
use Rattle.ds2_value.specs.declared.value_function.OperandClass.{OperandClass}
use Rattle.ds2_value.specs.declared.value_function.OperandClass.TheVariants.{OneType, AnyDecimal, AnyText, AnyType}
use Rattle.ds2_code.specs.OperandTypes.{OperandTypes, Signature, CodeRole, OfUnit, OfMethod, TakenTypes, take_classes, with_type, one_for, none_for, when_none, none_below, both_texts, is_number_type, chosen_types, chosen_numbers, when_there, stored_type, with_in_out_types, with_result_type, after_call_types, call_types, without_result, with_only_result, return_types, result_types, types_behind}

some_is : {A : Type 0} (x y : A) → Some x ≡ Some y → x ≡ y
some_is x y h = cc

if_some : {A : Type 0} (b : Bool) (o : Option A) (t : A) → (if b then o else None) ≡ Some t → o ≡ Some t
if_some true o t h = h
if_some false o t h = absurd cc

-- so many operands taken off, and one put there
abbrev pub Made : ℕ → ℕ → ℕ → Type 0
Made k n a = (rest : ℕ) × (n ≡ k + rest) × (a ≡ 1 + rest)

taken_counts : (cs : List OperandClass) (acc : List Ty) (types : OperandTypes) (t : TakenTypes) → take_classes cs acc types ≡ Some t → length types ≡ length cs + length t.below
taken_counts [] acc types t h = omega (arith, ap (λ (z : TakenTypes). length z.below) (some_is (record { taken = acc; below = types }) t h))
taken_counts (c ∷ cs) acc [] t h = absurd cc
taken_counts (c ∷ cs) acc (u ∷ types) t h =
    let ih = taken_counts cs (u ∷ acc) types t (if_some (is_of_class c u) (take_classes cs (u ∷ acc) types) t h) in omega (arith, ih)

typed_counts : (o : Option Ty) (types after : OperandTypes) → with_type o types ≡ Some after → length after ≡ 1 + length types
typed_counts None types after h = absurd cc
typed_counts (Some t) types after h = omega (arith, ap (λ z. length z) (some_is (t ∷ types) after h))

one_counts : (f : List Ty → Option Ty) (cs : List OperandClass) (types after : OperandTypes) → one_for f (take_classes cs [] types) ≡ Some after → Made (length cs) (length types) (length after)
one_counts f cs types after h = of (take_classes cs [] types) refl h
  where
    of : (o : Option TakenTypes) → take_classes cs [] types ≡ o → one_for f o ≡ Some after → Made (length cs) (length types) (length after)
    of None e h = absurd cc
    of (Some t) e h = (length t.below, taken_counts cs [] types t e, typed_counts (f t.taken) t.below after h)

none_counts : (cs : List OperandClass) (types after : OperandTypes) → none_for (take_classes cs [] types) ≡ Some after → length types ≡ length cs + length after
none_counts cs types after h = of (take_classes cs [] types) refl h
  where
    of : (o : Option TakenTypes) → take_classes cs [] types ≡ o → none_for o ≡ Some after → length types ≡ length cs + length after
    of None e h = absurd cc
    of (Some t) e h = omega (arith, taken_counts cs [] types t e, ap (λ z. length z) (some_is t.below after h))

none_is : (types after : OperandTypes) → when_none types ≡ Some after → (length types ≡ 0) × (length after ≡ 0)
none_is [] after h = (refl, sym (ap (λ z. length z) (some_is [] after h)))
none_is (t ∷ types) after h = absurd cc

only_counts : (cs : List OperandClass) (types after : OperandTypes) → none_below (take_classes cs [] types) ≡ Some after → (length types ≡ length cs) × (length after ≡ 0)
only_counts cs types after h = of (take_classes cs [] types) refl h
  where
    of : (o : Option TakenTypes) → take_classes cs [] types ≡ o → none_below o ≡ Some after → (length types ≡ length cs) × (length after ≡ 0)
    of None e h = absurd cc
    of (Some t) e h = let k = none_is t.below after h in (omega (arith, taken_counts cs [] types t e, k.0), k.1)

stored_counts : (o : Option Ty) (types after : OperandTypes) → stored_type o types ≡ Some after → length types ≡ 1 + length after
stored_counts None types after h = absurd cc
stored_counts (Some t) types after h = none_counts (OneType t ∷ []) types after h

pushed_counts : (t : Ty) (types after : OperandTypes) → Some (t ∷ types) ≡ Some after → length after ≡ 1 + length types
pushed_counts t types after h = typed_counts (Some t) types after h

there_is : {A : Type 0} (o : Option A) (types : Option OperandTypes) (after : OperandTypes) → when_there o types ≡ Some after → (x : A) × (o ≡ Some x) × (types ≡ Some after)
there_is None types after h = absurd cc
there_is (Some x) types after h = (x, refl, h)

same_counts : (types after : OperandTypes) → Some types ≡ Some after → length after ≡ length types
same_counts types after h = sym (ap (λ z. length z) (some_is types after h))

chosen_counts : (least n : ℕ) (types after : OperandTypes) → chosen_types least n types ≡ Some after → Made n (length types) (length after)
chosen_counts least n [] after h = absurd cc
chosen_counts least n (t ∷ types) after h =
    let g = if_some (nat_le least n && nat_le n 16) (one_for (always t) (take_classes (replicate n (OneType t)) [] (t ∷ types))) after h in
    subst (λ z. Made z (length (t ∷ types)) (length after)) (length-replicate n (OneType t)) (one_counts (always t) (replicate n (OneType t)) (t ∷ types) after g)

number_counts : (n : ℕ) (types after : OperandTypes) → chosen_numbers n types ≡ Some after → Made n (length types) (length after)
number_counts n [] after h = absurd cc
number_counts n (t ∷ types) after h = chosen_counts 2 n (t ∷ types) after (if_some (is_number_type t) (chosen_types 2 n (t ∷ types)) after h)

text_counts : (n : ℕ) (types after : OperandTypes) → none_for (take_classes (replicate n AnyText) [] types) ≡ Some after → length types ≡ n + length after
text_counts n types after h = omega (arith, none_counts (replicate n AnyText) types after h, length-replicate n AnyText)

-- ---- what a call leaves

-- how many in_out parameters there are
abbrev pub in_outs : List ParameterPart → ℕ
in_outs [] = 0
in_outs (p ∷ ps) = (if p.is_in_out then 1 else 0) + in_outs ps

-- how many results
abbrev pub results : Option Ty → ℕ
results None = 0
results (Some t) = 1

pub one_more_where : {A : Type 0} (b : Bool) (x : A) (xs : List A) → length (if b then x ∷ xs else xs) ≡ (if b then 1 else 0) + length xs
one_more_where true x xs = omega arith
one_more_where false x xs = omega arith

in_out_types_count : (ps : List ParameterPart) (types : OperandTypes) → length (with_in_out_types ps types) ≡ in_outs ps + length types
in_out_types_count [] types = omega arith
in_out_types_count (p ∷ ps) types =
    omega (arith, in_out_types_count ps (if p.is_in_out then p.ty ∷ types else types), one_more_where p.is_in_out p.ty types)

result_types_count : (r : Option Ty) (types : OperandTypes) → length (with_result_type r types) ≡ results r + length types
result_types_count None types = omega arith
result_types_count (Some t) types = omega arith

-- a call of a method takes its arguments and leaves in_out parameters and a result
abbrev pub CallCounts : ProgramParts → ℕ → ℕ → ℕ → Type 0
CallCounts code m n a =
    (method : MethodPart) × (slice_get code.methods m ≡ Some method) × (rest : ℕ) × (n ≡ length method.parameters + rest)
    × (a ≡ in_outs method.parameters + results method.returns + rest)

call_counts : (code : ProgramParts) (m : ℕ) (types after : OperandTypes) → call_types (slice_get code.methods m) types ≡ Some after → CallCounts code m (length types) (length after)
call_counts code m types after h = of (slice_get code.methods m) refl h
  where
    of : (o : Option MethodPart) → slice_get code.methods m ≡ o → call_types o types ≡ Some after → CallCounts code m (length types) (length after)
    of None e h = absurd cc
    of (Some method) e h = taken (take_classes (map (λ (p : ParameterPart). OneType p.ty) (reverse method.parameters)) [] types) refl h
      where
        classes : List OperandClass
        classes = map (λ (p : ParameterPart). OneType p.ty) (reverse method.parameters)

        as_many : length (map (λ (p : ParameterPart). OneType p.ty) (reverse method.parameters)) ≡ length method.parameters
        as_many = length-map (reverse method.parameters) (λ (p : ParameterPart). OneType p.ty) ∙ length-reverse method.parameters

        taken : (q : Option TakenTypes) → take_classes (map (λ (p : ParameterPart). OneType p.ty) (reverse method.parameters)) [] types ≡ q
            → after_call_types method q ≡ Some after → CallCounts code m (length types) (length after)
        taken None f h = absurd cc
        taken (Some t) f h =
            let left = with_result_type method.returns t.below in
            let is : with_in_out_types method.parameters left ≡ after = some_is (with_in_out_types method.parameters left) after h in (
              method,
              e,
              length t.below,
              omega (arith, taken_counts (map (λ (p : ParameterPart). OneType p.ty) (reverse method.parameters)) [] types t f, as_many),
              omega (arith, in_out_types_count method.parameters left, result_types_count method.returns t.below, ap (λ z. length z) is),
            )

-- a return stands in a method, and finds its result alone
abbrev pub ReturnCounts : CodeRole → Bool → ℕ → Type 0
ReturnCounts role b n = (signature : Signature) × (role ≡ OfMethod signature) × (n ≡ (if b then 1 else 0)) × (results signature.returns ≡ (if b then 1 else 0))

without_counts : (r : Option Ty) (types after : OperandTypes) → without_result r types ≡ Some after → (length types ≡ 0) × (results r ≡ 0)
without_counts None types after h = ((none_is types after h).0, refl)
without_counts (Some t) types after h = absurd cc

only_result_counts : (r : Option Ty) (types after : OperandTypes) → with_only_result r types ≡ Some after → (length types ≡ 1) × (results r ≡ 1)
only_result_counts None types after h = absurd cc
only_result_counts (Some t) types after h = ((only_counts (OneType t ∷ []) types after h).0, refl)

return_counts : (role : CodeRole) (types after : OperandTypes) → return_types role types ≡ Some after → ReturnCounts role false (length types)
return_counts OfUnit types after h = absurd cc
return_counts (OfMethod signature) types after h = let k = without_counts signature.returns types after h in (signature, refl, k.0, k.1)

result_counts : (role : CodeRole) (types after : OperandTypes) → result_types role types ≡ Some after → ReturnCounts role true (length types)
result_counts OfUnit types after h = absurd cc
result_counts (OfMethod signature) types after h = let k = only_result_counts signature.returns types after h in (signature, refl, k.0, k.1)

-- ---- by kinds

-- what an instruction of a kind finds among n operands, and that it leaves a
abbrev pub CountsFor : ProgramParts → CodeRole → Kind → ℕ → ℕ → Type 0
CountsFor code role (Pure k f) n a = Made k n a
CountsFor code role (Partial k f) n a = Made k n a
CountsFor code role (Loads s) n a = a ≡ 1 + n
CountsFor code role (Stores d) n a = n ≡ 1 + a
CountsFor code role Drops n a = n ≡ 1 + a
CountsFor code role (CallsHash f h) n a = (hash : HashPart) × (slice_get code.hashes h ≡ Some hash) × (a ≡ 1 + n)
CountsFor code role (CallsIterator f i) n a = (h : ℕ) × (slice_get code.iterators i ≡ Some h) × (a ≡ 1 + n)
CountsFor code role (Writes o) n a = (output : OutputPart) × (slice_get code.outputs o ≡ Some output) × (a ≡ n)
CountsFor code role (Puts k) n a = n ≡ k + a
CountsFor code role (Ticks p) n a = a ≡ n
CountsFor code role (Jumps t) n a = n ≡ 0
CountsFor code role (Tests b t) n a = (n ≡ 1) × (a ≡ 0)
CountsFor code role (Enters m) n a = CallCounts code m n a
CountsFor code role (GoesBack b) n a = ReturnCounts role b n
CountsFor code role (Raises f) n a = Unit {0}
CountsFor code role Finishes n a = Unit {0}

module _ (code : ProgramParts) (parameters : List (Option Ty)) (role : CodeRole) where
  pub counts : (i : Instr) (types after : OperandTypes) → types_behind code parameters role i types ≡ Some after → CountsFor code role (kind_of i) (length types) (length after)
  counts (instr.Const k) types after h = typed_counts _ types after h
  counts (instr.Null t) types after h = (length types, omega arith, pushed_counts t types after (if_some (in_bounds t) (Some (t ∷ types)) after h))
  counts (instr.GLoad n) types after h = typed_counts _ types after h
  counts (instr.GStore n) types after h = stored_counts _ types after h
  counts (instr.LLoad n) types after h = typed_counts _ types after h
  counts (instr.LStore n) types after h = stored_counts _ types after h
  counts instr.DropTop types after h = none_counts (AnyType ∷ []) types after h
  counts instr.IToD types after h = one_counts (always (DecimalOf 19 0)) (OneType BigInt ∷ []) types after h
  counts (instr.Rescale p s) types after h = one_counts (always (DecimalOf p s)) (AnyDecimal ∷ []) types after (if_some (in_bounds (DecimalOf p s)) _ after h)
  counts (instr.Pad n) types after h = one_counts (always (Char n)) (AnyText ∷ []) types after (if_some (in_bounds (Char n)) _ after h)
  counts (instr.Cut n) types after h = one_counts (always (Varchar n)) (AnyText ∷ []) types after (if_some (in_bounds (Varchar n)) _ after h)
  counts instr.IAdd types after h = one_counts (always BigInt) (OneType BigInt ∷ OneType BigInt ∷ []) types after h
  counts instr.ISub types after h = one_counts (always BigInt) (OneType BigInt ∷ OneType BigInt ∷ []) types after h
  counts instr.IMul types after h = one_counts (always BigInt) (OneType BigInt ∷ OneType BigInt ∷ []) types after h
  counts instr.INeg types after h = one_counts (always BigInt) (OneType BigInt ∷ []) types after h
  counts instr.DAdd types after h = one_counts (by_scales max) (AnyDecimal ∷ AnyDecimal ∷ []) types after h
  counts instr.DSub types after h = one_counts (by_scales max) (AnyDecimal ∷ AnyDecimal ∷ []) types after h
  counts instr.DMul types after h = one_counts (by_scales (λ s t. s + t)) (AnyDecimal ∷ AnyDecimal ∷ []) types after h
  counts instr.DDiv types after h = one_counts (by_scales (λ s t. max 6 (max s t))) (AnyDecimal ∷ AnyDecimal ∷ []) types after h
  counts instr.DNeg types after h = one_counts as_operand (AnyDecimal ∷ []) types after h
  counts (instr.ICmp c) types after h = one_counts (always BigInt) (OneType BigInt ∷ OneType BigInt ∷ []) types after h
  counts (instr.DCmp c) types after h = one_counts (always BigInt) (AnyDecimal ∷ AnyDecimal ∷ []) types after h
  counts (instr.TCmp c) types after h = one_counts (always BigInt) (AnyText ∷ AnyText ∷ []) types after h
  counts instr.And types after h = one_counts (always BigInt) (OneType BigInt ∷ OneType BigInt ∷ []) types after h
  counts instr.Or types after h = one_counts (always BigInt) (OneType BigInt ∷ OneType BigInt ∷ []) types after h
  counts instr.Not types after h = one_counts (always BigInt) (OneType BigInt ∷ []) types after h
  counts instr.ITruth types after h = one_counts (always BigInt) (OneType BigInt ∷ []) types after h
  counts instr.DTruth types after h = one_counts (always BigInt) (AnyDecimal ∷ []) types after h
  counts (instr.Choose n) types after h = chosen_counts 1 n types after h
  counts (instr.Least n) types after h = number_counts n types after h
  counts (instr.Greatest n) types after h = number_counts n types after h
  counts (instr.Apply f) types after h = one_counts (type_by (function_row f).result) (function_row f).operands types after h
  counts instr.Cat types after h = one_counts both_texts (AnyText ∷ AnyText ∷ []) types after h
  counts (instr.Tick p) types after h = same_counts types after h
  counts (instr.Jump t) types after h = (none_is types after h).0
  counts (instr.JFalse t) types after h = only_counts (OneType BigInt ∷ []) types after h
  counts (instr.JTrue t) types after h = only_counts (OneType BigInt ∷ []) types after h
  counts (instr.Call m) types after h = call_counts code m types after h
  counts instr.Ret types after h = return_counts role types after h
  counts instr.RetV types after h = result_counts role types after h
  counts instr.NoWhen types after h = tt
  counts (instr.Output o) types after h = let k = there_is (slice_get code.outputs o) (Some types) after h in (k.0, k.1, same_counts types after k.2)
  counts instr.Show types after h = one_counts (always (Varchar TEXT_CHARACTERS)) (AnyType ∷ []) types after h
  counts (instr.Put n) types after h = text_counts n types after (if_some (nat_le n 1000000) (none_for (take_classes (replicate n AnyText) [] types)) after h)
  counts (instr.HCall k f) types after h = let t = there_is (slice_get code.hashes k) (Some (BigInt ∷ types)) after h in (t.0, t.1, pushed_counts BigInt types after t.2)
  counts (instr.ICall k f) types after h = let t = there_is (slice_get code.iterators k) (Some (BigInt ∷ types)) after h in (t.0, t.1, pushed_counts BigInt types after t.2)
  counts (instr.SetParm j) types after h = stored_counts _ types after h
  counts instr.End types after h = tt
