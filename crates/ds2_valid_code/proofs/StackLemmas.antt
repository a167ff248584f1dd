-- What instructions leave, by what is left of the operands.
use Rattle.std.proofs.Common.{◌≡◌, ℕ, suc, ◌+◌, Bool, true, false, ◌&&◌, List, [], ◌∷◌, ◌++◌, take, length, Option, Some, None, map, refl, sym, ap, ◌∙◌, append-nil, append_assoc}
use Rattle.std.specs.Prelude.{min, reverse, replicate, if◌then◌else◌}
use Rattle.std.specs.Option.{option_map}
use Rattle.std.proofs.lemmas.List.{reverse-append}
use Rattle.ds2_value.specs.declared.ty.TheConstants.{TEXT_CHARACTERS}
use Rattle.ds2_value.specs.declared.ty.Ty.{Ty}
use Rattle.ds2_value.specs.declared.ty.Ty.TheVariants.{BigInt, Decimal as DecimalOf, Char, Varchar}
use Rattle.ds2_code.specs.declared.parts.MethodPart.{MethodPart}
use Rattle.ds2_code.specs.declared.parts.ParameterPart.{ParameterPart}
use Rattle.ds2_value.specs.ValueFunctions.{is_of_class, is_text_type, text_length, always, by_scales}
use Rattle.ds2_value.specs.declared.value_function.OperandClass.{OperandClass}
use Rattle.ds2_value.specs.declared.value_function.OperandClass.TheVariants.{OneType, AnyDecimal, AnyText}
use Rattle.ds2_code.specs.OperandTypes.{OperandTypes, TakenTypes, take_classes, with_type, one_for, none_for, when_none, none_below, both_texts, with_in_out_types, with_result_type, after_call_types, call_types}
use Rattle.ds2_valid_code.specs.OperandStack.{below_classes}

below_if : (b : Bool) (x : Option TakenTypes) (y : Option OperandTypes) → none_for x ≡ y → none_for (if b then x else None) ≡ (if b then y else None)
below_if true x y e = e
below_if false x y e = refl

pub below_taken : (cs : List OperandClass) (taken : List Ty) (types : OperandTypes) → none_for (take_classes cs taken types) ≡ below_classes cs types
below_taken [] taken types = refl
below_taken (c ∷ cs) taken [] = refl
below_taken (c ∷ cs) taken (t ∷ types) =
    below_if (is_of_class c t) (take_classes cs (t ∷ taken) types) (below_classes cs types) (below_taken cs (t ∷ taken) types)

one_is : (t : Ty) (o : Option TakenTypes) → one_for (always t) o ≡ option_map (λ below. t ∷ below) (none_for o)
one_is t None = refl
one_is t (Some operands) = refl

-- one operand of a type for those that were taken off
pub one_for_always : (t : Ty) (cs : List OperandClass) (types : OperandTypes) → one_for (always t) (take_classes cs [] types) ≡ option_map (λ below. t ∷ below) (below_classes cs types)
one_for_always t cs types = one_is t (take_classes cs [] types) ∙ ap (option_map (λ below. t ∷ below)) (below_taken cs [] types)

-- none for those that were taken off
pub none_for_below : (cs : List OperandClass) (types : OperandTypes) → none_for (take_classes cs [] types) ≡ below_classes cs types
none_for_below cs types = below_taken cs [] types

-- nothing may be left
abbrev pub nothing_left : Option OperandTypes → Option OperandTypes
nothing_left None = None
nothing_left (Some types) = when_none types

below_is : (o : Option TakenTypes) → none_below o ≡ nothing_left (none_for o)
below_is None = refl
below_is (Some operands) = refl

pub none_below_only : (cs : List OperandClass) (types : OperandTypes) → none_below (take_classes cs [] types) ≡ nothing_left (below_classes cs types)
none_below_only cs types = below_is (take_classes cs [] types) ∙ ap nothing_left (below_taken cs [] types)

module _ (f : ℕ → ℕ → ℕ) where
  pub two_decimals : (second first : Ty) (rest : OperandTypes)
      → one_for (by_scales f) (take_classes (AnyDecimal ∷ AnyDecimal ∷ []) [] (second ∷ first ∷ rest)) ≡ with_type (by_scales f (first ∷ second ∷ [])) rest
  two_decimals BigInt BigInt rest = refl
  two_decimals BigInt (DecimalOf p s) rest = refl
  two_decimals BigInt (Char n) rest = refl
  two_decimals BigInt (Varchar n) rest = refl
  two_decimals (DecimalOf q t) BigInt rest = refl
  two_decimals (DecimalOf q t) (DecimalOf p s) rest = refl
  two_decimals (DecimalOf q t) (Char n) rest = refl
  two_decimals (DecimalOf q t) (Varchar n) rest = refl
  two_decimals (Char m) BigInt rest = refl
  two_decimals (Char m) (DecimalOf p s) rest = refl
  two_decimals (Char m) (Char n) rest = refl
  two_decimals (Char m) (Varchar n) rest = refl
  two_decimals (Varchar m) BigInt rest = refl
  two_decimals (Varchar m) (DecimalOf p s) rest = refl
  two_decimals (Varchar m) (Char n) rest = refl
  two_decimals (Varchar m) (Varchar n) rest = refl

  pub one_decimal : (second : Ty) → one_for (by_scales f) (take_classes (AnyDecimal ∷ AnyDecimal ∷ []) [] (second ∷ [])) ≡ None
  one_decimal BigInt = refl
  one_decimal (DecimalOf q t) = refl
  one_decimal (Char m) = refl
  one_decimal (Varchar m) = refl

  pub no_decimal : one_for (by_scales f) (take_classes (AnyDecimal ∷ AnyDecimal ∷ []) [] []) ≡ None
  no_decimal = refl

-- the types that were taken off are those of the last operands
taken_on_top : (cs : List OperandClass) (taken : List Ty) (types : OperandTypes) (r : TakenTypes) → take_classes cs taken types ≡ Some r → r.taken ≡ reverse (take (length cs) types) ++ taken
taken_on_top [] taken types r e = let is : record { taken = taken; below = types } ≡ r = cc in ap (λ (z : TakenTypes). z.taken) (sym is)
taken_on_top (c ∷ cs) taken [] r e = absurd cc
taken_on_top (c ∷ cs) taken (t ∷ types) r e =
    taken_on_top cs (t ∷ taken) types r (if_some (is_of_class c t) (take_classes cs (t ∷ taken) types) r e)
    ∙ sym (append_assoc (reverse (take (length cs) types)) (t ∷ []) taken)
    ∙ ap (λ (z : List Ty). z ++ taken) (sym (reverse-append (t ∷ []) (take (length cs) types)))
  where
    if_some : (b : Bool) (x : Option TakenTypes) (r : TakenTypes) → (if b then x else None) ≡ Some r → x ≡ Some r
    if_some true x r e = e
    if_some false x r e = absurd cc

-- one operand for those that were taken off, where its type goes by theirs
abbrev pub with_type_behind : Option Ty → Option OperandTypes → Option OperandTypes
with_type_behind t None = None
with_type_behind t (Some types) = with_type t types

pub one_for_taken : (result : List Ty → Option Ty) (cs : List OperandClass) (types : OperandTypes)
    → one_for result (take_classes cs [] types) ≡ with_type_behind (result (reverse (take (length cs) types))) (below_classes cs types)
one_for_taken result cs types = of (take_classes cs [] types) refl ∙ ap (with_type_behind (result (reverse (take (length cs) types)))) (below_taken cs [] types)
  where
    of : (o : Option TakenTypes) → take_classes cs [] types ≡ o → one_for result o ≡ with_type_behind (result (reverse (take (length cs) types))) (none_for o)
    of None e = refl
    of (Some r) e = ap (λ z. with_type (result z) r.below) (taken_on_top cs [] types r e ∙ append-nil (reverse (take (length cs) types)))

two_if : (b c : Bool) (x : Option TakenTypes) (y : Option OperandTypes) → one_for both_texts x ≡ y → one_for both_texts (if b then (if c then x else None) else None) ≡ (if b && c then y else None)
two_if true true x y e = e
two_if true false x y e = refl
two_if false c x y e = refl

pub two_texts : (second first : Ty) (rest : OperandTypes)
    → one_for both_texts (take_classes (AnyText ∷ AnyText ∷ []) [] (second ∷ first ∷ rest))
    ≡ (if is_text_type second && is_text_type first then Some (Varchar (min TEXT_CHARACTERS (text_length first + text_length second)) ∷ rest) else None)
two_texts second first rest =
    two_if (is_text_type second) (is_text_type first) (Some (record { taken = first ∷ second ∷ []; below = rest }))
    (Some (Varchar (min TEXT_CHARACTERS (text_length first + text_length second)) ∷ rest)) refl

one_if : (b : Bool) → one_for both_texts (if b then None else None) ≡ None
one_if true = refl
one_if false = refl

pub one_text : (second : Ty) → one_for both_texts (take_classes (AnyText ∷ AnyText ∷ []) [] (second ∷ [])) ≡ None
one_text second = one_if (is_text_type second)

pub no_text : one_for both_texts (take_classes (AnyText ∷ AnyText ∷ []) [] []) ≡ None
no_text = refl

-- n of a class are one and the others
pub one_of_many : {A : Type 0} (x : A) (n m : ℕ) → n ≡ suc m → replicate n x ≡ x ∷ replicate m x
one_of_many x n m e = ap (λ k. replicate k x) e

one_more : (c : OperandClass) (cs : List OperandClass) (b : Bool) (old new : OperandTypes) → below_classes (c ∷ []) old ≡ (if b then Some new else None) → below_classes (c ∷ cs) old ≡ (if b then below_classes cs new else None)
one_more c cs b [] new e = by b e
  where
    by : (b : Bool) → None ≡ (if b then Some new else None) → None ≡ (if b then below_classes cs new else None)
    by true e = absurd cc
    by false e = refl
one_more c cs b (t ∷ old) new e = by (is_of_class c t) b e
  where
    by : (a b : Bool) → (if a then Some old else None) ≡ (if b then Some new else None) → (if a then below_classes cs old else None) ≡ (if b then below_classes cs new else None)
    by true true e = let w : old ≡ new = cc in ap (below_classes cs) w
    by true false e = absurd cc
    by false true e = absurd cc
    by false false e = refl

-- an argument that is taken off leaves the others to be taken off
pub argument_off : (before : List ParameterPart) (last : ParameterPart) (b : Bool) (old new : OperandTypes) → below_classes (OneType last.ty ∷ []) old ≡ (if b then Some new else None)
    → below_classes (map (λ (p : ParameterPart). OneType p.ty) (reverse (before ++ last ∷ []))) old ≡ (if b then below_classes (map (λ (p : ParameterPart). OneType p.ty) (reverse before)) new else None)
argument_off before last b old new e =
    ap (λ z. below_classes (map (λ (p : ParameterPart). OneType p.ty) z) old) (reverse-append before (last ∷ []))
    ∙ one_more (OneType last.ty) (map (λ (p : ParameterPart). OneType p.ty) (reverse before)) b old new e

after_is : (m : MethodPart) (o : Option TakenTypes) → after_call_types m o ≡ option_map (λ below. with_in_out_types m.parameters (with_result_type m.returns below)) (none_for o)
after_is m None = refl
after_is m (Some operands) = refl

-- what a call leaves, by what its arguments leave
pub call_below : (m : MethodPart) (types : OperandTypes)
    → call_types (Some m) types
    ≡ option_map (λ below. with_in_out_types m.parameters (with_result_type m.returns below)) (below_classes (map (λ (p : ParameterPart). OneType p.ty) (reverse m.parameters)) types)
call_below m types =
    let cs = map (λ (p : ParameterPart). OneType p.ty) (reverse m.parameters) in
    after_is m (take_classes cs [] types) ∙ ap (option_map (λ below. with_in_out_types m.parameters (with_result_type m.returns below))) (below_taken cs [] types)
