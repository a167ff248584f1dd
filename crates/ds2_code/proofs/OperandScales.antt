-- Operands that are taken off beside their types, and what stands in their place.
use Rattle.std.proofs.Common.{◌≡◌, ℕ, zero, suc, Bool, true, false, ◌&&◌, List, [], ◌∷◌, ◌++◌, map, reverse, length, replicate, Option, Some, None, refl, sym, ap, ◌∙◌, subst, fold, IsTrue, if◌then◌else◌, nat_le, append_assoc}
use Rattle.ds2_value.specs.Types.{same_ty}
use Rattle.std.proofs.lemmas.List.{append-nil, reverse-append, reverse-reverse, length-reverse, length-replicate}
use Rattle.ds2_value.specs.Row.{Row}
use Rattle.ds2_value.specs.declared.ty.Ty.{Ty}
use Rattle.ds2_value.specs.declared.value.Value.{Value}
use Rattle.ds2_value.specs.declared.value.Value.TheVariants.{Null}
use Rattle.ds2_code.specs.declared.parts.ParameterPart.{ParameterPart}
use Rattle.ds2_code.specs.CodeRun.{with_in_outs}
use Rattle.ds2_code.specs.Desk.{Taken, take_off}
use Rattle.ds2_value.specs.ValueFunctions.{is_of_class, always}
use Rattle.ds2_value.specs.declared.value_function.OperandClass.{OperandClass}
use Rattle.ds2_value.specs.declared.value_function.OperandClass.TheVariants.{OneType}
use Rattle.ds2_code.specs.OperandTypes.{OperandTypes, TakenTypes, take_classes, with_type, one_for, none_for, when_none, none_below, is_number_type, chosen_types, chosen_numbers, types_of_parameters, with_in_out_types}
use Rattle.ds2_code.specs.Scales.{is_scaled, AreScaled}
use Rattle.ds2_code.proofs.ScaledLists.{if_some, when_true, some_is, of_same_type}
use Rattle.ds2_code.proofs.ScaledResults.{AllScaled, KeepsType, fold_scaled}

same_taken : (x y : Taken) → Some x ≡ Some y → x ≡ y
same_taken x y h = cc

-- what was taken off, and what is below it
abbrev pub BothScaled : Taken → TakenTypes → Type 0
BothScaled t types = AreScaled t.values types.taken × AreScaled t.below types.below

pub taken_scaled : (cs : List OperandClass) (acc : List Ty) (types : OperandTypes) (q : TakenTypes) (vs stack : Row) (t : Taken)
    → take_classes cs acc types ≡ Some q → AreScaled vs acc → AreScaled stack types → take_off (length cs) vs stack ≡ Some t → BothScaled t q
taken_scaled [] acc types q vs stack t h k s g =
    let e : record { taken = acc; below = types } ≡ q = cc in
    let f : record { values = vs; below = stack } ≡ t = cc in
    subst (λ (z : TakenTypes). BothScaled t z) e (subst (λ (z : Taken). BothScaled z (record { taken = acc; below = types })) f (k, s))
taken_scaled (c ∷ cs) acc [] q vs stack t h k s g = absurd cc
taken_scaled (c ∷ cs) acc (u ∷ types) q vs [] t h k s g = absurd s
taken_scaled (c ∷ cs) acc (u ∷ types) q vs (v ∷ stack) t h k s g =
    taken_scaled cs (u ∷ acc) types q (v ∷ vs) stack t (if_some (is_of_class c u) (take_classes cs (u ∷ acc) types) q h) (s.0, k) s.1 g

nothing : AreScaled [] []
nothing = tt

module _ (v : Value) (result : List Ty → Option Ty) (t : Taken) (fit : (ts : List Ty) (u : Ty) → AreScaled t.values ts → result ts ≡ Some u → IsTrue (is_scaled v u)) where
  put_typed : (o : Option Ty) (q : TakenTypes) (after : OperandTypes) → result q.taken ≡ o → with_type o q.below ≡ Some after → BothScaled t q → AreScaled (v ∷ t.below) after
  put_typed None q after e h s = absurd cc
  put_typed (Some u) q after e h s =
      let same : u ∷ q.below ≡ after = some_is (u ∷ q.below) after h in
      subst (λ (z : OperandTypes). AreScaled (v ∷ t.below) z) same (fit q.taken u s.0 e, s.1)

  put_taken : (o : Option TakenTypes) (after : OperandTypes) → one_for result o ≡ Some after → ((q : TakenTypes) → o ≡ Some q → BothScaled t q) → AreScaled (v ∷ t.below) after
  put_taken None after h s = absurd cc
  put_taken (Some q) after h s = put_typed (result q.taken) q after refl h (s q refl)

  -- a value in the place of operands
  pub put_scaled : (cs : List OperandClass) (types after : OperandTypes) (stack : Row) → one_for result (take_classes cs [] types) ≡ Some after → AreScaled stack types → take_off (length cs) [] stack ≡ Some t → AreScaled (v ∷ t.below) after
  put_scaled cs types after stack h s g = put_taken (take_classes cs [] types) after h (λ q e. taken_scaled cs [] types q [] stack t e nothing s g)

below_taken : (t : Taken) (o : Option TakenTypes) (after : OperandTypes) → none_for o ≡ Some after → ((q : TakenTypes) → o ≡ Some q → BothScaled t q) → AreScaled t.below after
below_taken t None after h s = absurd cc
below_taken t (Some q) after h s = let same : q.below ≡ after = some_is q.below after h in subst (λ (z : OperandTypes). AreScaled t.below z) same ((s q refl).1)

-- operands go
pub dropped_scaled : (cs : List OperandClass) (types after : OperandTypes) (stack : Row) (t : Taken) → none_for (take_classes cs [] types) ≡ Some after → AreScaled stack types → take_off (length cs) [] stack ≡ Some t → AreScaled t.below after
dropped_scaled cs types after stack t h s g = below_taken t (take_classes cs [] types) after h (λ q e. taken_scaled cs [] types q [] stack t e nothing s g)

-- one operand of a type goes
pub stored_scaled : (t : Ty) (v : Value) (stack : Row) (types after : OperandTypes) → none_for (take_classes (OneType t ∷ []) [] types) ≡ Some after → AreScaled (v ∷ stack) types → IsTrue (is_scaled v t) × AreScaled stack after
stored_scaled t v stack [] after h s = absurd s
stored_scaled t v stack (u ∷ types) after h s = of (same_ty t u) refl h
  where
    of : (b : Bool) → same_ty t u ≡ b → none_for (if b then Some (record { taken = u ∷ []; below = types }) else None) ≡ Some after → IsTrue (is_scaled v t) × AreScaled stack after
    of false e k = absurd cc
    of true e k = (of_same_type v t u e s.0, subst (λ (z : OperandTypes). AreScaled stack z) (some_is types after k) s.1)

-- no operand stands
pub none_scaled : (stack : Row) (types after : OperandTypes) → when_none types ≡ Some after → AreScaled stack types → (stack ≡ []) × (after ≡ [])
none_scaled [] [] after h s = (refl, sym (some_is [] after h))
none_scaled (v ∷ stack) [] after h s = absurd s
none_scaled stack (t ∷ types) after h s = absurd cc

-- one operand stands
pub only_scaled : (t : Ty) (v : Value) (stack : Row) (types after : OperandTypes) → none_below (take_classes (OneType t ∷ []) [] types) ≡ Some after → AreScaled (v ∷ stack) types → IsTrue (is_scaled v t) × (stack ≡ []) × (after ≡ [])
only_scaled t v stack [] after h s = absurd s
only_scaled t v stack (u ∷ types) after h s = of (same_ty t u) refl h
  where
    of : (b : Bool) → same_ty t u ≡ b → none_below (if b then Some (record { taken = u ∷ []; below = types }) else None) ≡ Some after → IsTrue (is_scaled v t) × (stack ≡ []) × (after ≡ [])
    of false e k = absurd cc
    of true e k = let none = none_scaled stack types after k s.1 in (of_same_type v t u e s.0, none.0, none.1)

-- ---- choices

all_taken : (n : ℕ) (t : Ty) (acc : List Ty) (types : OperandTypes) (q : TakenTypes) (vs stack : Row) (k : Taken)
    → take_classes (replicate n (OneType t)) acc types ≡ Some q → AllScaled t vs → AreScaled stack types → take_off n vs stack ≡ Some k → AllScaled t k.values
all_taken zero t acc types q vs stack k h a s g = let f : record { values = vs; below = stack } ≡ k = cc in subst (λ (z : Taken). AllScaled t z.values) f a
all_taken (suc n) t acc [] q vs stack k h a s g = absurd cc
all_taken (suc n) t acc (u ∷ types) q vs [] k h a s g = absurd s
all_taken (suc n) t acc (u ∷ types) q vs (v ∷ stack) k h a s g =
    let rest = take_classes (replicate n (OneType t)) (u ∷ acc) types in
    all_taken n t (u ∷ acc) types q (v ∷ vs) stack k (if_some (same_ty t u) rest q h) (of_same_type v t u (when_true (same_ty t u) rest q h) s.0, a) s.1 g

module _ (f : Value → Value → Value) (keeps : KeepsType f) where
  chosen_of_type : (n : ℕ) (t : Ty) (types after : OperandTypes) (stack : Row) (k : Taken) (o : Option TakenTypes) → take_classes (replicate n (OneType t)) [] types ≡ o → one_for (always t) o ≡ Some after
      → AreScaled stack types → take_off n [] stack ≡ Some k → AreScaled (fold f Null k.values ∷ k.below) after
  chosen_of_type n t types after stack k None e h s g = absurd cc
  chosen_of_type n t types after stack k (Some q) e h s g =
      let same : t ∷ q.below ≡ after = some_is (t ∷ q.below) after h in
      let counted : take_off (length (replicate n (OneType t))) [] stack ≡ Some k = ap (λ m. take_off m [] stack) (length-replicate n (OneType t)) ∙ g in
      subst (λ (z : OperandTypes). AreScaled (fold f Null k.values ∷ k.below) z) same
      (fold_scaled f keeps t Null k.values refl (all_taken n t [] types q [] stack k e tt s g), (taken_scaled (replicate n (OneType t)) [] types q [] stack k e nothing s counted).1)

  pub chosen_scaled : (least n : ℕ) (types after : OperandTypes) (stack : Row) (k : Taken) → chosen_types least n types ≡ Some after → AreScaled stack types → take_off n [] stack ≡ Some k → AreScaled (fold f Null k.values ∷ k.below) after
  chosen_scaled least n [] after stack k h s g = absurd cc
  chosen_scaled least n (t ∷ types) after stack k h s g =
      chosen_of_type n t (t ∷ types) after stack k (take_classes (replicate n (OneType t)) [] (t ∷ types)) refl
      (if_some (nat_le least n && nat_le n 16) (one_for (always t) (take_classes (replicate n (OneType t)) [] (t ∷ types))) after h) s g

  pub number_scaled : (n : ℕ) (types after : OperandTypes) (stack : Row) (k : Taken) → chosen_numbers n types ≡ Some after → AreScaled stack types → take_off n [] stack ≡ Some k → AreScaled (fold f Null k.values ∷ k.below) after
  number_scaled n [] after stack k h s g = absurd cc
  number_scaled n (t ∷ types) after stack k h s g = chosen_scaled 2 n (t ∷ types) after stack k (if_some (is_number_type t) (chosen_types 2 n (t ∷ types)) after h) s g

-- ---- arguments

-- types in reverse order before others
abbrev onto : List Ty → List Ty → List Ty
onto [] acc = acc
onto (t ∷ ts) acc = onto ts (t ∷ acc)

onto_is : (ts acc : List Ty) → onto ts acc ≡ reverse ts ++ acc
onto_is [] acc = refl
onto_is (t ∷ ts) acc = onto_is ts (t ∷ acc) ∙ sym (ap (λ (z : List Ty). z ++ acc) (reverse-append (t ∷ []) ts) ∙ append_assoc (reverse ts) (t ∷ []) acc)

abbrev classes_of : List ParameterPart → List OperandClass
classes_of ps = map (λ (p : ParameterPart). OneType p.ty) ps

arguments_onto : (ps : List ParameterPart) (acc needed : List Ty) (types : OperandTypes) (q : TakenTypes) (vs stack : Row) (t : Taken)
    → take_classes (classes_of ps) acc types ≡ Some q → AreScaled vs needed → AreScaled stack types → take_off (length ps) vs stack ≡ Some t
    → AreScaled t.values (onto (types_of_parameters ps) needed) × AreScaled t.below q.below
arguments_onto [] acc needed types q vs stack t h k s g =
    let e : record { taken = acc; below = types } ≡ q = cc in
    let f : record { values = vs; below = stack } ≡ t = cc in
    subst (λ (z : TakenTypes). AreScaled t.values needed × AreScaled t.below z.below) e (subst (λ (z : Taken). AreScaled z.values needed × AreScaled z.below types) f (k, s))
arguments_onto (p ∷ ps) acc needed [] q vs stack t h k s g = absurd cc
arguments_onto (p ∷ ps) acc needed (u ∷ types) q vs [] t h k s g = absurd s
arguments_onto (p ∷ ps) acc needed (u ∷ types) q vs (v ∷ stack) t h k s g =
    let rest = take_classes (classes_of ps) (u ∷ acc) types in
    arguments_onto ps (u ∷ acc) (p.ty ∷ needed) types q (v ∷ vs) stack t (if_some (same_ty p.ty u) rest q h) (of_same_type v p.ty u (when_true (same_ty p.ty u) rest q h) s.0, k) s.1 g

types_append : (ps qs : List ParameterPart) → types_of_parameters (ps ++ qs) ≡ types_of_parameters ps ++ types_of_parameters qs
types_append [] qs = refl
types_append (p ∷ ps) qs = ap (λ z. p.ty ∷ z) (types_append ps qs)

types_reversed : (ps : List ParameterPart) → types_of_parameters (reverse ps) ≡ reverse (types_of_parameters ps)
types_reversed [] = refl
types_reversed (p ∷ ps) =
    ap types_of_parameters (reverse-append (p ∷ []) ps) ∙ types_append (reverse ps) (p ∷ []) ∙ ap (λ (z : List Ty). z ++ p.ty ∷ []) (types_reversed ps) ∙ sym (reverse-append (p.ty ∷ []) (types_of_parameters ps))

onto_again : (ps : List ParameterPart) → onto (types_of_parameters (reverse ps)) [] ≡ types_of_parameters ps
onto_again ps =
    onto_is (types_of_parameters (reverse ps)) [] ∙ append-nil (reverse (types_of_parameters (reverse ps))) ∙ ap reverse (types_reversed ps) ∙ reverse-reverse (types_of_parameters ps)

pub arguments_scaled : (ps : List ParameterPart) (types : OperandTypes) (q : TakenTypes) (stack : Row) (t : Taken) → take_classes (classes_of (reverse ps)) [] types ≡ Some q → AreScaled stack types
    → take_off (length ps) [] stack ≡ Some t → AreScaled t.values (types_of_parameters ps) × AreScaled t.below q.below
arguments_scaled ps types q stack t h s g =
    let counted : take_off (length (reverse ps)) [] stack ≡ Some t = ap (λ n. take_off n [] stack) (length-reverse ps) ∙ g in
    let k = arguments_onto (reverse ps) [] [] types q [] stack t h nothing s counted in
    (subst (λ (z : List Ty). AreScaled t.values z) (onto_again ps) k.0, k.1)

in_out_scaled : (b : Bool) (v : Value) (t : Ty) (stack : Row) (types : OperandTypes) → IsTrue (is_scaled v t) → AreScaled stack types → AreScaled (if b then v ∷ stack else stack) (if b then t ∷ types else types)
in_out_scaled true v t stack types h s = (h, s)
in_out_scaled false v t stack types h s = s

-- in_out parameters that come back
pub in_outs_scaled : (ps : List ParameterPart) (more : List Ty) (locals stack : Row) (types : OperandTypes) → AreScaled locals (types_of_parameters ps ++ more) → AreScaled stack types → AreScaled (with_in_outs ps locals stack) (with_in_out_types ps types)
in_outs_scaled [] more locals stack types h s = s
in_outs_scaled (p ∷ ps) more [] stack types h s = absurd h
in_outs_scaled (p ∷ ps) more (v ∷ locals) stack types h s =
    in_outs_scaled ps more locals (if p.is_in_out then v ∷ stack else stack) (if p.is_in_out then p.ty ∷ types else types) h.1 (in_out_scaled p.is_in_out v p.ty stack types h.0 s)
