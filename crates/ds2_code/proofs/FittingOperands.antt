-- Operands that are taken off beside their types, and what stands in their place.
use Rattle.std.proofs.Common.{◌≡◌, ℕ, zero, suc, Bool, true, false, ◌&&◌, List, [], ◌∷◌, ◌++◌, map, reverse, length, replicate, Option, Some, None, refl, sym, ap, ◌∙◌, subst, fold, IsTrue, if◌then◌else◌, nat_le, append_assoc}
use Rattle.ds2_value.specs.Types.{same_ty}
use Rattle.std.proofs.lemmas.List.{append-nil, reverse-append, reverse-reverse, length-reverse, length-replicate}
use Rattle.ds2_value.specs.Row.{Row}
use Rattle.ds2_value.specs.declared.ty.Ty.{Ty}
use Rattle.ds2_value.specs.declared.value.Value.{Value}
use Rattle.ds2_value.specs.declared.value.Value.TheVariants.{Null}
use Rattle.ds2_code.specs.declared.parts.ParameterPart.{ParameterPart}
use Rattle.ds2_code.specs.CodeRun.{with_in_outs}
use Rattle.ds2_code.specs.Desk.{Taken, take_off}
use Rattle.ds2_value.specs.ValueFunctions.{is_of_class, always}
use Rattle.ds2_value.specs.declared.value_function.OperandClass.{OperandClass}
use Rattle.ds2_value.specs.declared.value_function.OperandClass.TheVariants.{OneType}
use Rattle.ds2_code.specs.OperandTypes.{OperandTypes, TakenTypes, take_classes, with_type, one_for, none_for, when_none, none_below, is_number_type, chosen_types, chosen_numbers, types_of_parameters, with_in_out_types}
use Rattle.ds2_code.specs.Fitting.{is_of_type, AreOfTypes}
use Rattle.ds2_code.proofs.FittingLists.{if_some, when_true, some_is, type_bounds, of_type, of_same_type}
use Rattle.ds2_code.proofs.FittingNumbers.{AllOfType, KeepsType, fold_of_type}

same_taken : (x y : Taken) → Some x ≡ Some y → x ≡ y
same_taken x y h = cc

-- what was taken off, and what is below it
abbrev pub BothOfTypes : Taken → TakenTypes → Type 0
BothOfTypes t types = AreOfTypes t.values types.taken × AreOfTypes t.below types.below

pub taken_of_types : (cs : List OperandClass) (acc : List Ty) (types : OperandTypes) (q : TakenTypes) (vs stack : Row) (t : Taken)
    → take_classes cs acc types ≡ Some q → AreOfTypes vs acc → AreOfTypes stack types → take_off (length cs) vs stack ≡ Some t → BothOfTypes t q
taken_of_types [] acc types q vs stack t h k s g =
    let e : record { taken = acc; below = types } ≡ q = cc in
    let f : record { values = vs; below = stack } ≡ t = cc in
    subst (λ (z : TakenTypes). BothOfTypes t z) e (subst (λ (z : Taken). BothOfTypes z (record { taken = acc; below = types })) f (k, s))
taken_of_types (c ∷ cs) acc [] q vs stack t h k s g = absurd cc
taken_of_types (c ∷ cs) acc (u ∷ types) q vs [] t h k s g = absurd s
taken_of_types (c ∷ cs) acc (u ∷ types) q vs (v ∷ stack) t h k s g =
    taken_of_types cs (u ∷ acc) types q (v ∷ vs) stack t (if_some (is_of_class c u) (take_classes cs (u ∷ acc) types) q h) (s.0, k) s.1 g

nothing : AreOfTypes [] []
nothing = tt

module _ (v : Value) (result : List Ty → Option Ty) (t : Taken) (cs : List OperandClass) (types : OperandTypes)
    (fit : (q : TakenTypes) (u : Ty) → take_classes cs [] types ≡ Some q → AreOfTypes t.values q.taken → result q.taken ≡ Some u → IsTrue (is_of_type v u)) where
  put_typed : (q : TakenTypes) (o : Option Ty) (after : OperandTypes) → take_classes cs [] types ≡ Some q → result q.taken ≡ o → with_type o q.below ≡ Some after → BothOfTypes t q → AreOfTypes (v ∷ t.below) after
  put_typed q None after is e h s = absurd cc
  put_typed q (Some u) after is e h s =
      let same : u ∷ q.below ≡ after = some_is (u ∷ q.below) after h in
      subst (λ (z : OperandTypes). AreOfTypes (v ∷ t.below) z) same (fit q u is s.0 e, s.1)

  put_taken : (o : Option TakenTypes) (after : OperandTypes) → take_classes cs [] types ≡ o → one_for result o ≡ Some after → ((q : TakenTypes) → o ≡ Some q → BothOfTypes t q) → AreOfTypes (v ∷ t.below) after
  put_taken None after is h s = absurd cc
  put_taken (Some q) after is h s = put_typed q (result q.taken) after is refl h (s q refl)

  -- a value in the place of operands
  pub put_of_type : (after : OperandTypes) (stack : Row) → one_for result (take_classes cs [] types) ≡ Some after → AreOfTypes stack types → take_off (length cs) [] stack ≡ Some t → AreOfTypes (v ∷ t.below) after
  put_of_type after stack h s g = put_taken (take_classes cs [] types) after refl h (λ q e. taken_of_types cs [] types q [] stack t e nothing s g)

-- the operand that was pushed first is of the last class
pub first_class : (cs : List OperandClass) (c : OperandClass) (acc : List Ty) (types : OperandTypes) (q : TakenTypes) → take_classes (cs ++ c ∷ []) acc types ≡ Some q
    → (t : Ty) × (more : List Ty) × (q.taken ≡ t ∷ more) × (is_of_class c t ≡ true)
first_class [] c acc [] q h = absurd cc
first_class [] c acc (t ∷ types) q h =
    let last : Option TakenTypes = Some (record { taken = t ∷ acc; below = types }) in
    let e : record { taken = t ∷ acc; below = types } ≡ q = some_is (record { taken = t ∷ acc; below = types }) q (if_some (is_of_class c t) last q h) in
    (t, acc, sym (ap (λ (z : TakenTypes). z.taken) e), when_true (is_of_class c t) last q h)
first_class (d ∷ cs) c acc [] q h = absurd cc
first_class (d ∷ cs) c acc (t ∷ types) q h = first_class cs c (t ∷ acc) types q (if_some (is_of_class d t) (take_classes (cs ++ c ∷ []) (t ∷ acc) types) q h)

below_taken : (t : Taken) (o : Option TakenTypes) (after : OperandTypes) → none_for o ≡ Some after → ((q : TakenTypes) → o ≡ Some q → BothOfTypes t q) → AreOfTypes t.below after
below_taken t None after h s = absurd cc
below_taken t (Some q) after h s = let same : q.below ≡ after = some_is q.below after h in subst (λ (z : OperandTypes). AreOfTypes t.below z) same ((s q refl).1)

-- operands go
pub dropped_of_types : (cs : List OperandClass) (types after : OperandTypes) (stack : Row) (t : Taken) → none_for (take_classes cs [] types) ≡ Some after → AreOfTypes stack types → take_off (length cs) [] stack ≡ Some t → AreOfTypes t.below after
dropped_of_types cs types after stack t h s g = below_taken t (take_classes cs [] types) after h (λ q e. taken_of_types cs [] types q [] stack t e nothing s g)

-- one operand of a type goes
pub stored_of_type : (t : Ty) (v : Value) (stack : Row) (types after : OperandTypes) → none_for (take_classes (OneType t ∷ []) [] types) ≡ Some after → AreOfTypes (v ∷ stack) types → IsTrue (is_of_type v t) × AreOfTypes stack after
stored_of_type t v stack [] after h s = absurd s
stored_of_type t v stack (u ∷ types) after h s = of (same_ty t u) refl h
  where
    of : (b : Bool) → same_ty t u ≡ b → none_for (if b then Some (record { taken = u ∷ []; below = types }) else None) ≡ Some after → IsTrue (is_of_type v t) × AreOfTypes stack after
    of false e k = absurd cc
    of true e k = (of_same_type v t u e s.0, subst (λ (z : OperandTypes). AreOfTypes stack z) (some_is types after k) s.1)

-- no operand stands
pub none_of_types : (stack : Row) (types after : OperandTypes) → when_none types ≡ Some after → AreOfTypes stack types → (stack ≡ []) × (after ≡ [])
none_of_types [] [] after h s = (refl, sym (some_is [] after h))
none_of_types (v ∷ stack) [] after h s = absurd s
none_of_types stack (t ∷ types) after h s = absurd cc

-- one operand stands
pub only_of_type : (t : Ty) (v : Value) (stack : Row) (types after : OperandTypes) → none_below (take_classes (OneType t ∷ []) [] types) ≡ Some after → AreOfTypes (v ∷ stack) types → IsTrue (is_of_type v t) × (stack ≡ []) × (after ≡ [])
only_of_type t v stack [] after h s = absurd s
only_of_type t v stack (u ∷ types) after h s = of (same_ty t u) refl h
  where
    of : (b : Bool) → same_ty t u ≡ b → none_below (if b then Some (record { taken = u ∷ []; below = types }) else None) ≡ Some after → IsTrue (is_of_type v t) × (stack ≡ []) × (after ≡ [])
    of false e k = absurd cc
    of true e k = let none = none_of_types stack types after k s.1 in (of_same_type v t u e s.0, none.0, none.1)

-- ---- choices

all_taken : (n : ℕ) (t : Ty) (acc : List Ty) (types : OperandTypes) (q : TakenTypes) (vs stack : Row) (k : Taken)
    → take_classes (replicate n (OneType t)) acc types ≡ Some q → AllOfType t vs → AreOfTypes stack types → take_off n vs stack ≡ Some k → AllOfType t k.values
all_taken zero t acc types q vs stack k h a s g = let f : record { values = vs; below = stack } ≡ k = cc in subst (λ (z : Taken). AllOfType t z.values) f a
all_taken (suc n) t acc [] q vs stack k h a s g = absurd cc
all_taken (suc n) t acc (u ∷ types) q vs [] k h a s g = absurd s
all_taken (suc n) t acc (u ∷ types) q vs (v ∷ stack) k h a s g =
    let rest = take_classes (replicate n (OneType t)) (u ∷ acc) types in
    all_taken n t (u ∷ acc) types q (v ∷ vs) stack k (if_some (same_ty t u) rest q h) (of_same_type v t u (when_true (same_ty t u) rest q h) s.0, a) s.1 g

module _ (f : Value → Value → Value) (keeps : KeepsType f) where
  chosen_of_type : (n : ℕ) (t : Ty) (types after : OperandTypes) (stack : Row) (k : Taken) (o : Option TakenTypes) → take_classes (replicate n (OneType t)) [] types ≡ o → one_for (always t) o ≡ Some after
      → IsTrue (is_of_type Null t) → AreOfTypes stack types → take_off n [] stack ≡ Some k → AreOfTypes (fold f Null k.values ∷ k.below) after
  chosen_of_type n t types after stack k None e h b s g = absurd cc
  chosen_of_type n t types after stack k (Some q) e h b s g =
      let same : t ∷ q.below ≡ after = some_is (t ∷ q.below) after h in
      let counted : take_off (length (replicate n (OneType t))) [] stack ≡ Some k = ap (λ m. take_off m [] stack) (length-replicate n (OneType t)) ∙ g in
      subst (λ (z : OperandTypes). AreOfTypes (fold f Null k.values ∷ k.below) z) same
      (fold_of_type f keeps t Null k.values b (all_taken n t [] types q [] stack k e tt s g), (taken_of_types (replicate n (OneType t)) [] types q [] stack k e nothing s counted).1)

  pub chosen_fits : (least n : ℕ) (types after : OperandTypes) (stack : Row) (k : Taken) → chosen_types least n types ≡ Some after → AreOfTypes stack types → take_off n [] stack ≡ Some k → AreOfTypes (fold f Null k.values ∷ k.below) after
  chosen_fits least n [] after stack k h s g = absurd cc
  chosen_fits least n (t ∷ types) after [] k h s g = absurd s
  chosen_fits least n (t ∷ types) after (v ∷ stack) k h s g =
      chosen_of_type n t (t ∷ types) after (v ∷ stack) k (take_classes (replicate n (OneType t)) [] (t ∷ types)) refl
      (if_some (nat_le least n && nat_le n 16) (one_for (always t) (take_classes (replicate n (OneType t)) [] (t ∷ types))) after h) (of_type Null t refl (type_bounds v t s.0)) s g

  pub number_fits : (n : ℕ) (types after : OperandTypes) (stack : Row) (k : Taken) → chosen_numbers n types ≡ Some after → AreOfTypes stack types → take_off n [] stack ≡ Some k → AreOfTypes (fold f Null k.values ∷ k.below) after
  number_fits n [] after stack k h s g = absurd cc
  number_fits n (t ∷ types) after stack k h s g = chosen_fits 2 n (t ∷ types) after stack k (if_some (is_number_type t) (chosen_types 2 n (t ∷ types)) after h) s g

-- ---- arguments

-- types in reverse order before others
abbrev onto : List Ty → List Ty → List Ty
onto [] acc = acc
onto (t ∷ ts) acc = onto ts (t ∷ acc)

onto_is : (ts acc : List Ty) → onto ts acc ≡ reverse ts ++ acc
onto_is [] acc = refl
onto_is (t ∷ ts) acc = onto_is ts (t ∷ acc) ∙ sym (ap (λ (z : List Ty). z ++ acc) (reverse-append (t ∷ []) ts) ∙ append_assoc (reverse ts) (t ∷ []) acc)

abbrev classes_of : List ParameterPart → List OperandClass
classes_of ps = map (λ (p : ParameterPart). OneType p.ty) ps

arguments_onto : (ps : List ParameterPart) (acc needed : List Ty) (types : OperandTypes) (q : TakenTypes) (vs stack : Row) (t : Taken)
    → take_classes (classes_of ps) acc types ≡ Some q → AreOfTypes vs needed → AreOfTypes stack types → take_off (length ps) vs stack ≡ Some t
    → AreOfTypes t.values (onto (types_of_parameters ps) needed) × AreOfTypes t.below q.below
arguments_onto [] acc needed types q vs stack t h k s g =
    let e : record { taken = acc; below = types } ≡ q = cc in
    let f : record { values = vs; below = stack } ≡ t = cc in
    subst (λ (z : TakenTypes). AreOfTypes t.values needed × AreOfTypes t.below z.below) e (subst (λ (z : Taken). AreOfTypes z.values needed × AreOfTypes z.below types) f (k, s))
arguments_onto (p ∷ ps) acc needed [] q vs stack t h k s g = absurd cc
arguments_onto (p ∷ ps) acc needed (u ∷ types) q vs [] t h k s g = absurd s
arguments_onto (p ∷ ps) acc needed (u ∷ types) q vs (v ∷ stack) t h k s g =
    let rest = take_classes (classes_of ps) (u ∷ acc) types in
    arguments_onto ps (u ∷ acc) (p.ty ∷ needed) types q (v ∷ vs) stack t (if_some (same_ty p.ty u) rest q h) (of_same_type v p.ty u (when_true (same_ty p.ty u) rest q h) s.0, k) s.1 g

types_append : (ps qs : List ParameterPart) → types_of_parameters (ps ++ qs) ≡ types_of_parameters ps ++ types_of_parameters qs
types_append [] qs = refl
types_append (p ∷ ps) qs = ap (λ z. p.ty ∷ z) (types_append ps qs)

types_reversed : (ps : List ParameterPart) → types_of_parameters (reverse ps) ≡ reverse (types_of_parameters ps)
types_reversed [] = refl
types_reversed (p ∷ ps) =
    ap types_of_parameters (reverse-append (p ∷ []) ps) ∙ types_append (reverse ps) (p ∷ []) ∙ ap (λ (z : List Ty). z ++ p.ty ∷ []) (types_reversed ps) ∙ sym (reverse-append (p.ty ∷ []) (types_of_parameters ps))

onto_again : (ps : List ParameterPart) → onto (types_of_parameters (reverse ps)) [] ≡ types_of_parameters ps
onto_again ps =
    onto_is (types_of_parameters (reverse ps)) [] ∙ append-nil (reverse (types_of_parameters (reverse ps))) ∙ ap reverse (types_reversed ps) ∙ reverse-reverse (types_of_parameters ps)

pub arguments_fit : (ps : List ParameterPart) (types : OperandTypes) (q : TakenTypes) (stack : Row) (t : Taken) → take_classes (classes_of (reverse ps)) [] types ≡ Some q → AreOfTypes stack types
    → take_off (length ps) [] stack ≡ Some t → AreOfTypes t.values (types_of_parameters ps) × AreOfTypes t.below q.below
arguments_fit ps types q stack t h s g =
    let counted : take_off (length (reverse ps)) [] stack ≡ Some t = ap (λ n. take_off n [] stack) (length-reverse ps) ∙ g in
    let k = arguments_onto (reverse ps) [] [] types q [] stack t h nothing s counted in
    (subst (λ (z : List Ty). AreOfTypes t.values z) (onto_again ps) k.0, k.1)

in_out_fits : (b : Bool) (v : Value) (t : Ty) (stack : Row) (types : OperandTypes) → IsTrue (is_of_type v t) → AreOfTypes stack types → AreOfTypes (if b then v ∷ stack else stack) (if b then t ∷ types else types)
in_out_fits true v t stack types h s = (h, s)
in_out_fits false v t stack types h s = s

-- in_out parameters that come back
pub in_outs_fit : (ps : List ParameterPart) (more : List Ty) (locals stack : Row) (types : OperandTypes) → AreOfTypes locals (types_of_parameters ps ++ more) → AreOfTypes stack types → AreOfTypes (with_in_outs ps locals stack) (with_in_out_types ps types)
in_outs_fit [] more locals stack types h s = s
in_outs_fit (p ∷ ps) more [] stack types h s = absurd h
in_outs_fit (p ∷ ps) more (v ∷ locals) stack types h s =
    in_outs_fit ps more locals (if p.is_in_out then v ∷ stack else stack) (if p.is_in_out then p.ty ∷ types else types) h.1 (in_out_fits p.is_in_out v p.ty stack types h.0 s)
