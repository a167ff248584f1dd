-- Nulls, and slots that are set to null, one after the other.
use Rattle.std.proofs.Common.{◌≡◌, ℕ, zero, suc, ◌+◌, ◌<◌, List, [], ◌∷◌, ◌++◌, Option, Some, None, length, take, drop, get_or, refl, sym, ap, ◌∙◌, add-one, arith}
use Rattle.std.specs.Prelude.{replicate, slice_get, slice_set}
use Rattle.std.proofs.lemmas.Option.{slice_get-get_or}
use Rattle.ds2_value.specs.declared.value.Value.{Value}
use Rattle.ds2_value.specs.declared.value.Value.TheVariants.{Null}
use Rattle.ds2_code.specs.declared.parts.Slot.{Slot}
use Rattle.ds2_code.specs.declared.parts.SlotRole.{SlotRole}
use Rattle.ds2_code.specs.declared.parts.SlotRole.TheVariants.{Cleared, Kept, Column, Flag}
use Rattle.ds2_code.specs.CodeUnit.{null_where_cleared, without_cleared}
use Rattle.ds2_slots.specs.SlotSteps.{with_slot_cleared}

nulls_grow : (n : ℕ) → replicate (suc n) Null ≡ replicate n Null ++ Null ∷ []
nulls_grow zero = refl
nulls_grow (suc n) = ap (λ z. Null ∷ z) (nulls_grow n)

pub nulls_more : (n : ℕ) → replicate (n + 1) Null ≡ replicate n Null ++ Null ∷ []
nulls_more n = rw (add-one n) (nulls_grow n)

-- ---- slots that are set to null

cleared_first : (x : Slot) (r : SlotRole) (s : List Value) → x.role ≡ r → without_cleared (x ∷ []) s ≡ with_slot_cleared r zero s
cleared_first x Cleared [] e = refl
cleared_first x Kept [] e = refl
cleared_first x Column [] e = refl
cleared_first x Flag [] e = refl
cleared_first x Cleared (v ∷ s) e = ap (λ r. null_where_cleared r v ∷ s) e
cleared_first x Kept (v ∷ s) e = ap (λ r. null_where_cleared r v ∷ s) e
cleared_first x Column (v ∷ s) e = ap (λ r. null_where_cleared r v ∷ s) e
cleared_first x Flag (v ∷ s) e = ap (λ r. null_where_cleared r v ∷ s) e

cleared_nil : (r : SlotRole) (i : ℕ) → [] ≡ with_slot_cleared r i []
cleared_nil Cleared i = refl
cleared_nil Kept i = refl
cleared_nil Column i = refl
cleared_nil Flag i = refl

cleared_cons : (r : SlotRole) (i : ℕ) (v : Value) (s : List Value) → v ∷ with_slot_cleared r i s ≡ with_slot_cleared r (suc i) (v ∷ s)
cleared_cons Cleared i v s = refl
cleared_cons Kept i v s = refl
cleared_cons Column i v s = refl
cleared_cons Flag i v s = refl

cleared_more : (parts : List Slot) (i : ℕ) (s : List Value) (p : Slot) → slice_get parts i ≡ Some p → without_cleared (take (suc i) parts) s ≡ with_slot_cleared p.role i (without_cleared (take i parts) s)
cleared_more [] i s p h = absurd cc
cleared_more (x ∷ parts) zero s p h = let same : x ≡ p = cc in cleared_first x p.role s (ap (λ (z : Slot). z.role) same)
cleared_more (x ∷ parts) (suc i) [] p h = cleared_nil p.role (suc i)
cleared_more (x ∷ parts) (suc i) (v ∷ s) p h =
    ap (λ z. null_where_cleared x.role v ∷ z) (cleared_more parts i s p h) ∙ cleared_cons p.role i (null_where_cleared x.role v) (without_cleared (take i parts) s)

pub cleared_next : (parts : List Slot) (i : ℕ) (s : List Value) (p : Slot) → i < length parts → p ≡ get_or parts i p → without_cleared (take (i + 1) parts) s ≡ with_slot_cleared p.role i (without_cleared (take i parts) s)
cleared_next parts i s p h is = rw (add-one i) (cleared_more parts i s p (slice_get-get_or parts i p h ∙ ap Some (sym is)))

pub ruleset clearing = (cleared_next)
