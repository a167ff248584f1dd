-- The types of slots, one by one.
use Rattle.std.proofs.Common.{◌≡◌, ℕ, zero, suc, Bool, true, false, ◌&&◌, List, [], ◌∷◌, Some, refl, subst, IsTrue}
use Rattle.std.specs.Prelude.{slice_get}
use Rattle.std.specs.List.{list_all}
use Rattle.ds2_value.specs.Types.{in_bounds}
use Rattle.ds2_code.specs.declared.parts.Slot.{Slot}
use Rattle.ds2_slots.specs.LoadedHashes.{AreSlotTypesInBounds}

first_true : (a b : Bool) → (a && b) ≡ true → a ≡ true
first_true true b h = refl
first_true false b h = absurd cc

second_true : (a b : Bool) → (a && b) ≡ true → b ≡ true
second_true true b h = h
second_true false b h = absurd cc

pub type_within : (slots : List Slot) (n : ℕ) (slot : Slot) → AreSlotTypesInBounds slots → Some slot ≡ slice_get slots n → IsTrue (in_bounds slot.ty)
type_within [] n slot h is = absurd cc
type_within (s ∷ slots) zero slot h is =
    let same : s ≡ slot = cc in subst (λ (z : Slot). IsTrue (in_bounds z.ty)) same (first_true (in_bounds s.ty) (list_all (λ (z : Slot). in_bounds z.ty) slots) h)
type_within (s ∷ slots) (suc n) slot h is = type_within slots n slot (second_true (in_bounds s.ty) (list_all (λ (z : Slot). in_bounds z.ty) slots) h) is
