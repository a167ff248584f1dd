-- The test of jumps says yes exactly where they are bounded.
use Rattle.std.proofs.Common.{◌≡◌, ℕ, zero, suc, ◌+◌, ◌<◌, Bool, true, false, inl, inr, nat_lt, List, [], ◌∷◌, Option, Some, None, refl, sym, ap, ◌∙◌, subst, arith}
use Rattle.std.specs.Prelude.{◌||◌, slice_get}
use Rattle.ds2_code.specs.declared.instr.Instr.{Instr}
use Rattle.ds2_code.specs.CodeBound.{jump_target, starts_step, IsBoundedJump, HasBoundedJumps}
use Rattle.ds2_code.specs.InstructionTable.{kind_of}
use Rattle.ds2_valid_code.specs.BoundedJumps.{is_bounded_jump, jumps_bounded}
use Rattle.ds2_valid_code.proofs.OwnerLemmas.{split, join}

lt_is : (a b : ℕ) → nat_lt a b ≡ true → a < b
lt_is a b h = grind (arith)

is_lt : (a b : ℕ) → a < b → nat_lt a b ≡ true
is_lt a b h = grind (arith)

or_true : (b : Bool) → (b || true) ≡ true
or_true true = refl
or_true false = refl

module _ (instrs : List Instr) where
  jump_is : (at to : ℕ) (o : Option ℕ) → o ≡ Some to → is_bounded_jump instrs at o ≡ true → IsBoundedJump instrs at to
  jump_is at to o e h = by (nat_lt at to) refl (ap (is_bounded_jump instrs at) (sym e) ∙ h)
    where
      by : (b : Bool) → nat_lt at to ≡ b → (b || starts_step (slice_get instrs to)) ≡ true → IsBoundedJump instrs at to
      by true f k = inl (lt_is at to f)
      by false f k = inr k

  is_jump : (at : ℕ) (o : Option ℕ) → ((to : ℕ) → o ≡ Some to → IsBoundedJump instrs at to) → is_bounded_jump instrs at o ≡ true
  is_jump at None h = refl
  is_jump at (Some to) h = by (h to refl)
    where
      by : IsBoundedJump instrs at to → (nat_lt at to || starts_step (slice_get instrs to)) ≡ true
      by (inl l) = ap (λ b. b || starts_step (slice_get instrs to)) (is_lt at to l)
      by (inr e) = ap (λ b. nat_lt at to || b) e ∙ or_true (nat_lt at to)

  jump_at : (is : List Instr) (at : ℕ) → jumps_bounded instrs is at ≡ true → (k n : ℕ) (i : Instr) → n ≡ at + k → slice_get is k ≡ Some i → is_bounded_jump instrs n (jump_target (kind_of i)) ≡ true
  jump_at [] at h k n i e g = absurd cc
  jump_at (j ∷ is) at h zero n i e g =
      let r = split (is_bounded_jump instrs at (jump_target (kind_of j))) (jumps_bounded instrs is (at + 1)) h in
      let here : at ≡ n = omega (arith, e) in
      let w : j ≡ i = cc in
      subst (λ z. is_bounded_jump instrs z (jump_target (kind_of i)) ≡ true) here (subst (λ z. is_bounded_jump instrs at (jump_target (kind_of z)) ≡ true) w r.0)
  jump_at (j ∷ is) at h (suc k) n i e g =
      let r = split (is_bounded_jump instrs at (jump_target (kind_of j))) (jumps_bounded instrs is (at + 1)) h in jump_at is (at + 1) r.1 k n i (omega (arith, e)) g

  all_jumps : (is : List Instr) (at : ℕ) → ((k n : ℕ) (i : Instr) → n ≡ at + k → slice_get is k ≡ Some i → is_bounded_jump instrs n (jump_target (kind_of i)) ≡ true) → jumps_bounded instrs is at ≡ true
  all_jumps [] at h = refl
  all_jumps (j ∷ is) at h =
      join (is_bounded_jump instrs at (jump_target (kind_of j))) (jumps_bounded instrs is (at + 1)) (h zero at j (omega arith) refl)
      (all_jumps is (at + 1) (λ k n i e g. h (suc k) n i (omega (arith, e)) g))

  pub bounded_jumps : jumps_bounded instrs instrs 0 ≡ true → HasBoundedJumps instrs
  bounded_jumps h = λ at to i g t. jump_is at to (jump_target (kind_of i)) t (jump_at instrs 0 h at at i (omega arith) g)

  pub jumps_are : HasBoundedJumps instrs → jumps_bounded instrs instrs 0 ≡ true
  jumps_are h =
      all_jumps instrs 0 (λ k n i e g.
      let here : k ≡ n = omega (arith, e) in
      is_jump n (jump_target (kind_of i)) (λ to t. h n to i (subst (λ z. slice_get instrs z ≡ Some i) here g) t))
