-- The code of a body goes on within itself.
use Rattle.std.proofs.Common.{◌≡◌, ℕ, zero, suc, ◌+◌, ◌<◌, ◌≤◌, Bool, true, false, nat_lt, List, [], ◌∷◌, length, slice_get, Some, None, inl, inr, refl, sym, ap, ◌∙◌, arith, append-nil, ltb-true, ltb-false}
use Rattle.std.specs.Prelude.{◌⊎◌}
use Rattle.std.proofs.lemmas.Bool.{true≢false}
use Rattle.ds2_meaning.specs.TypedStatement.{Finish}
use Rattle.ds2_code.specs.declared.instr.Instr.{Instr}
use Rattle.ds2_code.specs.declared.instr.Instr.TheVariants as instr
use Rattle.ds2_code.specs.declared.parts.ProgramParts.{ProgramParts}
use Rattle.ds2_code.specs.CodeBound.{starts_step, jump_target, falls_through, HasBoundedJumps, StaysInList}
use Rattle.ds2_code.specs.InstructionTable.{kind_of}
use Rattle.ds2_gen.specs.BodyCode.{CodeBody, OfMethod, code_of_body, bodies_code, BodiesStayInList}
use Rattle.ds2_gen.specs.ExpressionCode.{CodeNumbers}

-- ---- a body behind bodies that only return

abbrev returning : CodeNumbers → CodeBody
returning numbers = OfMethod numbers (record { name = []; parameters = []; locals = []; returns = None; body = Finish })

abbrev behind_returns : CodeNumbers → ℕ → CodeBody → List CodeBody
behind_returns numbers zero b = b ∷ []
behind_returns numbers (suc n) b = returning numbers ∷ behind_returns numbers n b

abbrev returns_then : ℕ → List Instr → List Instr
returns_then zero is = is
returns_then (suc n) is = instr.Ret ∷ returns_then n is

code_behind : (numbers : CodeNumbers) (n at start : ℕ) (b : CodeBody) → at + n ≡ start → bodies_code at (behind_returns numbers n b) ≡ returns_then n (code_of_body start b)
code_behind numbers zero at start b e = let same : at ≡ start = omega (arith, e) in append-nil (code_of_body at b) ∙ ap (λ k. code_of_body k b) same
code_behind numbers (suc n) at start b e = ap (λ is. instr.Ret ∷ is) (code_behind numbers n (at + 1) start b (omega (arith, e)))

size_then : (n : ℕ) (is : List Instr) → length (returns_then n is) ≡ n + length is
size_then zero is = omega arith
size_then (suc n) is = let rest = size_then n is in omega (arith, rest)

item_then : (n : ℕ) (is : List Instr) (j k : ℕ) → n + j ≡ k → slice_get (returns_then n is) k ≡ slice_get is j
item_then zero is j k e = let same : k ≡ j = omega (arith, e) in ap (λ i. slice_get is i) same
item_then (suc n) is j zero e = absurd (omega (arith, e))
item_then (suc n) is j (suc k) e = item_then n is j k (omega (arith, e))

return_there : (n : ℕ) (is : List Instr) (k : ℕ) → k < n → slice_get (returns_then n is) k ≡ Some instr.Ret
return_there zero is k l = absurd (omega (arith, l))
return_there (suc n) is zero l = refl
return_there (suc n) is (suc k) l = return_there n is k (omega (arith, l))

-- ---- where its instructions go on

module _ (within : BodiesStayInList) (code : ProgramParts) (numbers : CodeNumbers) (start : ℕ) (b : CodeBody) where
  abbrev all : List Instr
  all = returns_then start (code_of_body start b)

  abbrev alone : ProgramParts
  alone = record code { methods = []; instrs = all }

  facts : HasBoundedJumps all × StaysInList alone
  facts = within alone (behind_returns numbers start b) (sym (code_behind numbers start 0 start b (omega arith))) (λ k method listed. absurd cc)

  not_below : (to : ℕ) → starts_step (slice_get all to) ≡ true → (less : Bool) → nat_lt to start ≡ less → start ≤ to
  not_below to begins true e = absurd (true≢false (sym begins ∙ ap starts_step (return_there start (code_of_body start b) to (ltb-true to start e))))
  not_below to begins false e = ltb-false to start e

  not_before : (j to : ℕ) → ((start + j < to) ⊎ (starts_step (slice_get all to) ≡ true)) → start ≤ to
  not_before j to (inl less) = omega (arith, less)
  not_before j to (inr begins) = not_below to begins (nat_lt to start) refl

  pub jumps_within : (j to : ℕ) (i : Instr) → slice_get (code_of_body start b) j ≡ Some i → jump_target (kind_of i) ≡ Some to → (start ≤ to) × (to < start + length (code_of_body start b))
  jumps_within j to i here jumps =
      let there : slice_get all (start + j) ≡ Some i = item_then start (code_of_body start b) j (start + j) refl ∙ here in
      let less : to < length all = facts.1.targets (start + j) to i there jumps in
      let size = size_then start (code_of_body start b) in
      (not_before j to (facts.0 (start + j) to i there jumps), omega (arith, less, size))

  pub next_within : (j : ℕ) (i : Instr) → slice_get (code_of_body start b) j ≡ Some i → falls_through (kind_of i) ≡ true → j + 1 < length (code_of_body start b)
  next_within j i here falls =
      let there : slice_get all (start + j) ≡ Some i = item_then start (code_of_body start b) j (start + j) refl ∙ here in
      let less : start + j + 1 < length all = facts.1.nexts (start + j) i there falls in
      let size = size_then start (code_of_body start b) in
      omega (arith, less, size)
