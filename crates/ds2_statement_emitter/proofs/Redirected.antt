-- What code is whose marks get their targets.
use Rattle.std.proofs.Common.{◌≡◌, ◌≤◌, ℕ, zero, suc, ◌+◌, List, [], ◌∷◌, ◌++◌, length, map, Some, refl, ap, ◌∙◌, add-one, arith}
use Rattle.std.specs.Prelude.{slice_get, slice_set}
use Rattle.std.proofs.Math.Seq.{set-append_seam}
use Rattle.ds2_code.specs.declared.instr.Instr.{Instr}
use Rattle.ds2_statement_emitter.specs.declared.aims.Aims.{Aims}
use Rattle.ds2_statement_emitter.specs.Marks.{aim, moved, redirected}

redirect_next : (n : ℕ) (a : Aims) (code : List Instr) (i : Instr) → slice_get code n ≡ Some i → redirected (suc n) a (slice_set code n (moved (aim a) i)) ≡ redirected n a code
unfolding redirected
redirect_next n a [] i h = cc h
redirect_next zero a (x ∷ code) i h = let e : i ≡ x = cc h in ap (λ y. moved (aim a) y ∷ map (moved (aim a)) code) e
redirect_next (suc n) a (x ∷ code) i h = ap (λ c. x ∷ c) (redirect_next n a code i h)

pub redirect_step : (n : ℕ) (a : Aims) (code : List Instr) (i : Instr) → slice_get code n ≡ Some i → redirected (n + 1) a (slice_set code n (moved (aim a) i)) ≡ redirected n a code
redirect_step n a code i h = ap (λ m. redirected m a (slice_set code n (moved (aim a) i))) (add-one n) ∙ redirect_next n a code i h

pub redirect_end : (n : ℕ) (a : Aims) (code : List Instr) → length code ≤ n → redirected n a code ≡ code
unfolding redirected
redirect_end zero a [] h = refl
redirect_end zero a (x ∷ code) h = absurd (omega arith)
redirect_end (suc n) a [] h = refl
redirect_end (suc n) a (x ∷ code) h = ap (λ c. x ∷ c) (redirect_end n a code (omega arith))

pub redirect_behind : (before segment : List Instr) (a : Aims) → redirected (length before) a (before ++ segment) ≡ before ++ map (moved (aim a)) segment
unfolding redirected
redirect_behind [] segment a = refl
redirect_behind (x ∷ before) segment a = ap (λ c. x ∷ c) (redirect_behind before segment a)

-- an instruction in the middle is replaced
pub set_open : (before : List Instr) (old : Instr) (behind : List Instr) (new : Instr) → slice_set (before ++ old ∷ behind) (length before) new ≡ before ++ new ∷ behind
set_open before old behind new = set-append_seam before old behind new

-- what is no number of the code is not replaced
pub set_past : (code : List Instr) (i : ℕ) (new : Instr) → length code ≤ i → slice_set code i new ≡ code
set_past [] i new h = refl
set_past (x ∷ code) zero new h = absurd (omega arith)
set_past (x ∷ code) (suc i) new h = ap (λ c. x ∷ c) (set_past code i new (omega arith))

pub set_length : (code : List Instr) (i : ℕ) (new : Instr) → length (slice_set code i new) ≡ length code
set_length [] i new = refl
set_length (x ∷ code) zero new = refl
set_length (x ∷ code) (suc i) new = ap (λ k. suc k) (set_length code i new)

set_twice : (code : List Instr) (n : ℕ) (i j : Instr) → slice_set (slice_set code n i) n j ≡ slice_set code n j
set_twice [] n i j = refl
set_twice (x ∷ code) zero i j = refl
set_twice (x ∷ code) (suc n) i j = ap (λ c. x ∷ c) (set_twice code n i j)

-- an instruction is taken out and put back with its target
pub redirect_twice : (n : ℕ) (a : Aims) (code : List Instr) (i other : Instr) → slice_get code n ≡ Some i → redirected (n + 1) a (slice_set (slice_set code n other) n (moved (aim a) i)) ≡ redirected n a code
redirect_twice n a code i other h = ap (λ w. redirected (n + 1) a w) (set_twice code n other (moved (aim a) i)) ∙ redirect_step n a code i h
