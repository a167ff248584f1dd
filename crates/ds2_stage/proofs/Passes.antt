-- The passes of workers, one after the other.
use Rattle.std.proofs.Common.{◌≡◌, ◌<◌, ◌+◌, ℕ, zero, suc, List, [], ◌∷◌, ◌++◌, ap, ◌∙◌, sym, subst, arith, length, below_more}
use Rattle.std.specs.Prelude.{slice_index_or, map}
use Rattle.std.proofs.Math.ListN.{get_or-append}
use Rattle.std.proofs.Math.Seq.{get_or-append_seam}
use Rattle.ds2_schedule.specs.declared.tickets.Tickets.{Tickets}
use Rattle.ds2_stage.specs.Passes.{PassView, IsWorkerPass, AreInOrderOfNumber}

last_of : (xs : List PassView) (y d : PassView) (n : ℕ) → length xs ≡ n → slice_index_or (xs ++ y ∷ []) n d ≡ y
last_of xs y d n e = ap (λ (k : ℕ). slice_index_or (xs ++ y ∷ []) k d) (sym e) ∙ get_or-append_seam xs y [] d

-- one more pass
pub workers_more : (t : Tickets) (xs ys : List PassView) (n : ℕ) (p : PassView) → length xs ≡ n → ys ≡ xs ++ p ∷ []
    → ((i : ℕ) (d : PassView) → i < n → IsWorkerPass t i (slice_index_or xs i d)) → IsWorkerPass t n p → (i : ℕ) (d : PassView) → i < n + 1 → IsWorkerPass t i (slice_index_or ys i d)
workers_more t xs ys n p len is each here i d low =
    below_more (λ (k : ℕ). IsWorkerPass t k (slice_index_or ys k d)) n
    (λ k below. subst (IsWorkerPass t k) (sym (ap (λ (zs : List PassView). slice_index_or zs k d) is ∙ get_or-append xs (p ∷ []) d k (omega (arith, len)))) (each k d below))
    (subst (IsWorkerPass t n) (sym (ap (λ (zs : List PassView). slice_index_or zs n d) is ∙ last_of xs p d n len)) here)
    i low

numbered_from : {X : Type 0} (f : X → PassView) (a : ℕ) (xs : List X) → ((i : ℕ) (x : X) → i < length xs → (f (slice_index_or xs i x)).number ≡ a + i)
    → (i : ℕ) (p : PassView) → i < length (map f xs) → (slice_index_or (map f xs) i p).number ≡ a + i
numbered_from f a [] h i p low = absurd (omega (arith, low))
numbered_from f a (x ∷ xs) h zero p low = h 0 x (omega arith)
numbered_from f a (x ∷ xs) h (suc i) p low =
    let e : a + 1 + i ≡ a + suc i = omega arith in
    numbered_from f (a + 1) xs (λ k y below. h (suc k) y (omega (arith, below)) ∙ (let d : a + suc k ≡ a + 1 + k = omega arith in d)) i p (omega (arith, low)) ∙ e

-- passes that are each at the place of its number
pub stand_by_number : {X : Type 0} (f : X → PassView) (xs : List X) → ((i : ℕ) (x : X) → i < length xs → (f (slice_index_or xs i x)).number ≡ i) → AreInOrderOfNumber (map f xs)
stand_by_number f xs h i p low =
    let e : 0 + i ≡ i = omega arith in
    numbered_from f 0 xs (λ k x below. h k x below ∙ (let d : k ≡ 0 + k = omega arith in d)) i p low ∙ e
