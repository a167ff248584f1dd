-- Flags as bits, one more in front.
use Rattle.std.proofs.Common.{◌≡◌, ℕ, zero, suc, ◌+◌, ◌-◌, ◌*◌, ◌^◌, ◌<◌, ◌≤◌, Bool, nat_lt, List, ◌∷◌, map, refl, sym, ap, ◌∙◌, subst, arith}
use Rattle.std.specs.Prelude.{get_or}
use Rattle.std.specs.List.{range_with_len}
use Rattle.ds2_reading.specs.LoadMeaning.{bits_of}
use Rattle.ds2_reading.proofs.Bits.{pow_some, pow_mono}

-- from the table t on, so many tables below n
pub record HasFlags (given end : List ℕ) (n t flags : ℕ) : Type 0 where
  pub within : t ≤ n
  pub bound : flags < 2 ^ (n - t)
  pub bits : bits_of (n - t) flags ≡ map (λ table. nat_lt (get_or given table 0) (get_or end table 0)) (range_with_len t (n - t))

pub no_flags : (given end : List ℕ) (n : ℕ) → HasFlags given end n n 0
no_flags given end n =
    let z : n - n ≡ 0 = omega arith in
    record {
      within = omega arith;
      bound = omega (arith, pow_some (n - n));
      bits = empty (n - n) z;
    }
  where
    empty : (k : ℕ) → k ≡ 0 → bits_of k 0 ≡ map (λ table. nat_lt (get_or given table 0) (get_or end table 0)) (range_with_len n k)
    empty zero e = refl
    empty (suc k) e = absurd (omega (arith, e))

pow_step : (k : ℕ) → 2 ^ suc k ≡ 2 * 2 ^ k
pow_step k = omega arith

pub small_flags : (given end : List ℕ) (n t flags : ℕ) → n ≤ 16 → 0 < t → HasFlags given end n t flags → flags < 32768
small_flags given end n t flags l m h = omega (arith, h.bound, pow_mono (n - t) 15 (omega (arith, l, m)))

pub one_flag_more : (given end : List ℕ) (n t u flags more : ℕ) → u + 1 ≡ t → HasFlags given end n t flags
    → bits_of (suc (n - t)) more ≡ nat_lt (get_or given u 0) (get_or end u 0) ∷ bits_of (n - t) flags → more ≤ 2 * flags + 1 → HasFlags given end n u more
one_flag_more given end n t u flags more e h bits bound =
    let f : ℕ → Bool = λ table. nat_lt (get_or given table 0) (get_or end table 0) in
    let k : n - u ≡ suc (n - t) = omega (arith, e, h.within) in
    record {
      within = omega (arith, e, h.within);
      bound = omega (arith, bound, h.bound, ap (λ j. 2 ^ j) k, pow_step (n - t));
      bits =
          ap (λ j. bits_of j more) k
          ∙ bits
          ∙ ap (λ r. f u ∷ r) (h.bits ∙ ap (λ j. map f (range_with_len j (n - t))) (sym e))
          ∙ ap (λ j. map f (range_with_len u j)) (sym k);
    }

-- from the first table on
pub whole_flags : (given end : List ℕ) (n t flags : ℕ) → t ≡ 0 → HasFlags given end n t flags
    → bits_of n flags ≡ map (λ table. nat_lt (get_or given table 0) (get_or end table 0)) (range_with_len 0 n)
whole_flags given end n t flags e h =
    let k : n - t ≡ n = omega (arith, e) in
    let P : ℕ → ℕ → Type 0 = λ a b. bits_of b flags ≡ map (λ table. nat_lt (get_or given table 0) (get_or end table 0)) (range_with_len a b) in
    let Q : ℕ → Type 0 = λ a. P a n in
    let R : ℕ → Type 0 = λ b. P t b in
    subst Q e (subst R k h.bits)
