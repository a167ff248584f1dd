-- Runs: the bytes at the front of a text that pass a test.
use Rattle.std.proofs.Common.{◌≡◌, ℕ, suc, ◌+◌, ◌<◌, ◌≤◌, ◌⊎◌, inl, inr, Bool, true, false, not, [], ◌∷◌, ◌++◌, length, take, drop, refl, sym, ap, ◌∙◌, arith}
use Rattle.std.specs.List.{list_all, list_any, prefix_len}
use Rattle.std.proofs.lemmas.Bool.{and_parts, and_from, or_from, cases_Bool, cond-true, cond-false, not-true, not_from_false, or_parts}
use Rattle.std.proofs.lemmas.List.{length-drop}
use Rattle.ds2_base.specs.Bytes.{Bytes}
use Rattle.ds2_token.proofs.OneAnswer.{same_cut}

-- whether the first byte passes
abbrev pub first_passes : (ℕ → Bool) → Bytes → Bool
first_passes p [] = false
first_passes p (c ∷ cs) = p c

pub run_size_yes : (p : ℕ → Bool) (x : ℕ) (xs : Bytes) → p x ≡ true → prefix_len p (x ∷ xs) ≡ suc (prefix_len p xs)
run_size_yes p x xs e = cond-true (p x) (1 + prefix_len p xs) 0 e ∙ omega arith

pub run_size_no : (p : ℕ → Bool) (x : ℕ) (xs : Bytes) → p x ≡ false → prefix_len p (x ∷ xs) ≡ 0
run_size_no p x xs e = cond-false (p x) (1 + prefix_len p xs) 0 e

run_all_step : (p : ℕ → Bool) (x : ℕ) (xs : Bytes) → (p x ≡ true) ⊎ (p x ≡ false) → list_all p (take (prefix_len p xs) xs) ≡ true
    → list_all p (take (prefix_len p (x ∷ xs)) (x ∷ xs)) ≡ true
run_all_step p x xs (inl e) rest =
    ap (λ (n : ℕ). list_all p (take n (x ∷ xs))) (run_size_yes p x xs e) ∙ and_from (p x) (list_all p (take (prefix_len p xs) xs)) e rest
run_all_step p x xs (inr e) rest = ap (λ (n : ℕ). list_all p (take n (x ∷ xs))) (run_size_no p x xs e)

-- all of a run pass, and what follows does not
pub run_all : (p : ℕ → Bool) (xs : Bytes) → list_all p (take (prefix_len p xs) xs) ≡ true
run_all p [] = refl
run_all p (x ∷ xs) = run_all_step p x xs (cases_Bool (p x)) (run_all p xs)

run_stops_step : (p : ℕ → Bool) (x : ℕ) (xs : Bytes) → (p x ≡ true) ⊎ (p x ≡ false) → first_passes p (drop (prefix_len p xs) xs) ≡ false
    → first_passes p (drop (prefix_len p (x ∷ xs)) (x ∷ xs)) ≡ false
run_stops_step p x xs (inl e) rest = ap (λ (n : ℕ). first_passes p (drop n (x ∷ xs))) (run_size_yes p x xs e) ∙ rest
run_stops_step p x xs (inr e) rest = ap (λ (n : ℕ). first_passes p (drop n (x ∷ xs))) (run_size_no p x xs e) ∙ e

pub run_stops : (p : ℕ → Bool) (xs : Bytes) → first_passes p (drop (prefix_len p xs) xs) ≡ false
run_stops p [] = refl
run_stops p (x ∷ xs) = run_stops_step p x xs (cases_Bool (p x)) (run_stops p xs)

-- how long a run is that stands in front of what does not go on with it
pub run_len : (p : ℕ → Bool) (a r : Bytes) → list_all p a ≡ true → first_passes p r ≡ false → prefix_len p (a ++ r) ≡ length a
run_len p [] [] e f = refl
run_len p [] (x ∷ r) e f = run_size_no p x r f
run_len p (x ∷ a) r e f =
    let parts = and_parts (p x) (list_all p a) e in
    let rest : prefix_len p (a ++ r) ≡ length a = run_len p a r parts.1 f in
    let size : prefix_len p (x ∷ (a ++ r)) ≡ suc (prefix_len p (a ++ r)) = run_size_yes p x (a ++ r) parts.0 in
    omega arith

pub run_within : (p : ℕ → Bool) (a r : Bytes) → list_all p a ≡ true → length a ≤ prefix_len p (a ++ r)
run_within p [] r e = omega arith
run_within p (x ∷ a) r e =
    let parts = and_parts (p x) (list_all p a) e in
    let rest : length a ≤ prefix_len p (a ++ r) = run_within p a r parts.1 in
    let size : prefix_len p (x ∷ (a ++ r)) ≡ suc (prefix_len p (a ++ r)) = run_size_yes p x (a ++ r) parts.0 in
    omega arith

pub run_same : (p : ℕ → Bool) (a r b s : Bytes) → list_all p a ≡ true → first_passes p r ≡ false → list_all p b ≡ true → first_passes p s ≡ false
    → a ++ r ≡ b ++ s → (a ≡ b) × (r ≡ s)
run_same p a r b s e f g h same =
    same_cut a r b s same (sym (run_len p a r e f) ∙ ap (prefix_len p) same ∙ run_len p b s g h)

-- the byte at which a run stops
pub record Stop (p : ℕ → Bool) (xs : Bytes) : Type 0 where
  pub byte : ℕ
  pub rest : Bytes
  pub cut : xs ≡ byte ∷ rest
  pub stops : p byte ≡ false

stop_at : (p : ℕ → Bool) (xs : Bytes) → 0 < length xs → first_passes p xs ≡ false → Stop p xs
stop_at p [] some e = absurd (omega arith)
stop_at p (c ∷ cs) some e = record { byte = c; rest = cs; cut = refl; stops = e }

pub run_stop : (p : ℕ → Bool) (xs : Bytes) → prefix_len p xs < length xs → Stop p (drop (prefix_len p xs) xs)
run_stop p xs short = stop_at p (drop (prefix_len p xs) xs) (omega (arith, length-drop (prefix_len p xs) xs)) (run_stops p xs)

-- no byte passes where each passes the opposite test, and the other way round
pub none_from_all : (t : ℕ → Bool) (xs : Bytes) → list_all (λ c. not (t c)) xs ≡ true → list_any t xs ≡ false
none_from_all t [] e = refl
none_from_all t (x ∷ xs) e =
    let parts = and_parts (not (t x)) (list_all (λ c. not (t c)) xs) e in
    or_from (t x) (list_any t xs) (not-true (t x) parts.0) (none_from_all t xs parts.1)

pub all_from_none : (t : ℕ → Bool) (xs : Bytes) → list_any t xs ≡ false → list_all (λ c. not (t c)) xs ≡ true
all_from_none t [] e = refl
all_from_none t (x ∷ xs) e =
    let parts = or_parts (t x) (list_any t xs) e in
    and_from (not (t x)) (list_all (λ c. not (t c)) xs) (not_from_false (t x) parts.0) (all_from_none t xs parts.1)
