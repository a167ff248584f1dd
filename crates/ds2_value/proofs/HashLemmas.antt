-- What is fed of a sign and digits, write by write.
use Rattle.std.proofs.Common.{◌≡◌, ◌<◌, ◌≤◌, ◌+◌, ◌*◌, ◌^◌, ◌++◌, ℕ, Bool, List, refl, sym, ap, ◌∙◌}
use Rattle.std.specs.Hash as fed
use Rattle.std.specs.List.{fold}
use Rattle.std.proofs.lemmas.Bool.{lt-ltb, le-ltb}
use Rattle.ds2_value.specs.Hashing.{number_word, digit_writes}

in-one : (negative : Bool) (digits scale : ℕ) → digits < 2 ^ 64 → digit_writes (negative, digits, scale) ≡ fed.u128 (number_word negative 1 scale + 2 ^ 64 * digits)
unfolding digit_writes
in-one negative digits scale small = rw (lt-ltb digits (2 ^ 64) small) refl

in-two : (negative : Bool) (digits scale : ℕ) → 2 ^ 64 ≤ digits → digit_writes (negative, digits, scale) ≡ fed.u64 (number_word negative 2 scale) ++ fed.u128 digits
unfolding digit_writes
in-two negative digits scale large = rw (le-ltb digits (2 ^ 64) large) refl

-- s, t and u are states of a hasher, one behind the other
module _ {S : Type 0} (write : S → List ℕ → S) (s t u : S) (negative : Bool) (word digits scale : ℕ) where
  pub fed-in-one : digits < 2 ^ 64 → word ≡ number_word negative 1 scale → u ≡ fold write s (fed.u128 (word + 2 ^ 64 * digits)) → u ≡ fold write s (digit_writes (negative, digits, scale))
  fed-in-one small e p = p ∙ ap (λ (w : ℕ). fold write s (fed.u128 (w + 2 ^ 64 * digits))) e ∙ ap (fold write s) (sym (in-one negative digits scale small))

  pub fed-in-two : 2 ^ 64 ≤ digits → word ≡ number_word negative 2 scale → t ≡ fold write s (fed.u64 word) → u ≡ fold write t (fed.u128 digits) → u ≡ fold write s (digit_writes (negative, digits, scale))
  fed-in-two large e p q =
      q ∙ ap (λ (r : S). fold write r (fed.u128 digits)) (p ∙ ap (λ (w : ℕ). fold write s (fed.u64 w)) e)
      ∙ ap (fold write s) (sym (in-two negative digits scale large))
