-- Tables in which the first item of a name counts.
use Rattle.std.proofs.Common.{◌≡◌, ℕ, Bool, true, false, List, bytes_eq, Option, Some, None, refl, sym, ap, ◌∙◌, true≢false}
use Rattle.std.specs.Prelude.{if◌then◌else◌, is_none}
use Rattle.std.specs.Option.{option_or}
use Rattle.std.proofs.lemmas.Slice.Eq.{bytes_eq-Decides}

pub or_none : {A : Type 0} (x : Option A) → option_or x None ≡ x
or_none None = refl
or_none (Some a) = refl

module _ {A : Type 0} (old : List ℕ → Option A) (n name : List ℕ) (new : A) where
  -- a name that was not there is noted
  pub is_noted : is_none (old n) ≡ true → (if bytes_eq n name then Some new else old name) ≡ option_or (old name) (if bytes_eq n name then Some new else None)
  is_noted h = by (bytes_eq n name) refl
    where
      absent : (x : Option A) → is_none x ≡ true → Some new ≡ option_or x (Some new)
      absent None k = refl
      absent (Some a) k = absurd (true≢false (sym k))

      by : (t : Bool) → bytes_eq n name ≡ t → (if t then Some new else old name) ≡ option_or (old name) (if t then Some new else None)
      by true e = absent (old name) (ap (λ x. is_none (old x)) (sym ((bytes_eq-Decides n name).0 e)) ∙ h)
      by false e = sym (or_none (old name))

  -- one that was there stays
  pub is_kept : is_none (old n) ≡ false → old name ≡ option_or (old name) (if bytes_eq n name then Some new else None)
  is_kept h = by (bytes_eq n name) refl
    where
      present : (x : Option A) → is_none x ≡ false → x ≡ option_or x (Some new)
      present None k = absurd (true≢false k)
      present (Some a) k = refl

      by : (t : Bool) → bytes_eq n name ≡ t → old name ≡ option_or (old name) (if t then Some new else None)
      by true e = present (old name) (ap (λ x. is_none (old x)) (sym ((bytes_eq-Decides n name).0 e)) ∙ h)
      by false e = sym (or_none (old name))
