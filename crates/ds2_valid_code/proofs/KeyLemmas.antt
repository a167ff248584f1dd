-- Sets of keys that are kept in the order of their bytes.
use Rattle.std.proofs.Common.{◌≡◌, ℕ, Bool, true, false, List, refl, sym, ap, ◌∙◌}
use Rattle.std.specs.Prelude.{◌||◌, bytes_eq}
use Rattle.std.specs.BTreeSet.{BTreeSet, UpdatesBy}
use Rattle.std.specs.Cmp.{eq_by_cmp_equiv}
use Rattle.std.specs.Cmp.Lexicographic.{slice_cmp, nat_list_cmp_total, nat_list_eq_equiv}
use Rattle.std.specs.Ordering.{nat_cmp, is_eq}
use Rattle.std.specs.Set.{KeepsOthers}
use Rattle.std.proofs.lemmas.Map.Text.{is_eq-slice_cmp}
use Rattle.std.proofs.lemmas.Slice.Eq.{bytes_eq-Decides}
use Rattle.ds2_valid_code.specs.SeenNames.{has_key_of}

-- a key of these bytes is none of others
is_apart : (bytes other key : List ℕ) → bytes_eq bytes other ≡ false → is_eq (slice_cmp nat_cmp bytes key) ≡ true → is_eq (slice_cmp nat_cmp other key) ≡ false
is_apart bytes other key differs same =
    is_eq-slice_cmp other key ∙ nat_list_eq_equiv.symm other key ∙ sym (nat_list_eq_equiv.congr bytes key other (sym (is_eq-slice_cmp bytes key) ∙ same)) ∙ differs

module _ {K : Type 0} (bytes_of : K → List ℕ) (bytes : List ℕ) (before after : BTreeSet K)
    (added : UpdatesBy (λ a b. slice_cmp nat_cmp (bytes_of a) (bytes_of b)) (λ key. slice_cmp nat_cmp bytes (bytes_of key)) before after true) where
  others_stay : (other : List ℕ) → bytes_eq bytes other ≡ false → has_key_of bytes_of after other ≡ has_key_of bytes_of before other
  unfolding KeepsOthers
  others_stay other differs =
      added.3 (λ key. is_eq (slice_cmp nat_cmp other (bytes_of key))) (λ x y. (eq_by_cmp_equiv nat_list_cmp_total).congr other (bytes_of x) (bytes_of y))
      (λ key. is_apart bytes other (bytes_of key) differs)

  -- a set to which a key was added has its bytes, and of others what it had
  pub key_added : (other : List ℕ) → has_key_of bytes_of after other ≡ (bytes_eq bytes other || has_key_of bytes_of before other)
  key_added other = by (bytes_eq bytes other) refl
    where
      by : (b : Bool) → bytes_eq bytes other ≡ b → has_key_of bytes_of after other ≡ (b || has_key_of bytes_of before other)
      by true e = ap (has_key_of bytes_of after) (sym ((bytes_eq-Decides bytes other).0 e)) ∙ added.1
      by false e = others_stay other e
