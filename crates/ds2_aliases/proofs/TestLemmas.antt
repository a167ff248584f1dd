-- Tests on lists of names.
use Rattle.std.proofs.Common.{◌≡◌, ℕ, zero, suc, Bool, true, false, ◌||◌, ◌&&◌, List, [], ◌∷◌, ◌++◌, bytes_eq, Some, refl, sym, ap, ◌∙◌, true≢false}
use Rattle.std.specs.List.{list_any, slice_get}
use Rattle.std.proofs.lemmas.List.Folds.{list_any-append}
use Rattle.std.proofs.lemmas.Slice.Eq.{bytes_eq-Decides}
use Rattle.ds2_meaning.specs.ProgramTree.{is_listed}
use Rattle.ds2_names.specs.NameRules.{from_each}

-- ---- tests

pub same_truth : (a b : Bool) → (a ≡ true → b ≡ true) → (b ≡ true → a ≡ true) → a ≡ b
same_truth true b h k = sym (h refl)
same_truth false true h k = k refl
same_truth false false h k = refl

pub or_false : (a : Bool) → (a || false) ≡ a
or_false true = refl
or_false false = refl

pub and_false : (a : Bool) → (a && false) ≡ false
and_false true = refl
and_false false = refl

pub and_true : (a : Bool) → (a && true) ≡ a
and_true true = refl
and_true false = refl

-- one of two tests holds
pub or_right : (a b : Bool) → b ≡ true → (a || b) ≡ true
or_right true b h = refl
or_right false b h = h

pub or_left : (a b : Bool) → a ≡ true → (a || b) ≡ true
or_left true b h = refl
or_left false b h = absurd (true≢false (sym h))

-- where the first one does not, the second does
pub or_else : (a b : Bool) → (a || b) ≡ true → a ≡ false → b ≡ true
or_else true b h k = absurd (true≢false k)
or_else false b h k = h

-- ---- lists of names

pub listed_append : (xs ys : List (List ℕ)) (name : List ℕ) → is_listed (xs ++ ys) name ≡ (is_listed xs name || is_listed ys name)
listed_append xs ys name = list_any-append (λ other. bytes_eq other name) xs ys

pub listed_last : (xs : List (List ℕ)) (y name : List ℕ) → is_listed (xs ++ y ∷ []) name ≡ (is_listed xs name || bytes_eq y name)
listed_last xs y name = listed_append xs (y ∷ []) name ∙ ap (λ t. is_listed xs name || t) (or_false (bytes_eq y name))

-- the name at an index is listed
pub listed_at : (xs : List (List ℕ)) (n : ℕ) (x : List ℕ) → slice_get xs n ≡ Some x → is_listed xs x ≡ true
listed_at [] zero x h = absurd cc
listed_at [] (suc n) x h = absurd cc
listed_at (y ∷ ys) zero x h =
    let same : y ≡ x = cc in
    or_left (bytes_eq y x) (is_listed ys x) ((bytes_eq-Decides y x).1 same)
listed_at (y ∷ ys) (suc n) x h = or_right (bytes_eq y x) (is_listed ys x) (listed_at ys n x h)

-- a name that is listed already
pub listed_again : (xs : List (List ℕ)) (x name : List ℕ) → is_listed xs x ≡ true → is_listed xs name ≡ (is_listed xs name || bytes_eq x name)
listed_again xs x name h = by (bytes_eq x name) refl
  where
    by : (t : Bool) → bytes_eq x name ≡ t → is_listed xs name ≡ (is_listed xs name || t)
    by true e = ap (is_listed xs) (sym ((bytes_eq-Decides x name).0 e)) ∙ h ∙ sym (or_right (is_listed xs name) true refl)
    by false e = sym (or_false (is_listed xs name))

-- what comes of each name has a name where it comes of one of them
pub listed_each : (f : List ℕ → List (List ℕ)) (xs : List (List ℕ)) (name : List ℕ) → is_listed (from_each f xs) name ≡ list_any (λ x. is_listed (f x) name) xs
listed_each f [] name = refl
listed_each f (x ∷ xs) name = listed_append (f x) (from_each f xs) name ∙ ap (λ t. is_listed (f x) name || t) (listed_each f xs name)

module _ (test : List ℕ → Bool) where
  one_passed : (x : List ℕ) (xs : List (List ℕ)) (name : List ℕ) → (is_listed xs name ≡ true → list_any test xs ≡ true) → is_listed (x ∷ xs) name ≡ true → test name ≡ true
      → list_any test (x ∷ xs) ≡ true
  one_passed x xs name rest h k = by (bytes_eq x name) refl h
    where
      by : (t : Bool) → bytes_eq x name ≡ t → (t || is_listed xs name) ≡ true → (test x || list_any test xs) ≡ true
      by true e l = or_left (test x) (list_any test xs) (ap test ((bytes_eq-Decides x name).0 e) ∙ k)
      by false e l = or_right (test x) (list_any test xs) (rest l)

  -- a listed name that passes a test
  pub passed_by : (xs : List (List ℕ)) (name : List ℕ) → is_listed xs name ≡ true → test name ≡ true → list_any test xs ≡ true
  passed_by [] name h k = absurd (true≢false (sym h))
  passed_by (x ∷ xs) name h k = one_passed x xs name (λ l. passed_by xs name l k) h k

  one_passing : (x : List ℕ) (xs : List (List ℕ)) → (list_any test xs ≡ true → (name : List ℕ) × ((is_listed xs name ≡ true) × (test name ≡ true))) → list_any test (x ∷ xs) ≡ true
      → (name : List ℕ) × ((is_listed (x ∷ xs) name ≡ true) × (test name ≡ true))
  one_passing x xs rest h = by (test x) refl h
    where
      further : ((name : List ℕ) × ((is_listed xs name ≡ true) × (test name ≡ true))) → (name : List ℕ) × ((is_listed (x ∷ xs) name ≡ true) × (test name ≡ true))
      further p = (p.0, (or_right (bytes_eq x p.0) (is_listed xs p.0) p.1.0, p.1.1))

      by : (t : Bool) → test x ≡ t → (t || list_any test xs) ≡ true → (name : List ℕ) × ((is_listed (x ∷ xs) name ≡ true) × (test name ≡ true))
      by true e l = (x, (or_left (bytes_eq x x) (is_listed xs x) ((bytes_eq-Decides x x).1 refl), e))
      by false e l = further (rest l)

  -- which name of a list passes a test
  pub passing : (xs : List (List ℕ)) → list_any test xs ≡ true → (name : List ℕ) × ((is_listed xs name ≡ true) × (test name ≡ true))
  passing [] h = absurd (true≢false (sym h))
  passing (x ∷ xs) h = one_passing x xs (λ l. passing xs l) h
