-- The number of the first item that passes a test.
use Rattle.std.proofs.Common.{◌≡◌, ℕ, zero, suc, Bool, true, false, List, [], ◌∷◌, Option, Some, None, option_map, refl, sym, ap, ◌∙◌}
use Rattle.std.specs.Prelude.{◌==◌, if◌then◌else◌, slice_get}
use Rattle.std.proofs.lemmas.Bool.{and_parts}
use Rattle.std.proofs.lemmas.Bool.Decides.{Decides-eqb}
use Rattle.std.proofs.lemmas.Option.{same_Some}
use Rattle.ds2_meaning.specs.Location.{Home, is_same_home, Location, is_same_location}
use Rattle.ds2_program_code.specs.PlacedProgram.{number_of_first, number_of_location}
use Rattle.ds2_locality.specs.Deeds.{MethodAt, is_same_method}
use Rattle.ds2_locality.proofs.Frame.{home_is, location_is}
use Rattle.ds2_deeds.specs.NamedMethods.{number_among_methods}

module _ {X : Type 0} (test : X → Bool) (y : X) (is : (x : X) → test x ≡ true → y ≡ x) where
  at_next : (x : X) (xs : List X) (b : Bool) (o : Option ℕ) (k : ℕ) → test x ≡ b → number_of_first test xs ≡ o → ((j : ℕ) → number_of_first test xs ≡ Some j → slice_get xs j ≡ Some y)
      → (if b then Some 0 else option_map (λ n. suc n) o) ≡ Some k → slice_get (x ∷ xs) k ≡ Some y
  at_next x xs true o k e f later h = ap (λ n. slice_get (x ∷ xs) n) (sym (same_Some zero k h)) ∙ ap (λ z. Some z) (sym (is x e))
  at_next x xs false None k e f later h = absurd cc
  at_next x xs false (Some j) k e f later h = ap (λ n. slice_get (x ∷ xs) n) (sym (same_Some (suc j) k h)) ∙ later j f

  -- where only one item passes, it stands there
  first_at : (xs : List X) (k : ℕ) → number_of_first test xs ≡ Some k → slice_get xs k ≡ Some y
  first_at [] k h = absurd cc
  first_at (x ∷ xs) k h = at_next x xs (test x) (number_of_first test xs) k refl refl (λ j f. first_at xs j f) h

-- a location stands at its number
pub location_at : (ls : List Location) (at : Location) (k : ℕ) → number_of_location ls at ≡ Some k → slice_get ls k ≡ Some at
location_at ls at k e = first_at (λ other. is_same_location at other) at (λ x f. location_is at x f) ls k e

-- the method of a number of a home
abbrev pub method_of : Home → ℕ → MethodAt
method_of home number = record { home = home; number = number }

method_is : (a b : MethodAt) → is_same_method a b ≡ true → a ≡ b
method_is a b e =
    let parts = and_parts (is_same_home a.home b.home) (a.number == b.number) e in
    ap (λ (h : Home). method_of h a.number) (home_is a.home b.home parts.0) ∙ ap (λ (n : ℕ). method_of b.home n) ((Decides-eqb a.number b.number).0 parts.1)

-- a method stands at its number
pub method_at : (ms : List MethodAt) (m : MethodAt) (k : ℕ) → number_among_methods ms m ≡ Some k → slice_get ms k ≡ Some m
method_at ms m k e = first_at (is_same_method m) m (λ x f. method_is m x f) ms k e
