-- Locations that are told once.
use Rattle.std.proofs.Common.{◌≡◌, ℕ, suc, Bool, true, false, true≢false, List, [], ◌∷◌, ◌++◌, Option, Some, None, option_map, is_some, refl, sym, ap, ◌∙◌, cond}
use Rattle.std.specs.List.{list_any, find}
use Rattle.std.specs.Option.{option_or}
use Rattle.std.specs.Prelude.{◌||◌, if◌then◌else◌}
use Rattle.std.proofs.lemmas.List.Folds.{find-append}
use Rattle.ds2_meaning.specs.Location.{Location, is_same_location}
use Rattle.ds2_program_code.specs.PlacedProgram.{number_of_location}
use Rattle.ds2_locality.proofs.Frame.{location_is}
use Rattle.ds2_deeds.specs.NamedLocations.{with_location, with_locations, told_once}

-- a location is among some
abbrev pub is_in : Location → List Location → Bool
is_in at ls = list_any (λ other. is_same_location at other) ls

-- ---- what is found among them

or_none : {A : Type 0} (o : Option A) → o ≡ option_or o None
or_none None = refl
or_none (Some x) = refl

or_next : {A : Type 0} (a b c : Option A) → option_or (option_or a b) c ≡ option_or a (option_or b c)
or_next None b c = refl
or_next (Some x) b c = refl

or_first : {A : Type 0} (b : Bool) (x : A) (o : Option A) → option_or (cond b (Some x) None) o ≡ cond b (Some x) o
or_first true x o = refl
or_first false x o = refl

find_none : {A : Type 0} (test : A → Bool) (b : Bool) (x : A) (o : Option A) → cond b (Some x) o ≡ None → (b ≡ false) × (o ≡ None)
find_none test true x o e = absurd cc
find_none test false x o e = (refl, e)

module _ (test : Location → Bool) where
  -- where none is found that passes, what is among them does not pass
  none_in : (at : Location) (ls : List Location) (b : Bool) → is_in at ls ≡ true → test at ≡ b → find test ls ≡ None → b ≡ false
  none_in at [] b there e none = absurd (true≢false (sym there))
  none_in at (x ∷ ls) b there e none =
      let parts = find_none test (test x) x (find test ls) none in by_first (is_same_location at x) refl there (λ f. none_in at ls b f e parts.1)
    where
      by_first : (s : Bool) → is_same_location at x ≡ s → (s || is_in at ls) ≡ true → (is_in at ls ≡ true → b ≡ false) → b ≡ false
      by_first true same found later = sym e ∙ ap test (location_is at x same) ∙ (find_none test (test x) x (find test ls) none).0
      by_first false same found later = later found

  again_found : (at : Location) (ls : List Location) (b : Bool) (o : Option Location) → is_in at ls ≡ true → test at ≡ b → find test ls ≡ o → o ≡ option_or o (cond b (Some at) None)
  again_found at ls b (Some x) there e f = refl
  again_found at ls true None there e f = absurd (true≢false (none_in at ls true there e f))
  again_found at ls false None there e f = refl

  find_with : (at : Location) (ls : List Location) (b : Bool) → is_in at ls ≡ b → find test (if b then ls else ls ++ at ∷ []) ≡ option_or (find test ls) (find test (at ∷ []))
  find_with at ls true e = again_found at ls (test at) (find test ls) e refl refl
  find_with at ls false e = find-append test ls (at ∷ [])

  find_all : (ls more : List Location) → find test (with_locations ls more) ≡ option_or (find test ls) (find test more)
  find_all ls [] = or_none (find test ls)
  find_all ls (at ∷ more) =
      find_all (with_location ls at) more ∙ ap (λ o. option_or o (find test more)) (find_with at ls (is_in at ls) refl)
      ∙ or_next (find test ls) (find test (at ∷ [])) (find test more) ∙ ap (λ o. option_or (find test ls) o) (or_first (test at) at (find test more))

  -- of locations that are told once the same one is found first
  pub find_told : (ls : List Location) → find test (told_once ls) ≡ find test ls
  find_told ls = find_all [] ls

  any_found : (ls : List Location) → list_any test ls ≡ is_some (find test ls)
  any_found [] = refl
  any_found (x ∷ ls) = by_test (test x) (any_found ls)
    where
      by_test : (b : Bool) → list_any test ls ≡ is_some (find test ls) → (b || list_any test ls) ≡ is_some (cond b (Some x) (find test ls))
      by_test true h = refl
      by_test false h = h

  pub any_told : (ls : List Location) → list_any test (told_once ls) ≡ list_any test ls
  any_told ls = any_found (told_once ls) ∙ ap (λ o. is_some o) (find_told ls) ∙ sym (any_found ls)

-- a location without a number is not among them
pub unnumbered : (at : Location) (ls : List Location) → number_of_location ls at ≡ None → is_in at ls ≡ false
unnumbered at [] e = refl
unnumbered at (x ∷ ls) e = by_first (is_same_location at x) (number_of_location ls at) refl e (λ f. unnumbered at ls f)
  where
    by_first : (b : Bool) (o : Option ℕ) → number_of_location ls at ≡ o → (if b then Some 0 else option_map (λ n. suc n) o) ≡ None → (number_of_location ls at ≡ None → is_in at ls ≡ false)
        → (b || is_in at ls) ≡ false
    by_first true o f h later = absurd cc
    by_first false None f h later = later f
    by_first false (Some n) f h later = absurd cc

-- a location among some that are told once has a number
pub has_number : (at : Location) (ls : List Location) (o : Option ℕ) → is_in at ls ≡ true → number_of_location (told_once ls) at ≡ o → is_some o ≡ true
has_number at ls None there e =
    absurd (true≢false (sym there ∙ sym (any_told (λ other. is_same_location at other) ls) ∙ unnumbered at (told_once ls) e))
has_number at ls (Some n) there e = refl
