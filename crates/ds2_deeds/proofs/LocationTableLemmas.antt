-- Locations that are found by their order.
use Rattle.std.proofs.Common.{◌≡◌, ℕ, suc, Bool, true, false, if◌then◌else◌, List, [], ◌∷◌, ◌++◌, length, Option, Some, None, option_map, cond, refl, sym, ap, ◌∙◌}
use Rattle.std.proofs.lemmas.List.{map-append, length-map}
use Rattle.std.specs.BTreeMap.{BTreeMap, get, is_at}
use Rattle.std.specs.Cmp.{eq_by_cmp_equiv}
use Rattle.std.specs.Option.{is_some}
use Rattle.ds2_meaning.specs.Location.{is_same_location}
use Rattle.ds2_program_code.specs.PlacedProgram.{number_of_first, number_of_location}
use Rattle.ds2_locality.proofs.Frame.{location_is}
use Rattle.ds2_deeds.specs.declared.location.LocationName.{LocationName}
use Rattle.ds2_deeds.specs.LocationNumbers.{HaveFirstNumbers}
use Rattle.ds2_deeds.specs.LocationOrder.{named_cmp, named_total, location_tied}
use Rattle.ds2_deeds.specs.NamedLocations.{location_named, locations_named, with_location}
use Rattle.ds2_deeds.proofs.TableLemmas.{told_by}

-- ---- one location more

-- what is found in a list, or at its end
abbrev pub or_last : Option ℕ → Bool → ℕ → Option ℕ
or_last (Some k) b n = Some k
or_last None b n = if b then Some n else None

last_moved : (o : Option ℕ) (b : Bool) (n : ℕ) → option_map (λ m. suc m) (or_last o b n) ≡ or_last (option_map (λ m. suc m) o) b (suc n)
last_moved (Some k) b n = refl
last_moved None true n = refl
last_moved None false n = refl

last_next : (first : Bool) (o whole : Option ℕ) (b : Bool) (n : ℕ) → whole ≡ or_last o b n
    → (if first then Some 0 else option_map (λ m. suc m) whole) ≡ or_last (if first then Some 0 else option_map (λ m. suc m) o) b (suc n)
last_next true o whole b n h = refl
last_next false o whole b n h = ap (λ w. option_map (λ m. suc m) w) h ∙ last_moved o b n

number_with_last : {X : Type 0} (test : X → Bool) (xs : List X) (y : X) → number_of_first test (xs ++ y ∷ []) ≡ or_last (number_of_first test xs) (test y) (length xs)
number_with_last test [] y = refl
number_with_last test (x ∷ xs) y = last_next (test x) (number_of_first test xs) (number_of_first test (xs ++ y ∷ [])) (test y) (length xs) (number_with_last test xs y)

given_by : (b : Bool) (here o : Option ℕ) (n k : ℕ) → n ≡ k → (b ≡ true → here ≡ o) → is_some here ≡ false → cond b (Some n) o ≡ or_last o b k
given_by false here None n k e same none = refl
given_by false here (Some m) n k e same none = refl
given_by true here None n k e same none = ap (λ i. Some i) e
given_by true here (Some m) n k e same none = let f : false ≡ true = sym none ∙ ap (λ x. is_some x) (same refl) in cc f

-- a location that has no number is given the next one
pub next_numbered : (ls : List LocationName) (m n : BTreeMap LocationName ℕ) (x : LocationName) → HaveFirstNumbers ls m → is_some (get named_cmp m x) ≡ false
    → ((q : LocationName) → get named_cmp n q ≡ cond (is_at (named_cmp x) q) (Some (length ls)) (get named_cmp m q)) → HaveFirstNumbers (ls ++ x ∷ []) n
next_numbered ls m n x are none put at =
    let l = location_named at in
    let y = location_named x in
    let whole = locations_named ls in
    let same : is_at (named_cmp x) at ≡ is_same_location l y = (eq_by_cmp_equiv named_total).symm x at ∙ sym (location_tied l y) in
    let here : is_some (number_of_location whole y) ≡ false = ap (λ o. is_some o) (sym (are x)) ∙ none in
    put at ∙ ap (λ b. cond b (Some (length ls)) (get named_cmp m at)) same ∙ ap (λ o. cond (is_same_location l y) (Some (length ls)) o) (are at)
    ∙ given_by (is_same_location l y) (number_of_location whole y) (number_of_location whole l) (length ls) (length whole) (sym (length-map ls location_named))
    (λ h. ap (λ z. number_of_location whole z) (sym (location_is l y h))) here
    ∙ sym (ap (λ z. number_of_location z l) (map-append location_named ls (x ∷ [])) ∙ number_with_last (λ other. is_same_location l other) whole y)

-- ---- where a location is told

pub there_already : (ls : List LocationName) (m : BTreeMap LocationName ℕ) (x : LocationName) → HaveFirstNumbers ls m → is_some (get named_cmp m x) ≡ true
    → locations_named ls ≡ with_location (locations_named ls) (location_named x)
there_already ls m x are there = sym (told_by (locations_named ls) (location_named x) true (ap (λ o. is_some o) (sym (are x)) ∙ there))

pub told_next : (ls : List LocationName) (m : BTreeMap LocationName ℕ) (x : LocationName) → HaveFirstNumbers ls m → is_some (get named_cmp m x) ≡ false
    → locations_named (ls ++ x ∷ []) ≡ with_location (locations_named ls) (location_named x)
told_next ls m x are none = map-append location_named ls (x ∷ []) ∙ sym (told_by (locations_named ls) (location_named x) false (ap (λ o. is_some o) (sym (are x)) ∙ none))
