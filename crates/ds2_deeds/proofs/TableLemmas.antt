-- Locations that are told once.
use Rattle.std.proofs.Common.{◌≡◌, ℕ, Bool, if◌then◌else◌, List, [], ◌∷◌, ◌++◌, Option, Some, None, refl, sym, ap, ◌∙◌}
use Rattle.std.specs.Prelude.{is_some}
use Rattle.ds2_meaning.specs.HashObjects.{object_at}
use Rattle.ds2_meaning.specs.Location.{Location, is_same_location}
use Rattle.ds2_locality.specs.Verdict.{own_object_at}
use Rattle.ds2_program_code.specs.PlacedProgram.{number_of_location}
use Rattle.ds2_deeds.specs.NamedLocations.{with_location, with_locations}
use Rattle.ds2_deeds.proofs.NumberLemmas.{any_numbered}

pub both_told : (ls xs ys : List Location) → with_locations ls (xs ++ ys) ≡ with_locations (with_locations ls xs) ys
both_told ls [] ys = refl
both_told ls (x ∷ xs) ys = both_told (with_location ls x) xs ys

-- equal things bring the same locations
pub told_as : {A : Type 0} (of : A → List Location) (x y : A) (before grown : List Location) → x ≡ y → grown ≡ with_locations before (of x) → grown ≡ with_locations before (of y)
told_as of x y before grown is e = e ∙ ap (λ z. with_locations before (of z)) is

-- two parts that are told in turn
pub then_told : (ls xs ys first both : List Location) → first ≡ with_locations ls xs → both ≡ with_locations first ys → both ≡ with_locations ls (xs ++ ys)
then_told ls xs ys first both e f = f ∙ ap (λ l. with_locations l ys) e ∙ sym (both_told ls xs ys)

-- one location more is told, where it has no number yet
pub told_by : (ls : List Location) (at : Location) (b : Bool) → is_some (number_of_location ls at) ≡ b → with_location ls at ≡ (if b then ls else ls ++ at ∷ [])
told_by ls at b e = ap (λ x. if x then ls else ls ++ at ∷ []) (any_numbered (is_same_location at) ls ∙ e)

-- where there is no own hash object or iterator of a name, none is told
pub none_told : {A : Type 0} (before : List Location) (name : List ℕ) (o : Option A) → o ≡ None → before ≡ with_locations before (own_object_at name o)
none_told {A} before name o e = ap (λ (x : Option A). with_locations before (own_object_at name x)) (sym e)

-- the own hash object or iterator of a name is told
pub own_told : {A : Type 0} (before : List Location) (name : List ℕ) (o : Option A) (x : A) → o ≡ Some x → (grown : List Location) (at : Location) → at ≡ object_at None name
    → grown ≡ with_location before at → grown ≡ with_locations before (own_object_at name o)
own_told {A} before name o x e grown at is told = told ∙ ap (with_location before) is ∙ ap (λ (y : Option A). with_locations before (own_object_at name y)) (sym e)
