-- Places of lists in lists.
use Rattle.std.proofs.Common.{◌≡◌, List, [], ◌∷◌, ◌++◌, refl, sym, ap, ◌∙◌, append_assoc}
use Rattle.ds2_base.specs.declared.place.Place.{Place}
use Rattle.ds2_names.specs.NameRules.{from_each}

pub each_append : {A : Type 0} (f : A → List Place) (xs ys : List A) → from_each f (xs ++ ys) ≡ from_each f xs ++ from_each f ys
each_append f [] ys = refl
each_append f (x ∷ xs) ys = ap (λ r. f x ++ r) (each_append f xs ys) ∙ sym (append_assoc (f x) (from_each f xs) (from_each f ys))

pub each_of_each : {A B : Type 0} (f : B → List Place) (g : A → List B) (xs : List A) → from_each (λ x. from_each f (g x)) xs ≡ from_each f (from_each g xs)
each_of_each f g [] = refl
each_of_each f g (x ∷ xs) = ap (λ r. from_each f (g x) ++ r) (each_of_each f g xs) ∙ sym (each_append f (g x) (from_each g xs))

pub each_is : {A : Type 0} (f g : A → List Place) → ((x : A) → f x ≡ g x) → (xs : List A) → from_each f xs ≡ from_each g xs
each_is f g h xs = λ i. from_each (λ x. h x i) xs
