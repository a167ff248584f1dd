-- Lists that grow by what each item gives.
use Rattle.std.proofs.Common.{◌≡◌, ℕ, ◌+◌, ◌<◌, List, [], ◌∷◌, ◌++◌, length, get_or, drop, take, map, refl, sym, ap, ◌∙◌, append_assoc}
use Rattle.std.proofs.lemmas.List.{at_drop_more, append-nil, take_more}
use Rattle.ds2_names.specs.NameRules.{from_each}

module _ {A B : Type 0} (F : List B → List A) (f : B → List A) (step : (b : B) (bs : List B) → F (b ∷ bs) ≡ f b ++ F bs) where
  -- one item more has given what it gives
  pub one_more_given : (bs : List B) (i : ℕ) (b : B) (old new whole : List A) → i < length bs → b ≡ get_or bs i b → new ≡ old ++ f b → old ++ F (drop i bs) ≡ whole
      → new ++ F (drop (i + 1) bs) ≡ whole
  one_more_given bs i b old new whole h at e inv =
      ap (λ (l : List A). l ++ F (drop (i + 1) bs)) e ∙ append_assoc old (f b) (F (drop (i + 1) bs))
      ∙ ap (λ (l : List A). old ++ l) (sym (at_drop_more F bs i b h ∙ ap (λ (x : B). F (x ∷ drop (i + 1) bs)) (sym at) ∙ step b (drop (i + 1) bs))) ∙ inv

  -- what the items give and one behind them
  given_last : F [] ≡ [] → (xs : List B) (x : B) → F (xs ++ x ∷ []) ≡ F xs ++ f x
  given_last none [] x = step x [] ∙ ap (λ (l : List A). f x ++ l) none ∙ append-nil (f x) ∙ sym (ap (λ (l : List A). l ++ f x) none)
  given_last none (y ∷ xs) x =
      step y (xs ++ x ∷ []) ∙ ap (λ (l : List A). f y ++ l) (given_last none xs x) ∙ sym (append_assoc (f y) (F xs) (f x))
      ∙ ap (λ (l : List A). l ++ f x) (sym (step y xs))

  -- the first items and one more
  pub one_more_taken : F [] ≡ [] → (bs : List B) (i : ℕ) (b : B) → i < length bs → b ≡ get_or bs i b → F (take (i + 1) bs) ≡ F (take i bs) ++ f b
  one_more_taken none bs i b h at = ap F (take_more bs i b h ∙ ap (λ (x : B). take i bs ++ x ∷ []) (sym at)) ∙ given_last none (take i bs) b

-- what items give and one behind them
pub each_last : {A B : Type 0} (f : B → List A) (xs : List B) (x : B) → from_each f (xs ++ x ∷ []) ≡ from_each f xs ++ f x
each_last f xs x = given_last (from_each f) f (λ b bs. refl) refl xs x

map_append : {A B : Type 0} (m : A → B) (xs ys : List A) → map m (xs ++ ys) ≡ map m xs ++ map m ys
map_append m [] ys = refl
map_append {B = B} m (x ∷ xs) ys = ap (λ (l : List B). m x ∷ l) (map_append m xs ys)

-- a list that holds what items give, with what one more gives
pub grown_given : {A C : Type 0} (f : C → List A) (done : List C) (c : C) (old more new : List A) → new ≡ old ++ more → old ≡ from_each f done → more ≡ f c
    → new ≡ from_each f (done ++ c ∷ [])
grown_given f done c old more new e h k = e ∙ (λ i. h i ++ k i) ∙ sym (each_last f done c)

-- likewise where it is seen as something else
pub grown_seen : {A B C : Type 0} (m : A → B) (f : C → List B) (done : List C) (c : C) (old more new : List A) → new ≡ old ++ more → map m old ≡ from_each f done → map m more ≡ f c
    → map m new ≡ from_each f (done ++ c ∷ [])
grown_seen m f done c old more new e h k = ap (map m) e ∙ map_append m old more ∙ (λ i. h i ++ k i) ∙ sym (each_last f done c)
