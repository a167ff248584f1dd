-- The first ones of a list, of which some are kept in another form.
use Rattle.std.proofs.Common.{◌≡◌, ℕ, zero, suc, ◌-◌, List, [], ◌∷◌, ◌++◌, length, map, take, sym, ap, ◌∙◌, arith}
use Rattle.std.proofs.lemmas.List.{take-map}

pub first_numbers : {X Y : Type 0} (f : X → Y) (count : ℕ) (xs : List X) (ys : List Y) → map f (take count xs) ++ take (count - length xs) ys ≡ take count (map f xs ++ ys)
first_numbers f zero xs ys = let none : 0 - length xs ≡ 0 = omega arith in ap (λ (n : ℕ). take n ys) none
first_numbers f (suc count) [] ys = let whole : suc count - 0 ≡ suc count = omega arith in ap (λ (n : ℕ). take n ys) whole
first_numbers {Y = Y} f (suc count) (x ∷ xs) ys =
    let fewer : suc count - suc (length xs) ≡ count - length xs = omega arith in
    ap (λ (n : ℕ). f x ∷ (map f (take count xs) ++ take n ys)) fewer ∙ ap (λ (zs : List Y). f x ∷ zs) (first_numbers f count xs ys)

pub first_mapped : {X Y : Type 0} (f : X → Y) (count : ℕ) (xs now : List X) → now ≡ take count xs → map f now ≡ take count (map f xs)
first_mapped {X = X} f count xs now e = ap (λ (ys : List X). map f ys) e ∙ sym (take-map f count xs)
