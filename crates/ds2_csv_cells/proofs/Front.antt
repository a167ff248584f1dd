-- A list without its first item.
use Rattle.std.proofs.Common.{◌≡◌, List, [], ◌∷◌, ◌-◌, length, take, drop, refl, ap, ◌∙◌, arith}

-- what follows the first item
abbrev pub after : {X : Type 0} → List X → List X
after xs = take (length xs - 1) (drop 1 xs)

pub take_all : {X : Type 0} (xs : List X) → take (length xs) xs ≡ xs
take_all [] = refl
take_all {X} (x ∷ xs) = ap (λ (t : List X). x ∷ t) (take_all xs)

pub after_cons : {X : Type 0} (x : X) (xs : List X) → after (x ∷ xs) ≡ xs
after_cons {X} x xs =
    let e : length (x ∷ xs) - 1 ≡ length xs = omega arith in
    ap (λ n. take n xs) e ∙ take_all xs
