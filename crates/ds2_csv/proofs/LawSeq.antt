-- The last item that passes a test.
use Rattle.std.proofs.Common.{◌≡◌, ◌+◌, ℕ, Bool, true, false, List, [], ◌∷◌, ◌++◌, length, refl, ap, ◌∙◌, arith}
use Rattle.std.specs.Prelude.{Option, Some, None, if◌then◌else◌}
use Rattle.std.specs.List.{list_any}
use Rattle.std.specs.Option.{option_or, option_map}
use Rattle.std.proofs.lemmas.Bool.{or_parts}
use Rattle.ds2_csv.specs.Header.{last_place}

-- the last item that passes stands in the last part that has one
pub last-behind : (test : ℕ → Bool) (xs ys : List ℕ) (k : ℕ) → last_place test ys ≡ Some k → last_place test (xs ++ ys) ≡ Some (length xs + k)
last-behind test [] ys k e = e ∙ ap (λ (n : ℕ). Some n) (omega arith)
last-behind test (x ∷ xs) ys k e =
    ap (λ (o : Option ℕ). option_or (option_map (λ i. i + 1) o) (if test x then Some 0 else None)) (last-behind test xs ys k e) ∙ ap (λ (n : ℕ). Some n) (omega arith)

pub last-none : (test : ℕ → Bool) (xs : List ℕ) → list_any test xs ≡ false → last_place test xs ≡ None
last-none test [] free = refl
last-none test (x ∷ xs) free =
    let e = or_parts (test x) (list_any test xs) free in
    rw (e.0, last-none test xs e.1) refl

pub last-here : (test : ℕ → Bool) (xs : List ℕ) (c : ℕ) (ys : List ℕ) → test c ≡ true → list_any test ys ≡ false → last_place test (xs ++ (c ∷ ys)) ≡ Some (length xs)
last-here test xs c ys here free = last-behind test xs (c ∷ ys) 0 (rw (last-none test ys free, here) refl) ∙ ap (λ (n : ℕ). Some n) (omega arith)
