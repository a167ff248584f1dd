-- Texts that are put together and cut again.
use Rattle.std.proofs.Common.{◌≡◌, ◌+◌, ℕ, Bool, true, false, List, [], ◌∷◌, ◌++◌, length, drop, refl, sym, ap, ◌∙◌, arith}
use Rattle.std.specs.Prelude.{◌-◌, Some, codes}
use Rattle.std.specs.List.{list_any, position_or_len, before_first, after_first}
use Rattle.std.proofs.lemmas.Bool.{or_parts}
use Rattle.std.proofs.lemmas.List.{take_at, drop_at, append_assoc, length-append}
use Rattle.ds2_csv_cells.specs.Spelling.{before_close}

-- the first item that passes stands behind those that do not
pub position-at : (test : ℕ → Bool) (xs : List ℕ) (c : ℕ) (ys : List ℕ) → list_any test xs ≡ false → test c ≡ true → position_or_len test (xs ++ (c ∷ ys)) ≡ length xs
position-at test [] c ys free here = rw here refl
position-at test (x ∷ xs) c ys free here =
    let e = or_parts (test x) (list_any test xs) free in
    rw (e.0, position-at test xs c ys e.1 here) (omega arith)

pub before-at : (test : ℕ → Bool) (xs : List ℕ) (c : ℕ) (ys : List ℕ) → list_any test xs ≡ false → test c ≡ true → before_first test (xs ++ (c ∷ ys)) ≡ xs
before-at test xs c ys free here = take_at xs (c ∷ ys) (position_or_len test (xs ++ (c ∷ ys))) (sym (position-at test xs c ys free here))

pub after-at : (test : ℕ → Bool) (xs : List ℕ) (c : ℕ) (ys : List ℕ) → list_any test xs ≡ false → test c ≡ true → after_first test (xs ++ (c ∷ ys)) ≡ ys
after-at test xs c ys free here =
    let long : length (xs ++ (c ∷ [])) ≡ position_or_len test (xs ++ (c ∷ ys)) + 1 = omega (arith, length-append xs (c ∷ []), position-at test xs c ys free here) in
    ap (λ (t : List ℕ). drop (position_or_len test (xs ++ (c ∷ ys)) + 1) t) (sym (append_assoc xs (c ∷ []) ys)) ∙ drop_at (xs ++ (c ∷ [])) ys (position_or_len test (xs ++ (c ∷ ys)) + 1) long

-- what stands before a parenthesis that closes
pub before-close : (xs : List ℕ) → before_close (xs ++ codes ")") ≡ Some xs
before-close xs =
    let long : length xs ≡ length (xs ++ codes ")") - 1 = omega (arith, length-append xs (codes ")")) in
    rw (drop_at xs (codes ")") (length (xs ++ codes ")") - 1) long, take_at xs (codes ")") (length (xs ++ codes ")") - 1) long) refl
