-- Padded texts are in a total order, in which blanks at an end tell nothing apart. The laws of values cite it.
use Rattle.std.proofs.Common.{◌≡◌, ℕ, ◌+◌, ◌-◌, ◌≤◌, zero, suc, List, [], ◌∷◌, ◌++◌, length, drop, refl, sym, ap, ◌∙◌, arith}
use Rattle.std.specs.Prelude.{unwrap_or, slice_get, replicate}
use Rattle.std.specs.Cmp.{IsTotalOrder, on_total}
use Rattle.std.specs.Cmp.Lexicographic.{slice_cmp, nat_list_cmp_total}
use Rattle.std.specs.Ordering.{nat_cmp, ordering_then, ordering_reverse}
use Rattle.std.specs.Str.{chars}
use Rattle.std.proofs.lemmas.Map.Lookups.{exact_bytes}
use Rattle.std.specs.declared.cmp.Ordering.TheVariants.{Less, Equal}
use Rattle.ds2_value.specs.Texts.{padded, padded_cmp, text_cmp, without_blanks}

-- the first character, or a blank
abbrev pub head_or_blank : List ℕ → ℕ
head_or_blank cs = unwrap_or (slice_get cs 0) 32

-- no characters
abbrev nothing : List ℕ
nothing = []

-- one more character on each side
both : (x y : ℕ) (xs ys : List ℕ) → padded_cmp (x ∷ xs) (y ∷ ys) ≡ ordering_then (nat_cmp x y) (padded_cmp xs ys)
unfolding padded_cmp
both x y xs ys =
    let a : length (y ∷ ys) - length (x ∷ xs) ≡ length ys - length xs = omega arith in
    let b : length (x ∷ xs) - length (y ∷ ys) ≡ length xs - length ys = omega arith in
    rw (a, b) refl

left : (x : ℕ) (xs : List ℕ) → padded_cmp (x ∷ xs) [] ≡ ordering_then (nat_cmp x 32) (padded_cmp xs [])
unfolding padded_cmp
left x xs =
    let none : length nothing - length (x ∷ xs) ≡ 0 = omega arith in
    let less : length nothing - length xs ≡ 0 = omega arith in
    let all : length (x ∷ xs) - length nothing ≡ suc (length xs) = omega arith in
    let rest : length xs - length nothing ≡ length xs = omega arith in
    rw (none, all, less, rest) refl

right : (y : ℕ) (ys : List ℕ) → padded_cmp [] (y ∷ ys) ≡ ordering_then (nat_cmp 32 y) (padded_cmp [] ys)
unfolding padded_cmp
right y ys =
    let none : length nothing - length (y ∷ ys) ≡ 0 = omega arith in
    let less : length nothing - length ys ≡ 0 = omega arith in
    let all : length (y ∷ ys) - length nothing ≡ suc (length ys) = omega arith in
    let rest : length ys - length nothing ≡ length ys = omega arith in
    rw (all, none, rest, less) refl

-- no characters stand as no characters
pub padded_cmp-nil : padded_cmp [] [] ≡ Equal
unfolding padded_cmp
padded_cmp-nil = refl

-- the first characters decide, and then the others
pub padded_cmp-step : (xs ys : List ℕ) → padded_cmp xs ys ≡ ordering_then (nat_cmp (head_or_blank xs) (head_or_blank ys)) (padded_cmp (drop 1 xs) (drop 1 ys))
padded_cmp-step [] [] = refl
padded_cmp-step [] (y ∷ ys) = right y ys
padded_cmp-step (x ∷ xs) [] = left x xs
padded_cmp-step (x ∷ xs) (y ∷ ys) = both x y xs ys

-- padded characters begin with the first one, or a blank
padded-step : (n : ℕ) (cs : List ℕ) → padded (suc n) cs ≡ head_or_blank cs ∷ padded n (drop 1 cs)
padded-step n [] =
    let all : suc n - length nothing ≡ suc n = omega arith in
    let rest : n - length nothing ≡ n = omega arith in
    rw (all, rest) refl
padded-step n (c ∷ cs) = let e : suc n - length (c ∷ cs) ≡ n - length cs = omega arith in rw e refl

-- characters stand as they do when both are padded to one length, however long
pub padded_cmp-at : (n : ℕ) (x y : List ℕ) → length x ≤ n → length y ≤ n → padded_cmp x y ≡ slice_cmp nat_cmp (padded n x) (padded n y)
padded_cmp-at zero [] [] h k = padded_cmp-nil
padded_cmp-at zero [] (d ∷ y) h k = absurd (omega arith)
padded_cmp-at zero (c ∷ x) y h k = absurd (omega arith)
padded_cmp-at (suc n) x y h k =
    padded_cmp-step x y
    ∙ ap (ordering_then (nat_cmp (head_or_blank x) (head_or_blank y))) (padded_cmp-at n (drop 1 x) (drop 1 y) (shorter x n h) (shorter y n k))
    ∙ rw (padded-step n x, padded-step n y) refl
  where
    shorter : (cs : List ℕ) (m : ℕ) → length cs ≤ suc m → length (drop 1 cs) ≤ m
    shorter [] m g = omega arith
    shorter (c ∷ cs) m g = omega arith

turned : (x y : List ℕ) → padded_cmp x y ≡ ordering_reverse (padded_cmp y x)
unfolding padded_cmp
turned x y = nat_list_cmp_total.antisymm (padded (length y) x) (padded (length x) y)

before : (x y z : List ℕ) → padded_cmp x y ≡ Less → padded_cmp y z ≡ Less → padded_cmp x z ≡ Less
before x y z h k =
    let n = length x + length y + length z in
    padded_cmp-at n x z (omega arith) (omega arith)
    ∙ nat_list_cmp_total.trans (padded n x) (padded n y) (padded n z) (sym (padded_cmp-at n x y (omega arith) (omega arith)) ∙ h) (sym (padded_cmp-at n y z (omega arith) (omega arith)) ∙ k)

same : (x y z : List ℕ) → padded_cmp x y ≡ Equal → padded_cmp x z ≡ padded_cmp y z
same x y z h =
    let n = length x + length y + length z in
    padded_cmp-at n x z (omega arith) (omega arith)
    ∙ nat_list_cmp_total.congr (padded n x) (padded n y) (padded n z) (sym (padded_cmp-at n x y (omega arith) (omega arith)) ∙ h)
    ∙ sym (padded_cmp-at n y z (omega arith) (omega arith))

-- the order of padded characters is total
pub padded_cmp_total : IsTotalOrder padded_cmp
padded_cmp_total = record { antisymm = turned; trans = before; congr = same }

-- the order of texts is total
pub text_cmp_total : IsTotalOrder text_cmp
text_cmp_total = on_total chars padded_cmp_total

-- blanks at the end are no difference
blanks : (n : ℕ) → without_blanks (replicate n 32) ≡ []
unfolding without_blanks
blanks zero = refl
blanks (suc n) = rw (blanks n) refl

-- blanks at an end are no difference
pub without_blanks-padded : (cs : List ℕ) (n : ℕ) → without_blanks (cs ++ replicate n 32) ≡ without_blanks cs
unfolding without_blanks
without_blanks-padded [] n = blanks n
without_blanks-padded (c ∷ cs) n = rw (without_blanks-padded cs n) refl

-- what does not differ is the same without the blanks at its end
pub padded_cmp-Equal : (x y : List ℕ) → padded_cmp x y ≡ Equal → without_blanks x ≡ without_blanks y
unfolding padded_cmp
padded_cmp-Equal x y h =
    let e : padded (length y) x ≡ padded (length x) y = exact_bytes _ _ h in
    sym (without_blanks-padded x (length y - length x)) ∙ ap without_blanks e ∙ without_blanks-padded y (length x - length y)
