-- Texts in ASCII, whose characters are their bytes.
use Rattle.std.proofs.Common.{◌≡◌, ℕ, zero, suc, ◌+◌, ◌≤◌, ◌<◌, min, List, [], ◌∷◌, length, get_or, take, drop, refl, sym, ap, ◌∙◌, arith, true, false}
use Rattle.std.specs.Cmp.Lexicographic.{slice_cmp}
use Rattle.std.specs.Ordering.{nat_cmp, ordering_then, ordering_reverse, is_ne}
use Rattle.std.specs.Str.{IsAscii}
use Rattle.std.specs.declared.cmp.Ordering.{Ordering}
use Rattle.std.specs.declared.cmp.Ordering.TheVariants.{Less, Equal, Greater}
use Rattle.std.proofs.lemmas.List.{drop_all, drop_min, drop_more}
use Rattle.std.proofs.lemmas.Str.{chars-IsAscii, encodes-IsAscii, IsAscii-drop}
use Rattle.ds2_value.specs.Texts.{padded_cmp, text_cmp, after_characters}
use Rattle.ds2_value.proofs.TextLemmas.{first-decides, second-decides}
use Rattle.ds2_value.specs.TextLaws.{padded_cmp-step, padded_cmp-nil, padded_cmp_total}

pub after-ascii : (n : ℕ) (bytes : List ℕ) → IsAscii bytes → drop (min n (length bytes)) bytes ≡ after_characters n bytes
after-ascii n bytes h =
    drop_min n bytes ∙ sym (encodes-IsAscii (drop n bytes) (IsAscii-drop bytes n h)) ∙ rw (chars-IsAscii bytes h) refl

pub text_cmp-ascii : (x y : List ℕ) → IsAscii x → IsAscii y → padded_cmp x y ≡ text_cmp x y
text_cmp-ascii x y h k = rw (chars-IsAscii x h, chars-IsAscii y k) refl

then-then : (r s t : Ordering) → ordering_then r (ordering_then s t) ≡ ordering_then (ordering_then r s) t
then-then Less s t = refl
then-then Equal s t = refl
then-then Greater s t = refl

-- the first characters of both decide, and then what follows them
fronts-decide : (n : ℕ) (x y : List ℕ) → n ≤ length x → n ≤ length y
    → padded_cmp x y ≡ ordering_then (slice_cmp nat_cmp (take n x) (take n y)) (padded_cmp (drop n x) (drop n y))
fronts-decide zero x y h k = refl
fronts-decide (suc n) [] y h k = absurd (omega arith)
fronts-decide (suc n) (c ∷ x) [] h k = absurd (omega arith)
fronts-decide (suc n) (c ∷ x) (d ∷ y) h k =
    padded_cmp-step (c ∷ x) (d ∷ y)
    ∙ ap (ordering_then (nat_cmp c d)) (fronts-decide n x y (omega arith) (omega arith))
    ∙ then-then (nat_cmp c d) (slice_cmp nat_cmp (take n x) (take n y)) (padded_cmp (drop n x) (drop n y))

pub by-fronts : (n : ℕ) (x y : List ℕ) (r : Ordering) → n ≤ length x → n ≤ length y → r ≡ slice_cmp nat_cmp (take n x) (take n y) → is_ne r ≡ true → r ≡ padded_cmp x y
by-fronts n x y r h k e d = first-decides (padded_cmp x y) r (padded_cmp (drop n x) (drop n y)) (rw e (fronts-decide n x y h k)) d

pub by-rests : (n : ℕ) (x y : List ℕ) (r : Ordering) → n ≤ length x → n ≤ length y → r ≡ slice_cmp nat_cmp (take n x) (take n y) → is_ne r ≡ false
    → padded_cmp (drop n x) (drop n y) ≡ padded_cmp x y
by-rests n x y r h k e d = second-decides (padded_cmp x y) r (padded_cmp (drop n x) (drop n y)) (rw e (fronts-decide n x y h k)) d

-- one more character against a blank
pub blank-step : (i : ℕ) (bytes : List ℕ) → i < length bytes
    → padded_cmp (drop i bytes) [] ≡ ordering_then (nat_cmp (get_or bytes i 0) 32) (padded_cmp (drop (i + 1) bytes) [])
blank-step i bytes h = rw (drop_more bytes i 0 h) (padded_cmp-step (get_or bytes i 0 ∷ drop (i + 1) bytes) [])

pub blanks-ended : (i : ℕ) (bytes : List ℕ) → length bytes ≤ i → padded_cmp (drop i bytes) [] ≡ Equal
blanks-ended i bytes h = rw (drop_all i bytes h) padded_cmp-nil

-- nothing stands to characters as they do to nothing, turned round
pub blanks-turned : (y : List ℕ) → padded_cmp [] y ≡ ordering_reverse (padded_cmp y [])
blanks-turned y = padded_cmp_total.antisymm [] y
