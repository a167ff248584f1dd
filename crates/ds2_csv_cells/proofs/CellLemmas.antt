-- How many characters a text has, and blanks behind it.
use Rattle.std.proofs.Common.{◌≡◌, ◌≤◌, ℕ, zero, suc, true, List, ◌++◌, ◌-◌, length, refl, ap, ◌∙◌, arith}
use Rattle.std.specs.Prelude.{replicate, nat_le, Bool, ◌&&◌}
use Rattle.std.specs.Str.{chars, IsUtf8, IsAscii}
use Rattle.std.proofs.Common.{length-append}
use Rattle.std.proofs.lemmas.Str.{encodes-chars, length-le-encodes, chars-append, chars-IsAscii}
use Rattle.std.proofs.lemmas.List.{length-replicate}
use Rattle.std.proofs.lemmas.Bool.Decides.{nat_tests}
use Rattle.ds2_base.specs.Characters.{char_count}
use Rattle.ds2_csv_cells.specs.Cells.{filled}

-- a text has no more characters than bytes
pub chars-few : (bytes : List ℕ) → IsUtf8 bytes → char_count bytes ≤ length bytes
chars-few bytes u = let e = ap length (encodes-chars bytes u) in omega (arith, length-le-encodes (chars bytes), e)

pub short-text : (bytes : List ℕ) (n : ℕ) → IsUtf8 bytes → length bytes ≤ n → true ≡ nat_le (char_count bytes) n
short-text bytes n u h = let few = chars-few bytes u in by (char_count bytes) (omega arith)
  where
    by : (k : ℕ) → k ≤ n → true ≡ nat_le k n
    by k l = grind (arith, nat_tests)

blanks-ascii : (n : ℕ) → IsAscii (replicate n 32)
blanks-ascii zero i = omega arith
blanks-ascii (suc n) zero = omega arith
blanks-ascii (suc n) (suc i) = blanks-ascii n i

-- a text with blanks up to n characters has n of them
pub count-filled : (n : ℕ) (text : List ℕ) → IsUtf8 text → char_count text ≤ n → char_count (filled n text) ≡ n
count-filled n text u h =
    let k = n - char_count text in
    ap length (chars-append text (replicate k 32) u)
    ∙ ap (λ (t : List ℕ). length (chars text ++ t)) (chars-IsAscii (replicate k 32) (blanks-ascii k))
    ∙ omega (arith, length-append (chars text) (replicate k 32), length-replicate {A = ℕ} k 32, h)

pub both_hold : (a b : Bool) → a ≡ true → b ≡ true → (a && b) ≡ true
both_hold a b e f = rw (e, f) refl
