-- Parts of texts, counted in characters.
use Rattle.std.proofs.Common.{◌≡◌, ℕ, zero, suc, ◌+◌, ◌-◌, ◌≤◌, min, List, [], ◌∷◌, ◌++◌, length, take, drop, refl, sym, ap, ◌∙◌, arith, lit<, true, eq-eqb, le-leb}
use Rattle.std.specs.Prelude.{Bool, replicate, IsTrue, ◌==◌, ◌&&◌, nat_le}
use Rattle.std.specs.Cmp.{first_so, second_so}
use Rattle.std.specs.Prelude.{encode_utf8}
use Rattle.std.specs.Str.{chars, IsUtf8, is_utf8, encode_utf8_all, IsCharBoundary}
use Rattle.std.proofs.Math.Utf8.{scalars, scalar}
use Rattle.std.proofs.Math.Seq.{take-append_seam}
use Rattle.std.proofs.lemmas.List.{append-nil, take_all, take-append-drop, length-append, length-take, append_assoc, replicate-append-replicate, length-replicate}
use Rattle.std.proofs.lemmas.Str.{encodes-append, encodes-chars, chars-append, scalars-chars, chars-encodes, encode_ascii, length-le-encodes, IsCharBoundary-at_seam, IsUtf8-append, is_utf8-from_IsUtf8}
use Rattle.ds2_base.specs.Characters.{char_count}
use Rattle.ds2_value.specs.Texts.{cut_to, after_characters, filled_to}

scalars-take : (n : ℕ) (cs : List ℕ) → scalars cs ≡ true → scalars (take n cs) ≡ true
scalars-take zero cs h = refl
scalars-take (suc n) [] h = refl
scalars-take (suc n) (c ∷ cs) h = rw (first_so (scalar c) (scalars cs) h, scalars-take n cs (second_so (scalar c) (scalars cs) h)) refl

scalars-drop : (n : ℕ) (cs : List ℕ) → scalars cs ≡ true → scalars (drop n cs) ≡ true
scalars-drop zero cs h = h
scalars-drop (suc n) [] h = refl
scalars-drop (suc n) (c ∷ cs) h = scalars-drop n cs (second_so (scalar c) (scalars cs) h)

pub drop-one : (n : ℕ) (cs : List ℕ) → drop 1 (drop n cs) ≡ drop (n + 1) cs
drop-one zero cs = refl
drop-one (suc n) [] = let e : suc n + 1 ≡ suc (n + 1) = omega arith in rw e refl
drop-one (suc n) (c ∷ cs) = let e : suc n + 1 ≡ suc (n + 1) = omega arith in rw e (drop-one n cs)

-- a text is its first characters and what follows them
pub seam : (n : ℕ) (bytes : List ℕ) → IsUtf8 bytes → bytes ≡ cut_to n bytes ++ after_characters n bytes
seam n bytes u =
    sym (encodes-chars bytes u)
    ∙ sym (ap encode_utf8_all (take-append-drop n (chars bytes)))
    ∙ encodes-append (take n (chars bytes)) (drop n (chars bytes))

pub after-utf8 : (n : ℕ) (bytes : List ℕ) → IsUtf8 bytes → IsUtf8 (after_characters n bytes)
after-utf8 n bytes u = (drop n (chars bytes), (scalars-drop n (chars bytes) (scalars-chars bytes u), refl))

pub cut-utf8 : (n : ℕ) (bytes : List ℕ) → IsUtf8 bytes → IsUtf8 (cut_to n bytes)
cut-utf8 n bytes u = (take n (chars bytes), (scalars-take n (chars bytes) (scalars-chars bytes u), refl))

pub cut-chars : (n : ℕ) (bytes : List ℕ) → IsUtf8 bytes → chars (cut_to n bytes) ≡ take n (chars bytes)
cut-chars n bytes u = chars-encodes (take n (chars bytes)) (scalars-take n (chars bytes) (scalars-chars bytes u))

pub after-chars : (n : ℕ) (bytes : List ℕ) → IsUtf8 bytes → chars (after_characters n bytes) ≡ drop n (chars bytes)
after-chars n bytes u = chars-encodes (drop n (chars bytes)) (scalars-drop n (chars bytes) (scalars-chars bytes u))

-- no more characters than bytes
pub chars-le : (bytes : List ℕ) → IsUtf8 bytes → length (chars bytes) ≤ length bytes
chars-le bytes u = rw (encodes-chars bytes u) at (length-le-encodes (chars bytes))

pub cut-short : (n : ℕ) (bytes : List ℕ) → IsUtf8 bytes → length bytes ≤ n → bytes ≡ cut_to n bytes
cut-short n bytes u h =
    let few = chars-le bytes u in
    sym (ap encode_utf8_all (take_all n (chars bytes) (omega arith)) ∙ encodes-chars bytes u)

lengths : (n : ℕ) (bytes : List ℕ) → IsUtf8 bytes → length bytes ≡ length (cut_to n bytes) + length (after_characters n bytes)
lengths n bytes u = ap length (seam n bytes u) ∙ length-append (cut_to n bytes) (after_characters n bytes)

pub cut-length : (n : ℕ) (bytes : List ℕ) → IsUtf8 bytes → length bytes - length (after_characters n bytes) ≡ length (cut_to n bytes)
cut-length n bytes u = let e = lengths n bytes u in omega (arith, e)

pub after-le : (n : ℕ) (bytes : List ℕ) → IsUtf8 bytes → length (after_characters n bytes) ≤ length bytes
after-le n bytes u = let e = lengths n bytes u in omega (arith, e)

-- the first characters are the front of the bytes
pub cut-front : (n : ℕ) (bytes : List ℕ) → IsUtf8 bytes → take (length (cut_to n bytes)) bytes ≡ cut_to n bytes
cut-front n bytes u = ap (take (length (cut_to n bytes))) (seam n bytes u) ∙ take-append_seam (cut_to n bytes) (after_characters n bytes)

pub cut-seam : (n : ℕ) (bytes : List ℕ) → IsUtf8 bytes → IsCharBoundary bytes (length (cut_to n bytes))
cut-seam n bytes u = IsCharBoundary-at_seam bytes (cut_to n bytes) (after_characters n bytes) (seam n bytes u) (after-utf8 n bytes u)

pub cut-boundary : (n : ℕ) (bytes : List ℕ) → IsUtf8 bytes → IsCharBoundary bytes (length bytes - length (after_characters n bytes))
cut-boundary n bytes u =
    rw (cut-length n bytes u) (IsCharBoundary-at_seam bytes (cut_to n bytes) (after_characters n bytes) (seam n bytes u) (after-utf8 n bytes u))

pub take-cut : (n : ℕ) (bytes : List ℕ) → IsUtf8 bytes → take (length bytes - length (after_characters n bytes)) bytes ≡ cut_to n bytes
take-cut n bytes u =
    rw (cut-length n bytes u) (ap (take (length (cut_to n bytes))) (seam n bytes u) ∙ take-append_seam (cut_to n bytes) (after_characters n bytes))

-- the characters of a text that is filled with blanks
encodes-blanks : (n : ℕ) → encode_utf8_all (replicate n 32) ≡ replicate n 32
encodes-blanks zero = refl
encodes-blanks (suc n) = rw (encode_ascii 32 (lit< tt), encodes-blanks n) refl

abbrev blank : ℕ
blank = 32

blanks-more : (start i : ℕ) → start ≤ i → replicate (i - start) blank ++ blank ∷ [] ≡ replicate (i + 1 - start) blank
blanks-more start i h =
    let e : i - start + 1 ≡ i + 1 - start = omega arith in
    replicate-append-replicate (i - start) 1 blank ∙ rw e refl

-- one more blank
pub filled-more : (text front : List ℕ) (start i : ℕ) → start ≤ i → text ≡ front ++ replicate (i - start) 32 → text ++ encode_utf8 32 ≡ front ++ replicate (i + 1 - start) 32
filled-more text front start i h e =
    rw (e, encode_ascii 32 (lit< tt)) (append_assoc front (replicate (i - start) 32) (32 ∷ []) ∙ ap (λ (xs : List ℕ). front ++ xs) (blanks-more start i h))

pub cut-count : (n : ℕ) (bytes : List ℕ) → IsUtf8 bytes → char_count (cut_to n bytes) ≡ min n (length (chars bytes))
cut-count n bytes u = ap length (cut-chars n bytes u) ∙ length-take n (chars bytes)

pub filled-is : (n : ℕ) (bytes : List ℕ) → IsUtf8 bytes → cut_to n bytes ++ replicate (n - char_count (cut_to n bytes)) 32 ≡ filled_to n bytes
filled-is n bytes u =
    rw (cut-chars n bytes u) (sym
    (encodes-append (take n (chars bytes)) (replicate (n - length (take n (chars bytes))) 32)
    ∙ ap (λ (xs : List ℕ). cut_to n bytes ++ xs) (encodes-blanks (n - length (take n (chars bytes))))))

-- a text of n characters is filled already
pub filled-whole : (n : ℕ) (bytes : List ℕ) → IsUtf8 bytes → char_count bytes ≡ n → bytes ≡ filled_to n bytes
filled-whole n bytes u h =
    let whole : cut_to n bytes ≡ bytes = ap encode_utf8_all (take_all n (chars bytes) (omega (arith, h))) ∙ encodes-chars bytes u in
    let full : n - char_count bytes ≡ 0 = omega (arith, h) in
    let none : n - char_count (cut_to n bytes) ≡ 0 = ap (λ (b : List ℕ). n - char_count b) whole ∙ full in
    sym (ap (λ (k : ℕ). cut_to n bytes ++ replicate k 32) none ∙ append-nil (cut_to n bytes) ∙ whole) ∙ filled-is n bytes u

-- filled texts have exactly n characters, and cut ones at most n
scalars-blanks : (n : ℕ) → scalars (replicate n blank) ≡ true
scalars-blanks zero = refl
scalars-blanks (suc n) = scalars-blanks n

pub chars-blanks : (n : ℕ) → chars (replicate n blank) ≡ replicate n blank
chars-blanks n = ap chars (sym (encodes-blanks n)) ∙ chars-encodes (replicate n blank) (scalars-blanks n)

pub filled-count : (n : ℕ) (bytes : List ℕ) → IsUtf8 bytes → char_count (filled_to n bytes) ≡ n
filled-count n bytes u =
    let k = n - char_count (cut_to n bytes) in
    let few = cut-count n bytes u in
    ap char_count (sym (filled-is n bytes u))
    ∙ ap length (chars-append (cut_to n bytes) (replicate k blank) (cut-utf8 n bytes u))
    ∙ length-append (chars (cut_to n bytes)) (chars (replicate k blank))
    ∙ ap (λ (xs : List ℕ). char_count (cut_to n bytes) + length xs) (chars-blanks k)
    ∙ ap (λ (m : ℕ). char_count (cut_to n bytes) + m) (length-replicate k blank)
    ∙ omega (arith, few)

blanks-utf8 : (n : ℕ) → IsUtf8 (replicate n blank)
blanks-utf8 n = (replicate n blank, (scalars-blanks n, encodes-blanks n))

pub filled-utf8 : (n : ℕ) (bytes : List ℕ) → IsUtf8 bytes → IsUtf8 (filled_to n bytes)
filled-utf8 n bytes u =
    rw (← filled-is n bytes u) (IsUtf8-append (cut_to n bytes) (replicate (n - char_count (cut_to n bytes)) blank) (cut-utf8 n bytes u) (blanks-utf8 (n - char_count (cut_to n bytes))))

-- a text of which a test on its characters holds
both-hold : (bytes : List ℕ) (b : Bool) → IsUtf8 bytes → IsTrue b → IsTrue (is_utf8 bytes && b)
both-hold bytes b u h = rw (is_utf8-from_IsUtf8 bytes u, h) refl

pub fits-filled : (n : ℕ) (bytes : List ℕ) → IsUtf8 bytes → IsTrue (is_utf8 (filled_to n bytes) && (char_count (filled_to n bytes) == n))
fits-filled n bytes u = both-hold (filled_to n bytes) _ (filled-utf8 n bytes u) (eq-eqb _ _ (filled-count n bytes u))

pub fits-cut : (n : ℕ) (bytes : List ℕ) → IsUtf8 bytes → IsTrue (is_utf8 (cut_to n bytes) && nat_le (char_count (cut_to n bytes)) n)
fits-cut n bytes u = let few = cut-count n bytes u in both-hold (cut_to n bytes) _ (cut-utf8 n bytes u) (le-leb _ _ (omega (arith, few)))
