-- Texts without the blanks at their end, one blank after the other.
use Rattle.std.proofs.Common.{◌≡◌, ◌≢◌, ℕ, ◌<◌, ◌≤◌, min, List, [], ◌∷◌, ◌++◌, length, get_or, inl, inr, refl, sym, ap, ◌∙◌, arith, lit<}
use Rattle.std.specs.Prelude.{◌⊎◌, ◌==◌, Bool, true, false}
use Rattle.std.specs.Str.{chars, IsUtf8, encode_utf8_all}
use Rattle.std.proofs.lemmas.Str.{chars-append, encodes-chars, encodes-append, encode_ascii, chars-encodes, scalars-chars, IsUtf8-take, IsCharBoundary-before_ascii}
use Rattle.std.proofs.lemmas.Bool.{eqb-true, cases_Bool}
use Rattle.std.proofs.Math.Utf8.{scalars, scalar}
use Rattle.std.specs.Cmp.{first_so, second_so}
use Rattle.ds2_base.specs.Characters.{char_count}
use Rattle.ds2_value.proofs.CutLemmas.{chars-le}
use Rattle.std.proofs.lemmas.List.{length-append}
use Rattle.std.proofs.Math.Seq.{take-append_seam, get_or-append_seam}
use Rattle.ds2_value.specs.Texts.{trimmed, without_blanks, unless_blank}
use Rattle.ds2_value.specs.TextLaws.{without_blanks-padded}

pub utf8-front : (front : List ℕ) → IsUtf8 (front ++ 32 ∷ []) → IsUtf8 front
utf8-front front u =
    let blank : get_or (front ++ 32 ∷ []) (length front) 0 ≡ 32 = get_or-append_seam front 32 [] 0 in
    let inside : length front < length (front ++ 32 ∷ []) = rw (length-append front (32 ∷ [])) (omega arith) in
    let cut = IsUtf8-take (front ++ 32 ∷ []) (length front) u (IsCharBoundary-before_ascii (front ++ 32 ∷ []) (length front) inside (omega (arith, blank))) in
    rw (take-append_seam front (32 ∷ [])) at cut

one-blank : chars (32 ∷ []) ≡ 32 ∷ []
unfolding chars
one-blank = refl

one-blank-bytes : encode_utf8_all (32 ∷ []) ≡ 32 ∷ []
one-blank-bytes = rw (encode_ascii 32 (lit< tt)) refl

pub trimmed-blank : (front : List ℕ) → IsUtf8 front → trimmed (front ++ 32 ∷ []) ≡ trimmed front
trimmed-blank front u =
    let split : chars (front ++ 32 ∷ []) ≡ chars front ++ 32 ∷ [] = chars-append front (32 ∷ []) u ∙ ap (λ (xs : List ℕ). chars front ++ xs) one-blank in
    ap encode_utf8_all (ap without_blanks split ∙ without_blanks-padded (chars front) 1)

-- characters have no blank at their end, or they do
ends : (cs : List ℕ) → (without_blanks cs ≡ cs) ⊎ ((ds : List ℕ) × (cs ≡ ds ++ 32 ∷ []))
unfolding without_blanks
ends [] = inl refl
ends (c ∷ cs) = elim (ends cs) [
  | inl e ↦ last c cs e
  | inr (ds, e) ↦ inr (c ∷ ds, ap (λ (xs : List ℕ). c ∷ xs) e)
]
  where
    one : (c : ℕ) (b : Bool) → (c == 32) ≡ b → (unless_blank c [] ≡ c ∷ []) ⊎ ((ds : List ℕ) × (c ∷ [] ≡ ds ++ 32 ∷ []))
    one c true h = inr ([], ap (λ (x : ℕ). x ∷ []) (eqb-true c 32 h))
    one c false h = inl (rw h refl)

    last : (c : ℕ) (cs : List ℕ) → without_blanks cs ≡ cs → (without_blanks (c ∷ cs) ≡ c ∷ cs) ⊎ ((ds : List ℕ) × (c ∷ cs ≡ ds ++ 32 ∷ []))
    last c [] e = one c (c == 32) refl
    last c (d ∷ cs) e = inl (rw e refl)

pub trimmed-none : (bytes : List ℕ) → IsUtf8 bytes → ((front : List ℕ) → bytes ≢ front ++ 32 ∷ []) → bytes ≡ trimmed bytes
trimmed-none bytes u h = elim (ends (chars bytes)) [
  | inl e ↦ sym (ap encode_utf8_all e ∙ encodes-chars bytes u)
  | inr (ds, e) ↦ absurd (h (encode_utf8_all ds) (sym (encodes-chars bytes u) ∙ ap encode_utf8_all e ∙ encodes-append ds (32 ∷ []) ∙ ap (λ (xs : List ℕ). encode_utf8_all ds ++ xs) one-blank-bytes))
]

-- the characters without the blanks at the end
scalars-kept : (cs : List ℕ) → scalars cs ≡ true → scalars (without_blanks cs) ≡ true
unfolding without_blanks
scalars-kept [] h = refl
scalars-kept (c ∷ cs) h = before c (without_blanks cs) (first_so (scalar c) (scalars cs) h) (scalars-kept cs (second_so (scalar c) (scalars cs) h))
  where
    before : (c : ℕ) (ds : List ℕ) → scalar c ≡ true → scalars ds ≡ true → scalars (unless_blank c ds) ≡ true
    before c [] h k = elim (cases_Bool (c == 32)) [ inl on ↦ rw on refl | inr off ↦ rw (off, h) refl ]
    before c (d ∷ ds) h k = rw h k

fewer : (cs : List ℕ) → length (without_blanks cs) ≤ length cs
unfolding without_blanks
fewer [] = omega arith
fewer (c ∷ cs) = before c (without_blanks cs) (fewer cs)
  where
    before : (c : ℕ) (ds : List ℕ) → length ds ≤ length cs → length (unless_blank c ds) ≤ length (c ∷ cs)
    before c [] h = elim (cases_Bool (c == 32)) [ inl on ↦ rw on (omega arith) | inr off ↦ rw off (omega arith) ]
    before c (d ∷ ds) h = omega arith

pub trimmed-count : (bytes : List ℕ) → IsUtf8 bytes → min (char_count (trimmed bytes)) (length bytes) ≡ length (without_blanks (chars bytes))
trimmed-count bytes u =
    let kept : char_count (trimmed bytes) ≡ length (without_blanks (chars bytes)) = ap length (chars-encodes (without_blanks (chars bytes)) (scalars-kept (chars bytes) (scalars-chars bytes u))) in
    let few = fewer (chars bytes) in
    let bound = chars-le bytes u in
    rw kept (omega (arith, few, bound))
