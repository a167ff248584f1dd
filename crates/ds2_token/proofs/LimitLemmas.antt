-- What stands between the quotes of a text is a text, also with one quote for each pair.
use Rattle.std.proofs.Common.{◌≡◌, ◌≢◌, ℕ, zero, suc, ◌-◌, ◌<◌, ◌≤◌, Bool, true, false, ◌&&◌, ◌==◌, List, [], ◌∷◌, ◌++◌, length, take, drop, get_or, refl, sym, ap, ◌∙◌, subst, arith, Some, None, nat_le}
use Rattle.std.specs.Str.{IsUtf8, chars}
use Rattle.std.proofs.Math.Utf8.{encode, encodes, scalar, scalars}
use Rattle.std.proofs.lemmas.Str.{IsUtf8-between, IsUtf8-append, IsUtf8-encode, IsUtf8-nil, IsCharBoundary-after_ascii, IsCharBoundary-before_ascii, inside_one, encodes-chars, length-le-encodes, encode_ascii, char_from_byte, is_utf8-from_IsUtf8}
use Rattle.std.proofs.lemmas.List.{append-nil}
use Rattle.std.proofs.lemmas.Bool.Decides.{nat_tests}
use Rattle.ds2_base.specs.Bytes.{Bytes}
use Rattle.ds2_base.specs.Characters.{char_count}
use Rattle.ds2_base.specs.Text.{text_of}
use Rattle.ds2_token.specs.declared.kinds.LexKind.TheVariants.{TextTooLong}
use Rattle.ds2_token.specs.Forms.{between_quotes, is_paired, is_enclosed, is_quoted_form, is_text_form}
use Rattle.ds2_token.specs.Limits.{undoubled, text_content, unless}

both : (a b : Bool) → (a && b) ≡ true → (a ≡ true) × (b ≡ true)
both true b h = (refl, h)
both false b h = absurd (grind (arith, nat_tests))

pub between_text : (quote : ℕ) (s : Bytes) → IsUtf8 s → is_enclosed quote s ≡ true → quote < 128 → IsUtf8 (between_quotes s)
between_text quote s utf8 enclosed small =
    let two : 2 ≤ length s = grind (arith, nat_tests) in
    let first : get_or s 0 0 ≡ quote = grind (arith, nat_tests) in
    let last : get_or s (length s - 1) 0 ≡ quote = grind (arith, nat_tests) in
    let begins = IsCharBoundary-after_ascii s 0 utf8 (omega arith) (omega arith) in
    let ends = IsCharBoundary-before_ascii s (length s - 1) (omega arith) (omega arith) in
    let P : ℕ → Type 0 = λ n. IsUtf8 (take n (drop 1 s)) in
    let e : length s - 1 - 1 ≡ length s - 2 = omega arith in
    subst P e (IsUtf8-between s 1 (length s - 1) utf8 (omega arith) begins ends)

pub quoted_text : (s : Bytes) → IsUtf8 s → is_quoted_form s ≡ true → IsUtf8 (between_quotes s)
quoted_text s utf8 form = between_text 34 s utf8 (both _ _ form).0 (omega arith)

-- a byte that is no quote stays
undoubled_other : (c : ℕ) (xs : Bytes) → (c == 39) ≡ false → undoubled (c ∷ xs) ≡ c ∷ undoubled xs
undoubled_other c [] other = refl
undoubled_other c (d ∷ ds) other = rw other refl

paired_other : (c : ℕ) (xs : Bytes) → (c == 39) ≡ false → is_paired (c ∷ xs) ≡ is_paired xs
paired_other c [] other = rw other refl
paired_other c (d ∷ ds) other = rw other refl

-- no byte is a quote
abbrev HoldsNoQuote : Bytes → Type 0
HoldsNoQuote front = (k : ℕ) → k < length front → get_or front k 0 ≢ 39

other_first : (c : ℕ) (cs : Bytes) → HoldsNoQuote (c ∷ cs) → (c == 39) ≡ false
other_first c cs h = let n : c ≢ 39 = h zero (omega arith) in grind (arith, nat_tests)

undoubled_front : (front xs : Bytes) → HoldsNoQuote front → undoubled (front ++ xs) ≡ front ++ undoubled xs
undoubled_front [] xs h = refl
undoubled_front (c ∷ cs) xs h =
    undoubled_other c (cs ++ xs) (other_first c cs h) ∙ ap (λ (ys : Bytes). c ∷ ys) (undoubled_front cs xs (λ k within. h (suc k) (omega arith)))

paired_front : (front xs : Bytes) → HoldsNoQuote front → is_paired (front ++ xs) ≡ is_paired xs
paired_front [] xs h = refl
paired_front (c ∷ cs) xs h = paired_other c (cs ++ xs) (other_first c cs h) ∙ paired_front cs xs (λ k within. h (suc k) (omega arith))

-- the bytes of another character hold none
no_quote : (c : ℕ) → (c == 39) ≡ false → HoldsNoQuote (encode c)
no_quote c other k within is =
    let e : encode c ≡ encode c ++ [] = sym (append-nil (encode c)) in
    let same : c ≡ get_or (encode c) k 0 = inside_one c [] (encode c) k e within (omega (arith, is)) in
    let c39 : c ≡ 39 = same ∙ is in
    grind (arith, nat_tests)

other_case : (c : ℕ) (cs : List ℕ) → (c == 39) ≡ false → scalar c ≡ true → is_paired (encodes (c ∷ cs)) ≡ true
    → (is_paired (encodes cs) ≡ true → IsUtf8 (undoubled (encodes cs))) → IsUtf8 (undoubled (encodes (c ∷ cs)))
other_case c cs other s p rest =
    let n = no_quote c other in
    let P : Bytes → Type 0 = λ bs. IsUtf8 bs in
    subst P (sym (undoubled_front (encode c) (encodes cs) n))
    (IsUtf8-append (encode c) (undoubled (encodes cs)) (IsUtf8-encode c s) (rest (sym (paired_front (encode c) (encodes cs) n) ∙ p)))

-- behind a quote stands the other one of its pair
paired_next : (ys : Bytes) → is_paired (39 ∷ ys) ≡ true → (zs : Bytes) × (ys ≡ 39 ∷ zs) × (is_paired zs ≡ true)
paired_next [] p = absurd (grind (arith, nat_tests))
paired_next (y ∷ zs) p =
    let b = both (y == 39) (is_paired zs) p in
    let e : y ≡ 39 = grind (arith, nat_tests) in
    (zs, ap (λ (x : ℕ). x ∷ zs) e, b.1)

quote_encodes : (cs : List ℕ) → encodes (39 ∷ cs) ≡ 39 ∷ encodes cs
quote_encodes cs = ap (λ (front : Bytes). front ++ encodes cs) (encode_ascii 39 (omega arith))

-- so it is the next character
next_is_quote : (d : ℕ) (ds : List ℕ) (zs : Bytes) → encodes (d ∷ ds) ≡ 39 ∷ zs → zs ≡ encodes ds
next_is_quote d ds zs e =
    let first : get_or (encodes (d ∷ ds)) 0 0 ≡ 39 = ap (λ (bs : Bytes). get_or bs 0 0) e in
    let some : length (encodes (d ∷ ds)) ≡ suc (length zs) = ap (λ (bs : Bytes). length bs) e in
    let d39 : d ≡ 39 = char_from_byte (encodes (d ∷ ds)) (encodes ds) d refl (omega arith) (omega arith) ∙ first in
    let whole : 39 ∷ encodes ds ≡ 39 ∷ zs = sym (quote_encodes ds) ∙ ap (λ (c : ℕ). encodes (c ∷ ds)) (sym d39) ∙ e in
    sym (ap (λ (bs : Bytes). drop 1 bs) whole)

quote_case : (cs : List ℕ) → is_paired (39 ∷ encodes cs) ≡ true
    → (is_paired (encodes (drop 1 cs)) ≡ true → IsUtf8 (undoubled (encodes (drop 1 cs)))) → IsUtf8 (undoubled (39 ∷ encodes cs))
quote_case [] p rest = absurd (grind (arith, nat_tests))
quote_case (d ∷ ds) p rest =
    let next = paired_next (encodes (d ∷ ds)) p in
    let e = next_is_quote d ds next.0 next.1 in
    let P : Bytes → Type 0 = λ bs. IsUtf8 (undoubled (39 ∷ bs)) in
    let Q : Bytes → Type 0 = λ bs. is_paired bs ≡ true in
    let R : Bytes → Type 0 = λ bs. IsUtf8 bs in
    let left : IsUtf8 (undoubled next.0) = subst (λ (bs : Bytes). IsUtf8 (undoubled bs)) (sym e) (rest (subst Q e next.2)) in
    let quote : IsUtf8 (39 ∷ []) = subst R (encode_ascii 39 (omega arith)) (IsUtf8-encode 39 refl) in
    subst P (sym next.1) (IsUtf8-append (39 ∷ []) (undoubled next.0) quote left)

either_case : (b : Bool) (c : ℕ) (cs : List ℕ) → (c == 39) ≡ b → scalar c ≡ true → is_paired (encodes (c ∷ cs)) ≡ true
    → (is_paired (encodes cs) ≡ true → IsUtf8 (undoubled (encodes cs)))
    → (is_paired (encodes (drop 1 cs)) ≡ true → IsUtf8 (undoubled (encodes (drop 1 cs)))) → IsUtf8 (undoubled (encodes (c ∷ cs)))
either_case false c cs is s p rest tail = other_case c cs is s p rest
either_case true c cs is s p rest tail =
    let c39 : c ≡ 39 = grind (arith, nat_tests) in
    let e : encodes (c ∷ cs) ≡ 39 ∷ encodes cs = ap (λ (x : ℕ). encodes (x ∷ cs)) c39 ∙ quote_encodes cs in
    let P : Bytes → Type 0 = λ bs. IsUtf8 (undoubled bs) in
    let Q : Bytes → Type 0 = λ bs. is_paired bs ≡ true in
    subst P (sym e) (quote_case cs (subst Q e p) tail)

undoubled_chars : (cs : List ℕ) → scalars cs ≡ true → is_paired (encodes cs) ≡ true → IsUtf8 (undoubled (encodes cs))
undoubled_chars [] s p = IsUtf8-nil
undoubled_chars (c ∷ []) s p = either_case (c == 39) c [] refl (both _ _ s).0 p (λ _. IsUtf8-nil) (λ _. IsUtf8-nil)
undoubled_chars (c ∷ d ∷ ds) s p =
    let first = both (scalar c) (scalars (d ∷ ds)) s in
    either_case (c == 39) c (d ∷ ds) refl first.0 p (undoubled_chars (d ∷ ds) first.1) (undoubled_chars ds (both (scalar d) (scalars ds) first.1).1)

pub undoubled_text : (bs : Bytes) → IsUtf8 bs → is_paired bs ≡ true → IsUtf8 (undoubled bs)
undoubled_text bs utf8 p =
    let P : Bytes → Type 0 = λ xs. IsUtf8 (undoubled xs) in
    let Q : Bytes → Type 0 = λ xs. is_paired xs ≡ true in
    subst P utf8.1.1 (undoubled_chars utf8.0 utf8.1.0 (subst Q (sym utf8.1.1) p))

-- the content of a text constant is a text
pub content_text : (s : Bytes) → IsUtf8 s → is_text_form s ≡ true → IsUtf8 (text_content s)
content_text s utf8 form =
    let parts = both (is_enclosed 39 s) (is_paired (between_quotes s)) form in
    undoubled_text (between_quotes s) (between_text 39 s utf8 parts.0 (omega arith)) parts.1

undoubled_le_at : (b : Bool) (c d : ℕ) (cs : Bytes) → (c == 39) ≡ b → length (undoubled cs) ≤ length cs → length (undoubled (d ∷ cs)) ≤ length (d ∷ cs)
    → length (undoubled (c ∷ d ∷ cs)) ≤ length (c ∷ d ∷ cs)
undoubled_le_at true c d cs is tail rest = rw is (omega arith)
undoubled_le_at false c d cs is tail rest = rw is (omega arith)

undoubled_le : (bs : Bytes) → length (undoubled bs) ≤ length bs
undoubled_le [] = omega arith
undoubled_le (c ∷ []) = omega arith
undoubled_le (c ∷ d ∷ cs) = undoubled_le_at (c == 39) c d cs refl (undoubled_le cs) (undoubled_le (d ∷ cs))

-- and has at most as many characters as there are bytes between the quotes
content_le : (s : Bytes) → IsUtf8 s → is_text_form s ≡ true → char_count (text_content s) ≤ length (between_quotes s)
content_le s utf8 form =
    let u = content_text s utf8 form in
    omega (arith, length-le-encodes (chars (text_content s)), ap (λ (bs : Bytes). length bs) (encodes-chars (text_content s) u), undoubled_le (between_quotes s))

within_limit : (n : ℕ) → n ≤ 1024 → None ≡ unless (nat_le n 1024) TextTooLong
within_limit n h = grind (arith, nat_tests)

pub content_short : (s : Bytes) → IsUtf8 s → is_text_form s ≡ true → length (between_quotes s) ≤ 1024 → None ≡ unless (nat_le (char_count (text_content s)) 1024) TextTooLong
content_short s utf8 form short = let h : char_count (text_content s) ≤ 1024 = omega (arith, content_le s utf8 form) in within_limit _ h

-- so the content is never no text
text_of_text : (bs : Bytes) → IsUtf8 bs → text_of bs ≡ Some bs
text_of_text bs utf8 = rw (is_utf8-from_IsUtf8 bs utf8) refl

pub content_is_text : (s content : Bytes) → IsUtf8 s → is_text_form s ≡ true → content ≡ text_content s → text_of content ≡ None → ⊥
content_is_text s content utf8 form is none =
    let e : Some (text_content s) ≡ None = sym (text_of_text (text_content s) (content_text s utf8 form)) ∙ ap (λ (bs : Bytes). text_of bs) (sym is) ∙ none in
    grind (arith, e)
