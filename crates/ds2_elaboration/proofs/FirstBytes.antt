-- Each token begins with an ASCII byte, so that its spelling has a character.
use Rattle.std.proofs.Common.{◌≡◌, ◌<◌, ◌≤◌, ◌+◌, ◌-◌, ◌*◌, ◌==◌, nat_lt, ℕ, zero, suc, inl, inr, Bool, true, false, not, ◌||◌, ◌&&◌, cond, bytes_eq, List, [], ◌∷◌, length, take, Option, Some, None, Result, Ok, Err, refl, sym, ap, ◌∙◌, subst, true≢false, arith}
use Rattle.std.specs.Prelude.{if◌then◌else◌, nat_le, slice_index}
use Rattle.std.specs.List.{list_all, list_any, prefix_len}
use Rattle.std.specs.Char.{is_ascii_digit}
use Rattle.std.specs.Str.{chars, chars_after, continuation_len, lead_bits}
use Rattle.std.proofs.lemmas.Bool.{and_parts, or_cases, eqb-true, ltb-true}
use Rattle.ds2_base.specs.Bytes.{Bytes}
use Rattle.ds2_token.specs.declared.kinds.LexKind.{LexKind}
use Rattle.ds2_token.specs.declared.kinds.LexKind.TheVariants.{DoubleConstant, OpenText, OpenComment}
use Rattle.ds2_token.specs.declared.kinds.TokenKind.{TokenKind}
use Rattle.ds2_token.specs.declared.kinds.TokenKind.TheVariants.{Word, Quoted, Text, Integer, Decimal, Mark}
use Rattle.ds2_token.specs.Forms.{is_word_letter, is_word_part, is_word_form, marks, is_mark_form, is_enclosed, between_quotes, holds_double_quote, is_paired, is_quoted_form, is_text_form, is_open_form, is_integer_form, past_digits, is_fraction, is_pointed_form, without_last, ends_in_n, is_decimal_form, is_open_comment, form_of}
use Rattle.ds2_elaboration.proofs.Orders.{same_bytes}

-- ---- characters of bytes

shorter : (n c : ℕ) (bs : List ℕ) → length (chars_after n c bs) ≤ length bs + 1
shorter zero c [] = omega arith
shorter zero c (b ∷ bs) = let r = shorter (continuation_len b) (lead_bits b) bs in omega (arith, r)
shorter (suc n) c [] = omega arith
shorter (suc n) c (b ∷ bs) = let r = shorter n (c * 64 + (b - 128)) bs in omega (arith, r)

-- there are no more characters than bytes
pub chars_are_fewer : (bs : List ℕ) → length (chars bs) ≤ length bs
unfolding chars
chars_are_fewer [] = omega arith
chars_are_fewer (b ∷ bs) = let r = shorter (continuation_len b) (lead_bits b) bs in omega (arith, r)

some_after : (n c : ℕ) (bs : List ℕ) → n ≡ zero → 0 < length (chars_after n c bs)
some_after zero c [] e = omega arith
some_after zero c (b ∷ bs) e = omega arith
some_after (suc n) c bs e = omega (arith, e)

-- an ASCII byte is a character
pub first_is_character : (b : ℕ) (bs : List ℕ) → b < 128 → 0 < length (chars (b ∷ bs))
unfolding chars
first_is_character b bs h = some_after (continuation_len b) (lead_bits b) bs (grind arith)

-- ---- first bytes of forms

letter : (c : ℕ) → is_word_letter c ≡ true → c < 128
letter c e = grind arith

digit : (c : ℕ) → is_ascii_digit c ≡ true → c < 128
digit c e = grind arith

word_first : (c : ℕ) (cs : List ℕ) → is_word_form (c ∷ cs) ≡ true → c < 128
word_first c cs e = letter c (and_parts (is_word_letter c) (list_all is_word_part cs) e).0

second_of_three : (a b c : Bool) → a && b && c ≡ true → b ≡ true
second_of_three true true c e = refl
second_of_three true false c e = absurd (true≢false (sym e))
second_of_three false b c e = absurd (true≢false (sym e))

enclosed_first : (quote c : ℕ) (cs : List ℕ) → quote < 128 → is_enclosed quote (c ∷ cs) ≡ true → c < 128
enclosed_first quote c cs h e =
    let tests = second_of_three (nat_le 2 (length (c ∷ cs))) (slice_index (c ∷ cs) 0 == quote) (slice_index (c ∷ cs) (length (c ∷ cs) - 1) == quote) e in
    let first : c ≡ quote = eqb-true c quote tests in
    omega (arith, first, h)

quoted_first : (c : ℕ) (cs : List ℕ) → is_quoted_form (c ∷ cs) ≡ true → c < 128
quoted_first c cs e = enclosed_first 34 c cs (omega arith) (and_parts (is_enclosed 34 (c ∷ cs)) (not (holds_double_quote (between_quotes (c ∷ cs)))) e).0

text_first : (c : ℕ) (cs : List ℕ) → is_text_form (c ∷ cs) ≡ true → c < 128
text_first c cs e = enclosed_first 39 c cs (omega arith) (and_parts (is_enclosed 39 (c ∷ cs)) (is_paired (between_quotes (c ∷ cs))) e).0

integer_first : (c : ℕ) (cs : List ℕ) → is_integer_form (c ∷ cs) ≡ true → c < 128
integer_first c cs e = digit c (and_parts (is_ascii_digit c) (list_all is_ascii_digit cs) e).0

-- what begins with no digit has no leading digits
led_if : (b : Bool) (n c : ℕ) (cs rest : List ℕ) → is_ascii_digit c ≡ b → is_integer_form (take (cond b n 0) (c ∷ cs)) && is_fraction rest ≡ true → c < 128
led_if true n c cs rest d e = digit c d
led_if false n c cs rest d e = absurd (true≢false (sym e))

pointed_first : (c : ℕ) (cs : List ℕ) → is_pointed_form (c ∷ cs) ≡ true → c < 128
pointed_first c cs e = led_if (is_ascii_digit c) (1 + prefix_len is_ascii_digit cs) c cs (past_digits (c ∷ cs)) refl e

number_first : (xs : List ℕ) (c : ℕ) (cs : List ℕ) → xs ≡ c ∷ cs → is_integer_form xs || is_pointed_form xs ≡ true → c < 128
number_first [] c cs h e = absurd (true≢false (sym e))
number_first (x ∷ xs) c cs h e =
    let whole : x ∷ xs ≡ c ∷ cs = h in
    let head : x ≡ c = cc in
    elim (or_cases (is_integer_form (x ∷ xs)) (is_pointed_form (x ∷ xs)) e) [
      | inl i ↦ subst (λ n. n < 128) head (integer_first x xs i)
      | inr p ↦ subst (λ n. n < 128) head (pointed_first x xs p)
    ]

taken_first : (n : ℕ) (c : ℕ) (cs : List ℕ) → n ≡ suc (n - 1) → take n (c ∷ cs) ≡ c ∷ take (n - 1) cs
taken_first n c cs e = ap (λ k. take k (c ∷ cs)) e

no_number : (xs : List ℕ) → xs ≡ [] → is_integer_form xs || is_pointed_form xs ≡ true → ⊥
no_number [] h e = true≢false (sym e)
no_number (x ∷ xs) h e = cc

decimal_first : (c : ℕ) (cs : List ℕ) → is_decimal_form (c ∷ cs) ≡ true → c < 128
decimal_first c [] e =
    let none : length (c ∷ []) - 1 ≡ 0 = omega arith in
    absurd (no_number (without_last (c ∷ [])) (ap (λ k. take k (c ∷ [])) none) (and_parts (ends_in_n (c ∷ [])) (is_integer_form (without_last (c ∷ [])) || is_pointed_form (without_last (c ∷ []))) e).1)
decimal_first c (d ∷ ds) e =
    number_first (without_last (c ∷ d ∷ ds)) c (take (length (c ∷ d ∷ ds) - 1 - 1) (d ∷ ds)) (taken_first (length (c ∷ d ∷ ds) - 1) c (d ∷ ds) (omega arith))
    (and_parts (ends_in_n (c ∷ d ∷ ds)) (is_integer_form (without_last (c ∷ d ∷ ds)) || is_pointed_form (without_last (c ∷ d ∷ ds))) e).1

-- a mark begins with an ASCII byte
abbrev is_ascii_first : List ℕ → Bool
is_ascii_first [] = true
is_ascii_first (c ∷ cs) = nat_lt c 128

of_marks : (known : List (List ℕ)) (c : ℕ) (cs : List ℕ) → list_all is_ascii_first known ≡ true → list_any (λ mark. bytes_eq mark (c ∷ cs)) known ≡ true → c < 128
of_marks [] c cs f e = absurd (true≢false (sym e))
of_marks (m ∷ known) c cs f e =
    let parts = and_parts (is_ascii_first m) (list_all is_ascii_first known) f in
    elim (or_cases (bytes_eq m (c ∷ cs)) (list_any (λ mark. bytes_eq mark (c ∷ cs)) known) e) [
      | inl here ↦ ltb-true c 128 (sym (ap is_ascii_first (same_bytes m (c ∷ cs) here)) ∙ parts.0)
      | inr later ↦ of_marks known c cs parts.1 later
    ]

mark_first : (c : ℕ) (cs : List ℕ) → is_mark_form (c ∷ cs) ≡ true → c < 128
mark_first c cs e = of_marks marks c cs refl e

-- ---- tokens

refused_form : (fault : LexKind) (kind : TokenKind) → Some (Err fault) ≡ Some (Ok kind) → ⊥
refused_form fault kind e = cc

abbrev formed : TokenKind → Option (Result TokenKind LexKind)
formed kind = Some (Ok kind)

no_form : (kind : TokenKind) → None ≡ formed kind → ⊥
no_form kind e = cc

by_form : (P : Type 0) (w q t i d m p o c : Bool) (kind : TokenKind)
    → (if w then Some (Ok Word) else (if q then Some (Ok Quoted) else (if t then Some (Ok Text) else (if i then Some (Ok Integer) else (if d then Some (Ok Decimal)
    else (if m then Some (Ok Mark) else (if p then Some (Err DoubleConstant) else (if o then Some (Err OpenText) else (if c then Some (Err OpenComment) else None)))))))))
    ≡ Some (Ok kind)
    → (w ≡ true → P) → (q ≡ true → P) → (t ≡ true → P) → (i ≡ true → P) → (d ≡ true → P) → (m ≡ true → P) → P
by_form P true q t i d m p o c kind e fw fq ft fi fd fm = fw refl
by_form P false true t i d m p o c kind e fw fq ft fi fd fm = fq refl
by_form P false false true i d m p o c kind e fw fq ft fi fd fm = ft refl
by_form P false false false true d m p o c kind e fw fq ft fi fd fm = fi refl
by_form P false false false false true m p o c kind e fw fq ft fi fd fm = fd refl
by_form P false false false false false true p o c kind e fw fq ft fi fd fm = fm refl
by_form P false false false false false false true o c kind e fw fq ft fi fd fm = absurd (refused_form DoubleConstant kind e)
by_form P false false false false false false false true c kind e fw fq ft fi fd fm = absurd (refused_form OpenText kind e)
by_form P false false false false false false false false true kind e fw fq ft fi fd fm = absurd (refused_form OpenComment kind e)
by_form P false false false false false false false false false kind e fw fq ft fi fd fm = absurd (no_form kind e)

-- the spelling of a token has a character
pub spelling_has_character : (s : Bytes) (kind : TokenKind) → form_of s ≡ Some (Ok kind) → 0 < length (chars s)
spelling_has_character [] kind e = absurd (no_form kind e)
spelling_has_character (c ∷ cs) kind e =
    first_is_character c cs
    (by_form (c < 128) (is_word_form (c ∷ cs)) (is_quoted_form (c ∷ cs)) (is_text_form (c ∷ cs)) (is_integer_form (c ∷ cs)) (is_decimal_form (c ∷ cs)) (is_mark_form (c ∷ cs))
    (is_pointed_form (c ∷ cs)) (is_open_form (c ∷ cs)) (is_open_comment (c ∷ cs)) kind e
    (word_first c cs) (quoted_first c cs) (text_first c cs) (integer_first c cs) (decimal_first c cs) (mark_first c cs))
