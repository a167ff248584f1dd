-- Which forms begin with which byte.
use Rattle.std.proofs.Common.{◌≡◌, ℕ, ◌+◌, ◌-◌, ◌<◌, ◌≤◌, ◌⊎◌, inl, inr, Bool, true, false, cond, ◌&&◌, ◌||◌, not, List, [], ◌∷◌, length, take, drop, Option, Some, None, Result, Ok, Err, refl, sym, ap, ◌∙◌, arith, ltb}
use Rattle.std.specs.Prelude.{◌==◌, nat_le, nat_lt, codes, slice_index}
use Rattle.std.specs.List.{list_all, list_any, prefix_len}
use Rattle.std.specs.Char.{is_ascii_digit}
use Rattle.std.specs.Str.{bytes_eq}
use Rattle.std.proofs.lemmas.Bool.{and_parts, or_cases, eqb-true, cases_Bool, cond-true, cond-false, false_from_ne_true, ltb-true}
use Rattle.std.proofs.lemmas.Bool.Decides.{nat_tests}
use Rattle.ds2_base.specs.Bytes.{Bytes}
use Rattle.ds2_token.specs.declared.kinds.TokenKind.{TokenKind}
use Rattle.ds2_token.specs.declared.kinds.TokenKind.TheVariants.{Word, Quoted, Text, Integer, Decimal, Mark}
use Rattle.ds2_token.specs.declared.kinds.LexKind.{LexKind}
use Rattle.ds2_token.specs.declared.kinds.LexKind.TheVariants.{DoubleConstant, OpenText, OpenComment}
use Rattle.ds2_token.specs.Forms.{is_word_letter, is_word_part, is_word_form, marks, is_mark_form, is_enclosed, between_quotes, holds_double_quote, is_paired, is_quoted_form, is_text_form, is_open_form, is_integer_form, leading_digits, past_digits, is_fraction, is_pointed_form, without_last, ends_in_n, is_decimal_form, opens_comment, holds_comment_end, is_open_comment, form_of}
use Rattle.ds2_token.specs.Scan.{is_mark_byte, is_mark_pair}
use Rattle.ds2_token.proofs.Pieces.{clash, same_bytes}

-- ---- classes of bytes

-- 0 a letter or `_`, 1 a digit, 2 a double quote, 3 a single quote, 4 the first byte of a mark, 5 any other byte
unfoldable pub class_of : ℕ → ℕ
class_of c =
    cond (is_word_letter c) 0 (cond (is_ascii_digit c) 1 (cond (c == 34) 2 (cond (c == 39) 3 (cond (is_mark_byte c) 4 5))))

pub letter_class : (c : ℕ) → is_word_letter c ≡ true → class_of c ≡ 0
unfolding class_of
letter_class c e = cond-true (is_word_letter c) 0 _ e

not_letter : (c : ℕ) → is_ascii_digit c ≡ true → is_word_letter c ≡ false
not_letter c e = grind (arith, nat_tests)

pub digit_class : (c : ℕ) → is_ascii_digit c ≡ true → class_of c ≡ 1
unfolding class_of
digit_class c e = cond-false (is_word_letter c) 0 _ (not_letter c e) ∙ cond-true (is_ascii_digit c) 1 _ e

pub double_class : (c : ℕ) → c ≡ 34 → class_of c ≡ 2
unfolding class_of
double_class c e = ap class_of e

pub single_class : (c : ℕ) → c ≡ 39 → class_of c ≡ 3
unfolding class_of
single_class c e = ap class_of e

-- what holds of the first byte of each mark holds of each
or_eq : (p : ℕ → Bool) (c m : ℕ) (b : Bool) → (b ≡ true → p c ≡ true) → p m ≡ true → (b || c == m) ≡ true → p c ≡ true
or_eq p c m b before here e =
    elim (or_cases b (c == m) e) [
      | inl f ↦ before f
      | inr f ↦ ap p (eqb-true c m f) ∙ here
    ]

is_eq : (p : ℕ → Bool) (c m : ℕ) → p m ≡ true → (c == m) ≡ true → p c ≡ true
is_eq p c m here e = ap p (eqb-true c m e) ∙ here

abbrev is_class_four : ℕ → Bool
is_class_four c = class_of c == 4

pub sign_class : (c : ℕ) → is_mark_byte c ≡ true → class_of c ≡ 4
unfolding class_of
sign_class c e = eqb-true (class_of c) 4 (
    or_eq is_class_four c 46 _ (or_eq is_class_four c 126 _ (or_eq is_class_four c 94 _ (or_eq is_class_four c 124 _ (or_eq is_class_four c 38 _
    (or_eq is_class_four c 47 _ (or_eq is_class_four c 42 _ (or_eq is_class_four c 45 _ (or_eq is_class_four c 43 _ (or_eq is_class_four c 62 _
    (or_eq is_class_four c 60 _ (or_eq is_class_four c 61 _ (or_eq is_class_four c 93 _ (or_eq is_class_four c 91 _ (or_eq is_class_four c 41 _
    (or_eq is_class_four c 40 _ (or_eq is_class_four c 44 _ (is_eq is_class_four c 59 refl)
    refl) refl) refl) refl) refl) refl) refl) refl) refl) refl) refl) refl) refl) refl) refl) refl) refl e)

abbrev is_single_mark : ℕ → Bool
is_single_mark c = is_mark_form (c ∷ [])

-- each such byte alone is a mark
pub mark_byte_form : (c : ℕ) → is_mark_byte c ≡ true → is_mark_form (c ∷ []) ≡ true
mark_byte_form c e =
    or_eq is_single_mark c 46 _ (or_eq is_single_mark c 126 _ (or_eq is_single_mark c 94 _ (or_eq is_single_mark c 124 _ (or_eq is_single_mark c 38 _
    (or_eq is_single_mark c 47 _ (or_eq is_single_mark c 42 _ (or_eq is_single_mark c 45 _ (or_eq is_single_mark c 43 _ (or_eq is_single_mark c 62 _
    (or_eq is_single_mark c 60 _ (or_eq is_single_mark c 61 _ (or_eq is_single_mark c 93 _ (or_eq is_single_mark c 91 _ (or_eq is_single_mark c 41 _
    (or_eq is_single_mark c 40 _ (or_eq is_single_mark c 44 _ (is_eq is_single_mark c 59 refl)
    refl) refl) refl) refl) refl) refl) refl) refl) refl) refl) refl) refl) refl) refl) refl) refl) refl e

-- and each is ASCII
abbrev is_ascii_byte : ℕ → Bool
is_ascii_byte c = nat_lt c 128

pub mark_byte_ascii : (c : ℕ) → is_mark_byte c ≡ true → c < 128
mark_byte_ascii c e = ltb-true c 128 (
    or_eq is_ascii_byte c 46 _ (or_eq is_ascii_byte c 126 _ (or_eq is_ascii_byte c 94 _ (or_eq is_ascii_byte c 124 _ (or_eq is_ascii_byte c 38 _
    (or_eq is_ascii_byte c 47 _ (or_eq is_ascii_byte c 42 _ (or_eq is_ascii_byte c 45 _ (or_eq is_ascii_byte c 43 _ (or_eq is_ascii_byte c 62 _
    (or_eq is_ascii_byte c 60 _ (or_eq is_ascii_byte c 61 _ (or_eq is_ascii_byte c 93 _ (or_eq is_ascii_byte c 91 _ (or_eq is_ascii_byte c 41 _
    (or_eq is_ascii_byte c 40 _ (or_eq is_ascii_byte c 44 _ (is_eq is_ascii_byte c 59 refl)
    refl) refl) refl) refl) refl) refl) refl) refl) refl) refl) refl) refl) refl) refl) refl) refl) refl e)

-- what holds of each mark holds of a spelling that is one
any_all : (p : Bytes → Bool) (ms : List Bytes) (s : Bytes) → list_all p ms ≡ true → list_any (λ m. bytes_eq m s) ms ≡ true → p s ≡ true
any_all p [] s all any = clash any
any_all p (m ∷ ms) s all any =
    let parts = and_parts (p m) (list_all p ms) all in
    elim (or_cases (bytes_eq m s) (list_any (λ m. bytes_eq m s) ms) any) [
      | inl e ↦ ap p (sym (same_bytes m s e)) ∙ parts.0
      | inr e ↦ any_all p ms s parts.1 e
    ]

-- a byte of a mark first, and the two bytes of a mark
abbrev pub is_mark_shape : Bytes → Bool
is_mark_shape [] = false
is_mark_shape (c ∷ []) = is_mark_byte c
is_mark_shape (c ∷ d ∷ []) = is_mark_byte c && is_mark_pair c d
is_mark_shape (c ∷ d ∷ e ∷ cs) = false

pub mark_shape : (s : Bytes) → is_mark_form s ≡ true → is_mark_shape s ≡ true
mark_shape s e = any_all is_mark_shape marks s refl e

-- ---- the class of a form's first byte

pub word_head : (c : ℕ) (cs : Bytes) → is_word_form (c ∷ cs) ≡ true → class_of c ≡ 0
word_head c cs e = letter_class c (and_parts (is_word_letter c) (list_all is_word_part cs) e).0

enclosed_head : (q c : ℕ) (cs : Bytes) → is_enclosed q (c ∷ cs) ≡ true → c ≡ q
enclosed_head q c cs e =
    let one = and_parts (nat_le 2 (length (c ∷ cs)) && c == q) (slice_index (c ∷ cs) (length (c ∷ cs) - 1) == q) e in
    eqb-true c q (and_parts (nat_le 2 (length (c ∷ cs))) (c == q) one.0).1

pub quoted_head : (c : ℕ) (cs : Bytes) → is_quoted_form (c ∷ cs) ≡ true → class_of c ≡ 2
quoted_head c cs e =
    double_class c (enclosed_head 34 c cs (and_parts (is_enclosed 34 (c ∷ cs)) (not (holds_double_quote (between_quotes (c ∷ cs)))) e).0)

pub text_head : (c : ℕ) (cs : Bytes) → is_text_form (c ∷ cs) ≡ true → class_of c ≡ 3
text_head c cs e = single_class c (enclosed_head 39 c cs (and_parts (is_enclosed 39 (c ∷ cs)) (is_paired (between_quotes (c ∷ cs))) e).0)

pub integer_head : (c : ℕ) (cs : Bytes) → is_integer_form (c ∷ cs) ≡ true → class_of c ≡ 1
integer_head c cs e = digit_class c (and_parts (is_ascii_digit c) (list_all is_ascii_digit cs) e).0

no_leading : (c : ℕ) (cs : Bytes) → is_ascii_digit c ≡ false → is_integer_form (leading_digits (c ∷ cs)) ≡ false
no_leading c cs e = ap (λ (n : ℕ). is_integer_form (take n (c ∷ cs))) (cond-false (is_ascii_digit c) (1 + prefix_len is_ascii_digit cs) 0 e)

pub pointed_head : (c : ℕ) (cs : Bytes) → is_pointed_form (c ∷ cs) ≡ true → class_of c ≡ 1
pointed_head c cs e =
    elim (cases_Bool (is_ascii_digit c)) [
      | inl f ↦ digit_class c f
      | inr f ↦ clash (sym (no_leading c cs f) ∙ (and_parts (is_integer_form (leading_digits (c ∷ cs))) (is_fraction (past_digits (c ∷ cs))) e).0)
    ]

last_less : (c : ℕ) (cs : Bytes) → without_last (c ∷ cs) ≡ take (length cs) (c ∷ cs)
last_less c cs = ap (λ (n : ℕ). take n (c ∷ cs)) (omega arith)

number_head : (c : ℕ) (cs : Bytes) → (is_integer_form (take (length cs) (c ∷ cs)) || is_pointed_form (take (length cs) (c ∷ cs))) ≡ true → class_of c ≡ 1
number_head c [] e = clash e
number_head c (d ∷ ds) e =
    elim (or_cases (is_integer_form (c ∷ take (length ds) (d ∷ ds))) (is_pointed_form (c ∷ take (length ds) (d ∷ ds))) e) [
      | inl f ↦ integer_head c (take (length ds) (d ∷ ds)) f
      | inr f ↦ pointed_head c (take (length ds) (d ∷ ds)) f
    ]

pub decimal_head : (c : ℕ) (cs : Bytes) → is_decimal_form (c ∷ cs) ≡ true → class_of c ≡ 1
decimal_head c cs e =
    let parts = and_parts (ends_in_n (c ∷ cs)) (is_integer_form (without_last (c ∷ cs)) || is_pointed_form (without_last (c ∷ cs))) e in
    number_head c cs (ap (λ (xs : Bytes). is_integer_form xs || is_pointed_form xs) (sym (last_less c cs)) ∙ parts.1)

pub shape_head : (c : ℕ) (cs : Bytes) → is_mark_shape (c ∷ cs) ≡ true → is_mark_byte c ≡ true
shape_head c [] e = e
shape_head c (d ∷ []) e = (and_parts (is_mark_byte c) (is_mark_pair c d) e).0
shape_head c (d ∷ f ∷ cs) e = clash e

pub mark_head : (c : ℕ) (cs : Bytes) → is_mark_form (c ∷ cs) ≡ true → class_of c ≡ 4
mark_head c cs e = sign_class c (shape_head c cs (mark_shape (c ∷ cs) e))

pub open_head : (c : ℕ) (cs : Bytes) → is_open_form (c ∷ cs) ≡ true → (class_of c ≡ 2) ⊎ (class_of c ≡ 3)
open_head c cs e =
    elim (or_cases (c == 34 && not (holds_double_quote cs)) (c == 39 && is_paired cs) e) [
      | inl f ↦ inl (double_class c (eqb-true c 34 (and_parts (c == 34) (not (holds_double_quote cs)) f).0))
      | inr f ↦ inr (single_class c (eqb-true c 39 (and_parts (c == 39) (is_paired cs) f).0))
    ]

slash_class : (c : ℕ) → c ≡ 47 → class_of c ≡ 4
unfolding class_of
slash_class c e = ap class_of e

comment_first : (c : ℕ) (cs : Bytes) → c ∷ cs ≡ 47 ∷ 42 ∷ [] → c ≡ 47
comment_first c cs e = cc

pub comment_head : (c : ℕ) (cs : Bytes) → is_open_comment (c ∷ cs) ≡ true → class_of c ≡ 4
comment_head c cs e =
    let opens : bytes_eq (c ∷ take 1 cs) (codes "/*") ≡ true = (and_parts (opens_comment (c ∷ cs)) (not (holds_comment_end (drop 2 (c ∷ cs)))) e).0 in
    slash_class c (comment_first c (take 1 cs) (same_bytes (c ∷ take 1 cs) (codes "/*") opens))

-- ---- the form of a spelling

pub data FormIs (s : Bytes) (form : Result TokenKind LexKind) : Type 0 where
  is_word : is_word_form s ≡ true → FormIs s form
  is_quoted : is_quoted_form s ≡ true → FormIs s form
  is_text : is_text_form s ≡ true → FormIs s form
  is_integer : is_integer_form s ≡ true → FormIs s form
  is_decimal : is_decimal_form s ≡ true → FormIs s form
  is_mark : is_mark_form s ≡ true → FormIs s form
  is_pointed : is_pointed_form s ≡ true → FormIs s form
  is_open : is_open_form s ≡ true → FormIs s form
  is_comment_open : is_open_comment s ≡ true → FormIs s form

abbrev Form : Type 0
Form = Option (Result TokenKind LexKind)

pick : (b : Bool) (x rest : Form) (form : Result TokenKind LexKind) → cond b x rest ≡ Some form → (b ≡ true) ⊎ (rest ≡ Some form)
pick true x rest form e = inl refl
pick false x rest form e = inr e

never : (form : Result TokenKind LexKind) → None ≡ Some form → ⊥
never form e = cc

pub form_cases : (s : Bytes) (form : Result TokenKind LexKind) → form_of s ≡ Some form → FormIs s form
form_cases s form e =
    elim (pick (is_word_form s) _ _ form e) [
      | inl f ↦ is_word f
      | inr e1 ↦
          elim (pick (is_quoted_form s) _ _ form e1) [
            | inl f ↦ is_quoted f
            | inr e2 ↦
                elim (pick (is_text_form s) _ _ form e2) [
                  | inl f ↦ is_text f
                  | inr e3 ↦
                      elim (pick (is_integer_form s) _ _ form e3) [
                        | inl f ↦ is_integer f
                        | inr e4 ↦
                            elim (pick (is_decimal_form s) _ _ form e4) [
                              | inl f ↦ is_decimal f
                              | inr e5 ↦
                                  elim (pick (is_mark_form s) _ _ form e5) [
                                    | inl f ↦ is_mark f
                                    | inr e6 ↦
                                        elim (pick (is_pointed_form s) _ _ form e6) [
                                          | inl f ↦ is_pointed f
                                          | inr e7 ↦
                                              elim (pick (is_open_form s) _ _ form e7) [
                                                | inl f ↦ is_open f
                                                | inr e8 ↦
                                                    elim (pick (is_open_comment s) _ _ form e8) [ inl f ↦ is_comment_open f | inr e9 ↦ absurd (never form e9) ]
                                              ]
                                        ]
                                  ]
                            ]
                      ]
                ]
          ]
    ]

-- which forms begin with a byte of a class
class_clash : {A : Type 0} (n m k : ℕ) → n ≡ m → n ≡ k → ltb m k || ltb k m ≡ true → A
class_clash n m k e f g = absurd (grind (arith, nat_tests))

open_clash : {A : Type 0} (c k : ℕ) → class_of c ≡ k → (ltb 3 k || ltb k 2) ≡ true → (class_of c ≡ 2) ⊎ (class_of c ≡ 3) → A
open_clash c k is out (inl e) = absurd (grind (arith, nat_tests))
open_clash c k is out (inr e) = absurd (grind (arith, nat_tests))

at_letter_of : (c : ℕ) (cs : Bytes) (form : Result TokenKind LexKind) → class_of c ≡ 0 → FormIs (c ∷ cs) form → is_word_form (c ∷ cs) ≡ true
at_letter_of c cs form k (is_word e) = e
at_letter_of c cs form k (is_quoted e) = class_clash (class_of c) 0 2 k (quoted_head c cs e) refl
at_letter_of c cs form k (is_text e) = class_clash (class_of c) 0 3 k (text_head c cs e) refl
at_letter_of c cs form k (is_integer e) = class_clash (class_of c) 0 1 k (integer_head c cs e) refl
at_letter_of c cs form k (is_decimal e) = class_clash (class_of c) 0 1 k (decimal_head c cs e) refl
at_letter_of c cs form k (is_mark e) = class_clash (class_of c) 0 4 k (mark_head c cs e) refl
at_letter_of c cs form k (is_pointed e) = class_clash (class_of c) 0 1 k (pointed_head c cs e) refl
at_letter_of c cs form k (is_open e) = open_clash c 0 k refl (open_head c cs e)
at_letter_of c cs form k (is_comment_open e) = class_clash (class_of c) 0 4 k (comment_head c cs e) refl

pub data NumberIs (s : Bytes) : Type 0 where
  integer : is_integer_form s ≡ true → NumberIs s
  decimal : is_decimal_form s ≡ true → NumberIs s
  pointed : is_pointed_form s ≡ true → NumberIs s

at_digit_of : (c : ℕ) (cs : Bytes) (form : Result TokenKind LexKind) → class_of c ≡ 1 → FormIs (c ∷ cs) form → NumberIs (c ∷ cs)
at_digit_of c cs form k (is_word e) = class_clash (class_of c) 1 0 k (word_head c cs e) refl
at_digit_of c cs form k (is_quoted e) = class_clash (class_of c) 1 2 k (quoted_head c cs e) refl
at_digit_of c cs form k (is_text e) = class_clash (class_of c) 1 3 k (text_head c cs e) refl
at_digit_of c cs form k (is_integer e) = integer e
at_digit_of c cs form k (is_decimal e) = decimal e
at_digit_of c cs form k (is_mark e) = class_clash (class_of c) 1 4 k (mark_head c cs e) refl
at_digit_of c cs form k (is_pointed e) = pointed e
at_digit_of c cs form k (is_open e) = open_clash c 1 k refl (open_head c cs e)
at_digit_of c cs form k (is_comment_open e) = class_clash (class_of c) 1 4 k (comment_head c cs e) refl

at_double_of : (c : ℕ) (cs : Bytes) (form : Result TokenKind LexKind) → class_of c ≡ 2 → FormIs (c ∷ cs) form → (is_quoted_form (c ∷ cs) ≡ true) ⊎ (is_open_form (c ∷ cs) ≡ true)
at_double_of c cs form k (is_word e) = class_clash (class_of c) 2 0 k (word_head c cs e) refl
at_double_of c cs form k (is_quoted e) = inl e
at_double_of c cs form k (is_text e) = class_clash (class_of c) 2 3 k (text_head c cs e) refl
at_double_of c cs form k (is_integer e) = class_clash (class_of c) 2 1 k (integer_head c cs e) refl
at_double_of c cs form k (is_decimal e) = class_clash (class_of c) 2 1 k (decimal_head c cs e) refl
at_double_of c cs form k (is_mark e) = class_clash (class_of c) 2 4 k (mark_head c cs e) refl
at_double_of c cs form k (is_pointed e) = class_clash (class_of c) 2 1 k (pointed_head c cs e) refl
at_double_of c cs form k (is_open e) = inr e
at_double_of c cs form k (is_comment_open e) = class_clash (class_of c) 2 4 k (comment_head c cs e) refl

at_single_of : (c : ℕ) (cs : Bytes) (form : Result TokenKind LexKind) → class_of c ≡ 3 → FormIs (c ∷ cs) form → (is_text_form (c ∷ cs) ≡ true) ⊎ (is_open_form (c ∷ cs) ≡ true)
at_single_of c cs form k (is_word e) = class_clash (class_of c) 3 0 k (word_head c cs e) refl
at_single_of c cs form k (is_quoted e) = class_clash (class_of c) 3 2 k (quoted_head c cs e) refl
at_single_of c cs form k (is_text e) = inl e
at_single_of c cs form k (is_integer e) = class_clash (class_of c) 3 1 k (integer_head c cs e) refl
at_single_of c cs form k (is_decimal e) = class_clash (class_of c) 3 1 k (decimal_head c cs e) refl
at_single_of c cs form k (is_mark e) = class_clash (class_of c) 3 4 k (mark_head c cs e) refl
at_single_of c cs form k (is_pointed e) = class_clash (class_of c) 3 1 k (pointed_head c cs e) refl
at_single_of c cs form k (is_open e) = inr e
at_single_of c cs form k (is_comment_open e) = class_clash (class_of c) 3 4 k (comment_head c cs e) refl

-- at any other class, marks and open comments alone
at_sign_of : (c : ℕ) (cs : Bytes) (form : Result TokenKind LexKind) → 4 ≤ class_of c → FormIs (c ∷ cs) form → (is_mark_form (c ∷ cs) ≡ true) ⊎ (is_open_comment (c ∷ cs) ≡ true)
at_sign_of c cs form k (is_word e) = absurd (omega (arith, word_head c cs e))
at_sign_of c cs form k (is_quoted e) = absurd (omega (arith, quoted_head c cs e))
at_sign_of c cs form k (is_text e) = absurd (omega (arith, text_head c cs e))
at_sign_of c cs form k (is_integer e) = absurd (omega (arith, integer_head c cs e))
at_sign_of c cs form k (is_decimal e) = absurd (omega (arith, decimal_head c cs e))
at_sign_of c cs form k (is_mark e) = inl e
at_sign_of c cs form k (is_pointed e) = absurd (omega (arith, pointed_head c cs e))
at_sign_of c cs form k (is_open e) = elim (open_head c cs e) [ inl f ↦ absurd (omega arith) | inr f ↦ absurd (omega arith) ]
at_sign_of c cs form k (is_comment_open e) = inr e

pub at_letter : (c : ℕ) (cs : Bytes) (form : Result TokenKind LexKind) → class_of c ≡ 0 → form_of (c ∷ cs) ≡ Some form → is_word_form (c ∷ cs) ≡ true
at_letter c cs form k e = at_letter_of c cs form k (form_cases (c ∷ cs) form e)

pub at_digit : (c : ℕ) (cs : Bytes) (form : Result TokenKind LexKind) → class_of c ≡ 1 → form_of (c ∷ cs) ≡ Some form → NumberIs (c ∷ cs)
at_digit c cs form k e = at_digit_of c cs form k (form_cases (c ∷ cs) form e)

pub at_double : (c : ℕ) (cs : Bytes) (form : Result TokenKind LexKind) → class_of c ≡ 2 → form_of (c ∷ cs) ≡ Some form → (is_quoted_form (c ∷ cs) ≡ true) ⊎ (is_open_form (c ∷ cs) ≡ true)
at_double c cs form k e = at_double_of c cs form k (form_cases (c ∷ cs) form e)

pub at_single : (c : ℕ) (cs : Bytes) (form : Result TokenKind LexKind) → class_of c ≡ 3 → form_of (c ∷ cs) ≡ Some form → (is_text_form (c ∷ cs) ≡ true) ⊎ (is_open_form (c ∷ cs) ≡ true)
at_single c cs form k e = at_single_of c cs form k (form_cases (c ∷ cs) form e)

pub at_sign : (c : ℕ) (cs : Bytes) (form : Result TokenKind LexKind) → 4 ≤ class_of c → form_of (c ∷ cs) ≡ Some form → (is_mark_form (c ∷ cs) ≡ true) ⊎ (is_open_comment (c ∷ cs) ≡ true)
at_sign c cs form k e = at_sign_of c cs form k (form_cases (c ∷ cs) form e)

-- ---- a spelling has the form of its class

skip : {A : Type 0} (b : Bool) (x y z : A) → b ≡ false → y ≡ z → cond b x y ≡ z
skip b x y z e f = cond-false b x y e ∙ f

pub not_word : (c k : ℕ) (cs : Bytes) → class_of c ≡ k → 0 < k → is_word_form (c ∷ cs) ≡ false
not_word c k cs e f = false_from_ne_true (is_word_form (c ∷ cs)) (λ is. omega (arith, word_head c cs is))

pub not_quoted : (c k : ℕ) (cs : Bytes) → class_of c ≡ k → ltb 2 k || ltb k 2 ≡ true → is_quoted_form (c ∷ cs) ≡ false
not_quoted c k cs e f = false_from_ne_true (is_quoted_form (c ∷ cs)) (λ is. class_clash (class_of c) 2 k (quoted_head c cs is) e f)

pub not_text : (c k : ℕ) (cs : Bytes) → class_of c ≡ k → ltb 3 k || ltb k 3 ≡ true → is_text_form (c ∷ cs) ≡ false
not_text c k cs e f = false_from_ne_true (is_text_form (c ∷ cs)) (λ is. class_clash (class_of c) 3 k (text_head c cs is) e f)

pub not_integer : (c k : ℕ) (cs : Bytes) → class_of c ≡ k → 1 < k → is_integer_form (c ∷ cs) ≡ false
not_integer c k cs e f = false_from_ne_true (is_integer_form (c ∷ cs)) (λ is. omega (arith, integer_head c cs is))

pub not_decimal : (c k : ℕ) (cs : Bytes) → class_of c ≡ k → 1 < k → is_decimal_form (c ∷ cs) ≡ false
not_decimal c k cs e f = false_from_ne_true (is_decimal_form (c ∷ cs)) (λ is. omega (arith, decimal_head c cs is))

pub not_pointed : (c k : ℕ) (cs : Bytes) → class_of c ≡ k → 1 < k → is_pointed_form (c ∷ cs) ≡ false
not_pointed c k cs e f = false_from_ne_true (is_pointed_form (c ∷ cs)) (λ is. omega (arith, pointed_head c cs is))

pub not_mark : (c k : ℕ) (cs : Bytes) → class_of c ≡ k → k < 4 → is_mark_form (c ∷ cs) ≡ false
not_mark c k cs e f = false_from_ne_true (is_mark_form (c ∷ cs)) (λ is. omega (arith, mark_head c cs is))

pub not_open : (c : ℕ) (cs : Bytes) → class_of c ≡ 4 → is_open_form (c ∷ cs) ≡ false
not_open c cs e = false_from_ne_true (is_open_form (c ∷ cs)) (λ is. open_clash c 4 e refl (open_head c cs is))

pub word_form : (s : Bytes) → is_word_form s ≡ true → form_of s ≡ Some (Ok Word)
word_form s e = cond-true (is_word_form s) _ _ e

pub quoted_form : (c : ℕ) (cs : Bytes) → class_of c ≡ 2 → is_quoted_form (c ∷ cs) ≡ true → form_of (c ∷ cs) ≡ Some (Ok Quoted)
quoted_form c cs k e = skip (is_word_form (c ∷ cs)) _ _ _ (not_word c 2 cs k (omega arith)) (cond-true (is_quoted_form (c ∷ cs)) _ _ e)

pub text_form : (c : ℕ) (cs : Bytes) → class_of c ≡ 3 → is_text_form (c ∷ cs) ≡ true → form_of (c ∷ cs) ≡ Some (Ok Text)
text_form c cs k e =
    skip (is_word_form (c ∷ cs)) _ _ _ (not_word c 3 cs k (omega arith))
    (skip (is_quoted_form (c ∷ cs)) _ _ _ (not_quoted c 3 cs k refl)
    (cond-true (is_text_form (c ∷ cs)) _ _ e))

pub integer_form : (c : ℕ) (cs : Bytes) → class_of c ≡ 1 → is_integer_form (c ∷ cs) ≡ true → form_of (c ∷ cs) ≡ Some (Ok Integer)
integer_form c cs k e =
    skip (is_word_form (c ∷ cs)) _ _ _ (not_word c 1 cs k (omega arith))
    (skip (is_quoted_form (c ∷ cs)) _ _ _ (not_quoted c 1 cs k refl)
    (skip (is_text_form (c ∷ cs)) _ _ _ (not_text c 1 cs k refl)
    (cond-true (is_integer_form (c ∷ cs)) _ _ e)))

pub decimal_form : (c : ℕ) (cs : Bytes) → class_of c ≡ 1 → is_integer_form (c ∷ cs) ≡ false → is_decimal_form (c ∷ cs) ≡ true → form_of (c ∷ cs) ≡ Some (Ok Decimal)
decimal_form c cs k other e =
    skip (is_word_form (c ∷ cs)) _ _ _ (not_word c 1 cs k (omega arith))
    (skip (is_quoted_form (c ∷ cs)) _ _ _ (not_quoted c 1 cs k refl)
    (skip (is_text_form (c ∷ cs)) _ _ _ (not_text c 1 cs k refl)
    (skip (is_integer_form (c ∷ cs)) _ _ _ other
    (cond-true (is_decimal_form (c ∷ cs)) _ _ e))))

pub pointed_form : (c : ℕ) (cs : Bytes) → class_of c ≡ 1 → is_integer_form (c ∷ cs) ≡ false → is_decimal_form (c ∷ cs) ≡ false → is_pointed_form (c ∷ cs) ≡ true
    → form_of (c ∷ cs) ≡ Some (Err DoubleConstant)
pointed_form c cs k whole other e =
    skip (is_word_form (c ∷ cs)) _ _ _ (not_word c 1 cs k (omega arith))
    (skip (is_quoted_form (c ∷ cs)) _ _ _ (not_quoted c 1 cs k refl)
    (skip (is_text_form (c ∷ cs)) _ _ _ (not_text c 1 cs k refl)
    (skip (is_integer_form (c ∷ cs)) _ _ _ whole
    (skip (is_decimal_form (c ∷ cs)) _ _ _ other
    (skip (is_mark_form (c ∷ cs)) _ _ _ (not_mark c 1 cs k (omega arith))
    (cond-true (is_pointed_form (c ∷ cs)) _ _ e))))))

pub mark_form : (c : ℕ) (cs : Bytes) → class_of c ≡ 4 → is_mark_form (c ∷ cs) ≡ true → form_of (c ∷ cs) ≡ Some (Ok Mark)
mark_form c cs k e =
    skip (is_word_form (c ∷ cs)) _ _ _ (not_word c 4 cs k (omega arith))
    (skip (is_quoted_form (c ∷ cs)) _ _ _ (not_quoted c 4 cs k refl)
    (skip (is_text_form (c ∷ cs)) _ _ _ (not_text c 4 cs k refl)
    (skip (is_integer_form (c ∷ cs)) _ _ _ (not_integer c 4 cs k (omega arith))
    (skip (is_decimal_form (c ∷ cs)) _ _ _ (not_decimal c 4 cs k (omega arith))
    (cond-true (is_mark_form (c ∷ cs)) _ _ e)))))

pub open_form : (c k : ℕ) (cs : Bytes) → class_of c ≡ k → 1 < k → k < 4 → is_quoted_form (c ∷ cs) ≡ false → is_text_form (c ∷ cs) ≡ false → is_open_form (c ∷ cs) ≡ true
    → form_of (c ∷ cs) ≡ Some (Err OpenText)
open_form c k cs is low high quoted text e =
    skip (is_word_form (c ∷ cs)) _ _ _ (not_word c k cs is (omega arith))
    (skip (is_quoted_form (c ∷ cs)) _ _ _ quoted
    (skip (is_text_form (c ∷ cs)) _ _ _ text
    (skip (is_integer_form (c ∷ cs)) _ _ _ (not_integer c k cs is low)
    (skip (is_decimal_form (c ∷ cs)) _ _ _ (not_decimal c k cs is low)
    (skip (is_mark_form (c ∷ cs)) _ _ _ (not_mark c k cs is high)
    (skip (is_pointed_form (c ∷ cs)) _ _ _ (not_pointed c k cs is low)
    (cond-true (is_open_form (c ∷ cs)) _ _ e)))))))

pub comment_form : (c : ℕ) (cs : Bytes) → class_of c ≡ 4 → is_mark_form (c ∷ cs) ≡ false → is_open_comment (c ∷ cs) ≡ true → form_of (c ∷ cs) ≡ Some (Err OpenComment)
comment_form c cs k other e =
    skip (is_word_form (c ∷ cs)) _ _ _ (not_word c 4 cs k (omega arith))
    (skip (is_quoted_form (c ∷ cs)) _ _ _ (not_quoted c 4 cs k refl)
    (skip (is_text_form (c ∷ cs)) _ _ _ (not_text c 4 cs k refl)
    (skip (is_integer_form (c ∷ cs)) _ _ _ (not_integer c 4 cs k (omega arith))
    (skip (is_decimal_form (c ∷ cs)) _ _ _ (not_decimal c 4 cs k (omega arith))
    (skip (is_mark_form (c ∷ cs)) _ _ _ other
    (skip (is_pointed_form (c ∷ cs)) _ _ _ (not_pointed c 4 cs k (omega arith))
    (skip (is_open_form (c ∷ cs)) _ _ _ (not_open c cs k)
    (cond-true (is_open_comment (c ∷ cs)) _ _ e))))))))
