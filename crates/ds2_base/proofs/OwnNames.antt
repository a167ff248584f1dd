-- A name in lower case is its own name: lower case changes neither how many characters there are nor whether they may
-- stand in a name.
use Rattle.std.proofs.Common.{◌≡◌, ℕ, zero, suc, ◌+◌, ◌-◌, ◌*◌, ◌<◌, ◌≤◌, ◌⊎◌, inl, inr, true, cond, not, ◌&&◌, ◌==◌, nat_lt, nat_le, List, [], ◌∷◌, map, length, slice_index, refl, sym, ap, ◌∙◌, subst, arith, Ok, Err}
use Rattle.std.proofs.lemmas.Bool.{cases_lt, lt-ltb}
use Rattle.std.proofs.lemmas.Bool.Decides.{nat_tests}
use Rattle.std.proofs.lemmas.List.{length-map, get_or-map}
use Rattle.std.proofs.lemmas.Str.Ascii.{lowercase-lowercase, lowercase_is}
use Rattle.std.specs.List.{list_all}
use Rattle.std.specs.Str.{chars, chars_after, continuation_len, lead_bits}
use Rattle.std.specs.Char.{to_ascii_lowercase}
use Rattle.ds2_base.specs.Name.{is_name_char, is_name, IsOwnName}

-- as many characters, and both lists or neither may stand in a name
record Like (xs ys : List ℕ) : Type 0 where
  count : length xs ≡ length ys
  all : list_all is_name_char xs ≡ list_all is_name_char ys

like_self : (xs : List ℕ) → Like xs xs
like_self xs = record { count = refl; all = refl }

like_cons : (c d : ℕ) (xs ys : List ℕ) → is_name_char c ≡ is_name_char d → Like xs ys → Like (c ∷ xs) (d ∷ ys)
like_cons c d xs ys e l = record { count = ap suc l.count; all = λ i. e i && l.all i }

-- a byte that lower case changes is a letter, and else it stays
record IsLetter (b : ℕ) : Type 0 where
  above : 65 ≤ b
  below : b < 91

letter_or_same : (b : ℕ) → IsLetter b ⊎ (to_ascii_lowercase b ≡ b)
letter_or_same b = elim (cases_lt b 65) [
  | inl low ↦ inr ((lowercase_is b).1 low)
  | inr above ↦ elim (cases_lt b 91) [
    | inl below ↦ inl (record { above = above; below = below })
    | inr high ↦ inr ((lowercase_is b).2 (omega (arith, high)))
  ]
]

is_name_letter : (x : ℕ) → 65 ≤ x → x < 123 → is_name_char x ≡ true
is_name_letter x above below = grind (arith, nat_tests)

letter_lowered : (b : ℕ) → IsLetter b → to_ascii_lowercase b ≡ b + 32
letter_lowered b l = (lowercase_is b).0 (l.above, omega (arith, l.below))

-- where no byte is due, the next byte begins a character
after_zero : (c : ℕ) (bs : List ℕ) → chars_after zero c bs ≡ c ∷ chars bs
unfolding chars
after_zero c [] = refl
after_zero c (b ∷ bs) = refl

-- an ASCII byte is a character
ascii_first : (x : ℕ) (xs : List ℕ) → x < 128 → chars (x ∷ xs) ≡ x ∷ chars xs
unfolding chars
ascii_first x xs small =
    let t : nat_lt x 128 ≡ true = lt-ltb x 128 small in
    (λ i. chars_after (cond (t i) 0 (cond (nat_lt x 224) 1 (cond (nat_lt x 240) 2 3))) (cond (t i) x (cond (nat_lt x 224) (x - 192) (cond (nat_lt x 240) (x - 224) (x - 240)))) xs)
    ∙ after_zero x xs

record Same (bs : List ℕ) : Type 0 where
  whole : Like (chars (map to_ascii_lowercase bs)) (chars bs)
  after : (n c : ℕ) → Like (chars_after n c (map to_ascii_lowercase bs)) (chars_after n c bs)

letter_step : (b : ℕ) (bs : List ℕ) → IsLetter b → Same bs → Like (chars (map to_ascii_lowercase (b ∷ bs))) (chars (b ∷ bs))
letter_step b bs l s =
    let e = letter_lowered b l in
    let small : to_ascii_lowercase b < 128 = rw e (omega (arith, l.below)) in
    let kept : is_name_char (to_ascii_lowercase b) ≡ is_name_char b =
    ap is_name_char e ∙ is_name_letter (b + 32) (omega (arith, l.above)) (omega (arith, l.below)) ∙ sym (is_name_letter b l.above (omega (arith, l.below))) in
    let both = like_cons (to_ascii_lowercase b) b (chars (map to_ascii_lowercase bs)) (chars bs) kept s.whole in
    subst (λ ys. Like (chars (map to_ascii_lowercase (b ∷ bs))) ys) (sym (ascii_first b bs (omega (arith, l.below))))
    (subst (λ xs. Like xs (b ∷ chars bs)) (sym (ascii_first (to_ascii_lowercase b) (map to_ascii_lowercase bs) small)) both)

whole_step : (b : ℕ) (bs : List ℕ) → Same bs → Like (chars (map to_ascii_lowercase (b ∷ bs))) (chars (b ∷ bs))
unfolding chars
whole_step b bs s = elim (letter_or_same b) [
  | inl l ↦ letter_step b bs l s
  | inr e ↦ subst (λ x. Like (chars_after (continuation_len x) (lead_bits x) (map to_ascii_lowercase bs)) (chars (b ∷ bs))) (sym e) (s.after (continuation_len b) (lead_bits b))
]

-- what a byte adds to the character that it continues
continued_same : (b : ℕ) → to_ascii_lowercase b - 128 ≡ b - 128
continued_same b = elim (letter_or_same b) [
  | inl l ↦ rw (letter_lowered b l) (omega (arith, l.above, l.below))
  | inr e ↦ ap (λ x. x - 128) e
]

after_step : (b : ℕ) (bs : List ℕ) → Same bs → (n c : ℕ) → Like (chars_after n c (map to_ascii_lowercase (b ∷ bs))) (chars_after n c (b ∷ bs))
unfolding chars
after_step b bs s zero c = like_cons c c _ _ refl (whole_step b bs s)
after_step b bs s (suc n) c =
    subst (λ x. Like (chars_after n (c * 64 + x) (map to_ascii_lowercase bs)) (chars_after n (c * 64 + (b - 128)) bs)) (sym (continued_same b)) (s.after n (c * 64 + (b - 128)))

same : (bs : List ℕ) → Same bs
same [] = record { whole = like_self (chars []); after = λ n c. like_self (chars_after n c []) }
same (b ∷ bs) = record { whole = whole_step b bs (same bs); after = after_step b bs (same bs) }

blank_same : (x : ℕ) → (to_ascii_lowercase x == 32) ≡ (x == 32)
blank_same x = elim (letter_or_same x) [
  | inl l ↦ rw (letter_lowered x l) (letter_no_blank x l)
  | inr e ↦ ap (λ y. y == 32) e
]
  where
    letter_no_blank : (x : ℕ) → IsLetter x → (x + 32 == 32) ≡ (x == 32)
    letter_no_blank x l = grind (arith, nat_tests, l.above)

blank_at : (bs : List ℕ) (k : ℕ) → k < length bs → (slice_index (map to_ascii_lowercase bs) k == 32) ≡ (slice_index bs k == 32)
blank_at bs k within = ap (λ y. y == 32) (get_or-map to_ascii_lowercase bs k 0 0 within) ∙ blank_same (slice_index bs k)

same_name : (bs : List ℕ) → 0 < length bs → is_name (map to_ascii_lowercase bs) ≡ is_name bs
same_name bs some =
    let long = length-map bs to_ascii_lowercase in
    let s = (same bs).whole in
    let first = blank_at bs 0 some in
    let last = (λ i. slice_index (map to_ascii_lowercase bs) (long i - 1) == 32) ∙ blank_at bs (length bs - 1) (omega (arith, some)) in
    λ i. nat_lt 0 (long i) && nat_le (s.count i) 64 && s.all i && not (first i) && not (last i)

is_name-lower : (bs : List ℕ) → is_name bs ≡ true → is_name (map to_ascii_lowercase bs) ≡ true
is_name-lower [] h = h
is_name-lower (b ∷ bs) h = same_name (b ∷ bs) (omega arith) ∙ h

twice : (bs : List ℕ) → map to_ascii_lowercase (map to_ascii_lowercase bs) ≡ map to_ascii_lowercase bs
twice [] = refl
twice (b ∷ bs) = λ i. lowercase-lowercase b i ∷ twice bs i

pub own_name : (bs : List ℕ) → is_name bs ≡ true → IsOwnName (map to_ascii_lowercase bs)
own_name bs h =
    (λ i. cond (is_name-lower bs h i) (Ok (map to_ascii_lowercase (map to_ascii_lowercase bs))) (Err (record {})))
    ∙ ap (λ x. Ok x) (twice bs)
