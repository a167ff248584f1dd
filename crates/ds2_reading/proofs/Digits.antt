-- Heads of texts: numbers whose digits are the first characters.
use Rattle.std.proofs.Common.{◌≡◌, ℕ, zero, suc, ◌+◌, ◌-◌, ◌*◌, ◌%◌, ◌^◌, ◌<◌, ◌≤◌, Bool, true, false, ◌⊎◌, inl, inr, min, [], ◌∷◌, ◌++◌, drop, refl, sym, ap, ◌∙◌, subst, ltb-true, arith}
use Rattle.std.specs.Prelude.{slice_get, unwrap_or, nat_lt, if◌then◌else◌}
use Rattle.std.specs.Cmp.{nat_cmp_is}
use Rattle.std.specs.Ordering.{nat_cmp, ordering_then, ordering_reverse}
use Rattle.std.specs.Str.{chars, encode_utf8_all, IsUtf8}
use Rattle.std.specs.declared.cmp.Ordering.{Ordering}
use Rattle.std.specs.declared.cmp.Ordering.TheVariants.{Less, Equal, Greater}
use Rattle.std.proofs.Math.Nat.{pow-le-pow_right}
use Rattle.std.proofs.lemmas.Str.{chars-nil, chars_past_char, IsUtf8-past_char, encode_ascii, encodes-chars, byte_from_char}
use Rattle.ds2_base.specs.Bytes.{Bytes, Chars}
use Rattle.ds2_value.specs.TextLaws.{padded_cmp-step, padded_cmp_total}
use Rattle.ds2_value.specs.Texts.{padded_cmp}
use Rattle.ds2_reading.specs.KeyHeads.{first_digit, behind_digit, rest_digit, head_with_digits}

pub rest_bound : (r : Ordering) → rest_digit r < 128
rest_bound Less = omega arith
rest_bound Equal = omega arith
rest_bound Greater = omega arith

least : (n : ℕ) → min n 127 < 128
least n = omega arith

pub digit_bound : (cs : Chars) → first_digit cs < 128
digit_bound cs = least (unwrap_or (slice_get cs 0) 32)

-- ---- the digits in front decide

pub fronts_rise : (n a b : ℕ) (xs ys : Chars) → a < b → head_with_digits n a xs < head_with_digits n b ys
unfolding head_with_digits
fronts_rise zero a b xs ys l = omega (arith, l, rest_bound (padded_cmp xs []), rest_bound (padded_cmp ys []))
fronts_rise (suc n) a b xs ys l =
    fronts_rise n (a * 128 + first_digit xs) (b * 128 + first_digit ys) (behind_digit xs) (behind_digit ys) (omega (arith, l, digit_bound xs, digit_bound ys))

-- a lesser digit stands before
before_digit : (xs ys : Chars) → first_digit xs < first_digit ys → padded_cmp xs ys ≡ Less
before_digit xs ys l = by (unwrap_or (slice_get xs 0) 32) (unwrap_or (slice_get ys 0) 32) (padded_cmp (drop 1 xs) (drop 1 ys)) (padded_cmp-step xs ys) l
  where
    by : (x y : ℕ) (o : Ordering) → padded_cmp xs ys ≡ ordering_then (nat_cmp x y) o → min x 127 < min y 127 → padded_cmp xs ys ≡ Less
    by x y o e m = let low : x < y = omega (arith, m) in e ∙ ap (λ r. ordering_then r o) (sym (nat_cmp_is x y Less low))

-- equal ones below 127 leave it to what follows
past_digit : (xs ys : Chars) → first_digit xs ≡ first_digit ys → first_digit xs < 127 → padded_cmp xs ys ≡ padded_cmp (drop 1 xs) (drop 1 ys)
past_digit xs ys s l = by (unwrap_or (slice_get xs 0) 32) (unwrap_or (slice_get ys 0) 32) (padded_cmp (drop 1 xs) (drop 1 ys)) (padded_cmp-step xs ys) s l
  where
    by : (x y : ℕ) (o : Ordering) → padded_cmp xs ys ≡ ordering_then (nat_cmp x y) o → min x 127 ≡ min y 127 → min x 127 < 127 → padded_cmp xs ys ≡ o
    by x y o e s m = let level : x ≡ y = omega (arith, s, m) in e ∙ ap (λ r. ordering_then r o) (sym (nat_cmp_is x y Equal level))

order_of : (x y : ℕ) → (x < y) ⊎ (x ≡ y) ⊎ (y < x)
order_of zero zero = inr (inl refl)
order_of zero (suc y) = inl (omega arith)
order_of (suc x) zero = inr (inr (omega arith))
order_of (suc x) (suc y) = more (order_of x y)
  where
    more : (x < y) ⊎ (x ≡ y) ⊎ (y < x) → (suc x < suc y) ⊎ (suc x ≡ suc y) ⊎ (suc y < suc x)
    more (inl l) = inl (omega (arith, l))
    more (inr (inl e)) = inr (inl (ap suc e))
    more (inr (inr l)) = inr (inr (omega (arith, l)))

-- ---- what stands to blanks as it does

rest_before : (xs ys : Chars) (p q : Ordering) → padded_cmp xs [] ≡ p → padded_cmp ys [] ≡ q → rest_digit p < rest_digit q → padded_cmp xs ys ≡ Less
rest_before xs ys Less Less e f l = absurd (omega (arith, l))
rest_before xs ys Less Equal e f l =
    let t = padded_cmp_total in
    t.antisymm xs ys ∙ ap ordering_reverse (t.congr ys [] xs f ∙ t.antisymm [] xs ∙ ap ordering_reverse e)
rest_before xs ys Less Greater e f l =
    let t = padded_cmp_total in t.trans xs [] ys e (t.antisymm [] ys ∙ ap ordering_reverse f)
rest_before xs ys Equal Less e f l = absurd (omega (arith, l))
rest_before xs ys Equal Equal e f l = absurd (omega (arith, l))
rest_before xs ys Equal Greater e f l =
    let t = padded_cmp_total in t.congr xs [] ys e ∙ t.antisymm [] ys ∙ ap ordering_reverse f
rest_before xs ys Greater Less e f l = absurd (omega (arith, l))
rest_before xs ys Greater Equal e f l = absurd (omega (arith, l))
rest_before xs ys Greater Greater e f l = absurd (omega (arith, l))

rest_level : (xs ys : Chars) (p q : Ordering) → padded_cmp xs [] ≡ p → padded_cmp ys [] ≡ q → rest_digit p ≡ 32 → rest_digit q ≡ 32 → padded_cmp xs ys ≡ Equal
rest_level xs ys Less q e f k l = absurd (omega (arith, k))
rest_level xs ys Greater q e f k l = absurd (omega (arith, k))
rest_level xs ys Equal Less e f k l = absurd (omega (arith, l))
rest_level xs ys Equal Greater e f k l = absurd (omega (arith, l))
rest_level xs ys Equal Equal e f k l = let t = padded_cmp_total in t.congr xs [] ys e ∙ t.antisymm [] ys ∙ ap ordering_reverse f

-- ---- texts stand as their heads do

-- what follows equal digits
both_behind : (xs ys : Chars) (b : Bool) → first_digit xs ≡ first_digit ys → nat_lt (first_digit xs) 127 ≡ b → padded_cmp xs ys ≡ padded_cmp (behind_digit xs) (behind_digit ys)
both_behind xs ys b s e =
    by b e ∙ (λ i. padded_cmp (if sym e i then drop 1 xs else xs) (if sym (ap (λ d. nat_lt d 127) (sym s) ∙ e) i then drop 1 ys else ys))
  where
    by : (c : Bool) → nat_lt (first_digit xs) 127 ≡ c → padded_cmp xs ys ≡ padded_cmp (if c then drop 1 xs else xs) (if c then drop 1 ys else ys)
    by true f = past_digit xs ys s (ltb-true (first_digit xs) 127 f)
    by false f = refl

pub lower_head : (n a : ℕ) (xs ys : Chars) → head_with_digits n a xs < head_with_digits n a ys → padded_cmp xs ys ≡ Less
unfolding head_with_digits
lower_head zero a xs ys l = rest_before xs ys (padded_cmp xs []) (padded_cmp ys []) refl refl (omega (arith, l))
lower_head (suc n) a xs ys l =
    by (order_of (first_digit xs) (first_digit ys)) (lower_head n (a * 128 + first_digit ys) (behind_digit xs) (behind_digit ys))
  where
    more : first_digit xs ≡ first_digit ys → head_with_digits n (a * 128 + first_digit ys) (behind_digit xs) < head_with_digits n (a * 128 + first_digit ys) (behind_digit ys)
    more s = let P : ℕ → Type 0 = λ d. head_with_digits n (a * 128 + d) (behind_digit xs) < head_with_digits n (a * 128 + first_digit ys) (behind_digit ys) in subst P s l

    by : (first_digit xs < first_digit ys) ⊎ (first_digit xs ≡ first_digit ys) ⊎ (first_digit ys < first_digit xs)
        → (head_with_digits n (a * 128 + first_digit ys) (behind_digit xs) < head_with_digits n (a * 128 + first_digit ys) (behind_digit ys) → padded_cmp (behind_digit xs) (behind_digit ys) ≡ Less)
        → padded_cmp xs ys ≡ Less
    by (inl k) again = before_digit xs ys k
    by (inr (inl s)) again = both_behind xs ys (nat_lt (first_digit xs) 127) s refl ∙ again (more s)
    by (inr (inr k)) again =
        let turned = fronts_rise n (a * 128 + first_digit ys) (a * 128 + first_digit xs) (behind_digit ys) (behind_digit xs) (omega (arith, k)) in
        absurd (omega (arith, l, turned))

pub same_head : (n a : ℕ) (xs ys : Chars) → head_with_digits n a xs ≡ head_with_digits n a ys → head_with_digits n a xs % 128 ≡ 32 → padded_cmp xs ys ≡ Equal
unfolding head_with_digits
same_head zero a xs ys e w =
    rest_level xs ys (padded_cmp xs []) (padded_cmp ys []) refl refl
    (last a (rest_digit (padded_cmp xs [])) (rest_bound (padded_cmp xs [])) w)
    (last a (rest_digit (padded_cmp ys [])) (rest_bound (padded_cmp ys [])) (ap (λ m. m % 128) (sym e) ∙ w))
  where
    last : (b d : ℕ) → d < 128 → (b * 128 + d) % 128 ≡ 32 → d ≡ 32
    last b d l m = omega (arith, l, m)
same_head (suc n) a xs ys e w =
    by (order_of (first_digit xs) (first_digit ys)) (λ s. same_head n (a * 128 + first_digit xs) (behind_digit xs) (behind_digit ys) s w)
  where
    more : first_digit xs ≡ first_digit ys → head_with_digits n (a * 128 + first_digit xs) (behind_digit xs) ≡ head_with_digits n (a * 128 + first_digit xs) (behind_digit ys)
    more s = e ∙ ap (λ d. head_with_digits n (a * 128 + d) (behind_digit ys)) (sym s)

    by : (first_digit xs < first_digit ys) ⊎ (first_digit xs ≡ first_digit ys) ⊎ (first_digit ys < first_digit xs)
        → (head_with_digits n (a * 128 + first_digit xs) (behind_digit xs) ≡ head_with_digits n (a * 128 + first_digit xs) (behind_digit ys) → padded_cmp (behind_digit xs) (behind_digit ys) ≡ Equal)
        → padded_cmp xs ys ≡ Equal
    by (inl k) again =
        let risen = fronts_rise n (a * 128 + first_digit xs) (a * 128 + first_digit ys) (behind_digit xs) (behind_digit ys) (omega (arith, k)) in
        absurd (omega (arith, e, risen))
    by (inr (inl s)) again = both_behind xs ys (nat_lt (first_digit xs) 127) s refl ∙ again (more s)
    by (inr (inr k)) again =
        let turned = fronts_rise n (a * 128 + first_digit ys) (a * 128 + first_digit xs) (behind_digit ys) (behind_digit xs) (omega (arith, k)) in
        absurd (omega (arith, e, turned))

-- ---- the digits of characters are those of their bytes

-- a character in ASCII is its byte
ascii_first : (b : ℕ) (bs : Bytes) → IsUtf8 (b ∷ bs) → b < 128 → (chars (b ∷ bs) ≡ b ∷ chars bs) × IsUtf8 bs
ascii_first b bs u l =
    (chars_past_char (b ∷ bs) bs b u (ap (λ x. x ++ bs) (sym (encode_ascii b l))), IsUtf8-past_char (b ∷ bs) bs b u (ap (λ x. x ++ bs) (sym (encode_ascii b l))))

-- one that is not begins with a byte from 128 on
other_first : (b : ℕ) (bs : Bytes) → IsUtf8 (b ∷ bs) → 128 ≤ b → (c : ℕ) × (cs : Chars) × (chars (b ∷ bs) ≡ c ∷ cs) × (128 ≤ c)
other_first b bs u l = by (chars (b ∷ bs)) refl
  where
    high : (c : ℕ) (cs : Chars) → chars (b ∷ bs) ≡ c ∷ cs → (c < 128) ⊎ (c ≡ 128) ⊎ (128 < c) → 128 ≤ c
    high c cs e (inl k) =
        let first : b ≡ c = byte_from_char (b ∷ bs) (encode_utf8_all cs) c (sym (encodes-chars (b ∷ bs) u) ∙ ap encode_utf8_all e) k in
        absurd (omega (arith, first, k, l))
    high c cs e (inr (inl k)) = omega (arith, k)
    high c cs e (inr (inr k)) = omega (arith, k)

    by : (found : Chars) → chars (b ∷ bs) ≡ found → (c : ℕ) × (cs : Chars) × (chars (b ∷ bs) ≡ c ∷ cs) × (128 ≤ c)
    by [] e = let none : b ∷ bs ≡ [] = sym (encodes-chars (b ∷ bs) u) ∙ ap encode_utf8_all e in cc
    by (c ∷ cs) e = (c, cs, e, high c cs e (order_of c 128))

above_blank : (c : ℕ) (cs : Chars) → 128 ≤ c → padded_cmp (c ∷ cs) [] ≡ Greater
above_blank c cs l =
    let high : 32 < c = omega (arith, l) in
    padded_cmp-step (c ∷ cs) [] ∙ ap (λ r. ordering_then r (padded_cmp cs [])) (sym (nat_cmp_is c 32 Greater high))

split : (b : ℕ) → (b < 128) ⊎ (128 ≤ b)
split b = by (order_of b 128)
  where
    by : (b < 128) ⊎ (b ≡ 128) ⊎ (128 < b) → (b < 128) ⊎ (128 ≤ b)
    by (inl l) = inl l
    by (inr (inl e)) = inr (omega (arith, e))
    by (inr (inr l)) = inr (omega (arith, l))

same_rest : (bs : Bytes) → IsUtf8 bs → padded_cmp bs [] ≡ padded_cmp (chars bs) []
same_rest [] u = ap (λ (cs : Chars). padded_cmp cs []) (sym chars-nil)
same_rest (b ∷ bs) u = by (split b) (same_rest bs)
  where
    by : (b < 128) ⊎ (128 ≤ b) → (IsUtf8 bs → padded_cmp bs [] ≡ padded_cmp (chars bs) []) → padded_cmp (b ∷ bs) [] ≡ padded_cmp (chars (b ∷ bs)) []
    by (inl l) again =
        let first = ascii_first b bs u l in
        padded_cmp-step (b ∷ bs) []
        ∙ ap (ordering_then (nat_cmp b 32)) (again first.1)
        ∙ sym (padded_cmp-step (b ∷ chars bs) [])
        ∙ ap (λ (cs : Chars). padded_cmp cs []) (sym first.0)
    by (inr l) again =
        let first = other_first b bs u l in
        above_blank b bs l ∙ sym (above_blank first.0 first.1 first.3) ∙ ap (λ (cs : Chars). padded_cmp cs []) (sym first.2)

-- behind a digit of 127 all stays
behind_high : (cs : Chars) → 127 ≤ unwrap_or (slice_get cs 0) 32 → behind_digit cs ≡ cs
behind_high cs l = by (nat_lt (first_digit cs) 127) refl
  where
    by : (t : Bool) → nat_lt (first_digit cs) 127 ≡ t → behind_digit cs ≡ cs
    by true e = let m : first_digit cs < 127 = ltb-true (first_digit cs) 127 e in absurd (omega (arith, l, m))
    by false e = ap (λ t. if t then drop 1 cs else cs) e

digit_high : (cs : Chars) → 127 ≤ unwrap_or (slice_get cs 0) 32 → first_digit cs ≡ 127
digit_high cs l = omega (arith, l)

pub same_digits : (n a : ℕ) (bs : Bytes) → IsUtf8 bs → head_with_digits n a bs ≡ head_with_digits n a (chars bs)
unfolding head_with_digits
same_digits zero a bs u = ap (λ r. a * 128 + rest_digit r) (same_rest bs u)
same_digits (suc n) a [] u = ap (λ (cs : Chars). head_with_digits (suc n) a cs) (sym chars-nil)
same_digits (suc n) a (b ∷ bs) u =
    by (split b) (λ v. same_digits n (a * 128 + min b 127) bs v) (same_digits n (a * 128 + min b 127) (b ∷ bs) u)
  where
    after : (chars (b ∷ bs) ≡ b ∷ chars bs) → head_with_digits n (a * 128 + min b 127) bs ≡ head_with_digits n (a * 128 + min b 127) (chars bs)
        → head_with_digits n (a * 128 + min b 127) (b ∷ bs) ≡ head_with_digits n (a * 128 + min b 127) (chars (b ∷ bs)) → (t : Bool)
        → head_with_digits n (a * 128 + min b 127) (if t then bs else b ∷ bs) ≡ head_with_digits n (a * 128 + min b 127) (if t then chars bs else b ∷ chars bs)
    after first less same true = less
    after first less same false = same ∙ ap (λ (cs : Chars). head_with_digits n (a * 128 + min b 127) cs) first

    by : (b < 128) ⊎ (128 ≤ b) → (IsUtf8 bs → head_with_digits n (a * 128 + min b 127) bs ≡ head_with_digits n (a * 128 + min b 127) (chars bs))
        → head_with_digits n (a * 128 + min b 127) (b ∷ bs) ≡ head_with_digits n (a * 128 + min b 127) (chars (b ∷ bs))
        → head_with_digits (suc n) a (b ∷ bs) ≡ head_with_digits (suc n) a (chars (b ∷ bs))
    by (inl l) less same =
        let first = ascii_first b bs u l in
        after first.0 (less first.1) same (nat_lt (min b 127) 127) ∙ ap (λ (cs : Chars). head_with_digits (suc n) a cs) (sym first.0)
    by (inr l) less same =
        let first = other_first b bs u l in
        let own : 127 ≤ b = omega (arith, l) in
        let other : 127 ≤ first.0 = omega (arith, first.3) in
        let digits : min b 127 ≡ first_digit (first.0 ∷ first.1) = digit_high (b ∷ bs) own ∙ sym (digit_high (first.0 ∷ first.1) other) in
        ap (λ (cs : Chars). head_with_digits n (a * 128 + min b 127) cs) (behind_high (b ∷ bs) own)
        ∙ same
        ∙ ap (λ (cs : Chars). head_with_digits n (a * 128 + min b 127) cs) (first.2 ∙ sym (behind_high (first.0 ∷ first.1) other))
        ∙ ap (λ d. head_with_digits n (a * 128 + d) (behind_digit (first.0 ∷ first.1))) digits
        ∙ ap (λ (cs : Chars). head_with_digits (suc n) a cs) (sym first.2)

-- ---- a walk over the digits

-- one more digit is taken
pub digits_step : (i front : ℕ) (cs : Chars) (digit : ℕ) (after : Chars) (whole : ℕ) → i < 12 → digit ≡ first_digit cs → after ≡ behind_digit cs
    → head_with_digits (12 - i) front cs ≡ whole → head_with_digits (12 - (i + 1)) (front * 128 + digit) after ≡ whole
unfolding head_with_digits
digits_step i front cs digit after whole l d b e =
    let left : 12 - i ≡ suc (12 - (i + 1)) = omega (arith, l) in
    (λ k. head_with_digits (12 - (i + 1)) (front * 128 + d k) (b k)) ∙ ap (λ n. head_with_digits n front cs) (sym left) ∙ e

-- all are taken
pub digits_end : (i front : ℕ) (cs : Chars) (digit whole : ℕ) → 12 ≤ i → digit ≡ rest_digit (padded_cmp cs []) → head_with_digits (12 - i) front cs ≡ whole
    → front * 128 + digit ≡ whole
unfolding head_with_digits
digits_end i front cs digit whole l d e =
    let none : 12 - i ≡ 0 = omega (arith, l) in
    ap (λ r. front * 128 + r) d ∙ ap (λ n. head_with_digits n front cs) (sym none) ∙ e

-- ---- the bounds of a head

next_power : (i : ℕ) → 128 ^ suc i ≡ 128 * 128 ^ i
next_power i = omega arith

-- texts have greater heads than numbers
pub at_least : (n k front : ℕ) (cs : Chars) → 128 ^ k ≤ front → 128 ^ (k + suc n) ≤ head_with_digits n front cs
unfolding head_with_digits
at_least zero k front cs l =
    let e : k + 1 ≡ suc k = omega arith in
    let power : 128 ^ (k + 1) ≡ 128 * 128 ^ k = ap (λ m. 128 ^ m) e ∙ next_power k in
    omega (arith, l, power)
at_least (suc n) k front cs l =
    let e : k + suc (suc n) ≡ suc k + suc n = omega arith in
    let power : 128 ^ suc k ≤ front * 128 + first_digit cs = omega (arith, l, next_power k) in
    let P : ℕ → Type 0 = λ m. 128 ^ m ≤ head_with_digits (suc n) front cs in
    subst P (sym e) (at_least n (suc k) (front * 128 + first_digit cs) (behind_digit cs) power)

-- one more digit
pub one_more_digit : (i front d : ℕ) → front < 2 * 128 ^ i → d < 128 → front * 128 + d < 2 * 128 ^ (i + 1)
one_more_digit i front d l m =
    let e : i + 1 ≡ suc i = omega arith in
    let power : 128 ^ (i + 1) ≡ 128 * 128 ^ i = ap (λ k. 128 ^ k) e ∙ next_power i in
    omega (arith, l, m, power)

-- so many digits fit
pub front_bound : (i front : ℕ) → i ≤ 12 → front < 2 * 128 ^ i → front < 2 * 128 ^ 12
front_bound i front l m = let most : 128 ^ i ≤ 128 ^ 12 = pow-le-pow_right (omega arith) l in omega (arith, m, most)
