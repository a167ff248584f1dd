-- What heads tell of values.
use Rattle.std.proofs.Common.{◌≡◌, ℕ, ◌+◌, ◌%◌, ◌^◌, ◌<◌, ◌≤◌, List, refl, sym, ap, ◌∙◌, arith, lit<, ℤ, pos, negsuc}
use Rattle.std.specs.Prelude.{◌<ℤ◌, ◌≤ℤ◌, ◌+ℤ◌, ◌*ℤ◌}
use Rattle.std.specs.Cmp.{int_cmp_is}
use Rattle.std.specs.Ordering.{int_cmp}
use Rattle.std.specs.Str.{chars}
use Rattle.std.specs.declared.cmp.Ordering.{Ordering}
use Rattle.std.specs.declared.cmp.Ordering.TheVariants.{Less, Equal}
use Rattle.std.proofs.lemmas.Int.{ints}
use Rattle.ds2_decimal.specs.Decimal.{Decimal}
use Rattle.ds2_value.specs.Order.{key_order, exact}
use Rattle.ds2_value.specs.declared.value.Value.{Value}
use Rattle.ds2_value.specs.declared.value.Value.TheVariants.{Null, Int, Dec, Txt}
use Rattle.ds2_value.proofs.IntegerLemmas.{int_cmp-times}
use Rattle.ds2_value.proofs.OrderLemmas.{order-ints, order-int-dec, order-dec-int, order-decs, order-texts, order-nulls}
use Rattle.ds2_reading.specs.KeyHeads.{IsNumberHead, whole, above, before_all, behind_all, IsKeyHead}
use Rattle.ds2_reading.proofs.Digits.{lower_head, same_head, at_least}

-- ---- numbers

lower_number : (m n : ℕ) (x y : ℤ) → IsNumberHead m x → IsNumberHead n y → m < n → x <ℤ y
lower_number m n x y (whole w a u t e) (whole v b s r f) l = omega (arith, ints, a, b, e, f, l)
lower_number m n x y (whole w a u t e) (above v b s r f g) l = omega (arith, ints, a, b, e, f, l)
lower_number m n x y (whole w a u t e) (before_all b f) l = absurd (omega (arith, ints, a, t, b, l))
lower_number m n x y (whole w a u t e) (behind_all b f) l = omega (arith, ints, a, u, e, f)
lower_number m n x y (above w a u t e h) (whole v b s r f) l = omega (arith, ints, a, b, h, f, l)
lower_number m n x y (above w a u t e h) (above v b s r f g) l = omega (arith, ints, a, b, h, f, l)
lower_number m n x y (above w a u t e h) (before_all b f) l = absurd (omega (arith, ints, a, t, b, l))
lower_number m n x y (above w a u t e h) (behind_all b f) l = omega (arith, ints, a, u, h, f)
lower_number m n x y (before_all a e) (whole v b s r f) l = omega (arith, ints, e, r, f)
lower_number m n x y (before_all a e) (above v b s r f g) l = omega (arith, ints, e, r, f)
lower_number m n x y (before_all a e) (before_all b f) l = absurd (omega (arith, a, b, l))
lower_number m n x y (before_all a e) (behind_all b f) l = omega (arith, ints, e, f)
lower_number m n x y (behind_all a e) (whole v b s r f) l = absurd (omega (arith, ints, a, b, s, l))
lower_number m n x y (behind_all a e) (above v b s r f g) l = absurd (omega (arith, ints, a, b, s, l))
lower_number m n x y (behind_all a e) (before_all b f) l = absurd (omega (arith, a, b, l))
lower_number m n x y (behind_all a e) (behind_all b f) l = absurd (omega (arith, a, b, l))

same_number : (m n : ℕ) (x y : ℤ) → IsNumberHead m x → IsNumberHead n y → m ≡ n → m % 128 ≡ 32 → x ≡ y
same_number m n x y (whole w a u t e) (whole v b s r f) l z = omega (arith, ints, a, b, e, f, l)
same_number m n x y (whole w a u t e) (above v b s r f g) l z = absurd (omega (arith, ints, a, b, l))
same_number m n x y (whole w a u t e) (before_all b f) l z = absurd (omega (arith, ints, a, b, l))
same_number m n x y (whole w a u t e) (behind_all b f) l z = absurd (omega (arith, ints, a, b, l))
same_number m n x y (above w a u t e h) k l z = absurd (left_out m (w +ℤ pos (2 ^ 63 + 1)) a t z)
  where
    left_out : (m : ℕ) (w : ℤ) → pos m ≡ w *ℤ pos 128 +ℤ pos 33 → pos 1 ≤ℤ w → m % 128 ≡ 32 → ⊥
    left_out m (pos n) a t z = absurd (omega (arith, ints, a, z))
    left_out m (negsuc n) a t z = absurd (omega (arith, ints, t))
same_number m n x y (before_all a e) k l z = absurd (omega (arith, a, z))
same_number m n x y (behind_all a e) k l z = absurd (omega (arith, a, z))

-- above null, and below all texts
number_bounds : (m : ℕ) (x : ℤ) → IsNumberHead m x → (32 < m) × (m < 128 ^ 13)
number_bounds m x (whole w a u t e) = (omega (arith, ints, a, t), omega (arith, ints, a, u))
number_bounds m x (above w a u t e h) = (omega (arith, ints, a, t), omega (arith, ints, a, u))
number_bounds m x (before_all a e) = (omega (arith, a), omega (arith, a))
number_bounds m x (behind_all a e) = (omega (arith, a), omega (arith, a))

-- ---- kinds of values

null_int : (i : ℤ) → key_order Null (Int i) ≡ Less
unfolding key_order
null_int i = refl

null_dec : (d : Decimal) → key_order Null (Dec d) ≡ Less
unfolding key_order
null_dec d = refl

null_text : (t : List ℕ) → key_order Null (Txt t) ≡ Less
unfolding key_order
null_text t = refl

int_text : (i : ℤ) (t : List ℕ) → key_order (Int i) (Txt t) ≡ Less
unfolding key_order
int_text i t = refl

dec_text : (d : Decimal) (t : List ℕ) → key_order (Dec d) (Txt t) ≡ Less
unfolding key_order
dec_text d t = refl

order_exact : (i j : ℤ) → key_order (Int i) (Int j) ≡ int_cmp (exact (Int i)) (exact (Int j))
order_exact i j = order-ints i j ∙ sym (int_cmp-times i j (10 ^ 38) (lit< tt))

-- the head of a text
text_least : (head : ℕ) (t : List ℕ) → IsKeyHead head (Txt t) → 128 ^ 13 ≤ head
text_least head t h = omega (arith, h, at_least 12 0 1 (chars t) (omega arith))

-- ---- heads that differ, and equal ones that tell all

less : (x y : ℤ) (r : Ordering) → r ≡ int_cmp x y → x <ℤ y → r ≡ Less
less x y r e l = e ∙ sym (int_cmp_is x y Less l)

level : (x y : ℤ) (r : Ordering) → r ≡ int_cmp x y → x ≡ y → r ≡ Equal
level x y r e l = e ∙ sym (int_cmp_is x y Equal l)

pub told_apart : (m n : ℕ) (p q : Value) → IsKeyHead m p → IsKeyHead n q → m < n → key_order p q ≡ Less
told_apart m n Null Null h k l = absurd (omega (arith, h, k, l))
told_apart m n Null (Int j) h k l = null_int j
told_apart m n Null (Dec e) h k l = null_dec e
told_apart m n Null (Txt t) h k l = null_text t
told_apart m n (Int i) Null h k l = let b = number_bounds m (exact (Int i)) h in absurd (omega (arith, b.0, k, l))
told_apart m n (Int i) (Int j) h k l = less (exact (Int i)) (exact (Int j)) _ (order_exact i j) (lower_number m n (exact (Int i)) (exact (Int j)) h k l)
told_apart m n (Int i) (Dec e) h k l = less (exact (Int i)) (exact (Dec e)) _ (order-int-dec i e) (lower_number m n (exact (Int i)) (exact (Dec e)) h k l)
told_apart m n (Int i) (Txt t) h k l = int_text i t
told_apart m n (Dec d) Null h k l = let b = number_bounds m (exact (Dec d)) h in absurd (omega (arith, b.0, k, l))
told_apart m n (Dec d) (Int j) h k l = less (exact (Dec d)) (exact (Int j)) _ (order-dec-int d j) (lower_number m n (exact (Dec d)) (exact (Int j)) h k l)
told_apart m n (Dec d) (Dec e) h k l = less (exact (Dec d)) (exact (Dec e)) _ (order-decs d e) (lower_number m n (exact (Dec d)) (exact (Dec e)) h k l)
told_apart m n (Dec d) (Txt t) h k l = dec_text d t
told_apart m n (Txt s) Null h k l = absurd (omega (arith, text_least m s h, k, l))
told_apart m n (Txt s) (Int j) h k l = let b = number_bounds n (exact (Int j)) k in absurd (omega (arith, text_least m s h, b.1, l))
told_apart m n (Txt s) (Dec e) h k l = let b = number_bounds n (exact (Dec e)) k in absurd (omega (arith, text_least m s h, b.1, l))
told_apart m n (Txt s) (Txt t) h k l = order-texts s t ∙ lower_head 12 1 (chars s) (chars t) (omega (arith, h, k, l))

pub told_alike : (m n : ℕ) (p q : Value) → IsKeyHead m p → IsKeyHead n q → m ≡ n → m % 128 ≡ 32 → key_order p q ≡ Equal
told_alike m n Null Null h k e w = order-nulls
told_alike m n Null (Int j) h k e w = let b = number_bounds n (exact (Int j)) k in absurd (omega (arith, h, b.0, e))
told_alike m n Null (Dec f) h k e w = let b = number_bounds n (exact (Dec f)) k in absurd (omega (arith, h, b.0, e))
told_alike m n Null (Txt t) h k e w = absurd (omega (arith, h, text_least n t k, e))
told_alike m n (Int i) Null h k e w = let b = number_bounds m (exact (Int i)) h in absurd (omega (arith, b.0, k, e))
told_alike m n (Int i) (Int j) h k e w = level (exact (Int i)) (exact (Int j)) _ (order_exact i j) (same_number m n (exact (Int i)) (exact (Int j)) h k e w)
told_alike m n (Int i) (Dec f) h k e w = level (exact (Int i)) (exact (Dec f)) _ (order-int-dec i f) (same_number m n (exact (Int i)) (exact (Dec f)) h k e w)
told_alike m n (Int i) (Txt t) h k e w = let b = number_bounds m (exact (Int i)) h in absurd (omega (arith, b.1, text_least n t k, e))
told_alike m n (Dec d) Null h k e w = let b = number_bounds m (exact (Dec d)) h in absurd (omega (arith, b.0, k, e))
told_alike m n (Dec d) (Int j) h k e w = level (exact (Dec d)) (exact (Int j)) _ (order-dec-int d j) (same_number m n (exact (Dec d)) (exact (Int j)) h k e w)
told_alike m n (Dec d) (Dec f) h k e w = level (exact (Dec d)) (exact (Dec f)) _ (order-decs d f) (same_number m n (exact (Dec d)) (exact (Dec f)) h k e w)
told_alike m n (Dec d) (Txt t) h k e w = let b = number_bounds m (exact (Dec d)) h in absurd (omega (arith, b.1, text_least n t k, e))
told_alike m n (Txt s) Null h k e w = absurd (omega (arith, text_least m s h, k, e))
told_alike m n (Txt s) (Int j) h k e w = let b = number_bounds n (exact (Int j)) k in absurd (omega (arith, text_least m s h, b.1, e))
told_alike m n (Txt s) (Dec f) h k e w = let b = number_bounds n (exact (Dec f)) k in absurd (omega (arith, text_least m s h, b.1, e))
told_alike m n (Txt s) (Txt t) h k e w = order-texts s t ∙ same_head 12 1 (chars s) (chars t) (sym h ∙ e ∙ k) (ap (λ n. n % 128) (sym h) ∙ w)
