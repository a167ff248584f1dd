-- The laws of the order, of rounding and of rescaling.
use Rattle.std.proofs.Common.{◌≡◌, ℕ, suc, ◌+◌, ◌-◌, ◌*◌, ◌/◌, ◌%◌, ◌^◌, ◌<◌, ◌≤◌, ℤ, pos, negsuc, neg_ℤ, ◌+ℤ◌, ◌-ℤ◌, ◌*ℤ◌, ◌≤ℤ◌, ◌<ℤ◌, unsigned_abs, Bool, true, false, ◌⊎◌, inl, inr, Result, Ok, Err, Less, Equal, Greater, leb, cond, refl, sym, ap, subst, ◌∙◌, arith}
use Rattle.std.specs.Prelude.{◌↔◌}
use Rattle.std.specs.Ordering.{int_cmp, MatchOrdering}
use Rattle.std.specs.declared.cmp.Ordering.{Ordering}
use Rattle.std.proofs.Math.Nat.{le-div_iff_mul-le, mul-lt-mul_of_pos_right, mul-le-mul_left}
use Rattle.std.proofs.Math.IntN.{neg_ℤ-neg_ℤ, neg_ℤ-+ℤ, *ℤ-negsuc}
use Rattle.std.proofs.lemmas.Nat.{div-add-mod', mod_below}
use Rattle.std.proofs.lemmas.Int.{ints}
use Rattle.std.proofs.lemmas.Cmp.{on_total, int_cmp_total, int_ranked}
use Rattle.std.proofs.lemmas.Bool.{cases_lt}
use Rattle.std.proofs.lemmas.Bool.Decides.{nat_tests}
use Rattle.ds2_decimal.specs.Decimal.{Decimal, is_within, units_at, value}
use Rattle.ds2_decimal.specs.Rounding.{rounded_half_up, round, round_down, moved_sign, is_zero}
use Rattle.ds2_decimal.specs.Arithmetic as spec
use Rattle.ds2_decimal.specs.Laws.{CompareIsTotal, CompareIsExact, distance, IsRounded, RoundIsNearest, FloorIsGreatest, CeilIsLeast, RescaleReturns, QuotientIsNear}
use Rattle.ds2_decimal.proofs.TenPowers.{pow-ten_pos, pow-ten_split}
use Rattle.ds2_decimal.proofs.IntegerLemmas.{times-neg, times_twice, unsigned_abs-neg, int_cmp-times}
use Rattle.ds2_decimal.specs.declared.dec.DecFault.{DecFault}
use Rattle.ds2_decimal.specs.declared.dec.DecFault.TheVariants.{Overflow, DivideByZero}
use Rattle.ds2_decimal.proofs.UnitsLemmas.{is_within_yes, unsigned_abs-raised}
use Rattle.ds2_decimal.proofs.AlignedLemmas.{units_at-same}
use Rattle.ds2_decimal.proofs.QuotientLemmas.{quotient_from}
use Rattle.ds2_decimal.proofs.SignLemmas.{round-neg}

-- ---- the order

pub compare_total : CompareIsTotal
compare_total = on_total value int_cmp_total

-- a number at 38 places, by the other's scale and all the rest
crosswise : (a : Decimal) (t : ℕ) → a.scale ≤ 38 → t ≤ 38 → a.units *ℤ pos (10 ^ t) *ℤ pos (10 ^ (38 - a.scale) * 10 ^ (38 - t)) ≡ value a *ℤ pos (10 ^ 38)
crosswise a t h k =
    let x : ℕ = 10 ^ (38 - a.scale) in
    let rest : 10 ^ (38 - t) * 10 ^ t ≡ 10 ^ 38 = pow-ten_split 38 t k in
    let factors : 10 ^ t * (x * 10 ^ (38 - t)) ≡ x * 10 ^ 38 = omega (arith, ap (λ (n : ℕ). x * n) rest) in
    times_twice a.units (10 ^ t) (x * 10 ^ (38 - t)) ∙ ap (λ (n : ℕ). a.units *ℤ pos n) factors ∙ sym (times_twice a.units x (10 ^ 38))

pub compare_crosswise : (a b : Decimal) → a.scale ≤ 38 → b.scale ≤ 38 → spec.compare a b ≡ int_cmp (a.units *ℤ pos (10 ^ b.scale)) (b.units *ℤ pos (10 ^ a.scale))
compare_crosswise a b h k =
    let n : ℕ = 10 ^ (38 - a.scale) * 10 ^ (38 - b.scale) in
    let swapped : 10 ^ (38 - b.scale) * 10 ^ (38 - a.scale) ≡ n = omega arith in
    let left : a.units *ℤ pos (10 ^ b.scale) *ℤ pos n ≡ value a *ℤ pos (10 ^ 38) = crosswise a b.scale h k in
    let right : b.units *ℤ pos (10 ^ a.scale) *ℤ pos n ≡ value b *ℤ pos (10 ^ 38) = ap (λ (m : ℕ). b.units *ℤ pos (10 ^ a.scale) *ℤ pos m) (sym swapped) ∙ crosswise b a.scale k h in
    let some : 0 < n = omega (arith, mul-lt-mul_of_pos_right (pow-ten_pos (38 - a.scale)) (pow-ten_pos (38 - b.scale))) in
    sym (int_cmp-times (value a) (value b) (10 ^ 38) (omega arith))
    ∙ ap (λ (z : ℤ). int_cmp z (value b *ℤ pos (10 ^ 38))) (sym left)
    ∙ ap (λ (z : ℤ). int_cmp (a.units *ℤ pos (10 ^ b.scale) *ℤ pos n) z) (sym right)
    ∙ int_cmp-times (a.units *ℤ pos (10 ^ b.scale)) (b.units *ℤ pos (10 ^ a.scale)) n some

orders : (r : Ordering) (x y : ℤ) → MatchOrdering r (x <ℤ y) (x ≡ y) (y <ℤ x) → ((r ≡ Equal) ↔ (x ≡ y)) × ((r ≡ Less) ↔ (x <ℤ y))
orders Less x y below = ((λ e. cc, λ e. absurd (omega (arith, ints))), (λ e. below, λ l. refl))
orders Equal x y same = ((λ e. same, λ e. refl), (λ e. cc, λ l. absurd (omega (arith, ints))))
orders Greater x y above = ((λ e. cc, λ e. absurd (omega (arith, ints))), (λ e. cc, λ l. absurd (omega (arith, ints))))

pub compare_exact : CompareIsExact
compare_exact a b h k =
    let x : ℤ = a.units *ℤ pos (10 ^ b.scale) in
    let y : ℤ = b.units *ℤ pos (10 ^ a.scale) in
    let both = orders (spec.compare a b) x y (int_ranked x y (spec.compare a b) (compare_crosswise a b h k)) in
    record { same = both.0; below = both.1 }

-- ---- rounding

distance-neg : (a : ℤ) (b : ℕ) (q : ℤ) → distance (neg_ℤ a) b (neg_ℤ q) ≡ distance a b q
distance-neg a b q =
    ap (λ (z : ℤ). unsigned_abs (neg_ℤ a -ℤ z)) (times-neg q b)
    ∙ ap unsigned_abs (sym (neg_ℤ-+ℤ a (neg_ℤ (q *ℤ pos b))))
    ∙ unsigned_abs-neg (a -ℤ q *ℤ pos b)

apart : (m n : ℕ) → unsigned_abs (pos m -ℤ pos n) ≡ (m - n) + (n - m)
apart m n = omega (arith, ints)

apart_below : (m n : ℕ) → unsigned_abs (pos m -ℤ neg_ℤ (pos n)) ≡ m + n
apart_below m n = omega (arith, ints)

other_pos : (n b : ℕ) (r : ℤ) → 0 < b → 2 * distance (pos n) b r ≤ b → (r ≡ pos (rounded_half_up n b)) ⊎ (unsigned_abs r < rounded_half_up n b)
other_pos n b (pos k) some near =
    let gap : distance (pos n) b (pos k) ≡ (n - k * b) + (k * b - n) = apart n (k * b) in
    let fits : k * (2 * b) ≤ 2 * n + b = omega arith in
    let twice : 0 < 2 * b = omega arith in
    let reached : k ≤ rounded_half_up n b = (le-div_iff_mul-le twice).1 fits in
    up_to k (rounded_half_up n b) reached (cases_lt k (rounded_half_up n b))
  where
    up_to : (k q : ℕ) → k ≤ q → (k < q) ⊎ (q ≤ k) → (pos k ≡ pos q) ⊎ (k < q)
    up_to k q le (inl below) = inr below
    up_to k q le (inr ge) = inl (ap (λ (x : ℕ). pos x) (omega arith))
other_pos n b (negsuc k) some near =
    let gap : distance (pos n) b (negsuc k) ≡ n + suc k * b = apart_below n (suc k * b) in
    absurd (omega arith)

rounded_pos : (n b : ℕ) → 0 < b → IsRounded (pos n) b (round (pos n) b)
rounded_pos n b some =
    let q : ℕ = rounded_half_up n b in
    let whole : q * (2 * b) + (2 * n + b) % (2 * b) ≡ 2 * n + b = div-add-mod' (2 * n + b) (2 * b) in
    let rest : (2 * n + b) % (2 * b) < 2 * b = mod_below (2 * n + b) (2 * b) (omega arith) in
    let gap : distance (pos n) b (pos q) ≡ (n - q * b) + (q * b - n) = apart n (q * b) in
    record {
      near = omega arith;
      others = λ r near. other_pos n b r some near;
    }

turned : (r q : ℤ) → (neg_ℤ r ≡ q) ⊎ (unsigned_abs (neg_ℤ r) < unsigned_abs q) → (r ≡ neg_ℤ q) ⊎ (unsigned_abs r < unsigned_abs (neg_ℤ q))
turned r q (inl e) = inl (sym (neg_ℤ-neg_ℤ r) ∙ ap neg_ℤ e)
turned r q (inr l) = inr (omega (arith, unsigned_abs-neg r, unsigned_abs-neg q))

pub round_nearest : RoundIsNearest
round_nearest (pos n) b some = rounded_pos n b some
round_nearest (negsuc n) b some =
    let a : ℤ = pos (suc n) in
    let q : ℤ = round a b in
    let is = rounded_pos (suc n) b some in
    record {
      near = omega (arith, distance-neg a b q, is.near);
      others = λ r near.
          let back : distance (negsuc n) b r ≡ distance a b (neg_ℤ r) = ap (λ (z : ℤ). distance (negsuc n) b z) (sym (neg_ℤ-neg_ℤ r)) ∙ distance-neg a b (neg_ℤ r) in
          turned r q (is.others (neg_ℤ r) (omega arith));
    }

-- ---- rounding down and up

one_more : (q : ℕ) → negsuc q +ℤ pos 1 ≡ neg_ℤ (pos q)
one_more q = omega (arith, ints)

floor_facts : (z : ℤ) (b : ℕ) → 0 < b → ((round_down z b *ℤ pos b) ≤ℤ z) × (z <ℤ ((round_down z b +ℤ pos 1) *ℤ pos b))
floor_facts (pos n) b some =
    let whole : n / b * b + n % b ≡ n = div-add-mod' n b in
    let rest : n % b < b = mod_below n b some in
    (omega (arith, ints), omega (arith, ints))
floor_facts (negsuc n) b some =
    let whole : n / b * b + n % b ≡ n = div-add-mod' n b in
    let rest : n % b < b = mod_below n b some in
    let next : (negsuc (n / b) +ℤ pos 1) *ℤ pos b ≡ neg_ℤ (pos (n / b * b)) = ap (λ (x : ℤ). x *ℤ pos b) (one_more (n / b)) ∙ times-neg (pos (n / b)) b in
    (omega (arith, ints), omega (arith, ints))

pub floor_greatest : FloorIsGreatest
floor_greatest d =
    let facts = floor_facts d.units (10 ^ d.scale) (pow-ten_pos d.scale) in
    record { scale = refl; reached = facts.0; next = facts.1 }

one_less : (x : ℤ) → neg_ℤ x -ℤ pos 1 ≡ neg_ℤ (x +ℤ pos 1)
one_less x = omega (arith, ints)

pub ceil_least : CeilIsLeast
ceil_least d =
    let b : ℕ = 10 ^ d.scale in
    let f : ℤ = round_down (neg_ℤ d.units) b in
    let facts = floor_facts (neg_ℤ d.units) b (pow-ten_pos d.scale) in
    let same : neg_ℤ f *ℤ pos b ≡ neg_ℤ (f *ℤ pos b) = times-neg f b in
    let less : (neg_ℤ f -ℤ pos 1) *ℤ pos b ≡ neg_ℤ ((f +ℤ pos 1) *ℤ pos b) = ap (λ (x : ℤ). x *ℤ pos b) (one_less f) ∙ times-neg (f +ℤ pos 1) b in
    record { scale = refl; reached = omega (arith, ints); previous = omega (arith, ints) }

-- ---- rescaling

pub round-exact : (z : ℤ) (t : ℕ) → 0 < t → round (z *ℤ pos t) t ≡ z
round-exact (pos n) t some = ap (λ (x : ℕ). pos x) (quotient_from (2 * (n * t) + t) (2 * t) n t (omega arith) (omega arith))
round-exact (negsuc n) t some =
    let whole : rounded_half_up (suc n * t) t ≡ suc n = quotient_from (2 * (suc n * t) + t) (2 * t) (suc n) t (omega arith) (omega arith) in
    round-neg (pos (suc n * t)) t some ∙ ap (λ (x : ℕ). neg_ℤ (pos x)) whole

within_ok : (t : Bool) (d e : Decimal) → cond t (Ok d) (Err Overflow) ≡ (let ok : Result Decimal DecFault = Ok e in ok) → (t ≡ true) × (d ≡ e)
within_ok true d e h = (refl, cc)
within_ok false d e h = cc

back_units : (d : Decimal) (s : ℕ) → d.scale ≤ s → (d.scale < s) ⊎ (s ≤ d.scale) → cond (leb s d.scale) (units_at d.scale (record { units = units_at s d; scale = s })) (round (units_at s d) (10 ^ (s - d.scale))) ≡ d.units
back_units d s h (inl less) =
    let test : leb s d.scale ≡ false = grind (arith, nat_tests) in
    let of : Bool → ℤ = λ t. cond t (units_at d.scale (record { units = units_at s d; scale = s })) (round (units_at s d) (10 ^ (s - d.scale))) in
    ap of test ∙ round-exact d.units (10 ^ (s - d.scale)) (pow-ten_pos (s - d.scale))
back_units d s h (inr ge) =
    let test : leb s d.scale ≡ true = grind (arith, nat_tests) in
    let of : Bool → ℤ = λ t. cond t (units_at d.scale (record { units = units_at s d; scale = s })) (round (units_at s d) (10 ^ (s - d.scale))) in
    ap of test ∙ units_at-same d.scale (record { units = units_at s d; scale = s }) (omega arith) ∙ units_at-same s d (omega arith)

pub rescale_back : RescaleReturns
rescale_back d e p s h is =
    let scales : leb d.scale s ≡ true = grind (arith, nat_tests) in
    let of : Bool → Result Decimal DecFault = λ t. spec.within p (cond t (units_at s d) (round d.units (10 ^ (d.scale - s)))) s in
    let inside = within_ok (is_within p (units_at s d)) (record { units = units_at s d; scale = s }) e (sym (ap of scales) ∙ is) in
    let small : unsigned_abs (units_at s d) < 10 ^ p = let test = inside.0 in grind (arith, nat_tests) in
    let size : unsigned_abs (units_at s d) ≡ unsigned_abs d.units * 10 ^ (s - d.scale) = unsigned_abs-raised d.units (10 ^ (s - d.scale)) in
    let grows : unsigned_abs d.units * 1 ≤ unsigned_abs d.units * 10 ^ (s - d.scale) = mul-le-mul_left (unsigned_abs d.units) (pow-ten_pos (s - d.scale)) in
    let fits : is_within p d.units ≡ true = is_within_yes p d.units (omega arith) in
    let last : Bool → Result Decimal DecFault = λ t. cond t (Ok d) (Err Overflow) in
    ap (λ (x : Decimal). spec.rescale p d.scale x) (sym inside.1)
    ∙ ap (λ (u : ℤ). spec.within p u d.scale) (back_units d s h (cases_lt d.scale s))
    ∙ ap last fits

-- ---- a quotient times the divisor

near_moved : (a b : ℤ) (t : ℕ) → 0 < unsigned_abs b → 2 * unsigned_abs (a *ℤ pos t -ℤ round (moved_sign b a *ℤ pos t) (unsigned_abs b) *ℤ b) ≤ unsigned_abs b
near_moved a (pos m) t some = let is = round_nearest (a *ℤ pos t) m some in is.near
near_moved a (negsuc m) t some =
    let n : ℤ = neg_ℤ a *ℤ pos t in
    let q : ℤ = round n (suc m) in
    let is = round_nearest n (suc m) some in
    let turn : n ≡ neg_ℤ (a *ℤ pos t) = times-neg a t in
    let times : q *ℤ negsuc m ≡ neg_ℤ (q *ℤ pos (suc m)) = *ℤ-negsuc q m in
    let same : a *ℤ pos t -ℤ neg_ℤ (q *ℤ pos (suc m)) ≡ neg_ℤ (n -ℤ q *ℤ pos (suc m)) = omega (arith, ints) in
    let size = ap (λ (z : ℤ). unsigned_abs (a *ℤ pos t -ℤ z)) times ∙ ap unsigned_abs same ∙ unsigned_abs-neg (n -ℤ q *ℤ pos (suc m)) in
    omega (arith, size, is.near)

div_ok : (t u : Bool) (d e : Decimal) → cond t (Err DivideByZero) (cond u (Ok d) (Err Overflow)) ≡ (let ok : Result Decimal DecFault = Ok e in ok) → (t ≡ false) × (d ≡ e)
div_ok true u d e h = cc
div_ok false true d e h = (refl, cc)
div_ok false false d e h = cc

pub quotient_near : QuotientIsNear
quotient_near a b q divided =
    let s : ℕ = spec.quotient_scale a b in
    let u : ℤ = round (spec.numerator a b) (unsigned_abs b.units) in
    let found = div_ok (is_zero b.units) (is_within 38 u) (record { units = u; scale = s }) q divided in
    let some : 0 < unsigned_abs b.units = let test = found.0 in grind (arith, nat_tests) in
    let near : 2 * unsigned_abs (units_at (s + b.scale) a -ℤ u *ℤ b.units) ≤ unsigned_abs b.units = near_moved a.units b.units (10 ^ (s + b.scale - a.scale)) some in
    let P : Decimal → Type 0 = λ x. 2 * unsigned_abs (units_at (x.scale + b.scale) a -ℤ x.units *ℤ b.units) ≤ unsigned_abs b.units in
    let Q : Decimal → Type 0 = λ x. 2 * unsigned_abs (units_at x.scale a -ℤ x.units) ≤ unsigned_abs b.units in
    let exact : P q = subst P found.1 near in
    record {
      exact = exact;
      product = λ m multiplied.
          let is = within_ok (is_within 38 (q.units *ℤ b.units)) (record { units = q.units *ℤ b.units; scale = q.scale + b.scale }) m multiplied in
          subst Q is.1 exact;
    }
