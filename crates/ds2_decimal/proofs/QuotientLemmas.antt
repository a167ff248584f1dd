-- Long division: a quotient grows by a group of digits, and a group is found by an estimate.
use Rattle.std.proofs.Common.{◌≡◌, ℕ, ◌+◌, ◌-◌, ◌*◌, ◌/◌, ◌%◌, ◌^◌, ◌<◌, ◌≤◌, Option, Some, None, Bool, true, false, ltb, cond, refl, sym, ap, subst, ◌∙◌, arith}
use Rattle.std.proofs.Math.Nat.{mul-lt-mul_of_pos_right, mul-le-mul_right, lt_of_mul-lt-mul_right, pow-zero, div-le_self}
use Rattle.std.proofs.lemmas.Nat.{div-mul-add, mod-mul-add, div-add-mod', mod_below, div_below, mul-le, pow-add}
use Rattle.std.proofs.lemmas.Bool.Decides.{nat_tests}
use Rattle.ds2_decimal.specs.Steps.{quotient_and_rest}
use Rattle.ds2_decimal.proofs.TenPowers.{pow-ten_pos, pow-ten_le, pow-ten_split}

-- ---- a group by an estimate

-- the high digits of the divisor, what stands below them, the estimate and what stands beside it
abbrev pub high : ℕ → ℕ → ℕ
high d b = d / b

abbrev pub low : ℕ → ℕ → ℕ
low d b = d - d / b * b

abbrev pub estimate : ℕ → ℕ → ℕ → ℕ
estimate r b d = r / (d / b + 1)

abbrev pub beside : ℕ → ℕ → ℕ → ℕ
beside r b d = r - r / (d / b + 1) * (d / b + 1)

abbrev pub left : ℕ → ℕ → ℕ → ℕ
left r b d = b * (estimate r b d + beside r b d) - estimate r b d * low d b

-- over plain numbers: d is h * b + l, and r is e * (h + 1) + s
pub record Estimated (r b d h l e s : ℕ) : Type 0 where
  pub below : e * l ≤ b * (e + s)
  pub room : b * (e + s) < 2 * d
  pub whole : r * b + e * l ≡ e * d + b * (e + s)

pub estimated : (r b d h l e s : ℕ) → r < d → 0 < b → b * b ≤ d → h * b + l ≡ d → l < b → e * (h + 1) + s ≡ r → s ≤ h → Estimated r b d h l e s
estimated r b d h l e s r-d some square d-is l-b r-is s-h =
    let small : e < b = lt_of_mul-lt-mul_right (h + 1) (omega arith) in
    let first : e * b < b * b = mul-lt-mul_of_pos_right small some in
    let second : s * b ≤ h * b = mul-le-mul_right b s-h in
    let third : l * e ≤ b * e = mul-le-mul_right e (omega arith) in
    let scaled = ap (λ (x : ℕ). x * b) r-is in
    let divided = ap (λ (x : ℕ). e * x) d-is in
    record { below = omega arith; room = omega arith; whole = omega arith }

pub estimated_at : (r b d : ℕ) → r < d → 0 < b → b * b ≤ d → Estimated r b d (high d b) (low d b) (estimate r b d) (beside r b d)
estimated_at r b d r-d some square =
    let split : d / b * b + d % b ≡ d = div-add-mod' d b in
    let small : d % b < b = mod_below d b some in
    let parts : r / (d / b + 1) * (d / b + 1) + r % (d / b + 1) ≡ r = div-add-mod' r (d / b + 1) in
    let under : r % (d / b + 1) < d / b + 1 = mod_below r (d / b + 1) (omega arith) in
    estimated r b d (high d b) (low d b) (estimate r b d) (beside r b d) r-d some square (omega arith) (omega arith) (omega arith) (omega arith)

-- what division gives of a sum of whole divisors and a rest
pub quotient_from : (n d q r : ℕ) → n ≡ q * d + r → r < d → n / d ≡ q
quotient_from n d q r e h = ap (λ (m : ℕ). m / d) e ∙ div-mul-add q d r h

pub rest_from : (n d q r : ℕ) → n ≡ q * d + r → r < d → n % d ≡ r
rest_from n d q r e h = ap (λ (m : ℕ). m % d) e ∙ mod-mul-add q d r h

-- ---- one group more

pub next_whole : (m p d : ℕ) → 0 < d → m * p ≡ (m / d * p + m % d * p / d) * d + m % d * p % d
next_whole m p d h =
    let whole = ap (λ (x : ℕ). x * p) (div-add-mod' m d) in
    let group = div-add-mod' (m % d * p) d in
    omega (arith, whole, group)

pub next_quotient : (m p d : ℕ) → 0 < d → m * p / d ≡ m / d * p + m % d * p / d
next_quotient m p d h = quotient_from (m * p) d (m / d * p + m % d * p / d) (m % d * p % d) (next_whole m p d h) (mod_below (m % d * p) d h)

pub next_rest : (m p d : ℕ) → 0 < d → m * p % d ≡ m % d * p % d
next_rest m p d h = rest_from (m * p) d (m / d * p + m % d * p / d) (m % d * p % d) (next_whole m p d h) (mod_below (m % d * p) d h)

-- a group and its square
pub square-pow : (k : ℕ) → 10 ^ k * 10 ^ k ≡ 10 ^ (2 * k)
square-pow k =
    let twice : k + k ≡ 2 * k = omega arith in
    sym (pow-add 10 k k) ∙ ap (λ (i : ℕ). 10 ^ i) twice

-- ---- the loop: j zeros are left of z

pub record HasDivided (n z d j q r : ℕ) : Type 0 where
  pub zeros : j ≤ z
  pub quotient : q ≡ n * 10 ^ (z - j) / d
  pub rest : r ≡ n * 10 ^ (z - j) % d
  pub digits : q < 10 ^ 38

-- k zeros more
zeros_more : (n z j k : ℕ) → j ≤ z → k ≤ j → n * 10 ^ (z - j) * 10 ^ k ≡ n * 10 ^ (z - (j - k))
zeros_more n z j k h g =
    let both : z - (j - k) ≡ z - j + k = omega arith in
    let more : 10 ^ (z - (j - k)) ≡ 10 ^ (z - j) * 10 ^ k = ap (λ (i : ℕ). 10 ^ i) both ∙ pow-add 10 (z - j) k in
    let times = ap (λ (x : ℕ). n * x) more in
    omega (arith, times)

pub HasDivided-none : (n z d q r : ℕ) → 0 < d → n < 10 ^ 38 → q ≡ n / d → r ≡ n - n / d * d → HasDivided n z d z q r
HasDivided-none n z d q r some small q-is r-is =
    let none : z - z ≡ 0 = omega arith in
    let alone : n * 1 ≡ n = omega arith in
    let same : n * 10 ^ (z - z) ≡ n = ap (λ (i : ℕ). n * 10 ^ i) none ∙ ap (λ (i : ℕ). n * i) (pow-zero 10) ∙ alone in
    let split : n / d * d + n % d ≡ n = div-add-mod' n d in
    record {
      zeros = omega arith;
      quotient = q-is ∙ sym (ap (λ (m : ℕ). m / d) same);
      rest = omega (arith, ap (λ (m : ℕ). m % d) same);
      digits = omega (arith, div-le_self n d);
    }

pub HasDivided-more : (n z d j k q r q' r' : ℕ) → 0 < d → k ≤ j → k ≤ 38 → HasDivided n z d j q r → q < 10 ^ (38 - k) → q' ≡ r * 10 ^ k / d → r' ≡ r * 10 ^ k % d → HasDivided n z d (j - k) (q * 10 ^ k + q') r'
HasDivided-more n z d j k q r q' r' some g k-bound before room q'-is r'-is =
    let m : ℕ = n * 10 ^ (z - j) in
    let at : m * 10 ^ k ≡ n * 10 ^ (z - (j - k)) = zeros_more n z j k before.zeros g in
    let whole = next_quotient m (10 ^ k) d some in
    let left = next_rest m (10 ^ k) d some in
    let rest : r < d = let P : ℕ → Type 0 = λ x. x < d in subst P (sym before.rest) (mod_below m d some) in
    let tens : 0 < 10 ^ k = pow-ten_pos k in
    let group : r * 10 ^ k / d < 10 ^ k = div_below (r * 10 ^ k) d (10 ^ k) some (omega (arith, mul-lt-mul_of_pos_right rest tens)) in
    let q-max : (q + 1) * 10 ^ k ≤ 10 ^ (38 - k) * 10 ^ k = mul-le-mul_right (10 ^ k) (omega arith) in
    let quotients : q * 10 ^ k + q' ≡ m / d * 10 ^ k + m % d * 10 ^ k / d = rw (q'-is, before.quotient, before.rest) refl in
    let rests : r' ≡ m % d * 10 ^ k % d = rw (r'-is, before.rest) refl in
    record {
      zeros = omega (arith, before.zeros);
      quotient = quotients ∙ sym whole ∙ ap (λ (x : ℕ). x / d) at;
      rest = rests ∙ sym left ∙ ap (λ (x : ℕ). x % d) at;
      digits = omega (arith, pow-ten_split 38 k k-bound);
    }

-- the quotient is already too large
pub HasDivided-passes : (n z d j k q r : ℕ) → 0 < d → k ≤ j → k ≤ 38 → HasDivided n z d j q r → 10 ^ (38 - k) ≤ q → 10 ^ 38 ≤ n * 10 ^ z / d
HasDivided-passes n z d j k q r some g k-bound before large =
    let m : ℕ = n * 10 ^ (z - j) in
    let all : z - (j - j) ≡ z = omega arith in
    let at : m * 10 ^ j ≡ n * 10 ^ z = zeros_more n z j j before.zeros (omega arith) ∙ ap (λ (i : ℕ). n * 10 ^ i) all in
    let whole : m * 10 ^ j / d ≡ m / d * 10 ^ j + m % d * 10 ^ j / d = next_quotient m (10 ^ j) d some in
    let same : m * 10 ^ j / d ≡ n * 10 ^ z / d = ap (λ (x : ℕ). x / d) at in
    let tens : 10 ^ (38 - k) * 10 ^ k ≤ m / d * 10 ^ j = mul-le (10 ^ (38 - k)) (10 ^ k) (m / d) (10 ^ j) (omega (arith, before.quotient)) (pow-ten_le k j g) in
    omega (arith, pow-ten_split 38 k k-bound)

-- what the loop answers
pub answer_some : (n z d q r : ℕ) → HasDivided n z d 0 q r → quotient_and_rest n z d ≡ Some (q, r)
answer_some n z d q r done =
    let e : z - 0 ≡ z = omega arith in
    let q-is : n * 10 ^ z / d ≡ q = sym (done.quotient ∙ ap (λ (i : ℕ). n * 10 ^ i / d) e) in
    let r-is : n * 10 ^ z % d ≡ r = sym (done.rest ∙ ap (λ (i : ℕ). n * 10 ^ i % d) e) in
    let small : ltb q (10 ^ 38) ≡ true = let digits = done.digits in grind (arith, nat_tests) in
    let of : ℕ → ℕ → Option (ℕ × ℕ) = λ x y. cond (ltb x (10 ^ 38)) (Some (x, y)) None in
    let yes : Bool → Option (ℕ × ℕ) = λ t. cond t (Some (q, r)) None in
    ap (λ (x : ℕ). of x (n * 10 ^ z % d)) q-is ∙ ap (λ (y : ℕ). of q y) r-is ∙ ap yes small

pub answer_none : (n z d : ℕ) → 10 ^ 38 ≤ n * 10 ^ z / d → quotient_and_rest n z d ≡ None
answer_none n z d large =
    let test : ltb (n * 10 ^ z / d) (10 ^ 38) ≡ false = grind (arith, nat_tests) in
    let no : Bool → Option (ℕ × ℕ) = λ t. cond t (Some (n * 10 ^ z / d, n * 10 ^ z % d)) None in
    ap no test
