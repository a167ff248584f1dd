-- What is written of a decimal with zeros before its fraction is its text.
use Rattle.std.proofs.Common.{◌≡◌, ◌+◌, ◌*◌, ◌-◌, ◌/◌, ◌%◌, ◌^◌, ◌<◌, ◌≤◌, ◌⊎◌, inl, inr, ℕ, zero, suc, List, [], ◌∷◌, ◌++◌, length, refl, sym, ap, ◌∙◌, arith, length-append, append_assoc}
use Rattle.std.specs.Prelude.{◌==◌, replicate, if◌then◌else◌, unsigned_abs}
use Rattle.std.specs.Fmt.{decimal}
use Rattle.std.specs.Int.{is_negative}
use Rattle.std.proofs.Math.Nat.{pow-zero, pow-succ'}
use Rattle.std.proofs.lemmas.Bool.{cases_lt, ltb-true}
use Rattle.std.proofs.lemmas.Fmt.{decimal_digit, decimal_step_wide}
use Rattle.std.proofs.lemmas.List.{replicate-append-replicate}
use Rattle.std.proofs.lemmas.Nat.{div-add-mod', div-mul-add, mod-mul-add, mod_below}
use Rattle.ds2_decimal.specs.Decimal.{Decimal, IsDecimal}
use Rattle.ds2_decimal.specs.Text.{last_digits, decimal_text, written_magnitude}
use Rattle.ds2_value.specs.DecimalText.{wide}

-- m / 10 ^ s with s digits after a point, and no point for s = 0
abbrev pub fraction_text : ℕ → ℕ → List ℕ
fraction_text m s = if s == 0 then decimal m else decimal (m / 10 ^ s) ++ (46 ∷ wide s (m % 10 ^ s))

-- a minus sign below 0, at least one digit before the point, and a point with as many digits as the scale has
abbrev pub dec_text : Decimal → List ℕ
dec_text d = (if is_negative d.units then 45 ∷ [] else []) ++ fraction_text (unsigned_abs d.units) d.scale

ten-some : (k : ℕ) → 0 < 10 ^ k
ten-some zero = let e = pow-zero 10 in omega arith
ten-some (suc k) = let e = pow-succ' 10 k in let h = ten-some k in omega arith

-- the last digits of n are those of its rest
tenth : (k n : ℕ) → n % 10 ^ suc k ≡ n / 10 % 10 ^ k * 10 + n % 10
tenth k n =
    let p : ℕ = 10 ^ k in
    let some : 0 < p = ten-some k in
    let tens : 10 ^ suc k ≡ 10 * p = pow-succ' 10 k in
    let first : n / 10 * 10 + n % 10 ≡ n = div-add-mod' n 10 in
    let second : n / 10 / p * p + n / 10 % p ≡ n / 10 = div-add-mod' (n / 10) p in
    let unit : n % 10 < 10 = mod_below n 10 (omega arith) in
    let rest : n / 10 % p < p = mod_below (n / 10) p some in
    let whole : n ≡ n / 10 / p * (10 * p) + (n / 10 % p * 10 + n % 10) = omega arith in
    ap (λ (d : ℕ). n % d) tens ∙ ap (λ (m : ℕ). m % (10 * p)) whole ∙ mod-mul-add (n / 10 / p) (10 * p) (n / 10 % p * 10 + n % 10) (omega arith)

pub last-rest : (k n : ℕ) → last_digits k (n % 10 ^ k) ≡ last_digits k n
last-rest zero n = refl
last-rest (suc k) n =
    let e = tenth k n in
    let unit : n % 10 < 10 = mod_below n 10 (omega arith) in
    let front : n % 10 ^ suc k / 10 ≡ n / 10 % 10 ^ k = ap (λ (m : ℕ). m / 10) e ∙ div-mul-add (n / 10 % 10 ^ k) 10 (n % 10) unit in
    let digit : n % 10 ^ suc k % 10 ≡ n % 10 = ap (λ (m : ℕ). m % 10) e ∙ mod-mul-add (n / 10 % 10 ^ k) 10 (n % 10) unit in
    ap (λ (m : ℕ). last_digits k m ++ ((48 + n % 10 ^ suc k % 10) ∷ [])) front
    ∙ ap (λ (d : ℕ). last_digits k (n / 10 % 10 ^ k) ++ ((48 + d) ∷ [])) digit
    ∙ ap (λ (t : List ℕ). t ++ ((48 + n % 10) ∷ [])) (last-rest k (n / 10))

-- a number with zeros before it has the digits that it has as the last ones
wide-small : (k n : ℕ) → n < 10 → wide (suc k) n ≡ replicate k 48 ++ ((48 + n) ∷ [])
wide-small k n h =
    let one : suc k - 1 ≡ k = omega arith in
    ap (λ (t : List ℕ). replicate (suc k - length t) 48 ++ t) (decimal_digit n h) ∙ ap (λ (i : ℕ). replicate i 48 ++ ((48 + n) ∷ [])) one

wide-more : (k n : ℕ) → 10 ≤ n → n < 10 ^ 64 → wide (suc k) n ≡ wide k (n / 10) ++ ((48 + n % 10) ∷ [])
wide-more k n h small =
    let front : List ℕ = decimal (n / 10) in
    let c : ℕ = 48 + n % 10 in
    let less : suc k - length (front ++ (c ∷ [])) ≡ k - length front = omega (arith, length-append front (c ∷ [])) in
    ap (λ (t : List ℕ). replicate (suc k - length t) 48 ++ t) (decimal_step_wide n h small)
    ∙ ap (λ (i : ℕ). replicate i 48 ++ (front ++ (c ∷ []))) less
    ∙ sym (append_assoc (replicate (k - length front) 48) front (c ∷ []))

zeros : (k : ℕ) → last_digits k 0 ≡ replicate k 48
zeros zero = refl
zeros (suc k) =
    let more : k + 1 ≡ suc k = omega arith in
    ap (λ (t : List ℕ). t ++ (48 ∷ [])) (zeros k) ∙ replicate-append-replicate k 1 48 ∙ ap (λ (i : ℕ). replicate i 48) more

wide-digit : (k n : ℕ) → n < 10 → wide (suc k) n ≡ last_digits (suc k) n
wide-digit k n low =
    let front : n / 10 ≡ 0 = omega arith in
    let digit : n % 10 ≡ n = omega arith in
    wide-small k n low
    ∙ ap (λ (t : List ℕ). t ++ ((48 + n) ∷ [])) (sym (zeros k))
    ∙ ap (λ (m : ℕ). last_digits k m ++ ((48 + n) ∷ [])) (sym front)
    ∙ ap (λ (d : ℕ). last_digits k (n / 10) ++ ((48 + d) ∷ [])) (sym digit)

wide-last : (k n : ℕ) → n < 10 ^ suc k → n < 10 ^ 64 → wide (suc k) n ≡ last_digits (suc k) n
wide-last zero n h small =
    let e = pow-succ' 10 0 in
    let f = pow-zero 10 in
    wide-digit 0 n (omega arith)
wide-last (suc k) n h small = by (cases_lt n 10) (wide-last k (n / 10))
  where
    by : (n < 10) ⊎ (10 ≤ n) → (n / 10 < 10 ^ suc k → n / 10 < 10 ^ 64 → wide (suc k) (n / 10) ≡ last_digits (suc k) (n / 10)) → wide (suc (suc k)) n ≡ last_digits (suc (suc k)) n
    by (inl low) more = wide-digit (suc k) n low
    by (inr high) more =
        let tens = pow-succ' 10 (suc k) in
        wide-more (suc k) n high small ∙ ap (λ (t : List ℕ). t ++ ((48 + n % 10) ∷ [])) (more (omega arith) (omega arith))

-- a magnitude, and a decimal
magnitude : (m s : ℕ) → m < 10 ^ 64 → fraction_text m s ≡ written_magnitude m s
magnitude m zero small = refl
magnitude m (suc k) small =
    let p : ℕ = 10 ^ suc k in
    let parts : m / p * p + m % p ≡ m = div-add-mod' m p in
    let rest : m % p < p = mod_below m p (ten-some (suc k)) in
    ap (λ (t : List ℕ). if suc k == 0 then decimal m else decimal (m / p) ++ (46 ∷ t)) (wide-last k (m % p) rest (omega arith) ∙ last-rest (suc k) m)

small-units : (d : Decimal) → IsDecimal d → unsigned_abs d.units < 10 ^ 64
small-units d valid = let h = ltb-true (unsigned_abs d.units) (10 ^ 38) valid.digits in omega arith

pub text-written : (d : Decimal) → IsDecimal d → dec_text d ≡ decimal_text d
text-written d valid = ap (λ (t : List ℕ). (if is_negative d.units then 45 ∷ [] else []) ++ t) (magnitude (unsigned_abs d.units) d.scale (small-units d valid))
