-- A whole number in two words of 64 bits.
use Rattle.std.proofs.Common.{◌≡◌, ℕ, ◌+◌, ◌-◌, ◌*◌, ◌^◌, ◌<◌, ℤ, pos, negsuc, ◌+ℤ◌, ◌*ℤ◌, unsigned_abs, ap, ◌∙◌, arith}
use Rattle.std.specs.Int.{int_shr, int_rem_euclid}
use Rattle.std.proofs.lemmas.Int.{ints}
use Rattle.std.proofs.lemmas.Nat.{div-mul-add, mod-mul-add}

-- the number of which these are the high and the low word
abbrev pub joined : ℤ → ℕ → ℤ
joined high low = high *ℤ pos (2 ^ 64) +ℤ pos low

-- n / 2 ^ 64 rounded down
abbrev pub high_word : ℤ → ℤ
high_word n = int_shr n 64

-- what is left of n above that many times 2 ^ 64
abbrev pub low_word : ℤ → ℕ
low_word n = unsigned_abs (int_rem_euclid n (pos (2 ^ 64)))

-- a number below 0
joined_below : (h l : ℕ) → l < 2 ^ 64 → joined (negsuc h) l ≡ negsuc (h * 2 ^ 64 + (2 ^ 64 - 1 - l))
joined_below h l p = omega (arith, ints)

-- the words of a number are those of which it is made
pub high_word-joined : (high : ℤ) (low : ℕ) → low < 2 ^ 64 → high_word (joined high low) ≡ high
high_word-joined (pos h) l p = ap (λ (n : ℕ). pos n) (div-mul-add h (2 ^ 64) l p)
high_word-joined (negsuc h) l p =
    let rest : 2 ^ 64 - 1 - l < 2 ^ 64 = omega arith in
    ap (λ (n : ℤ). high_word n) (joined_below h l p) ∙ ap (λ (n : ℕ). negsuc n) (div-mul-add h (2 ^ 64) (2 ^ 64 - 1 - l) rest)

-- the low word of two words that were joined is the low one
pub low_word-joined : (high : ℤ) (low : ℕ) → low < 2 ^ 64 → low_word (joined high low) ≡ low
low_word-joined (pos h) l p = mod-mul-add h (2 ^ 64) l p
low_word-joined (negsuc h) l p =
    let rest : 2 ^ 64 - 1 - l < 2 ^ 64 = omega arith in
    let back : 2 ^ 64 - 1 - (2 ^ 64 - 1 - l) ≡ l = omega arith in
    ap (λ (n : ℤ). low_word n) (joined_below h l p) ∙ ap (λ (n : ℕ). 2 ^ 64 - 1 - n) (mod-mul-add h (2 ^ 64) (2 ^ 64 - 1 - l) rest) ∙ back
