-- Powers of ten, and numbers with zeros in front.
use Rattle.std.proofs.Common.{◌≡◌, ◌^◌, ◌*◌, ◌-◌, ◌<◌, ◌≤◌, ◌++◌, ℕ, List, [], length, false, arith, Fits, ap}
use Rattle.std.specs.Int.{w128}
use Rattle.std.specs.Prelude.{replicate}
use Rattle.std.proofs.Math.Nat.{one-le-pow, pow-le-pow_right}
use Rattle.std.proofs.lemmas.List.{append-nil}
use Rattle.std.specs.Fmt.{decimal, padded_integral, format_spec, char_count, styled_decimal}
use Rattle.std.proofs.lemmas.Bool.{ne_eqb}
use Rattle.ds2_value.specs.DecimalText.{wide}

pub ten-below : (i : ℕ) → i ≤ 37 → 10 ^ i ≤ 10 ^ 37
ten-below i h = pow-le-pow_right (omega arith) h

pub ten-times-fits : (u i : ℕ) → u ≡ 10 ^ i → i < 38 → Fits w128 (u * 10)
ten-times-fits u i e h =
    let k : 10 ^ i ≤ 10 ^ 37 = ten-below i (omega arith) in
    record { fits = rw e (omega arith) }

pub ten-positive : (u i : ℕ) → u ≡ 10 ^ i → 0 < u
ten-positive u i e = rw e (one-le-pow i 10 (omega arith))

pub zero-padded : (w : ℕ) (ds : List ℕ) → padded_integral (format_spec 32 0 4 w 18446744073709551615) false [] ds ≡ replicate (w - length ds) 48 ++ ds
unfolding padded_integral char_count
zero-padded w ds = rw (append-nil ds) (ap (λ (n : ℕ). replicate n 48 ++ ds) (omega arith))

pub styled-wide : (w n : ℕ) → 0 < w → styled_decimal (format_spec 32 0 4 w 18446744073709551615) n ≡ wide w n
styled-wide w n h = rw (ne_eqb w 0 (λ e. absurd (omega arith))) (zero-padded w (decimal n))
