-- What a seat's range_with_len tell.
use Rattle.std.proofs.Common.{◌≡◌, ℕ, ◌+◌, [], ◌∷◌, arith, inl, inr}
use Rattle.std.specs.Prelude.{if◌then◌else◌, ◌==◌}
use Rattle.std.proofs.lemmas.Bool.Decides.{nat_tests}
use Rattle.std.proofs.lemmas.Bool.{cases_eq}
use Rattle.ds2_schedule.specs.Runs.{once_below}
use Rattle.ds2_schedule.specs.Numbers.{DrawsTheNext, StillAscends}
use Rattle.ds2_schedule.proofs.Counts.{times-append}
use Rattle.ds2_schedule.proofs.Ascending.{append_ascends}

pub draws_the_next : DrawsTheNext
draws_the_next shown k d next before now =
    let at : (x : ℕ) → once_below x k + (if d == x then 1 else 0) ≡ once_below x next = λ x. omega (arith, before x, now x, times-append x shown (d ∷ [])) in
    let here = at d in
    let same : d ≡ k = elim (cases_eq d k) [
      | inl e ↦ e
      | inr n ↦ absurd (let there = at k in let no : ⊥ = grind (arith, nat_tests, here, there, n) in no)
    ] in
    let above = at (k + 1) in
    (same, grind (arith, nat_tests, here, above, same))

pub still_ascends : StillAscends
still_ascends shown d up high = append_ascends d shown (d ∷ []) up (tt, tt) high (omega arith, tt)
