-- What a number gives, and the groups of its run.
use Rattle.std.proofs.Common.{◌≡◌, ℕ, ◌+◌, ◌-◌, ◌*◌, ◌<◌, ◌≤◌, List, [], ◌++◌, Bool, false, sym, ap, subst, ◌∙◌, arith, inl, inr}
use Rattle.std.specs.List.{range_with_len}
use Rattle.std.specs.Prelude.{min, if◌then◌else◌}
use Rattle.std.proofs.lemmas.Bool.{cases_lt}
use Rattle.std.proofs.Math.Nat.{mul-le-mul_right}
use Rattle.ds2_schedule.specs.declared.tickets.Tickets.{Tickets}
use Rattle.ds2_schedule.specs.declared.tickets.Draw.{Draw}
use Rattle.ds2_schedule.specs.declared.tickets.Draw.TheVariants.{Run, NoMore}
use Rattle.ds2_schedule.specs.Runs.{run_count, run_groups}
use Rattle.ds2_schedule.specs.Seats.{draw_of, groups_drawn, IsRun, IsInside, IsDrawStep}
use Rattle.ds2_schedule.specs.Stage.{Draws, changed_at}
use Rattle.ds2_schedule.proofs.Counts.{lt_true, lt_false}
use Rattle.ds2_schedule.proofs.Legal.{is_legal_of}
use Rattle.ds2_schedule.proofs.Runs.{enough, begins_inside}

answered : (t : Tickets) (d : ℕ) → Bool → Draw
answered t d b = if b then Run (d * t.length) (min t.groups ((d + 1) * t.length)) else NoMore d

-- a number below the last run gives its run
pub gives_run : (t : Tickets) (d to : ℕ) → d < t.runs → to ≡ min t.groups ((d + 1) * t.length) → Run (d * t.length) to ≡ draw_of t d
unfolding answered
gives_run t d to low e = ap {B = Draw} (λ (k : ℕ). Run (d * t.length) k) e ∙ sym (ap {B = Draw} (answered t d) (lt_true d t.runs low))

no_groups : (m l d : ℕ) → 1 ≤ l → run_count m l ≤ d → [] ≡ run_groups m l d
no_groups m l d one high =
    let a = enough m l one in
    let b = mul-le-mul_right {m = run_count m l} {n = d} l high in
    let e : 0 ≡ min m ((d + 1) * l) - d * l = omega (arith, a, b) in
    ap (range_with_len (d * l)) e

-- what a number gives are the groups of its run
pub gives_groups : (t : Tickets) (d : ℕ) → 1 ≤ t.length → t.runs ≡ run_count t.groups t.length → groups_drawn (draw_of t d) ≡ run_groups t.groups t.length d
unfolding answered
gives_groups t d one is = elim (cases_lt d t.runs) [
  | inl low ↦ ap {B = List ℕ} (λ (b : Bool). groups_drawn (answered t d b)) (lt_true d t.runs low)
  | inr high ↦ ap {B = List ℕ} (λ (b : Bool). groups_drawn (answered t d b)) (lt_false d t.runs high) ∙ no_groups t.groups t.length d one (omega (arith, high, is))
]

no_run : (t : Tickets) (d : ℕ) → IsRun (answered t d false) → ⊥
unfolding answered
no_run t d h = h

-- only a number below the last run gives one
pub run_is_low : (t : Tickets) (d : ℕ) (answer : Draw) → answer ≡ draw_of t d → IsRun answer → d < t.runs
unfolding answered
run_is_low t d answer e is = elim (cases_lt d t.runs) [
  | inl low ↦ low
  | inr high ↦ absurd (no_run t d (subst IsRun (e ∙ ap {B = Draw} (answered t d) (lt_false d t.runs high)) is))
]

-- a run has a group, and no group past the last
pub is_inside : (t : Tickets) (d : ℕ) → 1 ≤ t.length → t.runs ≡ run_count t.groups t.length → IsInside t (draw_of t d)
unfolding answered
is_inside t d one is = elim (cases_lt d t.runs) [
  | inl low ↦ (
      let begins = begins_inside t.groups t.length d one (omega (arith, low, is)) in
      subst (IsInside t) (sym (ap {B = Draw} (answered t d) (lt_true d t.runs low))) (omega (arith, begins, one), omega arith))
  | inr high ↦ subst (IsInside t) (sym (ap {B = Draw} (answered t d) (lt_false d t.runs high))) tt
]

-- a draw that gives the groups of its run is a step of the stage machine
pub is_draw_step : (t : Tickets) (d : ℕ) (answer : Draw) → groups_drawn answer ≡ run_groups t.groups t.length d → IsDrawStep t d answer
is_draw_step t d answer e workers w s there next = (
  is_legal_of workers s (Draws w d) (there, sym next),
  λ i. record { drawn = next i + 1; left = changed_at (λ gs. gs ++ sym e i) s.left w; handed = s.handed },
)
