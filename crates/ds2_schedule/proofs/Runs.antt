-- How many runs there are, and where they lie.
use Rattle.std.proofs.Common.{◌≡◌, ℕ, ◌+◌, ◌-◌, ◌*◌, ◌/◌, ◌^◌, ◌<◌, ◌≤◌, sym, ap, ◌∙◌, refl, arith, inl, inr}
use Rattle.std.specs.Prelude.{min, max}
use Rattle.std.proofs.lemmas.Bool.{cases_lt}
use Rattle.std.proofs.Math.Nat.{mul-le-mul_left, add-mul-div_left, div-lt_iff_lt-mul, div-eq_of_lt, lt-div-mul-add}
use Rattle.ds2_schedule.specs.Runs.{run_length, run_count, RunsAreLeast, SomeCuts}

-- the runs hold all groups
pub enough : (m l : ℕ) → 1 ≤ l → m ≤ run_count m l * l
unfolding run_count
enough m l h = let e = lt-div-mul-add {a = m + (l - 1)} {b = l} (omega (arith, h)) in omega (arith, e, h)

least : (m l k : ℕ) → 1 ≤ l → m ≤ k * l → run_count m l ≤ k
unfolding run_count
least m l k h low =
    let e : m + (l - 1) < (k + 1) * l = omega (arith, h, low) in
    omega (arith, (div-lt_iff_lt-mul {k = l} {x = m + (l - 1)} {y = k + 1} (omega (arith, h))).1 e)

pub runs_are_least : RunsAreLeast
runs_are_least m l h = (enough m l h, λ k low. least m l k h low)

pub one_at_least : (m w : ℕ) → 1 ≤ run_length m w
unfolding run_length
one_at_least m w = omega arith

pub some_cuts : SomeCuts
unfolding run_length run_count
some_cuts = record {
  none = record { run = refl; runs = refl; last = refl };
  ten = record { run = refl; runs = refl; last = refl };
  hundred = record { run = refl; runs = refl; last = refl };
  thousand = record { run = refl; runs = refl; last = refl };
}

le_times : (m l : ℕ) → m ≤ 2 ^ 58 → 1 ≤ l → m ≤ 2 ^ 58 * l
le_times m l low one = let e = mul-le-mul_left {m = 1} {n = l} (2 ^ 58) one in omega (arith, e, low)

-- a stage whose number of groups fits has at most 2 ^ 58 runs
pub few_runs : (m w : ℕ) → m < 2 ^ 64 → 1 ≤ w → w ≤ 64 → run_count m (run_length m w) ≤ 2 ^ 58
unfolding run_length
few_runs m w small some most =
    let l = max 1 (min 64 (m / (4 * w))) in
    let one : 1 ≤ l = omega arith in
    elim (cases_lt (m / (4 * w)) 64) [
      | inl short ↦ (
          let low = (div-lt_iff_lt-mul {k = 4 * w} {x = m} {y = 64} (omega (arith, some))).0 short in
          let much : m ≤ 2 ^ 58 = omega (arith, low, most) in
          (runs_are_least m l one).1 (2 ^ 58) (le_times m l much one))
      | inr long ↦ (let is : l ≡ 64 = omega (arith, long) in (runs_are_least m l one).1 (2 ^ 58) (omega (arith, small, is)))
    ]

-- a run that is there begins below m, and the runs behind the last one do not
pub begins_inside : (m l d : ℕ) → 1 ≤ l → d < run_count m l → d * l < m
begins_inside m l d some low = elim (cases_lt (d * l) m) [
  | inl t ↦ t
  | inr past ↦ absurd (let e = (runs_are_least m l some).1 d past in omega (arith, e, low))
]

pub no_runs : (l : ℕ) → 1 ≤ l → 0 ≡ run_count 0 l
unfolding run_count
no_runs l some = sym (div-eq_of_lt {n = 0 + (l - 1)} {m = l} (omega (arith, some)))

pub more_runs : (m l : ℕ) → 0 < m → 1 ≤ l → (m - 1) / l + 1 ≡ run_count m l
unfolding run_count
more_runs m l some long =
    let e : m + (l - 1) ≡ m - 1 + l * 1 = omega (arith, some, long) in
    sym (ap (λ (k : ℕ). k / l) e ∙ add-mul-div_left (m - 1) 1 {y = l} (omega (arith, long)))
