-- A small stage for which the premises of the law on stages hold: a total of amounts at a fixed rate.
use Rattle.std.specs.Prelude.{◌≡◌, ℕ, ◌*◌, List, [], ◌∷◌, ◌++◌, Bool, true, false, length, if◌then◌else◌, ◌==◌}
use Rattle.ds2_schedule.specs.Stage.{StageStep, Draws, HandsIn, Retakes, is_legal, is_complete}
use Rattle.ds2_schedule.specs.Schedule.{FixedPart, Agree, IsCarried}
use Rattle.ds2_schedule.specs.Groups.{UnitRun, Normally, ByFault, StageUnits, IsJoining, IsGroupIndependent, IsAmongGroups, stage_program}

-- A state has a rate, which no run changes, and the amount last read. Location 0 is the rate, 1 that amount, and a load sets 2, an amount, and 3, a flag of an earlier BY variable.
pub record SampleState : Type 0 where
  pub rate : ℕ
  pub amount : ℕ

-- What the sample's two locations hold: 0 the rate, every other one the amount.
abbrev pub sample_content : SampleState → ℕ → ℕ
sample_content s k = if k == 0 then s.rate else s.amount

-- The rate is fixed, and the amount is not.
abbrev pub sample_fixed : FixedPart SampleState ℕ ℕ
sample_fixed = record { content = sample_content; is_fixed = λ k. k == 0 }

-- Which location of a load is a flag of an early BY variable.
abbrev pub is_early_flag : ℕ → Bool
is_early_flag k = k == 3

-- The amount that a load sets.
abbrev pub amount_set : List (ℕ × ℕ) → ℕ
amount_set [] = 0
amount_set (x ∷ xs) = if x.0 == 2 then x.1 else amount_set xs

-- A run keeps the amount and writes its product with the rate; no amount is a fault.
abbrev pub sample_run : ℕ → SampleState → UnitRun SampleState (List ℕ)
sample_run amount s = if amount == 0 then ByFault [] else Normally (record { rate = s.rate; amount = amount }) (s.rate * amount ∷ [])

-- The units of the sample.
abbrev pub sample_units : StageUnits SampleState (List (ℕ × ℕ)) (List ℕ)
sample_units = record {
  run = λ budget l s. sample_run (amount_set l) s;
  term = λ budget s. Normally s [];
  nothing = [];
  and_then = λ a b. a ++ b;
}

-- Three groups, of which the second has no amount in its second load.
abbrev pub sample_groups : List (List (List (ℕ × ℕ)))
sample_groups =
    (((2, 5) ∷ []) ∷ ((3, 1) ∷ (2, 6) ∷ []) ∷ []) ∷
    (((2, 7) ∷ []) ∷ ((3, 1) ∷ []) ∷ []) ∷
    (((2, 8) ∷ []) ∷ []) ∷
    []

-- The state in which the sample begins.
abbrev pub sample_start : SampleState
sample_start = record { rate = 10; amount = 0 }

-- Two workers: the second hands in the faulting group, the first ends before its group, and the caller runs that.
abbrev pub sample_history : List StageStep
sample_history = Draws 0 0 ∷ Draws 1 1 ∷ Draws 1 2 ∷ HandsIn 1 1 1 true ∷ Retakes ∷ HandsIn 2 0 2 false ∷ []

-- The premises of the law on stages hold of it.
pub record SampleMeetsPremises : Type 0 where
  pub joins : IsJoining sample_units
  pub free : IsGroupIndependent sample_units (IsAmongGroups sample_groups) is_early_flag (Agree sample_fixed)
  pub legal : is_legal (length sample_groups) 2 sample_history ≡ true
  pub is_carried : IsCarried (stage_program sample_units length 9 sample_groups) 2 sample_start sample_history
  pub complete : is_complete (length sample_groups) 2 sample_history ≡ true
