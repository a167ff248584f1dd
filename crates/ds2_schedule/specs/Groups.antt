-- Units over groups of loads: what a group gives, when groups are independent at a grain, and what a stage gives on one thread and on many.
use Rattle.std.specs.Prelude.{◌≡◌, ℕ, List, [], ◌∷◌, Bool, true, false, Option, Some, None, length, slice_get}
use Rattle.std.specs.List.{flat_map}
use Rattle.ds2_schedule.specs.Stage.{StageStep, is_legal, is_complete}
use Rattle.ds2_schedule.specs.Schedule.{GroupProgram, FixedPart, Agree, AgreeAsStates, IsCarried, results, in_order, one_thread}

-- How a unit ended: normally, in a state, or by a fault; and what it gave (its rows, lines, ending and way, or count).
pub data UnitRun (S O : Type 0) : Type 0 where
  Normally : S → O → UnitRun S O
  ByFault : O → UnitRun S O

-- The units of a stage on a budget: `run` on a load, and `term`. What several runs gave is put together by `and_then`, and `nothing` is what no run gives.
pub record StageUnits (S L O : Type 0) : Type 0 where
  pub run : ℕ → L → S → UnitRun S O
  pub term : ℕ → S → UnitRun S O
  pub nothing : O
  pub and_then : O → O → O

-- Putting together goes from left to right, and nothing adds nothing.
pub record IsJoining {S L O : Type 0} (u : StageUnits S L O) : Type 0 where
  pub from_nothing : (o : O) → u.and_then u.nothing o ≡ o
  pub to_nothing : (o : O) → u.and_then o u.nothing ≡ o
  pub in_turn : (a b c : O) → u.and_then (u.and_then a b) c ≡ u.and_then a (u.and_then b c)

-- What was given before, put in front of a run.
abbrev pub with_before : {S L O : Type 0} → StageUnits S L O → O → UnitRun S O → UnitRun S O
with_before u before (Normally s o) = Normally s (u.and_then before o)
with_before u before (ByFault o) = ByFault (u.and_then before o)

-- A run, and then what goes on from the state that it left; nothing goes on behind a fault.
abbrev pub then_from : {S L O : Type 0} → StageUnits S L O → UnitRun S O → (S → UnitRun S O) → UnitRun S O
then_from u (Normally s o) go = with_before u o (go s)
then_from u (ByFault o) go = ByFault o

-- The fold of `run` over loads.
abbrev pub run_loads : {S L O : Type 0} → StageUnits S L O → ℕ → List L → S → UnitRun S O
run_loads u budget [] s = Normally s u.nothing
run_loads u budget (l ∷ loads) s = then_from u (u.run budget l s) (run_loads u budget loads)

-- What one thread gives: the loads of all groups in turn, and then `term`.
abbrev pub stage_run : {S L O : Type 0} → StageUnits S L O → ℕ → List L → S → UnitRun S O
stage_run u budget loads s = then_from u (run_loads u budget loads s) (u.term budget)

-- Two runs give the same, and end alike: after a normal ending each in a state that agrees with the one it began with.
abbrev pub IsSameRun : {S O : Type 0} → (S → S → Type 0) → S → S → UnitRun S O → UnitRun S O → Type 0
IsSameRun agrees s t (Normally u o) (Normally v q) = (o ≡ q) × agrees u s × agrees v t
IsSameRun agrees s t (ByFault o) (ByFault q) = o ≡ q
IsSameRun agrees s t _ _ = ⊥

-- Two runs give the same, and end alike.
abbrev pub IsSameEnd : {S O : Type 0} → UnitRun S O → UnitRun S O → Type 0
IsSameEnd (Normally u o) (Normally v q) = o ≡ q
IsSameEnd (ByFault o) (ByFault q) = o ≡ q
IsSameEnd _ _ = ⊥

-- Two loads set the same names to the same values, but for the values of early ones.
abbrev pub SameButEarly : {N V : Type 0} → (N → Bool) → List (N × V) → List (N × V) → Type 0
SameButEarly early [] [] = Unit {0}
SameButEarly early (x ∷ xs) (y ∷ ys) = (x.0 ≡ y.0) × (early x.0 ≡ false → x.1 ≡ y.1) × SameButEarly early xs ys
SameButEarly early _ _ = ⊥

-- Two lists of loads that are the same but for early names, load by load.
abbrev pub AreSameButEarly : {N V : Type 0} → (N → Bool) → List (List (N × V)) → List (List (N × V)) → Type 0
AreSameButEarly early [] [] = Unit {0}
AreSameButEarly early (l ∷ ls) (k ∷ ks) = SameButEarly early l k × AreSameButEarly early ls ks
AreSameButEarly early _ _ = ⊥

-- A stage is group independent at a grain, for every budget: two groups at that grain that are the same but for the flags of the BY variables before it (the early names) run the same from any two states that agree on the fixed locations, and `term` ends the same from any two such states.
pub record IsGroupIndependent {S N V O : Type 0} (u : StageUnits S (List (N × V)) O) (IsGroup : List (List (N × V)) → Type 0) (early : N → Bool) (agrees : S → S → Type 0) : Type 0 where
  pub groups : (budget : ℕ) (ls ks : List (List (N × V))) (s t : S) → IsGroup ls → IsGroup ks → AreSameButEarly early ls ks → agrees s t
      → IsSameRun agrees s t (run_loads u budget ls s) (run_loads u budget ks t)
  pub terms : (budget : ℕ) (s t : S) → agrees s t → IsSameEnd (u.term budget s) (u.term budget t)

-- One of the groups of a stage.
abbrev pub IsAmongGroups : {L : Type 0} → List (List L) → List L → Type 0
IsAmongGroups groups loads = (g : ℕ) × (slice_get groups g ≡ Some loads)

-- What a run gave, and whether it ended by a fault.
pub record Given (O : Type 0) : Type 0 where
  pub gave : O
  pub faulted : Bool

-- What a run of units gave.
abbrev pub given_by : {S O : Type 0} → UnitRun S O → Given O
given_by (Normally s o) = record { gave = o; faulted = false }
given_by (ByFault o) = record { gave = o; faulted = true }

-- The state that a run left; after a fault the one before it.
abbrev pub state_left : {S O : Type 0} → S → UnitRun S O → S
state_left s (Normally t o) = t
state_left s (ByFault o) = s

-- The loads of group g.
abbrev pub loads_of : {L : Type 0} → Option (List L) → List L
loads_of None = []
loads_of (Some loads) = loads

-- The groups of a stage as a program: a group's result is what the fold of `run` over its loads gives.
abbrev pub stage_program : {S L O : Type 0} → StageUnits S L O → (O → ℕ) → ℕ → List (List L) → GroupProgram S (Given O)
stage_program u rows budget groups = record {
  result = λ s g. given_by (run_loads u budget (loads_of (slice_get groups g)) s);
  leaves = λ s g. state_left s (run_loads u budget (loads_of (slice_get groups g)) s);
  rows = λ o. rows o.gave;
  faults = λ o. o.faulted;
}

-- What one run gave, in front of what came after it; nothing comes after a fault.
abbrev pub in_front_of : {S L O : Type 0} → StageUnits S L O → Given O → Given O → Given O
in_front_of u o rest = record { gave = u.and_then o.gave rest.gave; faulted = rest.faulted }

-- What came up to here where it ended by a fault, and else all of it.
abbrev pub unless_faulted : {O : Type 0} → Bool → Given O → Given O → Given O
unless_faulted true o rest = o
unless_faulted false o rest = rest

-- Results put together in order, and then the last one, up to the first fault.
abbrev pub put_together : {S L O : Type 0} → StageUnits S L O → List (Given O) → Given O → Given O
put_together u [] last = last
put_together u (o ∷ os) last = unless_faulted o.faulted o (in_front_of u o (put_together u os last))

-- Where every value is a state, groups that are independent between values that agree are independent between states.
abbrev pub AllAreStates : Type 0 → Type 0 → Type 0 → Type 0 → Type 0 → Type 0 → Type 0
AllAreStates S K C N V O = (u : StageUnits S (List (N × V)) O) (fixed : FixedPart S K C) (early : N → Bool) (groups : List (List (List (N × V))))
    → IsGroupIndependent u (IsAmongGroups groups) early (Agree fixed) → IsGroupIndependent u (IsAmongGroups groups) early (AgreeAsStates (λ s. true) fixed)

-- A history of the groups of a stage is whole: it is legal and complete, and each party carries a state, the first one at the beginning.
pub record IsWholeHistory {S O : Type 0} (p : GroupProgram S O) (groups workers : ℕ) (first : S) (xs : List StageStep) : Type 0 where
  pub legal : is_legal groups workers xs ≡ true
  pub carried : IsCarried p workers first xs
  pub complete : is_complete groups workers xs ≡ true

-- What is handed in by a history of the groups of a stage, in order of group, up to and with the least fault.
abbrev pub results_by_group : {S O : Type 0} → GroupProgram S O → (groups workers : ℕ) → S → List StageStep → List O
results_by_group p groups workers first xs = in_order p.faults (results p workers first xs) 0 groups

-- The loads of all groups, one group behind the other.
abbrev pub loads_in_turn : {L : Type 0} → List (List L) → List L
loads_in_turn groups = flat_map (λ g. g) groups

-- Many workers give what one thread gives.
pub record GivesAsOneThread {S N V O : Type 0} (u : StageUnits S (List (N × V)) O) (rows : O → ℕ) (budget : ℕ) (groups : List (List (List (N × V)))) (workers : ℕ) (first : S) (xs : List StageStep) : Type 0 where
  -- group by group, where one thread runs each group from the state that the one before it left
  pub by_group : results_by_group (stage_program u rows budget groups) (length groups) workers first xs ≡ one_thread (stage_program u rows budget groups) first 0 (length groups)
  -- put together, with `term` from the first state behind them
  pub together : put_together u (results_by_group (stage_program u rows budget groups) (length groups) workers first xs) (given_by (u.term budget first)) ≡ given_by (stage_run u budget (loads_in_turn groups) first)

-- Every stage whose groups are independent gives on many workers what it gives on one thread, from a first state of the program, whatever whole history they have. S are its states, K the locations and C what they hold, N and V what a load sets, and O what units give.
abbrev pub EveryStage : Type 0 → Type 0 → Type 0 → Type 0 → Type 0 → Type 0 → Type 0
EveryStage S K C N V O = (u : StageUnits S (List (N × V)) O) (rows : O → ℕ) (is_state : S → Bool) (fixed : FixedPart S K C) (early : N → Bool) (budget : ℕ) (groups : List (List (List (N × V)))) (workers : ℕ) (first : S) (xs : List StageStep)
    → IsJoining u → IsGroupIndependent u (IsAmongGroups groups) early (AgreeAsStates is_state fixed) → is_state first ≡ true
    → IsWholeHistory (stage_program u rows budget groups) (length groups) workers first xs → GivesAsOneThread u rows budget groups workers first xs
