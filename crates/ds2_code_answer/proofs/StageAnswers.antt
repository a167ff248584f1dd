-- The units of a stage, told one after the other, tell its one-thread answer.
use Rattle.std.proofs.Common.{◌≡◌, ℕ, ◌+◌, List, [], ◌∷◌, ◌++◌, refl, sym, ap, ◌∙◌, arith, length}
use Rattle.std.specs.List.{flat_map}
use Rattle.std.specs.Prelude.{Option, Some, None, map}
use Rattle.std.proofs.lemmas.List.{append-nil, append_assoc, map-append}
use Rattle.ds2_value.specs.Progress.{Progress, UnitOutcome, Completed, Interrupted, Strayed}
use Rattle.ds2_value.specs.declared.fault.Ending.{Ending}
use Rattle.ds2_value.specs.declared.fault.Ending.TheVariants.{Normal, Faulted}
use Rattle.ds2_value.specs.declared.value.Value.{Value}
use Rattle.ds2_table.specs.LoadLaws.{GroupsDivideLoads, one_after_another}
use Rattle.ds2_table.specs.Loads.{Load, KeyedLoad, groups}
use Rattle.ds2_table.specs.OneThread.{Units, Reads, Halted, GroupResult, group_at, joined_result, then_loads, run_all, then_unit, joined_loads, behind_loads, last_unit, run_each, alone_answer, with_groups, followed_by, nothing_left}
use Rattle.ds2_schedule.specs.Groups.{UnitRun, Normally, ByFault, IsJoining, Given, given_by, with_before, then_from, run_loads, stage_run}
use Rattle.ds2_schedule.proofs.Groups.{every_stage}
use Rattle.ds2_code.specs.Desk.{ProgramData}
use Rattle.ds2_code_answer.specs.StageTold.{StageTold, told_of_none, ending_behind, told_in_turn, told_of_unit, told_outcome, told_units, told_by_answer}
use Rattle.ds2_code_answer.specs.StageSchedules.{load_sets, groups_of_stage, stage_of_code, AnySchedule, AnyScheduleOfCode}

ending_in_turn : (a b c : Option Ending) → ending_behind (ending_behind a b) c ≡ ending_behind a (ending_behind b c)
ending_in_turn (Some Normal) b c = refl
ending_in_turn (Some (Faulted fault place)) b c = refl
ending_in_turn None b c = refl

normal_behind : (a : Option Ending) → ending_behind a (Some Normal) ≡ a
normal_behind (Some Normal) = refl
normal_behind (Some (Faulted fault place)) = refl
normal_behind None = refl

same_told : (a b : StageTold) → a.rows ≡ b.rows → a.lines ≡ b.lines → a.executed ≡ b.executed → a.ending ≡ b.ending → a ≡ b
same_told a b e f g h = λ i. record { rows = e i; lines = f i; executed = g i; ending = h i }

-- units are told from left to right
told_joins : {L C : Type 0} (units : ℕ → Units L C) → IsJoining (told_units units)
told_joins units = record {
  from_nothing = λ o. (
      let e : 0 + o.executed ≡ o.executed = omega arith in
      same_told (told_in_turn told_of_none o) o refl refl e refl);
  to_nothing = λ o. (
      let e : o.executed + 0 ≡ o.executed = omega arith in
      same_told (told_in_turn o told_of_none) o (append-nil o.rows) (append-nil o.lines) e (normal_behind o.ending));
  in_turn = λ a b c. (
      let e : (a.executed + b.executed) + c.executed ≡ a.executed + (b.executed + c.executed) = omega arith in
      same_told (told_in_turn (told_in_turn a b) c) (told_in_turn a (told_in_turn b c))
      (append_assoc a.rows b.rows c.rows) (append_assoc a.lines b.lines c.lines) e (ending_in_turn a.ending b.ending c.ending));
}

-- what is told of a run
abbrev told_run : {C : Type 0} → UnitRun C StageTold → StageTold
told_run (Normally c t) = t
told_run (ByFault t) = t

gave_is : {C : Type 0} (x : UnitRun C StageTold) → (given_by x).gave ≡ told_run x
gave_is (Normally c o) = refl
gave_is (ByFault o) = refl

-- `term` alone
told_last : {C : Type 0} (o : UnitOutcome C) → told_by_answer (then_unit o (λ d. nothing_left (Some Normal))) ≡ told_run (told_outcome o)
told_last (Completed c unit n) =
    let e : n + 0 ≡ n = omega arith in
    same_told (told_by_answer (followed_by unit n (nothing_left (Some Normal)))) (told_of_unit unit n (Some Normal)) (append-nil unit.rows) (append-nil unit.lines) e refl
told_last (Interrupted fault unit n) =
    let e : n + 0 ≡ n = omega arith in
    let at : Option Ending = Some (Faulted fault unit.place) in
    same_told (told_by_answer (followed_by unit n (nothing_left at))) (told_of_unit unit n at) (append-nil unit.rows) (append-nil unit.lines) e refl
told_last Strayed = refl

module _ {L C : Type 0} (units : ℕ → Units L C) (budget : ℕ) where
  told_before : (t : StageTold) (x : UnitRun C StageTold) → told_run (with_before (told_units units) t x) ≡ told_in_turn t (told_run x)
  told_before t (Normally c o) = refl
  told_before t (ByFault o) = refl

  before_then : (t : StageTold) (x : UnitRun C StageTold) (go : C → UnitRun C StageTold)
      → told_run (then_from (told_units units) (with_before (told_units units) t x) go) ≡ told_in_turn t (told_run (then_from (told_units units) x go))
  before_then t (Normally c o) go =
      told_before (told_in_turn t o) (go c) ∙ (told_joins units).in_turn t o (told_run (go c)) ∙ ap (told_in_turn t) (sym (told_before o (go c)))
  before_then t (ByFault o) go = refl

  -- what is told of loads with this result, and of what comes behind them
  abbrev told_behind : GroupResult C → StageTold
  told_behind r = told_by_answer (joined_loads r (behind_loads r.reached (last_unit (units budget))))

  -- a unit, and then the loads after it
  told_unit : (o : UnitOutcome C) (go : C → GroupResult C) (runs : C → UnitRun C StageTold)
      → ((c : C) → told_behind (go c) ≡ told_run (then_from (told_units units) (runs c) ((told_units units).term budget)))
      → told_behind (then_loads o go) ≡ told_run (then_from (told_units units) (then_from (told_units units) (told_outcome o) runs) ((told_units units).term budget))
  told_unit (Completed c unit n) go runs h =
      let r = go c in
      let after = behind_loads r.reached (last_unit (units budget)) in
      let t = told_of_unit unit n (Some Normal) in
      let e : (n + r.executed) + after.executed ≡ n + (r.executed + after.executed) = omega arith in
      same_told (told_behind (joined_result unit n r)) (told_in_turn t (told_behind r)) (append_assoc unit.rows r.rows after.rows) (append_assoc unit.lines r.lines after.lines) e refl
      ∙ ap (told_in_turn t) (h c)
      ∙ sym (before_then t (runs c) ((told_units units).term budget))
  told_unit (Interrupted fault unit n) go runs h =
      let e : (n + 0) + 0 ≡ n = omega arith in
      same_told (told_behind (joined_result unit n (group_at (Halted fault unit.place)))) (told_of_unit unit n (Some (Faulted fault unit.place)))
      (append-nil (unit.rows ++ []) ∙ append-nil unit.rows) (append-nil (unit.lines ++ []) ∙ append-nil unit.lines) e refl
  told_unit Strayed go runs h = refl

  told_loads : (loads : List L) (c : C) → told_by_answer (run_each (units budget) loads c) ≡ told_run (stage_run (told_units units) budget loads c)
  told_loads [] c =
      ap (told_in_turn told_of_none) (told_last ((units budget).term c))
      ∙ sym (told_before told_of_none (told_outcome ((units budget).term c)))
  told_loads (l ∷ loads) c =
      told_unit ((units budget).run l c) (run_all (units budget) loads) (run_loads (told_units units) budget loads) (λ d. told_loads loads d)

  told_all : (loads : List L) (count : ℕ) (opening first : C) (init : Progress) (n : ℕ) → (units budget).init opening ≡ Completed first init n
      → told_in_turn (told_of_unit init n (Some Normal)) (given_by (stage_run (told_units units) budget loads first)).gave ≡ told_by_answer (alone_answer (Reads (units budget) loads count) opening)
  told_all loads count opening first init n begun =
      ap (told_in_turn (told_of_unit init n (Some Normal))) (gave_is (stage_run (told_units units) budget loads first) ∙ sym (told_loads loads first))
      ∙ sym (ap (λ (o : UnitOutcome C). told_by_answer (with_groups count (then_unit o (run_each (units budget) loads)))) begun)

-- groups, one after the other, set what their loads set
sets_in_turn : (N V : Type 0) (set : Load → List (N × V)) (gs : List (List KeyedLoad)) → flat_map (λ g. g) (map (load_sets set) gs) ≡ load_sets set (one_after_another gs)
sets_in_turn N V set [] = refl
sets_in_turn N V set (g ∷ gs) =
    ap (λ (rest : List (List (N × V))). load_sets set g ++ rest) (sets_in_turn N V set gs) ∙ sym (map-append (λ (l : KeyedLoad). set l.load) g (one_after_another gs))

pub any_schedule : (C K W N V : Type 0) → GroupsDivideLoads → AnySchedule C K W N V
any_schedule C K W N V divide s is_state fixed early descending workers xs is history =
    let u = told_units s.units in
    let gs = groups_of_stage s in
    let all = every_stage C K W N V StageTold u (λ (t : StageTold). length t.rows) is_state fixed early s.budget gs workers s.first xs (told_joins s.units) is.free is.state history in
    let init = told_of_unit s.init s.executed (Some Normal) in
    let loads = sets_in_turn N V s.set (groups s.grain s.loads) ∙ ap (load_sets s.set) (divide descending s.grain s.loads is.ordered) in
    record {
      by_group = all.by_group;
      told =
          ap (λ (o : Given StageTold). told_in_turn init o.gave) all.together
          ∙ ap (λ (ls : List (List (N × V))). told_in_turn init (given_by (stage_run u s.budget ls s.first)).gave) loads
          ∙ told_all s.units s.budget (load_sets s.set s.loads) (length (groups s.grain s.loads)) s.opening s.first s.init s.executed is.begun;
    }

pub any_schedule_of_code : (K W : Type 0) → GroupsDivideLoads → AnyScheduleOfCode K W
any_schedule_of_code K W divide code set loads grain budget opening first init executed is_state fixed early descending workers xs is history =
    any_schedule ProgramData K W ℕ Value divide (stage_of_code code set loads grain budget opening first init executed) is_state fixed early descending workers xs is history
