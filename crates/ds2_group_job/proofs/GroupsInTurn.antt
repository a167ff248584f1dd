-- The groups of a thread program, one after the other, run as all of its loads do.
use Rattle.std.proofs.Common.{◌≡◌, ℕ, zero, suc, ◌+◌, ◌<◌, List, [], ◌∷◌, ◌++◌, length, map, drop, Some, refl, sym, ap, ◌∙◌, arith}
use Rattle.std.specs.List.{flat_map}
use Rattle.std.specs.Prelude.{slice_get}
use Rattle.std.proofs.lemmas.List.{append-nil, map-append}
use Rattle.ds2_base.specs.declared.place.Place.{Place}
use Rattle.ds2_value.specs.Run.{Written}
use Rattle.ds2_value.specs.declared.fault.Ending.{Ending}
use Rattle.ds2_value.specs.declared.fault.Ending.TheVariants.{Normal, Faulted}
use Rattle.ds2_value.specs.declared.fault.Fault.{Fault}
use Rattle.ds2_table.specs.LoadLaws.{both_results, from_there, then_group}
use Rattle.ds2_table.specs.OneThread.{Reached, Standing, Halted, Astray, GroupResult, group_at, run_all}
use Rattle.ds2_table.proofs.Parts.{parts_run_as_one}
use Rattle.ds2_schedule.specs.Schedule.{up_to_fault, one_thread}
use Rattle.ds2_bags.specs.Endings.{ended_by_fault}
use Rattle.ds2_bags.specs.StageEnds.{program_of_job}
use Rattle.ds2_bags.specs.declared.group_end.GroupEnd.{GroupEnd}
use Rattle.ds2_code.specs.declared.parts.ProgramParts.{ProgramParts}
use Rattle.ds2_code.specs.Desk.{ProgramData, SlotSettings}
use Rattle.ds2_code_answer.specs.CodeAnswer.{code_units}
use Rattle.ds2_loads.specs.GroupedLoads.{loads_of_groups}
use Rattle.ds2_group_job.specs.GroupRuns.{run_of_group, ending_of_reached, end_of_group, loads_or_none, group_at_number, last_ending, executed_together, given_together}
use Rattle.ds2_group_job.specs.WhateverRan.{IsBehindGroups, GivesWhateverRan}
use Rattle.ds2_group_job.proofs.GroupSteps.{one_more}

-- ---- the groups that are left

-- the first of the items that are left behind so many
pub record IsFirstLeft {A : Type 0} (all : List A) (n : ℕ) (x : A) (more : List A) : Type 0 where
  pub here : slice_get all n ≡ Some x
  pub within : n < length all
  pub behind : drop (n + 1) all ≡ more

pub first_left : {A : Type 0} (all : List A) (n : ℕ) (x : A) (more : List A) → drop n all ≡ x ∷ more → IsFirstLeft all n x more
first_left [] zero x more h = absurd cc
first_left [] (suc n) x more h = absurd cc
first_left {A} (y ∷ all) zero x more h =
    let same : y ≡ x = cc in
    let rest : all ≡ more = cc in
    let one : 0 + 1 ≡ suc zero = omega arith in
    record { here = ap Some same; within = omega arith; behind = ap (λ (k : ℕ). drop k (y ∷ all)) one ∙ rest }
first_left (y ∷ all) (suc n) x more h =
    let it = first_left all n x more h in
    let one : suc n + 1 ≡ suc (n + 1) = omega arith in
    record { here = it.here; within = omega (arith, it.within); behind = ap (λ (k : ℕ). drop k (y ∷ all)) one ∙ it.behind }

-- ---- what groups give together

-- a group that ended normally, before others
together_on : (e : GroupEnd) (ends : List GroupEnd) → e.ending ≡ Normal
    → given_together (e ∷ ends) ≡ record { rows = e.rows ++ (given_together ends).rows; lines = e.lines ++ (given_together ends).lines; ending = (given_together ends).ending; executed = e.executed + (given_together ends).executed }
together_on e ends fine = λ i. record {
  rows = e.rows ++ flat_map (λ (x : GroupEnd). x.rows) ends;
  lines = e.lines ++ flat_map (λ (x : GroupEnd). x.lines) ends;
  ending = last_ending (fine i) ends;
  executed = e.executed + executed_together ends;
}

-- one group alone
together_one : (e : GroupEnd) → given_together (e ∷ []) ≡ e
together_one e =
    let rows = append-nil e.rows in
    let lines = append-nil e.lines in
    let n : e.executed + 0 ≡ e.executed = omega arith in
    λ i. record { rows = rows i; lines = lines i; ending = e.ending; executed = n i }

-- what two parts of the loads tell
joined_end : (r s : GroupResult ProgramData) → end_of_group (both_results r s)
    ≡ record { rows = (end_of_group r).rows ++ (end_of_group s).rows; lines = r.lines ++ s.lines; ending = ending_of_reached s.reached; executed = r.executed + s.executed }
joined_end r s =
    let rows = map-append (λ (w : Written). w.row) r.rows s.rows in
    λ i. record { rows = rows i; lines = r.lines ++ s.lines; ending = ending_of_reached s.reached; executed = r.executed + s.executed }

halted_end : (r : GroupResult ProgramData) (fault : Fault) (place : Place) → r.reached ≡ Halted fault place → end_of_group (both_results r (group_at (Halted fault place))) ≡ end_of_group r
halted_end r fault place is =
    let rows = append-nil r.rows in
    let lines = append-nil r.lines in
    let n : r.executed + 0 ≡ r.executed = omega arith in
    λ i. record { rows = map (λ (w : Written). w.row) (rows i); lines = lines i; ending = ending_of_reached (sym is i); executed = n i }

standing_is : (a b : ProgramData) → Standing a ≡ Standing b → b ≡ a
standing_is a b h = cc

-- where a part of the loads has left a program that goes on
record Stood (x : Reached ProgramData) (go : ProgramData → GroupResult ProgramData) (last : ProgramData) : Type 0 where
  next : ProgramData
  there : x ≡ Standing next
  goes : (go next).reached ≡ Standing last

stood : (x : Reached ProgramData) (go : ProgramData → GroupResult ProgramData) (last : ProgramData) → (from_there x go).reached ≡ Standing last → Stood x go last
stood (Standing next) go last h = record { next = next; there = refl; goes = h }
stood (Halted fault place) go last h = absurd cc
stood Astray go last h = absurd cc

module _ (code : ProgramParts) (budget : ℕ) (groups : List (List SlotSettings)) where
  -- the answers from these data
  abbrev answers : ProgramData → ℕ → GroupEnd
  answers first g = end_of_group (run_of_group code budget (group_at_number groups g) first)

  abbrev ends_from : ProgramData → ℕ → ℕ → List GroupEnd
  ends_from first g n = one_thread (program_of_job (answers first)) tt g n

  -- no group goes astray
  abbrev pub NoneStrays : Type 0
  NoneStrays = (loads : List SlotSettings) (state : ProgramData) → (run_of_group code budget loads state).reached ≡ Astray → ⊥

  module _ (stays : NoneStrays) (first : ProgramData) (free : GivesWhateverRan code budget groups first) where
    -- the first group that is left, and those behind it
    step : (r : GroupResult ProgramData) (go : ProgramData → GroupResult ProgramData) (e : GroupEnd) (ends : List GroupEnd) → e ≡ end_of_group r → (r.reached ≡ Astray → ⊥)
        → ((next : ProgramData) → r.reached ≡ Standing next → given_together ends ≡ end_of_group (go next))
        → given_together (up_to_fault (ended_by_fault e.ending) e ends) ≡ end_of_group (then_group r go)
    step r go e ends is no_stray behind = at r.reached refl
      where
        at : (reached : Reached ProgramData) → r.reached ≡ reached → given_together (up_to_fault (ended_by_fault e.ending) e ends) ≡ end_of_group (then_group r go)
        at (Standing next) there =
            let fine : e.ending ≡ Normal = ap (λ (x : GroupEnd). x.ending) is ∙ ap ending_of_reached there in
            let rest = behind next there in
            ap (λ (x : Ending). given_together (up_to_fault (ended_by_fault x) e ends)) fine
            ∙ together_on e ends fine
            ∙ (λ i. record { rows = (is i).rows ++ (rest i).rows; lines = (is i).lines ++ (rest i).lines; ending = (rest i).ending; executed = (is i).executed + (rest i).executed })
            ∙ sym (joined_end r (go next))
            ∙ ap (λ (x : Reached ProgramData). end_of_group (both_results r (from_there x go))) (sym there)
        at (Halted fault place) there =
            let ill : e.ending ≡ Faulted fault place = ap (λ (x : GroupEnd). x.ending) is ∙ ap ending_of_reached there in
            ap (λ (x : Ending). given_together (up_to_fault (ended_by_fault x) e ends)) ill
            ∙ together_one e
            ∙ is
            ∙ sym (halted_end r fault place there)
            ∙ ap (λ (x : Reached ProgramData). end_of_group (both_results r (from_there x go))) (sym there)
        at Astray there = absurd (no_stray there)

    in_turn : (rest : List (List SlotSettings)) (n : ℕ) (ran : List ℕ) (now : ProgramData) → drop n groups ≡ rest → IsBehindGroups code budget groups ran first now
        → given_together (ends_from first n (length rest)) ≡ end_of_group (run_of_group code budget (loads_of_groups rest) now)
    in_turn [] n ran now left behind = refl
    in_turn (group ∷ more) n ran now left behind =
        let it = first_left groups n group more left in
        let here : group_at_number groups n ≡ group = ap loads_or_none it.here in
        let r = run_of_group code budget group now in
        let same : answers first n ≡ end_of_group r =
        sym (free.each ran now n behind it.within) ∙ ap (λ (loads : List SlotSettings). end_of_group (run_of_group code budget loads now)) here in
        step r (run_all (code_units code budget) (loads_of_groups more)) (answers first n) (ends_from first (n + 1) (length more)) same (stays group now)
        (λ next there.
        in_turn more (n + 1) (ran ++ n ∷ []) next it.behind
        (one_more code budget groups ran first now next n behind it.within (ap (λ (loads : List SlotSettings). (run_of_group code budget loads now).reached) here ∙ there)))
        ∙ ap end_of_group (sym (parts_run_as_one SlotSettings ProgramData (code_units code budget) group (loads_of_groups more) now))

    pub groups_in_turn : given_together (ends_from first 0 (length groups)) ≡ end_of_group (run_of_group code budget (loads_of_groups groups) first)
    groups_in_turn = in_turn groups 0 [] first refl refl

  -- where all groups have left a program: behind these ones
  pub record HasRunAll (first last : ProgramData) : Type 0 where
    pub ran : List ℕ
    pub behind : IsBehindGroups code budget groups ran first last

  all_behind : (rest : List (List SlotSettings)) (n : ℕ) (now last : ProgramData) → drop n groups ≡ rest → (run_of_group code budget (loads_of_groups rest) now).reached ≡ Standing last → HasRunAll now last
  all_behind [] n now last left there = record { ran = []; behind = standing_is now last there }
  all_behind (group ∷ more) n now last left there =
      let it = first_left groups n group more left in
      let here : group_at_number groups n ≡ group = ap loads_or_none it.here in
      let go = run_all (code_units code budget) (loads_of_groups more) in
      let all : (then_group (run_of_group code budget group now) go).reached ≡ Standing last =
      ap (λ (x : GroupResult ProgramData). x.reached) (sym (parts_run_as_one SlotSettings ProgramData (code_units code budget) group (loads_of_groups more) now)) ∙ there in
      let first = stood (run_of_group code budget group now).reached go last all in
      let rest = all_behind more (n + 1) first.next last it.behind first.goes in
      record {
        ran = n ∷ rest.ran;
        behind = (it.within, first.next, ap (λ (loads : List SlotSettings). (run_of_group code budget loads now).reached) here ∙ first.there, rest.behind);
      }

  pub behind_all : (first last : ProgramData) → (run_of_group code budget (loads_of_groups groups) first).reached ≡ Standing last → HasRunAll first last
  behind_all first last there = all_behind groups 0 first last refl there
