-- Each group of a program runs once.
use Rattle.std.proofs.Common.{◌≡◌, ℕ, List, [], ◌∷◌, ◌++◌, length, map, flat_map, Option, Some, None, refl, sym, ap, ◌∙◌, subst}
use Rattle.std.proofs.lemmas.List.{append-nil, append_assoc}
use Rattle.ds2_value.specs.Progress.{Progress, UnitOutcome, Completed, Interrupted, Strayed}
use Rattle.ds2_value.specs.Row.{Row}
use Rattle.ds2_value.specs.Run.{Written}
use Rattle.ds2_value.specs.declared.fault.Ending.{Ending}
use Rattle.ds2_value.specs.declared.fault.Ending.TheVariants.{Normal, Faulted}
use Rattle.ds2_table.specs.LoadLaws.{from_there, then_group}
use Rattle.ds2_table.specs.OneThread.{Units, Reached, Standing, Halted, Astray, GroupResult, run_all, Answer, nothing_left, then_unit, behind_loads, last_unit, run_each, with_groups, stage_rows, after_stage, alone_answer}
use Rattle.ds2_table.specs.Table.{Contents}
use Rattle.ds2_table.proofs.Parts.{parts_run_as_one}
use Rattle.ds2_code.specs.declared.parts.ProgramParts.{ProgramParts}
use Rattle.ds2_code.specs.CodeUnit.{code_init, row_slot_settings}
use Rattle.ds2_code.specs.Desk.{ProgramData, SlotSettings}
use Rattle.ds2_code_answer.specs.CodeAnswer.{code_units, code_opening, code_program}
use Rattle.ds2_code_answer.specs.CodeLoads.{code_loads, slots_of_stage}
use Rattle.ds2_code_answer.specs.CodeTables.{tables_of_stage}
use Rattle.ds2_loads.specs.GroupedLoads.{GroupsAreAllLoads, loads_in_groups, loads_of_groups}
use Rattle.ds2_unit.specs.EveryGroup.{RanInTurn, RanEachGroupOnce, HoldsBehindUnit, rows_as_groups, EachRanGroupsOnce, EveryGroupOnce}

-- ---- units that ended normally

-- a unit that ended normally, before an answer that did
record Goes {C : Type 0} (o : UnitOutcome C) (go : C → Answer) : Type 0 where
  next : C
  unit : Progress
  executed : ℕ
  is : o ≡ Completed next unit executed
  fine : (go next).ending ≡ Some Normal
  rows : (then_unit o go).rows ≡ unit.rows ++ (go next).rows

goes : {C : Type 0} (o : UnitOutcome C) (go : C → Answer) → (then_unit o go).ending ≡ Some Normal → Goes o go
goes (Completed c unit n) go fine = record { next = c; unit = unit; executed = n; is = refl; fine = fine; rows = refl }
goes (Interrupted fault unit n) go fine = absurd cc
goes Strayed go fine = absurd cc

-- loads behind which the program goes on, before an answer that ended normally
record Stands {C : Type 0} (reached : Reached C) (go : C → Answer) : Type 0 where
  next : C
  there : reached ≡ Standing next
  fine : (go next).ending ≡ Some Normal
  rows : (behind_loads reached go).rows ≡ (go next).rows

stands : {C : Type 0} (reached : Reached C) (go : C → Answer) → (behind_loads reached go).ending ≡ Some Normal → Stands reached go
stands (Standing c) go fine = record { next = c; there = refl; fine = fine; rows = refl }
stands (Halted fault place) go fine = absurd cc
stands Astray go fine = absurd cc

-- ---- groups in turn

record Stood {C : Type 0} (reached : Reached C) (go : C → GroupResult C) (last : C) : Type 0 where
  next : C
  there : reached ≡ Standing next
  goes : (go next).reached ≡ Standing last

stood : {C : Type 0} (reached : Reached C) (go : C → GroupResult C) (last : C) → (from_there reached go).reached ≡ Standing last → Stood reached go last
stood (Standing next) go last h = record { next = next; there = refl; goes = h }
stood (Halted fault place) go last h = absurd cc
stood Astray go last h = absurd cc

-- what groups leave that ran in turn
record InTurn (units : Units SlotSettings ProgramData) (groups : List (List SlotSettings)) (first last : ProgramData) (rows : List Written) : Type 0 where
  results : List (GroupResult ProgramData)
  ran : RanInTurn units groups results first last
  written : rows ≡ flat_map (λ (r : GroupResult ProgramData). r.rows) results

standing_is : (a b : ProgramData) → Standing a ≡ Standing b → b ≡ a
standing_is a b h = cc

module _ (units : Units SlotSettings ProgramData) where
  in_turn : (groups : List (List SlotSettings)) (first last : ProgramData) → (run_all units (loads_of_groups groups) first).reached ≡ Standing last
      → InTurn units groups first last (run_all units (loads_of_groups groups) first).rows
  in_turn [] first last there = record { results = []; ran = standing_is first last there; written = refl }
  in_turn (group ∷ groups) first last there =
      let r = run_all units group first in
      let go = run_all units (loads_of_groups groups) in
      let whole : run_all units (group ++ loads_of_groups groups) first ≡ then_group r go = parts_run_as_one SlotSettings ProgramData units group (loads_of_groups groups) first in
      let here = stood r.reached go last (ap (λ (x : GroupResult ProgramData). x.reached) (sym whole) ∙ there) in
      let rest = in_turn groups here.next last here.goes in
      record {
        results = r ∷ rest.results;
        ran = (refl, here.next, here.there, rest.ran);
        written = ap (λ (x : GroupResult ProgramData). x.rows) whole ∙ ap (λ (x : Reached ProgramData). r.rows ++ (from_there x go).rows) here.there ∙ ap (λ (x : List Written). r.rows ++ x) rest.written;
      }

  -- behind `init`
  record Behind (groups : List (List SlotSettings)) (first : ProgramData) (rows : List Written) : Type 0 where
    last : ProgramData
    end : ProgramData
    ended : Progress
    executed : ℕ
    turns : InTurn units groups first last (run_all units (loads_of_groups groups) first).rows
    term : units.term last ≡ Completed end ended executed
    written : rows ≡ (run_all units (loads_of_groups groups) first).rows ++ ended.rows

  behind : (groups : List (List SlotSettings)) (first : ProgramData) → (run_each units (loads_of_groups groups) first).ending ≡ Some Normal
      → Behind groups first (run_each units (loads_of_groups groups) first).rows
  behind groups first fine =
      let r = run_all units (loads_of_groups groups) first in
      let at = stands r.reached (last_unit units) fine in
      let last = goes (units.term at.next) (λ d. nothing_left (Some Normal)) at.fine in
      record {
        last = at.next;
        end = last.next;
        ended = last.unit;
        executed = last.executed;
        turns = in_turn groups first at.next at.there;
        term = last.is;
        written = ap (λ (rows : List Written). r.rows ++ rows) (at.rows ∙ last.rows ∙ append-nil last.unit.rows);
      }

  -- the whole, from `init` on
  once : (groups : List (List SlotSettings)) (opening first : ProgramData) (begun : Progress) (executed : ℕ) (rows after : List Written)
      → units.init opening ≡ Completed first begun executed → rows ≡ begun.rows ++ after → Behind groups first after → RanEachGroupOnce units groups opening rows
  once groups opening first begun executed rows after init all rest = record {
    first = first;
    last = rest.last;
    end = rest.end;
    begun = begun;
    ended = rest.ended;
    begun_executed = executed;
    ended_executed = rest.executed;
    results = rest.turns.results;
    init = init;
    in_turn = rest.turns.ran;
    term = rest.term;
    written = all ∙ ap (λ (x : List Written). begun.rows ++ x) (rest.written ∙ ap (λ (x : List Written). x ++ rest.ended.rows) rest.turns.written)
        ∙ sym (append_assoc begun.rows (flat_map (λ (r : GroupResult ProgramData). r.rows) rest.turns.results) rest.ended.rows);
  }

-- ---- a program that reads tables

behind_loads_of : (units : Units SlotSettings ProgramData) (groups : List (List SlotSettings)) (loads : List SlotSettings) (first : ProgramData) → loads_of_groups groups ≡ loads
    → (run_each units loads first).ending ≡ Some Normal → Behind units groups first (run_each units loads first).rows
behind_loads_of units groups loads first same =
    subst (λ (x : List SlotSettings). (run_each units x first).ending ≡ Some Normal → Behind units groups first (run_each units x first).rows) same (behind units groups first)

-- ---- a program that reads from a thread program

one_each : (f : Row → SlotSettings) (rows : List Row) → loads_of_groups (map (λ (row : Row). f row ∷ []) rows) ≡ map f rows
one_each f [] = refl
one_each f (row ∷ rows) = ap (λ (x : List SlotSettings). f row ∷ x) (one_each f rows)

-- a thread program that ended normally, before an answer that did
record StageEnded (ending : Option Ending) (stage : Answer) (go : List Row → Answer) : Type 0 where
  normal : ending ≡ Some Normal
  fine : (go (stage_rows stage)).ending ≡ Some Normal
  rows : (after_stage ending stage go).rows ≡ (go (stage_rows stage)).rows

stage_ended : (ending : Option Ending) (stage : Answer) (go : List Row → Answer) → (after_stage ending stage go).ending ≡ Some Normal → StageEnded ending stage go
stage_ended (Some Normal) stage go fine = record { normal = refl; fine = fine; rows = refl }
stage_ended (Some (Faulted fault place)) stage go fine = absurd cc
stage_ended None stage go fine = absurd cc

holds_behind : {C : Type 0} (o : UnitOutcome C) (c : C) (unit : Progress) (n : ℕ) (holds : C → Type 0) → o ≡ Completed c unit n → holds c → HoldsBehindUnit o holds
holds_behind o c unit n holds is h = subst (λ (x : UnitOutcome _). HoldsBehindUnit x holds) (sym is) h

module _ (all : GroupsAreAllLoads) (budget grain : ℕ) where
  pub every_group : (code : ProgramParts) (stages : List ProgramParts) (tables : List Contents) (state : ProgramData)
      → (alone_answer (code_program code stages tables budget grain) state).ending ≡ Some Normal → EachRanGroupsOnce code stages tables budget grain state
  every_group code [] tables state fine =
      let units = code_units code budget in
      let at = goes (units.init state) (run_each units (code_loads code tables)) fine in
      once units (loads_in_groups grain code tables) state at.next at.unit at.executed
      (alone_answer (code_program code [] tables budget grain) state).rows (run_each units (code_loads code tables) at.next).rows at.is at.rows
      (behind_loads_of units (loads_in_groups grain code tables) (code_loads code tables) at.next (all grain code tables) at.fine)
  every_group code (stage ∷ stages) tables state fine =
      let units = code_units code budget in
      let read = tables_of_stage code tables in
      let load = row_slot_settings code.slots (slots_of_stage code.reading) in
      let answer : ProgramData → Answer = λ d. alone_answer (code_program stage stages read budget grain) (code_opening stage stages read d.parameters) in
      let go : ProgramData → List Row → Answer = λ d rows. with_groups (length rows) (run_each units (map load rows) d) in
      let at = goes (units.init state) (λ d. after_stage (answer d).ending (answer d) (go d)) fine in
      let below = stage_ended (answer at.next).ending (answer at.next) (go at.next) at.fine in
      let rows = stage_rows (answer at.next) in
      holds_behind (code_init code budget state) at.next at.unit at.executed
      (λ (first : ProgramData). EachRanGroupsOnce stage stages read budget grain (code_opening stage stages read first.parameters)
      × RanEachGroupOnce units (rows_as_groups code (answer first)) state (alone_answer (code_program code (stage ∷ stages) tables budget grain) state).rows)
      at.is (
        every_group stage stages read (code_opening stage stages read at.next.parameters) below.normal,
        once units (rows_as_groups code (answer at.next)) state at.next at.unit at.executed
            (alone_answer (code_program code (stage ∷ stages) tables budget grain) state).rows (run_each units (map load rows) at.next).rows at.is
            (at.rows ∙ ap (λ (x : List Written). at.unit.rows ++ x) below.rows)
            (behind_loads_of units (rows_as_groups code (answer at.next)) (map load rows) at.next (one_each load rows) below.fine),
      )

pub every_group_once : GroupsAreAllLoads → EveryGroupOnce
every_group_once all code stages tables budget grain state fine = every_group all budget grain code stages tables state fine
