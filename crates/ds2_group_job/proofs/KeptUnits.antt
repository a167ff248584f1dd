-- What units of a thread program tell, kept one after the other.
use Rattle.std.specs.Prelude.{reverse}
use Rattle.std.proofs.Common.{◌≡◌, ℕ, ◌+◌, true, false, List, [], ◌++◌, map, Option, Some, refl, sym, ap, ◌∙◌, subst, append_assoc, arith}
use Rattle.std.proofs.lemmas.List.{append-nil, map-append}
use Rattle.ds2_value.specs.Progress.{Progress, UnitOutcome, Completed, Interrupted, Strayed}
use Rattle.ds2_value.specs.Row.{Row}
use Rattle.ds2_value.specs.Run.{Written}
use Rattle.ds2_value.specs.declared.fault.Ending.{Ending}
use Rattle.ds2_value.specs.declared.fault.Ending.TheVariants.{Normal, Faulted}
use Rattle.ds2_table.specs.OneThread.{StageAnswer, Reached, Standing, Halted, Astray, GroupResult, Answer, nothing_left, followed_by, then_unit, joined_loads, behind_loads, run_each, groups_at, alone_answer}
use Rattle.ds2_table.specs.Table.{Contents}
use Rattle.ds2_bags.specs.Endings.{ended_by_fault}
use Rattle.ds2_code.specs.declared.parts.ProgramParts.{ProgramParts}
use Rattle.ds2_code.specs.CodeUnit.{code_init}
use Rattle.ds2_code.specs.Desk.{ProgramData}
use Rattle.ds2_code_answer.specs.CodeAnswer.{code_program, code_units}
use Rattle.ds2_code_answer.specs.CodeLoads.{code_loads, code_group_count}
use Rattle.ds2_code_answer.specs.StageTold.{StageTold, told_by_answer}
use Rattle.ds2_machine.specs.AtRest.{IsUnitEnd, is_early}
use Rattle.ds2_machine.specs.Kept.{all_written}
use Rattle.ds2_machine.specs.declared.record.OutRow.{OutRow}
use Rattle.ds2_machine.specs.declared.record.UnitRecord.{UnitRecord}
use Rattle.ds2_machine.specs.declared.unit_end.UnitEnd.{UnitEnd}
use Rattle.ds2_unit.specs.ProgramRun.{note_of_stage}
use Rattle.ds2_unit.specs.Threads.{IsThreadEnd, rows_kept}
use Rattle.ds2_unit.specs.declared.thread.ThreadEnd.{ThreadEnd}
use Rattle.ds2_unit.specs.declared.units_end.UnitsEnd.{UnitsEnd}
use Rattle.ds2_unit.proofs.ThreadEnds.{none_read}
use Rattle.ds2_group_job.specs.GroupRuns.{ending_of_reached, end_of_group}
use Rattle.ds2_group_job.specs.KeptAnswers.{HasKeptTold}
use Rattle.ds2_group_job.specs.StageJobs.{HasKeptGroups}
use Rattle.ds2_group_job.proofs.GroupSteps.{HasKeptRows, rows_alone}

abbrev rows_of : List Written → List Row
rows_of rows = map (λ (w : Written). w.row) rows

-- ---- one unit

-- the rows and lines that a unit wrote
kept_rows : (before after : UnitRecord) (rows : List Written) (lines : List (List ℕ)) → HasKeptRows before after rows lines → rows_kept after.rows ≡ rows_kept before.rows ++ rows_of rows
kept_rows before after rows lines kept =
    sym (rows_alone after.rows) ∙ ap rows_of kept.0 ∙ map-append (λ (w : Written). w.row) (all_written before.rows) rows ∙ ap (λ rs. rs ++ rows_of rows) (rows_alone before.rows)

-- what a record has taken of a unit
abbrev TakesUnit : UnitRecord → UnitRecord → List Written → List (List ℕ) → Type 0
TakesUnit before after rows lines = (from : UnitRecord) (so_far : List Written) (said : List (List ℕ)) → HasKeptRows from before so_far said → HasKeptRows from after (so_far ++ rows) (said ++ lines)

taken_alone : (before after : UnitRecord) (rows : List Written) (lines : List (List ℕ)) → TakesUnit before after rows lines → HasKeptRows before after rows lines
taken_alone before after rows lines takes = takes before [] [] (sym (append-nil (all_written before.rows)), sym (append-nil before.lines))

-- a unit, and then what comes of it
pub record HasKeptUnit (before after : UnitRecord) (unit : Progress) : Type 0 where
  pub rows : rows_kept after.rows ≡ rows_kept before.rows ++ rows_of unit.rows
  pub lines : after.lines ≡ before.lines ++ unit.lines

unit_kept : (before after : UnitRecord) (unit : Progress) → TakesUnit before after unit.rows unit.lines → HasKeptUnit before after unit
unit_kept before after unit takes =
    let kept = taken_alone before after unit.rows unit.lines takes in
    record { rows = kept_rows before after unit.rows unit.lines kept; lines = kept.1 }

-- a unit, and nothing behind it
alone : (before after : UnitRecord) (unit : Progress) (n : ℕ) (ending : Ending) (end : UnitsEnd) → HasKeptUnit before after unit → end.ending ≡ ending → end.executed ≡ n
    → HasKeptTold before after (told_by_answer (followed_by unit n (nothing_left (Some ending)))) end
alone before after unit n ending end kept ended executed = record {
  rows = kept.rows ∙ ap (λ rs. rows_kept before.rows ++ rows_of rs) (sym (append-nil unit.rows));
  lines = kept.lines ∙ ap (λ ls. before.lines ++ ls) (sym (append-nil unit.lines));
  ended = ap Some (sym ended);
  counted = executed ∙ (let e : n ≡ n + 0 = omega arith in e);
}

late : (e f : Ending) → e ≡ f → is_early f ≡ true → is_early e ≡ false → ⊥
late e f is early not = let yes_early : is_early e ≡ true = ap is_early is ∙ early in absurd cc

-- a unit that came to its end normally, and the data that it has left
pub record WentOn (outcome : UnitOutcome ProgramData) (now : ProgramData) : Type 0 where
  pub course : Progress
  pub executed : ℕ
  pub is : outcome ≡ Completed now course executed

pub went_on : (outcome : UnitOutcome ProgramData) (before after : UnitRecord) (unit : UnitEnd) (now : ProgramData) → IsUnitEnd HasKeptRows before after outcome unit now → is_early unit.ending ≡ false → WentOn outcome now
went_on (Completed left course n) before after unit now h fine = record { course = course; executed = n; is = ap (λ (s : ProgramData). Completed s course n) (sym h.4) }
went_on (Interrupted fault course n) before after unit now h fine = absurd (late unit.ending (Faulted fault course.place) h.0 refl fine)
went_on Strayed before after unit now h fine = absurd h

early : (e f : Ending) → e ≡ f → is_early f ≡ false → is_early e ≡ true → ⊥
early e f is not was = let not_early : is_early e ≡ false = ap is_early is ∙ not in absurd cc

-- a unit that faulted is the last one
pub was_last : (outcome : UnitOutcome ProgramData) (go : ProgramData → Answer) (before after : UnitRecord) (end : UnitEnd) (now : ProgramData) (told : UnitsEnd) → IsUnitEnd HasKeptRows before after outcome end now → is_early end.ending ≡ true
    → told.ending ≡ end.ending → told.executed ≡ end.executed → HasKeptTold before after (told_by_answer (then_unit outcome go)) told
was_last (Completed left unit n) go before after end now told h faulted ending executed = absurd (early end.ending Normal h.0 refl faulted)
was_last (Interrupted fault unit n) go before after end now told h faulted ending executed =
    alone before after unit n (Faulted fault unit.place) told (unit_kept before after unit h.3) (ending ∙ h.0) (executed ∙ h.2)
was_last Strayed go before after end now told h faulted ending executed = absurd h

-- the last unit, however it ended
pub last_kept : (outcome : UnitOutcome ProgramData) (before after : UnitRecord) (end : UnitEnd) (now : ProgramData) (told : UnitsEnd) → IsUnitEnd HasKeptRows before after outcome end now → told.ending ≡ end.ending → told.executed ≡ end.executed
    → HasKeptTold before after (told_by_answer (then_unit outcome (λ d. nothing_left (Some Normal)))) told
last_kept (Completed left unit n) before after end now told h ending executed = alone before after unit n Normal told (unit_kept before after unit h.3) (ending ∙ h.0) (executed ∙ h.2)
last_kept (Interrupted fault unit n) before after end now told h ending executed = alone before after unit n (Faulted fault unit.place) told (unit_kept before after unit h.3) (ending ∙ h.0) (executed ∙ h.2)
last_kept Strayed before after end now told h ending executed = absurd h

-- a unit, and what was kept behind it
unit_before : (before middle after : UnitRecord) (unit : Progress) (n : ℕ) (answer : Answer) (rest end : UnitsEnd) → HasKeptUnit before middle unit → HasKeptTold middle after (told_by_answer answer) rest
    → end.ending ≡ rest.ending → end.executed ≡ n + rest.executed → HasKeptTold before after (told_by_answer (followed_by unit n answer)) end
unit_before before middle after unit n answer rest end kept behind ending executed = record {
  rows = behind.rows ∙ ap (λ rs. rs ++ rows_of answer.rows) kept.rows ∙ append_assoc (rows_kept before.rows) (rows_of unit.rows) (rows_of answer.rows)
      ∙ ap (λ rs. rows_kept before.rows ++ rs) (sym (map-append (λ (w : Written). w.row) unit.rows answer.rows));
  lines = behind.lines ∙ ap (λ ls. ls ++ answer.lines) kept.lines ∙ append_assoc before.lines unit.lines answer.lines;
  ended = behind.ended ∙ ap Some (sym ending);
  counted = executed ∙ ap (λ k. n + k) behind.counted;
}

-- a unit that came to its end normally, and what was kept of what goes on from there
pub kept_behind : (outcome : UnitOutcome ProgramData) (go : ProgramData → Answer) (before middle after : UnitRecord) (unit : UnitEnd) (now : ProgramData) (rest end : UnitsEnd) → IsUnitEnd HasKeptRows before middle outcome unit now
    → is_early unit.ending ≡ false → HasKeptTold middle after (told_by_answer (go now)) rest → end.ending ≡ rest.ending → end.executed ≡ unit.executed + rest.executed
    → HasKeptTold before after (told_by_answer (then_unit outcome go)) end
kept_behind (Completed left course n) go before middle after unit now rest end h fine behind ending executed =
    let P : ProgramData → Type 0 = λ s. HasKeptTold middle after (told_by_answer (go s)) rest in
    unit_before before middle after course n (go left) rest end (unit_kept before middle course h.3) (subst P h.4 behind) ending (executed ∙ ap (λ k. k + rest.executed) h.2)
kept_behind (Interrupted fault course n) go before middle after unit now rest end h fine behind ending executed = absurd (late unit.ending (Faulted fault course.place) h.0 refl fine)
kept_behind Strayed go before middle after unit now rest end h fine behind ending executed = absurd h

-- ---- groups

-- a fault in a group ends the program
pub groups_ended : (result : GroupResult ProgramData) (go : ProgramData → Answer) (before after : UnitRecord) (end : UnitsEnd) → HasKeptGroups before after (end_of_group result) end → ended_by_fault end.ending ≡ true
    → HasKeptTold before after (told_by_answer (joined_loads result (behind_loads result.reached go))) end
groups_ended result go before after end kept faulted = at result.reached refl
  where
    ill : (e f : Ending) → e ≡ f → ended_by_fault f ≡ false → ended_by_fault e ≡ true → ⊥
    ill e f is fine was = let not_ill : ended_by_fault e ≡ false = ap ended_by_fault is ∙ fine in absurd cc

    at : (reached : Reached ProgramData) → result.reached ≡ reached → HasKeptTold before after (told_by_answer (joined_loads result (behind_loads result.reached go))) end
    at (Standing next) there = absurd (ill end.ending Normal (kept.ending ∙ ap ending_of_reached there) refl faulted)
    at (Halted fault place) there =
        let P : Reached ProgramData → Type 0 = λ x. HasKeptTold before after (told_by_answer (joined_loads result (behind_loads x go))) end in
        subst P (sym there) (record {
          rows = kept.rows ∙ ap (λ rs. rows_kept before.rows ++ rows_of rs) (sym (append-nil result.rows));
          lines = kept.lines ∙ ap (λ ls. before.lines ++ ls) (sym (append-nil result.lines));
          ended = ap Some (sym (kept.ending ∙ ap ending_of_reached there));
          counted = kept.executed ∙ (let e : result.executed ≡ result.executed + 0 = omega arith in e);
        })
    at Astray there = absurd (ill end.ending Normal (kept.ending ∙ ap ending_of_reached there) refl faulted)

-- where groups that ended normally have left the program
pub record StandsOn (result : GroupResult ProgramData) : Type 0 where
  pub last : ProgramData
  pub there : result.reached ≡ Standing last

pub stands_on : (result : GroupResult ProgramData) (before after : UnitRecord) (end : UnitsEnd) → HasKeptGroups before after (end_of_group result) end → ended_by_fault end.ending ≡ false → (result.reached ≡ Astray → ⊥) → StandsOn result
stands_on result before after end kept fine no_stray = at result.reached refl
  where
    well : (e f : Ending) → e ≡ f → ended_by_fault f ≡ true → ended_by_fault e ≡ false → ⊥
    well e f is ill was = let is_ill : ended_by_fault e ≡ true = ap ended_by_fault is ∙ ill in absurd cc

    at : (reached : Reached ProgramData) → result.reached ≡ reached → StandsOn result
    at (Standing next) there = record { last = next; there = there }
    at (Halted fault place) there = absurd (well end.ending (Faulted fault place) (kept.ending ∙ ap ending_of_reached there) refl fine)
    at Astray there = absurd (no_stray there)

-- groups, and what was kept behind them
pub groups_before : (result : GroupResult ProgramData) (go : ProgramData → Answer) (next : ProgramData) (before middle after : UnitRecord) (told : StageTold) (all last end : UnitsEnd) → result.reached ≡ Standing next
    → HasKeptGroups before middle (end_of_group result) all → HasKeptTold middle after told last → told ≡ told_by_answer (go next) → end.ending ≡ last.ending → end.executed ≡ all.executed + last.executed
    → HasKeptTold before after (told_by_answer (joined_loads result (behind_loads result.reached go))) end
groups_before result go next before middle after told all last end there kept behind is ending executed =
    let P : Reached ProgramData → Type 0 = λ x. HasKeptTold before after (told_by_answer (joined_loads result (behind_loads x go))) end in
    let Q : StageTold → Type 0 = λ t. HasKeptTold middle after t last in
    let own = subst Q is behind in
    let answer = go next in
    subst P (sym there) (record {
      rows = own.rows ∙ ap (λ rs. rs ++ rows_of answer.rows) kept.rows ∙ append_assoc (rows_kept before.rows) (rows_of result.rows) (rows_of answer.rows)
          ∙ ap (λ rs. rows_kept before.rows ++ rs) (sym (map-append (λ (w : Written). w.row) result.rows answer.rows));
      lines = own.lines ∙ ap (λ ls. ls ++ answer.lines) kept.lines ∙ append_assoc before.lines result.lines answer.lines;
      ended = own.ended ∙ ap Some (sym ending);
      counted = executed ∙ (λ i. kept.executed i + own.counted i);
    })

-- ---- a thread program

module _ (stage : ProgramParts) (tables : List Contents) (budget grain : ℕ) (begun : ProgramData) where
  abbrev units_told : ProgramData → Answer
  units_told state = then_unit (code_init stage budget state) (run_each (code_units stage budget) (code_loads stage tables))

  pub thread_ended : (before after : UnitRecord) (end : UnitsEnd) (told : ThreadEnd) (groups : ℕ) → before.rows ≡ [] → before.lines ≡ []
      → HasKeptTold before after (told_by_answer (then_unit (code_init stage budget begun) (run_each (code_units stage budget) (code_loads stage tables)))) end
      → told.written ≡ after → told.ending ≡ end.ending → told.note.executed ≡ end.executed → told.note.groups ≡ groups_at (Some told.ending) groups
      → groups_at (Some told.ending) groups ≡ groups_at (Some told.ending) (code_group_count grain stage tables) → told.below ≡ []
      → IsThreadEnd (alone_answer (code_program stage [] tables budget grain) begun) told
  thread_ended before after end told groups no_rows no_lines kept written ending executed noted count below =
      let answer = units_told begun in
      record {
        rows = ap (λ (r : UnitRecord). rows_kept r.rows) written ∙ kept.rows ∙ ap (λ (rs : List OutRow). rows_kept rs ++ rows_of answer.rows) no_rows;
        lines = ap (λ (r : UnitRecord). r.lines) written ∙ kept.lines ∙ ap (λ (ls : List (List ℕ)). ls ++ answer.lines) no_lines;
        ended = kept.ended ∙ ap Some (sym ending);
        counted = executed ∙ kept.counted;
        grouped = noted ∙ count ∙ ap (λ (e : Option Ending). groups_at e (code_group_count grain stage tables)) (ap Some ending ∙ sym kept.ended);
        noted = below ∙ ap (λ (xs : List StageAnswer). reverse (map note_of_stage xs)) (sym (none_read stage tables budget begun));
      }
