-- A program behind the thread program from which it reads.
use Rattle.std.proofs.Common.{◌≡◌, ℕ, zero, suc, ◌+◌, ◌<◌, ◌≤◌, true, false, List, [], ◌∷◌, ◌++◌, length, map, take, drop, get_or, Option, Some, None, refl, sym, ap, ◌∙◌, subst, append_assoc, arith}
use Rattle.std.specs.Prelude.{reverse, slice_get}
use Rattle.std.specs.List.{AllByRecursion}
use Rattle.std.proofs.lemmas.Grind.{reverse_onto}
use Rattle.std.proofs.lemmas.List.{append-nil}
use Rattle.ds2_base.specs.declared.place.Place.{Place}
use Rattle.ds2_value.specs.Progress.{UnitOutcome, Completed, Interrupted, Strayed}
use Rattle.ds2_value.specs.Row.{Row}
use Rattle.ds2_value.specs.Run.{Written}
use Rattle.ds2_value.specs.declared.fault.Ending.{Ending}
use Rattle.ds2_value.specs.declared.fault.Ending.TheVariants.{Normal, Faulted}
use Rattle.ds2_value.specs.declared.fault.Fault.{Fault}
use Rattle.ds2_table.specs.OneThread.{Answer, StageAnswer, then_unit, with_groups, stage_notes, stage_rows, after_stage, groups_at}
use Rattle.ds2_code.specs.declared.parts.ProgramParts.{ProgramParts}
use Rattle.ds2_code.specs.declared.parts.Slot.{Slot}
use Rattle.ds2_code.specs.CodeUnit.{row_slot_settings}
use Rattle.ds2_code.specs.Desk.{ProgramData}
use Rattle.ds2_code.specs.Scales.{AreSettingsScaled}
use Rattle.ds2_code_answer.proofs.ScaledLoads.{row_scaled}
use Rattle.ds2_machine.specs.AtRest.{IsUnitEnd, is_early}
use Rattle.ds2_machine.specs.Sink.{SinkTakes}
use Rattle.ds2_machine.specs.declared.record.OutRow.{OutRow}
use Rattle.ds2_machine.specs.declared.unit_end.UnitEnd.{UnitEnd}
use Rattle.ds2_unit.specs.ProgramRun.{IsRunEnd, note_of_stage}
use Rattle.ds2_loads.specs.StageRows.{rows_as_loads}
use Rattle.ds2_loads.proofs.CursorSteps.{first_at}
use Rattle.ds2_unit.specs.Threads.{IsThreadEnd, answer_behind, answer_on_rows, rows_kept}
use Rattle.ds2_unit.specs.UnitsRun.{HasRunAnswer}
use Rattle.ds2_unit.specs.declared.program_end.RunEnd.{RunEnd}
use Rattle.ds2_unit.specs.declared.program_end.StageNote.{StageNote}
use Rattle.ds2_unit.specs.declared.thread.ThreadEnd.{ThreadEnd}
use Rattle.ds2_unit.specs.declared.units_end.UnitsEnd.{UnitsEnd}
use Rattle.ds2_unit.proofs.SinkLists.{taken_more}
use Rattle.ds2_unit.proofs.UnitsInOrder.{unit_then, unit_stops}

-- the rows of a thread program as loads
pub loads_of_rows : (slots : List Slot) (into : List ℕ) (rows : List OutRow) (want : List Row) → rows_kept rows ≡ want → rows_as_loads slots into rows ≡ map (row_slot_settings slots into) want
loads_of_rows slots into rows want is = all_rows rows ∙ ap (map (row_slot_settings slots into)) is
  where
    all_rows : (rows : List OutRow) → rows_as_loads slots into rows ≡ map (row_slot_settings slots into) (rows_kept rows)
    all_rows [] = refl
    all_rows (r ∷ rows) = ap (λ z. row_slot_settings slots into r.row ∷ z) (all_rows rows)

-- the items up to one and with it
pub line_next : {A : Type 0} (lines : List A) (i : ℕ) (line : A) → i < length lines → line ≡ get_or lines i line → take (i + 1) lines ≡ take i lines ++ line ∷ []
line_next [] i line h is = absurd (omega (arith, h))
line_next (l ∷ lines) zero line h is = ap (λ z. z ∷ []) (sym is)
line_next (l ∷ lines) (suc i) line h is =
    let more : suc i + 1 ≡ suc (i + 1) = omega arith in
    ap (λ n. take n (l ∷ lines)) more ∙ ap (λ z. l ∷ z) (line_next lines i line (omega (arith, h)) is)

-- ---- the items behind so many

pub all_behind : {A : Type 0} (xs taken : List A) (n : ℕ) (want : List A) → length xs ≤ n → taken ++ drop n xs ≡ want → taken ≡ want
all_behind xs taken n want none h = sym (append-nil taken) ∙ ap (λ z. taken ++ z) (sym (drop_all xs n none)) ∙ h
  where
    drop_all : {A : Type 0} (xs : List A) (n : ℕ) → length xs ≤ n → drop n xs ≡ []
    drop_all [] zero h = refl
    drop_all [] (suc n) h = refl
    drop_all (x ∷ xs) zero h = absurd (omega (arith, h))
    drop_all (x ∷ xs) (suc n) h = drop_all xs n (omega (arith, h))

pub next_behind : {A : Type 0} (xs taken more : List A) (n : ℕ) (x : A) (want : List A) → slice_get xs n ≡ Some x → more ≡ taken ++ x ∷ [] → taken ++ drop n xs ≡ want → more ++ drop (n + 1) xs ≡ want
next_behind xs taken more n x want here pushed h =
    ap (λ z. z ++ drop (n + 1) xs) pushed ∙ append_assoc taken (x ∷ []) (drop (n + 1) xs) ∙ ap (λ z. taken ++ z) (sym (first_at xs n x here)) ∙ h

-- each row sets decimals of the scales of their slots
pub rows_scaled : (slots : List Slot) (into : List ℕ) (rows : List OutRow) → AllByRecursion (AreSettingsScaled slots) (rows_as_loads slots into rows)
rows_scaled slots into [] = tt
rows_scaled slots into (r ∷ rows) = (row_scaled slots into r.row, rows_scaled slots into rows)

module _ {S : Type 0} (has_taken : S → S → List Written → List (List ℕ) → Type 0) where
  -- lines that were handed on, and what comes behind them
  lines_first : (before now after : S) (lines : List (List ℕ)) (answer : Answer) (end : UnitsEnd) → SinkTakes has_taken before now [] lines → HasRunAnswer has_taken now after answer end
      → SinkTakes has_taken before after answer.rows (lines ++ answer.lines)
  lines_first before now after lines answer end first rest = taken_more has_taken before now after [] answer.rows lines answer.lines first rest.taken

  -- behind a thread program that ended normally
  pub behind_normal : (before now after : S) (lines : List (List ℕ)) (stage : Answer) (go : List Row → Answer) (end : UnitsEnd) → stage.ending ≡ Some Normal → lines ≡ stage.lines
      → SinkTakes has_taken before now [] lines → HasRunAnswer has_taken now after (go (stage_rows stage)) end
      → HasRunAnswer has_taken before after (after_stage stage.ending stage go) end
  behind_normal before now after lines stage go end normal same first rest =
      let P : Option Ending → Type 0 = λ e. HasRunAnswer has_taken before after (after_stage e stage go) end in
      let Q : List (List ℕ) → Type 0 = λ ls. SinkTakes has_taken before now [] ls in
      subst P (sym normal)
      (record {
        taken = lines_first before now after stage.lines (go (stage_rows stage)) end (subst Q same first) rest;
        counted = rest.counted;
        ended = rest.ended;
      })

  -- behind one that ended by a fault
  pub behind_fault : (before now : S) (lines : List (List ℕ)) (stage : Answer) (go : List Row → Answer) (fault : Fault) (place : Place) (end : UnitsEnd) → stage.ending ≡ Some (Faulted fault place)
      → lines ≡ stage.lines → SinkTakes has_taken before now [] lines → end.ending ≡ Faulted fault place → end.executed ≡ 0
      → HasRunAnswer has_taken before now (after_stage stage.ending stage go) end
  behind_fault before now lines stage go fault place end faulted same first ending none =
      let P : Option Ending → Type 0 = λ e. HasRunAnswer has_taken before now (after_stage e stage go) end in
      let Q : List (List ℕ) → Type 0 = λ ls. SinkTakes has_taken before now [] ls in
      subst P (sym faulted)
      (record {
        taken = subst Q (same ∙ sym (append-nil stage.lines)) first;
        counted = none;
        ended = ap Some (sym ending);
      })

  -- groups are no part of what a run leaves
  pub whatever_groups : (before after : S) (groups : ℕ) (answer : Answer) (end : UnitsEnd) → HasRunAnswer has_taken before after answer end → HasRunAnswer has_taken before after (with_groups groups answer) end
  whatever_groups before after groups answer end h = record { taken = h.taken; counted = h.counted; ended = h.ended }

  -- ---- the whole

  -- what is told of a thread program behind those below it
  noted_behind : (stage : Answer) (below : List StageNote) (note : StageNote) → note.groups ≡ stage.groups → note.executed ≡ stage.executed → below ≡ reverse (map note_of_stage stage.stages)
      → below ++ note ∷ [] ≡ reverse (map note_of_stage (stage_notes stage))
  noted_behind stage below note groups executed others =
      let told = note_of_stage (record { groups = stage.groups; executed = stage.executed; ending = stage.ending }) in
      let one : note ≡ told = λ i. record { groups = groups i; executed = executed i } in
      ap (λ (n : StageNote). below ++ n ∷ []) one
      ∙ ap (λ (ns : List StageNote). ns ++ told ∷ []) others
      ∙ sym (reverse_onto (map note_of_stage stage.stages) told [])

  stages_behind : (stage : Answer) (go : List Row → Answer) (e : Option Ending) → (after_stage e stage go).stages ≡ stage_notes stage
  stages_behind stage go (Some Normal) = refl
  stages_behind stage go (Some (Faulted fault place)) = refl
  stages_behind stage go None = refl

  -- a unit that ended the program by a fault is early
  not_late : (e f : Ending) → e ≡ f → is_early f ≡ true → is_early e ≡ false → ⊥
  not_late e f is early late = let s : is_early e ≡ true = ap is_early is ∙ early in absurd cc

  not_early : (e f : Ending) → e ≡ f → is_early f ≡ false → is_early e ≡ true → ⊥
  not_early e f is late early = let s : is_early e ≡ false = ap is_early is ∙ late in absurd cc

  -- `init` ends the program by a fault: no thread program was begun
  none_begun : (o : UnitOutcome ProgramData) (go : ProgramData → Answer) (before after : S) (unit : UnitEnd) (state : ProgramData) → IsUnitEnd has_taken before after o unit state
      → is_early unit.ending ≡ true → (then_unit o go).stages ≡ []
  none_begun (Completed c p n) go before after unit state h early = absurd (not_early unit.ending Normal h.0 refl early)
  none_begun (Interrupted fault p n) go before after unit state h early = refl
  none_begun Strayed go before after unit state h early = absurd h

  pub reader_stops : (o : UnitOutcome ProgramData) (go : ProgramData → Answer) (before after : S) (unit : UnitEnd) (state : ProgramData) (told : RunEnd) → IsUnitEnd has_taken before after o unit state
      → is_early unit.ending ≡ true → told.ending ≡ unit.ending → told.executed ≡ unit.executed → told.stages ≡ [] → IsRunEnd has_taken before after (then_unit o go) told
  reader_stops o go before after unit state told h early ending executed none =
      let end : UnitsEnd = record { ending = told.ending; executed = told.executed } in
      let ran = unit_stops has_taken o go before after unit state end h early ending executed in
      record {
        taken = ran.taken;
        ended = ran.ended;
        counted = ran.counted;
        noted = none ∙ ap (λ (xs : List StageAnswer). reverse (map note_of_stage xs)) (sym (none_begun o go before after unit state h early));
      }

  module _ (stage_of : ProgramData → Answer) (rows_go : ProgramData → List Row → Answer) where
    -- what comes behind `init`
    abbrev pub goes_on : ProgramData → Answer
    goes_on d = after_stage (stage_of d).ending (stage_of d) (rows_go d)

    one_noted : (o : UnitOutcome ProgramData) (before next : S) (unit : UnitEnd) (state : ProgramData) (stage : ThreadEnd) → IsUnitEnd has_taken before next o unit state → is_early unit.ending ≡ false
        → IsThreadEnd (stage_of state) stage → stage.below ++ stage.note ∷ [] ≡ reverse (map note_of_stage (then_unit o goes_on).stages)
    one_noted (Completed c p n) before next unit state stage h late is =
        let P : ProgramData → Type 0 = λ d. IsThreadEnd (stage_of d) stage in
        let at = subst P h.4 is in
        noted_behind (stage_of c) stage.below stage.note at.grouped at.counted at.noted
        ∙ ap (λ (xs : List StageAnswer). reverse (map note_of_stage xs)) (sym (stages_behind (stage_of c) (rows_go c) (stage_of c).ending))
    one_noted (Interrupted fault p n) before next unit state stage h late is = absurd (not_late unit.ending (Faulted fault p.place) h.0 refl late)
    one_noted Strayed before next unit state stage h late is = absurd h

    pub reader_ends : (o : UnitOutcome ProgramData) (before next after : S) (unit : UnitEnd) (state : ProgramData) (rest : UnitsEnd) (stage : ThreadEnd) (told : RunEnd) → IsUnitEnd has_taken before next o unit state
        → is_early unit.ending ≡ false → IsThreadEnd (stage_of state) stage → HasRunAnswer has_taken next after (goes_on state) rest
        → told.ending ≡ rest.ending → told.executed ≡ unit.executed + rest.executed → told.stages ≡ stage.below ++ stage.note ∷ [] → IsRunEnd has_taken before after (then_unit o goes_on) told
    reader_ends o before next after unit state rest stage told h late is behind ending executed notes =
        let end : UnitsEnd = record { ending = told.ending; executed = told.executed } in
        let ran = unit_then has_taken o goes_on before next after unit state rest end h late behind ending executed in
        record {
          taken = ran.taken;
          ended = ran.ended;
          counted = ran.counted;
          noted = notes ∙ one_noted o before next unit state stage h late is;
        }

-- ---- the groups of a program that reads from a thread program

pub groups_none : (e : Option Ending) → groups_at e 0 ≡ 0
groups_none (Some Normal) = refl
groups_none (Some (Faulted fault place)) = refl
groups_none None = refl

module _ {S : Type 0} (has_taken : S → S → List Written → List (List ℕ) → Type 0) where
  -- where `init` ends the program by a fault there are none
  pub no_groups : (o : UnitOutcome ProgramData) (go : ProgramData → Answer) (before after : S) (unit : UnitEnd) (state : ProgramData) → IsUnitEnd has_taken before after o unit state
      → is_early unit.ending ≡ true → (then_unit o go).groups ≡ 0
  no_groups (Completed c p n) go before after unit state h early = absurd (let s : is_early unit.ending ≡ false = ap is_early h.0 in absurd cc)
  no_groups (Interrupted fault p n) go before after unit state h early = refl
  no_groups Strayed go before after unit state h early = absurd h

  module _ (code : ProgramParts) (budget : ℕ) (stage_of : ProgramData → Answer) where
    behind_groups : (d : ProgramData) (stage : Answer) (e : Option Ending)
        → (after_stage e stage (answer_on_rows code budget d)).groups ≡ groups_at (after_stage e stage (answer_on_rows code budget d)).ending (length (stage_rows stage))
    behind_groups d stage (Some Normal) = refl
    behind_groups d stage (Some (Faulted fault place)) = refl
    behind_groups d stage None = refl

    -- each row of the thread program is one
    pub rows_grouped : (o : UnitOutcome ProgramData) (before next : S) (unit : UnitEnd) (state : ProgramData) → IsUnitEnd has_taken before next o unit state → is_early unit.ending ≡ false
        → (then_unit o (λ d. answer_behind code budget d (stage_of d))).groups
        ≡ groups_at (then_unit o (λ d. answer_behind code budget d (stage_of d))).ending (length (stage_rows (stage_of state)))
    rows_grouped (Completed c p n) before next unit state h late =
        let behind = answer_behind code budget c (stage_of c) in
        behind_groups c (stage_of c) (stage_of c).ending ∙ ap (λ d. groups_at behind.ending (length (stage_rows (stage_of d)))) (sym h.4)
    rows_grouped (Interrupted fault p n) before next unit state h late = absurd (let s : is_early unit.ending ≡ true = ap is_early h.0 in absurd cc)
    rows_grouped Strayed before next unit state h late = absurd h
