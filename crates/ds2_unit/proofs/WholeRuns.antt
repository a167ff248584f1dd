-- The run of a whole data program.
use Rattle.std.proofs.Common.{◌≡◌, ℕ, List, [], map, Some, refl, sym, ap, ◌∙◌, subst}
use Rattle.std.specs.Prelude.{reverse}
use Rattle.ds2_value.specs.Progress.{UnitOutcome, Completed, Interrupted, Strayed}
use Rattle.ds2_value.specs.Run.{Written}
use Rattle.ds2_value.specs.declared.fault.Ending.TheVariants.{Normal}
use Rattle.ds2_table.specs.OneThread.{Units, Reached, Standing, Halted, Astray, StageAnswer, Answer, alone_answer, nothing_left, then_unit, behind_loads, last_unit, run_all, run_each}
use Rattle.ds2_table.specs.Table.{Contents}
use Rattle.ds2_code.specs.declared.parts.ProgramParts.{ProgramParts}
use Rattle.ds2_code.specs.declared.parts.StagedParts.{StagedParts}
use Rattle.ds2_code.specs.CodeUnit.{code_init, opening_data}
use Rattle.ds2_code.specs.Desk.{ProgramData, SlotSettings}
use Rattle.ds2_code_answer.specs.CodeAnswer.{code_units, code_opening, code_program, code_answer}
use Rattle.ds2_code_answer.specs.CodeLoads.{code_loads}
use Rattle.ds2_code_answer.specs.CodeTables.{rows_of_each}
use Rattle.ds2_unit.specs.ProgramRun.{IsRunEnd, note_of_stage}
use Rattle.ds2_unit.specs.UnitsRun.{HasRunAnswer}
use Rattle.ds2_unit.specs.declared.program_end.RunEnd.{RunEnd}
use Rattle.ds2_unit.specs.declared.units_end.UnitsEnd.{UnitsEnd}

-- ---- no thread program is read

unit_without : (o : UnitOutcome ProgramData) (go : ProgramData → Answer) → ((state : ProgramData) → (go state).stages ≡ []) → (then_unit o go).stages ≡ []
unit_without (Completed state p n) go h = h state
unit_without (Interrupted fault p n) go h = refl
unit_without Strayed go h = refl

behind_without : (x : Reached ProgramData) (go : ProgramData → Answer) → ((state : ProgramData) → (go state).stages ≡ []) → (behind_loads x go).stages ≡ []
behind_without (Standing state) go h = h state
behind_without (Halted fault place) go h = refl
behind_without Astray go h = refl

each_without : (units : Units SlotSettings ProgramData) (loads : List SlotSettings) (state : ProgramData) → (run_each units loads state).stages ≡ []
each_without units loads state =
    behind_without (run_all units loads state).reached (last_unit units) (λ s. unit_without (units.term s) (λ d. nothing_left (Some Normal)) (λ d. refl))

-- ---- the whole

module _ {S : Type 0} (has_taken : S → S → List Written → List (List ℕ) → Type 0) (before after : S) (tables : List Contents) (budget grain : ℕ) where
  alone_run : (code : ProgramParts) (state : ProgramData) (end : UnitsEnd) (told : RunEnd) → state ≡ code_opening code [] tables []
      → HasRunAnswer has_taken before after (then_unit (code_init code budget state) (run_each (code_units code budget) (code_loads code tables))) end
      → told.ending ≡ end.ending → told.executed ≡ end.executed → told.stages ≡ []
      → IsRunEnd has_taken before after (alone_answer (code_program code [] tables budget grain) (code_opening code [] tables [])) told
  alone_run code state end told opened ran ending executed none =
      let P : ProgramData → Type 0 = λ s. HasRunAnswer has_taken before after (then_unit (code_init code budget s) (run_each (code_units code budget) (code_loads code tables))) end in
      let all = subst P opened ran in
      let begun = code_opening code [] tables [] in
      let stages = unit_without (code_init code budget begun) (run_each (code_units code budget) (code_loads code tables)) (λ s. each_without (code_units code budget) (code_loads code tables) s) in
      record {
        taken = all.taken;
        ended = all.ended ∙ ap Some (sym ending);
        counted = executed ∙ all.counted;
        noted = none ∙ ap (λ (xs : List StageAnswer). reverse (map note_of_stage xs)) (sym stages);
      }

  pub whole_run : (parts : StagedParts) (state : ProgramData) (end : UnitsEnd) (told : RunEnd) → parts.stages ≡ [] → state ≡ opening_data parts.program [] (rows_of_each tables) 0
      → HasRunAnswer has_taken before after (then_unit (code_init parts.program budget state) (run_each (code_units parts.program budget) (code_loads parts.program tables))) end
      → told.ending ≡ end.ending → told.executed ≡ end.executed → told.stages ≡ [] → IsRunEnd has_taken before after (code_answer parts tables budget grain) told
  whole_run parts state end told alone opened ran ending executed none =
      let P : List ProgramParts → Type 0 = λ stages. IsRunEnd has_taken before after (alone_answer (code_program parts.program stages tables budget grain) (code_opening parts.program stages tables [])) told in
      subst P (sym alone) (alone_run parts.program state end told opened ran ending executed none)
