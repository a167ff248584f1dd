-- The groups of valid code don't go astray.
use Rattle.std.proofs.Common.{◌≡◌, ℕ, zero, suc, List, [], ◌∷◌, Option, Some, None, refl, IsTrue}
use Rattle.std.specs.Prelude.{slice_get, unwrap_or}
use Rattle.ds2_value.specs.Progress.{UnitOutcome, Completed, Interrupted, Strayed, has_end}
use Rattle.ds2_table.specs.OneThread.{Astray, GroupResult, then_loads, run_all}
use Rattle.ds2_code.specs.declared.parts.ProgramParts.{ProgramParts}
use Rattle.ds2_code.specs.declared.parts.StagedParts.{StagedParts}
use Rattle.ds2_code.specs.CodeUnit.{code_run}
use Rattle.ds2_code.specs.Desk.{ProgramData, SlotSettings}
use Rattle.ds2_code.specs.ValidCode.{EndsInTime, HasUnitsThatEnd, IsValidStaged, ValidCodeEnds}
use Rattle.ds2_code_answer.specs.CodeAnswer.{code_units}
use Rattle.ds2_machine.specs.AtRest.{staged_program}
use Rattle.ds2_group_job.proofs.GroupsInTurn.{NoneStrays}

-- a program of a chain is one of its programs
there_in_chain : (parts : StagedParts) (k : ℕ) (o : Option ProgramParts) → slice_get parts.stages k ≡ o → (n : ℕ) × (slice_get (parts.program ∷ parts.stages) n ≡ Some (unwrap_or o parts.program))
there_in_chain parts k None is = (0, refl)
there_in_chain parts k (Some code) is = (suc k, is)

in_chain : (parts : StagedParts) (number : ℕ) → (n : ℕ) × (slice_get (parts.program ∷ parts.stages) n ≡ Some (staged_program parts number))
in_chain parts zero = (0, refl)
in_chain parts (suc k) = there_in_chain parts k (slice_get parts.stages k) refl

then_stays : (o : UnitOutcome ProgramData) (go : ProgramData → GroupResult ProgramData) → IsTrue (has_end o) → ((state : ProgramData) → (go state).reached ≡ Astray → ⊥) → (then_loads o go).reached ≡ Astray → ⊥
then_stays (Completed state unit n) go ends rest is = rest state is
then_stays (Interrupted fault unit n) go ends rest is = absurd cc
then_stays Strayed go ends rest is = absurd cc

loads_stay : (code : ProgramParts) (budget : ℕ) → ((load : SlotSettings) (state : ProgramData) → IsTrue (has_end (code_run code budget load state)))
    → (loads : List SlotSettings) (state : ProgramData) → (run_all (code_units code budget) loads state).reached ≡ Astray → ⊥
loads_stay code budget ends [] state is = absurd cc
loads_stay code budget ends (l ∷ loads) state is = then_stays (code_run code budget l state) (run_all (code_units code budget) loads) (ends l state) (λ next there. loads_stay code budget ends loads next there) is

pub none_strays : ValidCodeEnds → (parts : StagedParts) (number budget : ℕ) (groups : List (List SlotSettings)) → IsValidStaged parts → NoneStrays (staged_program parts number) budget groups
none_strays law parts number budget groups valid loads state is =
    let it = in_chain parts number in
    let code = staged_program parts number in
    loads_stay code budget (λ load s. EndsInTime.end (HasUnitsThatEnd.run (law parts it.0 code budget load s valid it.1))) loads state is
