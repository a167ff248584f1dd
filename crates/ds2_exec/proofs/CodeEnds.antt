-- From the end of a run to what its code leaves.
use Rattle.std.proofs.Common.{◌≡◌, ◌++◌, ◌∙◌, IfOk, ℕ, Bool, List, [], map, Result, Ok, Err, sym, ap, subst}
use Rattle.std.proofs.lemmas.List.{append-nil}
use Rattle.ds2_value.specs.Run.{Written}
use Rattle.ds2_table.specs.OneThread.{Answer}
use Rattle.ds2_table.specs.Table.{Contents}
use Rattle.ds2_code.specs.declared.parts.StagedParts.{StagedParts}
use Rattle.ds2_code_answer.specs.CodeAnswer.{code_answer}
use Rattle.ds2_unit.specs.Outputs.{HaveRows}
use Rattle.ds2_unit.specs.ProgramRun.{IsRunEnd, grain_asked}
use Rattle.ds2_unit.specs.declared.output_sinks.OutputSinks.{OutputSinks}
use Rattle.ds2_unit.specs.declared.program_end.RunEnd.{RunEnd}
use Rattle.ds2_answer.specs.ObjectPlans.{stages_of_code}
use Rattle.ds2_answer.specs.StagesLeft.{VerdictsTold, grain_of_stages}
use Rattle.ds2_exec.specs.declared.output_sink.OutputSink.{OutputSink}
use Rattle.ds2_exec.specs.declared.programs.CodeEnd.{CodeEnd}
use Rattle.ds2_exec.specs.OutputSinks.{HasSunk, IsCodeEnd, left_by_run, sink_begun}
use Rattle.ds2_exec.specs.StageEnds.{JudgedStage, judged_stages, stage_told, stages_noted}
use Rattle.ds2_exec.proofs.SinkSteps.{all_sunk, nothing_sunk}
use Rattle.ds2_exec.proofs.StageSteps.{noted_all}

-- ---- the end of a run

-- the sinks have taken these rows and lines
abbrev HaveTaken : OutputSinks OutputSink → OutputSinks OutputSink → List Written → List (List ℕ) → Type 0
HaveTaken from now rows lines = HaveRows HasSunk rows 0 from.outputs.items now.outputs.items × (now.lines ≡ from.lines ++ lines)

module _ (keeps : List ℕ → Bool) (told : VerdictsTold) (staged : StagedParts) (tables : List Contents) (budget : ℕ) (judged : List JudgedStage) (judged_are : judged ≡ judged_stages told staged.stages) (grains : List ℕ)
    (begun now : OutputSinks OutputSink) (end : RunEnd) (asked : grain_asked grains ≡ grain_of_stages told (stages_of_code staged)) (outputs_are : begun.outputs.items ≡ map (sink_begun keeps staged.program.slots) staged.program.outputs)
    (lines_are : begun.lines ≡ []) (ran : IsRunEnd HaveTaken begun now (code_answer staged tables budget (grain_asked grains)) end) where
  -- the answer at the grain that is told
  abbrev done : Answer
  done = code_answer staged tables budget (grain_of_stages told (stages_of_code staged))

  ran_so : IsRunEnd HaveTaken begun now done end
  ran_so = subst (λ (g : ℕ). IsRunEnd HaveTaken begun now (code_answer staged tables budget g) end) asked ran

  took : HaveTaken begun now done.rows done.lines
  took = ran_so.taken begun [] [] (subst (λ (ts : List OutputSink). HaveRows HasSunk [] 0 ts ts) (sym outputs_are) (nothing_sunk keeps staged.program.slots 0 staged.program.outputs), sym (append-nil begun.lines))

  -- the code leaves what its answer says
  left_so : IsCodeEnd keeps told staged done (left_by_run judged now end)
  left_so = record {
    tables = all_sunk keeps staged.program.slots 0 staged.program.outputs done.rows now.outputs.items (subst (λ (ts : List OutputSink). HaveRows HasSunk done.rows 0 ts now.outputs.items) outputs_are took.0);
    lines = took.1 ∙ ap (λ (lines : List (List ℕ)). lines ++ done.lines) lines_are;
    ended = ran_so.ended;
    counted = ran_so.counted;
    noted = ap (map stage_told)
        (ap (λ (ss : List JudgedStage). stages_noted ss end.stages) judged_are ∙ ap (stages_noted (judged_stages told staged.stages)) ran_so.noted)
        ∙ noted_all told staged.stages done.stages;
  }

  pub run_left : {E : Type 0} (result : Result CodeEnd E) → IfOk result (λ left. left ≡ left_by_run judged now end) → IfOk result (λ left. IsCodeEnd keeps told staged done left)
  run_left (Ok left) is = subst (λ (l : CodeEnd). IsCodeEnd keeps told staged done l) (sym is) left_so
  run_left (Err e) is = is
