-- The answer of a line of words over the files of a store: a plan.
use Rattle.std.specs.Prelude.{ℕ, List, Option, Some, None}
use Rattle.ds2_outside.specs.Files.{Files}
use Rattle.ds2_code.specs.declared.parts.StagedParts.{StagedParts}
use Rattle.ds2_source.specs.AnswersOfTexts.{SourcesRead}
use Rattle.ds2_answer.specs.declared.command_line.CommandLine.{CommandLine}
use Rattle.ds2_answer.specs.declared.command_line.CommandLine.TheVariants.{Run, Compile, Exec, Check, Demo}
use Rattle.ds2_answer.specs.declared.status.Status.TheVariants as ended
use Rattle.ds2_answer.specs.CommandLines.{command_line_of}
use Rattle.ds2_answer.specs.DemoPlans.{demo_plan}
use Rattle.ds2_answer.specs.Lines.{usage_line}
use Rattle.ds2_answer.specs.ObjectPlans.{ObjectReading, exec_plan}
use Rattle.ds2_answer.specs.Plan.{Plan, Stops, Logs}
use Rattle.ds2_answer.specs.SourcePlans.{check_threads, compile_programs_of, run_programs_of, source_plan}
use Rattle.ds2_answer.specs.TablePlans.{Presence, present_in}

-- words that are no command are refused, or the command is done. The object enters as the bytes that are stored and by the numbers of
-- instructions that its codes execute; how many workers are asked for changes nothing. `demo` has files of its own
abbrev pub plan_of_command : SourcesRead → ObjectReading → (object : List StagedParts) → Option CommandLine → Files → Presence → Plan
plan_of_command sources object_for object None files there = Logs usage_line (Stops ended.Usage)
plan_of_command sources object_for object (Some (Run source threads budget)) files there = source_plan sources source files (run_programs_of source budget object there)
plan_of_command sources object_for object (Some (Compile source)) files there = source_plan sources source files (λ held verdicts programs. compile_programs_of source object)
plan_of_command sources object_for object (Some (Exec name budget)) files there = exec_plan object_for name budget files there
plan_of_command sources object_for object (Some (Check source)) files there = source_plan sources source files (λ held verdicts programs. check_threads verdicts)
plan_of_command sources object_for object (Some (Demo n)) files there = demo_plan sources object n

-- the answer of a line of words over these files, where sources are read and objects decoded as they are, and this object is stored
abbrev pub command_plan : SourcesRead → ObjectReading → (object : List StagedParts) → List (List ℕ) → Files → Plan
command_plan sources object_for object words files = plan_of_command sources object_for object (command_line_of words) files (present_in files)
