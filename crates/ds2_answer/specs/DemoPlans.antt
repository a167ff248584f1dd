-- What `demo` answers: a job of its own is run, over a table of sales, in files of its own.
use Rattle.std.specs.Prelude.{ℕ, List, [], ◌∷◌, ◌++◌, codes}
use Rattle.std.specs.FinMap.{empty}
use Rattle.ds2_decimal.specs.Text.{decimal_text}
use Rattle.ds2_csv.specs.Text as csv
use Rattle.ds2_outside.specs.Files.{Files, with_file}
use Rattle.ds2_code.specs.declared.parts.StagedParts.{StagedParts}
use Rattle.ds2_answer.specs.Sales.{sales_table, sales_total}
use Rattle.ds2_source.specs.AnswersOfTexts.{SourcesRead}
use Rattle.ds2_answer.specs.declared.status.Status.{Status}
use Rattle.ds2_answer.specs.declared.status.Status.TheVariants as ended
use Rattle.ds2_answer.specs.declared.words.TheConstants.{DEFAULT_BUDGET}
use Rattle.ds2_answer.specs.Answer.{table_file}
use Rattle.ds2_answer.specs.CountLines.{lines_without_counts}
use Rattle.ds2_answer.specs.Lines.{demo_line, lines_put}
use Rattle.ds2_answer.specs.Plan.{Plan, Stops, Logs, each_in_turn}
use Rattle.ds2_answer.specs.PlanSteps.{status_at_end, steps_of, text_logged}
use Rattle.ds2_answer.specs.SourcePlans.{run_programs_of, source_plan}
use Rattle.ds2_answer.specs.TablePlans.{Presence, present_in}

-- the file of the job's source
abbrev pub demo_job : List ℕ
demo_job = codes "job.ds2"

-- the job's source, that of `examples/totals`: a thread program sums the amounts of each region
abbrev pub demo_source : List ℕ
demo_source = lines_put (
    codes "thread sums;" ∷
    codes "dcl decimal(15,2) total; retain total; keep region total;" ∷
    codes "method run();" ∷
    codes "set sales; by region;" ∷
    codes "if first.region then total = 0;" ∷
    codes "total = total + amt;" ∷
    codes "if last.region then output;" ∷
    codes "end;" ∷
    codes "endthread;" ∷
    codes "data totals;" ∷
    codes "dcl thread sums s;" ∷
    codes "method run(); set from s threads=4; end;" ∷
    codes "enddata;" ∷
    [])

-- the job's files: its source, and n sales
unfoldable pub demo_files : ℕ → Files
demo_files n = with_file (with_file empty demo_job demo_source) (table_file (codes "sales")) (csv.text (sales_table n))

-- what `run` answers to the job over these files
abbrev pub demo_run : SourcesRead → List StagedParts → Files → Presence → Plan
demo_run sources object files there = source_plan sources demo_job files (run_programs_of demo_job DEFAULT_BUDGET object there)

-- the last line of `demo`: how many sales there were, and their total
abbrev pub total_line : ℕ → List ℕ
total_line n = demo_line n (decimal_text (sales_total n))

-- where the job is done the total of its sales is told
abbrev pub demo_end : Status → ℕ → Plan
demo_end ended.Done n = Logs (total_line n) (Stops ended.Done)
demo_end status n = Stops status

-- the job is told as its run would tell it in files of its own, but for the lines that count instructions; the command itself asks nothing of the
-- store
abbrev pub told_of_run : Plan → ℕ → Plan
told_of_run run n = each_in_turn Logs (lines_without_counts (text_logged (steps_of run))) (demo_end (status_at_end run) n)

-- `demo` with n rows
abbrev pub demo_plan : SourcesRead → List StagedParts → ℕ → Plan
demo_plan sources object n = told_of_run (demo_run sources object (demo_files n) (present_in (demo_files n))) n
