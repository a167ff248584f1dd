-- What `exec` answers to an object: its tables are read, its outputs asked for, and its programs run.
use Rattle.std.specs.Prelude.{ℕ, Bool, bytes_eq, not, ◌==◌, ◌&&◌, ◌||◌, if◌then◌else◌, List, [], ◌∷◌, ◌++◌, flat_map, map, Result, Ok, Err}
use Rattle.ds2_base.specs.Bytes.{Bytes}
use Rattle.ds2_base.specs.declared.stop.Stop.{Stop}
use Rattle.ds2_base.specs.declared.stop.Stop.TheVariants.{Refused}
use Rattle.ds2_table.specs.OneThread.{Answer}
use Rattle.ds2_outside.specs.Files.{Files}
use Rattle.ds2_code.specs.declared.parts.OutputPart.{OutputPart}
use Rattle.ds2_code.specs.declared.parts.ProgramParts.{ProgramParts}
use Rattle.ds2_code.specs.declared.parts.StagedParts.{StagedParts}
use Rattle.ds2_code.specs.declared.parts.TableReference.{TableReference}
use Rattle.ds2_code_answer.specs.CodeAnswer.{code_answer}
use Rattle.ds2_code_answer.specs.CodeTables.{program_references}
use Rattle.ds2_object.specs.ObjectSpelling.{DecodesTo}
use Rattle.ds2_object.specs.declared.refusal.ObjectRefusal.{ObjectRefusal}
use Rattle.ds2_same_meaning.specs.SameMeaning.{code_tables_made, number_of_bys}
use Rattle.ds2_answer.specs.declared.kinds.TheConstants.{OBJECT_LIMIT}
use Rattle.ds2_answer.specs.declared.status.Status.TheVariants as ended
use Rattle.ds2_answer.specs.HeldTables.{HeldTables, NamedTable, held_from_store, made_by_name, tables_held}
use Rattle.ds2_answer.specs.Lines.{object_refused_line}
use Rattle.ds2_answer.specs.Plan.{Plan, Stops, Logs}
use Rattle.ds2_answer.specs.ProgramPlans.{ProgramLeft, ProgramRun, left_with, programs_plan}
use Rattle.ds2_answer.specs.StagesLeft.{StageRead, VerdictsTold, instruction_counts, grain_of_stages, name_of_stage, no_verdict}
use Rattle.ds2_answer.specs.TablePlans.{OutputNamed, Presence, none_made, outputs_then, read_file, read_tables}

-- ---- objects as bytes

-- what is decoded, as a call tells it that found memory
abbrev pub decoded_or_refused : Result (List StagedParts) ObjectRefusal → Result (List StagedParts) (Stop ObjectRefusal)
decoded_or_refused (Ok programs) = Ok programs
decoded_or_refused (Err refusal) = Err (Refused refusal)

-- what object files are decoded to: for each file its programs or its refusal
abbrev pub ObjectReading : Type 0
ObjectReading = Bytes → Result (List StagedParts) ObjectRefusal

-- a file is decoded as it should be: to the programs of which it is the spelling, or to what is wrong with it first
abbrev pub IsDecoding : ObjectReading → Bytes → Type 0
IsDecoding object_for bytes = DecodesTo (decoded_or_refused (object_for bytes)) bytes

-- ---- programs of code

-- a thread program as its code tells it
abbrev pub stage_in_code : ProgramParts → StageRead
stage_in_code stage = record { name = name_of_stage stage.name; bys = number_of_bys stage.reading }

-- the thread programs that code reads from, the nearest one first
abbrev pub stages_of_code : StagedParts → List StageRead
stages_of_code code = map stage_in_code code.stages

-- what code leaves with this answer
abbrev pub left_by_code : VerdictsTold → StagedParts → Answer → ProgramLeft
left_by_code told code answer = left_with told (stages_of_code code) (instruction_counts answer) answer (map made_by_name (code_tables_made code.program answer.rows))

-- the one-thread answer of code over tables that are held, its groups at the grain that the verdicts tell
abbrev pub answer_over : VerdictsTold → StagedParts → ℕ → HeldTables → Answer
answer_over told code budget held = code_answer code (tables_held held code) budget (grain_of_stages told (stages_of_code code))

-- code as a program over tables that are held
abbrev pub run_of_code : VerdictsTold → ℕ → StagedParts → ProgramRun
run_of_code told budget code = λ held. left_by_code told code (answer_over told code budget held)

-- the outputs of code
abbrev pub outputs_of_code : StagedParts → List OutputNamed
outputs_of_code code = map (λ (o : OutputPart). record { name = o.name; overwrites = o.overwrites }) code.program.outputs

-- ---- the tables of an object

-- the tables that programs name, program by program in the order of the format
abbrev pub references_of : List StagedParts → List TableReference
references_of programs = flat_map (λ (code : StagedParts). program_references code.program code.stages) programs

-- a reference to a table of the store makes its name known
abbrev pub known_too : TableReference → (known : List ℕ → Bool) → (List ℕ → Bool)
known_too r known name = (r.maker == 0 && bytes_eq r.name name) || known name

-- the name of a table of the store that was not known
abbrev pub new_name : (known : List ℕ → Bool) → TableReference → List (List ℕ)
new_name known r = if r.maker == 0 && not (known r.name) then r.name ∷ [] else []

-- the names of the tables of the store, each at its first mention, without those that a test knows
abbrev pub first_referred : (known : List ℕ → Bool) → List TableReference → List (List ℕ)
first_referred known [] = []
first_referred known (r ∷ references) = new_name known r ++ first_referred (known_too r known) references

-- the tables of the store that an object reads, in the order of first mention
abbrev pub object_inputs : List StagedParts → List (List ℕ)
object_inputs programs = first_referred none_made (references_of programs)

-- ---- the answer

-- an object's programs run over tables that were read, unless an output is there already; an object carries no verdicts
abbrev pub object_over : List StagedParts → ℕ → Presence → List NamedTable → Plan
object_over programs budget there read =
    outputs_then none_made there (flat_map outputs_of_code programs) (programs_plan (map (run_of_code no_verdict budget) programs) (held_from_store read))

-- an object's tables are read, each with the columns that code names, and its programs run
abbrev pub object_plan : List StagedParts → ℕ → Files → Presence → Plan
object_plan programs budget files there = read_tables (references_of programs) (object_inputs programs) [] files (object_over programs budget there)

-- bytes that are no object are refused, or the object is run
abbrev pub on_object : Result (List StagedParts) ObjectRefusal → ℕ → Files → Presence → Plan
on_object (Err refusal) budget files there = Logs (object_refused_line refusal) (Stops ended.Object)
on_object (Ok programs) budget files there = object_plan programs budget files there

-- the file of an object is read
abbrev pub exec_plan : ObjectReading → List ℕ → ℕ → Files → Presence → Plan
exec_plan object_for name budget files there = read_file OBJECT_LIMIT name files (λ bytes. on_object (object_for bytes) budget files there)
