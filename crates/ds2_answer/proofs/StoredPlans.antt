-- Programs of a source do what their stored codes do.
use Rattle.std.proofs.Common.{◌≡◌, ◌∙◌, ◌+◌, ℕ, List, [], ◌∷◌, ◌++◌, drop, flat_map, get_or, length, map, option_map, Option, None, refl, sym, ap}
use Rattle.std.specs.Prelude.{reverse}
use Rattle.ds2_value.specs.Row.{Row}
use Rattle.ds2_table.specs.OneThread.{Answer, StageAnswer}
use Rattle.ds2_table.specs.Table.{Contents}
use Rattle.ds2_source.specs.ProgramMeaning.{MadeTable, program_answer, tables_made}
use Rattle.ds2_meaning.specs.ProgramTree.{UnitTree, ProgramTree, OverTables, OverStage, reader_of}
use Rattle.ds2_meaning.specs.Reading.{bys_of}
use Rattle.ds2_meaning.specs.declared.globals.OutputTable.{OutputTable}
use Rattle.ds2_code.specs.declared.parts.OutputPart.{OutputPart}
use Rattle.ds2_code.specs.declared.parts.ProgramParts.{ProgramParts}
use Rattle.ds2_code.specs.declared.parts.Slot.{Slot}
use Rattle.ds2_code.specs.declared.parts.StagedParts.{StagedParts}
use Rattle.ds2_code.specs.declared.parts.TableReference.{TableReference}
use Rattle.ds2_code_answer.specs.CodeTables.{program_references, rows_of_each}
use Rattle.ds2_same_meaning.specs.Outputs.{tables_from}
use Rattle.ds2_same_meaning.specs.SameAnswer.{AreLikeAnswers, AreLikeStages, HaveRowsMentioned, programs_in_chain}
use Rattle.ds2_same_meaning.specs.SameMeaning.{MeansSame, code_tables_made, number_of_bys, table_referred, tables_of_outputs}
use Rattle.ds2_answer.specs.HeldTables.{HeldTables, held_behind, made_by_name, rows_held, table_held, tables_held}
use Rattle.ds2_answer.specs.ObjectPlans.{answer_over, left_by_code, outputs_of_code, run_of_code, stage_in_code, stages_of_code}
use Rattle.ds2_answer.specs.ProgramPlans.{ProgramLeft, left_with, program_then, programs_plan}
use Rattle.ds2_answer.specs.SourcePlans.{outputs_of_program, run_of_program, runs_of_programs, stage_in_tree, stages_of_program}
use Rattle.ds2_answer.specs.Lines.{verdict_text}
use Rattle.ds2_answer.specs.StagesLeft.{InstructionCounts, StageRead, VerdictsTold, instruction_counts, grain_of_stages, name_of_stage, stages_left}
use Rattle.ds2_answer.specs.StoredCodes.{CodesDoAsPrograms, HaveCodes}
use Rattle.ds2_answer.specs.TablePlans.{OutputNamed}

-- ---- rows

rows_are : (held : HeldTables) (references : List TableReference) → rows_of_each (map (table_held held) references) ≡ map (rows_held held) (map table_referred references)
rows_are held [] = refl
rows_are held (r ∷ references) = ap (λ (rows : List (List Row)). Contents.rows (table_held held r) ∷ rows) (rows_are held references)

rows_mentioned : (held : HeldTables) (p : ProgramTree) (code : StagedParts) → MeansSame p code → HaveRowsMentioned p (rows_held held) (tables_held held code)
rows_mentioned held p code same = rows_are held (program_references code.program code.stages) ∙ ap (map (rows_held held)) same.tables

-- ---- thread programs

-- thread programs of equal names and numbers of BY variables are told alike
reads_same : (parts : List ProgramParts) (units : List UnitTree) → map (λ (part : ProgramParts). part.name) parts ≡ map (λ (unit : UnitTree). unit.thread) units
    → map (λ (part : ProgramParts). number_of_bys part.reading) parts ≡ map (λ (unit : UnitTree). length (bys_of unit.reading)) units → map stage_in_tree units ≡ map stage_in_code parts
reads_same [] [] names bys = refl
reads_same [] (u ∷ units) names bys = absurd (cc names)
reads_same (x ∷ parts) [] names bys = absurd (cc names)
reads_same (x ∷ parts) (u ∷ units) names bys =
    let name_is : x.name ≡ u.thread = ap (λ (l : List (Option (List ℕ))). get_or l 0 None) names in
    let bys_are : number_of_bys x.reading ≡ length (bys_of u.reading) = ap (λ (l : List ℕ). get_or l 0 0) bys in
    λ i. record { name = name_of_stage (sym name_is i); bys = sym bys_are i } ∷ reads_same parts units (ap (drop 1) names) (ap (drop 1) bys) i

stages_same : (p : ProgramTree) (code : StagedParts) → MeansSame p code → stages_of_program p ≡ stages_of_code code
stages_same (OverTables u) code same = reads_same code.stages [] (ap (drop 1) same.names) (ap (drop 1) same.bys)
stages_same (OverStage u stage) code same = reads_same code.stages (programs_in_chain stage) (ap (drop 1) same.names) (ap (drop 1) same.bys)

-- what is told of them behind their ends is alike where they ended alike
stages_alike : (told : VerdictsTold) (stages : List StageRead) (done meant : List StageAnswer) (counts : List ℕ) → AreLikeStages done meant → stages_left told stages meant counts ≡ stages_left told stages done counts
stages_alike told [] done meant counts alike = refl
stages_alike told (s ∷ stages) [] [] counts alike = refl
stages_alike told (s ∷ stages) [] (m ∷ meant) counts alike = absurd alike
stages_alike told (s ∷ stages) (d ∷ done) [] counts alike = absurd alike
stages_alike told (s ∷ stages) (d ∷ done) (m ∷ meant) [] alike = refl
stages_alike told (s ∷ stages) (d ∷ done) (m ∷ meant) (n ∷ counts) (groups, ending, alike) =
    λ i. record { name = s.name; verdict = option_map verdict_text (told s.name); groups = sym groups i; instructions = n } ∷ stages_alike told stages done meant counts alike i

-- ---- one program

-- what a program leaves with an answer
abbrev left_on : VerdictsTold → ProgramTree → List StageRead → InstructionCounts → Answer → ProgramLeft
left_on told p stages counts answer = left_with told stages counts answer (map made_by_name (tables_made 0 (reader_of p).outputs answer.rows))

-- an answer of code leaves what the like answer of its program does
answers_alike : (told : VerdictsTold) (p : ProgramTree) (code : StagedParts) (done meant : Answer) → MeansSame p code → AreLikeAnswers done meant → left_on told p (stages_of_code code) (instruction_counts done) meant ≡ left_by_code told code done
answers_alike told p code done meant same like =
    let tables : map made_by_name (tables_made 0 (reader_of p).outputs meant.rows) ≡ map made_by_name (code_tables_made code.program done.rows) =
    ap (map made_by_name) (ap (tables_made 0 (reader_of p).outputs) (sym like.rows) ∙ sym (same.outputs done.rows)) in
    let stages : List StageRead = stages_of_code code in
    let counts : List ℕ = InstructionCounts.stages (instruction_counts done) in
    let told_alike : reverse (stages_left told stages meant.stages counts) ≡ reverse (stages_left told stages done.stages counts) = ap reverse (stages_alike told stages done.stages meant.stages counts like.stages) in
    λ i. record { lines = sym like.lines i; ending = sym like.ending i; stages = told_alike i; instructions = done.executed; tables = tables i }

-- a program leaves what its code leaves
left_alike : (told : VerdictsTold) (budget : ℕ) (held : HeldTables) (p : ProgramTree) (code : StagedParts) (codes : List StagedParts) → MeansSame p code
    → run_of_program told budget p (code ∷ codes) held ≡ run_of_code told budget code held
left_alike told budget held p code codes same =
    let done : Answer = answer_over told code budget held in
    let meant : List StageRead → Answer = λ stages. program_answer p [] (rows_held held) budget (grain_of_stages told stages) in
    ap (λ (stages : List StageRead). left_on told p stages (instruction_counts done) (meant stages)) (stages_same p code same)
    ∙ answers_alike told p code done (meant (stages_of_code code)) same
    (same.answers (rows_held held) (tables_held held code) budget (grain_of_stages told (stages_of_code code)) (rows_mentioned held p code same))

-- ---- programs one behind the other

plans_alike : (told : VerdictsTold) (programs : List ProgramTree) (codes : List StagedParts) (budget : ℕ) (held : HeldTables) → HaveCodes programs codes
    → programs_plan (runs_of_programs told budget programs codes) held ≡ programs_plan (map (run_of_code told budget) codes) held
plans_alike told [] [] budget held have = refl
plans_alike told [] (code ∷ codes) budget held have = absurd have
plans_alike told (p ∷ programs) [] budget held have = absurd have
plans_alike told (p ∷ programs) (code ∷ codes) budget held (same, have) =
    let alike : run_of_program told budget p (code ∷ codes) held ≡ run_of_code told budget code held = left_alike told budget held p code codes same in
    ap (λ (left : ProgramLeft). program_then left (programs_plan (runs_of_programs told budget programs codes) (held_behind held left.tables))) alike
    ∙ ap (program_then (run_of_code told budget code held)) (plans_alike told programs codes budget (held_behind held (ProgramLeft.tables (run_of_code told budget code held))) have)

-- ---- outputs

-- the name of a table that is made, and whether a file of that name may be written over
abbrev named_made : MadeTable → OutputNamed
named_made made = record { name = made.name; overwrites = made.overwrites }

code_named : (slots : List Slot) (number : ℕ) (outputs : List OutputPart) → map named_made (tables_of_outputs outputs (tables_from slots number outputs [])) ≡ map (λ (o : OutputPart). record { name = o.name; overwrites = o.overwrites }) outputs
code_named slots number [] = refl
code_named slots number (o ∷ outputs) = ap (λ (names : List OutputNamed). record { name = o.name; overwrites = o.overwrites } ∷ names) (code_named slots (number + 1) outputs)

program_named : (number : ℕ) (outputs : List OutputTable) → map named_made (tables_made number outputs []) ≡ map (λ (o : OutputTable). record { name = o.name; overwrites = o.overwrites }) outputs
program_named number [] = refl
program_named number (o ∷ outputs) = ap (λ (names : List OutputNamed). record { name = o.name; overwrites = o.overwrites } ∷ names) (program_named (number + 1) outputs)

outputs_alike : (p : ProgramTree) (code : StagedParts) → MeansSame p code → outputs_of_program p ≡ outputs_of_code code
outputs_alike p code same =
    sym (program_named 0 (reader_of p).outputs) ∙ ap (map named_made) (sym (same.outputs [])) ∙ code_named code.program.slots 0 code.program.outputs

all_outputs_alike : (programs : List ProgramTree) (codes : List StagedParts) → HaveCodes programs codes → flat_map outputs_of_program programs ≡ flat_map outputs_of_code codes
all_outputs_alike [] [] have = refl
all_outputs_alike [] (code ∷ codes) have = absurd have
all_outputs_alike (p ∷ programs) [] have = absurd have
all_outputs_alike (p ∷ programs) (code ∷ codes) (same, have) = λ i. outputs_alike p code same i ++ all_outputs_alike programs codes have i

pub codes_do : CodesDoAsPrograms
codes_do = record { plan = plans_alike; outputs = all_outputs_alike }
