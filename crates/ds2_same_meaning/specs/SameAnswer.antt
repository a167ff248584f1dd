-- What a program's code leaves on one thread, and what the program means.
use Rattle.std.specs.Prelude.{◌≡◌, ℕ, List, [], ◌∷◌, map, None}
use Rattle.std.specs.List.{AllByRecursion}
use Rattle.ds2_value.specs.declared.value.Value.{Value}
use Rattle.ds2_table.specs.OneThread.{StageAnswer, Answer, alone_answer}
use Rattle.ds2_table.specs.Table.{Contents}
use Rattle.ds2_meaning.specs.IsTyped.{thread_parameters, IsTypedProgram}
use Rattle.ds2_meaning.specs.ProgramMeaning.{program_answer}
use Rattle.ds2_meaning.specs.ProgramTree.{UnitTree, ProgramTree, OverTables, OverStage, reader_of}
use Rattle.ds2_meaning.specs.Reading.{TableRows}
use Rattle.ds2_meaning.specs.TableLaws.{tables_mentioned}
use Rattle.ds2_code.specs.declared.parts.ProgramParts.{ProgramParts}
use Rattle.ds2_code.specs.declared.parts.StagedParts.{StagedParts}
use Rattle.ds2_program_code.specs.ProgramCode.{program_code}
use Rattle.ds2_code_answer.specs.CodeAnswer.{code_opening, code_program}
use Rattle.ds2_code_answer.specs.CodeTables.{rows_of_each}

-- the code of the thread programs that a program reads from, the nearest one first
abbrev pub code_of_stages : ProgramTree → List ProgramParts
code_of_stages (OverTables p) = []
code_of_stages (OverStage p stage) = program_code (reader_of stage) ∷ code_of_stages stage

-- the code of a program with that of the thread programs that it reads from
abbrev pub staged_code : ProgramTree → StagedParts
staged_code p = record { program = program_code (reader_of p); stages = code_of_stages p }

-- a program and the thread programs that it reads from, the nearest one first
abbrev pub programs_in_chain : ProgramTree → List UnitTree
programs_in_chain (OverTables p) = p ∷ []
programs_in_chain (OverStage p stage) = p ∷ programs_in_chain stage

-- each instance of a thread program that a program declares has a name, and so in the thread programs that it reads from
abbrev pub HasNamedInstances : ProgramTree → Type 0
HasNamedInstances p = AllByRecursion (λ (unit : UnitTree). thread_parameters unit.threads [] ≡ None) (programs_in_chain p)

-- code can be written for a program and for the thread programs that it reads from: it is typed, and their instances of thread programs have
-- names
pub record IsTranslatable (p : ProgramTree) : Type 0 where
  pub typed : IsTypedProgram p
  pub instances : HasNamedInstances p

-- these tables, by their numbers in code, have the rows of the tables that a program mentions
abbrev pub HaveRowsMentioned : ProgramTree → TableRows → List Contents → Type 0
HaveRowsMentioned p tables contents = rows_of_each contents ≡ map tables (tables_mentioned p)

-- what is known of thread programs is alike but for the numbers of instructions
abbrev pub AreLikeStages : List StageAnswer → List StageAnswer → Type 0
AreLikeStages [] [] = Unit {0}
AreLikeStages [] (m ∷ meant) = ⊥
AreLikeStages (d ∷ done) [] = ⊥
AreLikeStages (d ∷ done) (m ∷ meant) = (d.groups ≡ m.groups) × (d.ending ≡ m.ending) × AreLikeStages done meant

-- two answers are alike: rows and lines, the ending with its place, each unit's budget left and the number of groups are equal; a tree
-- executes no instructions
pub record AreLikeAnswers (done meant : Answer) : Type 0 where
  pub rows : done.rows ≡ meant.rows
  pub lines : done.lines ≡ meant.lines
  pub ending : done.ending ≡ meant.ending
  pub budgets_left : done.budgets_left ≡ meant.budgets_left
  pub groups : done.groups ≡ meant.groups
  pub stages : AreLikeStages done.stages meant.stages

-- the one-thread answer of code over its tables, with these values of its parameters
abbrev pub code_answer_with : StagedParts → List Value → List Contents → (budget grain : ℕ) → Answer
code_answer_with code values contents budget grain =
    alone_answer (code_program code.program code.stages contents budget grain) (code_opening code.program code.stages contents values)

-- whatever values its parameters have, over any tables, at every budget and grain, the code of a program answers as the program means
abbrev pub AnswersAsMeant : ProgramTree → Type 0
AnswersAsMeant p =
    (values : List Value) (tables : TableRows) (contents : List Contents) (budget grain : ℕ) → HaveRowsMentioned p tables contents
    → AreLikeAnswers (code_answer_with (staged_code p) values contents budget grain) (program_answer p values tables budget grain)

-- so does that of each typed program, over tables or with the thread programs that it reads from, whose instances of thread programs have names
abbrev pub TypedProgramsAnswerAlike : Type 0
TypedProgramsAnswerAlike = (p : ProgramTree) → IsTranslatable p → AnswersAsMeant p
