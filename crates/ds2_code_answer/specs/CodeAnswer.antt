-- What a program's code leaves on one thread.
use Rattle.std.specs.Prelude.{ℕ, List, [], ◌∷◌, length}
use Rattle.ds2_value.specs.Row.{Row}
use Rattle.ds2_table.specs.OneThread.{Units, ProgramOf, Reads, ReadsFrom, Answer, alone_answer}
use Rattle.ds2_table.specs.Table.{Contents}
use Rattle.ds2_code.specs.declared.parts.ProgramParts.{ProgramParts}
use Rattle.ds2_code.specs.declared.parts.StagedParts.{StagedParts}
use Rattle.ds2_code.specs.CodeUnit.{code_init, code_run, code_term, opening_data, row_slot_settings}
use Rattle.ds2_code.specs.Desk.{ProgramData, SlotSettings}
use Rattle.ds2_code_answer.specs.CodeLoads.{code_loads, code_group_count, slots_of_stage}
use Rattle.ds2_code_answer.specs.CodeTables.{tables_of_stage, rows_of_each}

-- the units of a program's code, each with this budget
abbrev pub code_units : ProgramParts → ℕ → Units SlotSettings ProgramData
code_units code budget = record { init = code_init code budget; run = code_run code budget; term = code_term code budget }

-- how many parameters the first of these thread programs has
abbrev pub first_parameter_count : List ProgramParts → ℕ
first_parameter_count [] = 0
first_parameter_count (stage ∷ stages) = length stage.parameters

-- a program's data before its first unit, over its tables, with these values of its own parameters; it reads from the first of these
-- thread programs, where there is one
abbrev pub code_opening : ProgramParts → List ProgramParts → List Contents → Row → ProgramData
code_opening code stages tables given = opening_data code given (rows_of_each tables) (first_parameter_count stages)

-- a program over its loads, which make groups at a grain, or over the rows of the first of these thread programs, which has its tables
-- behind those of the program's hash objects
abbrev pub code_program : ProgramParts → List ProgramParts → List Contents → (budget grain : ℕ) → ProgramOf SlotSettings ProgramData
code_program code [] tables budget grain = Reads (code_units code budget) (code_loads code tables) (code_group_count grain code tables)
code_program code (stage ∷ stages) tables budget grain =
    ReadsFrom (code_units code budget) (code_program stage stages (tables_of_stage code tables) budget grain)
    (code_opening stage stages (tables_of_stage code tables)) (λ (state : ProgramData). state.parameters) (row_slot_settings code.slots (slots_of_stage code.reading))

-- the one-thread answer of code over its tables. The grain, which fits the reading statement of the program that reads tables, changes
-- the number of groups alone
abbrev pub code_answer : StagedParts → List Contents → (budget grain : ℕ) → Answer
code_answer parts tables budget grain =
    alone_answer (code_program parts.program parts.stages tables budget grain) (code_opening parts.program parts.stages tables [])
