-- The answer of a program that reads from the next one of some thread programs.
use Rattle.std.proofs.Common.{◌≡◌, ℕ, List, ◌∷◌, length, ap}
use Rattle.ds2_value.specs.Row.{Row}
use Rattle.ds2_table.specs.Table.{Contents}
use Rattle.ds2_code.specs.declared.parts.ProgramParts.{ProgramParts}
use Rattle.ds2_code.specs.CodeUnit.{opening_data}
use Rattle.ds2_code_answer.specs.CodeTables.{rows_of_each, tables_of_stage}
use Rattle.ds2_unit.specs.Threads.{chain_answer, reader_answer_from}

-- it is that of a reader of the thread program's answer
pub reader_is_chain : (program stage : ProgramParts) (stages further : List ProgramParts) (tables : List Contents) (budget grain : ℕ) (given : Row) → stages ≡ stage ∷ further
    → chain_answer program stages tables budget grain given
    ≡ reader_answer_from program budget (chain_answer stage further (tables_of_stage program tables) budget grain) (opening_data program given (rows_of_each tables) (length stage.parameters))
reader_is_chain program stage stages further tables budget grain given is = ap (λ (ss : List ProgramParts). chain_answer program ss tables budget grain given) is
