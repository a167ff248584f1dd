-- What a whole program's run has left.
use Rattle.std.specs.Prelude.{◌≡◌, ℕ, List, [], ◌∷◌, map, Some, reverse}
use Rattle.ds2_value.specs.Run.{Written}
use Rattle.ds2_table.specs.OneThread.{StageAnswer, Answer}
use Rattle.ds2_machine.specs.Sink.{SinkTakes}
use Rattle.ds2_unit.specs.declared.program_end.RunEnd.{RunEnd}
use Rattle.ds2_unit.specs.declared.program_end.StageNote.{StageNote}

-- the grain that is asked for the program that reads tables: the first of the grains, or none where no thread program is read
abbrev pub grain_asked : List ℕ → ℕ
grain_asked [] = 0
grain_asked (grain ∷ grains) = grain

-- what is told of a thread program
abbrev pub note_of_stage : StageAnswer → StageNote
note_of_stage stage = record { groups = stage.groups; executed = stage.executed }

-- a program has ended as its answer says: the sink has taken the rows and lines in order; ending, number of instructions and what is told
-- of its thread programs, the innermost first, are those of the answer
pub record IsRunEnd {S : Type 0} (has_taken : S → S → List Written → List (List ℕ) → Type 0) (before after : S) (answer : Answer) (end : RunEnd) : Type 0 where
  pub taken : SinkTakes has_taken before after answer.rows answer.lines
  pub ended : answer.ending ≡ Some end.ending
  pub counted : end.executed ≡ answer.executed
  pub noted : end.stages ≡ reverse (map note_of_stage answer.stages)
