-- What holds of the answers for all texts.
use Rattle.std.specs.Prelude.{◌≡◌}
use Rattle.ds2_base.specs.Bytes.{Bytes}
use Rattle.ds2_source.specs.SourceAnswer.{SourceAnswer, IsSourceAnswer}

-- two answers for one text are equal
abbrev pub OneSourceAnswer : Type 0
OneSourceAnswer = (text : Bytes) (answer other : SourceAnswer) → IsSourceAnswer text answer → IsSourceAnswer text other → answer ≡ other

-- what sources are read as: for each text its answer
pub record SourcesRead : Type 0 where
  pub answer_for : Bytes → SourceAnswer
  pub is_answer : (text : Bytes) → IsSourceAnswer text (answer_for text)
