-- Which trees are those of texts.
use Rattle.std.specs.Prelude.{◌<◌, ◌+◌, ◌^◌, List, length}
use Rattle.ds2_base.specs.Bytes.{Bytes}
use Rattle.ds2_token.specs.Standing.{StandsFor}
use Rattle.ds2_tree.specs.Units.{SourcePart, source_spelling, IsSource}

-- a source as some text has it: it is of the grammar, and its tokens stand for the text. Which text `read_source` has read, its answer says
pub record StandsInText (parts : List SourcePart) : Type 0 where
  pub text : Bytes
  pub short : length text + 1 < 2 ^ 32
  pub stands : StandsFor text (source_spelling parts)
  pub grammar : IsSource parts
