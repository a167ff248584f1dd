-- What parsing says of globals, of parts, and of the tokens of a source.
use Rattle.std.specs.Prelude.{ℕ, List, Result}
use Rattle.ds2_base.specs.declared.place.Place.{Place}
use Rattle.ds2_base.specs.declared.place.Refusal.{Refusal}
use Rattle.ds2_base.specs.declared.stop.Stop.{Stop}
use Rattle.ds2_token.specs.declared.token.Token.{Token}
use Rattle.ds2_tree.specs.declared.kind.ParseKind.{ParseKind}
use Rattle.ds2_tree.specs.Acceptance.{Symbol, Exactly}
use Rattle.ds2_tree.specs.Promise.{SaysOfText}
use Rattle.ds2_tree.specs.declared.source.Source.{Source}
use Rattle.ds2_tree.specs.Globals.{GlobalItem, global_spelling, IsGlobal, global_opens}
use Rattle.ds2_tree.specs.Units.{SourcePart, part_spelling, IsPart, part_opens, source_spelling, IsSource, source_opens}
use Rattle.ds2_tree.specs.UnitViews.{source_tree}
use Rattle.ds2_source.specs.declared.parsing.TheConstants.{MOST_LEVELS}
use Rattle.ds2_parse_rules.specs.UnitGrammar.{parse_source}

-- globals: their spellings, those of the grammar, and the levels that they open
abbrev pub global_symbol : Symbol GlobalItem
global_symbol = record { spelling = global_spelling; Fine = IsGlobal; opens = global_opens }

-- parts of a source: their spellings, those of the grammar, and the levels that they open
abbrev pub part_symbol : Symbol SourcePart
part_symbol = record { spelling = part_spelling; Fine = IsPart; opens = part_opens }

-- sources: their spellings, those of the grammar, and the levels that they open
abbrev pub source_symbol : Symbol (List SourcePart)
source_symbol = record { spelling = source_spelling; Fine = IsSource; opens = source_opens }

-- the levels that a source may open
abbrev pub most_levels : ℕ
most_levels = MOST_LEVELS

-- what is said of the tokens of a source: the one tree that they spell within the levels, or the first token with which nothing goes on or which opens a level too many
abbrev pub SaysOfSource : Place → List Token → Result Source (Stop (Refusal ParseKind)) → Type 0
SaysOfSource end tokens result = SaysOfText source_symbol most_levels end source_tree tokens result

-- two sources with one spelling are one, and each answer stands exactly where it is due
abbrev pub SourcesAreReadExactly : Type 0
SourcesAreReadExactly = Exactly source_symbol parse_source
