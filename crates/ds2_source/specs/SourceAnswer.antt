-- What the text of a source is read as: the one tree that its tokens spell, or the first refusal in it.
use Rattle.std.specs.Prelude.{◌≡◌, ◌⊎◌, List, [], Result, Ok, Err}
use Rattle.ds2_base.specs.Bytes.{Bytes}
use Rattle.ds2_base.specs.declared.place.Place.{Place}
use Rattle.ds2_base.specs.declared.place.Refusal.{Refusal}
use Rattle.ds2_base.specs.declared.stop.Stop.{Stop}
use Rattle.ds2_base.specs.declared.stop.Stop.TheVariants.{Refused, OutOfMemory}
use Rattle.ds2_token.specs.declared.kinds.LexKind.{LexKind}
use Rattle.ds2_token.specs.declared.token.Token.{Token}
use Rattle.ds2_token.specs.Standing.{StandsFor, IsFirstRefusal, end_place}
use Rattle.ds2_tree.specs.Acceptance.{Answers}
use Rattle.ds2_tree.specs.Parsers.{Read}
use Rattle.ds2_tree.specs.Promise.{Said}
use Rattle.ds2_tree.specs.declared.source.Source.{Source}
use Rattle.ds2_tree.specs.Units.{SourcePart}
use Rattle.ds2_tree.specs.UnitViews.{source_tree}
use Rattle.ds2_source.specs.ParseAnswer.{source_symbol, most_levels}
use Rattle.ds2_source.specs.declared.kinds.SourceKind.{SourceKind}
use Rattle.ds2_source.specs.declared.kinds.SourceKind.TheVariants.{Lex, Parse, Scope, Types}
use Rattle.ds2_source.specs.declared.kinds.SourceRefusal.{SourceRefusal}

-- a tree, or a refusal with its kind and place
abbrev pub SourceAnswer : Type 0
SourceAnswer = Result (List SourcePart) SourceRefusal

-- a refusal of the text by the lexer
abbrev pub by_lexer : Refusal LexKind → SourceRefusal
by_lexer refusal = record { kind = Lex refusal.kind; place = refusal.place }

-- tokens are refused by the grammar for this reason at this place
abbrev pub AreRefusedFor : Place → List Token → SourceKind → Place → Type 0
AreRefusedFor end tokens (Lex kind) place = ⊥
AreRefusedFor end tokens (Parse kind) place = Said source_symbol most_levels end tokens kind place
AreRefusedFor end tokens (Scope kind) place = ⊥
AreRefusedFor end tokens (Types kind) place = ⊥

-- the grammar's answer for tokens: the tree whose spelling they are, or where and why there is none
abbrev pub IsAnswerForTokens : Place → List Token → SourceAnswer → Type 0
IsAnswerForTokens end tokens (Ok parts) = Answers source_symbol most_levels tokens (Read parts [])
IsAnswerForTokens end tokens (Err refusal) = AreRefusedFor end tokens refusal.kind refusal.place

-- the answer for a text: the grammar's for the tokens that stand for it or, where none do, its first refusal by the lexer
abbrev pub IsSourceAnswer : Bytes → SourceAnswer → Type 0
IsSourceAnswer text answer =
    ((tokens : List Token) × StandsFor text tokens × IsAnswerForTokens (end_place text) tokens answer)
    ⊎ ((refusal : Refusal LexKind) × IsFirstRefusal text refusal × (answer ≡ Err (by_lexer refusal)))

-- tokens were read as their answer, unless memory ran out
abbrev pub GivesAnswerForTokens : Place → List Token → Result Source (Stop SourceRefusal) → Type 0
GivesAnswerForTokens end tokens (Ok source) = IsAnswerForTokens end tokens (Ok (source_tree source))
GivesAnswerForTokens end tokens (Err (Refused refusal)) = IsAnswerForTokens end tokens (Err refusal)
GivesAnswerForTokens end tokens (Err OutOfMemory) = Unit {0}

-- a text was read as its answer, unless memory ran out
abbrev pub GivesSourceAnswer : Bytes → Result Source (Stop SourceRefusal) → Type 0
GivesSourceAnswer text (Ok source) = IsSourceAnswer text (Ok (source_tree source))
GivesSourceAnswer text (Err (Refused refusal)) = IsSourceAnswer text (Err refusal)
GivesSourceAnswer text (Err OutOfMemory) = Unit {0}
