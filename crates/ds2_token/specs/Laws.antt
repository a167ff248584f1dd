-- What holds of all texts.
use Rattle.std.specs.Prelude.{◌≡◌, ◌⊎◌, List}
use Rattle.ds2_base.specs.Bytes.{Bytes}
use Rattle.ds2_base.specs.declared.place.Refusal.{Refusal}
use Rattle.ds2_token.specs.declared.kinds.LexKind.{LexKind}
use Rattle.ds2_token.specs.declared.token.Token.{Token}
use Rattle.ds2_token.specs.Standing.{StandsFor, IsFirstRefusal}

-- two token lists that stand for one text are equal
abbrev pub OneListStands : Type 0
OneListStands = (text : Bytes) (tokens others : List Token) → StandsFor text tokens → StandsFor text others → tokens ≡ others

-- two refusals that are the first in one text are equal
abbrev pub OneRefusalIsFirst : Type 0
OneRefusalIsFirst = (text : Bytes) (refusal other : Refusal LexKind) → IsFirstRefusal text refusal → IsFirstRefusal text other → refusal ≡ other

-- a text for which tokens stand has no refusal
abbrev pub NoRefusalBesideTokens : Type 0
NoRefusalBesideTokens = (text : Bytes) (tokens : List Token) (refusal : Refusal LexKind) → StandsFor text tokens → IsFirstRefusal text refusal → ⊥

-- each text has tokens that stand for it or a first refusal
abbrev pub EveryTextIsRead : Type 0
EveryTextIsRead = (text : Bytes) → ((tokens : List Token) × StandsFor text tokens) ⊎ ((refusal : Refusal LexKind) × IsFirstRefusal text refusal)
