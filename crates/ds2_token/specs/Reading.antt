-- What the parts of the lexer answer.
use Rattle.std.specs.Prelude.{◌≡◌, ◌<◌, ◌++◌, length, drop, Option, Some, None, Result, Ok, Err}
use Rattle.std.specs.Str.{IsCharBoundary}
use Rattle.ds2_base.specs.Bytes.{Bytes}
use Rattle.ds2_base.specs.declared.place.Place.{Place}
use Rattle.ds2_base.specs.declared.place.Refusal.{Refusal}
use Rattle.ds2_base.specs.declared.stop.Stop.{Stop}
use Rattle.ds2_base.specs.declared.stop.Stop.TheVariants.{Refused, OutOfMemory}
use Rattle.ds2_token.specs.declared.kinds.TokenKind.{TokenKind}
use Rattle.ds2_token.specs.declared.kinds.LexKind.{LexKind}
use Rattle.ds2_token.specs.declared.token.Token.{Token}
use Rattle.ds2_token.specs.declared.lexer.Next.{Next}
use Rattle.ds2_token.specs.Forms.{IsGap, form_of}
use Rattle.ds2_token.specs.Limits.{limit_fault}
use Rattle.ds2_token.specs.Standing.{IsForm, IsLongest, BeginsWith, IsRefusedFor, BeginsWithRefusal}

-- a token with this spelling, unless it breaks a limit
abbrev pub spelled_unless : Option LexKind → TokenKind → Bytes → Place → Result Token (Refusal LexKind)
spelled_unless None kind spelling place = Ok (record { kind = kind; spelling = spelling; place = place })
spelled_unless (Some fault) kind spelling place = Err (record { kind = fault; place = place })

-- the token with this spelling, or its refusal
abbrev pub spelled_token : TokenKind → Bytes → Place → Result Token (Refusal LexKind)
spelled_token kind spelling place = spelled_unless (limit_fault kind spelling) kind spelling place

-- a text with no gap at its front begins with this token, at its place
pub record IsTokenAt (at : Place) (text : Bytes) (token : Token) : Type 0 where
  pub some : 0 < length token.spelling
  pub cut : text ≡ token.spelling ++ drop (length token.spelling) text
  pub edge : IsCharBoundary text (length token.spelling)
  pub form_is_longest : IsLongest IsForm token.spelling (drop (length token.spelling) text)
  pub kind : form_of token.spelling ≡ Some (Ok token.kind)
  pub within : limit_fault token.kind token.spelling ≡ None
  pub place : token.place ≡ at

-- a text with no gap at its front begins with a token, or with a refusal
abbrev pub IsFrontOf : Place → Bytes → Result Token (Stop (Refusal LexKind)) → Type 0
IsFrontOf at text (Ok token) = IsTokenAt at text token
IsFrontOf at text (Err (Refused refusal)) = IsRefusedFor text refusal.kind × (refusal.place ≡ at)
IsFrontOf at text (Err OutOfMemory) = Unit {0}

-- a text begins with this token, of as many bytes with the gap before it
pub record IsNextToken (at : Place) (text : Bytes) (next : Next) : Type 0 where
  pub some : 0 < next.size
  pub edge : IsCharBoundary text next.size
  pub begins : BeginsWith at text next.token (drop next.size text)

-- a text is a gap, or begins with a token or a refusal behind one
abbrev pub IsNextOf : Place → Bytes → Result (Option Next) (Stop (Refusal LexKind)) → Type 0
IsNextOf at text (Ok None) = IsGap text
IsNextOf at text (Ok (Some next)) = IsNextToken at text next
IsNextOf at text (Err (Refused refusal)) = BeginsWithRefusal at text refusal
IsNextOf at text (Err OutOfMemory) = Unit {0}
