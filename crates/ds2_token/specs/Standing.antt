-- Which tokens stand for a text, and which refusal is the first in one.
use Rattle.std.specs.Prelude.{◌≡◌, ◌<◌, ◌≤◌, ◌⊎◌, if◌then◌else◌, List, [], ◌∷◌, ◌++◌, length, take, drop, Option, Some, None, Result, Ok, Err}
use Rattle.std.specs.Str.{chars, bytes_eq}
use Rattle.ds2_base.specs.Bytes.{Bytes}
use Rattle.ds2_base.specs.Place.{start_place, place_past}
use Rattle.ds2_base.specs.declared.place.Place.{Place}
use Rattle.ds2_base.specs.declared.place.Refusal.{Refusal}
use Rattle.ds2_base.specs.declared.stop.Stop.{Stop}
use Rattle.ds2_base.specs.declared.stop.Stop.TheVariants.{Refused, OutOfMemory}
use Rattle.ds2_token.specs.declared.kinds.TokenKind.{TokenKind}
use Rattle.ds2_token.specs.declared.kinds.LexKind.{LexKind}
use Rattle.ds2_token.specs.declared.kinds.LexKind.TheVariants.{BadCharacter}
use Rattle.ds2_token.specs.declared.token.Token.{Token}
use Rattle.ds2_token.specs.Forms.{IsGap, form_of}
use Rattle.ds2_token.specs.Limits.{limit_fault}

-- a spelling of some form
abbrev pub IsForm : Bytes → Type 0
IsForm s = (form : Result TokenKind LexKind) × (form_of s ≡ Some form)

-- front is one of these, and the text that goes on behind it with rest begins with no longer one
pub record IsLongest (Is : Bytes → Type 0) (front rest : Bytes) : Type 0 where
  pub is : Is front
  pub longest : (other left : Bytes) → other ++ left ≡ front ++ rest → Is other → length other ≤ length front

-- a text that begins at the place `at` begins with a gap, the longest there, behind which a token and then rest stand: its spelling
-- is of a form, the longest there, and within its limits; its place is that of its first character
pub record BeginsWith (at : Place) (text : Bytes) (token : Token) (rest : Bytes) : Type 0 where
  pub gap : Bytes
  pub cut : text ≡ gap ++ (token.spelling ++ rest)
  pub gap_is_longest : IsLongest IsGap gap (token.spelling ++ rest)
  pub form_is_longest : IsLongest IsForm token.spelling rest
  pub kind : form_of token.spelling ≡ Some (Ok token.kind)
  pub within : limit_fault token.kind token.spelling ≡ None
  pub place : token.place ≡ place_past at (chars gap)

-- a text that begins at the place `at` is gaps and spellings in turn, those of these tokens, up to left, which begins at the place end
abbrev pub LeadsTo : Place → Bytes → List Token → Place → Bytes → Type 0
LeadsTo at text [] end left = (at ≡ end) × (text ≡ left)
LeadsTo at text (token ∷ tokens) end left =
    (rest : Bytes) × BeginsWith at text token rest × LeadsTo (place_past token.place (chars token.spelling)) rest tokens end left

-- why a spelling of this form is refused: the form always is, or the spelling breaks a limit
abbrev pub refusal_of_form : Option (Result TokenKind LexKind) → Bytes → Option LexKind
refusal_of_form None s = None
refusal_of_form (Some (Err kind)) s = Some kind
refusal_of_form (Some (Ok kind)) s = limit_fault kind s

-- why a spelling is refused, where it is
abbrev pub refusal_of : Bytes → Option LexKind
refusal_of s = refusal_of_form (form_of s) s

-- a text begins with a character with which no form begins
abbrev pub BeginsNoForm : Bytes → Type 0
BeginsNoForm text = (0 < length text) × ((s rest : Bytes) → s ++ rest ≡ text → IsForm s → ⊥)

-- a text begins with a spelling that is refused, the longest of a form there
abbrev pub BeginsRefused : Bytes → LexKind → Type 0
BeginsRefused text kind = (s : Bytes) × (rest : Bytes) × (text ≡ s ++ rest) × IsLongest IsForm s rest × (refusal_of s ≡ Some kind)

-- why a text with no gap at its front is refused: no form begins it, or the one that does is refused
abbrev pub IsRefusedFor : Bytes → LexKind → Type 0
IsRefusedFor text kind = (BeginsNoForm text × (kind ≡ BadCharacter)) ⊎ BeginsRefused text kind

-- a text that begins at the place `at` begins with a gap, the longest there, and behind it with what is refused, at its first character
pub record BeginsWithRefusal (at : Place) (text : Bytes) (refusal : Refusal LexKind) : Type 0 where
  pub gap : Bytes
  pub left : Bytes
  pub cut : text ≡ gap ++ left
  pub gap_is_longest : IsLongest IsGap gap left
  pub cause : IsRefusedFor left refusal.kind
  pub place : refusal.place ≡ place_past at (chars gap)

-- the text without a byte order mark at its front
abbrev pub without_mark : Bytes → Bytes
without_mark text = if bytes_eq (take 3 text) (239 ∷ 187 ∷ 191 ∷ []) then drop 3 text else text

-- the tokens stand for the text: it is gaps and their spellings in turn, and ends in a gap
abbrev pub StandsFor : Bytes → List Token → Type 0
StandsFor text tokens = (end : Place) × (left : Bytes) × LeadsTo start_place (without_mark text) tokens end left × IsGap left

-- the refusal is the first in the text: before it are gaps and spellings of tokens in turn
abbrev pub IsFirstRefusal : Bytes → Refusal LexKind → Type 0
IsFirstRefusal text refusal =
    (tokens : List Token) × (at : Place) × (left : Bytes) × LeadsTo start_place (without_mark text) tokens at left × BeginsWithRefusal at left refusal

-- the answer is what the text has, tokens or a first refusal, unless memory ran out
abbrev pub IsReadOf : Bytes → Result (List Token) (Stop (Refusal LexKind)) → Type 0
IsReadOf text (Ok tokens) = StandsFor text tokens
IsReadOf text (Err (Refused refusal)) = IsFirstRefusal text refusal
IsReadOf text (Err OutOfMemory) = Unit {0}

-- the place directly behind the last character of the text
abbrev pub end_place : Bytes → Place
end_place text = place_past start_place (chars (without_mark text))
