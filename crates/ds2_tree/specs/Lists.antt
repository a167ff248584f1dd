-- Parts that may be left out, and parts in a list.
use Rattle.std.specs.Prelude.{◌≡◌, Bool, List, [], ◌∷◌, Option, Some, None, IsTrue}
use Rattle.std.specs.List.{flat_map, AllByRecursion}
use Rattle.ds2_base.specs.declared.place.Place.{Place}
use Rattle.ds2_token.specs.declared.token.Token.{Token}
use Rattle.ds2_tree.specs.Marks.{comma_mark}

-- the token alone
abbrev pub one_token : Token → List Token
one_token t = t ∷ []

-- the spelling of a part, where it is there
abbrev pub if_any : {A : Type 0} → (A → List Token) → Option A → List Token
if_any spelling None = []
if_any spelling (Some x) = spelling x

-- the spellings of the items, one behind the other
abbrev pub all_spelled : {A : Type 0} → (A → List Token) → List A → List Token
all_spelled spelling xs = flat_map spelling xs

-- a comma, where there is one
abbrev pub comma_spelling : Option Place → List Token
comma_spelling place = if_any (λ p. one_token (comma_mark p)) place

-- the first of these tokens stands at this place
abbrev pub BeginsAt : List Token → Place → Type 0
BeginsAt [] place = ⊥
BeginsAt (t ∷ ts) place = t.place ≡ place

-- ---- which parts are of the grammar

-- the part is left out or of the grammar
abbrev pub IfAny : {A : Type 0} → (A → Type 0) → Option A → Type 0
IfAny P None = Unit {0}
IfAny P (Some x) = P x

-- each item is of the grammar
abbrev pub Each : {A : Type 0} → (A → Type 0) → List A → Type 0
Each P xs = AllByRecursion P xs

-- one item at least, and each is of the grammar
abbrev pub SomeOf : {A : Type 0} → (A → Type 0) → List A → Type 0
SomeOf P [] = ⊥
SomeOf P (x ∷ xs) = P x × Each P xs

-- a token that passes a test
abbrev pub Is : (Token → Bool) → Token → Type 0
Is test t = IsTrue (test t)

-- there is a comma
abbrev pub HasComma : Option Place → Type 0
HasComma None = ⊥
HasComma (Some place) = Unit {0}

-- there is no comma
abbrev pub HasNoComma : Option Place → Type 0
HasNoComma None = Unit {0}
HasNoComma (Some place) = ⊥

-- items with a comma between each two: the first has none before it, each other one has
abbrev pub Separated : {A : Type 0} → (A → Option Place) → (A → Type 0) → List A → Type 0
Separated comma_of P [] = Unit {0}
Separated comma_of P (x ∷ xs) = HasNoComma (comma_of x) × P x × Each (λ y. HasComma (comma_of y) × P y) xs
