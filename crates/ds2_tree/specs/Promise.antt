-- What the function that reads a symbol promises.
use Rattle.std.specs.Prelude.{◌≡◌, ℕ, List, [], ◌∷◌, ◌++◌, None, Result, Ok, Err}
use Rattle.ds2_base.specs.declared.place.Place.{Place}
use Rattle.ds2_base.specs.declared.place.Refusal.{Refusal}
use Rattle.ds2_base.specs.declared.stop.Stop.{Stop}
use Rattle.ds2_base.specs.declared.stop.Stop.TheVariants as stop
use Rattle.ds2_token.specs.declared.token.Token.{Token}
use Rattle.ds2_tree.specs.declared.kind.ParseKind.{ParseKind}
use Rattle.ds2_tree.specs.declared.kind.ParseKind.TheVariants as kind
use Rattle.ds2_tree.specs.Parsers.{ParserOutcome, Read, Unexpected, TooDeep}
use Rattle.ds2_tree.specs.Acceptance.{Symbol, Begins, TooDeepAt, Answers}

-- the place of the first token that is left, or the end of the text
abbrev pub place_of : Place → List Token → Place
place_of end [] = end
place_of end (t ∷ ts) = t.place

-- a refusal tells why nothing goes on, and where
abbrev pub IsRefusedAs : {A : Type 0} → Place → ParseKind → Place → ParserOutcome A → Type 0
IsRefusedAs end kind.Unexpected place (Unexpected rest) = place ≡ place_of end rest
IsRefusedAs end kind.TooDeep place (TooDeep rest) = place ≡ place_of end rest
IsRefusedAs end _ place _ = ⊥

-- a function stops as the outcome is refused, or for want of memory
abbrev pub Fails : {A : Type 0} → Place → Stop (Refusal ParseKind) → ParserOutcome A → Type 0
Fails end (stop.Refused refusal) outcome = IsRefusedAs end refusal.kind refusal.place outcome
Fails end stop.OutOfMemory outcome = Unit {0}

-- a function gives what a parser on lists gives, but for want of memory
abbrev pub Gives : {X A : Type 0} → Place → (X → A × List Token) → Result X (Stop (Refusal ParseKind)) → ParserOutcome A → Type 0
Gives end f (Ok x) outcome = outcome ≡ Read (f x).0 (f x).1
Gives end f (Err stopped) outcome = Fails end stopped outcome

-- no spelling begins with `front` and the next token
abbrev pub EndsThere : {A : Type 0} → Symbol A → List Token → List Token → Type 0
EndsThere S front [] = Unit {0}
EndsThere S front (t ∷ rest) = Begins S (front ++ (t ∷ [])) → ⊥

-- where a symbol is refused: what was read begins a spelling and with the next token begins none, or a level too many opens
abbrev pub RefusedAt : {A : Type 0} → Symbol A → ℕ → Place → List Token → ParseKind → Place → Type 0
RefusedAt S n end tokens kind.Unexpected place =
    (front : List Token) × (rest : List Token) × (tokens ≡ front ++ rest) × (place ≡ place_of end rest) × Begins S front × EndsThere S front rest
RefusedAt S n end tokens kind.TooDeep place = (rest : List Token) × (place ≡ place_of end rest) × TooDeepAt S n tokens rest

-- a symbol is refused at this place, or memory is wanting
abbrev pub StopsAt : {A : Type 0} → Symbol A → ℕ → Place → List Token → Stop (Refusal ParseKind) → Type 0
StopsAt S n end tokens (stop.Refused refusal) = RefusedAt S n end tokens refusal.kind refusal.place
StopsAt S n end tokens stop.OutOfMemory = Unit {0}

-- the spelling of a tree was read, and no spelling goes on with the next token; or it was refused there
abbrev pub Promises : {X A : Type 0} → Symbol A → ℕ → Place → (X → A × List Token) → List Token → Result X (Stop (Refusal ParseKind)) → Type 0
Promises S n end f tokens (Ok x) = S.Fine (f x).0 × (S.opens (f x).0 n ≡ None) × (tokens ≡ S.spelling (f x).0 ++ (f x).1) × EndsThere S (S.spelling (f x).0) (f x).1
Promises S n end f tokens (Err stopped) = StopsAt S n end tokens stopped

-- what the parser of a whole text says: one of the three answers, each exactly where it is one
abbrev pub Said : {A : Type 0} → Symbol A → ℕ → Place → List Token → ParseKind → Place → Type 0
Said S n end tokens kind.Unexpected place = (rest : List Token) × (place ≡ place_of end rest) × Answers S n tokens (Unexpected rest)
Said S n end tokens kind.TooDeep place = (rest : List Token) × (place ≡ place_of end rest) × Answers S n tokens (TooDeep rest)

-- of a whole text: its tree, or a refusal that is said of it, or want of memory
abbrev pub SaysOfText : {X A : Type 0} → Symbol A → ℕ → Place → (X → A) → List Token → Result X (Stop (Refusal ParseKind)) → Type 0
SaysOfText S n end f tokens (Ok x) = Answers S n tokens (Read (f x) [])
SaysOfText S n end f tokens (Err (stop.Refused refusal)) = Said S n end tokens refusal.kind refusal.place
SaysOfText S n end f tokens (Err stop.OutOfMemory) = Unit {0}
