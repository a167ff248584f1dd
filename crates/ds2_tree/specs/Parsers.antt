-- The words that a grammar is written in: parsers on lists of tokens.
use Rattle.std.specs.Prelude.{ℕ, zero, suc, Bool, true, false, if◌then◌else◌, List, [], ◌∷◌, Option, Some, None}
use Rattle.std.specs.Option.{option_and_then}
use Rattle.ds2_token.specs.declared.token.Token.{Token}

-- what is read and what is left; or what is left where nothing goes on, or where the levels end; Spent where the turns end
pub data ParserOutcome (A : Type 0) : Type 0 where
  Read : A → List Token → ParserOutcome A
  Unexpected : List Token → ParserOutcome A
  TooDeep : List Token → ParserOutcome A
  Spent : ParserOutcome A

-- a tree of one of two forms
pub data Either (A B : Type 0) : Type 0 where
  One : A → Either A B
  Two : B → Either A B

-- what a list of tokens is read as
abbrev pub Parser : Type 0 → Type 0
Parser A = List Token → ParserOutcome A

-- behind what is read, the outcome of what goes on with it; every other outcome stays
abbrev pub and_then : {A B : Type 0} → ParserOutcome A → (A → Parser B) → ParserOutcome B
and_then (Read x r) f = f x r
and_then (Unexpected r) f = Unexpected r
and_then (TooDeep r) f = TooDeep r
and_then Spent f = Spent

infixl 10 ◌>>>◌
-- one parser, and behind it one that may depend on what the first has read
abbrev pub ◌>>>◌ : {A B : Type 0} → Parser A → (A → Parser B) → Parser B
p >>> f = λ ts. and_then (p ts) f

-- this value, without reading a token
abbrev pub pure : {A : Type 0} → A → Parser A
pure x = λ ts. Read x ts

-- nothing goes on with the next token, nor at the end
abbrev pub unexpected : {A : Type 0} → Parser A
unexpected = λ ts. Unexpected ts

-- the next token opens a level too many
abbrev pub too_deep : {A : Type 0} → Parser A
too_deep = λ ts. TooDeep ts

-- the next token, where one is left
abbrev pub first : List Token → Option Token
first [] = None
first (t ∷ ts) = Some t

-- the parser that the next token tells, which stays unread
abbrev pub peek : {A : Type 0} → (Option Token → Parser A) → Parser A
peek f = λ ts. f (first ts) ts

-- over one token, and on behind it
abbrev pub skip : {A : Type 0} → Parser A → Parser A
skip p [] = Unexpected []
skip p (t ∷ ts) = p ts

-- the next token is read as this value, or nothing goes on where it stands for none
abbrev pub token_value : {A : Type 0} → Option A → Parser A
token_value (Some a) = skip (pure a)
token_value None = unexpected

-- what the next token stands for, where one is left
abbrev pub on : {A : Type 0} → (Token → Option A) → Option Token → Option A
on f t = option_and_then f t

-- one token that stands for a value, read as the value
abbrev pub one : {A : Type 0} → (Token → Option A) → Parser A
one f = peek (λ o. token_value (on f o))

-- the token itself, where it passes a test
abbrev pub passing : (Token → Bool) → Token → Option Token
passing is t = if is t then Some t else None

-- a token that passes a test, kept as it is
abbrev pub kept : (Token → Bool) → Parser Token
kept is = one (passing is)

-- a token is left and passes a test
abbrev pub when : (Token → Bool) → Option Token → Bool
when is None = false
when is (Some t) = is t

-- the first of two parsers where the answer is yes, or else the second
abbrev pub either : {A : Type 0} → Bool → Parser A → Parser A → Parser A
either true p q = p
either false p q = q

-- the first of two parsers where the next token passes a test, or else the second
abbrev pub choose_by : {A : Type 0} → (Token → Bool) → Parser A → Parser A → Parser A
choose_by is p q = peek (λ o. either (when is o) p q)

-- a parser, with a function of what it reads
abbrev pub to : {A B : Type 0} → (A → B) → Parser A → Parser B
to f p = p >>> λ a. pure (f a)

-- one behind the other
abbrev pub seq : {A B : Type 0} → Parser A → Parser B → Parser (A × B)
seq p q = p >>> λ a. q >>> λ b. pure (a, b)

-- items up to a token that begins none, fewer than j
abbrev pub many_of : {A : Type 0} → ℕ → (Token → Bool) → Parser A → Parser (List A)
many_of zero begins p = λ ts. Spent
many_of (suc j) begins p = choose_by begins (to (λ x. x.0 ∷ x.1) (seq p (many_of j begins p))) (pure [])

-- an item where the next token begins one, or none
abbrev pub optional : {A : Type 0} → (Token → Bool) → Parser A → Parser (Option A)
optional begins p = choose_by begins (to Some p) (pure None)

-- items with a token between each two, which is kept
abbrev pub chain : {A O : Type 0} → ℕ → (Token → Bool) → Parser O → Parser A → Parser (A × List (O × A))
chain j is between p = seq p (many_of j is (seq between p))

-- what opens a level with its first token, where none is left
abbrev pub closed : {A : Type 0} → (Token → Bool) → Parser A
closed begins = choose_by begins too_deep unexpected
