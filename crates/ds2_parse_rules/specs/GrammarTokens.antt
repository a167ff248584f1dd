-- Tokens as the rules of the grammar read them.
use Rattle.std.specs.Prelude.{◌≡◌, ℕ, Bool, true, if◌then◌else◌, codes, List, [], ◌∷◌, map, Option, Some, None}
use Rattle.ds2_base.specs.declared.place.Place.{Place}
use Rattle.ds2_token.specs.declared.token.Token.{Token}
use Rattle.ds2_tree.specs.Parsers.{Parser, one, kept, to, seq, many_of, optional, chain}
use Rattle.ds2_token.specs.Words.{is_word, is_mark, is_one_of}

-- a mark of one spelling stands for its place
abbrev pub mark_place : List ℕ → Token → Option Place
mark_place spelling t = if is_mark spelling t then Some t.place else None

-- a mark of this spelling, read as its place
abbrev pub mark_rule : List ℕ → Parser Place
mark_rule spelling = one (mark_place spelling)

-- a word is kept as it is written
abbrev pub word_rule : List ℕ → Parser Token
word_rule spelling = kept (is_word spelling)

-- "(" .. ")"
abbrev pub enclosed : {A : Type 0} → Parser A → Parser (Place × (A × Place))
enclosed p = seq (mark_rule (codes "(")) (seq p (mark_rule (codes ")")))

-- ---- tests on the next token

-- the first token is this one and passes the test, and these are behind it
abbrev pub Fronted : (Token → Bool) → List Token → Token → List Token → Type 0
Fronted is tokens t rest = (tokens ≡ t ∷ rest) × (is t ≡ true)

-- the mark `(`
abbrev pub is_open_mark : Token → Bool
is_open_mark t = is_one_of [] (codes "(" ∷ []) t

-- the mark `.`
abbrev pub is_dot_mark : Token → Bool
is_dot_mark t = is_one_of [] (codes "." ∷ []) t

-- the mark `,`
abbrev pub is_comma_mark : Token → Bool
is_comma_mark t = is_one_of [] (codes "," ∷ []) t

-- this word
abbrev pub starts : List ℕ → Token → Bool
starts spelling t = is_one_of (spelling ∷ []) [] t

-- ---- lists

-- an item, and further ones while the next token begins one
abbrev pub one_or_more : {A : Type 0} → ℕ → (Token → Bool) → Parser A → Parser (List A)
one_or_more m begins p = to (λ x. x.0 ∷ x.1) (seq p (many_of m begins p))

-- items as they are put behind a comma: the first behind none, each other one behind its own
abbrev pub behind_commas : {A X : Type 0} → (Option Place → X → A) → Option (X × List (Place × X)) → List A
behind_commas put None = []
behind_commas put (Some x) = put None x.0 ∷ map (λ y. put (Some y.0) y.1) x.1

-- [ item { "," item } ]
abbrev pub comma_list : {A X : Type 0} → ℕ → (Token → Bool) → (Option Place → X → A) → Parser X → Parser (List A)
comma_list m begins put p = to (behind_commas put) (optional begins (chain m is_comma_mark (mark_rule (codes ",")) p))
