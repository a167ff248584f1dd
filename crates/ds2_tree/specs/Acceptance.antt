-- What parsing says of the tokens, in terms of spellings alone.
use Rattle.std.specs.Prelude.{◌≡◌, ℕ, List, [], ◌∷◌, ◌++◌, Option, Some, None}
use Rattle.ds2_token.specs.declared.token.Token.{Token}
use Rattle.ds2_tree.specs.Parsers.{ParserOutcome, Read, Unexpected, TooDeep, Spent}

-- a symbol of the grammar: its spelling, its well-levelled trees, and the tokens from the first one on that opens more than n levels
pub record Symbol (A : Type 0) : Type 1 where
  pub spelling : A → List Token
  pub Fine : A → Type 0
  pub opens : A → ℕ → Option (List Token)

-- some tree's spelling begins so
abbrev pub Begins : {A : Type 0} → Symbol A → List Token → Type 0
Begins {A} S front = (x : A) × (tail : List Token) × S.Fine x × (S.spelling x ≡ front ++ tail)

-- no spelling of any depth goes on from `front` with the next token; at the end, none ends there
abbrev pub EndsAll : {A : Type 0} → Symbol A → List Token → List Token → Type 0
EndsAll {A} S front [] = (x : A) → S.Fine x → S.spelling x ≡ front → ⊥
EndsAll S front (t ∷ rest) = Begins S (front ++ (t ∷ [])) → ⊥

-- the place of Unexpected, as the tokens from there on
abbrev pub UnexpectedAt : {A : Type 0} → Symbol A → List Token → List Token → Type 0
UnexpectedAt S ts rest = (front : List Token) × (ts ≡ front ++ rest) × Begins S front × EndsAll S front rest

-- the token opens level n + 1 in every tree whose spelling begins with the tokens up to it
abbrev pub OpensInAll : {A : Type 0} → Symbol A → ℕ → List Token → Token → Type 0
OpensInAll {A} S n front t = (x : A) (tail : List Token) → S.Fine x → S.spelling x ≡ front ++ (t ∷ tail) → S.opens x n ≡ Some (t ∷ tail)

-- the place of TooDeep, as the tokens from there on
abbrev pub TooDeepAt : {A : Type 0} → Symbol A → ℕ → List Token → List Token → Type 0
TooDeepAt S n ts rest = (front : List Token) × (t : Token) × (after : List Token) × (rest ≡ t ∷ after) × (ts ≡ front ++ (t ∷ after))
    × Begins S (front ++ (t ∷ [])) × OpensInAll S n front t

-- the three answers
abbrev pub Answers : {A : Type 0} → Symbol A → ℕ → List Token → ParserOutcome A → Type 0
Answers S n ts (Read x rest) = S.Fine x × (S.opens x n ≡ None) × (ts ≡ S.spelling x) × (rest ≡ [])
Answers S n ts (Unexpected rest) = UnexpectedAt S ts rest × ((r : List Token) → TooDeepAt S n ts r → ⊥)
Answers S n ts (TooDeep rest) = TooDeepAt S n ts rest
Answers S n ts Spent = ⊥

-- the answers, each exactly where it is one
pub record Exactly {A : Type 0} (S : Symbol A) (parse : ℕ → List Token → ParserOutcome A) : Type 0 where
  pub one_tree : (x y : A) → S.Fine x → S.Fine y → S.spelling x ≡ S.spelling y → x ≡ y
  pub answers : (n : ℕ) (ts : List Token) → Answers S n ts (parse n ts)
  pub only : (n : ℕ) (ts : List Token) (o : ParserOutcome A) → Answers S n ts o → o ≡ parse n ts
