-- Levels: the tokens from the first one on that opens more than n of them, or none.
use Rattle.std.specs.Prelude.{ℕ, zero, suc, List, ◌++◌, Option, Some, None}
use Rattle.ds2_token.specs.declared.token.Token.{Token}

-- where a first part opens a level too many, its tokens from there on and those behind it; or else where what stands behind does
abbrev pub first_opened : Option (List Token) → List Token → Option (List Token) → Option (List Token)
first_opened (Some back) after next = Some (back ++ after)
first_opened None after next = next

-- a part that opens a level with its first token: the whole part where no level is left, or else what it opens with one level less
abbrev pub one_in : List Token → (ℕ → Option (List Token)) → ℕ → Option (List Token)
one_in spelling opens zero = Some spelling
one_in spelling opens (suc n) = opens n
