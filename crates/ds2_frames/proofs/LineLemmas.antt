-- Lines, one text longer.
use Rattle.std.proofs.Common.{◌≡◌, ℕ, List, [], ◌∷◌, ◌++◌, refl, append_assoc}
use Rattle.std.specs.List.{join_with_byte}

pub joined_further : (a b : List ℕ) (ts : List (List ℕ)) → join_with_byte 32 ((a ++ 32 ∷ b) ∷ ts) ≡ join_with_byte 32 (a ∷ b ∷ ts)
joined_further a b [] = refl
joined_further a b (t ∷ ts) = append_assoc a (32 ∷ b) (32 ∷ join_with_byte 32 (t ∷ ts))

pub behind_blank : (a b : List ℕ) → (a ++ 32 ∷ []) ++ b ≡ a ++ 32 ∷ b
behind_blank a b = append_assoc a (32 ∷ []) b
