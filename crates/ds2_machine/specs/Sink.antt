-- What takes the rows and lines that a unit writes.
use Rattle.std.specs.Prelude.{ℕ, List, ◌++◌}
use Rattle.ds2_value.specs.Run.{Written}

-- a sink takes these rows and lines behind those that it has taken, whatever they are
abbrev pub SinkTakes : {S : Type 0} → (S → S → List Written → List (List ℕ) → Type 0) → S → S → List Written → List (List ℕ) → Type 0
SinkTakes {S} has_taken before after rows lines =
    (from : S) (so_far : List Written) (said : List (List ℕ)) → has_taken from before so_far said → has_taken from after (so_far ++ rows) (said ++ lines)
