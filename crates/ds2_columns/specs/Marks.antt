-- Marks of the values that are null.
use Rattle.std.specs.Prelude.{◌≡◌, ℕ, Bool, List, [], ◌∷◌, ◌++◌, length, if◌then◌else◌}
use Rattle.ds2_value.specs.declared.value.Value.{Value}
use Rattle.ds2_value.specs.declared.value.Value.TheVariants.{Null}

-- the values, null where they are marked; those behind the last mark are not
abbrev pub with_nulls : List Bool → List Value → List Value
with_nulls [] values = values
with_nulls (mark ∷ marks) [] = []
with_nulls (mark ∷ marks) (value ∷ values) = (if mark then Null else value) ∷ with_nulls marks values

-- two lists of marks mark the same among so many values
pub record SayTheSame (count : ℕ) (before now : List Bool) : Type 0 where
  pub same : (values : List Value) → length values ≡ count → with_nulls now values ≡ with_nulls before values

-- marks which mark, behind so many values, one more that is null
pub record MarkNext (count : ℕ) (before now : List Bool) : Type 0 where
  pub next : (values : List Value) (last : Value) → length values ≡ count → with_nulls now (values ++ last ∷ []) ≡ with_nulls before values ++ Null ∷ []
