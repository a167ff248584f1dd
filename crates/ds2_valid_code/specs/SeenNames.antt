-- Names that were seen, in a set that is kept in order.
use Rattle.std.specs.Prelude.{ℕ, Bool, List}
use Rattle.std.specs.BTreeSet.{BTreeSet, contains_by}
use Rattle.std.specs.Borrow.{Bor}
use Rattle.std.specs.Cmp.Lexicographic.{slice_cmp}
use Rattle.std.specs.Ordering.{nat_cmp}

-- a set has a key of these bytes
abbrev pub has_key_of : {K : Type 0} → (K → List ℕ) → BTreeSet K → List ℕ → Bool
has_key_of bytes_of keys bytes = contains_by (λ key. slice_cmp nat_cmp bytes (bytes_of key)) keys

-- a set has a name
abbrev pub has_name : BTreeSet (Bor (List ℕ)) → List ℕ → Bool
has_name seen name = has_key_of (λ (key : Bor (List ℕ)). key.now) seen name
