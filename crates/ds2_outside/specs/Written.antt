-- What a log has taken, and how a write ends.
use Rattle.std.specs.Prelude.{◌≡◌, ℕ, List, ◌++◌, take, Option, Some, Bool, true, false, Result, Ok, Err}
use Rattle.ds2_outside.specs.declared.store.WriteStop.{WriteStop}
use Rattle.ds2_outside.specs.declared.store.WriteStop.TheVariants.{Failed, OutOfMemory}

-- what a refused write leaves: a prefix of the bytes was appended
abbrev pub TakesPart : List ℕ → List ℕ → Option (List ℕ) → Type 0
TakesPart before bytes left = (n : ℕ) × (left ≡ Some (before ++ take n bytes))

-- whether a write answers Failed
abbrev pub has_write_failed : {T : Type 0} → Result T WriteStop → Bool
has_write_failed (Ok x) = false
has_write_failed (Err Failed) = true
has_write_failed (Err OutOfMemory) = false

-- whether a write found no memory
abbrev pub is_want_of_memory : {T : Type 0} → Result T WriteStop → Bool
is_want_of_memory (Ok x) = false
is_want_of_memory (Err Failed) = false
is_want_of_memory (Err OutOfMemory) = true
