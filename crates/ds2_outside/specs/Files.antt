-- Files: a finite map from names to bytes, and what a call on them answers and leaves.
use Rattle.std.specs.Prelude.{◌≡◌, ◌⊎◌, ℕ, ◌+◌, List, take, Option, Some, None, option_map, Result, Ok, Err, Bool, true, false}
use Rattle.std.specs.Ordering.{nat_cmp}
use Rattle.std.specs.Cmp.Lexicographic.{slice_cmp}
use Rattle.std.specs.FinMap.{FinMap, get, insert}
use Rattle.ds2_outside.specs.declared.store.ReadStop.{ReadStop}
use Rattle.ds2_outside.specs.declared.store.ReadStop.TheVariants.{Absent, Failed, OutOfMemory}

-- the bytes of each file, by the bytes of its name
abbrev pub Files : Type 0
Files = FinMap (slice_cmp nat_cmp) (List ℕ)

-- the bytes of a file, where there is one
abbrev pub file : Files → List ℕ → Option (List ℕ)
file files name = get files name

-- the files with these bytes under this name
abbrev pub with_file : Files → List ℕ → List ℕ → Files
with_file files name bytes = insert files name bytes

-- what a read of at most so many bytes and one more answers
abbrev pub Reads : Files → List ℕ → ℕ → Result (List ℕ) ReadStop → Type 0
Reads files name most (Ok bytes) = option_map (take (most + 1)) (file files name) ≡ Some bytes
Reads files name most (Err Absent) = file files name ≡ None
Reads files name most (Err Failed) = Unit {0}
Reads files name most (Err OutOfMemory) = Unit {0}

-- what a refused write leaves: the files as they were, or with a prefix of the bytes under the name
abbrev pub LeavesPart : Files → List ℕ → List ℕ → Option Files → Type 0
LeavesPart files name bytes left = (left ≡ Some files) ⊎ ((n : ℕ) × (left ≡ Some (with_file files name (take n bytes))))

-- whether a read answers Failed
abbrev pub has_read_failed : {T : Type 0} → Result T ReadStop → Bool
has_read_failed (Ok x) = false
has_read_failed (Err Absent) = false
has_read_failed (Err Failed) = true
has_read_failed (Err OutOfMemory) = false
