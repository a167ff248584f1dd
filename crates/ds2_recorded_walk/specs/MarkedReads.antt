-- Reads that are recorded, and marks of their locations.
use Rattle.std.specs.List.{list_any}
use Rattle.std.specs.Prelude.{◌≡◌, ℕ, ◌==◌, Bool, List}
use Rattle.ds2_recorded_walk.specs.declared.number_marks.NumberMarks.{NumberMarks}
use Rattle.ds2_recorded_walk.specs.declared.record.RecordedRead.{RecordedRead}
use Rattle.ds2_recorded_walk.specs.MarkedSets.{is_marked}

-- a read of the location of this number is among reads
abbrev pub is_read_in : ℕ → List RecordedRead → Bool
is_read_in number reads = list_any (λ (r : RecordedRead). r.location == number) reads

-- the locations of reads are marked, and no others
abbrev pub AreMarkedReads : List RecordedRead → NumberMarks → Type 0
AreMarkedReads reads marks = (n : ℕ) → is_marked marks n ≡ is_read_in n reads
