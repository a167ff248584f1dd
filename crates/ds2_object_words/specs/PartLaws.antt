-- What holds of a part of the format: spelling and reading are each other's inverse, and no spelling begins another.
use Rattle.std.specs.Prelude.{◌≡◌, IsTrue, ℕ, ◌+◌, ◌<◌, ◌++◌, length, get_or, Ok, Err}
use Rattle.ds2_base.specs.Bytes.{Bytes}
use Rattle.ds2_object_words.specs.declared.flaw.Flaw.TheVariants.{Truncated, Bad}
use Rattle.ds2_object_words.specs.Parts.{FormatPart, FieldRead}

-- each number is one of a byte
abbrev pub AreBytes : Bytes → Type 0
AreBytes bytes = (i : ℕ) → get_or bytes i 0 < 256

-- what is read with more bytes at the end, beside what is read without them: only a part that was cut short may be another one
abbrev pub GoesOnAs : {A : Type 0} → FieldRead A → Bytes → FieldRead A → Type 0
GoesOnAs (Ok x) more longer = longer ≡ Ok (x.0, x.1 ++ more)
GoesOnAs (Err Truncated) more longer = Unit {0}
GoesOnAs (Err (Bad left)) more longer = longer ≡ Err (Bad (left + length more))

-- a value with a spelling that stands at the front of bytes
pub record StandsBefore {A : Type 0} (p : FormatPart A) (bytes : Bytes) (x : A) (rest : Bytes) : Type 0 where
  pub allowed : IsTrue (p.allows x)
  pub parts : bytes ≡ p.spelled x ++ rest

-- what holds of a part
pub record IsLawfulPart {A : Type 0} (p : FormatPart A) : Type 0 where
  -- what is spelled is read, whatever follows
  pub again : (x : A) (rest : Bytes) → IsTrue (p.allows x) → p.read (p.spelled x ++ rest) ≡ Ok (x, rest)
  -- what is read is spelled there
  pub takes : (bytes : Bytes) (x : A) (rest : Bytes) → AreBytes bytes → p.read bytes ≡ Ok (x, rest) → StandsBefore p bytes x rest
  -- further bytes at the end change nothing, unless the part was cut short
  pub steady : (bytes more : Bytes) → GoesOnAs (p.read bytes) more (p.read (bytes ++ more))
