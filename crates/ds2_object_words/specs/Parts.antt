-- The parts of an object file: how values are spelled, which values have a spelling, and what is read at the front of bytes.
use Rattle.std.specs.Prelude.{◌≡◌, IsTrue, ℕ, zero, suc, ◌^◌, ◌==◌, nat_lt, Bool, true, false, ◌&&◌, if◌then◌else◌, List, [], ◌∷◌, ◌++◌, length, take, drop, slice_get, Option, Some, None, Result, Ok, Err}
use Rattle.std.specs.Int.{Width, w16, w32, w64, byte_len, to_le_bytes, from_le_bytes}
use Rattle.std.specs.List.{flat_map, list_all}
use Rattle.std.specs.Option.{option_map_or}
use Rattle.ds2_base.specs.Bytes.{Bytes}
use Rattle.ds2_base.specs.declared.stop.Stop.{Stop}
use Rattle.ds2_base.specs.declared.stop.Stop.TheVariants.{Refused, OutOfMemory}
use Rattle.ds2_object_words.specs.declared.flaw.Flaw.{Flaw}
use Rattle.ds2_object_words.specs.declared.flaw.Flaw.TheVariants.{Truncated, Bad}

-- ---- what a part is

-- what is read at the front of bytes: a value and the bytes behind it, or what is wrong first
abbrev pub FieldRead : Type 0 → Type 0
FieldRead A = Result (A × Bytes) Flaw

-- a part of the format
pub record FormatPart (A : Type 0) : Type 0 where
  -- how a value is spelled
  pub spelled : A → Bytes
  -- whether a value has a spelling
  pub allows : A → Bool
  -- what stands at the front of bytes
  pub read : Bytes → FieldRead A

-- goes on from a value and the bytes behind it
abbrev pub and_read : {A B : Type 0} → FieldRead A → (A → Bytes → FieldRead B) → FieldRead B
and_read (Ok x) f = f x.0 x.1
and_read (Err flaw) f = Err flaw

-- ---- numbers and bytes

-- the first byte
abbrev pub first_byte : Bytes → FieldRead ℕ
first_byte [] = Err Truncated
first_byte (b ∷ bytes) = Ok (b, bytes)

-- a byte
unfoldable pub byte_part : FormatPart ℕ
byte_part = record {
  spelled = λ n. n ∷ [];
  allows = λ n. nat_lt n 256;
  read = first_byte;
}

-- the first so many bytes as a value
abbrev pub front_read : {A : Type 0} → ℕ → (Bytes → A) → Bytes → FieldRead A
front_read n value bytes = if nat_lt (length bytes) n then Err Truncated else Ok (value (take n bytes), drop n bytes)

-- a number of so many bits, its lowest byte first
abbrev pub number_part : Width → FormatPart ℕ
number_part w = record {
  spelled = λ n. to_le_bytes w n;
  allows = λ n. nat_lt n (256 ^ byte_len w);
  read = front_read (byte_len w) (from_le_bytes w);
}

-- a number of 16 bits
unfoldable pub number16_part : FormatPart ℕ
number16_part = number_part w16

-- a number of 32 bits
unfoldable pub number32_part : FormatPart ℕ
number32_part = number_part w32

-- a number of 64 bits
unfoldable pub number64_part : FormatPart ℕ
number64_part = number_part w64

-- so many bytes
abbrev pub bytes_part : ℕ → FormatPart Bytes
bytes_part n = record {
  spelled = λ t. t;
  allows = λ t. length t == n;
  read = front_read n (λ t. t);
}

-- ---- parts made of parts

-- no bytes, for the one value that passes a test
abbrev pub empty_part : {A : Type 0} → A → (A → Bool) → FormatPart A
empty_part value is_value = record {
  spelled = λ a. [];
  allows = is_value;
  read = λ bytes. Ok (value, bytes);
}

-- a part, and behind it one that may depend on the first one's value
abbrev pub then_part : {A B : Type 0} → FormatPart A → (A → FormatPart B) → FormatPart (A × B)
then_part p q = record {
  spelled = λ x. p.spelled x.0 ++ (q x.0).spelled x.1;
  allows = λ x. p.allows x.0 && (q x.0).allows x.1;
  read = λ bytes. and_read (p.read bytes) (λ a rest. and_read ((q a).read rest) (λ b behind. Ok ((a, b), behind)));
}

infixr 20 ◌⨾◌
-- two parts, one behind the other
abbrev pub ◌⨾◌ : {A B : Type 0} → FormatPart A → FormatPart B → FormatPart (A × B)
p ⨾ q = then_part p (λ a. q)

-- a part whose values stand for those of another type, one for each
abbrev pub seen_as : {A B : Type 0} → (A → B) → (B → A) → FormatPart A → FormatPart B
seen_as to from p = record {
  spelled = λ b. p.spelled (from b);
  allows = λ b. p.allows (from b);
  read = λ bytes. and_read (p.read bytes) (λ a rest. Ok (to a, rest));
}

-- a part whose values stand for some of those of another type
abbrev pub variant_part : {A B : Type 0} → (A → B) → (B → Option A) → FormatPart A → FormatPart B
variant_part to from p = record {
  spelled = λ b. option_map_or p.spelled (from b) [];
  allows = λ b. option_map_or p.allows (from b) false;
  read = λ bytes. and_read (p.read bytes) (λ a rest. Ok (to a, rest));
}

-- a part with a rule on its values; where the rule is broken, the part's first byte is the place
abbrev pub checked_part : {A : Type 0} → (A → Bool) → FormatPart A → FormatPart A
checked_part rule p = record {
  spelled = p.spelled;
  allows = λ a. p.allows a && rule a;
  read = λ bytes. and_read (p.read bytes) (λ a rest. if rule a then Ok (a, rest) else Err (Bad (length bytes)));
}

-- so many items
abbrev pub items_read : {A : Type 0} → FormatPart A → ℕ → Bytes → FieldRead (List A)
items_read p zero bytes = Ok ([], bytes)
items_read p (suc n) bytes = and_read (p.read bytes) (λ x rest. and_read (items_read p n rest) (λ xs behind. Ok (x ∷ xs, behind)))

-- a count, and so many items
abbrev pub list_part : {A : Type 0} → FormatPart A → FormatPart (List A)
list_part p = record {
  spelled = λ xs. number32_part.spelled (length xs) ++ flat_map p.spelled xs;
  allows = λ xs. nat_lt (length xs) (2 ^ 32) && list_all p.allows xs;
  read = λ bytes. and_read (number32_part.read bytes) (items_read p);
}

-- the bytes of what may be there
abbrev pub option_spelled : {A : Type 0} → FormatPart A → Option A → Bytes
option_spelled p None = 0 ∷ []
option_spelled p (Some x) = 1 ∷ p.spelled x

-- what stands behind a flag: nothing behind 0, a value behind 1; so many bytes are left from the flag on
abbrev pub flagged_read : {A : Type 0} → FormatPart A → ℕ → ℕ → Bytes → FieldRead (Option A)
flagged_read p left zero rest = Ok (None, rest)
flagged_read p left (suc zero) rest = and_read (p.read rest) (λ x behind. Ok (Some x, behind))
flagged_read p left (suc (suc flag)) rest = Err (Bad left)

-- what may be there
abbrev pub option_part : {A : Type 0} → FormatPart A → FormatPart (Option A)
option_part p = record {
  spelled = option_spelled p;
  allows = λ o. option_map_or p.allows o true;
  read = λ bytes. and_read (byte_part.read bytes) (flagged_read p (length bytes));
}

-- what stands behind a tag: a value of the alternative, where there is one; so many bytes are left from the tag on
abbrev pub alternative_read : {A : Type 0} → Option (FormatPart A) → ℕ → Bytes → FieldRead A
alternative_read None left rest = Err (Bad left)
alternative_read (Some p) left rest = p.read rest

-- a tag of one byte, and behind it the alternative with this number
abbrev pub tagged_part : {A : Type 0} → (A → ℕ) → List (FormatPart A) → FormatPart A
tagged_part tag alternatives = record {
  spelled = λ a. tag a ∷ option_map_or (λ p. p.spelled a) (slice_get alternatives (tag a)) [];
  allows = λ a. option_map_or (λ p. p.allows a) (slice_get alternatives (tag a)) false;
  read = λ bytes. and_read (byte_part.read bytes) (λ t rest. alternative_read (slice_get alternatives t) (length bytes) rest);
}

-- the value of a tag, where there is one; so many bytes are left from the tag on
abbrev pub listed_value : {A : Type 0} → Option A → ℕ → Bytes → FieldRead A
listed_value None left rest = Err (Bad left)
listed_value (Some a) left rest = Ok (a, rest)

-- a tag of one byte, which is the number of a value of a list
abbrev pub listed_read : {A : Type 0} → List A → Bytes → FieldRead A
listed_read values bytes = and_read (byte_part.read bytes) (λ t rest. listed_value (slice_get values t) (length bytes) rest)

-- a value by its number in a list of all values
abbrev pub listed_part : {A : Type 0} → (A → ℕ) → List A → FormatPart A
listed_part number values = record {
  spelled = λ a. number a ∷ [];
  allows = λ a. nat_lt (number a) (length values);
  read = listed_read values;
}

-- ---- what calls promise

-- a call that takes a part off the front of bytes gives what stands there and leaves the bytes behind it, or tells what is wrong first,
-- unless memory ran out
abbrev pub StopsReading : {A : Type 0} → Stop Flaw → FieldRead A → Type 0
StopsReading (Refused flaw) wanted = wanted ≡ Err flaw
StopsReading OutOfMemory wanted = Unit {0}

-- what a call gave and left is what stands at the front
abbrev pub ReadsPart : {A : Type 0} → Result A (Stop Flaw) → FieldRead A → Bytes → Type 0
ReadsPart (Ok x) wanted rest = wanted ≡ Ok (x, rest)
ReadsPart (Err stop) wanted rest = StopsReading stop wanted

-- the same, where the code has another view of the value
abbrev pub ReadsPartAs : {X A : Type 0} → (X → A) → Result X (Stop Flaw) → FieldRead A → Bytes → Type 0
ReadsPartAs view (Ok x) wanted rest = wanted ≡ Ok (view x, rest)
ReadsPartAs view (Err stop) wanted rest = StopsReading stop wanted

-- a value has a spelling, which was put behind bytes
pub record Writes {A : Type 0} (p : FormatPart A) (before : Bytes) (x : A) (after : Bytes) : Type 0 where
  pub bytes : after ≡ before ++ p.spelled x
  pub allowed : IsTrue (p.allows x)

-- values have spellings, which were put behind bytes
pub record ItemsWritten {A : Type 0} (p : FormatPart A) (before : Bytes) (xs : List A) (after : Bytes) : Type 0 where
  pub bytes : after ≡ before ++ flat_map p.spelled xs
  pub allowed : IsTrue (list_all p.allows xs)
