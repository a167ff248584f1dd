-- Numbers of several bytes, lists and texts are parts.
use Rattle.std.proofs.Common.{◌≡◌, ℕ, ◌^◌, ◌<◌, ◌≤◌, true, IsTrue, List, [], ◌∷◌, ◌++◌, length, take, drop, nat_lt, Ok, refl, sym, ap, subst, ◌∙◌, append_assoc, take-append-drop, get_or-take, length-take, length-take-le, ltb-false, lt-ltb, ltb-true, arith, inl, inr}
use Rattle.std.specs.Int.{Width, w16, w32, w64, byte_len, from_le_bytes, to_le_bytes}
use Rattle.std.specs.List.{flat_map, list_all}
use Rattle.std.proofs.lemmas.Bool.{cases_lt}
use Rattle.std.proofs.lemmas.List.{get_or_past}
use Rattle.std.proofs.lemmas.Nat.{le_bytes_2, le_bytes_4, le_bytes_8, from_le_bytes-to_le_bytes_2, from_le_bytes-to_le_bytes_4, from_le_bytes-to_le_bytes_8}
use Rattle.ds2_base.specs.Bytes.{Bytes}
use Rattle.ds2_object_words.specs.declared.flaw.Flaw.TheVariants.{Truncated}
use Rattle.ds2_object_words.specs.Parts.{FormatPart, first_byte, byte_part, number_part, number16_part, number32_part, number64_part, items_read, list_part}
use Rattle.ds2_object_words.specs.PartLaws.{AreBytes, GoesOnAs, StandsBefore, IsLawfulPart}
use Rattle.ds2_object_words.proofs.PartLemmas.{both, and_true, found, found_is, read_ok, not_refused, goes_on, rest_bytes, front_steady, front_again, items_again, items_take, items_steady}

bytes_in_front : (n : ℕ) (bytes : Bytes) → AreBytes bytes → AreBytes (take n bytes)
bytes_in_front n bytes h i =
    elim (cases_lt i n) [
      | inl lt ↦ rw (get_or-take n bytes i 0 lt) (h i)
      | inr le ↦ rw (get_or_past (take n bytes) i 0 (omega (arith, length-take n bytes))) (omega arith)
    ]

-- what holds of numbers of a width: they are spelled with so many bytes, which give the number back
record IsWide (w : Width) : Type 0 where
  len : (n : ℕ) → length (to_le_bytes w n) ≡ byte_len w
  back : (bytes : Bytes) → length bytes ≡ byte_len w → AreBytes bytes → to_le_bytes w (from_le_bytes w bytes) ≡ bytes
  again : (n : ℕ) → n < 256 ^ byte_len w → from_le_bytes w (to_le_bytes w n) ≡ n
  below : (bytes : Bytes) → AreBytes bytes → from_le_bytes w bytes < 256 ^ byte_len w

wide16 : IsWide w16
wide16 = record {
  len = λ n. refl;
  back = λ bytes len fits. le_bytes_2 bytes _ len fits refl;
  again = λ n lt. from_le_bytes-to_le_bytes_2 n lt;
  below = λ bytes fits. omega (arith, fits 0, fits 1);
}

wide32 : IsWide w32
wide32 = record {
  len = λ n. refl;
  back = λ bytes len fits. le_bytes_4 bytes _ len fits refl;
  again = λ n lt. from_le_bytes-to_le_bytes_4 n lt;
  below = λ bytes fits. omega (arith, fits 0, fits 1, fits 2, fits 3);
}

wide64 : IsWide w64
wide64 = record {
  len = λ n. refl;
  back = λ bytes len fits. le_bytes_8 bytes _ len fits refl;
  again = λ n lt. from_le_bytes-to_le_bytes_8 n lt;
  below = λ bytes fits. omega (arith, fits 0, fits 1, fits 2, fits 3, fits 4, fits 5, fits 6, fits 7);
}

number_takes : (w : Width) → IsWide w → (bytes : Bytes) (n : ℕ) (rest : Bytes) → AreBytes bytes → (number_part w).read bytes ≡ Ok (n, rest) → StandsBefore (number_part w) bytes n rest
number_takes w wide bytes n rest fits e =
    let front = take (byte_len w) bytes in
    let value = from_le_bytes w front in
    let g = not_refused {A = ℕ} (nat_lt (length bytes) (byte_len w)) Truncated (value, drop (byte_len w) bytes) (n, rest) e in
    let long : byte_len w ≤ length bytes = ltb-false (length bytes) (byte_len w) g.0 in
    let spelled : to_le_bytes w value ≡ front = wide.back front (length-take-le (byte_len w) bytes long) (bytes_in_front (byte_len w) bytes fits) in
    let made : StandsBefore (number_part w) bytes value (drop (byte_len w) bytes) = record {
      allowed = lt-ltb value (256 ^ byte_len w) (wide.below front (bytes_in_front (byte_len w) bytes fits));
      parts = sym (take-append-drop (byte_len w) bytes) ∙ ap (λ (z : Bytes). z ++ drop (byte_len w) bytes) (sym spelled);
    } in
    subst (λ (z : ℕ × Bytes). StandsBefore (number_part w) bytes z.0 z.1) g.1 made

number_again : (w : Width) → IsWide w → (n : ℕ) (rest : Bytes) → IsTrue (nat_lt n (256 ^ byte_len w)) → (number_part w).read (to_le_bytes w n ++ rest) ≡ Ok (n, rest)
number_again w wide n rest h =
    front_again (byte_len w) (from_le_bytes w) (to_le_bytes w n) rest (wide.len n) ∙ ap (λ (k : ℕ). found (k, rest)) (wide.again n (ltb-true n (256 ^ byte_len w) h))

number_law : (w : Width) → IsWide w → IsLawfulPart (number_part w)
number_law w wide = record {
  again = number_again w wide;
  takes = number_takes w wide;
  steady = front_steady (byte_len w) (from_le_bytes w);
}

pub number16_law : IsLawfulPart number16_part
unfolding number16_part
number16_law = number_law w16 wide16

pub number32_law : IsLawfulPart number32_part
unfolding number32_part
number32_law = number_law w32 wide32

pub number64_law : IsLawfulPart number64_part
unfolding number64_part
number64_law = number_law w64 wide64

-- which numbers have 32 bits
pub number32_allows : (n : ℕ) → number32_part.allows n ≡ nat_lt n (2 ^ 32)
unfolding number32_part
number32_allows n = refl

-- which numbers have 64 bits
pub number64_allows : (n : ℕ) → number64_part.allows n ≡ nat_lt n (2 ^ 64)
unfolding number64_part
number64_allows n = refl

-- ---- a byte

byte_takes : (bytes : Bytes) (n : ℕ) (rest : Bytes) → AreBytes bytes → first_byte bytes ≡ Ok (n, rest) → StandsBefore byte_part bytes n rest
unfolding byte_part
byte_takes [] n rest fits e = absurd cc
byte_takes (b ∷ bytes) n rest fits e =
    let made : StandsBefore byte_part (b ∷ bytes) b bytes = record { allowed = lt-ltb b 256 (fits 0); parts = refl } in
    subst (λ (z : ℕ × Bytes). StandsBefore byte_part (b ∷ bytes) z.0 z.1) (found_is {A = ℕ} (b, bytes) (n, rest) e) made

byte_steady : (bytes more : Bytes) → GoesOnAs (first_byte bytes) more (first_byte (bytes ++ more))
byte_steady [] more = tt
byte_steady (b ∷ bytes) more = refl

pub byte_law : IsLawfulPart byte_part
unfolding byte_part
byte_law = record { again = λ n rest h. refl; takes = byte_takes; steady = byte_steady }

-- ---- lists

pub list_law : {A : Type 0} (p : FormatPart A) → IsLawfulPart p → IsLawfulPart (list_part p)
list_law {A} p law = record {
  again = λ xs rest h.
      let k : IsTrue (nat_lt (length xs) (2 ^ 32)) × IsTrue (list_all p.allows xs) = both (nat_lt (length xs) (2 ^ 32)) (list_all p.allows xs) h in
      rw (
        append_assoc (number32_part.spelled (length xs)) (flat_map p.spelled xs) rest,
        number32_law.again (length xs) (flat_map p.spelled xs ++ rest) (number32_allows (length xs) ∙ k.0),
      ) (items_again p law xs rest k.1);
  takes = λ bytes xs rest fits e.
      let a = read_ok {A = ℕ} {B = List A} (number32_part.read bytes) (items_read p) (xs, rest) e in
      let s = number32_law.takes bytes a.0 a.1 fits a.2 in
      let t = items_take p law a.0 a.1 xs rest (rest_bytes bytes (number32_part.spelled a.0) a.1 s.parts fits) a.3 in
      let few : nat_lt (length xs) (2 ^ 32) ≡ true = ap (λ (n : ℕ). nat_lt n (2 ^ 32)) t.count ∙ sym (number32_allows a.0) ∙ s.allowed in
      record {
        allowed = and_true (nat_lt (length xs) (2 ^ 32)) (list_all p.allows xs) few t.allowed;
        parts = s.parts ∙ ap (λ (z : Bytes). number32_part.spelled a.0 ++ z) t.parts ∙ sym (append_assoc (number32_part.spelled a.0) (flat_map p.spelled xs) rest)
            ∙ ap (λ (n : ℕ). (number32_part.spelled n ++ flat_map p.spelled xs) ++ rest) (sym t.count);
      };
  steady = λ bytes more. goes_on {A = ℕ} {B = List A} (number32_part.read bytes) (number32_part.read (bytes ++ more)) more (items_read p) (items_read p) (number32_law.steady bytes more) (λ n rest. items_steady p law n rest more);
}
