-- Flags, texts, names, types and columns are parts.
use Rattle.std.proofs.Common.{◌≡◌, ℕ, ◌*◌, ◌≤◌, Bool, true, false, ◌==◌, IsTrue, List, [], ◌∷◌, length, Some, slice_get, refl, sym, ap, eqb-true, length-append, arith}
use Rattle.std.proofs.Math.Utf8.{encodes, encode}
use Rattle.std.proofs.lemmas.Str.{length-encode, len_utf8_bounds, encodes-chars}
use Rattle.std.specs.Option.{option_map_or}
use Rattle.std.specs.Str.{chars, is_utf8, IsUtf8}
use Rattle.ds2_base.specs.Bytes.{Bytes}
use Rattle.ds2_base.specs.Characters.{char_count}
use Rattle.ds2_token.specs.Words.{is_table_name}
use Rattle.ds2_value.specs.Types.{in_bounds}
use Rattle.ds2_value.specs.declared.schema.Column.{Column}
use Rattle.ds2_value.specs.declared.ty.Ty.{Ty}
use Rattle.ds2_value.specs.declared.ty.Ty.TheVariants.{BigInt, Decimal as DecimalOf, Char, Varchar}
use Rattle.ds2_object_words.specs.Parts.{FormatPart, byte_part, number16_part, number32_part, bytes_part, then_part, ◌⨾◌, tagged_part}
use Rattle.ds2_object_words.specs.PartLaws.{IsLawfulPart}
use Rattle.ds2_object_words.specs.Words.{flag_code, flag_values, flag_part, counted_part, text_part, is_own_name, name_part, table_name_part, type_tag, is_bigint_tag, decimal_digits, char_length, varchar_length, type_alternatives, type_part, column_part}
use Rattle.ds2_object_words.proofs.PartLemmas.{both, bytes_law, empty_law, then_law, seen_as_law, variant_law, checked_law, tagged_law, listed_law, AreAlternatives, some_is}
use Rattle.ds2_object_words.proofs.NumberLemmas.{byte_law, number16_law, number32_law}

-- two parts, one behind the other
pub pair_law : {A B : Type 0} (p : FormatPart A) (q : FormatPart B) → IsLawfulPart p → IsLawfulPart q → IsLawfulPart (p ⨾ q)
pair_law p q first second = then_law p (λ a. q) first (λ a. second)

-- ---- flags

flag_found : (flag : Bool) → slice_get flag_values (flag_code flag) ≡ Some flag
flag_found false = refl
flag_found true = refl

pub flag_law : IsLawfulPart flag_part
unfolding flag_part
flag_law = listed_law flag_code flag_values (refl, (refl, tt)) flag_found

-- ---- texts and names

counted_law : IsLawfulPart counted_part
counted_law =
    seen_as_law (λ (x : ℕ × Bytes). x.1) (λ (t : Bytes). (length t, t)) (then_part number32_part bytes_part) (then_law number32_part bytes_part number32_law bytes_law)
    (λ a h. let k : IsTrue (number32_part.allows a.0) × IsTrue (length a.1 == a.0) = both (number32_part.allows a.0) (length a.1 == a.0) h in
    ap (λ (n : ℕ). (n, a.1)) (eqb-true (length a.1) a.0 k.1))
    (λ b h. refl)

pub text_law : IsLawfulPart text_part
unfolding text_part
text_law = checked_law is_utf8 counted_part counted_law

pub name_law : IsLawfulPart name_part
unfolding name_part
name_law = checked_law is_own_name text_part text_law

pub table_name_law : IsLawfulPart table_name_part
unfolding table_name_part
table_name_law = checked_law is_table_name name_part name_law

-- ---- types

bigint_only : (ty : Ty) → IsTrue (is_bigint_tag ty) → BigInt ≡ ty
bigint_only BigInt h = refl
bigint_only (DecimalOf p s) h = absurd (let k : false ≡ true = h in cc)
bigint_only (Char n) h = absurd (let k : false ≡ true = h in cc)
bigint_only (Varchar n) h = absurd (let k : false ≡ true = h in cc)

bigint_tagged : (ty : Ty) → IsTrue (is_bigint_tag ty) → type_tag ty ≡ 0
bigint_tagged ty h = ap type_tag (sym (bigint_only ty h))

digits_back : (ty : Ty) (a : ℕ × ℕ) → decimal_digits ty ≡ Some a → DecimalOf a.0 a.1 ≡ ty
digits_back BigInt a e = absurd cc
digits_back (DecimalOf p s) a e = ap (λ (x : ℕ × ℕ). DecimalOf x.0 x.1) (sym (some_is {A = ℕ × ℕ} (p, s) a e))
digits_back (Char n) a e = absurd cc
digits_back (Varchar n) a e = absurd cc

digits_tagged : (f : ℕ × ℕ → Bool) (ty : Ty) → IsTrue (option_map_or f (decimal_digits ty) false) → type_tag ty ≡ 1
digits_tagged f BigInt h = absurd (let k : false ≡ true = h in cc)
digits_tagged f (DecimalOf p s) h = refl
digits_tagged f (Char n) h = absurd (let k : false ≡ true = h in cc)
digits_tagged f (Varchar n) h = absurd (let k : false ≡ true = h in cc)

char_back : (ty : Ty) (n : ℕ) → char_length ty ≡ Some n → Char n ≡ ty
char_back BigInt n e = absurd cc
char_back (DecimalOf p s) n e = absurd cc
char_back (Char m) n e = ap Char (sym (some_is m n e))
char_back (Varchar m) n e = absurd cc

char_tagged : (f : ℕ → Bool) (ty : Ty) → IsTrue (option_map_or f (char_length ty) false) → type_tag ty ≡ 2
char_tagged f BigInt h = absurd (let k : false ≡ true = h in cc)
char_tagged f (DecimalOf p s) h = absurd (let k : false ≡ true = h in cc)
char_tagged f (Char n) h = refl
char_tagged f (Varchar n) h = absurd (let k : false ≡ true = h in cc)

varchar_back : (ty : Ty) (n : ℕ) → varchar_length ty ≡ Some n → Varchar n ≡ ty
varchar_back BigInt n e = absurd cc
varchar_back (DecimalOf p s) n e = absurd cc
varchar_back (Char m) n e = absurd cc
varchar_back (Varchar m) n e = ap Varchar (sym (some_is m n e))

varchar_tagged : (f : ℕ → Bool) (ty : Ty) → IsTrue (option_map_or f (varchar_length ty) false) → type_tag ty ≡ 3
varchar_tagged f BigInt h = absurd (let k : false ≡ true = h in cc)
varchar_tagged f (DecimalOf p s) h = absurd (let k : false ≡ true = h in cc)
varchar_tagged f (Char n) h = absurd (let k : false ≡ true = h in cc)
varchar_tagged f (Varchar n) h = refl

types_tagged : AreAlternatives type_tag 0 type_alternatives
types_tagged = (
  empty_law BigInt is_bigint_tag refl bigint_only,
  bigint_tagged,
  (
    variant_law (λ (x : ℕ × ℕ). DecimalOf x.0 x.1) decimal_digits (byte_part ⨾ byte_part) (pair_law byte_part byte_part byte_law byte_law) (λ a h. refl) digits_back,
    digits_tagged (byte_part ⨾ byte_part).allows,
    (
      variant_law Char char_length number16_part number16_law (λ a h. refl) char_back,
      char_tagged number16_part.allows,
      (variant_law Varchar varchar_length number16_part number16_law (λ a h. refl) varchar_back, varchar_tagged number16_part.allows, tt),
    ),
  ),
)

pub type_law : IsLawfulPart type_part
unfolding type_part
type_law = checked_law in_bounds (tagged_part type_tag type_alternatives) (tagged_law type_tag type_alternatives types_tagged)

-- ---- columns

pub column_law : IsLawfulPart column_part
unfolding column_part
column_law =
    seen_as_law (λ (x : Bytes × Ty). record { name = x.0; ty = x.1 }) (λ (c : Column). (c.name, c.ty)) (name_part ⨾ type_part)
    (pair_law name_part type_part name_law type_law) (λ a h. refl) (λ b h. refl)

-- ---- how long texts are

encodes-le : (cs : List ℕ) → length (encodes cs) ≤ 4 * length cs
encodes-le [] = omega arith
encodes-le (c ∷ cs) = omega (arith, encodes-le cs, length-append (encode c) (encodes cs), length-encode c, (len_utf8_bounds c).1)

-- a character has at most four bytes
pub bytes-le : (bytes : Bytes) → IsUtf8 bytes → length bytes ≤ 4 * char_count bytes
bytes-le bytes u = rw (encodes-chars bytes u) at (encodes-le (chars bytes))
