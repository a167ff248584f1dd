-- What names, texts and types that are read or written are known to be.
use Rattle.std.proofs.Common.{◌≡◌, ℕ, ◌*◌, ◌^◌, ◌<◌, ◌≤◌, Bool, true, false, cond, not, ◌&&◌, ◌==◌, IsTrue, ◌++◌, ◌-◌, length, nat_lt, nat_le, slice_index, Ok, Err, refl, ap, subst, ◌∙◌, append_assoc, leb-true, eqb-true, eq-eqb, arith, if◌then◌else◌}
use Rattle.ds2_base.specs.Name.{is_name, is_name_char, IsOwnName}
use Rattle.ds2_base.specs.declared.name.TheConstants.{NAME_CHARACTERS}
use Rattle.std.proofs.lemmas.Str.{is_utf8-from_IsUtf8, IsUtf8-from_is_utf8}
use Rattle.std.specs.List.{list_all}
use Rattle.std.specs.Str.{chars, is_utf8, IsUtf8}
use Rattle.std.specs.Char.{to_ascii_lowercase}
use Rattle.std.specs.Prelude.{map}
use Rattle.ds2_base.specs.Bytes.{Bytes}
use Rattle.ds2_base.specs.Characters.{char_count}
use Rattle.ds2_base.specs.declared.name.BadName.{BadName}
use Rattle.ds2_value.specs.Types.{in_bounds, fits, is_from_one}
use Rattle.ds2_value.specs.declared.ty.TheConstants.{TEXT_CHARACTERS}
use Rattle.ds2_value.specs.declared.ty.Ty.{Ty}
use Rattle.ds2_value.specs.declared.ty.Ty.TheVariants.{BigInt, Decimal as DecimalOf, Char, Varchar}
use Rattle.ds2_value.specs.declared.value.Value.TheVariants.{Txt}
use Rattle.ds2_object_words.specs.declared.flaw.Flaw.TheVariants.{Bad}
use Rattle.ds2_object_words.specs.Parts.{FieldRead, and_read, number32_part, tagged_part, Writes}
use Rattle.ds2_object_words.specs.Words.{counted_part, text_part, type_tag, type_alternatives, type_part}
use Rattle.ds2_object_words.proofs.PartLemmas.{both, and_true, read_ok, kept}
use Rattle.ds2_object_words.proofs.WordLemmas.{bytes-le}

-- ---- texts

-- a text is read where its bytes are UTF-8
pub text_read : (bytes taken rest : Bytes) → counted_part.read bytes ≡ Ok (taken, rest) → IsUtf8 taken → text_part.read bytes ≡ Ok (taken, rest)
unfolding text_part
text_read bytes taken rest e u =
    ap (λ (r : FieldRead Bytes). and_read r (λ (a : Bytes) (behind : Bytes). if is_utf8 a then Ok (a, behind) else Err (Bad (length bytes)))) e ∙ rw (is_utf8-from_IsUtf8 taken u) refl

not_utf8 : (t : Bytes) → ¬ (IsUtf8 t) → (b : Bool) → is_utf8 t ≡ b → b ≡ false
not_utf8 t n true e = absurd (n (IsUtf8-from_is_utf8 t e))
not_utf8 t n false e = refl

-- and refused where they are not
pub text_refused : (bytes taken rest : Bytes) (left : ℕ) → counted_part.read bytes ≡ Ok (taken, rest) → ¬ (IsUtf8 taken) → left ≡ length bytes → text_part.read bytes ≡ Err (Bad left)
unfolding text_part
text_refused bytes taken rest left e n is =
    ap (λ (r : FieldRead Bytes). and_read r (λ (a : Bytes) (behind : Bytes). if is_utf8 a then Ok (a, behind) else Err (Bad (length bytes)))) e
    ∙ rw (not_utf8 taken n (is_utf8 taken) refl, is) refl

-- a text that was put behind bytes
pub text_written : {before mid after bytes text : Bytes} → Writes number32_part before (length text) mid → after ≡ mid ++ bytes → bytes ≡ text → IsUtf8 text → Writes text_part before text after
unfolding text_part
text_written {before} {mid} {after} {bytes} {text} count is same u = record {
  bytes = is ∙ ap (λ (z : Bytes). mid ++ z) same ∙ ap (λ (z : Bytes). z ++ text) count.bytes ∙ append_assoc before (number32_part.spelled (length text)) text;
  allowed = and_true (number32_part.allows (length text) && (length text == length text)) (is_utf8 text)
      (and_true (number32_part.allows (length text)) (length text == length text) count.allowed (eq-eqb (length text) (length text) refl)) (is_utf8-from_IsUtf8 text u);
}

-- ---- how long texts are

few_bytes : (t : Bytes) (n : ℕ) → IsTrue (is_utf8 t) → char_count t ≤ n → IsTrue (is_from_one n TEXT_CHARACTERS) → length t < 2 ^ 32
few_bytes t n u few bounds =
    let k : IsTrue (nat_le 1 n) × IsTrue (nat_le n TEXT_CHARACTERS) = both (nat_le 1 n) (nat_le n TEXT_CHARACTERS) bounds in
    let most : n ≤ 1024 = leb-true n 1024 k.1 in
    let le : length t ≤ 4 * char_count t = bytes-le t (IsUtf8-from_is_utf8 t u) in
    omega arith

-- a text of a type in bounds is short
pub text_length : (t : Bytes) (ty : Ty) → IsTrue (in_bounds ty) → IsTrue (fits (Txt t) ty) → length t < 2 ^ 32
text_length t BigInt b h = absurd (let k : false ≡ true = h in cc)
text_length t (DecimalOf p s) b h = absurd (let k : false ≡ true = h in cc)
text_length t (Char n) b h =
    let k : IsTrue (is_utf8 t) × IsTrue (char_count t == n) = both (is_utf8 t) (char_count t == n) h in
    let same : char_count t ≡ n = eqb-true (char_count t) n k.1 in
    few_bytes t n k.0 (omega (arith, same)) b
text_length t (Varchar n) b h =
    let k : IsTrue (is_utf8 t) × IsTrue (nat_le (char_count t) n) = both (is_utf8 t) (nat_le (char_count t) n) h in
    few_bytes t n k.0 (leb-true (char_count t) n k.1) b

named_at : (b : Bool) (lower name : Bytes) (bad : BadName) → cond b (Ok lower) (Err bad) ≡ Ok name → b ≡ true
named_at true lower name bad e = refl
named_at false lower name bad e = absurd cc

-- the five tests of a name
name_tests : (a b c d e : Bool) → IsTrue (a && b && c && d && e) → IsTrue b
name_tests true true c d e h = refl
name_tests true false c d e h = h
name_tests false b c d e h = absurd (let k : false ≡ true = h in cc)

-- a name is short
pub name_length : (name : Bytes) → IsOwnName name → IsUtf8 name → length name < 2 ^ 32
name_length name own u =
    let named : is_name name ≡ true = named_at (is_name name) (map to_ascii_lowercase name) name (record {}) own in
    let few : IsTrue (nat_le (char_count name) NAME_CHARACTERS) =
    name_tests (nat_lt 0 (length name)) (nat_le (char_count name) NAME_CHARACTERS) (list_all is_name_char (chars name)) (not (slice_index name 0 == 32)) (not (slice_index name (length name - 1) == 32)) named in
    let most : char_count name ≤ 64 = leb-true (char_count name) 64 few in
    let le : length name ≤ 4 * char_count name = bytes-le name u in
    omega arith

-- ---- types

-- a type that was read is in bounds
pub type_bounds : (bytes rest : Bytes) (ty : Ty) → type_part.read bytes ≡ Ok (ty, rest) → IsTrue (in_bounds ty)
unfolding type_part
type_bounds bytes rest ty e =
    let a = read_ok {A = Ty} {B = Ty} ((tagged_part type_tag type_alternatives).read bytes) (λ (a : Ty) (behind : Bytes). if in_bounds a then Ok (a, behind) else Err (Bad (length bytes))) (ty, rest) e in
    let k = kept {A = Ty} (in_bounds a.0) (Bad (length bytes)) (a.0, a.1) (ty, rest) a.3 in
    subst (λ (z : Ty × Bytes). IsTrue (in_bounds z.0)) k.1 k.0
