-- Texts: what operations on them give is UTF-8, and of a length that their types allow.
use Rattle.std.proofs.Common.{◌≡◌, ℕ, zero, suc, ◌+◌, ◌^◌, ◌<◌, ◌≤◌, min, Bool, true, false, List, [], ◌∷◌, ◌++◌, length, take, drop, Result, Ok, Err, ℤ, pos, negsuc, unsigned_abs, refl, sym, ap, ◌∙◌, subst, arith, lit<, inl, inr}
use Rattle.std.specs.Prelude.{IsTrue, if◌then◌else◌, nat_le, ◌==◌, ◌/◌, ◌%◌, codes, int_lt}
use Rattle.std.specs.Fmt.{decimal, signed_decimal}
use Rattle.std.specs.Str.{chars, IsUtf8, is_utf8, IsAscii, encode_utf8_all}
use Rattle.std.proofs.Math.Nat.{div-le_self}
use Rattle.std.proofs.Math.Utf8.{scalars, scalar}
use Rattle.std.proofs.lemmas.Bool.{leb-true, le-leb, ltb-true, lt-ltb, eqb-true, cases_Bool}
use Rattle.std.proofs.lemmas.Fmt.{IsAscii-signed, IsAscii-decimal_wide, length_signed_le, length-decimal-le_wide}
use Rattle.std.proofs.lemmas.List.{length-append, length-take, length-drop, append-nil}
use Rattle.std.proofs.lemmas.Nat.{mod_below}
use Rattle.std.proofs.lemmas.Str.Ascii.{IsAscii-nil}
use Rattle.std.proofs.lemmas.Str.{chars-encodes, chars-append, chars-IsAscii, scalars-chars, IsUtf8-append, IsUtf8-from_ascii, IsUtf8-from_is_utf8, is_utf8-from_IsUtf8, IsAscii-append}
use Rattle.ds2_base.specs.Bytes.{Bytes}
use Rattle.ds2_base.specs.Characters.{char_count}
use Rattle.ds2_decimal.specs.Decimal.{Decimal, IsDecimal}
use Rattle.ds2_decimal.specs.Text.{last_digits, written_magnitude, decimal_text}
use Rattle.ds2_value.specs.Functions.{length_of, trim_of, concat_of, part_of, substr_of}
use Rattle.ds2_value.specs.Keeping.{IsHeld}
use Rattle.ds2_value.specs.Operations.{line_value}
use Rattle.ds2_value.specs.Row.{Row}
use Rattle.ds2_value.specs.Texts.{cut_to, after_characters, trimmed, without_blanks, unless_blank}
use Rattle.ds2_value.specs.Types.{in_bounds, is_from_one, fits}
use Rattle.ds2_value.specs.Value.{fits_bigint}
use Rattle.ds2_value.specs.declared.fault.Fault.{Fault}
use Rattle.ds2_value.specs.declared.fault.Fault.TheVariants.{Range}
use Rattle.ds2_value.specs.declared.ty.TheConstants.{TEXT_CHARACTERS}
use Rattle.ds2_value.specs.declared.ty.Ty.{Ty}
use Rattle.ds2_value.specs.declared.ty.Ty.TheVariants.{BigInt, Decimal as DecimalOf, Char, Varchar}
use Rattle.ds2_value.specs.declared.value.Value.{Value}
use Rattle.ds2_value.specs.declared.value.Value.TheVariants.{Null, Int, Dec, Txt}
use Rattle.ds2_value.specs.ValueFunctions.{text_length, is_text_type}
use Rattle.ds2_code.specs.Fitting.{is_of_type, AreOfTypes}
use Rattle.ds2_code.proofs.FittingLists.{both, and_true, value_fits, type_bounds}

-- ---- characters

scalars-take : (n : ℕ) (cs : List ℕ) → scalars cs ≡ true → scalars (take n cs) ≡ true
scalars-take zero cs h = refl
scalars-take (suc n) [] h = refl
scalars-take (suc n) (c ∷ cs) h = let k = both (scalar c) (scalars cs) h in and_true (scalar c) (scalars (take n cs)) k.0 (scalars-take n cs k.1)

scalars-drop : (n : ℕ) (cs : List ℕ) → scalars cs ≡ true → scalars (drop n cs) ≡ true
scalars-drop zero cs h = h
scalars-drop (suc n) [] h = refl
scalars-drop (suc n) (c ∷ cs) h = scalars-drop n cs ((both (scalar c) (scalars cs) h).1)

scalars-kept : (cs : List ℕ) → scalars cs ≡ true → scalars (without_blanks cs) ≡ true
unfolding without_blanks
scalars-kept [] h = refl
scalars-kept (c ∷ cs) h = let k = both (scalar c) (scalars cs) h in before c (without_blanks cs) k.0 (scalars-kept cs k.1)
  where
    before : (c : ℕ) (ds : List ℕ) → scalar c ≡ true → scalars ds ≡ true → scalars (unless_blank c ds) ≡ true
    before c [] h k = elim (cases_Bool (c == 32)) [ inl on ↦ rw on refl | inr off ↦ rw (off, h) refl ]
    before c (d ∷ ds) h k = rw h k

fewer : (cs : List ℕ) → length (without_blanks cs) ≤ length cs
unfolding without_blanks
fewer [] = omega arith
fewer (c ∷ cs) = before c (without_blanks cs) (fewer cs)
  where
    before : (c : ℕ) (ds : List ℕ) → length ds ≤ length cs → length (unless_blank c ds) ≤ length (c ∷ cs)
    before c [] h = elim (cases_Bool (c == 32)) [ inl on ↦ rw on (omega arith) | inr off ↦ rw off (omega arith) ]
    before c (d ∷ ds) h = omega arith

-- a text in UTF-8 of at most so many characters
abbrev pub IsTextUpTo : ℕ → Bytes → Type 0
IsTextUpTo n t = IsUtf8 t × (char_count t ≤ n)

spelled : (cs : List ℕ) (n : ℕ) → scalars cs ≡ true → length cs ≤ n → IsTextUpTo n (encode_utf8_all cs)
spelled cs n h k = ((cs, (h, refl)), subst (λ (z : List ℕ). length z ≤ n) (sym (chars-encodes cs h)) k)

pub cut_text : (m n : ℕ) (t : Bytes) → IsTextUpTo n t → IsTextUpTo (min m n) (cut_to m t)
cut_text m n t h = spelled (take m (chars t)) (min m n) (scalars-take m (chars t) (scalars-chars t h.0)) (omega (arith, length-take m (chars t), h.1))

pub after_text : (m n : ℕ) (t : Bytes) → IsTextUpTo n t → IsTextUpTo n (after_characters m t)
after_text m n t h = spelled (drop m (chars t)) n (scalars-drop m (chars t) (scalars-chars t h.0)) (omega (arith, length-drop m (chars t), h.1))

pub trimmed_text : (n : ℕ) (t : Bytes) → IsTextUpTo n t → IsTextUpTo n (trimmed t)
trimmed_text n t h = spelled (without_blanks (chars t)) n (scalars-kept (chars t) (scalars-chars t h.0)) (omega (arith, fewer (chars t), h.1))

pub joined_text : (m n : ℕ) (a b : Bytes) → IsTextUpTo m a → IsTextUpTo n b → IsTextUpTo (m + n) (a ++ b)
joined_text m n a b h k =
    let all : length (chars (a ++ b)) ≡ length (chars a) + length (chars b) = ap length (chars-append a b h.0) ∙ length-append (chars a) (chars b) in
    let few : length (chars a) + length (chars b) ≤ m + n = omega (arith, h.1, k.1) in
    (IsUtf8-append a b h.0 k.0, subst (λ (z : ℕ). z ≤ m + n) (sym all) few)

pub ascii_text : (n : ℕ) (t : Bytes) → IsAscii t → length t ≤ n → IsTextUpTo n t
ascii_text n t h k = (IsUtf8-from_ascii t h, subst (λ (z : List ℕ). length z ≤ n) (sym (chars-IsAscii t h)) k)

pub fewer_characters : (m n : ℕ) (t : Bytes) → m ≤ n → IsTextUpTo m t → IsTextUpTo n t
fewer_characters m n t h k = (k.0, omega (arith, h, k.1))

-- ---- texts of types

pub text_of_varchar : (n : ℕ) (t : Bytes) → IsTextUpTo n t → fits (Txt t) (Varchar n) ≡ true
text_of_varchar n t h = and_true (is_utf8 t) (nat_le (char_count t) n) (is_utf8-from_IsUtf8 t h.0) (le-leb (char_count t) n h.1)

-- a text of a type is no longer than the type allows
pub text_of_type : (t : Bytes) (ty : Ty) → IsTrue (is_of_type (Txt t) ty) → IsTextUpTo (text_length ty) t
text_of_type t BigInt h = absurd (let e : false ≡ true = h in cc)
text_of_type t (DecimalOf p s) h = absurd (let e : false ≡ true = h in cc)
text_of_type t (Char n) h =
    let k = both (is_utf8 t) (char_count t == n) (value_fits (Txt t) (Char n) h) in
    let e = eqb-true (char_count t) n k.1 in
    let few : char_count t ≤ n = omega (arith, e) in
    (IsUtf8-from_is_utf8 t k.0, few)
text_of_type t (Varchar n) h =
    let k = both (is_utf8 t) (nat_le (char_count t) n) (value_fits (Txt t) (Varchar n) h) in
    (IsUtf8-from_is_utf8 t k.0, leb-true (char_count t) n k.1)

from_one : (n : ℕ) → is_from_one n TEXT_CHARACTERS ≡ true → (1 ≤ n) × (n ≤ 1024)
from_one n h = let k = both (nat_le 1 n) (nat_le n TEXT_CHARACTERS) h in (leb-true 1 n k.0, leb-true n 1024 k.1)

-- how long texts of a type in bounds are
pub text_bounds : (ty : Ty) → in_bounds ty ≡ true → is_text_type ty ≡ true → (1 ≤ text_length ty) × (text_length ty ≤ 1024)
text_bounds BigInt h k = absurd cc
text_bounds (DecimalOf p s) h k = absurd cc
text_bounds (Char n) h k = from_one n h
text_bounds (Varchar n) h k = from_one n h

text_limit : (ty : Ty) → in_bounds ty ≡ true → text_length ty ≤ 1024
text_limit BigInt h = omega arith
text_limit (DecimalOf p s) h = omega arith
text_limit (Char n) h = (from_one n h).1
text_limit (Varchar n) h = (from_one n h).1

pub varchar_bounds : (n : ℕ) → 1 ≤ n → n ≤ 1024 → in_bounds (Varchar n) ≡ true
varchar_bounds n h k = and_true (nat_le 1 n) (nat_le n TEXT_CHARACTERS) (le-leb 1 n h) (le-leb n 1024 k)

-- the type of a part of a text is in bounds
pub part_bounds : (ty : Ty) → in_bounds ty ≡ true → is_text_type ty ≡ true → in_bounds (Varchar (text_length ty)) ≡ true
part_bounds ty h k = let b = text_bounds ty h k in varchar_bounds (text_length ty) b.0 b.1

-- ---- operations

small_count : (n : ℕ) → n ≤ 1024 → fits_bigint (pos n) ≡ true
small_count n h = lt-ltb n (2 ^ 63) (omega (arith, h))

pub length_fits : (vs : Row) (ts : List Ty) → AreOfTypes vs ts → fits (length_of vs) BigInt ≡ true
length_fits [] ts h = refl
length_fits (Null ∷ []) ts h = refl
length_fits (Int i ∷ []) ts h = refl
length_fits (Dec d ∷ []) ts h = refl
length_fits (Txt t ∷ []) [] h = absurd h
length_fits (Txt t ∷ []) (ty ∷ ts) h =
    let held = text_of_type t ty h.0 in
    let limit = text_limit ty (type_bounds (Txt t) ty h.0) in
    small_count (length (without_blanks (chars t))) (omega (arith, fewer (chars t), held.1, limit))
length_fits (Null ∷ b ∷ vs) ts h = refl
length_fits (Int i ∷ b ∷ vs) ts h = refl
length_fits (Dec d ∷ b ∷ vs) ts h = refl
length_fits (Txt t ∷ b ∷ vs) ts h = refl

pub trim_fits : (vs : Row) (ty : Ty) (more : List Ty) → AreOfTypes vs (ty ∷ more) → fits (trim_of vs) (Varchar (text_length ty)) ≡ true
trim_fits [] ty more h = absurd h
trim_fits (Null ∷ []) ty more h = refl
trim_fits (Int i ∷ []) ty more h = refl
trim_fits (Dec d ∷ []) ty more h = refl
trim_fits (Txt t ∷ []) ty more h = text_of_varchar (text_length ty) (trimmed t) (trimmed_text (text_length ty) t (text_of_type t ty h.0))
trim_fits (Null ∷ b ∷ vs) ty more h = refl
trim_fits (Int i ∷ b ∷ vs) ty more h = refl
trim_fits (Dec d ∷ b ∷ vs) ty more h = refl
trim_fits (Txt t ∷ b ∷ vs) ty more h = refl

-- a part of a text, or a fault
abbrev pub IsPart : ℕ → Result Value Fault → Type 0
IsPart n (Ok v) = fits v (Varchar n) ≡ true
IsPart n (Err fault) = Unit {0}

part_by : (b : Bool) (n : ℕ) (v : Value) → fits v (Varchar n) ≡ true → IsPart n (if b then Ok v else Err Range)
part_by true n v h = h
part_by false n v h = tt

part_fits : (n : ℕ) (t : Bytes) (i k : ℤ) → IsTextUpTo n t → IsPart n (part_of t i k)
part_fits n t (pos zero) k h = tt
part_fits n t (pos (suc i)) (pos k) h =
    let few : min k n ≤ n = omega arith in
    part_by (nat_le i (char_count t)) n (Txt (cut_to k (after_characters i t)))
    (text_of_varchar n (cut_to k (after_characters i t)) (fewer_characters (min k n) n (cut_to k (after_characters i t)) few (cut_text k n (after_characters i t) (after_text i n t h))))
part_fits n t (pos (suc i)) (negsuc k) h = tt
part_fits n t (negsuc i) k h = tt

pub substr_fits : (vs : Row) (ty : Ty) (more : List Ty) → AreOfTypes vs (ty ∷ more) → IsPart (text_length ty) (substr_of vs)
substr_fits [] ty more h = absurd h
substr_fits (Null ∷ vs) ty more h = refl
substr_fits (Int i ∷ vs) ty more h = refl
substr_fits (Dec d ∷ vs) ty more h = refl
substr_fits (Txt t ∷ []) ty more h = refl
substr_fits (Txt t ∷ Null ∷ vs) ty more h = refl
substr_fits (Txt t ∷ Dec d ∷ vs) ty more h = refl
substr_fits (Txt t ∷ Txt u ∷ vs) ty more h = refl
substr_fits (Txt t ∷ Int i ∷ []) ty more h = part_fits (text_length ty) t i (pos (char_count t)) (text_of_type t ty h.0)
substr_fits (Txt t ∷ Int i ∷ Null ∷ vs) ty more h = refl
substr_fits (Txt t ∷ Int i ∷ Dec d ∷ vs) ty more h = refl
substr_fits (Txt t ∷ Int i ∷ Txt u ∷ vs) ty more h = refl
substr_fits (Txt t ∷ Int i ∷ Int k ∷ []) ty more h = part_fits (text_length ty) t i k (text_of_type t ty h.0)
substr_fits (Txt t ∷ Int i ∷ Int k ∷ v ∷ vs) ty more h = refl

both_joined : (m n : ℕ) (a b : Bytes) → IsTextUpTo m a → IsTextUpTo n b → fits (Txt (cut_to TEXT_CHARACTERS (a ++ (b ++ [])))) (Varchar (min TEXT_CHARACTERS (m + n))) ≡ true
both_joined m n a b h k =
    text_of_varchar (min TEXT_CHARACTERS (m + n)) (cut_to TEXT_CHARACTERS (a ++ (b ++ [])))
    (cut_text TEXT_CHARACTERS (m + n) (a ++ (b ++ [])) (joined_text m n a (b ++ []) h (subst (λ (z : Bytes). IsTextUpTo n z) (sym (append-nil b)) k)))

pub concat_fits : (vs : Row) (t u : Ty) → AreOfTypes vs (t ∷ u ∷ []) → fits (concat_of vs) (Varchar (min TEXT_CHARACTERS (text_length t + text_length u))) ≡ true
concat_fits [] t u h = absurd h
concat_fits (v ∷ []) t u h = absurd h.1
concat_fits (Null ∷ w ∷ []) t u h = refl
concat_fits (Int i ∷ w ∷ []) t u h = refl
concat_fits (Dec d ∷ w ∷ []) t u h = refl
concat_fits (Txt a ∷ Null ∷ []) t u h = refl
concat_fits (Txt a ∷ Int i ∷ []) t u h = refl
concat_fits (Txt a ∷ Dec d ∷ []) t u h = refl
concat_fits (Txt a ∷ Txt b ∷ []) t u h = both_joined (text_length t) (text_length u) a b (text_of_type a t h.0) (text_of_type b u h.1.0)
concat_fits (v ∷ w ∷ x ∷ vs) t u h = absurd h.1.1

-- ---- the texts of values

last_ascii : (k n : ℕ) → IsAscii (last_digits k n)
last_ascii zero n = IsAscii-nil
last_ascii (suc k) n =
    let digit : IsAscii ((48 + n % 10) ∷ []) = one_ascii (48 + n % 10) (let m : n % 10 < 10 = mod_below n 10 (lit< tt) in omega (arith, m)) in
    IsAscii-append (last_digits k (n / 10)) ((48 + n % 10) ∷ []) (last_ascii k (n / 10)) digit
  where
    one_ascii : (c : ℕ) → c < 128 → IsAscii (c ∷ [])
    one_ascii c h zero = h
    one_ascii c h (suc i) = IsAscii-nil i

last_length : (k n : ℕ) → length (last_digits k n) ≡ k
last_length zero n = refl
last_length (suc k) n = length-append (last_digits k (n / 10)) ((48 + n % 10) ∷ []) ∙ omega (arith, last_length k (n / 10))

cons_ascii : (c : ℕ) (cs : List ℕ) → c < 128 → IsAscii cs → IsAscii (c ∷ cs)
cons_ascii c cs h k zero = h
cons_ascii c cs h k (suc i) = k i

-- at most 100 bytes, each of them ASCII
abbrev IsShortText : List ℕ → Type 0
IsShortText t = IsAscii t × (length t ≤ 100)

short_decimal : (n : ℕ) → n < 10 ^ 38 → IsAscii (decimal n) × (length (decimal n) ≤ 38)
short_decimal n h = (IsAscii-decimal_wide n (omega (arith, h)), length-decimal-le_wide 38 n (lit< tt) h (omega (arith, h)))

magnitude_short : (n s : ℕ) → n < 10 ^ 38 → s ≤ 38 → IsAscii (written_magnitude n s) × (length (written_magnitude n s) ≤ 99)
magnitude_short n s h k = by (s == 0)
  where
    by : (b : Bool) → IsAscii (if b then decimal n else decimal (n / 10 ^ s) ++ 46 ∷ last_digits s n) × (length (if b then decimal n else decimal (n / 10 ^ s) ++ 46 ∷ last_digits s n) ≤ 99)
    by true = let d = short_decimal n h in (d.0, omega (arith, d.1))
    by false =
        let less : n / 10 ^ s ≤ n = div-le_self n (10 ^ s) in
        let d = short_decimal (n / 10 ^ s) (omega (arith, less, h)) in
        let long = length-append (decimal (n / 10 ^ s)) (46 ∷ last_digits s n) in
        let last = last_length s n in
        (IsAscii-append (decimal (n / 10 ^ s)) (46 ∷ last_digits s n) d.0 (cons_ascii 46 (last_digits s n) (lit< tt) (last_ascii s n)), omega (arith, long, last, d.1, k))

sign_short : (b : Bool) (t : List ℕ) → IsAscii t → length t ≤ 99 → IsShortText ((if b then 45 ∷ [] else []) ++ t)
sign_short true t h k = (cons_ascii 45 t (lit< tt) h, omega (arith, k))
sign_short false t h k = (h, omega (arith, k))

decimal_short : (d : Decimal) → IsDecimal d → IsShortText (decimal_text d)
decimal_short d h =
    let m = magnitude_short (unsigned_abs d.units) d.scale (ltb-true (unsigned_abs d.units) (10 ^ 38) h.digits) h.scale_bound in
    sign_short (int_lt d.units (pos 0)) (written_magnitude (unsigned_abs d.units) d.scale) m.0 m.1

signed_short : (i : ℤ) → fits_bigint i ≡ true → IsShortText (signed_decimal i)
signed_short (pos n) h =
    let k : n < 2 ^ 63 = ltb-true n (2 ^ 63) h in
    (IsAscii-signed (pos n) k, let l = length_signed_le 30 (pos n) (omega (arith, k)) k in omega (arith, l))
signed_short (negsuc n) h =
    let k : n < 2 ^ 63 = ltb-true n (2 ^ 63) h in
    (IsAscii-signed (negsuc n) k, let l = length_signed_le 30 (negsuc n) (omega (arith, k)) k in omega (arith, l))

word_ascii : IsAscii (codes "null")
word_ascii zero = lit< tt
word_ascii (suc zero) = lit< tt
word_ascii (suc (suc zero)) = lit< tt
word_ascii (suc (suc (suc zero))) = lit< tt
word_ascii (suc (suc (suc (suc i)))) = IsAscii-nil i

short_line : (t : List ℕ) → IsShortText t → fits (Txt t) (Varchar TEXT_CHARACTERS) ≡ true
short_line t h = text_of_varchar 1024 t (ascii_text 1024 t h.0 (omega (arith, h.1)))

pub line_fits : (v : Value) → IsHeld v → fits (line_value v) (Varchar TEXT_CHARACTERS) ≡ true
line_fits Null h = short_line (codes "null") (word_ascii, leb-true (length (codes "null")) 100 refl)
line_fits (Int i) h = short_line (signed_decimal i) (signed_short i h)
line_fits (Dec d) h = short_line (decimal_text d) (decimal_short d h)
line_fits (Txt t) h =
    let n = char_count t in
    let all : IsTextUpTo n t = (h, omega arith) in
    let few : min TEXT_CHARACTERS n ≤ 1024 = omega arith in
    text_of_varchar 1024 (cut_to TEXT_CHARACTERS (trimmed t)) (fewer_characters (min TEXT_CHARACTERS n) 1024 (cut_to TEXT_CHARACTERS (trimmed t)) few (cut_text TEXT_CHARACTERS n (trimmed t) (trimmed_text n t all)))
