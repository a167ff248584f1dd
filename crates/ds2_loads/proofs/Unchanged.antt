-- Values that go into their slots as they are.
use Rattle.std.proofs.Common.{◌≡◌, ℕ, zero, suc, ◌-◌, ◌^◌, ◌<◌, ◌≤◌, List, [], ◌∷◌, ℤ, pos, ◌*ℤ◌, unsigned_abs, Bool, true, ◌&&◌, Some, refl, sym, ap, ◌∙◌, arith}
use Rattle.std.specs.Prelude.{IsTrue, ◌==◌, nat_le, nat_lt, slice_get}
use Rattle.std.specs.Cmp.{first_so, second_so}
use Rattle.std.specs.Str.{IsUtf8, is_utf8, chars, encode_utf8_all}
use Rattle.std.proofs.lemmas.Int.{ints}
use Rattle.std.proofs.lemmas.Bool.{leb-true, le-leb, ltb-true, lt-ltb, eqb-true}
use Rattle.std.proofs.lemmas.List.{take_all}
use Rattle.std.proofs.lemmas.Str.{encodes-chars, IsUtf8-from_is_utf8}
use Rattle.std.proofs.Math.Nat.{pow-le-pow_right}
use Rattle.ds2_base.specs.Characters.{char_count}
use Rattle.ds2_value.specs.Operations.{or_null_at_fault}
use Rattle.ds2_value.specs.Row.{Row, Columns}
use Rattle.ds2_value.specs.Schema.{row_fits}
use Rattle.ds2_value.specs.Texts.{cut_to}
use Rattle.ds2_value.specs.Types.{fits, assign_of}
use Rattle.ds2_value.specs.Value.{or_null}
use Rattle.ds2_value.specs.declared.schema.Column.{Column}
use Rattle.ds2_value.specs.declared.ty.Ty.{Ty}
use Rattle.ds2_value.specs.declared.ty.Ty.TheVariants as ty
use Rattle.ds2_value.specs.declared.value.Value.{Value}
use Rattle.ds2_value.specs.declared.value.Value.TheVariants.{Null, Int, Dec, Txt}
use Rattle.ds2_value.proofs.CutLemmas.{filled-whole}
use Rattle.ds2_table.specs.Table.{Contents, IsTable, rows_fit, table_value}
use Rattle.ds2_loads.specs.Unchanged.{takes_as_it_is}

-- ---- decimals and texts

-- the units of a decimal at its own scale
own_units : (u : ℤ) (s : ℕ) → u *ℤ pos (10 ^ (s - s)) ≡ u
own_units u s =
    let none : s - s ≡ 0 = omega arith in
    ap (λ (n : ℕ). u *ℤ pos (10 ^ n)) none ∙ omega (arith, ints)

fewer_digits : (u : ℤ) (q p : ℕ) → nat_lt (unsigned_abs u) (10 ^ q) ≡ true → q ≤ p → nat_lt (unsigned_abs u) (10 ^ p) ≡ true
fewer_digits u q p h few =
    let small : unsigned_abs u < 10 ^ q = ltb-true _ _ h in
    let power : 10 ^ q ≤ 10 ^ p = pow-le-pow_right (omega arith) few in
    lt-ltb (unsigned_abs u) (10 ^ p) (omega (arith, small, power))

cut_whole : (n : ℕ) (t : List ℕ) → IsUtf8 t → char_count t ≤ n → cut_to n t ≡ t
cut_whole n t u h = ap encode_utf8_all (take_all n (chars t) h) ∙ encodes-chars t u

text_utf8 : (t : List ℕ) (b : Bool) → (is_utf8 t && b) ≡ true → IsUtf8 t
text_utf8 t b h = IsUtf8-from_is_utf8 t (first_so (is_utf8 t) b h)

char_size : (t : List ℕ) (m : ℕ) → fits (Txt t) (ty.Char m) ≡ true → char_count t ≡ m
char_size t m h = eqb-true (char_count t) m (second_so (is_utf8 t) (char_count t == m) h)

varchar_size : (t : List ℕ) (m : ℕ) → fits (Txt t) (ty.Varchar m) ≡ true → char_count t ≤ m
varchar_size t m h = leb-true (char_count t) m (second_so (is_utf8 t) (nat_le (char_count t) m) h)

-- ---- a value that a type takes as it is

null_as_it_is : (to : Ty) → Null ≡ or_null_at_fault (assign_of Null to)
null_as_it_is ty.BigInt = refl
null_as_it_is (ty.Decimal p s) = refl
null_as_it_is (ty.Char n) = refl
null_as_it_is (ty.Varchar n) = refl

pub as_it_is : (v : Value) (to from : Ty) → IsTrue (fits v from) → takes_as_it_is to from ≡ true → v ≡ or_null_at_fault (assign_of v to)
as_it_is Null to from f h = null_as_it_is to
as_it_is (Int i) ty.BigInt ty.BigInt f h = refl
as_it_is (Int i) (ty.Decimal p s) ty.BigInt f h = absurd cc
as_it_is (Int i) (ty.Char n) ty.BigInt f h = absurd cc
as_it_is (Int i) (ty.Varchar n) ty.BigInt f h = absurd cc
as_it_is (Int i) to (ty.Decimal q t) f h = absurd cc
as_it_is (Int i) to (ty.Char m) f h = absurd cc
as_it_is (Int i) to (ty.Varchar m) f h = absurd cc
as_it_is (Dec d) to ty.BigInt f h = absurd cc
as_it_is (Dec d) ty.BigInt (ty.Decimal q t) f h = absurd cc
as_it_is (Dec d) (ty.Decimal p s) (ty.Decimal q t) f h =
    let own : d.scale ≡ t = eqb-true d.scale t (first_so (d.scale == t) (nat_lt (unsigned_abs d.units) (10 ^ q)) f) in
    let digits : nat_lt (unsigned_abs d.units) (10 ^ q) ≡ true = second_so (d.scale == t) (nat_lt (unsigned_abs d.units) (10 ^ q)) f in
    let few : q ≤ p = leb-true q p (first_so (nat_le q p) (s == t) h) in
    let same : s ≡ t = eqb-true s t (second_so (nat_le q p) (s == t) h) in
    rw (same ∙ sym own, le-leb d.scale d.scale (omega arith), own_units d.units d.scale, fewer_digits d.units q p digits few) refl
as_it_is (Dec d) (ty.Char n) (ty.Decimal q t) f h = absurd cc
as_it_is (Dec d) (ty.Varchar n) (ty.Decimal q t) f h = absurd cc
as_it_is (Dec d) to (ty.Char m) f h = absurd cc
as_it_is (Dec d) to (ty.Varchar m) f h = absurd cc
as_it_is (Txt x) to ty.BigInt f h = absurd cc
as_it_is (Txt x) to (ty.Decimal q t) f h = absurd cc
as_it_is (Txt x) ty.BigInt (ty.Char m) f h = absurd cc
as_it_is (Txt x) (ty.Decimal p s) (ty.Char m) f h = absurd cc
as_it_is (Txt x) (ty.Char n) (ty.Char m) f h =
    let size : n ≡ m = eqb-true n m h in
    ap Txt (filled-whole n x (text_utf8 x (char_count x == m) f) (char_size x m f ∙ sym size))
as_it_is (Txt x) (ty.Varchar n) (ty.Char m) f h =
    let room : m ≤ n = leb-true m n h in
    let size = char_size x m f in
    ap Txt (sym (cut_whole n x (text_utf8 x (char_count x == m) f) (omega (arith, room, size))))
as_it_is (Txt x) ty.BigInt (ty.Varchar m) f h = absurd cc
as_it_is (Txt x) (ty.Decimal p s) (ty.Varchar m) f h = absurd cc
as_it_is (Txt x) (ty.Char n) (ty.Varchar m) f h = absurd cc
as_it_is (Txt x) (ty.Varchar n) (ty.Varchar m) f h =
    let room : m ≤ n = leb-true m n h in
    let size = varchar_size x m f in
    ap Txt (sym (cut_whole n x (text_utf8 x (nat_le (char_count x) m) f) (omega (arith, room, size))))

-- ---- a value of a table is of its column's type

value_in_row_fits : (row : Row) (columns : Columns) (i : ℕ) (c : Column) → row_fits row columns ≡ true → slice_get columns i ≡ Some c → IsTrue (fits (or_null (slice_get row i)) c.ty)
value_in_row_fits [] columns i c f e = refl
value_in_row_fits (v ∷ vs) [] i c f e = absurd cc
value_in_row_fits (v ∷ vs) (d ∷ ds) zero c f e =
    let same : d ≡ c = cc in
    rw (sym same) (first_so (fits v d.ty) (row_fits vs ds) f)
value_in_row_fits (v ∷ vs) (d ∷ ds) (suc i) c f e = value_in_row_fits vs ds i c (second_so (fits v d.ty) (row_fits vs ds) f) e

value_in_rows_fits : (rows : List Row) (columns : Columns) (row i : ℕ) (c : Column) → rows_fit rows columns ≡ true → slice_get columns i ≡ Some c → IsTrue (fits (table_value rows row i) c.ty)
value_in_rows_fits [] columns row i c f e = refl
value_in_rows_fits (x ∷ rows) columns zero i c f e = value_in_row_fits x columns i c (first_so (row_fits x columns) (rows_fit rows columns) f) e
value_in_rows_fits (x ∷ rows) columns (suc row) i c f e = value_in_rows_fits rows columns row i c (second_so (row_fits x columns) (rows_fit rows columns) f) e

pub table_value_fits : (t : Contents) (row i : ℕ) (c : Column) → IsTable t → slice_get t.columns i ≡ Some c → IsTrue (fits (table_value t.rows row i) c.ty)
table_value_fits t row i c is e = value_in_rows_fits t.rows t.columns row i c is.rows e
