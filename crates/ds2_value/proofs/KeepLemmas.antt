-- Assignment keeps the values of a type that the other type takes.
use Rattle.std.proofs.Common.{◌≡◌, ℕ, ◌+◌, ◌-◌, ◌*◌, ◌^◌, ◌<◌, ◌≤◌, List, ◌++◌, length, ℤ, pos, negsuc, ◌*ℤ◌, unsigned_abs, refl, sym, ap, ◌∙◌, arith, true}
use Rattle.std.specs.Prelude.{IsTrue, Bool, false, ◌&&◌, if◌then◌else◌, Result, Ok, Err, replicate, nat_le, ◌==◌}
use Rattle.std.specs.Cmp.{first_so, second_so, tied_itself}
use Rattle.std.specs.Cmp.Lexicographic.{nat_list_cmp_total}
use Rattle.std.specs.Ordering.{int_cmp, is_eq}
use Rattle.std.specs.Str.{chars, IsUtf8, is_utf8, encode_utf8_all}
use Rattle.std.specs.declared.cmp.Ordering.TheVariants.{Equal}
use Rattle.std.proofs.lemmas.Bool.{leb-true, le-leb, ltb-true, lt-ltb, eqb-true, eq-eqb}
use Rattle.std.proofs.lemmas.Cmp.{int_cmp_total}
use Rattle.std.proofs.lemmas.List.{take_all, append-nil, length-append, length-replicate}
use Rattle.std.proofs.lemmas.Str.{encodes-chars, chars-append, IsUtf8-from_is_utf8}
use Rattle.std.proofs.lemmas.Nat.{pow-add}
use Rattle.std.proofs.Math.Nat.{pow-le-pow_right, one-le-pow, mul-lt-mul_of_pos_right}
use Rattle.ds2_base.specs.Characters.{char_count}
use Rattle.ds2_decimal.specs.Arithmetic.{rescale, within}
use Rattle.ds2_decimal.specs.declared.dec.DecFault.TheVariants.{Overflow}
use Rattle.ds2_decimal.specs.Decimal.{Decimal, value, units_at, is_within}
use Rattle.ds2_decimal.specs.Rounding.{round}
use Rattle.ds2_value.specs.Keeping.{FittingIsHeld, AssignedFits, AssignKeeps}
use Rattle.ds2_value.specs.Order.{value_eq}
use Rattle.ds2_value.specs.Texts.{padded_cmp, text_cmp, cut_to, filled_to}
use Rattle.ds2_value.specs.Types.{in_bounds, is_from_one, fits, takes, assign_of, decimal_value}
use Rattle.ds2_value.specs.Value.{fits_bigint}
use Rattle.ds2_value.specs.ValueLaws.{value_equiv}
use Rattle.ds2_value.specs.declared.fault.Fault.{Fault}
use Rattle.ds2_value.specs.declared.ty.Ty.{Ty}
use Rattle.ds2_value.specs.declared.ty.Ty.TheVariants as ty
use Rattle.ds2_value.specs.declared.value.Value.{Value}
use Rattle.ds2_value.specs.declared.value.Value.TheVariants.{Null, Int, Dec, Txt}
use Rattle.ds2_value.proofs.CutLemmas.{filled-is, chars-blanks, fits-filled, fits-cut}
use Rattle.ds2_value.proofs.IntegerLemmas.{times_twice}
use Rattle.ds2_value.proofs.LowestLemmas.{abs-times}
use Rattle.ds2_value.proofs.OrderLemmas.{order-int-dec, order-decs, order-texts}

abbrev Kept : Value → Ty → Type 0
Kept v c = (w : Value) × (assign_of v c ≡ Ok w) × IsTrue (value_eq v w)

abbrev blank : ℕ
blank = 32

itself : (v : Value) (c : Ty) → assign_of v c ≡ Ok v → Kept v c
itself v c e = (v, e, value_equiv.refl v)

-- the units of a decimal at a scale that is no less
abbrev raised : Decimal → ℕ → Decimal
raised d s = record { units = units_at s d; scale = s }

units-within : (d : Decimal) (q p s : ℕ) → unsigned_abs d.units < 10 ^ q → d.scale ≤ s → q + s ≤ p + d.scale → is_within p (units_at s d) ≡ true
units-within d q p s small below room =
    let k = 10 ^ (s - d.scale) in
    let some : 0 < 10 ^ (s - d.scale) = one-le-pow (s - d.scale) 10 (omega arith) in
    let larger : unsigned_abs d.units * 10 ^ (s - d.scale) < 10 ^ q * 10 ^ (s - d.scale) = mul-lt-mul_of_pos_right small some in
    let power : 10 ^ q * 10 ^ (s - d.scale) ≡ 10 ^ (q + (s - d.scale)) = sym (pow-add 10 q (s - d.scale)) in
    let fewer : 10 ^ (q + (s - d.scale)) ≤ 10 ^ p = pow-le-pow_right (omega arith) (omega arith) in
    let all : unsigned_abs d.units * 10 ^ (s - d.scale) < 10 ^ p = omega (arith, larger, power, fewer) in
    lt-ltb (unsigned_abs (units_at s d)) (10 ^ p) (rw (abs-times d.units (10 ^ (s - d.scale)) some) all)

rescaled : (d : Decimal) (q p s : ℕ) → unsigned_abs d.units < 10 ^ q → d.scale ≤ s → q + s ≤ p + d.scale → rescale p s d ≡ Ok (raised d s)
rescaled d q p s small below room = rw (le-leb d.scale s below, units-within d q p s small below room) refl

same-value : (d : Decimal) (s : ℕ) → d.scale ≤ s → s ≤ 38 → value d ≡ value (raised d s)
same-value d s below few =
    let sum : (s - d.scale) + (38 - s) ≡ 38 - d.scale = omega arith in
    let factor : 10 ^ (s - d.scale) * 10 ^ (38 - s) ≡ 10 ^ (38 - d.scale) = sym (pow-add 10 (s - d.scale) (38 - s)) ∙ ap (λ (n : ℕ). 10 ^ n) sum in
    sym (times_twice d.units (10 ^ (s - d.scale)) (10 ^ (38 - s)) ∙ ap (λ (n : ℕ). d.units *ℤ pos n) factor)

equal-ints : (x y : ℤ) → x ≡ y → IsTrue (is_eq (int_cmp x y))
equal-ints x y e = rw e (ap is_eq (tied_itself int_cmp_total y))

dec-kept : (d : Decimal) (q p s : ℕ) → unsigned_abs d.units < 10 ^ q → d.scale ≤ s → q + s ≤ p + d.scale → s ≤ 38 → Kept (Dec d) (ty.Decimal p s)
dec-kept d q p s small below room few =
    (Dec (raised d s), ap decimal_value (rescaled d q p s small below room), rw (order-decs d (raised d s)) (equal-ints _ _ (same-value d s below few)))

int-kept : (i : ℤ) (p s : ℕ) → unsigned_abs i < 10 ^ 19 → 19 + s ≤ p → s ≤ 38 → Kept (Int i) (ty.Decimal p s)
int-kept i p s small room few =
    let d : Decimal = record { units = i; scale = 0 } in
    (Dec (raised d s), ap decimal_value (rescaled d 19 p s small (omega arith) (omega arith)), rw (order-int-dec i (raised d s)) (equal-ints _ _ (same-value d s (omega arith) few)))

bigint-small : (i : ℤ) → IsTrue (fits_bigint i) → unsigned_abs i < 10 ^ 19
bigint-small (pos n) h = let b = ltb-true n (2 ^ 63) h in omega (arith, b)
bigint-small (negsuc n) h = let b = ltb-true n (2 ^ 63) h in omega (arith, b)

-- blanks at the end are no difference
same-text : (cs : List ℕ) (n : ℕ) → padded_cmp cs (cs ++ replicate n blank) ≡ Equal
unfolding padded_cmp
same-text cs n =
    let size : length (cs ++ replicate n blank) ≡ length cs + n = length-append cs (replicate n blank) ∙ ap (λ (m : ℕ). length cs + m) (length-replicate n blank) in
    let more : length (cs ++ replicate n blank) - length cs ≡ n = omega (arith, size) in
    let none : length cs - length (cs ++ replicate n blank) ≡ 0 = omega (arith, size) in
    rw (more, none, append-nil (cs ++ replicate n blank)) (tied_itself nat_list_cmp_total (cs ++ replicate n blank))

cut-all : (n : ℕ) (t : List ℕ) → IsUtf8 t → char_count t ≤ n → cut_to n t ≡ t
cut-all n t u h = ap encode_utf8_all (take_all n (chars t) h) ∙ encodes-chars t u

filled-all : (n : ℕ) (t : List ℕ) → IsUtf8 t → char_count t ≤ n → filled_to n t ≡ t ++ replicate (n - char_count t) blank
filled-all n t u h = sym (filled-is n t u) ∙ rw (cut-all n t u h) refl

same-filled : (n : ℕ) (t : List ℕ) → IsUtf8 t → char_count t ≤ n → text_cmp t (filled_to n t) ≡ Equal
same-filled n t u h =
    rw (filled-all n t u h, chars-append t (replicate (n - char_count t) blank) u, chars-blanks (n - char_count t)) (same-text (chars t) (n - char_count t))

char-kept : (n : ℕ) (t : List ℕ) → IsUtf8 t → char_count t ≤ n → Kept (Txt t) (ty.Char n)
char-kept n t u h = (Txt (filled_to n t), refl, rw (order-texts t (filled_to n t)) (ap is_eq (same-filled n t u h)))

varchar-kept : (n : ℕ) (t : List ℕ) → IsUtf8 t → char_count t ≤ n → Kept (Txt t) (ty.Varchar n)
varchar-kept n t u h = itself (Txt t) (ty.Varchar n) (rw (cut-all n t u h) refl)

scale-few : (p s : ℕ) → IsTrue (in_bounds (ty.Decimal p s)) → s ≤ 38
scale-few p s h =
    let all = first_so (is_from_one p 38) (nat_le s p) h in
    let digits = leb-true p 38 (second_so (nat_le 1 p) (nat_le p 38) all) in
    let below = leb-true s p (second_so (is_from_one p 38) (nat_le s p) h) in
    omega (arith, digits, below)

-- the parts of what a value of a type is
text-held : (x : List ℕ) (b : Bool) → IsTrue (is_utf8 x && b) → IsUtf8 x
text-held x b f = IsUtf8-from_is_utf8 x (first_so (is_utf8 x) b f)

char-size : (x : List ℕ) (m : ℕ) → IsTrue (fits (Txt x) (ty.Char m)) → char_count x ≡ m
char-size x m f = eqb-true (char_count x) m (second_so (is_utf8 x) (char_count x == m) f)

varchar-size : (x : List ℕ) (m : ℕ) → IsTrue (fits (Txt x) (ty.Varchar m)) → char_count x ≤ m
varchar-size x m f = leb-true (char_count x) m (second_so (is_utf8 x) (nat_le (char_count x) m) f)

digits-few : (p s : ℕ) → IsTrue (in_bounds (ty.Decimal p s)) → p ≤ 38
digits-few p s h = leb-true p 38 (second_so (nat_le 1 p) (nat_le p 38) (first_so (is_from_one p 38) (nat_le s p) h))

pub fitting-held : FittingIsHeld
fitting-held Null a b f = tt
fitting-held (Int i) ty.BigInt b f = f
fitting-held (Int i) (ty.Decimal q r) b f = cc
fitting-held (Int i) (ty.Char m) b f = cc
fitting-held (Int i) (ty.Varchar m) b f = cc
fitting-held (Dec d) ty.BigInt b f = cc
fitting-held (Dec d) (ty.Decimal q r) b f =
    let scale : d.scale ≡ r = eqb-true d.scale r (first_so (d.scale == r) (is_within q d.units) f) in
    let small : unsigned_abs d.units < 10 ^ q = ltb-true _ _ (second_so (d.scale == r) (is_within q d.units) f) in
    let fewer : 10 ^ q ≤ 10 ^ 38 = pow-le-pow_right (omega arith) (digits-few q r b) in
    let few = scale-few q r b in
    record { digits = lt-ltb (unsigned_abs d.units) (10 ^ 38) (omega (arith, small, fewer)); scale_bound = omega (arith, scale, few) }
fitting-held (Dec d) (ty.Char m) b f = cc
fitting-held (Dec d) (ty.Varchar m) b f = cc
fitting-held (Txt x) ty.BigInt b f = cc
fitting-held (Txt x) (ty.Decimal q r) b f = cc
fitting-held (Txt x) (ty.Char m) b f = text-held x (char_count x == m) f
fitting-held (Txt x) (ty.Varchar m) b f = text-held x (nat_le (char_count x) m) f

-- what a result holds
out : Result Value Fault → Value
out (Ok v) = v
out (Err fault) = Null

abbrev given : Value → Result Value Fault
given v = Ok v

is-value : (v w : Value) → given v ≡ Ok w → v ≡ w
unfolding out
is-value v w e = ap out e

-- a decimal that was computed within p digits is of the type
computed-fits : (p s : ℕ) (z : ℤ) (w : Value) → decimal_value (within p z s) ≡ Ok w → IsTrue (fits w (ty.Decimal p s))
computed-fits p s z w e = by (is_within p z) refl e
  where
    by : (b : Bool) → is_within p z ≡ b → decimal_value (if b then Ok (record { units = z; scale = s }) else Err Overflow) ≡ Ok w → IsTrue (fits w (ty.Decimal p s))
    by true h e = rw (← is-value _ _ e) (rw (h, eq-eqb s s refl) refl)
    by false h e = cc

-- the units to which `rescale` brings a decimal
abbrev units-for : ℕ → Decimal → ℤ
units-for s d = if nat_le d.scale s then units_at s d else round d.units (10 ^ (d.scale - s))

pub assigned : AssignedFits
assigned Null w ty.BigInt h b e = rw (← is-value _ _ e) refl
assigned Null w (ty.Decimal p s) h b e = rw (← is-value _ _ e) refl
assigned Null w (ty.Char n) h b e = rw (← is-value _ _ e) refl
assigned Null w (ty.Varchar n) h b e = rw (← is-value _ _ e) refl
assigned (Int i) w ty.BigInt h b e = rw (← is-value _ _ e) h
assigned (Int i) w (ty.Decimal p s) h b e = computed-fits p s (units-for s (record { units = i; scale = 0 })) w e
assigned (Int i) w (ty.Char n) h b e = rw (← is-value _ _ e) refl
assigned (Int i) w (ty.Varchar n) h b e = rw (← is-value _ _ e) refl
assigned (Dec d) w ty.BigInt h b e = rw (← is-value _ _ e) refl
assigned (Dec d) w (ty.Decimal p s) h b e = computed-fits p s (units-for s d) w e
assigned (Dec d) w (ty.Char n) h b e = rw (← is-value _ _ e) refl
assigned (Dec d) w (ty.Varchar n) h b e = rw (← is-value _ _ e) refl
assigned (Txt x) w ty.BigInt h b e = rw (← is-value _ _ e) refl
assigned (Txt x) w (ty.Decimal p s) h b e = rw (← is-value _ _ e) refl
assigned (Txt x) w (ty.Char n) h b e = rw (← is-value _ _ e) (fits-filled n x h)
assigned (Txt x) w (ty.Varchar n) h b e = rw (← is-value _ _ e) (fits-cut n x h)

-- an equal value: all but that it is of the type, which `assigned` tells
equals : (v : Value) (a c : Ty) → IsTrue (in_bounds c) → IsTrue (takes c a) → IsTrue (fits v a) → Kept v c
equals Null a ty.BigInt b t f = itself Null ty.BigInt refl
equals Null a (ty.Decimal p s) b t f = itself Null (ty.Decimal p s) refl
equals Null a (ty.Char n) b t f = itself Null (ty.Char n) refl
equals Null a (ty.Varchar n) b t f = itself Null (ty.Varchar n) refl
equals (Int i) ty.BigInt ty.BigInt b t f = itself (Int i) ty.BigInt refl
equals (Int i) ty.BigInt (ty.Decimal p s) b t f = int-kept i p s (bigint-small i f) (leb-true (19 + s) p t) (scale-few p s b)
equals (Int i) ty.BigInt (ty.Char n) b t f = cc
equals (Int i) ty.BigInt (ty.Varchar n) b t f = cc
equals (Int i) (ty.Decimal q r) c b t f = cc
equals (Int i) (ty.Char m) c b t f = cc
equals (Int i) (ty.Varchar m) c b t f = cc
equals (Dec d) ty.BigInt c b t f = cc
equals (Dec d) (ty.Decimal q r) ty.BigInt b t f = cc
equals (Dec d) (ty.Decimal q r) (ty.Decimal p s) b t f =
    let scale : d.scale ≡ r = eqb-true d.scale r (first_so (d.scale == r) (is_within q d.units) f) in
    let small : unsigned_abs d.units < 10 ^ q = ltb-true _ _ (second_so (d.scale == r) (is_within q d.units) f) in
    let below = leb-true r s (first_so (nat_le r s) (nat_le (q + s) (p + r)) t) in
    let room = leb-true (q + s) (p + r) (second_so (nat_le r s) (nat_le (q + s) (p + r)) t) in
    dec-kept d q p s small (omega (arith, scale, below)) (omega (arith, scale, room)) (scale-few p s b)
equals (Dec d) (ty.Decimal q r) (ty.Char n) b t f = cc
equals (Dec d) (ty.Decimal q r) (ty.Varchar n) b t f = cc
equals (Dec d) (ty.Char m) c b t f = cc
equals (Dec d) (ty.Varchar m) c b t f = cc
equals (Txt x) ty.BigInt c b t f = cc
equals (Txt x) (ty.Decimal q r) c b t f = cc
equals (Txt x) (ty.Char m) ty.BigInt b t f = cc
equals (Txt x) (ty.Char m) (ty.Decimal p s) b t f = cc
equals (Txt x) (ty.Char m) (ty.Char n) b t f =
    let count = char-size x m f in
    let few = leb-true m n t in
    char-kept n x (text-held x (char_count x == m) f) (omega (arith, count, few))
equals (Txt x) (ty.Char m) (ty.Varchar n) b t f =
    let count = char-size x m f in
    let few = leb-true m n t in
    varchar-kept n x (text-held x (char_count x == m) f) (omega (arith, count, few))
equals (Txt x) (ty.Varchar m) ty.BigInt b t f = cc
equals (Txt x) (ty.Varchar m) (ty.Decimal p s) b t f = cc
equals (Txt x) (ty.Varchar m) (ty.Char n) b t f = cc
equals (Txt x) (ty.Varchar m) (ty.Varchar n) b t f =
    let count = varchar-size x m f in
    let few = leb-true m n t in
    varchar-kept n x (text-held x (nat_le (char_count x) m) f) (omega (arith, count, few))

pub keeps : AssignKeeps
keeps v a c i b t f =
    let equal = equals v a c b t f in
    (equal.0, equal.1, equal.2, assigned v equal.0 c (fitting-held v a i f) b equal.1)
