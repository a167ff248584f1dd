-- A sale fits the columns of the table: its region has three characters, and its amount five digits at the most.
use Rattle.std.proofs.Common.{◌≡◌, ℕ, zero, suc, ◌<◌, inl, inr, ◌&&◌, ◌%◌, ◌/◌, Bool, true, false, IsTrue, refl, subst, arith}
use Rattle.std.proofs.lemmas.Bool.{cases_lt, lt-ltb}
use Rattle.std.specs.Fmt as fmt
use Rattle.std.specs.Str as str
use Rattle.ds2_value.specs.Schema.{row_fits}
use Rattle.ds2_value.specs.Types.{fits}
use Rattle.ds2_value.specs.declared.ty.Ty.TheVariants.{Decimal as DecimalOf, Char}
use Rattle.ds2_value.specs.declared.value.Value.TheVariants.{Dec, Txt}
use Rattle.ds2_answer.specs.Drawn.{hundredths_of, in_hundredths, region_of, region_text}
use Rattle.ds2_answer.specs.Sales.{sale_of, sales_columns}

-- every number below a bound passes a test
all_below : (ℕ → Bool) → ℕ → Bool
all_below test zero = true
all_below test (suc n) = test n && all_below test n

both : (b c : Bool) → b ≡ true → c ≡ true → (b && c) ≡ true
both b c e f = λ i. e i && f i

left : (b c : Bool) → (b && c) ≡ true → b ≡ true
left true c e = refl
left false c e = absurd (cc)

right : (b c : Bool) → (b && c) ≡ true → c ≡ true
right true c e = e
right false c e = absurd (cc)

passes : (test : ℕ → Bool) (n k : ℕ) → all_below test n ≡ true → k < n → test k ≡ true
unfolding all_below
passes test zero k all low = absurd (omega (arith, low))
passes test (suc n) k all low = elim (cases_lt k n) [
  | inl below ↦ passes test n k (right (test n) (all_below test n) all) below
  | inr above ↦ let same : n ≡ k = omega (arith, low, above) in subst (λ (m : ℕ). test m ≡ true) same (left (test n) (all_below test n) all)
]

region_fits_type : ℕ → Bool
region_fits_type region = fits (Txt (region_text region)) (Char 3)

regions_fit : all_below region_fits_type 40 ≡ true
unfolding str.chars str.is_utf8 lib.Utf8.encode fmt.digits all_below region_fits_type
regions_fit = refl

amount_fits : (units : ℕ) → units < 30000 → fits (Dec (in_hundredths units)) (DecimalOf 5 2) ≡ true
amount_fits units low = lt-ltb units 100000 (omega (arith, low))

pub sale_fits : (first second : ℕ) → IsTrue (row_fits (sale_of first second) sales_columns)
unfolding region_of hundredths_of str.is_utf8 region_fits_type
sale_fits first second =
    both _ _ (passes region_fits_type 40 (first / 65536 % 40) regions_fit (omega arith))
    (both _ true (amount_fits (second / 65536 % 30000) (omega arith)) refl)
