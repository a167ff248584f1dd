-- The numbers that spell a signature, by which methods are found: no two signatures have the same.
use Rattle.std.specs.Prelude.{ℕ, Bool, List, [], ◌∷◌, ◌++◌, Vec, Option, Some, None, if◌then◌else◌}
use Rattle.std.specs.Ordering.{nat_cmp, is_eq}
use Rattle.std.specs.Cmp.Lexicographic.{slice_cmp}
use Rattle.std.specs.Option.{option_or}
use Rattle.std.specs.declared.alloc.Global.{Global}
use Rattle.std.specs.BTreeMap.{BTreeMap, get_by}
use Rattle.ds2_value.specs.declared.ty.Ty.{Ty}
use Rattle.ds2_value.specs.declared.ty.Ty.TheVariants.{BigInt, Decimal as DecimalOf, Char, Varchar}
use Rattle.ds2_code.specs.declared.parts.ParameterPart.{ParameterPart}
use Rattle.ds2_code.specs.OperandTypes.{Signature}

-- the numbers of a type, the first of which is not 0
abbrev pub type_code : Ty → List ℕ
type_code BigInt = 1 ∷ []
type_code (DecimalOf p s) = 2 ∷ p ∷ s ∷ []
type_code (Char n) = 3 ∷ n ∷ []
type_code (Varchar n) = 4 ∷ n ∷ []

-- those of a parameter, the first of which is not 0
abbrev pub parameter_code : ParameterPart → List ℕ
parameter_code p = (if p.is_in_out then 2 else 1) ∷ type_code p.ty

-- those of items, and 0 behind the last
abbrev pub list_code : {A : Type 0} → (A → List ℕ) → List A → List ℕ
list_code code [] = 0 ∷ []
list_code code (x ∷ xs) = code x ++ list_code code xs

-- those of a result
abbrev pub returns_code : Option Ty → List ℕ
returns_code None = 0 ∷ []
returns_code (Some t) = type_code t

-- those of a signature
abbrev pub signature_code : Signature → List ℕ
signature_code s = list_code parameter_code s.parameters ++ (list_code type_code s.locals ++ returns_code s.returns)

-- the same numbers
abbrev pub same_code : List ℕ → List ℕ → Bool
same_code a b = is_eq (slice_cmp nat_cmp a b)

-- what a map has under these numbers
abbrev pub number_of_code : BTreeMap (Vec ℕ Global) ℕ → List ℕ → Option ℕ
number_of_code numbers code = get_by (λ k. slice_cmp nat_cmp code k.items) numbers

-- what was found, else another one
abbrev pub found_or : Option ℕ → Option ℕ → Option ℕ
found_or first other = option_or first other
