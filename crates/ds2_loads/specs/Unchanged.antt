-- Columns whose values go into their slots as they are.
use Rattle.std.specs.Prelude.{Bool, true, false, ◌&&◌, ◌==◌, nat_le}
use Rattle.ds2_value.specs.declared.ty.Ty.{Ty}
use Rattle.ds2_value.specs.declared.ty.Ty.TheVariants.{BigInt, Decimal as DecimalOf, Char, Varchar}

-- a type takes each value of another one as it is: no digit and no character is lost, and no blank is added
abbrev pub takes_as_it_is : (to from : Ty) → Bool
takes_as_it_is BigInt BigInt = true
takes_as_it_is (DecimalOf p s) (DecimalOf q t) = nat_le q p && (s == t)
takes_as_it_is (Char n) (Char m) = n == m
takes_as_it_is (Varchar n) (Char m) = nat_le m n
takes_as_it_is (Varchar n) (Varchar m) = nat_le m n
takes_as_it_is _ _ = false
