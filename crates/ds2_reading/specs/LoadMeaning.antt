-- What a load stands for.
use Rattle.std.specs.Prelude.{ℕ, zero, suc, nat_eq, ◌/◌, ◌%◌, Bool, true, false, if◌then◌else◌, List, [], ◌∷◌, map, take, Option, Some, None}
use Rattle.ds2_reading.specs.declared.load.Load.{Load as LoadInCode}
use Rattle.ds2_table.specs.Loads.{Load}

-- the number of a row, where the greatest number of 64 bits says that none is read
abbrev pub row_or_none : ℕ → Option ℕ
row_or_none number = if nat_eq number 18446744073709551615 then None else Some number

-- the lowest bits of a number, so many of them, the lowest one first
abbrev pub bits_of : ℕ → ℕ → List Bool
bits_of zero number = []
bits_of (suc count) number = nat_eq (number % 2) 1 ∷ bits_of count (number / 2)

-- the load of a statement of so many tables and BY variables
abbrev pub load_meaning : (tables bys : ℕ) → LoadInCode → Load
load_meaning tables bys l = record {
  rows = map row_or_none (take tables l.rows);
  is_fresh = l.is_fresh;
  first = bits_of bys l.first;
  last = bits_of bys l.last;
  present = bits_of tables l.present;
}

-- flags of so many BY variables: 1 for each but the first few
abbrev pub flags_behind : ℕ → ℕ → List Bool
flags_behind zero few = []
flags_behind (suc bys) zero = true ∷ flags_behind bys 0
flags_behind (suc bys) (suc few) = false ∷ flags_behind bys few
