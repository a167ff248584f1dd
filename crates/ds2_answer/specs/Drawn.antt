-- Drawn numbers: each is made out of the one before, and a region or an amount out of it.
use Rattle.std.specs.Prelude.{ℕ, zero, suc, ◌+◌, ◌*◌, ◌/◌, ◌%◌, ◌^◌, ◌++◌, codes, pos}
use Rattle.std.specs.Fmt.{decimal}
use Rattle.ds2_base.specs.Bytes.{Bytes}
use Rattle.ds2_decimal.specs.Decimal.{Decimal}
use Rattle.ds2_answer.specs.declared.drawn.TheConstants.{AMOUNTS, REGIONS}

-- the number that is drawn behind this one
unfoldable pub next_drawn : ℕ → ℕ
next_drawn number = (1103515245 * number + 12345) % 2 ^ 31

-- the number behind so many draws, the first of them behind `start`
abbrev pub drawn : (start draws : ℕ) → ℕ
drawn start zero = start
drawn start (suc draws) = next_drawn (drawn start draws)

-- a region by its number: `R` and two digits
abbrev pub region_text : ℕ → Bytes
region_text region = codes "R" ++ (decimal (region / 10) ++ decimal (region % 10))

-- the region of a drawn number: one of `REGIONS`, by its high bits
unfoldable pub region_of : ℕ → Bytes
region_of number = region_text (number / 65536 % REGIONS)

-- the hundredths of a drawn number's amount, below `AMOUNTS`, by its high bits
unfoldable pub hundredths_of : ℕ → ℕ
hundredths_of number = number / 65536 % AMOUNTS

-- an amount of so many hundredths
abbrev pub in_hundredths : ℕ → Decimal
in_hundredths units = record { units = pos units; scale = 2 }
