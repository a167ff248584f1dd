-- How many workers a thread program gets.
use Rattle.std.specs.Prelude.{ℕ, nat_lt, if◌then◌else◌, unwrap_or, Option}
use Rattle.ds2_code.specs.declared.parts.ReadingPart.{ReadingPart}
use Rattle.ds2_code.specs.declared.parts.ReadingPart.TheVariants as reading

-- how many threads a program's source asks for; one where it reads from no thread program
abbrev pub threads_of_reading : ReadingPart → ℕ
threads_of_reading (reading.Stage threads into) = threads
threads_of_reading _ = 1

-- so many, but no fewer than 1 and no more than 64
abbrev pub within_workers : ℕ → ℕ
within_workers n = if nat_lt n 1 then 1 else if nat_lt 64 n then 64 else n

-- a thread program gets as many workers as the line of words asks for, or else as many as the source does, within these bounds
abbrev pub workers_given : Option ℕ → ReadingPart → ℕ
workers_given asked reading = within_workers (unwrap_or asked (threads_of_reading reading))
