-- The numbers of the instructions' rows, which are their operation codes in an object file.
use Rattle.std.specs.Prelude.{◌≡◌, ℕ, zero, suc, ◌+◌, List, [], ◌∷◌}
use Rattle.std.specs.List.{range_with_len}
use Rattle.ds2_value.specs.ValueFunctions.{function_row}
use Rattle.ds2_code.specs.declared.instr.Instr.{Instr}
use Rattle.ds2_code.specs.declared.instr.Instr.TheVariants as instr
use Rattle.ds2_code.specs.declared.rows.TheConstants.{ROWS, ROW_COUNT}

-- the number of an instruction's row in the machine's table
abbrev pub operation_code : Instr → ℕ
operation_code (instr.Const a) = 0
operation_code (instr.Null a) = 1
operation_code (instr.GLoad a) = 2
operation_code (instr.GStore a) = 3
operation_code (instr.LLoad a) = 4
operation_code (instr.LStore a) = 5
operation_code instr.DropTop = 6
operation_code instr.IToD = 7
operation_code (instr.Rescale a b) = 8
operation_code (instr.Pad a) = 9
operation_code (instr.Cut a) = 10
operation_code instr.IAdd = 11
operation_code instr.ISub = 12
operation_code instr.IMul = 13
operation_code instr.INeg = 14
operation_code instr.DAdd = 17
operation_code instr.DSub = 18
operation_code instr.DMul = 19
operation_code instr.DDiv = 20
operation_code instr.DNeg = 21
operation_code (instr.ICmp a) = 26
operation_code (instr.DCmp a) = 27
operation_code (instr.TCmp a) = 28
operation_code instr.And = 29
operation_code instr.Or = 30
operation_code instr.Not = 31
operation_code instr.ITruth = 32
operation_code instr.DTruth = 33
operation_code (instr.Choose a) = 35
operation_code (instr.Least a) = 36
operation_code (instr.Greatest a) = 37
operation_code (instr.Apply f) = (function_row f).code
operation_code instr.Cat = 38
operation_code (instr.Tick a) = 43
operation_code (instr.Jump a) = 44
operation_code (instr.JFalse a) = 45
operation_code (instr.JTrue a) = 46
operation_code (instr.Call a) = 47
operation_code instr.Ret = 48
operation_code instr.RetV = 49
operation_code instr.NoWhen = 50
operation_code (instr.Output a) = 51
operation_code instr.Show = 52
operation_code (instr.Put a) = 53
operation_code (instr.HCall a b) = 54
operation_code (instr.ICall a b) = 55
operation_code (instr.SetParm a) = 56
operation_code instr.End = 57

-- so many numbers from one on
abbrev pub codes_from : ℕ → ℕ → List ℕ
codes_from n k = range_with_len n k

-- the rows of the machine's table have the numbers from 0 on, in order
abbrev pub RowsInOrder : Type 0
RowsInOrder = ROWS.codes ≡ codes_from 0 ROW_COUNT
