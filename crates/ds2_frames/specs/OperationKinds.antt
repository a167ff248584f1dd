-- What an operation takes and gives, by its kind, and what it asks of its instruction.
use Rattle.std.specs.Prelude.{ℕ, Bool, true, false, Option, Some, None, Result, Ok}
use Rattle.ds2_value.specs.Row.{Row}
use Rattle.ds2_value.specs.Types.{in_bounds}
use Rattle.ds2_value.specs.declared.fault.Fault.{Fault}
use Rattle.ds2_value.specs.declared.ty.Ty.TheVariants.{Decimal as DecimalOf, Char, Varchar}
use Rattle.ds2_value.specs.declared.value.Value.{Value}
use Rattle.ds2_value.specs.declared.value.Value.TheVariants.{Null}
use Rattle.ds2_code.specs.declared.instr.Instr.{Instr}
use Rattle.ds2_code.specs.declared.instr.Instr.TheVariants as instr
use Rattle.ds2_code.specs.InstructionTable.{Kind, Pure, Partial}
use Rattle.ds2_code.specs.Scales.{is_scale_of_product}

-- how many operands an operation takes; None for an instruction that is none
abbrev pub operation_operands : Kind → Option ℕ
operation_operands (Pure n f) = Some n
operation_operands (Partial n f) = Some n
operation_operands _ = None

-- what an operation gives for its operands
abbrev pub operation_result : Kind → Row → Result Value Fault
operation_result (Pure n f) operands = Ok (f operands)
operation_result (Partial n f) operands = f operands
operation_result _ operands = Ok Null

-- an operation that goes by the list of its operands: a function of values, a choice, texts one behind the other, the text in a line
abbrev pub goes_by_list : Instr → Bool
goes_by_list (instr.Apply f) = true
goes_by_list (instr.Choose n) = true
goes_by_list (instr.Least n) = true
goes_by_list (instr.Greatest n) = true
goes_by_list instr.Cat = true
goes_by_list instr.Show = true
goes_by_list _ = false

-- the operands have the scales that an operation asks for: those of a product of decimals sum to at most 38
abbrev pub has_scales_for : Instr → Row → Bool
has_scales_for instr.DMul operands = is_scale_of_product operands
has_scales_for _ operands = true

-- the type that a value is assigned to is in bounds
abbrev pub has_type_in_bounds : Instr → Bool
has_type_in_bounds (instr.Rescale p s) = in_bounds (DecimalOf p s)
has_type_in_bounds (instr.Pad n) = in_bounds (Char n)
has_type_in_bounds (instr.Cut n) = in_bounds (Varchar n)
has_type_in_bounds _ = true
