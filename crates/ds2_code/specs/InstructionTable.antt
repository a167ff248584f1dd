-- The machine's table: what each instruction is, by kinds.
use Rattle.std.specs.Prelude.{ℕ, Bool, true, false, [], ◌∷◌, length, fold, Result}
use Rattle.ds2_base.specs.declared.place.Place.{Place}
use Rattle.ds2_decimal.specs.Arithmetic as decimal
use Rattle.ds2_value.specs.Functions.{concat_of, first_of, lesser_of, greater_of}
use Rattle.ds2_value.specs.Operations.{of_decimals, of_decimal, truth_value, widened, or_null_at_fault, line_value, of_one, of_one_or_fault, of_two}
use Rattle.ds2_value.specs.Row.{Row}
use Rattle.ds2_value.specs.Types.{assign_of}
use Rattle.ds2_value.specs.Value.{sum_of, difference_of, product_of, negative_of, compared_of, truth_of, and_of, or_of, not_of}
use Rattle.ds2_value.specs.ValueFunctions.{function_row, function_value}
use Rattle.ds2_value.specs.declared.fault.Fault.{Fault}
use Rattle.ds2_value.specs.declared.fault.Fault.TheVariants.{NoWhen as NoWhenFault}
use Rattle.ds2_value.specs.declared.hash_function.HashFunction.{HashFunction}
use Rattle.ds2_value.specs.declared.hash_function.IteratorFunction.{IteratorFunction}
use Rattle.ds2_value.specs.declared.ty.Ty.TheVariants.{Decimal as DecimalOf, Char, Varchar}
use Rattle.ds2_value.specs.declared.value.Value.{Value}
use Rattle.ds2_value.specs.declared.value.Value.TheVariants.{Null}
use Rattle.ds2_code.specs.declared.instr.Instr.{Instr}
use Rattle.ds2_code.specs.declared.instr.Instr.TheVariants as instr
use Rattle.ds2_code.specs.Desk.{LoadSource, OfConstant, OfSlot, OfLocal, StoreTarget, IntoSlot, IntoLocal, IntoParameter}

-- the kinds of instruction
pub data Kind : Type 0 where
  -- a value for the n topmost operands; can neither fail nor go two ways
  Pure : (operands : ℕ) → (Row → Value) → Kind
  -- a value for the n topmost operands, or a fault
  Partial : (operands : ℕ) → (Row → Result Value Fault) → Kind
  -- pushes a value of a constant, slot or local
  Loads : LoadSource → Kind
  -- pops a value into a slot, local or parameter
  Stores : StoreTarget → Kind
  -- pops a value
  Drops : Kind
  -- calls a hash object
  CallsHash : HashFunction → (hash : ℕ) → Kind
  -- calls a hash iterator
  CallsIterator : IteratorFunction → (iterator : ℕ) → Kind
  -- adds a row to an output
  Writes : (output : ℕ) → Kind
  -- adds a line of the n topmost texts to the log
  Puts : (operands : ℕ) → Kind
  -- begins a step of the budget at a place
  Ticks : Place → Kind
  -- goes on at a target
  Jumps : (target : ℕ) → Kind
  -- pops a condition, and goes on at a target where it comes out so
  Tests : (wanted : Bool) → (target : ℕ) → Kind
  -- enters a method
  Enters : (method : ℕ) → Kind
  -- goes back to the caller, with a result or without one
  GoesBack : (has_result : Bool) → Kind
  -- ends the unit by a fault
  Raises : Fault → Kind
  -- ends the unit
  Finishes : Kind

-- an operation on two operands; null where there are others
abbrev pub of_operands : (Value → Value → Value) → Row → Value
of_operands f (a ∷ b ∷ []) = f a b
of_operands f _ = Null

-- the machine's table
abbrev pub kind_of : Instr → Kind
kind_of (instr.Const k) = Loads (OfConstant k)
kind_of (instr.Null ty) = Pure 0 (λ operands. Null)
kind_of (instr.GLoad n) = Loads (OfSlot n)
kind_of (instr.GStore n) = Stores (IntoSlot n)
kind_of (instr.LLoad n) = Loads (OfLocal n)
kind_of (instr.LStore n) = Stores (IntoLocal n)
kind_of instr.DropTop = Drops
kind_of instr.IToD = Pure 1 (of_one widened)
kind_of (instr.Rescale p s) = Partial 1 (of_one_or_fault (λ v. assign_of v (DecimalOf p s)))
kind_of (instr.Pad n) = Pure 1 (of_one (λ v. or_null_at_fault (assign_of v (Char n))))
kind_of (instr.Cut n) = Pure 1 (of_one (λ v. or_null_at_fault (assign_of v (Varchar n))))
kind_of instr.IAdd = Partial 2 (of_two sum_of)
kind_of instr.ISub = Partial 2 (of_two difference_of)
kind_of instr.IMul = Partial 2 (of_two product_of)
kind_of instr.INeg = Partial 1 (of_one_or_fault negative_of)
kind_of instr.DAdd = Partial 2 (of_two (of_decimals decimal.add))
kind_of instr.DSub = Partial 2 (of_two (of_decimals decimal.sub))
kind_of instr.DMul = Partial 2 (of_two (of_decimals decimal.mul))
kind_of instr.DDiv = Partial 2 (of_two (of_decimals decimal.div))
kind_of instr.DNeg = Pure 1 (of_one (of_decimal decimal.neg))
kind_of (instr.ICmp comparison) = Pure 2 (of_operands (compared_of comparison))
kind_of (instr.DCmp comparison) = Pure 2 (of_operands (compared_of comparison))
kind_of (instr.TCmp comparison) = Pure 2 (of_operands (compared_of comparison))
kind_of instr.And = Pure 2 (of_operands (λ a b. truth_value (and_of (truth_of a) (truth_of b))))
kind_of instr.Or = Pure 2 (of_operands (λ a b. truth_value (or_of (truth_of a) (truth_of b))))
kind_of instr.Not = Pure 1 (of_one (λ a. truth_value (not_of (truth_of a))))
kind_of instr.ITruth = Pure 1 (of_one (λ a. truth_value (truth_of a)))
kind_of instr.DTruth = Pure 1 (of_one (λ a. truth_value (truth_of a)))
kind_of (instr.Choose n) = Pure n (fold first_of Null)
kind_of (instr.Least n) = Pure n (fold lesser_of Null)
kind_of (instr.Greatest n) = Pure n (fold greater_of Null)
kind_of (instr.Apply f) = Partial (length (function_row f).operands) (function_value f)
kind_of instr.Cat = Pure 2 concat_of
kind_of (instr.Tick place) = Ticks place
kind_of (instr.Jump target) = Jumps target
kind_of (instr.JFalse target) = Tests false target
kind_of (instr.JTrue target) = Tests true target
kind_of (instr.Call method) = Enters method
kind_of instr.Ret = GoesBack false
kind_of instr.RetV = GoesBack true
kind_of instr.NoWhen = Raises NoWhenFault
kind_of (instr.Output output) = Writes output
kind_of instr.Show = Pure 1 (of_one line_value)
kind_of (instr.Put n) = Puts n
kind_of (instr.HCall h f) = CallsHash f h
kind_of (instr.ICall i f) = CallsIterator f i
kind_of (instr.SetParm j) = Stores (IntoParameter j)
kind_of instr.End = Finishes
