-- A small program with a method and its code, which meets all that the theorem of the generator asks for.
use Rattle.std.specs.Prelude.{ℕ, zero, suc, Bool, ◌||◌, true, false, bytes_eq, nat_eq, codes, [], ◌∷◌, Option, Some, None, pos, if◌then◌else◌}
use Rattle.ds2_value.specs.declared.comparison.Comparison.TheVariants.{Equal}
use Rattle.ds2_value.specs.declared.ty.Ty.TheVariants.{BigInt}
use Rattle.ds2_value.specs.declared.value.Value.TheVariants.{Int}
use Rattle.ds2_meaning.specs.declared.expressions.Operation.TheVariants.{IntegerAdd}
use Rattle.ds2_meaning.specs.declared.location.Global.TheVariants.{Named}
use Rattle.ds2_meaning.specs.declared.location.Reference.TheVariants.{At, Local}
use Rattle.ds2_meaning.specs.declared.readings.Reading.TheVariants.{Once}
use Rattle.ds2_meaning.specs.HashObjects.{no_objects}
use Rattle.ds2_meaning.specs.Location.{Home, Location, is_same_location}
use Rattle.ds2_meaning.specs.Method.{MethodTree}
use Rattle.ds2_meaning.specs.ProgramTree.{UnitTree, output_sources}
use Rattle.ds2_meaning.specs.TypedExpression.{Constant, Variable, Chain, Called, Link, NoLink, NoExpression, Then, NoArgument, ByValue, InOut}
use Rattle.ds2_meaning.specs.TypedStatement.{Assign, ReturnValue, SelectValue, Finish, Next, Otherwise, When}
use Rattle.ds2_code.specs.declared.instr.Instr.TheVariants as instr
use Rattle.ds2_code.specs.declared.parts.MethodPart.{MethodPart}
use Rattle.ds2_code.specs.declared.parts.ProgramParts.{ProgramParts}
use Rattle.ds2_code.specs.declared.parts.ReadingPart.TheVariants as reading
use Rattle.ds2_code.specs.declared.parts.SlotRole.TheVariants.{Cleared, Kept}
use Rattle.ds2_gen.specs.CodeCells.{Nameable, GlobalAt, LocalNamed, CodeCell, SlotCell, LocalCell}
use Rattle.ds2_gen.specs.ExpressionCode.{Callee, CodeNumbers}
use Rattle.ds2_gen.specs.UnitTheorem.{IsCodeOfUnits}

-- method next(in_out bigint a, bigint b) returns bigint; a = a + b; return a; end;
abbrev pub next_method : MethodTree
next_method = record {
  name = codes "next";
  parameters = record { name = codes "a"; ty = BigInt; is_in_out = true } ∷ record { name = codes "b"; ty = BigInt; is_in_out = false } ∷ [];
  locals = [];
  returns = Some BigInt;
  body =
      Next (Assign (record { line = 2; column = 1 }) (Local (codes "a")) (Chain (Variable (Local (codes "a")) BigInt) (Link false IntegerAdd (Variable (Local (codes "b")) BigInt) BigInt NoLink)))
      (Next (ReturnValue (record { line = 3; column = 1 }) (Variable (Local (codes "a")) BigInt)) Finish);
}

-- dcl bigint x; .. `run` has a local t: t = 1; select (t); when (1) x = next(t, 1); otherwise x = 1; end;
abbrev pub sum_program : UnitTree
sum_program = record {
  thread = None;
  parameters = [];
  declared = record { name = codes "x"; ty = BigInt } ∷ [];
  columns = [];
  retained = [];
  instances = [];
  objects = no_objects;
  threads = [];
  reading = Once;
  outputs = record { name = codes "o"; overwrites = false; columns = record { name = codes "x"; source = codes "x"; ty = BigInt } ∷ [] } ∷ [];
  methods = next_method ∷ [];
  init = record { locals = []; statements = Finish };
  run = record {
    locals = record { name = codes "t"; ty = BigInt } ∷ [];
    statements =
        Next (Assign (record { line = 3; column = 1 }) (Local (codes "t")) (Constant (Int (pos 1)) BigInt))
        (Next (SelectValue (record { line = 4; column = 1 }) (Variable (Local (codes "t")) BigInt)
        (When (Then (Constant (Int (pos 1)) BigInt) NoExpression)
        (Assign (record { line = 5; column = 1 }) (At (Named (codes "x"))) (Called None 0 (InOut (Local (codes "t")) (ByValue (Constant (Int (pos 1)) BigInt) NoArgument)) BigInt))
        (Otherwise (Assign (record { line = 6; column = 1 }) (At (Named (codes "x"))) (Constant (Int (pos 1)) BigInt)))))
        Finish);
  };
  term = record { locals = []; statements = Finish };
}

-- the method in the code
abbrev pub next_part : MethodPart
next_part = record {
  entry = 26;
  parameters = record { ty = BigInt; is_in_out = true } ∷ record { ty = BigInt; is_in_out = false } ∷ [];
  locals = [];
  returns = Some BigInt;
}

-- its code: a slot for x, one for t and one for the value of the `select`, one constant, the method, and the entries of its three
-- units
abbrev pub sum_code : ProgramParts
sum_code = record {
  name = None;
  slots = record { name = codes "x"; ty = BigInt; role = Cleared } ∷ record { name = codes "run"; ty = BigInt; role = Kept } ∷ record { name = codes "run"; ty = BigInt; role = Kept } ∷ [];
  constants = record { ty = BigInt; value = Int (pos 1) } ∷ [];
  hashes = [];
  iterators = [];
  parameters = [];
  methods = next_part ∷ [];
  reading = reading.Once;
  outputs = record { name = codes "o"; overwrites = false; columns = (codes "x", 0) ∷ [] } ∷ [];
  init = 0;
  run = 1;
  term = 25;
  instrs =
      instr.End ∷ instr.Null BigInt ∷ instr.GStore 1
      ∷ instr.Tick (record { line = 3; column = 1 }) ∷ instr.Const 0 ∷ instr.GStore 1
      ∷ instr.Tick (record { line = 4; column = 1 }) ∷ instr.GLoad 1 ∷ instr.GStore 2
      ∷ instr.GLoad 2 ∷ instr.Const 0 ∷ instr.ICmp Equal ∷ instr.JFalse 20
      ∷ instr.Tick (record { line = 5; column = 1 }) ∷ instr.GLoad 1 ∷ instr.Const 0 ∷ instr.Call 0 ∷ instr.GStore 1 ∷ instr.GStore 0 ∷ instr.Jump 23
      ∷ instr.Tick (record { line = 6; column = 1 }) ∷ instr.Const 0 ∷ instr.GStore 0
      ∷ instr.Output 0 ∷ instr.End ∷ instr.End
      ∷ instr.Tick (record { line = 2; column = 1 }) ∷ instr.LLoad 0 ∷ instr.LLoad 1 ∷ instr.IAdd ∷ instr.LStore 0
      ∷ instr.Tick (record { line = 3; column = 1 }) ∷ instr.LLoad 0 ∷ instr.RetV ∷ instr.Null BigInt ∷ instr.RetV ∷ [];
}

-- where x is
abbrev pub sum_variable : Location
sum_variable = record { home = None; global = Named (codes "x") }

-- x has a slot in each unit, and t, whose slot the other units leave alone, in `run`
abbrev pub sum_cell : (in_run : Bool) → Nameable → Option CodeCell
sum_cell in_run (GlobalAt at) = if is_same_location at sum_variable then Some (SlotCell 0) else None
sum_cell true (LocalNamed name) = if bytes_eq name (codes "t") then Some (SlotCell 1) else None
sum_cell false (LocalNamed name) = None

-- the slots that `run` alone uses: that of t, and that of the value of the `select`
abbrev pub is_slot_of_run : CodeCell → Bool
is_slot_of_run (SlotCell n) = nat_eq n 1 || nat_eq n 2
is_slot_of_run _ = false

-- the cells that code of `run` leaves as they are which keeps values from a number on
abbrev pub is_kept_before : ℕ → CodeCell → Bool
is_kept_before zero c = false
is_kept_before (suc n) (SlotCell m) = nat_eq m 2
is_kept_before (suc n) _ = false

-- the method as code calls it
abbrev pub next_callee : Callee
next_callee = record { number = 0; has_result = true }

-- the one method that code may call
abbrev pub sum_callee : Home → ℕ → Option Callee
sum_callee None zero = Some next_callee
sum_callee _ _ = None

-- what the code of each unit finds fixed
abbrev pub sum_numbers : (in_run : Bool) → CodeNumbers
sum_numbers in_run = record {
  home = None;
  objects = no_objects;
  outputs = output_sources sum_program;
  placement = record { cell = sum_cell in_run; kept_cell = λ n. SlotCell 2; kept_count = if in_run then 1 else 0; is_reserved = λ kept c. if in_run then is_kept_before kept c else is_slot_of_run c };
  constant = λ v ty. 0;
  callee = sum_callee;
}

-- x has its slot in the method too, and its parameters lie in the frame
abbrev pub next_cell : Nameable → Option CodeCell
next_cell (GlobalAt at) = if is_same_location at sum_variable then Some (SlotCell 0) else None
next_cell (LocalNamed name) = if bytes_eq name (codes "a") then Some (LocalCell 0) else if bytes_eq name (codes "b") then Some (LocalCell 1) else None

-- what the code of the method finds fixed
abbrev pub next_numbers : CodeNumbers
next_numbers = record {
  home = None;
  objects = no_objects;
  outputs = [];
  placement = record { cell = next_cell; kept_cell = λ n. LocalCell 2; kept_count = 0; is_reserved = λ kept c. is_slot_of_run c };
  constant = λ v ty. 0;
  callee = sum_callee;
}

-- the code is that of the program's units
abbrev pub UnitExample : Type 0
UnitExample = IsCodeOfUnits sum_code sum_program (sum_numbers false) (sum_numbers true) (sum_numbers false) (λ home method. next_numbers)
