-- Small programs and their code, part by part.
use Rattle.std.specs.Prelude.{◌≡◌, true, false, codes, [], ◌∷◌, Some, None, pos}
use Rattle.ds2_value.specs.declared.comparison.Comparison.TheVariants.{LessOrEqual}
use Rattle.ds2_value.specs.declared.hash_function.HashFunction.TheVariants as hash
use Rattle.ds2_value.specs.declared.hash_function.IteratorFunction.TheVariants as iterator
use Rattle.ds2_value.specs.declared.ty.Ty.TheVariants.{BigInt, Varchar}
use Rattle.ds2_value.specs.declared.value.Value.TheVariants.{Int, Txt}
use Rattle.ds2_meaning.specs.declared.location.Global.TheVariants.{Named}
use Rattle.ds2_meaning.specs.declared.location.Reference.TheVariants.{At, Local}
use Rattle.ds2_meaning.specs.declared.readings.Reading.TheVariants.{Set, From}
use Rattle.ds2_meaning.specs.HashObjects.{no_objects}
use Rattle.ds2_meaning.specs.Method.{MethodTree}
use Rattle.ds2_meaning.specs.ProgramTree.{UnitTree}
use Rattle.ds2_meaning.specs.TypedExpression.{Constant, Variable, HashCalled, IteratorCalled, NoArgument, ByValue}
use Rattle.ds2_meaning.specs.TypedStatement.{Assign, Evaluate, SetParameters, Construct, Output, Put, Count, Finish, Next, Text, Labelled}
use Rattle.ds2_code.specs.declared.instr.Instr.TheVariants as instr
use Rattle.ds2_code.specs.declared.parts.ProgramParts.{ProgramParts}
use Rattle.ds2_code.specs.declared.parts.ReadingPart.TheVariants as reading
use Rattle.ds2_code.specs.declared.parts.SlotRole.TheVariants.{Kept, Column, Flag}
use Rattle.ds2_gen.specs.UnitExample.{sum_program, sum_code}
use Rattle.ds2_program_code.specs.ProgramCode.{program_code}

-- ---- tables, a hash object with its iterator, a kept value

-- `set a(in=p); by g;` with a retained n, a hash object over a table t of keys g and data n, and its iterator
abbrev pub keyed_program : UnitTree
keyed_program = record {
  thread = None;
  parameters = [];
  declared = record { name = codes "n"; ty = BigInt } ∷ [];
  columns = record { name = codes "g"; ty = Varchar 2 } ∷ [];
  retained = codes "n" ∷ [];
  instances = [];
  objects = record {
    hashes = record {
      name = codes "h";
      key_variables = record { global = Named (codes "g"); ty = Varchar 2 } ∷ [];
      data_variables = record { global = Named (codes "n"); ty = BigInt } ∷ [];
      loaded = Some (record { table = record { name = codes "t"; maker = 0 }; columns = record { name = codes "n"; ty = BigInt } ∷ record { name = codes "g"; ty = Varchar 2 } ∷ [] });
    } ∷ [];
    iterators = record { name = codes "i"; hash = codes "h" } ∷ [];
  };
  threads = [];
  reading = Set
      (record { table = record { name = codes "a"; maker = 0 }; present = Some (codes "p"); columns = record { name = codes "g"; ty = Varchar 2 } ∷ [] } ∷ [])
      (record { name = codes "g"; is_descending = false } ∷ []);
  outputs = record {
    name = codes "o";
    overwrites = true;
    columns = record { name = codes "k"; source = codes "g"; ty = Varchar 2 } ∷ record { name = codes "n"; source = codes "n"; ty = BigInt } ∷ [];
  } ∷ [];
  methods = [];
  -- h.find();
  init = record { locals = []; statements = Next (Evaluate (record { line = 1; column = 1 }) (HashCalled (codes "h") hash.Find)) Finish };
  -- i.first(); put 'x' n=;
  run = record {
    locals = [];
    statements =
        Next (Evaluate (record { line = 2; column = 1 }) (IteratorCalled (codes "i") iterator.First))
        (Next (Put (record { line = 3; column = 1 }) (Text (codes "x") ∷ Labelled (codes "n") (Variable (At (Named (codes "n"))) BigInt) ∷ [])) Finish);
  };
  -- dcl bigint j; do j = 1 to 2; end;
  term = record {
    locals = record { name = codes "j"; ty = BigInt } ∷ [];
    statements = Next (Count (record { line = 4; column = 1 }) (Local (codes "j")) (Constant (Int (pos 1)) BigInt) (Constant (Int (pos 2)) BigInt) None Finish) Finish;
  };
}

-- its code: the slots of n, g, p, first.g, last.g and of `term`; the constant 1 stands once, and the output is written at the end of `run`
abbrev pub keyed_code : ProgramParts
keyed_code = record {
  name = None;
  slots =
      record { name = codes "n"; ty = BigInt; role = Kept } ∷ record { name = codes "g"; ty = Varchar 2; role = Column } ∷ record { name = codes "p"; ty = BigInt; role = Flag }
      ∷ record { name = codes "g"; ty = BigInt; role = Flag } ∷ record { name = codes "g"; ty = BigInt; role = Flag }
      ∷ record { name = codes "term"; ty = BigInt; role = Kept } ∷ record { name = codes "term"; ty = BigInt; role = Kept } ∷ [];
  constants =
      record { ty = Varchar 1; value = Txt (codes "x") } ∷ record { ty = Varchar 2; value = Txt (codes "n=") } ∷ record { ty = BigInt; value = Int (pos 1) } ∷ record { ty = BigInt; value = Int (pos 2) } ∷ [];
  hashes = record {
    key_slots = 1 ∷ [];
    data_slots = 0 ∷ [];
    loaded = Some (record {
      table = record { name = codes "t"; maker = 0; columns = record { name = codes "n"; ty = BigInt } ∷ record { name = codes "g"; ty = Varchar 2 } ∷ [] };
      key_columns = 1 ∷ [];
      data_columns = 0 ∷ [];
    });
  } ∷ [];
  iterators = 0 ∷ [];
  parameters = [];
  methods = [];
  reading = reading.Set
      (record { table = record { name = codes "a"; maker = 0; columns = record { name = codes "g"; ty = Varchar 2 } ∷ [] }; present = Some 2; slots = 1 ∷ [] } ∷ [])
      (record { slot = 1; is_descending = false; first = 3; last = 4 } ∷ []);
  outputs = record { name = codes "o"; overwrites = true; columns = (codes "k", 1) ∷ (codes "n", 0) ∷ [] } ∷ [];
  init = 0;
  run = 4;
  term = 16;
  instrs =
      instr.Tick (record { line = 1; column = 1 }) ∷ instr.HCall 0 hash.Find ∷ instr.DropTop ∷ instr.End
      ∷ instr.Tick (record { line = 2; column = 1 }) ∷ instr.ICall 0 iterator.First ∷ instr.DropTop
      ∷ instr.Tick (record { line = 3; column = 1 }) ∷ instr.Const 0 ∷ instr.Const 1 ∷ instr.GLoad 0 ∷ instr.Show ∷ instr.Cat ∷ instr.Put 2
      ∷ instr.Output 0 ∷ instr.End
      ∷ instr.Null BigInt ∷ instr.GStore 5
      ∷ instr.Tick (record { line = 4; column = 1 }) ∷ instr.Const 2 ∷ instr.Const 3 ∷ instr.GStore 6 ∷ instr.GStore 5 ∷ instr.Tick (record { line = 4; column = 1 }) ∷ instr.Jump 30
      ∷ instr.Tick (record { line = 4; column = 1 }) ∷ instr.GLoad 5 ∷ instr.Const 2 ∷ instr.IAdd ∷ instr.GStore 5
      ∷ instr.GLoad 5 ∷ instr.GLoad 6 ∷ instr.ICmp LessOrEqual ∷ instr.JTrue 25 ∷ instr.End ∷ [];
}

-- ---- an instance of a package, and one of a thread program

-- method k(bigint a); v = a; end;
abbrev pub set_method : MethodTree
set_method = record {
  name = codes "k";
  parameters = record { name = codes "a"; ty = BigInt; is_in_out = false } ∷ [];
  locals = [];
  returns = None;
  body = Next (Assign (record { line = 4; column = 1 }) (At (Named (codes "v"))) (Variable (Local (codes "a")) BigInt)) Finish;
}

-- dcl package k q(1); dcl thread w s; `init`: s.setparms(1); `run`: set from s; output o;
abbrev pub instance_program : UnitTree
instance_program = record {
  thread = None;
  parameters = [];
  declared = [];
  columns = record { name = codes "x"; ty = BigInt } ∷ [];
  retained = [];
  instances = record { name = codes "q"; package' = codes "k"; variables = record { name = codes "v"; ty = BigInt } ∷ []; objects = no_objects; methods = set_method ∷ [] } ∷ [];
  objects = no_objects;
  threads = record { name = codes "s"; parameters = record { name = codes "a"; ty = BigInt } ∷ [] } ∷ [];
  reading = From (codes "s") 2 (record { name = codes "x"; ty = BigInt } ∷ []);
  outputs = record { name = codes "o"; overwrites = false; columns = record { name = codes "x"; source = codes "x"; ty = BigInt } ∷ [] } ∷ [];
  methods = [];
  init = record {
    locals = [];
    statements =
        Next (Construct (record { line = 1; column = 1 }) (codes "q") (Some 0) (ByValue (Constant (Int (pos 1)) BigInt) NoArgument))
        (Next (SetParameters (record { line = 2; column = 1 }) (codes "s") (record { parameter = codes "a"; value = Constant (Int (pos 1)) BigInt } ∷ [])) Finish);
  };
  run = record { locals = []; statements = Next (Output (record { line = 3; column = 1 }) (0 ∷ [])) Finish };
  term = record { locals = []; statements = Finish };
}

-- its code: the slot of the instance's variable has the instance's name, and its method stands behind the system methods
abbrev pub instance_code : ProgramParts
instance_code = record {
  name = None;
  slots = record { name = codes "x"; ty = BigInt; role = Column } ∷ record { name = codes "q"; ty = BigInt; role = Kept } ∷ [];
  constants = record { ty = BigInt; value = Int (pos 1) } ∷ [];
  hashes = [];
  iterators = [];
  parameters = [];
  methods = record { entry = 11; parameters = record { ty = BigInt; is_in_out = false } ∷ []; locals = []; returns = None } ∷ [];
  reading = reading.Stage 2 (0 ∷ []);
  outputs = record { name = codes "o"; overwrites = false; columns = (codes "x", 0) ∷ [] } ∷ [];
  init = 0;
  run = 7;
  term = 10;
  instrs =
      instr.Tick (record { line = 1; column = 1 }) ∷ instr.Const 0 ∷ instr.Call 0 ∷ instr.Tick (record { line = 2; column = 1 }) ∷ instr.Const 0 ∷ instr.SetParm 0 ∷ instr.End
      ∷ instr.Tick (record { line = 3; column = 1 }) ∷ instr.Output 0 ∷ instr.End
      ∷ instr.End
      ∷ instr.Tick (record { line = 4; column = 1 }) ∷ instr.LLoad 0 ∷ instr.GStore 1 ∷ instr.Ret ∷ [];
}

-- the code of these programs, and of the one with a method and a kept value of `select`
pub record ProgramCodeExamples : Type 0 where
  pub method_and_kept_value : program_code sum_program ≡ sum_code
  pub tables_and_hash_object : program_code keyed_program ≡ keyed_code
  pub instances : program_code instance_program ≡ instance_code
