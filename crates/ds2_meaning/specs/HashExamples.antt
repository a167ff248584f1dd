-- What small programs with hash objects, iterators and parameters of thread programs leave, written out from the rules by hand. Each
-- stands behind its source.
use Rattle.std.specs.Prelude.{◌≡◌, ℕ, nat_eq, ◌+◌, true, codes, if◌then◌else◌, List, [], ◌∷◌, ◌++◌, map, Some, None, pos}
use Rattle.ds2_value.specs.Row.{Row}
use Rattle.ds2_value.specs.declared.comparison.Comparison.TheVariants as comparison
use Rattle.ds2_value.specs.declared.fault.Ending.TheVariants.{Normal}
use Rattle.ds2_value.specs.declared.hash_function.HashFunction.{HashFunction}
use Rattle.ds2_value.specs.declared.hash_function.HashFunction.TheVariants as hash
use Rattle.ds2_value.specs.declared.hash_function.IteratorFunction.{IteratorFunction}
use Rattle.ds2_value.specs.declared.hash_function.IteratorFunction.TheVariants as iterator
use Rattle.ds2_value.specs.declared.ty.Ty.{Ty}
use Rattle.ds2_value.specs.declared.ty.Ty.TheVariants.{BigInt, Decimal as DecimalOf, Varchar}
use Rattle.ds2_value.specs.declared.value.Value.TheVariants.{Txt}
use Rattle.ds2_meaning.specs.declared.expressions.Operation.TheVariants as operation
use Rattle.ds2_meaning.specs.declared.hashes.DeclaredHash.{DeclaredHash}
use Rattle.ds2_meaning.specs.declared.hashes.HashVariable.{HashVariable}
use Rattle.ds2_meaning.specs.declared.location.Global.TheVariants.{Named}
use Rattle.ds2_meaning.specs.declared.location.Reference.TheVariants.{Local}
use Rattle.ds2_meaning.specs.declared.readings.Reading.TheVariants.{Set}
use Rattle.ds2_meaning.specs.ExampleWords.{col, natural, fixed, value_of_type, variable_of, int, text_constant, assign_at, bigint, by_value, output_of, body_of, bigint_column, stored, unit_with, program_with, Seen, seen, ran, ends_with}
use Rattle.ds2_meaning.specs.FurtherExamples.{variable_in, naming, putting}
use Rattle.ds2_meaning.specs.HashObjects.{DeclaredObjects}
use Rattle.ds2_meaning.specs.Method.{MethodTree}
use Rattle.ds2_meaning.specs.ProgramExamples.{tables_of, reader, with_columns, two}
use Rattle.ds2_meaning.specs.ProgramMeaning.{program_answer}
use Rattle.ds2_meaning.specs.ProgramTree.{UnitTree, ProgramTree, OverTables, OverStage}
use Rattle.ds2_meaning.specs.Reading.{TableRows}
use Rattle.ds2_meaning.specs.StatementExamples.{with_methods}
use Rattle.ds2_meaning.specs.TypedExpression.{TypedExpression, Variable, Convert, Chain, Link, NoLink, Compared, Called, HashCalled, IteratorCalled, NoArgument, ByValue}
use Rattle.ds2_meaning.specs.TypedStatement.{TypedStatement, Evaluate, SetParameters, ParameterValue, ReturnValue, Put, If, Shown}
use Rattle.ds2_meaning.specs.View.{all_statements}

-- ---- words

-- a variable of a hash object
abbrev pub hash_variable : Ty → List ℕ → HashVariable
hash_variable ty name = record { global = Named name; ty = ty }

-- dcl package hash h([k],[v]);
abbrev pub hash_of_k_and_v : DeclaredHash
hash_of_k_and_v = record { name = codes "h"; key_variables = hash_variable BigInt (codes "k") ∷ []; data_variables = hash_variable BigInt (codes "v") ∷ []; loaded = None }

-- dcl package hash h([k],[v]); dcl package hiter i('h');
abbrev pub hash_and_iterator : DeclaredObjects
hash_and_iterator = record { hashes = hash_of_k_and_v ∷ []; iterators = record { name = codes "i"; hash = codes "h" } ∷ [] }

-- h.f()
abbrev pub on_hash : HashFunction → TypedExpression
on_hash f = HashCalled (codes "h") f

-- i.f()
abbrev pub on_iterator : IteratorFunction → TypedExpression
on_iterator f = IteratorCalled (codes "i") f

-- a program with BIGINT variables of these names, with h and i, and with these statements in `run`
abbrev pub hashing : List (List ℕ) → List TypedStatement → UnitTree
hashing names body = record (program_with names body) { objects = hash_and_iterator }

-- k = n;
abbrev pub key_is : ℕ → ℕ → TypedStatement
key_is column n = assign_at column (codes "k") (int n)

-- v = n;
abbrev pub data_is : ℕ → ℕ → TypedStatement
data_is column n = assign_at column (codes "v") (int n)

-- k = n; v = d; h.add();
abbrev pub adding : ℕ → ℕ → ℕ → List TypedStatement
adding column n d = key_is column n ∷ data_is (column + 7) d ∷ Evaluate (col (column + 15)) (on_hash hash.Add) ∷ []

-- r = this; put r v;
abbrev pub showing : ℕ → TypedExpression → List TypedStatement
showing column call = assign_at column (codes "r") call ∷ Put (col (column + 14)) (Shown (variable_of (codes "r")) ∷ Shown (variable_of (codes "v")) ∷ []) ∷ []

-- the lines of a program with k, v and r, h and i
abbrev pub lines_of : List TypedStatement → List (List ℕ)
lines_of body = (ran (hashing (codes "k" ∷ codes "v" ∷ codes "r" ∷ []) body) 100).lines

-- three items, with the keys 1, 2 and 3 and the data 10, 20 and 30
abbrev pub three_items : List TypedStatement
three_items = adding 100 1 10 ++ adding 130 2 20 ++ adding 160 3 30

-- ---- hash objects

-- order_id, cust, qty and price, which has two digits behind the point
abbrev pub order_row : ℕ → List ℕ → ℕ → ℕ → Row
order_row order customer quantity price = natural order ∷ Txt customer ∷ natural quantity ∷ fixed (pos price) 2 ∷ []

-- data billed (overwrite=yes keep=(order_id name amount)); dcl varchar(20) name; dcl decimal(12,2) amount; dcl bigint rc;
-- dcl package hash h([cust],[name],8,'customers'); method run(); set orders; rc = h.find(); if rc ^= 0 then name = 'unknown';
-- amount = qty * price; end; enddata;
abbrev pub billing : UnitTree
billing = record (unit_with (variable_in (Varchar 20) (codes "name") ∷ variable_in (DecimalOf 12 2) (codes "amount") ∷ bigint (codes "rc") ∷ []) (
    assign_at 5 (codes "rc") (on_hash hash.Find)
    ∷ If (col 20) (Compared comparison.NotEqual (variable_of (codes "rc")) (int 0)) (assign_at 36 (codes "name") (Convert (text_constant (codes "unknown") 7) (Varchar 20)))
    ∷ assign_at 60 (codes "amount") (Convert (Chain (variable_of (codes "qty")) (Link true operation.DecimalMultiply (value_of_type (codes "price") (DecimalOf 5 2)) (DecimalOf 38 2) NoLink)) (DecimalOf 12 2)) ∷ [])) {
      columns = bigint (codes "order_id") ∷ variable_in (Varchar 2) (codes "cust") ∷ bigint (codes "qty") ∷ variable_in (DecimalOf 5 2) (codes "price") ∷ [];
      objects = record {
        hashes = record {
          name = codes "h";
          key_variables = hash_variable (Varchar 2) (codes "cust") ∷ [];
          data_variables = hash_variable (Varchar 20) (codes "name") ∷ [];
          loaded = Some (record { table = stored (codes "customers"); columns = record { name = codes "cust"; ty = Varchar 2 } ∷ record { name = codes "name"; ty = Varchar 10 } ∷ [] });
        } ∷ [];
        iterators = [];
      };
      reading = Set (record {
        table = stored (codes "orders");
        present = None;
        columns = bigint_column (codes "order_id") ∷ record { name = codes "cust"; ty = Varchar 2 } ∷ bigint_column (codes "qty") ∷ record { name = codes "price"; ty = DecimalOf 5 2 } ∷ [];
      } ∷ []) [];
      outputs = output_of (variable_in (Varchar 20) (codes "name") ∷ variable_in (DecimalOf 12 2) (codes "amount") ∷ bigint (codes "order_id") ∷ []) ∷ [];
    }

-- dcl package hash h([k],[v],8,'t'); v = null; r = h.find(); put r v; n = h.num_items; over rows of k and v
abbrev pub loading : List Row → Seen
loading rows = seen (program_answer (OverTables (record (program_with (codes "k" ∷ codes "v" ∷ codes "r" ∷ []) (
    key_is 1 1 ∷ (showing 10 (on_hash hash.Find) ++ showing 40 (on_hash hash.NumItems)))) {
      objects = record {
        hashes = record hash_of_k_and_v { loaded = Some (record { table = stored (codes "t"); columns = bigint_column (codes "k") ∷ bigint_column (codes "v") ∷ [] }) } ∷ [];
        iterators = [];
      };
    })) [] (tables_of ((codes "t", rows) ∷ [])) 10 0)

-- what calls of hash objects do
pub record HashExamples : Type 0 where
  -- k = 1; v = 10; r1 = h.add(); r2 = h.add(); k = 2; v = 5; r3 = h.find(); w = v; k = 1; r4 = h.find();
  pub found_and_missed : ran (hashing (codes "k" ∷ codes "v" ∷ codes "w" ∷ codes "r1" ∷ codes "r2" ∷ codes "r3" ∷ codes "r4" ∷ []) (
      key_is 1 1 ∷ data_is 8 10 ∷ assign_at 16 (codes "r1") (on_hash hash.Add) ∷ assign_at 31 (codes "r2") (on_hash hash.Add)
      ∷ key_is 46 2 ∷ data_is 53 5 ∷ assign_at 60 (codes "r3") (on_hash hash.Find) ∷ assign_at 76 (codes "w") (variable_of (codes "v"))
      ∷ key_is 83 1 ∷ assign_at 90 (codes "r4") (on_hash hash.Find) ∷ [])) 10
      ≡ ends_with ((natural 1 ∷ natural 10 ∷ natural 5 ∷ natural 0 ∷ natural 1 ∷ natural 1 ∷ natural 0 ∷ []) ∷ []) (10 ∷ 0 ∷ 10 ∷ [])
  -- a table of customers is looked up for each order
  pub billed : seen (program_answer (OverTables billing) [] (tables_of (
      (codes "orders", order_row 1001 (codes "C2") 3 1999 ∷ order_row 1002 (codes "C1") 1 25000 ∷ order_row 1003 (codes "C9") 2 550 ∷ [])
      ∷ (codes "customers", (Txt (codes "C1") ∷ Txt (codes "Smith, Ann") ∷ []) ∷ (Txt (codes "C2") ∷ Txt (codes "Jones") ∷ []) ∷ []) ∷ [])) 20 0)
      ≡ ends_with ((Txt (codes "Jones") ∷ fixed (pos 5997) 2 ∷ natural 1001 ∷ []) ∷ (Txt (codes "Smith, Ann") ∷ fixed (pos 25000) 2 ∷ natural 1002 ∷ [])
      ∷ (Txt (codes "unknown") ∷ fixed (pos 1100) 2 ∷ natural 1003 ∷ []) ∷ []) (20 ∷ 17 ∷ 17 ∷ 16 ∷ 20 ∷ [])
  -- of two rows of a table with one key the first stays
  pub first_row_of_a_key : (loading (two 1 5 ∷ two 2 7 ∷ two 1 6 ∷ [])).lines ≡ codes "0 5" ∷ codes "2 5" ∷ []
  -- a table without rows
  pub nothing_loaded : (loading []).lines ≡ codes "1 null" ∷ codes "0 null" ∷ []
  -- three items; k = 2; v = 0; r = h.check(); put r v; : `check` copies nothing
  pub checked : lines_of (three_items ++ key_is 200 2 ∷ data_is 207 0 ∷ showing 214 (on_hash hash.Check)) ≡ codes "0 0" ∷ []
  -- k = 2; v = 21; h.replace(); k = 4; v = 40; h.replace(); : the item of a present key keeps its place, and that of an absent one goes last
  pub replaced : lines_of (three_items
      ++ key_is 200 2 ∷ data_is 207 21 ∷ Evaluate (col 215) (on_hash hash.Replace) ∷ key_is 230 4 ∷ data_is 237 40 ∷ Evaluate (col 245) (on_hash hash.Replace)
      ∷ (showing 300 (on_iterator iterator.First) ++ showing 330 (on_iterator iterator.Next) ++ showing 360 (on_iterator iterator.Next) ++ showing 390 (on_iterator iterator.Next)
      ++ showing 420 (on_iterator iterator.Next)))
      ≡ codes "0 10" ∷ codes "0 21" ∷ codes "0 30" ∷ codes "0 40" ∷ codes "1 40" ∷ []
  -- k = 1; r = h.remove(); put r v; r = h.remove(); put r v; r = h.num_items; put r v; : the others keep their order
  pub removed : lines_of (three_items ++ key_is 200 1 ∷ (showing 210 (on_hash hash.Remove) ++ showing 240 (on_hash hash.Remove) ++ showing 270 (on_hash hash.NumItems)
      ++ showing 300 (on_iterator iterator.First) ++ showing 330 (on_iterator iterator.Next)))
      ≡ codes "0 30" ∷ codes "1 30" ∷ codes "2 30" ∷ codes "0 20" ∷ codes "0 30" ∷ []
  -- h.clear(); r = h.num_items; put r v;
  pub cleared : lines_of (three_items ++ showing 200 (on_hash hash.Clear) ++ showing 230 (on_hash hash.NumItems)) ≡ codes "0 30" ∷ codes "0 30" ∷ []
  -- a null key is a key like others: k = null; v = 7; h.add(); v = 0; r = h.find(); put r v;
  pub null_key : lines_of (data_is 1 7 ∷ Evaluate (col 8) (on_hash hash.Add) ∷ data_is 17 0 ∷ showing 24 (on_hash hash.Find)) ≡ codes "0 7" ∷ []
  -- the parameter v of a method hides the variable v, and not that of the hash object: method m(bigint v) returns bigint; return h.find();
  pub hidden_variable : ran (with_methods (record { name = codes "m"; parameters = by_value (codes "v") ∷ []; locals = []; returns = Some BigInt; body = all_statements (ReturnValue (col 40) (on_hash hash.Find) ∷ []) } ∷ [])
      (hashing (codes "k" ∷ codes "v" ∷ codes "r" ∷ []) (adding 100 1 10 ++ data_is 130 0 ∷ assign_at 137 (codes "r") (Called None 0 (ByValue (int 5) NoArgument) BigInt) ∷ []))) 10
      ≡ ends_with ((natural 1 ∷ natural 10 ∷ natural 0 ∷ []) ∷ []) (10 ∷ 3 ∷ 10 ∷ [])

-- ---- iterators

-- what calls of iterators do
pub record IteratorExamples : Type 0 where
  -- three items; i.next() from nowhere goes to the first, and behind the last one it stays
  pub next_from_nowhere : lines_of (three_items ++ showing 200 (on_iterator iterator.Next) ++ showing 230 (on_iterator iterator.Last) ++ showing 260 (on_iterator iterator.Next)
      ++ showing 290 (on_iterator iterator.Prev))
      ≡ codes "0 10" ∷ codes "0 30" ∷ codes "1 30" ∷ codes "0 20" ∷ []
  -- i.prev() from nowhere goes to the last, and before the first one it stays
  pub prev_from_nowhere : lines_of (three_items ++ showing 200 (on_iterator iterator.Prev) ++ showing 230 (on_iterator iterator.First) ++ showing 260 (on_iterator iterator.Prev)
      ++ showing 290 (on_iterator iterator.Next))
      ≡ codes "0 30" ∷ codes "0 10" ∷ codes "1 10" ∷ codes "0 20" ∷ []
  -- at the second item, k = 1; h.remove(); i.next(); : the position falls by one
  pub removed_before : lines_of (three_items ++ showing 200 (on_iterator iterator.First) ++ showing 230 (on_iterator iterator.Next)
      ++ key_is 260 1 ∷ Evaluate (col 267) (on_hash hash.Remove) ∷ showing 280 (on_iterator iterator.Next))
      ≡ codes "0 10" ∷ codes "0 20" ∷ codes "0 30" ∷ []
  -- at the second item, k = 2; h.remove(); i.next(); : it stands at the one before
  pub removed_there : lines_of (three_items ++ showing 200 (on_iterator iterator.First) ++ showing 230 (on_iterator iterator.Next)
      ++ key_is 260 2 ∷ Evaluate (col 267) (on_hash hash.Remove) ∷ showing 280 (on_iterator iterator.Next))
      ≡ codes "0 10" ∷ codes "0 20" ∷ codes "0 30" ∷ []
  -- at the first item, k = 1; h.remove(); i.prev(); : it stands nowhere, and the one before is the last
  pub removed_first : lines_of (three_items ++ showing 200 (on_iterator iterator.First) ++ key_is 260 1 ∷ Evaluate (col 267) (on_hash hash.Remove) ∷ showing 280 (on_iterator iterator.Prev))
      ≡ codes "0 10" ∷ codes "0 30" ∷ []
  -- at the first item, k = 3; h.remove(); i.next(); : it stands where it was
  pub removed_behind : lines_of (three_items ++ showing 200 (on_iterator iterator.First) ++ key_is 260 3 ∷ Evaluate (col 267) (on_hash hash.Remove) ∷ (showing 280 (on_iterator iterator.Next)
      ++ showing 310 (on_iterator iterator.Next)))
      ≡ codes "0 10" ∷ codes "0 20" ∷ codes "1 20" ∷ []
  -- at the last item, h.clear(); k = 5; v = 50; h.add(); v = 0; i.next(); : it stands nowhere
  pub cleared_under_it : lines_of (three_items ++ showing 200 (on_iterator iterator.Last) ++ Evaluate (col 230) (on_hash hash.Clear) ∷ (adding 240 5 50 ++ data_is 270 0 ∷ showing 280 (on_iterator iterator.Next)))
      ≡ codes "0 30" ∷ codes "0 50" ∷ []
  -- i.last(); of no items
  pub last_of_none : lines_of (showing 1 (on_iterator iterator.Last) ++ showing 31 (on_iterator iterator.Prev)) ≡ codes "1 null" ∷ codes "1 null" ∷ []

-- ---- instances and parameters

-- package p; dcl bigint k v; dcl package hash h([k],[v]); method put(bigint a, bigint b) returns bigint; k = a; v = b; return h.add(); end;
-- method count() returns bigint; return h.num_items; end; endpackage;
abbrev pub keeping_items : List MethodTree
keeping_items =
    record {
      name = codes "put";
      parameters = by_value (codes "a") ∷ by_value (codes "b") ∷ [];
      locals = [];
      returns = Some BigInt;
      body = all_statements (assign_at 60 (codes "k") (Variable (Local (codes "a")) BigInt) ∷ assign_at 67 (codes "v") (Variable (Local (codes "b")) BigInt) ∷ ReturnValue (col 74) (on_hash hash.Add) ∷ []);
    }
    ∷ record { name = codes "count"; parameters = []; locals = []; returns = Some BigInt; body = all_statements (ReturnValue (col 110) (on_hash hash.NumItems) ∷ []) } ∷ []

-- x.put(a, b)
abbrev pub put_into : List ℕ → ℕ → ℕ → TypedExpression
put_into instance a b = Called (Some instance) 0 (ByValue (int a) (ByValue (int b) NoArgument)) BigInt

-- x.count()
abbrev pub count_in : List ℕ → TypedExpression
count_in instance = Called (Some instance) 1 NoArgument BigInt

-- a parameter n with this value
abbrev pub parameter_n : ℕ → List ParameterValue
parameter_n n = record { parameter = codes "n"; value = int n } ∷ []

-- a program that reads from a thread program with a parameter n, which puts it; with these further statements in `init`
abbrev pub with_setparms : List TypedStatement → ProgramTree
with_setparms statements = with_init (putting (naming []))
  where
    with_init : ProgramTree → ProgramTree
    with_init (OverTables p) = OverTables p
    with_init (OverStage p stage) = OverStage (record p {
      threads = record { name = codes "s"; parameters = bigint (codes "n") ∷ [] } ∷ record { name = codes "t"; parameters = bigint (codes "n") ∷ [] } ∷ [];
      init = body_of statements;
    }) stage

-- a table of the store with three rows of k and v, and every other one with a single row
abbrev pub three_rows_stored : TableRows
three_rows_stored table = if nat_eq table.maker 0 then two 1 5 ∷ two 2 6 ∷ two 3 7 ∷ [] else two 1 2 ∷ []

-- package p; dcl bigint k v; dcl package hash h([k],[v],8,'a'); method n() returns bigint; return h.num_items; end; endpackage;
-- data a (overwrite=yes); dcl bigint k v; method run(); k = 1; v = 2; end; enddata;
-- data b; dcl package p i; dcl bigint c; method run(); set a; c = i.n(); end; enddata;
abbrev pub reading_what_was_made : UnitTree
reading_what_was_made = record (with_columns (codes "k" ∷ codes "v" ∷ codes "c" ∷ []) (reader (Set (record {
  table = record { name = codes "a"; maker = 1 };
  present = None;
  columns = bigint_column (codes "k") ∷ bigint_column (codes "v") ∷ [];
} ∷ []) []) (codes "c" ∷ []) (codes "k" ∷ codes "v" ∷ []) (assign_at 300 (codes "c") (Called (Some (codes "i")) 0 NoArgument BigInt) ∷ []))) {
  instances = record {
    name = codes "i";
    package' = codes "p";
    variables = map bigint (codes "k" ∷ codes "v" ∷ []);
    objects = record { hashes = record hash_of_k_and_v { loaded = Some (record { table = stored (codes "a"); columns = bigint_column (codes "k") ∷ bigint_column (codes "v") ∷ [] }) } ∷ []; iterators = [] };
    methods = record { name = codes "n"; parameters = []; locals = []; returns = Some BigInt; body = all_statements (ReturnValue (col 110) (on_hash hash.NumItems) ∷ []) } ∷ [];
  } ∷ [];
}

-- instances with hash objects of their own, parameters of thread programs, and two tables of one name
pub record InstanceExamples : Type 0 where
  -- dcl package p q; dcl package p r; a = q.put(1, 10); b = r.put(1, 11); c = q.put(1, 12); x = q.count(); y = r.count();
  pub own_items : ran (record (program_with (codes "a" ∷ codes "b" ∷ codes "c" ∷ codes "x" ∷ codes "y" ∷ []) (
      assign_at 200 (codes "a") (put_into (codes "q") 1 10) ∷ assign_at 220 (codes "b") (put_into (codes "r") 1 11) ∷ assign_at 240 (codes "c") (put_into (codes "q") 1 12)
      ∷ assign_at 260 (codes "x") (count_in (codes "q")) ∷ assign_at 280 (codes "y") (count_in (codes "r")) ∷ [])) {
        instances = record { name = codes "q"; package' = codes "p"; variables = map bigint (codes "k" ∷ codes "v" ∷ []); objects = hash_and_iterator; methods = keeping_items }
            ∷ record { name = codes "r"; package' = codes "p"; variables = map bigint (codes "k" ∷ codes "v" ∷ []); objects = hash_and_iterator; methods = keeping_items } ∷ [];
      }) 40
      ≡ ends_with ((natural 0 ∷ natural 0 ∷ natural 1 ∷ natural 1 ∷ natural 1 ∷ []) ∷ []) (40 ∷ 19 ∷ 40 ∷ [])
  -- s.setparms(1); s.setparms(2); t.setparms(3); : the last values of the instance that the program reads from
  pub last_parameters : (seen (program_answer (with_setparms (SetParameters (col 20) (codes "s") (parameter_n 1) ∷ SetParameters (col 40) (codes "s") (parameter_n 2) ∷ SetParameters (col 60) (codes "t") (parameter_n 3) ∷ [])) [] (λ table. []) 10 0))
      ≡ record { rows = (natural 1 ∷ []) ∷ []; lines = codes "2" ∷ codes "r" ∷ codes "t" ∷ []; ending = Some Normal; budgets_left = 7 ∷ 10 ∷ 8 ∷ 10 ∷ 9 ∷ 9 ∷ [] }
  -- t.setparms(3); : the parameters of the instance that the program reads from are null
  pub other_parameters : (seen (program_answer (with_setparms (SetParameters (col 60) (codes "t") (parameter_n 3) ∷ [])) [] (λ table. []) 10 0)).lines ≡ codes "null" ∷ codes "r" ∷ codes "t" ∷ []
  -- the package means the table of the store, and the program that of the program before it
  pub two_tables_of_one_name : (seen (program_answer (OverTables reading_what_was_made) [] three_rows_stored 20 0)).rows ≡ (natural 1 ∷ natural 2 ∷ natural 3 ∷ []) ∷ []
