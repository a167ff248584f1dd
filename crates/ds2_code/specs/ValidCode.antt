-- Valid code: what is asked of a program's code, clause by clause. Valid code ends in time, and is never stuck.
use Rattle.std.specs.Prelude.{◌≡◌, ◌≤◌, IsTrue, ℕ, ◌+◌, ◌^◌, ◌==◌, nat_lt, nat_le, Bool, true, false, ◌&&◌, not, if◌then◌else◌, List, [], ◌∷◌, length, map, slice_get, Option, Some, None, bytes_eq}
use Rattle.std.specs.List.{list_all, list_any}
use Rattle.std.specs.Option.{option_map, option_map_or, is_some}
use Rattle.ds2_token.specs.Words.{is_table_name}
use Rattle.ds2_value.specs.Progress.{UnitOutcome, has_end}
use Rattle.ds2_value.specs.Schema.{distinct_names}
use Rattle.ds2_value.specs.Types.{in_bounds, join_of, fits, same_ty}
use Rattle.ds2_value.specs.Value.{is_null}
use Rattle.ds2_value.specs.declared.schema.Column.{Column}
use Rattle.ds2_value.specs.declared.ty.Ty.{Ty}
use Rattle.ds2_value.specs.declared.ty.Ty.TheVariants.{BigInt, Char}
use Rattle.ds2_code.specs.declared.instr.Instr.{Instr}
use Rattle.ds2_code.specs.declared.parts.ByPart.{ByPart}
use Rattle.ds2_code.specs.declared.parts.Constant.{Constant}
use Rattle.ds2_code.specs.declared.parts.HashPart.{HashPart}
use Rattle.ds2_code.specs.declared.parts.HashTable.{HashTable}
use Rattle.ds2_code.specs.declared.parts.MethodPart.{MethodPart}
use Rattle.ds2_code.specs.declared.parts.OutputPart.{OutputPart}
use Rattle.ds2_code.specs.declared.parts.ParameterPart.{ParameterPart}
use Rattle.ds2_code.specs.declared.parts.ProgramParts.{ProgramParts}
use Rattle.ds2_code.specs.declared.parts.ReadPart.{ReadPart}
use Rattle.ds2_code.specs.declared.parts.ReadingPart.{ReadingPart}
use Rattle.ds2_code.specs.declared.parts.ReadingPart.TheVariants as reading
use Rattle.ds2_code.specs.declared.parts.Slot.{Slot}
use Rattle.ds2_code.specs.declared.parts.StagedParts.{StagedParts}
use Rattle.ds2_code.specs.declared.parts.TableReference.{TableReference}
use Rattle.ds2_code.specs.CodeLaws.{unit_executed}
use Rattle.ds2_code.specs.CodeUnit.{most_executed, code_init, code_run, code_term}
use Rattle.ds2_code.specs.Desk.{ProgramData, SlotSettings}
use Rattle.ds2_code.specs.CodeBound.{HasBoundedJumps, jump_target, falls_through}
use Rattle.ds2_code.specs.InstructionTable.{kind_of}
use Rattle.ds2_code.specs.OperandTypes.{OperandTypes, CodeRole, OfUnit, OfMethod, signature_of, slot_type, parameter_slot_types, types_behind}

-- ---- operand types along the list

-- what is known before an instruction: whose code it is, and the types of the operands
pub record CodePoint : Type 0 where
  pub role : CodeRole
  pub types : OperandTypes

-- code of this role with these operands
abbrev pub point : CodeRole → OperandTypes → CodePoint
point role types = record { role = role; types = types }

-- the entries of the three units
abbrev pub unit_entries : ProgramParts → List ℕ
unit_entries code = code.init ∷ code.run ∷ code.term ∷ []

-- the role of the entry here, where a unit begins
abbrev pub unit_entry_role : List ℕ → ℕ → Option CodeRole
unit_entry_role [] at = None
unit_entry_role (u ∷ us) at = if u == at then Some OfUnit else unit_entry_role us at

-- the role of the entry here, where one of these methods begins, and else another one; in valid code entries at one instruction
-- have one role
abbrev pub method_entry_role : List MethodPart → ℕ → Option CodeRole → Option CodeRole
method_entry_role [] at other = other
method_entry_role (m ∷ ms) at other = method_entry_role ms at (if m.entry == at then Some (OfMethod (signature_of m)) else other)

-- the role of the entry here, where there is one
abbrev pub entry_role : ProgramParts → ℕ → Option CodeRole
entry_role code at = method_entry_role code.methods at (unit_entry_role (unit_entries code) at)

-- what is known at an instruction, from its entry's role, whether the run may come from the instruction before, and what stands
-- behind that: an entry begins with its role and no operand, and is reached only by code of its role that leaves none
abbrev pub Arrives : Option CodeRole → Bool → CodePoint → CodePoint → Type 0
Arrives None came before here = here ≡ before
Arrives (Some role) false before here = here ≡ point role []
Arrives (Some role) true before here = (before ≡ point role []) × (here ≡ before)

-- what stands behind an instruction: no operand where the run may not come from it
abbrev pub behind_instruction : Bool → CodeRole → OperandTypes → CodePoint
behind_instruction true role types = point role types
behind_instruction false role types = point role []

-- the code points along the list: what stands before each instruction follows from the instructions before it, each finds what
-- it needs, and the last one does not fall through
abbrev pub AlongList : ProgramParts → List (Option Ty) → ℕ → Bool → CodePoint → List Instr → List CodePoint → Type 0
AlongList code parameters at came before [] [] = came ≡ false
AlongList code parameters at came before [] (p ∷ ps) = ⊥
AlongList code parameters at came before (i ∷ is) [] = ⊥
AlongList code parameters at came before (i ∷ is) (p ∷ ps) =
    Arrives (entry_role code at) came before p × (types : OperandTypes) × (types_behind code parameters p.role i p.types ≡ Some types)
    × AlongList code parameters (at + 1) (falls_through (kind_of i)) (behind_instruction (falls_through (kind_of i)) p.role types) is ps

-- the list has such code points, no operand stands at a jump's target, which is code of the same role, and each unit and each
-- method begins at an instruction
pub record HasOperandTypes (code : ProgramParts) (parameters : List (Option Ty)) (points : List CodePoint) : Type 0 where
  pub along : AlongList code parameters 0 false (point OfUnit []) code.instrs points
  pub targets : (at to : ℕ) (i : Instr) (p : CodePoint) → slice_get code.instrs at ≡ Some i → slice_get points at ≡ Some p
      → jump_target (kind_of i) ≡ Some to → slice_get points to ≡ Some (point p.role [])
  pub units : (k at : ℕ) → slice_get (unit_entries code) k ≡ Some at → slice_get points at ≡ Some (point OfUnit [])
  pub methods : (k : ℕ) (m : MethodPart) → slice_get code.methods k ≡ Some m → slice_get points m.entry ≡ Some (point (OfMethod (signature_of m)) [])

-- ---- ranges

-- all are below a limit
abbrev pub all_below : ℕ → List ℕ → Bool
all_below n numbers = list_all (λ k. nat_lt k n) numbers

-- the slots of a hash object are there
abbrev pub hash_in_range : ℕ → HashPart → Bool
hash_in_range slots hash = all_below slots hash.key_slots && all_below slots hash.data_slots

-- the slots of a table of a reading are there
abbrev pub read_in_range : ℕ → ReadPart → Bool
read_in_range slots read = all_below slots read.slots && option_map_or (λ n. nat_lt n slots) read.present true

-- the slots of a BY variable are there
abbrev pub by_in_range : ℕ → ByPart → Bool
by_in_range slots by = nat_lt by.slot slots && (nat_lt by.first slots && nat_lt by.last slots)

-- at most 16 tables and 16 BY variables, whose slots are there
abbrev pub tables_in_range : ℕ → List ReadPart → List ByPart → Bool
tables_in_range slots tables bys =
    (nat_le (length tables) 16 && nat_le (length bys) 16) && (list_all (read_in_range slots) tables && list_all (by_in_range slots) bys)

-- the slots that a load sets are there
abbrev pub reading_in_range : ℕ → ReadingPart → Bool
reading_in_range slots (reading.Set tables bys) = tables_in_range slots tables bys
reading_in_range slots (reading.Merge tables bys retains) = tables_in_range slots tables bys
reading_in_range slots (reading.Stage threads into) = all_below slots into
reading_in_range slots reading.Once = true
reading_in_range slots reading.Nothing = true

-- the slots of an output are there
abbrev pub output_in_range : ℕ → OutputPart → Bool
output_in_range slots output = list_all (λ (c : List ℕ × ℕ). nat_lt c.1 slots) output.columns

-- each number beside the instructions names a part that is there
abbrev pub parts_in_range : ProgramParts → Bool
parts_in_range code =
    let slots = length code.slots in
    (list_all (hash_in_range slots) code.hashes && (all_below (length code.hashes) code.iterators && all_below slots code.parameters))
    && (reading_in_range slots code.reading && list_all (output_in_range slots) code.outputs)

-- ---- values and lists

-- a table's name, and columns with types in bounds
abbrev pub reference_allowed : TableReference → Bool
reference_allowed reference = is_table_name reference.name && list_all (λ (c : Column). in_bounds c.ty) reference.columns

-- a CHAR
abbrev pub is_char_type : Ty → Bool
is_char_type (Char n) = true
is_char_type _ = false

-- a constant is a value of its type, which is in bounds and no CHAR, and is not null
abbrev pub constant_allowed : Constant → Bool
constant_allowed c = (in_bounds c.ty && not (is_char_type c.ty)) && (not (is_null c.value) && fits c.value c.ty)

-- the types of a method are in bounds
abbrev pub method_allowed : MethodPart → Bool
method_allowed m = (list_all (λ (p : ParameterPart). in_bounds p.ty) m.parameters && list_all in_bounds m.locals) && option_map_or in_bounds m.returns true

-- the tables of a reading are allowed, and the threads are 1 to 64
abbrev pub reading_allowed : ReadingPart → Bool
reading_allowed (reading.Set tables bys) = list_all (λ (r : ReadPart). reference_allowed r.table) tables
reading_allowed (reading.Merge tables bys retains) = list_all (λ (r : ReadPart). reference_allowed r.table) tables
reading_allowed (reading.Stage threads into) = nat_le 1 threads && nat_le threads 64
reading_allowed reading.Once = true
reading_allowed reading.Nothing = true

-- each value is one that an object file can hold: types in bounds, constants of their types, names of tables
abbrev pub values_allowed : ProgramParts → Bool
values_allowed code =
    (list_all (λ (s : Slot). in_bounds s.ty) code.slots && list_all constant_allowed code.constants)
    && ((list_all (λ (h : HashPart). option_map_or (λ (t : HashTable). reference_allowed t.table) h.loaded true) code.hashes && list_all method_allowed code.methods)
    && (reading_allowed code.reading && list_all (λ (o : OutputPart). is_table_name o.name) code.outputs))

-- fewer than 2 ^ 32 items
abbrev pub is_short : {A : Type 0} → List A → Bool
is_short items = nat_lt (length items) (2 ^ 32)

-- the lists of a hash object's table are short
abbrev pub hash_table_short : HashTable → Bool
hash_table_short t = is_short t.table.columns && (is_short t.key_columns && is_short t.data_columns)

-- the lists of a hash object are short
abbrev pub hash_short : HashPart → Bool
hash_short h = (is_short h.key_slots && is_short h.data_slots) && option_map_or hash_table_short h.loaded true

-- the lists of a method are short
abbrev pub method_short : MethodPart → Bool
method_short m = is_short m.parameters && is_short m.locals

-- the lists of a table of a reading are short
abbrev pub read_short : ReadPart → Bool
read_short r = is_short r.table.columns && is_short r.slots

-- the lists of a reading are short
abbrev pub reading_short : ReadingPart → Bool
reading_short (reading.Set tables bys) = list_all read_short tables
reading_short (reading.Merge tables bys retains) = list_all read_short tables
reading_short (reading.Stage threads into) = is_short into
reading_short reading.Once = true
reading_short reading.Nothing = true

-- the lists of a program's parts have fewer than 2 ^ 32 items each
abbrev pub own_lists_short : ProgramParts → Bool
own_lists_short code =
    (is_short code.slots && (is_short code.constants && (is_short code.hashes && is_short code.iterators)))
    && (is_short code.parameters && (is_short code.methods && (is_short code.outputs && is_short code.instrs)))

-- each list has fewer than 2 ^ 32 items
abbrev pub lists_short : ProgramParts → Bool
lists_short code =
    own_lists_short code
    && ((list_all hash_short code.hashes && list_all method_short code.methods)
    && (reading_short code.reading && list_all (λ (o : OutputPart). is_short o.columns) code.outputs))

-- ---- outputs

-- a name is not among names
abbrev pub is_other_name : List ℕ → List (List ℕ) → Bool
is_other_name name names = list_all (λ other. not (bytes_eq name other)) names

-- no name stands twice
abbrev pub names_differ : List (List ℕ) → Bool
names_differ [] = true
names_differ (name ∷ names) = is_other_name name names && names_differ names

-- two outputs of one program have different names
abbrev pub outputs_differ : ProgramParts → Bool
outputs_differ code = names_differ (map (λ (o : OutputPart). o.name) code.outputs)

-- ---- the layout

-- a type that is there joins with the type of a slot that is there to the slot's type
abbrev pub joins_to_slot : Option Ty → Option Ty → Bool
joins_to_slot (Some t) (Some slot) = option_map_or (same_ty slot) (join_of t slot) false
joins_to_slot _ _ = false

-- the columns of a table join with their slots, one slot a column
abbrev pub columns_fit : List Slot → List Column → List ℕ → Bool
columns_fit slots [] [] = true
columns_fit slots [] (n ∷ ns) = false
columns_fit slots (c ∷ cs) [] = false
columns_fit slots (c ∷ cs) (n ∷ ns) = joins_to_slot (Some c.ty) (slot_type slots n) && columns_fit slots cs ns

-- a slot of a flag is of BIGINT
abbrev pub is_flag_slot : List Slot → ℕ → Bool
is_flag_slot slots n = option_map_or (same_ty BigInt) (slot_type slots n) false

-- a number is among numbers
abbrev pub is_among_numbers : ℕ → List ℕ → Bool
is_among_numbers n numbers = list_any (λ k. n == k) numbers

-- a table of a reading fits its slots, its `in=` flag is of BIGINT, and each BY variable is a column of it
abbrev pub read_fits : List Slot → List ByPart → ReadPart → Bool
read_fits slots bys read =
    (columns_fit slots read.table.columns read.slots && distinct_names read.table.columns)
    && (option_map_or (is_flag_slot slots) read.present true && list_all (λ (by : ByPart). is_among_numbers by.slot read.slots) bys)

-- the flags of a BY variable are of BIGINT
abbrev pub by_fits : List Slot → ByPart → Bool
by_fits slots by = is_flag_slot slots by.first && is_flag_slot slots by.last

-- the columns of numbers, in order, join with slots, one column a slot
abbrev pub chosen_columns_fit : List Slot → List Column → List ℕ → List ℕ → Bool
chosen_columns_fit slots columns [] [] = true
chosen_columns_fit slots columns [] (n ∷ ns) = false
chosen_columns_fit slots columns (k ∷ ks) [] = false
chosen_columns_fit slots columns (k ∷ ks) (n ∷ ns) =
    joins_to_slot (option_map (λ (c : Column). c.ty) (slice_get columns k)) (slot_type slots n) && chosen_columns_fit slots columns ks ns

-- the table of a hash object fits its key and data variables
abbrev pub hash_table_fits : List Slot → HashPart → HashTable → Bool
hash_table_fits slots hash loaded =
    distinct_names loaded.table.columns
    && (chosen_columns_fit slots loaded.table.columns loaded.key_columns hash.key_slots && chosen_columns_fit slots loaded.table.columns loaded.data_columns hash.data_slots)

-- the columns of an output have different names
abbrev pub output_fits : OutputPart → Bool
output_fits output = names_differ (map (λ (c : List ℕ × ℕ). c.0) output.columns)

-- the columns of an output, by the slots of the program that makes it
abbrev pub output_types : List Slot → OutputPart → List (Option Ty)
output_types slots output = map (λ (c : List ℕ × ℕ). slot_type slots c.1) output.columns

-- types join with slots, one slot a type
abbrev pub types_fit : List Slot → List (Option Ty) → List ℕ → Bool
types_fit slots [] [] = true
types_fit slots [] (n ∷ ns) = false
types_fit slots (t ∷ ts) [] = false
types_fit slots (t ∷ ts) (n ∷ ns) = joins_to_slot t (slot_type slots n) && types_fit slots ts ns

-- exactly one output, whose columns fit the slots of the program that reads from it
abbrev pub one_output_fits : List Slot → List Slot → List OutputPart → List ℕ → Bool
one_output_fits slots made (output ∷ []) into = types_fit slots (output_types made output) into
one_output_fits slots made _ into = false

-- there is a thread program, and it has exactly one output, whose columns fit the slots of the program that reads from it
abbrev pub stage_fits : List Slot → Option ProgramParts → List ℕ → Bool
stage_fits slots None into = false
stage_fits slots (Some stage) into = one_output_fits slots stage.slots stage.outputs into

-- the tables and BY variables of a reading fit the slots
abbrev pub tables_fit : List Slot → List ReadPart → List ByPart → Bool
tables_fit slots tables bys = list_all (read_fits slots bys) tables && list_all (by_fits slots) bys

-- the tables or the thread program of a reading fit the slots; only a reading from a thread program has one
abbrev pub reading_fits : List Slot → Option ProgramParts → ReadingPart → Bool
reading_fits slots stage (reading.Set tables bys) = not (is_some stage) && tables_fit slots tables bys
reading_fits slots stage (reading.Merge tables bys retains) = not (is_some stage) && tables_fit slots tables bys
reading_fits slots stage (reading.Stage threads into) = stage_fits slots stage into
reading_fits slots stage reading.Once = not (is_some stage)
reading_fits slots stage reading.Nothing = not (is_some stage)

-- slots and layout fit the tables, and the thread program where there is one
abbrev pub layout_fits : ProgramParts → Option ProgramParts → Bool
layout_fits code stage =
    (list_all (λ (hash : HashPart). option_map_or (hash_table_fits code.slots hash) hash.loaded true) code.hashes)
    && (reading_fits code.slots stage code.reading && list_all output_fits code.outputs)

-- the types of the thread program's parameters, where there is one
abbrev pub stage_parameters : Option ProgramParts → List (Option Ty)
stage_parameters None = []
stage_parameters (Some stage) = parameter_slot_types stage

-- ---- valid code

-- the code of one program is valid, beside the thread program that it reads from
pub record IsValidProgram (code : ProgramParts) (stage : Option ProgramParts) : Type 0 where
  -- from each entry the operand types are determined along the list, and they suffice at each instruction; no operand stands at
  -- a jump's target; each instruction that falls through has one behind it
  pub types : (points : List CodePoint) × HasOperandTypes code (stage_parameters stage) points
  -- each number beside the instructions names a part that is there; at most 16 tables and 16 BY variables
  pub ranges : IsTrue (parts_in_range code)
  -- each list has fewer than 2 ^ 32 items
  pub lists : IsTrue (lists_short code)
  -- each value is one that an object file can hold
  pub values : IsTrue (values_allowed code)
  -- two outputs have different names
  pub outputs : IsTrue (outputs_differ code)
  -- a jump that does not go forward goes to where a step of the budget begins
  pub steps : HasBoundedJumps code.instrs
  -- slots and layout fit the tables and the thread program
  pub layout : IsTrue (layout_fits code stage)

-- each program of a chain is valid beside the next one, and the last one reads from none
abbrev pub IsValidChain : ProgramParts → List ProgramParts → Type 0
IsValidChain code [] = IsValidProgram code None
IsValidChain code (stage ∷ stages) = IsValidProgram code (Some stage) × IsValidChain stage stages

-- the code of a program and of the thread program that it may stand on is valid: this one has a name, and stands on none
pub record IsValidStaged (parts : StagedParts) : Type 0 where
  pub chain : IsValidChain parts.program parts.stages
  pub names : IsTrue (list_all (λ (stage : ProgramParts). is_some stage.name) parts.stages)
  pub depth : length parts.stages ≤ 1

-- ---- what valid code promises

-- a unit has an end, normal or by a fault, and has executed at most (budget + 1) times as many instructions as the list has
pub record EndsInTime (code : ProgramParts) (budget : ℕ) (outcome : UnitOutcome ProgramData) : Type 0 where
  pub end : IsTrue (has_end outcome)
  pub bound : unit_executed outcome ≤ most_executed code budget

-- each unit of valid code ends in time, whatever its data, its load and its budget
pub record HasUnitsThatEnd (code : ProgramParts) (budget : ℕ) (load : SlotSettings) (state : ProgramData) : Type 0 where
  pub init : EndsInTime code budget (code_init code budget state)
  pub run : EndsInTime code budget (code_run code budget load state)
  pub term : EndsInTime code budget (code_term code budget state)

-- the units of each program of valid code end in time
abbrev pub ValidCodeEnds : Type 0
ValidCodeEnds =
    (parts : StagedParts) (k : ℕ) (code : ProgramParts) (budget : ℕ) (load : SlotSettings) (state : ProgramData) → IsValidStaged parts
    → slice_get (parts.program ∷ parts.stages) k ≡ Some code → HasUnitsThatEnd code budget load state
