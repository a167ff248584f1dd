-- Valid code has a spelling.
use Rattle.std.proofs.Common.{◌≡◌, ℕ, ◌+◌, ◌^◌, ◌<◌, ◌≤◌, Bool, true, false, cond, not, ◌&&◌, IsTrue, List, [], ◌∷◌, ◌++◌, length, nat_le, Option, Some, None, refl, leb-true, lt-ltb, arith}
use Rattle.std.proofs.lemmas.Bool.{ltb-true}
use Rattle.std.specs.List.{list_all, AllByRecursion}
use Rattle.std.specs.Option.{option_map_or, is_some}
use Rattle.ds2_token.specs.Words.{is_table_name}
use Rattle.ds2_value.specs.Types.{in_bounds}
use Rattle.ds2_value.specs.declared.ty.Ty.{Ty}
use Rattle.ds2_code.specs.CodeBound.{falls_through}
use Rattle.ds2_code.specs.InstructionTable.{kind_of}
use Rattle.ds2_code.specs.OperandTypes.{OperandTypes, CodeRole, OfUnit, types_behind}
use Rattle.ds2_code.specs.ValidCode.{CodePoint, point, behind_instruction, AlongList, read_in_range, by_in_range, tables_in_range, reading_in_range, hash_in_range, output_in_range, all_below, is_short, read_short, reading_short, own_lists_short, hash_short, method_short, lists_short, reference_allowed, constant_allowed, method_allowed, reading_allowed, values_allowed, hash_table_fits, output_fits, reading_fits, stage_parameters, IsValidProgram, IsValidStaged}
use Rattle.ds2_code.specs.declared.instr.Instr.{Instr}
use Rattle.ds2_code.specs.declared.instr.Instr.TheVariants as instr
use Rattle.ds2_code.specs.declared.parts.ByPart.{ByPart}
use Rattle.ds2_code.specs.declared.parts.HashPart.{HashPart}
use Rattle.ds2_code.specs.declared.parts.HashTable.{HashTable}
use Rattle.ds2_code.specs.declared.parts.OutputPart.{OutputPart}
use Rattle.ds2_code.specs.declared.parts.ProgramParts.{ProgramParts}
use Rattle.ds2_code.specs.declared.parts.ReadPart.{ReadPart}
use Rattle.ds2_code.specs.declared.parts.ReadingPart.{ReadingPart}
use Rattle.ds2_code.specs.declared.parts.ReadingPart.TheVariants as reading
use Rattle.ds2_code.specs.declared.parts.Slot.{Slot}
use Rattle.ds2_code.specs.declared.parts.StagedParts.{StagedParts}
use Rattle.ds2_object_words.specs.CodeParts.{read_spelled}
use Rattle.ds2_object_words.proofs.PartLemmas.{both, and_true}
use Rattle.ds2_object_programs.specs.ProgramRules.{instr_spelled, program_spelled, reading_spelled, reads_tables, thread_spelled, stages_spelled, data_spelled}
use Rattle.ds2_object_programs.proofs.WriteSteps.{all_both}
use Rattle.ds2_object.specs.ObjectSpelling.{has_no_name, program_linked, parts_linked, linked_behind, object_linked, IsValidObject}

-- ---- instructions

chosen_true : (b : Bool) (types behind : OperandTypes) → cond b (Some types) None ≡ Some behind → b ≡ true
chosen_true true types behind e = refl
chosen_true false types behind e = absurd cc

-- an instruction that finds its operands has a spelling
one_spelled : (code : ProgramParts) (parameters : List (Option Ty)) (role : CodeRole) (i : Instr) (types behind : OperandTypes) → types_behind code parameters role i types ≡ Some behind
    → IsTrue (instr_spelled i)
one_spelled code parameters role (instr.Const n) types behind e = refl
one_spelled code parameters role (instr.Null ty) types behind e = chosen_true (in_bounds ty) (ty ∷ types) behind e
one_spelled code parameters role (instr.GLoad n) types behind e = refl
one_spelled code parameters role (instr.GStore n) types behind e = refl
one_spelled code parameters role (instr.LLoad n) types behind e = refl
one_spelled code parameters role (instr.LStore n) types behind e = refl
one_spelled code parameters role instr.DropTop types behind e = refl
one_spelled code parameters role instr.IToD types behind e = refl
one_spelled code parameters role (instr.Rescale p s) types behind e = refl
one_spelled code parameters role (instr.Pad n) types behind e = refl
one_spelled code parameters role (instr.Cut n) types behind e = refl
one_spelled code parameters role instr.IAdd types behind e = refl
one_spelled code parameters role instr.ISub types behind e = refl
one_spelled code parameters role instr.IMul types behind e = refl
one_spelled code parameters role instr.INeg types behind e = refl
one_spelled code parameters role instr.DAdd types behind e = refl
one_spelled code parameters role instr.DSub types behind e = refl
one_spelled code parameters role instr.DMul types behind e = refl
one_spelled code parameters role instr.DDiv types behind e = refl
one_spelled code parameters role instr.DNeg types behind e = refl
one_spelled code parameters role (instr.ICmp c) types behind e = refl
one_spelled code parameters role (instr.DCmp c) types behind e = refl
one_spelled code parameters role (instr.TCmp c) types behind e = refl
one_spelled code parameters role instr.And types behind e = refl
one_spelled code parameters role instr.Or types behind e = refl
one_spelled code parameters role instr.Not types behind e = refl
one_spelled code parameters role instr.ITruth types behind e = refl
one_spelled code parameters role instr.DTruth types behind e = refl
one_spelled code parameters role (instr.Choose n) types behind e = refl
one_spelled code parameters role (instr.Least n) types behind e = refl
one_spelled code parameters role (instr.Greatest n) types behind e = refl
one_spelled code parameters role (instr.Apply f) types behind e = refl
one_spelled code parameters role instr.Cat types behind e = refl
one_spelled code parameters role (instr.Tick place) types behind e = refl
one_spelled code parameters role (instr.Jump n) types behind e = refl
one_spelled code parameters role (instr.JFalse n) types behind e = refl
one_spelled code parameters role (instr.JTrue n) types behind e = refl
one_spelled code parameters role (instr.Call n) types behind e = refl
one_spelled code parameters role instr.Ret types behind e = refl
one_spelled code parameters role instr.RetV types behind e = refl
one_spelled code parameters role instr.NoWhen types behind e = refl
one_spelled code parameters role (instr.Output n) types behind e = refl
one_spelled code parameters role instr.Show types behind e = refl
one_spelled code parameters role (instr.Put n) types behind e = refl
one_spelled code parameters role (instr.HCall n f) types behind e = refl
one_spelled code parameters role (instr.ICall n f) types behind e = refl
one_spelled code parameters role (instr.SetParm n) types behind e = refl
one_spelled code parameters role instr.End types behind e = refl

-- and so do all instructions of the list
list_spelled : (code : ProgramParts) (parameters : List (Option Ty)) (at : ℕ) (came : Bool) (before : CodePoint) (instrs : List Instr) (points : List CodePoint)
    → AlongList code parameters at came before instrs points → IsTrue (list_all instr_spelled instrs)
list_spelled code parameters at came before [] points h = refl
list_spelled code parameters at came before (i ∷ instrs) [] h = absurd h
list_spelled code parameters at came before (i ∷ instrs) (p ∷ points) h =
    and_true (instr_spelled i) (list_all instr_spelled instrs) (one_spelled code parameters p.role i p.types h.1 h.2)
    (list_spelled code parameters (at + 1) (falls_through (kind_of i)) (behind_instruction (falls_through (kind_of i)) p.role h.1) instrs points h.3)

-- ---- programs

pub program_is_spelled : (code : ProgramParts) (stage : Option ProgramParts) → IsValidProgram code stage → IsTrue (program_spelled code)
program_is_spelled code stage v =
    and_true (lists_short code && values_allowed code) (list_all instr_spelled code.instrs) (and_true (lists_short code) (values_allowed code) v.lists v.values)
    (list_spelled code (stage_parameters stage) 0 false (point OfUnit []) code.instrs v.types.0 v.types.1.along)

few_are_short : {A : Type 0} (xs : List A) → IsTrue (nat_le (length xs) 16) → IsTrue (is_short xs)
few_are_short xs h = let k : length xs ≤ 16 = leb-true (length xs) 16 h in lt-ltb (length xs) (2 ^ 32) (omega arith)

tables_are_spelled : (n : ℕ) (tables : List ReadPart) (bys : List ByPart) → IsTrue (list_all (λ (r : ReadPart). reference_allowed r.table) tables) → IsTrue (list_all read_short tables)
    → IsTrue (tables_in_range n tables bys) → IsTrue (is_short tables && (list_all read_spelled tables && is_short bys))
tables_are_spelled n tables bys allowed short ranges =
    let few = both (nat_le (length tables) 16 && nat_le (length bys) 16) (list_all (read_in_range n) tables && list_all (by_in_range n) bys) ranges in
    let each = both (nat_le (length tables) 16) (nat_le (length bys) 16) few.0 in
    and_true (is_short tables) (list_all read_spelled tables && is_short bys) (few_are_short tables each.0)
    (and_true (list_all read_spelled tables) (is_short bys) (all_both (λ (r : ReadPart). reference_allowed r.table) read_short tables allowed short) (few_are_short bys each.1))

reading_is_spelled : (n : ℕ) (r : ReadingPart) → IsTrue (reading_allowed r) → IsTrue (reading_short r) → IsTrue (reading_in_range n r) → IsTrue (reading_spelled r)
reading_is_spelled n reading.Once allowed short ranges = refl
reading_is_spelled n reading.Nothing allowed short ranges = refl
reading_is_spelled n (reading.Set tables bys) allowed short ranges = tables_are_spelled n tables bys allowed short ranges
reading_is_spelled n (reading.Merge tables bys retains) allowed short ranges = tables_are_spelled n tables bys allowed short ranges
reading_is_spelled n (reading.Stage threads slots) allowed short ranges = and_true (is_short slots) (nat_le 1 threads && nat_le threads 64) short allowed

-- the reading of valid code has a spelling
pub valid_reading : (code : ProgramParts) (stage : Option ProgramParts) → IsValidProgram code stage → IsTrue (reading_spelled code.reading)
valid_reading code stage v =
    let n = length code.slots in
    let outputs_short = λ (o : OutputPart). is_short o.columns in
    let outputs_named = λ (o : OutputPart). is_table_name o.name in
    let loaded_allowed = λ (h : HashPart). option_map_or (λ (t : HashTable). reference_allowed t.table) h.loaded true in
    let values = (both (list_all (λ (s : Slot). in_bounds s.ty) code.slots && list_all constant_allowed code.constants)
    ((list_all loaded_allowed code.hashes && list_all method_allowed code.methods) && (reading_allowed code.reading && list_all outputs_named code.outputs)) v.values).1 in
    let reads = both (list_all loaded_allowed code.hashes && list_all method_allowed code.methods) (reading_allowed code.reading && list_all outputs_named code.outputs) values in
    let lists = (both (own_lists_short code)
    ((list_all hash_short code.hashes && list_all method_short code.methods) && (reading_short code.reading && list_all outputs_short code.outputs)) v.lists).1 in
    let short = both (list_all hash_short code.hashes && list_all method_short code.methods) (reading_short code.reading && list_all outputs_short code.outputs) lists in
    let ranges = both (list_all (hash_in_range n) code.hashes && (all_below (length code.hashes) code.iterators && all_below n code.parameters))
    (reading_in_range n code.reading && list_all (output_in_range n) code.outputs) v.ranges in
    reading_is_spelled n code.reading (both (reading_allowed code.reading) (list_all outputs_named code.outputs) reads.1).0
    (both (reading_short code.reading) (list_all outputs_short code.outputs) short.1).0 (both (reading_in_range n code.reading) (list_all (output_in_range n) code.outputs) ranges.1).0

-- what the layout says of the reading
valid_layout : (code : ProgramParts) (stage : Option ProgramParts) → IsValidProgram code stage → IsTrue (reading_fits code.slots stage code.reading)
valid_layout code stage v =
    let k = both (list_all (λ (h : HashPart). option_map_or (hash_table_fits code.slots h) h.loaded true) code.hashes)
    (reading_fits code.slots stage code.reading && list_all output_fits code.outputs) v.layout in
    (both (reading_fits code.slots stage code.reading) (list_all output_fits code.outputs) k.1).0

-- ---- thread programs

alone_reads_tables : (slots : List Slot) (r : ReadingPart) → IsTrue (reading_fits slots None r) → IsTrue (reads_tables r)
alone_reads_tables slots reading.Once h = refl
alone_reads_tables slots reading.Nothing h = refl
alone_reads_tables slots (reading.Set tables bys) h = refl
alone_reads_tables slots (reading.Merge tables bys retains) h = refl
alone_reads_tables slots (reading.Stage threads into) h = h

alone_spelled : (r : ReadingPart) → IsTrue (reads_tables r) → IsTrue (stages_spelled r [])
alone_spelled reading.Once h = refl
alone_spelled reading.Nothing h = refl
alone_spelled (reading.Set tables bys) h = refl
alone_spelled (reading.Merge tables bys retains) h = refl
alone_spelled (reading.Stage threads into) h = h

with_stage_spelled : (slots : List Slot) (stage : ProgramParts) (r : ReadingPart) → IsTrue (reading_fits slots (Some stage) r) → IsTrue (thread_spelled stage) → IsTrue (stages_spelled r (stage ∷ []))
with_stage_spelled slots stage reading.Once h t = absurd (let k : false ≡ true = h in cc)
with_stage_spelled slots stage reading.Nothing h t = absurd (let k : false ≡ true = h in cc)
with_stage_spelled slots stage (reading.Set tables bys) h t = absurd (let k : false ≡ true = h in cc)
with_stage_spelled slots stage (reading.Merge tables bys retains) h t = absurd (let k : false ≡ true = h in cc)
with_stage_spelled slots stage (reading.Stage threads into) h t = t

thread_is_spelled : (stage : ProgramParts) → IsTrue (is_some stage.name) → IsValidProgram stage None → IsTrue (thread_spelled stage)
thread_is_spelled stage named v =
    and_true (is_some stage.name && (reads_tables stage.reading && reading_spelled stage.reading)) (program_spelled stage)
    (and_true (is_some stage.name) (reads_tables stage.reading && reading_spelled stage.reading) named
    (and_true (reads_tables stage.reading) (reading_spelled stage.reading) (alone_reads_tables stage.slots stage.reading (valid_layout stage None v)) (valid_reading stage None v)))
    (program_is_spelled stage None v)

-- ---- objects

own_spelled : (code : ProgramParts) (stage : Option ProgramParts) (stages : List ProgramParts) → IsTrue (not (is_some code.name)) → IsValidProgram code stage → IsTrue (stages_spelled code.reading stages)
    → IsTrue (data_spelled (record { program = code; stages = stages }))
own_spelled code stage stages unnamed v s =
    and_true (not (is_some code.name) && (reading_spelled code.reading && program_spelled code)) (stages_spelled code.reading stages)
    (and_true (not (is_some code.name)) (reading_spelled code.reading && program_spelled code) unnamed
    (and_true (reading_spelled code.reading) (program_spelled code) (valid_reading code stage v) (program_is_spelled code stage v))) s

staged_spelled : (code : ProgramParts) (stages : List ProgramParts) → IsTrue (not (is_some code.name)) → IsValidStaged (record { program = code; stages = stages })
    → IsTrue (data_spelled (record { program = code; stages = stages }))
staged_spelled code [] unnamed v = own_spelled code None [] unnamed v.chain (alone_spelled code.reading (alone_reads_tables code.slots code.reading (valid_layout code None v.chain)))
staged_spelled code (stage ∷ []) unnamed v =
    let named : IsTrue (is_some stage.name) = (both (is_some stage.name) true v.names).0 in
    own_spelled code (Some stage) (stage ∷ []) unnamed v.chain.0
    (with_stage_spelled code.slots stage code.reading (valid_layout code (Some stage) v.chain.0) (thread_is_spelled stage named v.chain.1))
staged_spelled code (stage ∷ (other ∷ stages)) unnamed v = absurd (let k : length (stage ∷ (other ∷ stages)) ≤ 1 = v.depth in omega arith)

-- valid code of a data program has a spelling
pub valid_spelled : (s : StagedParts) → IsTrue (has_no_name s) → IsValidStaged s → IsTrue (data_spelled s)
valid_spelled s unnamed v = staged_spelled s.program s.stages unnamed v

-- programs that are linked have no names
links_unnamed : (earlier programs : List StagedParts) → IsTrue (linked_behind earlier programs) → IsTrue (list_all has_no_name programs)
links_unnamed earlier [] h = refl
links_unnamed earlier (p ∷ programs) h =
    let k = both (program_linked earlier p) (linked_behind (earlier ++ p ∷ []) programs) h in
    let n = both (has_no_name p) (parts_linked earlier p.program && list_all (parts_linked earlier) p.stages) k.0 in
    and_true (has_no_name p) (list_all has_no_name programs) n.0 (links_unnamed (earlier ++ p ∷ []) programs k.1)

pub behind_unnamed : (programs : List StagedParts) → IsTrue (linked_behind [] programs) → IsTrue (list_all has_no_name programs)
behind_unnamed = links_unnamed []

pub linked_unnamed : (programs : List StagedParts) → IsTrue (object_linked programs) → IsTrue (list_all has_no_name programs)
linked_unnamed programs h = behind_unnamed programs (both (is_short programs) (linked_behind [] programs) h).1

pub linked_fits : (programs : List StagedParts) → IsTrue (object_linked programs) → length programs < 2 ^ 32
linked_fits programs h = ltb-true (length programs) (2 ^ 32) (both (is_short programs) (linked_behind [] programs) h).0

pub linked_short : (programs : List StagedParts) → IsTrue (object_linked programs) → IsTrue (is_short programs)
linked_short programs h = (both (is_short programs) (linked_behind [] programs) h).0

all_spelled : (programs : List StagedParts) → IsTrue (list_all has_no_name programs) → AllByRecursion IsValidStaged programs → IsTrue (list_all data_spelled programs)
all_spelled [] h v = refl
all_spelled (p ∷ programs) h v =
    let k = both (has_no_name p) (list_all has_no_name programs) h in
    and_true (data_spelled p) (list_all data_spelled programs) (valid_spelled p k.0 v.0) (all_spelled programs k.1 v.1)

-- the programs of a valid object have spellings
pub object_is_spelled : (programs : List StagedParts) → IsValidObject programs → IsTrue (list_all data_spelled programs)
object_is_spelled programs v = all_spelled programs (linked_unnamed programs v.links) v.each
