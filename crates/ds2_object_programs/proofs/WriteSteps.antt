-- How programs are written: spellings one behind the other, and what is asked of each part.
use Rattle.std.proofs.Common.{◌≡◌, ℕ, ◌<◌, ◌≤◌, Bool, true, false, not, ◌&&◌, IsTrue, List, [], ◌∷◌, ◌++◌, length, map, nat_lt, nat_le, Option, Some, None, refl, sym, ap, subst, ◌∙◌, append_assoc, leb-true, lt-ltb, arith}
use Rattle.std.specs.List.{list_all}
use Rattle.std.specs.Option.{option_map_or, is_some}
use Rattle.std.proofs.lemmas.List.{length-map}
use Rattle.std.proofs.lemmas.List.Folds.{list_all-map}
use Rattle.ds2_base.specs.Bytes.{Bytes}
use Rattle.ds2_token.specs.Words.{is_table_name}
use Rattle.ds2_value.specs.Types.{in_bounds}
use Rattle.ds2_code.specs.ValidCode.{is_short, own_lists_short, hash_short, method_short, reading_short, reference_allowed, constant_allowed, method_allowed, reading_allowed, lists_short, values_allowed}
use Rattle.ds2_code.specs.declared.instr.Instr.{Instr}
use Rattle.ds2_code.specs.declared.parts.HashPart.{HashPart}
use Rattle.ds2_code.specs.declared.parts.HashTable.{HashTable}
use Rattle.ds2_code.specs.declared.parts.OutputPart.{OutputPart}
use Rattle.ds2_code.specs.declared.parts.ProgramParts.{ProgramParts}
use Rattle.ds2_code.specs.declared.parts.ReadingPart.{ReadingPart}
use Rattle.ds2_code.specs.declared.parts.ReadingPart.TheVariants as reading
use Rattle.ds2_code.specs.declared.parts.Slot.{Slot}
use Rattle.ds2_code.specs.declared.parts.StagedParts.{StagedParts}
use Rattle.ds2_object_words.specs.Parts.{byte_part, number32_part, list_part, option_part, Writes, ItemsWritten}
use Rattle.ds2_object_words.specs.Words.{flag_part, name_part}
use Rattle.ds2_object_words.specs.CodeParts.{slot_line, constant_line, hash_line, method_line, output_line, hash_spelled, method_spelled, output_spelled}
use Rattle.ds2_object_words.proofs.ListSteps.{ItemsLeft, first_ruled, none_written, one_written, all_written}
use Rattle.ds2_object_words.proofs.PartLemmas.{both, and_true}
use Rattle.ds2_object_words.proofs.WriteSteps.{then_written, list_written, short_items}
use Rattle.ds2_object_instrs.specs.declared.instrs.WrittenInstr.{WrittenInstr}
use Rattle.ds2_object_instrs.specs.InstrSpelling.{written_instr_part, written_instr_of, fields_spelled}
use Rattle.ds2_object_programs.specs.ProgramRules.{instr_spelled, program_spelled, thread_spelled, reads_tables, reading_spelled, stages_spelled, data_spelled}
use Rattle.ds2_object_programs.specs.ProgramSpelling.{no_name_part, thread_name_part, globals_part, units_part, thread_reading_part, thread_program_part, OfThread, threads_part, stage_part, data_reading_part, data_program_part, written_globals, written_units, written_thread, staged_written, written_data}

-- ---- instructions

-- a written instruction whose type, where it has one, is in bounds
abbrev pub written_spelled : WrittenInstr → Bool
written_spelled w = fields_spelled w.fields

-- the same of instructions and of what is written of them
pub each_spelled : (instrs : List Instr) → IsTrue (list_all instr_spelled instrs) → IsTrue (list_all written_spelled (map written_instr_of instrs))
each_spelled instrs h = list_all-map written_spelled written_instr_of instrs ∙ h

-- no instruction is written yet
pub instrs_begun : (before : Bytes) (instrs : List Instr) → IsTrue (list_all instr_spelled instrs)
    → ItemsLeft written_instr_part written_spelled before (map written_instr_of instrs) before (map written_instr_of instrs)
instrs_begun before instrs h = none_written written_instr_part written_spelled before (map written_instr_of instrs) (each_spelled instrs h)

-- all instructions are written
pub instrs_all : (before out : Bytes) (instrs rest : List Instr) → rest ≡ [] → ItemsLeft written_instr_part written_spelled before (map written_instr_of instrs) out (map written_instr_of rest)
    → ItemsWritten written_instr_part before (map written_instr_of instrs) out
instrs_all before out instrs rest e left =
    all_written written_instr_part written_spelled before (map written_instr_of instrs) out (map written_instr_of rest) (ap (map written_instr_of) e) left

-- an instruction more
pub instr_more : (before out after : Bytes) (instrs whole rest : List Instr) (i : Instr) → whole ≡ i ∷ rest
    → ItemsLeft written_instr_part written_spelled before (map written_instr_of instrs) out (map written_instr_of whole) → Writes written_instr_part out (written_instr_of i) after
    → ItemsLeft written_instr_part written_spelled before (map written_instr_of instrs) after (map written_instr_of rest)
instr_more before out after instrs whole rest i e left written =
    one_written written_instr_part written_spelled before (map written_instr_of instrs) out (written_instr_of i) (map written_instr_of whole) (map written_instr_of rest) after
    (ap (map written_instr_of) e) left written

-- the first instruction that is left
pub instr_first : (before out : Bytes) (instrs whole rest : List Instr) (i : Instr) → whole ≡ i ∷ rest
    → ItemsLeft written_instr_part written_spelled before (map written_instr_of instrs) out (map written_instr_of whole) → IsTrue (instr_spelled i)
instr_first before out instrs whole rest i e left =
    first_ruled written_spelled (written_instr_of i) (map written_instr_of whole) (map written_instr_of rest) (ap (map written_instr_of) e) left.ruled

-- a count, and instructions behind it
pub instrs_written : {a b c : Bytes} (instrs : List Instr) → Writes number32_part a (length instrs) b → ItemsWritten written_instr_part b (map written_instr_of instrs) c
    → Writes (list_part written_instr_part) a (map written_instr_of instrs) c
instrs_written {a} {b} {c} instrs count items =
    let same : length (map written_instr_of instrs) ≡ length instrs = length-map instrs written_instr_of in
    let k : Writes number32_part a (length (map written_instr_of instrs)) b = rw same count in
    list_written k items

-- ---- what is asked of a program, part by part

-- items that pass two tests
pub all_both : {A : Type 0} (f g : A → Bool) (xs : List A) → IsTrue (list_all f xs) → IsTrue (list_all g xs) → IsTrue (list_all (λ x. f x && g x) xs)
all_both f g [] h k = refl
all_both f g (x ∷ xs) h k =
    let p : IsTrue (f x) × IsTrue (list_all f xs) = both (f x) (list_all f xs) h in
    let q : IsTrue (g x) × IsTrue (list_all g xs) = both (g x) (list_all g xs) k in
    and_true (f x && g x) (list_all (λ x. f x && g x) xs) (and_true (f x) (g x) p.0 q.0) (all_both f g xs p.1 q.1)

-- what is asked of the parts of a program
pub record PartRules (p : ProgramParts) : Type 0 where
  pub slots : IsTrue (is_short p.slots && list_all (λ (s : Slot). in_bounds s.ty) p.slots)
  pub constants : IsTrue (is_short p.constants && list_all constant_allowed p.constants)
  pub hashes : IsTrue (is_short p.hashes && list_all hash_spelled p.hashes)
  pub iterators : IsTrue (is_short p.iterators && list_all (λ (n : ℕ). true) p.iterators)
  pub parameters : IsTrue (is_short p.parameters && list_all (λ (n : ℕ). true) p.parameters)
  pub methods : IsTrue (is_short p.methods && list_all method_spelled p.methods)
  pub outputs : IsTrue (is_short p.outputs && list_all output_spelled p.outputs)
  pub instrs : IsTrue (is_short p.instrs && list_all instr_spelled p.instrs)

pub part_rules : (p : ProgramParts) → IsTrue (program_spelled p) → PartRules p
part_rules p h =
    let loaded = λ (x : HashPart). option_map_or (λ (t : HashTable). reference_allowed t.table) x.loaded true in
    let named = λ (o : OutputPart). is_table_name o.name in
    let few = λ (o : OutputPart). is_short o.columns in
    let k = both (lists_short p && values_allowed p) (list_all instr_spelled p.instrs) h in
    let lv = both (lists_short p) (values_allowed p) k.0 in
    let s = both (own_lists_short p)
    ((list_all hash_short p.hashes && list_all method_short p.methods) && (reading_short p.reading && list_all few p.outputs)) lv.0 in
    let own = both (is_short p.slots && (is_short p.constants && (is_short p.hashes && is_short p.iterators)))
    (is_short p.parameters && (is_short p.methods && (is_short p.outputs && is_short p.instrs))) s.0 in
    let a = both (is_short p.slots) (is_short p.constants && (is_short p.hashes && is_short p.iterators)) own.0 in
    let b = both (is_short p.constants) (is_short p.hashes && is_short p.iterators) a.1 in
    let c = both (is_short p.hashes) (is_short p.iterators) b.1 in
    let d = both (is_short p.parameters) (is_short p.methods && (is_short p.outputs && is_short p.instrs)) own.1 in
    let e = both (is_short p.methods) (is_short p.outputs && is_short p.instrs) d.1 in
    let f = both (is_short p.outputs) (is_short p.instrs) e.1 in
    let inner = both (list_all hash_short p.hashes && list_all method_short p.methods) (reading_short p.reading && list_all few p.outputs) s.1 in
    let hm = both (list_all hash_short p.hashes) (list_all method_short p.methods) inner.0 in
    let ro = both (reading_short p.reading) (list_all few p.outputs) inner.1 in
    let v = both (list_all (λ (s : Slot). in_bounds s.ty) p.slots && list_all constant_allowed p.constants)
    ((list_all loaded p.hashes && list_all method_allowed p.methods) && (reading_allowed p.reading && list_all named p.outputs)) lv.1 in
    let sc = both (list_all (λ (s : Slot). in_bounds s.ty) p.slots) (list_all constant_allowed p.constants) v.0 in
    let w = both (list_all loaded p.hashes && list_all method_allowed p.methods) (reading_allowed p.reading && list_all named p.outputs) v.1 in
    let hv = both (list_all loaded p.hashes) (list_all method_allowed p.methods) w.0 in
    let rv = both (reading_allowed p.reading) (list_all named p.outputs) w.1 in
    record {
      slots = and_true (is_short p.slots) (list_all (λ (s : Slot). in_bounds s.ty) p.slots) a.0 sc.0;
      constants = and_true (is_short p.constants) (list_all constant_allowed p.constants) b.0 sc.1;
      hashes = and_true (is_short p.hashes) (list_all hash_spelled p.hashes) c.0 (all_both hash_short loaded p.hashes hm.0 hv.0);
      iterators = short_items p.iterators c.1;
      parameters = short_items p.parameters d.0;
      methods = and_true (is_short p.methods) (list_all method_spelled p.methods) e.0 (all_both method_allowed method_short p.methods hv.1 hm.1);
      outputs = and_true (is_short p.outputs) (list_all output_spelled p.outputs) f.0 (all_both named few p.outputs rv.1 ro.1);
      instrs = and_true (is_short p.instrs) (list_all instr_spelled p.instrs) f.1 k.1;
    }

-- ---- names

-- a name behind its flag
pub name_written : {a b : Bytes} (name : Option Bytes) → IsTrue (is_some name) → Writes (option_part name_part) a name b → Writes thread_name_part a name b
unfolding thread_name_part flag_part
name_written None h w = absurd (let k : false ≡ true = h in cc)
name_written (Some n) h w = record { bytes = w.bytes; allowed = w.allowed }

-- the flag of no name
pub no_name_written : {a b : Bytes} (name : Option Bytes) → IsTrue (not (is_some name)) → Writes flag_part a (is_some name) b → Writes no_name_part a name b
unfolding no_name_part flag_part
no_name_written None h w = record { bytes = w.bytes; allowed = refl }
no_name_written (Some n) h w = absurd (let k : false ≡ true = h in cc)

-- ---- programs

pub globals_written : {a b c d e f : Bytes} (p : ProgramParts) → Writes (list_part slot_line) a p.slots b → Writes (list_part constant_line) b p.constants c
    → Writes (list_part hash_line) c p.hashes d → Writes (list_part number32_part) d p.iterators e → Writes (list_part number32_part) e p.parameters f
    → Writes globals_part a (written_globals p) f
unfolding globals_part
globals_written program m n o p q = let k = then_written m (then_written n (then_written o (then_written p q))) in record { bytes = k.bytes; allowed = k.allowed }

pub units_written : {a b c d e : Bytes} (p : ProgramParts) → Writes (list_part output_line) a p.outputs b → Writes number32_part b p.init c → Writes number32_part c p.run d
    → Writes number32_part d p.term e → Writes units_part a (written_units p) e
unfolding units_part
units_written program m n o p = let k = then_written m (then_written n (then_written o p)) in record { bytes = k.bytes; allowed = k.allowed }

pub thread_written : {a b c d e f g : Bytes} (p : ProgramParts) → Writes thread_name_part a p.name b → Writes globals_part b (written_globals p) c → Writes (list_part method_line) c p.methods d
    → Writes thread_reading_part d p.reading e → Writes units_part e (written_units p) f → Writes (list_part written_instr_part) f (map written_instr_of p.instrs) g
    → Writes thread_program_part a (written_thread p) g
unfolding thread_program_part
thread_written program m n o p q r = let k = then_written m (then_written n (then_written o (then_written p (then_written q r)))) in record { bytes = k.bytes; allowed = k.allowed }

pub data_written : {a b c d e f g : Bytes} (s : StagedParts) → Writes no_name_part a s.program.name b → Writes globals_part b (written_globals s.program) c
    → Writes (list_part method_line) c s.program.methods d → Writes data_reading_part d (staged_written s.program.reading s.stages) e → Writes units_part e (written_units s.program) f
    → Writes (list_part written_instr_part) f (map written_instr_of s.program.instrs) g → Writes data_program_part a (written_data s) g
unfolding data_program_part
data_written parts m n o p q r = let k = then_written m (then_written n (then_written o (then_written p (then_written q r)))) in record { bytes = k.bytes; allowed = k.allowed }

-- ---- readings

-- a reading of tables is written for a data program as for a thread program
pub tables_staged : {a b : Bytes} (r : ReadingPart) → IsTrue (reads_tables r) → Writes thread_reading_part a r b → Writes data_reading_part a (staged_written r []) b
unfolding thread_reading_part data_reading_part
tables_staged reading.Once h w = record { bytes = w.bytes; allowed = w.allowed }
tables_staged reading.Nothing h w = record { bytes = w.bytes; allowed = w.allowed }
tables_staged (reading.Set tables bys) h w = record { bytes = w.bytes; allowed = w.allowed }
tables_staged (reading.Merge tables bys false) h w = record { bytes = w.bytes; allowed = w.allowed }
tables_staged (reading.Merge tables bys true) h w = record { bytes = w.bytes; allowed = w.allowed }
tables_staged (reading.Stage threads slots) h w = absurd (let k : false ≡ true = h in cc)

few_threads : (threads : ℕ) → IsTrue (nat_le threads 64) → IsTrue (nat_lt threads 256)
few_threads threads h = let k : threads ≤ 64 = leb-true threads 64 h in lt-ltb threads 256 (omega arith)

-- the threads of a stage
pub threads_written : {a b : Bytes} (threads : ℕ) → b ≡ a ++ threads ∷ [] → IsTrue (nat_le 1 threads && nat_le threads 64) → Writes threads_part a threads b
unfolding threads_part byte_part
threads_written {a} {b} threads is h = record {
  bytes = is;
  allowed = and_true (nat_lt threads 256) (nat_le 1 threads && nat_le threads 64) (few_threads threads (both (nat_le 1 threads) (nat_le threads 64) h).1) h;
}

-- a stage behind its tag
pub stage_written : {a b c d e : Bytes} (threads : ℕ) (stage : ProgramParts) (slots : List ℕ) → b ≡ a ++ 5 ∷ [] → Writes threads_part b threads c
    → Writes thread_program_part c (written_thread stage) d → Writes (list_part number32_part) d slots e → Writes data_reading_part a (OfThread threads (written_thread stage) slots) e
unfolding data_reading_part stage_part
stage_written {a} {b} threads stage slots tag t p s =
    let k = then_written t (then_written p s) in
    let all : Bytes = threads_part.spelled threads ++ (thread_program_part.spelled (written_thread stage) ++ (list_part number32_part).spelled slots) in
    record {
      bytes = k.bytes ∙ ap (λ (z : Bytes). z ++ all) tag ∙ append_assoc a (5 ∷ []) all;
      allowed = k.allowed;
    }

-- ---- what is asked of readings and programs

-- what is asked of a thread program
pub record ThreadRules (p : ProgramParts) : Type 0 where
  pub named : IsTrue (is_some p.name)
  pub tables : IsTrue (reads_tables p.reading)
  pub reads : IsTrue (reading_spelled p.reading)
  pub program : IsTrue (program_spelled p)

pub thread_rules : (p : ProgramParts) → IsTrue (thread_spelled p) → ThreadRules p
thread_rules p h =
    let k = both (is_some p.name && (reads_tables p.reading && reading_spelled p.reading)) (program_spelled p) h in
    let n = both (is_some p.name) (reads_tables p.reading && reading_spelled p.reading) k.0 in
    let r = both (reads_tables p.reading) (reading_spelled p.reading) n.1 in
    record { named = n.0; tables = r.0; reads = r.1; program = k.1 }

-- what is asked of a data program
pub record DataRules (s : StagedParts) : Type 0 where
  pub unnamed : IsTrue (not (is_some s.program.name))
  pub program : IsTrue (program_spelled s.program)
  pub reads : IsTrue (reading_spelled s.program.reading && stages_spelled s.program.reading s.stages)

pub data_rules : (s : StagedParts) → IsTrue (data_spelled s) → DataRules s
data_rules s h =
    let k = both (not (is_some s.program.name) && (reading_spelled s.program.reading && program_spelled s.program)) (stages_spelled s.program.reading s.stages) h in
    let n = both (not (is_some s.program.name)) (reading_spelled s.program.reading && program_spelled s.program) k.0 in
    let r = both (reading_spelled s.program.reading) (program_spelled s.program) n.1 in
    record { unnamed = n.0; program = r.1; reads = and_true (reading_spelled s.program.reading) (stages_spelled s.program.reading s.stages) r.0 k.1 }

-- a program without a thread program reads from none
reads_no_stage : (r : ReadingPart) → IsTrue (stages_spelled r []) → IsTrue (reads_tables r)
reads_no_stage reading.Once h = refl
reads_no_stage reading.Nothing h = refl
reads_no_stage (reading.Set tables bys) h = refl
reads_no_stage (reading.Merge tables bys retains) h = refl
reads_no_stage (reading.Stage threads slots) h = h

pub alone_tables : (r : ReadingPart) (stages : List ProgramParts) → stages ≡ [] → IsTrue (reading_spelled r && stages_spelled r stages) → IsTrue (reads_tables r)
alone_tables r stages e h =
    reads_no_stage r (ap (λ (z : List ProgramParts). stages_spelled r z) (sym e) ∙ (both (reading_spelled r) (stages_spelled r stages) h).1)

pub alone_rules : (r : ReadingPart) (stages : List ProgramParts) → IsTrue (reading_spelled r && stages_spelled r stages) → IsTrue (reading_spelled r)
alone_rules r stages h = (both (reading_spelled r) (stages_spelled r stages) h).0

pub alone_written : (a b : Bytes) (r : ReadingPart) (stages : List ProgramParts) → stages ≡ [] → IsTrue (reading_spelled r && stages_spelled r stages) → Writes thread_reading_part a r b
    → Writes data_reading_part a (staged_written r stages) b
alone_written a b r stages e h w = subst (λ (z : List ProgramParts). Writes data_reading_part a (staged_written r z) b) (sym e) (tables_staged r (alone_tables r stages e h) w)

pub no_stage_there : (stages : List ProgramParts) → length stages < 1 → stages ≡ []
no_stage_there [] lt = refl
no_stage_there (s ∷ stages) lt = absurd (omega (arith, lt))

two_stages : (r : ReadingPart) (s t : ProgramParts) (stages : List ProgramParts) → stages_spelled r (s ∷ (t ∷ stages)) ≡ false
two_stages reading.Once s t stages = refl
two_stages reading.Nothing s t stages = refl
two_stages (reading.Set tables bys) s t stages = refl
two_stages (reading.Merge tables bys retains) s t stages = refl
two_stages (reading.Stage threads slots) s t stages = refl

-- a program has at most one thread program
pub one_stage_at_most : (r : ReadingPart) (stages : List ProgramParts) → 2 ≤ length stages → IsTrue (reading_spelled r && stages_spelled r stages) → ⊥
one_stage_at_most r [] le h = absurd (omega arith)
one_stage_at_most r (s ∷ []) le h = absurd (omega arith)
one_stage_at_most r (s ∷ (t ∷ stages)) le h =
    let k : IsTrue (stages_spelled r (s ∷ (t ∷ stages))) = (both (reading_spelled r) (stages_spelled r (s ∷ (t ∷ stages))) h).1 in
    absurd (let m : false ≡ true = sym (two_stages r s t stages) ∙ k in cc)

-- what is asked of a thread program, its threads and its slots
pub record StageRules (threads : ℕ) (stage : ProgramParts) (slots : List ℕ) : Type 0 where
  pub threads_allowed : IsTrue (nat_le 1 threads && nat_le threads 64)
  pub stage_allowed : IsTrue (thread_spelled stage)
  pub slots_short : IsTrue (is_short slots)

stage_rules_of : (threads : ℕ) (slots : List ℕ) (stage : ProgramParts) → IsTrue (reading_spelled (reading.Stage threads slots) && stages_spelled (reading.Stage threads slots) (stage ∷ []))
    → StageRules threads stage slots
stage_rules_of threads slots stage h =
    let k = both (is_short slots && (nat_le 1 threads && nat_le threads 64)) (thread_spelled stage) h in
    let m = both (is_short slots) (nat_le 1 threads && nat_le threads 64) k.0 in
    record { threads_allowed = m.1; stage_allowed = k.1; slots_short = m.0 }

pub stage_rules : (r : ReadingPart) (stage : ProgramParts) (threads : ℕ) (slots : List ℕ) → r ≡ reading.Stage threads slots → IsTrue (reading_spelled r && stages_spelled r (stage ∷ []))
    → StageRules threads stage slots
stage_rules r stage threads slots e h =
    stage_rules_of threads slots stage (ap (λ (z : ReadingPart). reading_spelled z && stages_spelled z (stage ∷ [])) (sym e) ∙ h)
