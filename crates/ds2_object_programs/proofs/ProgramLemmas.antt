-- Programs are parts.
use Rattle.std.proofs.Common.{◌≡◌, ℕ, suc, ◌+◌, length, subst, arith, Bool, true, false, not, ◌&&◌, IsTrue, List, [], ◌∷◌, ◌++◌, map, Option, Some, None, refl, sym, ap, ◌∙◌}
use Rattle.std.specs.Option.{option_map_or, is_some}
use Rattle.std.specs.Prelude.{nat_le}
use Rattle.ds2_base.specs.Bytes.{Bytes}
use Rattle.ds2_code.specs.declared.parts.ByPart.{ByPart}
use Rattle.ds2_code.specs.declared.parts.Constant.{Constant}
use Rattle.ds2_code.specs.declared.parts.HashPart.{HashPart}
use Rattle.ds2_code.specs.declared.parts.MethodPart.{MethodPart}
use Rattle.ds2_code.specs.declared.parts.OutputPart.{OutputPart}
use Rattle.ds2_code.specs.declared.parts.ReadPart.{ReadPart}
use Rattle.ds2_code.specs.declared.parts.ReadingPart.{ReadingPart}
use Rattle.ds2_code.specs.declared.parts.ReadingPart.TheVariants as reading
use Rattle.ds2_code.specs.declared.parts.Slot.{Slot}
use Rattle.ds2_object_words.specs.PartLaws.{IsLawfulPart}
use Rattle.ds2_object_words.specs.Parts.{FormatPart, byte_part, number32_part, ◌⨾◌, variant_part, checked_part, list_part}
use Rattle.ds2_object_words.specs.Words.{flag_part, name_part}
use Rattle.ds2_object_words.specs.CodeParts.{slot_line, constant_line, hash_line, method_line, read_line, by_line, output_line}
use Rattle.ds2_object_instrs.specs.declared.instrs.WrittenInstr.{WrittenInstr}
use Rattle.ds2_object_instrs.specs.InstrSpelling.{written_instr_part}
use Rattle.ds2_object_words.proofs.PartLemmas.{both, empty_law, seen_as_law, variant_law, checked_law, tagged_law, AreAlternatives, some_is}
use Rattle.ds2_object_words.proofs.NumberLemmas.{byte_law, number32_law, list_law}
use Rattle.ds2_object_words.proofs.WordLemmas.{pair_law, flag_law, name_law}
use Rattle.ds2_object_words.proofs.CodePartLemmas.{slot_law, hash_law, method_law, read_law, by_law, output_law}
use Rattle.ds2_object_words.proofs.ConstantLemmas.{constant_law}
use Rattle.ds2_object_instrs.proofs.InstrLemmas.{written_instr_law}
use Rattle.ds2_object_programs.specs.declared.globals.Globals.{Globals}
use Rattle.ds2_object_programs.specs.declared.units.Units.{Units}
use Rattle.ds2_object_programs.specs.ProgramSpelling.{no_name_part, flagged_name, thread_name_part, globals_part, units_part, reading_tag, is_once, is_nothing, set_tables, merge_tables, retaining_tables, tables_part, table_readings, thread_reading_part, WrittenProgram, program_part, thread_program_part, StagedReading, OfTables, OfThread, staged_tag, table_reading_in, thread_in, threads_part, stage_part, data_readings, data_reading_part, data_program_part}

-- ---- names

unset : (flag : Bool) → IsTrue (not flag) → false ≡ flag
unset false h = refl
unset true h = absurd (let k : false ≡ true = h in cc)

unnamed : (name : Option Bytes) → IsTrue (not (is_some name)) → None ≡ name
unnamed None h = refl
unnamed (Some n) h = absurd (let k : false ≡ true = h in cc)

pub no_name_law : IsLawfulPart no_name_part
unfolding no_name_part
no_name_law =
    seen_as_law {A = Bool} {B = Option Bytes} (λ (flag : Bool). None) (λ (name : Option Bytes). is_some name) (checked_part not flag_part) (checked_law not flag_part flag_law)
    (λ flag h. unset flag (both (flag_part.allows flag) (not flag) h).1)
    (λ name h. unnamed name (both (flag_part.allows (is_some name)) (not (is_some name)) h).1)

name_there : (x : Bool × Bytes) → IsTrue x.0 → flagged_name (Some x.1) ≡ Some x
name_there x h = ap (λ (flag : Bool). Some (flag, x.1)) (sym h)

name_back : (name : Option Bytes) (x : Bool × Bytes) → flagged_name name ≡ Some x → Some x.1 ≡ name
name_back None x e = absurd cc
name_back (Some n) x e = ap (λ (y : Bool × Bytes). Some y.1) (sym (some_is {A = Bool × Bytes} (true, n) x e))

pub thread_name_law : IsLawfulPart thread_name_part
unfolding thread_name_part
thread_name_law =
    variant_law {A = Bool × Bytes} {B = Option Bytes} (λ (x : Bool × Bytes). Some x.1) flagged_name (checked_part (λ (flag : Bool). flag) flag_part ⨾ name_part)
    (pair_law (checked_part (λ (flag : Bool). flag) flag_part) name_part (checked_law (λ (flag : Bool). flag) flag_part flag_law) name_law)
    (λ x h. name_there x (both (flag_part.allows x.0) x.0 (both (flag_part.allows x.0 && x.0) (name_part.allows x.1) h).0).1) name_back

-- ---- what stands before the reading and behind it

numbers_law : IsLawfulPart (list_part number32_part)
numbers_law = list_law number32_part number32_law

pub globals_law : IsLawfulPart globals_part
unfolding globals_part
globals_law =
    seen_as_law (λ (x : List Slot × (List Constant × (List HashPart × (List ℕ × List ℕ)))). record { slots = x.0; constants = x.1.0; hashes = x.1.1.0; iterators = x.1.1.1.0; parameters = x.1.1.1.1 })
    (λ (g : Globals). (g.slots, (g.constants, (g.hashes, (g.iterators, g.parameters)))))
    (list_part slot_line ⨾ list_part constant_line ⨾ list_part hash_line ⨾ list_part number32_part ⨾ list_part number32_part)
    (pair_law (list_part slot_line) (list_part constant_line ⨾ list_part hash_line ⨾ list_part number32_part ⨾ list_part number32_part) (list_law slot_line slot_law)
    (pair_law (list_part constant_line) (list_part hash_line ⨾ list_part number32_part ⨾ list_part number32_part) (list_law constant_line constant_law)
    (pair_law (list_part hash_line) (list_part number32_part ⨾ list_part number32_part) (list_law hash_line hash_law)
    (pair_law (list_part number32_part) (list_part number32_part) numbers_law numbers_law))))
    (λ a h. refl) (λ b h. refl)

pub units_law : IsLawfulPart units_part
unfolding units_part
units_law =
    seen_as_law (λ (x : List OutputPart × (ℕ × (ℕ × ℕ))). record { outputs = x.0; init = x.1.0; run = x.1.1.0; term = x.1.1.1 }) (λ (u : Units). (u.outputs, (u.init, (u.run, u.term))))
    (list_part output_line ⨾ number32_part ⨾ number32_part ⨾ number32_part)
    (pair_law (list_part output_line) (number32_part ⨾ number32_part ⨾ number32_part) (list_law output_line output_law)
    (pair_law number32_part (number32_part ⨾ number32_part) number32_law (pair_law number32_part number32_part number32_law number32_law)))
    (λ a h. refl) (λ b h. refl)

-- ---- readings

once_only : (r : ReadingPart) → IsTrue (is_once r) → reading.Once ≡ r
once_only reading.Once h = refl
once_only reading.Nothing h = absurd (let k : false ≡ true = h in cc)
once_only (reading.Set tables bys) h = absurd (let k : false ≡ true = h in cc)
once_only (reading.Merge tables bys retains) h = absurd (let k : false ≡ true = h in cc)
once_only (reading.Stage threads slots) h = absurd (let k : false ≡ true = h in cc)

nothing_only : (r : ReadingPart) → IsTrue (is_nothing r) → reading.Nothing ≡ r
nothing_only reading.Once h = absurd (let k : false ≡ true = h in cc)
nothing_only reading.Nothing h = refl
nothing_only (reading.Set tables bys) h = absurd (let k : false ≡ true = h in cc)
nothing_only (reading.Merge tables bys retains) h = absurd (let k : false ≡ true = h in cc)
nothing_only (reading.Stage threads slots) h = absurd (let k : false ≡ true = h in cc)

set_back : (r : ReadingPart) (x : List ReadPart × List ByPart) → set_tables r ≡ Some x → reading.Set x.0 x.1 ≡ r
set_back reading.Once x e = absurd cc
set_back reading.Nothing x e = absurd cc
set_back (reading.Set tables bys) x e = ap (λ (y : List ReadPart × List ByPart). reading.Set y.0 y.1) (sym (some_is {A = List ReadPart × List ByPart} (tables, bys) x e))
set_back (reading.Merge tables bys retains) x e = absurd cc
set_back (reading.Stage threads slots) x e = absurd cc

merge_back : (r : ReadingPart) (x : List ReadPart × List ByPart) → merge_tables r ≡ Some x → reading.Merge x.0 x.1 false ≡ r
merge_back reading.Once x e = absurd cc
merge_back reading.Nothing x e = absurd cc
merge_back (reading.Set tables bys) x e = absurd cc
merge_back (reading.Merge tables bys false) x e = ap (λ (y : List ReadPart × List ByPart). reading.Merge y.0 y.1 false) (sym (some_is {A = List ReadPart × List ByPart} (tables, bys) x e))
merge_back (reading.Merge tables bys true) x e = absurd cc
merge_back (reading.Stage threads slots) x e = absurd cc

retaining_back : (r : ReadingPart) (x : List ReadPart × List ByPart) → retaining_tables r ≡ Some x → reading.Merge x.0 x.1 true ≡ r
retaining_back reading.Once x e = absurd cc
retaining_back reading.Nothing x e = absurd cc
retaining_back (reading.Set tables bys) x e = absurd cc
retaining_back (reading.Merge tables bys false) x e = absurd cc
retaining_back (reading.Merge tables bys true) x e = ap (λ (y : List ReadPart × List ByPart). reading.Merge y.0 y.1 true) (sym (some_is {A = List ReadPart × List ByPart} (tables, bys) x e))
retaining_back (reading.Stage threads slots) x e = absurd cc

variant_tagged_at : {A B : Type 0} (to : A → B) (p : FormatPart A) (tag : B → ℕ) (n : ℕ) (b : B) (o : Option A) → ((a : A) → o ≡ Some a → to a ≡ b) → ((a : A) → tag (to a) ≡ n)
    → IsTrue (option_map_or p.allows o false) → tag b ≡ n
variant_tagged_at to p tag n b None back tagged h = absurd (let k : false ≡ true = h in cc)
variant_tagged_at to p tag n b (Some a) back tagged h = ap tag (sym (back a refl)) ∙ tagged a

-- a value that stands for one of a type has the tag of what it stands for
variant_tagged : {A B : Type 0} (to : A → B) (from : B → Option A) (p : FormatPart A) (tag : B → ℕ) (n : ℕ) → ((b : B) (a : A) → from b ≡ Some a → to a ≡ b) → ((a : A) → tag (to a) ≡ n)
    → (b : B) → IsTrue ((variant_part to from p).allows b) → tag b ≡ n
variant_tagged {A} to from p tag n back tagged b h = variant_tagged_at to p tag n b (from b) (back b) tagged h

tables_law : IsLawfulPart tables_part
tables_law = pair_law (list_part read_line) (list_part by_line) (list_law read_line read_law) (list_law by_line by_law)

readings_tagged : AreAlternatives reading_tag 0 table_readings
readings_tagged = (
  empty_law reading.Once is_once refl once_only,
  λ r h. ap reading_tag (sym (once_only r h)),
  (
    empty_law reading.Nothing is_nothing refl nothing_only,
    λ r h. ap reading_tag (sym (nothing_only r h)),
    (
      variant_law (λ (x : List ReadPart × List ByPart). reading.Set x.0 x.1) set_tables tables_part tables_law (λ x h. refl) set_back,
      variant_tagged (λ (x : List ReadPart × List ByPart). reading.Set x.0 x.1) set_tables tables_part reading_tag 2 set_back (λ x. refl),
      (
        variant_law (λ (x : List ReadPart × List ByPart). reading.Merge x.0 x.1 false) merge_tables tables_part tables_law (λ x h. refl) merge_back,
        variant_tagged (λ (x : List ReadPart × List ByPart). reading.Merge x.0 x.1 false) merge_tables tables_part reading_tag 3 merge_back (λ x. refl),
        (
          variant_law (λ (x : List ReadPart × List ByPart). reading.Merge x.0 x.1 true) retaining_tables tables_part tables_law (λ x h. refl) retaining_back,
          variant_tagged (λ (x : List ReadPart × List ByPart). reading.Merge x.0 x.1 true) retaining_tables tables_part reading_tag 4 retaining_back (λ x. refl),
          tt,
        ),
      ),
    ),
  ),
)

pub thread_reading_law : IsLawfulPart thread_reading_part
unfolding thread_reading_part
thread_reading_law = tagged_law reading_tag table_readings readings_tagged

-- ---- programs

program_law : {R : Type 0} (name : FormatPart (Option Bytes)) (reading : FormatPart R) → IsLawfulPart name → IsLawfulPart reading → IsLawfulPart (program_part name reading)
program_law {R} name reading named read =
    seen_as_law {A = Option Bytes × (Globals × (List MethodPart × (R × (Units × List WrittenInstr))))} {B = WrittenProgram R}
    (λ (x : Option Bytes × (Globals × (List MethodPart × (R × (Units × List WrittenInstr))))).
    record { name = x.0; globals = x.1.0; methods = x.1.1.0; reading = x.1.1.1.0; units = x.1.1.1.1.0; instrs = x.1.1.1.1.1 })
    (λ (p : WrittenProgram R). (p.name, (p.globals, (p.methods, (p.reading, (p.units, p.instrs))))))
    (name ⨾ globals_part ⨾ list_part method_line ⨾ reading ⨾ units_part ⨾ list_part written_instr_part)
    (pair_law name (globals_part ⨾ list_part method_line ⨾ reading ⨾ units_part ⨾ list_part written_instr_part) named
    (pair_law globals_part (list_part method_line ⨾ reading ⨾ units_part ⨾ list_part written_instr_part) globals_law
    (pair_law (list_part method_line) (reading ⨾ units_part ⨾ list_part written_instr_part) (list_law method_line method_law)
    (pair_law reading (units_part ⨾ list_part written_instr_part) read
    (pair_law units_part (list_part written_instr_part) units_law (list_law written_instr_part written_instr_law))))))
    (λ a h. refl) (λ b h. refl)

pub thread_program_law : IsLawfulPart thread_program_part
unfolding thread_program_part
thread_program_law = program_law thread_name_part thread_reading_part thread_name_law thread_reading_law

-- ---- what a data program reads

of_tables_back : (r : StagedReading) (x : ReadingPart) → table_reading_in r ≡ Some x → OfTables x ≡ r
of_tables_back (OfTables r) x e = ap OfTables (sym (some_is r x e))
of_tables_back (OfThread threads program slots) x e = absurd cc

of_thread_back : (r : StagedReading) (x : ℕ × (WrittenProgram ReadingPart × List ℕ)) → thread_in r ≡ Some x → OfThread x.0 x.1.0 x.1.1 ≡ r
of_thread_back (OfTables r) x e = absurd cc
of_thread_back (OfThread threads program slots) x e =
    ap (λ (y : ℕ × (WrittenProgram ReadingPart × List ℕ)). OfThread y.0 y.1.0 y.1.1) (sym (some_is {A = ℕ × (WrittenProgram ReadingPart × List ℕ)} (threads, (program, slots)) x e))

of_tables_tagged : (p : FormatPart ReadingPart) (n : ℕ) → ((r : ReadingPart) → IsTrue (p.allows r) → reading_tag r ≡ n) → (r : StagedReading)
    → IsTrue ((variant_part OfTables table_reading_in p).allows r) → staged_tag r ≡ n
of_tables_tagged p n tagged (OfTables r) h = tagged r h
of_tables_tagged p n tagged (OfThread threads program slots) h = absurd (let k : false ≡ true = h in cc)

lifted : (n : ℕ) (ps : List (FormatPart ReadingPart)) → AreAlternatives reading_tag n ps → (qs : List (FormatPart StagedReading)) → AreAlternatives staged_tag (n + length ps) qs
    → AreAlternatives staged_tag n (map (variant_part OfTables table_reading_in) ps ++ qs)
lifted n [] laws qs more = subst (λ (k : ℕ). AreAlternatives staged_tag k qs) (omega arith) more
lifted n (p ∷ ps) laws qs more =
    let same : n + suc (length ps) ≡ suc n + length ps = omega arith in (
      variant_law OfTables table_reading_in p laws.0 (λ r h. refl) of_tables_back,
      of_tables_tagged p n laws.1,
      lifted (suc n) ps laws.2 qs (subst (λ (k : ℕ). AreAlternatives staged_tag k qs) same more),
    )

threads_law : IsLawfulPart threads_part
unfolding threads_part
threads_law = checked_law (λ (n : ℕ). nat_le 1 n && nat_le n 64) byte_part byte_law

stage_law : IsLawfulPart stage_part
unfolding stage_part
stage_law = pair_law threads_part (thread_program_part ⨾ list_part number32_part) threads_law (pair_law thread_program_part (list_part number32_part) thread_program_law numbers_law)

stage_alternative : AreAlternatives staged_tag 5 (variant_part (λ (x : ℕ × (WrittenProgram ReadingPart × List ℕ)). OfThread x.0 x.1.0 x.1.1) thread_in stage_part ∷ [])
stage_alternative = (
  variant_law (λ (x : ℕ × (WrittenProgram ReadingPart × List ℕ)). OfThread x.0 x.1.0 x.1.1) thread_in stage_part stage_law (λ x h. refl) of_thread_back,
  variant_tagged (λ (x : ℕ × (WrittenProgram ReadingPart × List ℕ)). OfThread x.0 x.1.0 x.1.1) thread_in stage_part staged_tag 5 of_thread_back (λ x. refl),
  tt,
)

pub data_reading_law : IsLawfulPart data_reading_part
unfolding data_reading_part
data_reading_law =
    tagged_law staged_tag data_readings
    (lifted 0 table_readings readings_tagged (variant_part (λ (x : ℕ × (WrittenProgram ReadingPart × List ℕ)). OfThread x.0 x.1.0 x.1.1) thread_in stage_part ∷ []) stage_alternative)

pub data_program_law : IsLawfulPart data_program_part
unfolding data_program_part
data_program_law = program_law no_name_part data_reading_part no_name_law data_reading_law
