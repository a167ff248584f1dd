-- How programs are read, field by field.
use Rattle.std.proofs.Common.{◌≡◌, ℕ, zero, suc, true, false, ◌==◌, List, [], length, Option, Some, slice_get, Result, Ok, Err, IsErrAnd, refl, sym, ap, subst, ◌∙◌}
use Rattle.ds2_object_words.specs.declared.flaw.Flaw.{Flaw}
use Rattle.ds2_base.specs.Bytes.{Bytes}
use Rattle.ds2_base.specs.declared.stop.Stop.{Stop}
use Rattle.ds2_base.specs.declared.stop.Stop.TheVariants.{Refused, OutOfMemory}
use Rattle.ds2_code.specs.declared.instr.Instr.{Instr}
use Rattle.ds2_code.specs.declared.parts.ByPart.{ByPart}
use Rattle.ds2_code.specs.declared.parts.MethodPart.{MethodPart}
use Rattle.ds2_code.specs.declared.parts.ProgramParts.{ProgramParts}
use Rattle.ds2_code.specs.declared.parts.ReadPart.{ReadPart}
use Rattle.ds2_code.specs.declared.parts.ReadingPart.{ReadingPart}
use Rattle.ds2_code.specs.declared.parts.ReadingPart.TheVariants as reading
use Rattle.ds2_object_words.specs.Parts.{FormatPart, FieldRead, byte_part, number32_part, list_part, alternative_read, variant_part, StopsReading, ReadsPart}
use Rattle.ds2_object_words.specs.CodeParts.{method_line}
use Rattle.ds2_object_words.proofs.PartLemmas.{found}
use Rattle.ds2_object_instrs.specs.declared.instrs.WrittenInstr.{WrittenInstr}
use Rattle.ds2_object_instrs.specs.InstrSpelling.{written_instr_part}
use Rattle.ds2_object_programs.specs.declared.globals.Globals.{Globals}
use Rattle.ds2_object_programs.specs.declared.units.Units.{Units}
use Rattle.ds2_object_programs.specs.ProgramSpelling.{no_name_part, thread_name_part, globals_part, units_part, set_tables, merge_tables, retaining_tables, tables_part, table_readings, thread_reading_part, WrittenProgram, thread_program_part, StagedReading, OfTables, OfThread, table_reading_in, threads_part, stage_part, data_readings, data_reading_part, data_program_part, read_as, instrs_of, parts_where, thread_parts, stage_of, staged_of, staged_where, data_parts}
use Rattle.ds2_object_programs.proofs.MadeSteps.{read_as_ok, read_as_stops, read_as_twice}

-- a call that hands a stop on
pub stops_at : {A : Type 0} (r : Result A (Stop Flaw)) (stop : Stop Flaw) (wanted : FieldRead A) (rest : Bytes) → IsErrAnd r (λ y. y ≡ stop) → StopsReading stop wanted → ReadsPart r wanted rest
stops_at (Ok x) stop wanted rest is h = absurd is
stops_at (Err e) stop wanted rest is h = subst (λ (z : Stop Flaw). StopsReading z wanted) (sym is) h

-- ---- thread programs

-- a thread program whose instructions are not read
pub thread_stops : (b0 b1 b2 b3 b4 b5 : Bytes) (name : Option Bytes) (globals : Globals) (methods : List MethodPart) (reading : ReadingPart) (units : Units) (stop : Stop Flaw)
    → thread_name_part.read b0 ≡ Ok (name, b1) → globals_part.read b1 ≡ Ok (globals, b2) → (list_part method_line).read b2 ≡ Ok (methods, b3)
    → thread_reading_part.read b3 ≡ Ok (reading, b4) → units_part.read b4 ≡ Ok (units, b5) → StopsReading stop (read_as instrs_of ((list_part written_instr_part).read b5))
    → StopsReading stop (read_as thread_parts (thread_program_part.read b0))
unfolding thread_program_part
thread_stops b0 b1 b2 b3 b4 b5 name globals methods reading units OutOfMemory n g m r u h = tt
thread_stops b0 b1 b2 b3 b4 b5 name globals methods reading units (Refused flaw) n g m r u h =
    let k = read_as_stops {W = List WrittenInstr} {A = Option (List Instr)} instrs_of ((list_part written_instr_part).read b5) (Refused flaw) h in
    rw (n, g, m, r, u, k) refl

-- a thread program that is read
pub thread_is_read : (b0 b1 b2 b3 b4 b5 b6 : Bytes) (name : Option Bytes) (globals : Globals) (methods : List MethodPart) (reading : ReadingPart) (units : Units) (instrs : Option (List Instr))
    → thread_name_part.read b0 ≡ Ok (name, b1) → globals_part.read b1 ≡ Ok (globals, b2) → (list_part method_line).read b2 ≡ Ok (methods, b3)
    → thread_reading_part.read b3 ≡ Ok (reading, b4) → units_part.read b4 ≡ Ok (units, b5) → read_as instrs_of ((list_part written_instr_part).read b5) ≡ Ok (instrs, b6)
    → read_as thread_parts (thread_program_part.read b0) ≡ Ok (parts_where name globals methods reading units instrs, b6)
unfolding thread_program_part
thread_is_read b0 b1 b2 b3 b4 b5 b6 name globals methods reading units instrs n g m r u h =
    let k = read_as_ok {W = List WrittenInstr} {A = Option (List Instr)} instrs_of ((list_part written_instr_part).read b5) instrs b6 h in
    rw (n, g, m, r, u, k.1) (ap (λ (o : Option (List Instr)). found (parts_where name globals methods reading units o, b6)) k.2)

-- ---- what a data program reads

abbrev thread_made : ℕ × (WrittenProgram ReadingPart × List ℕ) → Option (ReadingPart × List ProgramParts)
thread_made x = staged_of (OfThread x.0 x.1.0 x.1.1)

-- a stage whose thread program is not read
pub stage_stops_program : (b0 b1 : Bytes) (threads : ℕ) (stop : Stop Flaw) → threads_part.read b0 ≡ Ok (threads, b1) → StopsReading stop (read_as thread_parts (thread_program_part.read b1))
    → StopsReading stop (read_as thread_made (stage_part.read b0))
unfolding stage_part
stage_stops_program b0 b1 threads OutOfMemory t h = tt
stage_stops_program b0 b1 threads (Refused flaw) t h =
    let k = read_as_stops {W = WrittenProgram ReadingPart} {A = Option ProgramParts} thread_parts (thread_program_part.read b1) (Refused flaw) h in
    rw (t, k) refl

-- a stage whose slots are not read
pub stage_stops_slots : (b0 b1 b2 : Bytes) (threads : ℕ) (program : Option ProgramParts) (stop : Stop Flaw) → threads_part.read b0 ≡ Ok (threads, b1)
    → read_as thread_parts (thread_program_part.read b1) ≡ Ok (program, b2) → StopsReading stop ((list_part number32_part).read b2) → StopsReading stop (read_as thread_made (stage_part.read b0))
unfolding stage_part
stage_stops_slots b0 b1 b2 threads program OutOfMemory t p h = tt
stage_stops_slots b0 b1 b2 threads program (Refused flaw) t p h =
    let k = read_as_ok {W = WrittenProgram ReadingPart} {A = Option ProgramParts} thread_parts (thread_program_part.read b1) program b2 p in
    rw (t, k.1, h) refl

-- a stage that is read
pub stage_is_read : (b0 b1 b2 b3 : Bytes) (threads : ℕ) (program : Option ProgramParts) (slots : List ℕ) → threads_part.read b0 ≡ Ok (threads, b1)
    → read_as thread_parts (thread_program_part.read b1) ≡ Ok (program, b2) → (list_part number32_part).read b2 ≡ Ok (slots, b3)
    → read_as thread_made (stage_part.read b0) ≡ Ok (stage_of threads slots program, b3)
unfolding stage_part
stage_is_read b0 b1 b2 b3 threads program slots t p s =
    let k = read_as_ok {W = WrittenProgram ReadingPart} {A = Option ProgramParts} thread_parts (thread_program_part.read b1) program b2 p in
    rw (t, k.1, s) (ap (λ (o : Option ProgramParts). found (stage_of threads slots o, b3)) k.2)

-- a reading whose tag is not read
pub reading_stops_tag : (b0 : Bytes) (stop : Stop Flaw) → StopsReading stop (byte_part.read b0) → StopsReading stop (read_as staged_of (data_reading_part.read b0))
unfolding data_reading_part
reading_stops_tag b0 OutOfMemory h = tt
reading_stops_tag b0 (Refused flaw) h = rw h refl

-- behind the tag 5 stands a stage
pub reading_of_stage : (b0 b1 : Bytes) (tag : ℕ) → byte_part.read b0 ≡ Ok (tag, b1) → tag ≡ 5 → read_as staged_of (data_reading_part.read b0) ≡ read_as thread_made (stage_part.read b1)
unfolding data_reading_part
reading_of_stage b0 b1 tag e is =
    let five : byte_part.read b0 ≡ found (5, b1) = e ∙ ap (λ (t : ℕ). found (t, b1)) is in
    rw five (read_as_twice {W = ℕ × (WrittenProgram ReadingPart × List ℕ)} {A = StagedReading} {B = Option (ReadingPart × List ProgramParts)} (λ x. OfThread x.0 x.1.0 x.1.1) staged_of (stage_part.read b1))

abbrev tables_made : ReadingPart → Option (ReadingPart × List ProgramParts)
tables_made r = Some (r, [])

lifted_read : (p : FormatPart ReadingPart) (rest : Bytes) → read_as staged_of ((variant_part OfTables table_reading_in p).read rest) ≡ read_as tables_made (p.read rest)
lifted_read p rest = read_as_twice {W = ReadingPart} {A = StagedReading} {B = Option (ReadingPart × List ProgramParts)} OfTables staged_of (p.read rest)

-- behind another tag stands what stands behind it for a thread program
lifted_alternative : (tag left : ℕ) (rest : Bytes) → (tag == 5) ≡ false
    → read_as staged_of (alternative_read (slice_get data_readings tag) left rest) ≡ read_as tables_made (alternative_read (slice_get table_readings tag) left rest)
lifted_alternative zero left rest e = refl
lifted_alternative (suc zero) left rest e = refl
lifted_alternative (suc (suc zero)) left rest e = lifted_read (variant_part (λ (x : List ReadPart × List ByPart). reading.Set x.0 x.1) set_tables tables_part) rest
lifted_alternative (suc (suc (suc zero))) left rest e = lifted_read (variant_part (λ (x : List ReadPart × List ByPart). reading.Merge x.0 x.1 false) merge_tables tables_part) rest
lifted_alternative (suc (suc (suc (suc zero)))) left rest e = lifted_read (variant_part (λ (x : List ReadPart × List ByPart). reading.Merge x.0 x.1 true) retaining_tables tables_part) rest
lifted_alternative (suc (suc (suc (suc (suc zero))))) left rest e = absurd cc
lifted_alternative (suc (suc (suc (suc (suc (suc tag)))))) left rest e = refl

pub reading_of_tables : (b0 b1 : Bytes) (tag left : ℕ) → byte_part.read b0 ≡ Ok (tag, b1) → (tag == 5) ≡ false → left ≡ length b0
    → read_as staged_of (data_reading_part.read b0) ≡ read_as tables_made (alternative_read (slice_get table_readings tag) left b1)
unfolding data_reading_part
reading_of_tables b0 b1 tag left e other is =
    rw (e, is) (lifted_alternative tag (length b0) b1 other)

-- ---- data programs

-- a data program whose reading is not read
pub data_stops_reading : (b0 b1 b2 b3 : Bytes) (name : Option Bytes) (globals : Globals) (methods : List MethodPart) (stop : Stop Flaw)
    → no_name_part.read b0 ≡ Ok (name, b1) → globals_part.read b1 ≡ Ok (globals, b2) → (list_part method_line).read b2 ≡ Ok (methods, b3)
    → StopsReading stop (read_as staged_of (data_reading_part.read b3)) → StopsReading stop (read_as data_parts (data_program_part.read b0))
unfolding data_program_part
data_stops_reading b0 b1 b2 b3 name globals methods OutOfMemory n g m h = tt
data_stops_reading b0 b1 b2 b3 name globals methods (Refused flaw) n g m h =
    let k = read_as_stops {W = StagedReading} {A = Option (ReadingPart × List ProgramParts)} staged_of (data_reading_part.read b3) (Refused flaw) h in
    rw (n, g, m, k) refl

-- a data program whose outputs and entries are not read
pub data_stops_units : (b0 b1 b2 b3 b4 : Bytes) (name : Option Bytes) (globals : Globals) (methods : List MethodPart) (reading : Option (ReadingPart × List ProgramParts)) (stop : Stop Flaw)
    → no_name_part.read b0 ≡ Ok (name, b1) → globals_part.read b1 ≡ Ok (globals, b2) → (list_part method_line).read b2 ≡ Ok (methods, b3)
    → read_as staged_of (data_reading_part.read b3) ≡ Ok (reading, b4) → StopsReading stop (units_part.read b4) → StopsReading stop (read_as data_parts (data_program_part.read b0))
unfolding data_program_part
data_stops_units b0 b1 b2 b3 b4 name globals methods reading OutOfMemory n g m r h = tt
data_stops_units b0 b1 b2 b3 b4 name globals methods reading (Refused flaw) n g m r h =
    let k = read_as_ok {W = StagedReading} {A = Option (ReadingPart × List ProgramParts)} staged_of (data_reading_part.read b3) reading b4 r in
    rw (n, g, m, k.1, h) refl

-- a data program whose instructions are not read
pub data_stops_instrs : (b0 b1 b2 b3 b4 b5 : Bytes) (name : Option Bytes) (globals : Globals) (methods : List MethodPart) (reading : Option (ReadingPart × List ProgramParts)) (units : Units) (stop : Stop Flaw)
    → no_name_part.read b0 ≡ Ok (name, b1) → globals_part.read b1 ≡ Ok (globals, b2) → (list_part method_line).read b2 ≡ Ok (methods, b3)
    → read_as staged_of (data_reading_part.read b3) ≡ Ok (reading, b4) → units_part.read b4 ≡ Ok (units, b5) → StopsReading stop (read_as instrs_of ((list_part written_instr_part).read b5))
    → StopsReading stop (read_as data_parts (data_program_part.read b0))
unfolding data_program_part
data_stops_instrs b0 b1 b2 b3 b4 b5 name globals methods reading units OutOfMemory n g m r u h = tt
data_stops_instrs b0 b1 b2 b3 b4 b5 name globals methods reading units (Refused flaw) n g m r u h =
    let k = read_as_ok {W = StagedReading} {A = Option (ReadingPart × List ProgramParts)} staged_of (data_reading_part.read b3) reading b4 r in
    let i = read_as_stops {W = List WrittenInstr} {A = Option (List Instr)} instrs_of ((list_part written_instr_part).read b5) (Refused flaw) h in
    rw (n, g, m, k.1, u, i) refl

-- a data program that is read
pub data_is_read : (b0 b1 b2 b3 b4 b5 b6 : Bytes) (name : Option Bytes) (globals : Globals) (methods : List MethodPart) (reading : Option (ReadingPart × List ProgramParts)) (units : Units) (instrs : Option (List Instr))
    → no_name_part.read b0 ≡ Ok (name, b1) → globals_part.read b1 ≡ Ok (globals, b2) → (list_part method_line).read b2 ≡ Ok (methods, b3)
    → read_as staged_of (data_reading_part.read b3) ≡ Ok (reading, b4) → units_part.read b4 ≡ Ok (units, b5) → read_as instrs_of ((list_part written_instr_part).read b5) ≡ Ok (instrs, b6)
    → read_as data_parts (data_program_part.read b0) ≡ Ok (staged_where name globals methods reading units instrs, b6)
unfolding data_program_part
data_is_read b0 b1 b2 b3 b4 b5 b6 name globals methods reading units instrs n g m r u h =
    let k = read_as_ok {W = StagedReading} {A = Option (ReadingPart × List ProgramParts)} staged_of (data_reading_part.read b3) reading b4 r in
    let i = read_as_ok {W = List WrittenInstr} {A = Option (List Instr)} instrs_of ((list_part written_instr_part).read b5) instrs b6 h in
    rw (n, g, m, k.1, u, i.1)
    (ap (λ (o : Option (ReadingPart × List ProgramParts)). found (staged_where name globals methods o units (instrs_of i.0), b6)) k.2
    ∙ ap (λ (o : Option (List Instr)). found (staged_where name globals methods reading units o, b6)) i.2)
