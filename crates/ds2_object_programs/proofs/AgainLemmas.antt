-- What is written of a program is made into the same program, and nothing else is.
use Rattle.std.proofs.Common.{◌≡◌, true, false, ◌&&◌, not, IsTrue, List, [], ◌∷◌, map, Option, Some, None, option_map, refl, sym, ap, ◌∙◌}
use Rattle.std.specs.Option.{is_some, option_and_then}
use Rattle.ds2_code.specs.declared.instr.Instr.{Instr}
use Rattle.ds2_code.specs.declared.parts.ProgramParts.{ProgramParts}
use Rattle.ds2_code.specs.declared.parts.ReadingPart.{ReadingPart}
use Rattle.ds2_code.specs.declared.parts.ReadingPart.TheVariants as reading
use Rattle.ds2_code.specs.declared.parts.StagedParts.{StagedParts}
use Rattle.ds2_object_words.proofs.PartLemmas.{both, some_is}
use Rattle.ds2_object_instrs.specs.declared.instrs.WrittenInstr.{WrittenInstr}
use Rattle.ds2_object_instrs.specs.InstrSpelling.{written_instr_of, instr_of}
use Rattle.ds2_object_instrs.proofs.InstrLemmas.{instr_written, instr_only}
use Rattle.ds2_object_programs.specs.ProgramRules.{program_spelled, reading_spelled, stages_spelled, data_spelled}
use Rattle.ds2_object_programs.specs.ProgramSpelling.{WrittenProgram, StagedReading, OfTables, OfThread, all_made, instrs_of, parts_from, thread_parts, staged_of, data_parts, written_thread, staged_written, written_data}

-- ---- again

instrs_again : (instrs : List Instr) → all_made instr_of (map written_instr_of instrs) ≡ Some instrs
instrs_again [] = refl
instrs_again (i ∷ instrs) = rw (instr_written i, instrs_again instrs) refl

thread_again : (p : ProgramParts) → thread_parts (written_thread p) ≡ Some p
thread_again p = rw (instrs_again p.instrs) refl

staged_again : (r : ReadingPart) (stages : List ProgramParts) → IsTrue (stages_spelled r stages) → staged_of (staged_written r stages) ≡ Some (r, stages)
staged_again reading.Once [] h = refl
staged_again reading.Once (stage ∷ stages) h = absurd (let k : false ≡ true = h in cc)
staged_again reading.Nothing [] h = refl
staged_again reading.Nothing (stage ∷ stages) h = absurd (let k : false ≡ true = h in cc)
staged_again (reading.Set tables bys) [] h = refl
staged_again (reading.Set tables bys) (stage ∷ stages) h = absurd (let k : false ≡ true = h in cc)
staged_again (reading.Merge tables bys retains) [] h = refl
staged_again (reading.Merge tables bys retains) (stage ∷ stages) h = absurd (let k : false ≡ true = h in cc)
staged_again (reading.Stage threads slots) [] h = absurd (let k : false ≡ true = h in cc)
staged_again (reading.Stage threads slots) (stage ∷ []) h = rw (thread_again stage) refl
staged_again (reading.Stage threads slots) (stage ∷ (other ∷ stages)) h = absurd (let k : false ≡ true = h in cc)

pub data_again : (s : StagedParts) → IsTrue (data_spelled s) → data_parts (written_data s) ≡ Some s
data_again s h =
    let k : IsTrue (stages_spelled s.program.reading s.stages) =
    (both (not (is_some s.program.name) && (reading_spelled s.program.reading && program_spelled s.program)) (stages_spelled s.program.reading s.stages) h).1 in
    rw (staged_again s.program.reading s.stages k, instrs_again s.program.instrs) refl

-- ---- only

-- what an option held, of which something was made
mapped_some : {A B : Type 0} (f : A → B) (o : Option A) (b : B) → option_map f o ≡ Some b → (a : A) × (o ≡ Some a) × (f a ≡ b)
mapped_some {B = B} f None b e = absurd cc
mapped_some {B = B} f (Some a) b e = (a, refl, some_is {A = B} (f a) b e)

-- the same where nothing may come of it
chained_some : {A B : Type 0} (f : A → Option B) (o : Option A) (b : B) → option_and_then f o ≡ Some b → (a : A) × (o ≡ Some a) × (f a ≡ Some b)
chained_some f None b e = absurd cc
chained_some f (Some a) b e = (a, refl, e)

instrs_only : (ws : List WrittenInstr) (instrs : List Instr) → all_made instr_of ws ≡ Some instrs → map written_instr_of instrs ≡ ws
instrs_only [] [] e = refl
instrs_only [] (i ∷ instrs) e = absurd cc
instrs_only (w ∷ ws) instrs e =
    let a = chained_some {A = Instr} {B = List Instr} (λ i. option_map (λ others. i ∷ others) (all_made instr_of ws)) (instr_of w) instrs e in
    let b = mapped_some {A = List Instr} {B = List Instr} (λ others. a.0 ∷ others) (all_made instr_of ws) instrs a.2 in
    let first : written_instr_of a.0 ≡ w = instr_only w a.0 a.1 in
    let others : map written_instr_of b.0 ≡ ws = instrs_only ws b.0 b.1 in
    ap (map written_instr_of) (sym b.2) ∙ rw (first, others) refl

thread_only : (w : WrittenProgram ReadingPart) (p : ProgramParts) → thread_parts w ≡ Some p → written_thread p ≡ w
thread_only w p e =
    let a = mapped_some {A = List Instr} {B = ProgramParts} (parts_from w.name w.globals w.methods w.reading w.units) (instrs_of w.instrs) p e in
    let k : map written_instr_of a.0 ≡ w.instrs = instrs_only w.instrs a.0 a.1 in
    ap written_thread (sym a.2) ∙ rw k refl

tables_only : (r : ReadingPart) → staged_written r [] ≡ OfTables r
tables_only reading.Once = refl
tables_only reading.Nothing = refl
tables_only (reading.Set tables bys) = refl
tables_only (reading.Merge tables bys retains) = refl
tables_only (reading.Stage threads slots) = refl

staged_only : (w : StagedReading) (x : ReadingPart × List ProgramParts) → staged_of w ≡ Some x → staged_written x.0 x.1 ≡ w
staged_only (OfTables r) x e =
    ap (λ (y : ReadingPart × List ProgramParts). staged_written y.0 y.1) (sym (some_is {A = ReadingPart × List ProgramParts} (r, []) x e)) ∙ tables_only r
staged_only (OfThread threads program slots) x e =
    let a = mapped_some {A = ProgramParts} {B = ReadingPart × List ProgramParts} (λ p. (reading.Stage threads slots, p ∷ [])) (thread_parts program) x e in
    ap (λ (y : ReadingPart × List ProgramParts). staged_written y.0 y.1) (sym a.2) ∙ ap (λ (q : WrittenProgram ReadingPart). OfThread threads q slots) (thread_only program a.0 a.1)

pub data_only : (w : WrittenProgram StagedReading) (s : StagedParts) → data_parts w ≡ Some s → written_data s ≡ w
data_only w s e =
    let a = chained_some {A = ReadingPart × List ProgramParts} {B = StagedParts}
    (λ r. option_map (λ (p : ProgramParts). record { program = p; stages = r.1 }) (option_map (parts_from w.name w.globals w.methods r.0 w.units) (instrs_of w.instrs))) (staged_of w.reading) s e in
    let b = mapped_some {A = ProgramParts} {B = StagedParts} (λ p. record { program = p; stages = a.0.1 })
    (option_map (parts_from w.name w.globals w.methods a.0.0 w.units) (instrs_of w.instrs)) s a.2 in
    let c = mapped_some {A = List Instr} {B = ProgramParts} (parts_from w.name w.globals w.methods a.0.0 w.units) (instrs_of w.instrs) b.0 b.1 in
    let reads : staged_written a.0.0 a.0.1 ≡ w.reading = staged_only w.reading a.0 a.1 in
    let k : map written_instr_of c.0 ≡ w.instrs = instrs_only w.instrs c.0 c.1 in
    ap written_data (sym b.2) ∙ ap (λ (p : ProgramParts). written_data (record { program = p; stages = a.0.1 })) (sym c.2) ∙ rw (reads, k) refl
