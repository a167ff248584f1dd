-- Valid code of programs that read from thread programs, and of one that reads from none.
use Rattle.std.proofs.Common.{◌≡◌, ℕ, zero, suc, ◌+◌, ◌≤◌, Bool, true, false, ◌&&◌, List, [], ◌∷◌, ◌++◌, length, map, drop, Option, Some, None, sym, ap, ◌∙◌, subst, IsTrue, arith}
use Rattle.std.specs.Prelude.{is_some, slice_get, unwrap_or}
use Rattle.std.specs.List.{list_all}
use Rattle.std.specs.Option.{option_map_or}
use Rattle.std.proofs.Math.Seq.{drop-append_seam}
use Rattle.std.proofs.lemmas.List.{drop-map, length-drop}
use Rattle.ds2_value.specs.Row.{Columns}
use Rattle.ds2_table.specs.Table.{Contents}
use Rattle.ds2_reading.specs.ReadingFits.{reading_fits_tables}
use Rattle.ds2_code.specs.declared.parts.HashPart.{HashPart}
use Rattle.ds2_code.specs.declared.parts.ProgramParts.{ProgramParts}
use Rattle.ds2_code.specs.declared.parts.ReadingPart.{ReadingPart}
use Rattle.ds2_code.specs.declared.parts.ReadingPart.TheVariants as reading
use Rattle.ds2_code.specs.declared.parts.Slot.{Slot}
use Rattle.ds2_code.specs.declared.parts.StagedParts.{StagedParts}
use Rattle.ds2_code.specs.ValidCode.{hash_table_fits, output_fits, reading_fits, IsValidProgram, IsValidChain, IsValidStaged}
use Rattle.ds2_slots.specs.LoadedHashes.{AreSlotTypesInBounds}
use Rattle.ds2_code_answer.specs.CodeLoads.{code_reading}
use Rattle.ds2_code_answer.specs.CodeLoadLaws.{ReadingsFitTables}
use Rattle.ds2_code_answer.specs.CodeTables.{hash_references, program_references, first_read_table, tables_of_stage, columns_named, columns_had, AreTablesOfCode}
use Rattle.ds2_loads.specs.Readings.{ReadsNoThread}
use Rattle.ds2_loads.specs.Grains.{IsGrainOfReading}
use Rattle.ds2_machine.specs.AtRest.{staged_program}
use Rattle.ds2_machine.specs.declared.machine.TheConstants.{MOST_BUDGET}
use Rattle.ds2_unit.proofs.Statements.{first_of_two, types_of_valid}
use Rattle.ds2_unit.specs.Readers.{IsReadyReader}
use Rattle.ds2_unit.specs.Threads.{IsReadyThread}
use Rattle.ds2_unit.specs.declared.reader.ReaderRun.{ReaderRun}
use Rattle.ds2_unit.specs.declared.thread_run.ThreadRun.{ThreadRun}

second_of : (a b : Bool) → (a && b) ≡ true → b ≡ true
second_of true b h = h
second_of false b h = absurd cc

-- ---- readings

reading_without : (slots : List Slot) (r : ReadingPart) → reading_fits slots None r ≡ true → ReadsNoThread r
reading_without slots reading.Nothing h = tt
reading_without slots reading.Once h = tt
reading_without slots (reading.Set tables bys) h = tt
reading_without slots (reading.Merge tables bys retains) h = tt
reading_without slots (reading.Stage threads into) h = absurd cc

pub reads_none : (code : ProgramParts) → IsValidProgram code None → ReadsNoThread code.reading
reads_none code valid =
    let hashes = list_all (λ (hash : HashPart). option_map_or (hash_table_fits code.slots hash) hash.loaded true) code.hashes in
    let fits = reading_fits code.slots None code.reading in
    let outputs = list_all output_fits code.outputs in
    reading_without code.slots code.reading (first_of_two fits outputs (second_of hashes (fits && outputs) (IsValidProgram.layout valid)))

-- ---- chains

pub valid_alone : (parts : StagedParts) → IsValidStaged parts → parts.stages ≡ [] → IsValidProgram parts.program None
valid_alone parts valid none = let P : List ProgramParts → Type 0 = λ stages. IsValidChain parts.program stages in subst P none (IsValidStaged.chain valid)

-- a thread program with those below it is a chain
abbrev pub chain_of : ProgramParts → List ProgramParts → StagedParts
chain_of program stages = record { program = program; stages = stages }

chain_below : (program : ProgramParts) (stages : List ProgramParts) (n : ℕ) (stage : ProgramParts) → IsValidChain program stages → slice_get stages n ≡ Some stage → IsValidChain stage (drop (n + 1) stages)
chain_below program [] n stage valid here = absurd cc
chain_below program (s ∷ stages) zero stage valid here =
    let same : s ≡ stage = cc in
    let one : suc zero ≡ 0 + 1 = omega arith in
    let P : ProgramParts → Type 0 = λ p. IsValidChain p stages in
    subst (λ k. IsValidChain stage (drop k (s ∷ stages))) one (subst P same valid.1)
chain_below program (s ∷ stages) (suc n) stage valid here =
    let more : suc (n + 1) ≡ suc n + 1 = omega arith in
    subst (λ k. IsValidChain stage (drop k (s ∷ stages))) more (chain_below s stages n stage valid.1 here)

all_dropped : {A : Type 0} (f : A → Bool) (n : ℕ) (xs : List A) → list_all f xs ≡ true → list_all f (drop n xs) ≡ true
all_dropped f zero xs h = h
all_dropped f (suc n) [] h = h
all_dropped f (suc n) (x ∷ xs) h = all_dropped f n xs (second_of (f x) (list_all f xs) h)

-- a thread program of valid code with those below it is valid
pub valid_below : (parts : StagedParts) (n : ℕ) (stage : ProgramParts) → IsValidStaged parts → slice_get parts.stages n ≡ Some stage → IsValidStaged (chain_of stage (drop (n + 1) parts.stages))
valid_below parts n stage valid here = record {
  chain = chain_below parts.program parts.stages n stage valid.chain here;
  names = all_dropped (λ (s : ProgramParts). is_some s.name) (n + 1) parts.stages valid.names;
  depth = omega (arith, valid.depth, length-drop (n + 1) parts.stages);
}

-- its tables stand behind those of the hash objects of the program that reads from it
pub tables_below : (program stage : ProgramParts) (stages further : List ProgramParts) (tables : List Contents) → stages ≡ stage ∷ further → AreTablesOfCode (chain_of program stages) tables
    → AreTablesOfCode (chain_of stage further) (tables_of_stage program tables)
tables_below program stage stages further tables is are =
    let own = hash_references program.hashes in
    let others = program_references stage further in
    let n = first_read_table program in
    let P : List ProgramParts → Type 0 = λ ss. map columns_had tables ≡ map columns_named (program_references program ss) in
    let all : map columns_had tables ≡ map columns_named (own ++ others) = subst P is are in
    sym (drop-map columns_had n tables)
    ∙ ap (λ (cs : List Columns). drop n cs) all
    ∙ drop-map columns_named n (own ++ others)
    ∙ ap (map columns_named) (drop-append_seam own others)

-- ---- numbers

pub staged_at : (parts : StagedParts) (n : ℕ) (stage : ProgramParts) → slice_get parts.stages n ≡ Some stage → staged_program parts (n + 1) ≡ stage
staged_at parts n stage here =
    let next : n + 1 ≡ suc n = omega arith in
    ap (staged_program parts) next ∙ ap (λ (o : Option ProgramParts). unwrap_or o parts.program) here

pub number_within : {A : Type 0} (xs : List A) (n : ℕ) (x : A) → slice_get xs n ≡ Some x → n + 1 ≤ length xs
number_within [] n x here = absurd cc
number_within (y ∷ xs) zero x here = omega arith
number_within (y ∷ xs) (suc n) x here = omega (arith, number_within xs n x here)

-- ---- programs that read from a thread program

-- the thread program at a number, where it reads from one
pub reader_below : (parts : StagedParts) (number : ℕ) (stage : ProgramParts) → IsValidStaged parts → slice_get parts.stages number ≡ Some stage → (r : ReaderRun)
    → r.place.code.now ≡ parts → r.place.number ≡ number + 1 → r.place.program.now ≡ stage → IsReadyReader r
reader_below parts number stage valid here r code at is =
    let T : StagedParts → Type 0 = λ p. number + 1 ≤ length p.stages in
    let S : ProgramParts → Type 0 = λ p. AreSlotTypesInBounds p.slots in
    let there = subst T (sym code) (number_within parts.stages number stage here) in
    record {
      place = record {
        here = ap (λ (p : StagedParts). staged_program p r.place.number) code ∙ ap (staged_program parts) at ∙ staged_at parts number stage here ∙ sym is;
        there = omega (arith, there, at);
      };
      types = subst S (sym is) (types_of_valid (chain_of stage (drop (number + 1) parts.stages)) (valid_below parts number stage valid here));
    }

-- the data program, where it does
pub data_reader : (parts : StagedParts) → IsValidStaged parts → (r : ReaderRun) → r.place.code.now ≡ parts → r.place.number ≡ 0 → r.place.program.now ≡ parts.program → IsReadyReader r
data_reader parts valid r code at is =
    let S : ProgramParts → Type 0 = λ p. AreSlotTypesInBounds p.slots in
    record {
      place = record {
        here = ap (λ (p : StagedParts). staged_program p r.place.number) code ∙ ap (staged_program parts) at ∙ sym is;
        there = omega (arith, at);
      };
      types = subst S (sym is) (types_of_valid parts valid);
    }

-- ---- the thread program that reads tables

module _ (parts : StagedParts) (number : ℕ) (stage : ProgramParts) (valid : IsValidStaged parts) (here : slice_get parts.stages number ≡ Some stage) (last : drop (number + 1) parts.stages ≡ []) where
  stage_alone : IsValidStaged (chain_of stage (drop (number + 1) parts.stages))
  stage_alone = valid_below parts number stage valid here

  -- it can be run over tables of its code
  pub ready_thread : ReadingsFitTables → (own : List Contents) → AreTablesOfCode (chain_of stage (drop (number + 1) parts.stages)) own → (asked : ℕ) → IsGrainOfReading stage.reading asked → (run : ThreadRun)
      → run.code.now ≡ parts → run.number ≡ number + 1 → run.stage.now ≡ stage → run.reading.now ≡ code_reading run.stage.now → run.tables.now ≡ own → run.grain ≡ asked → run.budget ≤ MOST_BUDGET → IsReadyThread run
  ready_thread law own are asked fits run code at is statement over same few =
      let R : ProgramParts → Type 0 = λ p. ReadsNoThread p.reading in
      let S : ProgramParts → Type 0 = λ p. AreSlotTypesInBounds p.slots in
      let F : List Contents → Type 0 = λ ts. IsTrue (reading_fits_tables ts (code_reading stage)) in
      let E : ProgramParts → Type 0 = λ p. IsTrue (reading_fits_tables run.tables.now (code_reading p)) in
      let G : ℕ → Type 0 = λ g. IsGrainOfReading stage.reading g in
      let H : ProgramParts → Type 0 = λ p. IsGrainOfReading p.reading run.grain in
      let T : StagedParts → Type 0 = λ p. number + 1 ≤ length p.stages in
      let there : number + 1 ≤ length run.code.now.stages = subst T (sym code) (number_within parts.stages number stage here) in
      record {
        here = ap (λ (p : StagedParts). staged_program p run.number) code ∙ ap (staged_program parts) at ∙ staged_at parts number stage here ∙ sym is;
        there = omega (arith, there, at);
        reads = subst R (sym is) (reads_none stage (valid_alone (chain_of stage (drop (number + 1) parts.stages)) stage_alone last));
        types = subst S (sym is) (types_of_valid (chain_of stage (drop (number + 1) parts.stages)) stage_alone);
        statement = statement;
        fits = subst E (sym is) (subst F (sym over) (law (chain_of stage (drop (number + 1) parts.stages)) own stage_alone last are));
        parts = subst H (sym is) (subst G (sym same) fits);
        within = few;
      }
