-- The code of a typed program means the same as the program.
use Rattle.std.proofs.Common.{◌≡◌, List, [], ◌∷◌, length, map, refl, ap, ◌∙◌}
use Rattle.std.specs.List.{AllZip}
use Rattle.std.proofs.lemmas.List.{length-map}
use Rattle.ds2_meaning.specs.declared.readings.Reading.{Reading}
use Rattle.ds2_meaning.specs.declared.readings.Reading.TheVariants as read
use Rattle.ds2_meaning.specs.IsTyped.{IsTypedUnit, IsTypedProgram}
use Rattle.ds2_meaning.specs.ProgramTree.{UnitTree, ProgramTree, OverTables, OverStage, reader_of}
use Rattle.ds2_meaning.specs.Reading.{bys_of}
use Rattle.ds2_code.specs.declared.parts.ProgramParts.{ProgramParts}
use Rattle.ds2_program_code.specs.CodeParts.{by_variable_part, reading_part}
use Rattle.ds2_program_code.specs.ProgramCode.{program_code}
use Rattle.ds2_same_meaning.specs.SameAnswer.{code_of_stages, programs_in_chain, staged_code, HasNamedInstances, IsTranslatable, TypedProgramsAnswerAlike}
use Rattle.ds2_program_code.specs.CountsByWay.{CountsByWay, TypedUnitsCountByWay}
use Rattle.ds2_same_meaning.specs.SameMeaning.{number_of_bys, NamesSameTables, StagesMeanSame, ThreadMeansSame, TypedProgramsMeanSame}
use Rattle.ds2_same_meaning.proofs.OutputsAlike.{outputs_alike}
use Rattle.ds2_same_meaning.proofs.PlacesAlike.{names_same_tables}
use Rattle.ds2_same_meaning.proofs.TablesAlike.{same_tables, same_columns}

-- ---- each program of a chain

-- the codes of a program and of the thread programs that it reads from
abbrev codes_in_chain : ProgramTree → List ProgramParts
codes_in_chain p = program_code (reader_of p) ∷ code_of_stages p

each_counts : TypedUnitsCountByWay → (p : ProgramTree) → IsTypedProgram p → AllZip CountsByWay (programs_in_chain p) (codes_in_chain p)
each_counts counted (OverTables p) typed = (counted p typed.0, tt)
each_counts counted (OverStage p stage) typed = (counted p typed.0, each_counts counted stage typed.2)

each_names_tables : (p : ProgramTree) → AllZip NamesSameTables (programs_in_chain p) (codes_in_chain p)
each_names_tables (OverTables p) = (names_same_tables p, tt)
each_names_tables (OverStage p stage) = (names_same_tables p, each_names_tables stage)

same_names : (p : ProgramTree) → map (λ (part : ProgramParts). part.name) (codes_in_chain p) ≡ map (λ (unit : UnitTree). unit.thread) (programs_in_chain p)
same_names (OverTables p) = refl
same_names (OverStage p stage) = ap (λ names. p.thread ∷ names) (same_names stage)

bys_in_reading : (p : UnitTree) (r : Reading) → number_of_bys (reading_part p r) ≡ length (bys_of r)
bys_in_reading p read.Nothing = refl
bys_in_reading p read.Once = refl
bys_in_reading p (read.Set inputs bys) = length-map bys (by_variable_part p)
bys_in_reading p (read.Merge inputs bys retains) = length-map bys (by_variable_part p)
bys_in_reading p (read.From instance workers columns) = refl

same_bys : (p : ProgramTree) → map (λ (part : ProgramParts). number_of_bys part.reading) (codes_in_chain p) ≡ map (λ (unit : UnitTree). length (bys_of unit.reading)) (programs_in_chain p)
same_bys (OverTables p) = ap (λ n. n ∷ []) (bys_in_reading p p.reading)
same_bys (OverStage p stage) =
    ap (λ n. n ∷ map (λ (part : ProgramParts). number_of_bys part.reading) (codes_in_chain stage)) (bys_in_reading p p.reading)
    ∙ ap (λ ns. length (bys_of p.reading) ∷ ns) (same_bys stage)

reader_typed : (p : ProgramTree) → IsTypedProgram p → IsTypedUnit (reader_of p)
reader_typed (OverTables p) typed = typed.0
reader_typed (OverStage p stage) typed = typed.0

-- ---- thread programs

thread_means_same : TypedProgramsAnswerAlike → (p : ProgramTree) → IsTypedProgram p → HasNamedInstances p → ThreadMeansSame p (staged_code p)
thread_means_same alike p typed named = record {
  answers = alike p (record { typed = typed; instances = named });
  outputs = λ rows. outputs_alike (reader_of p) 0 (reader_of p).outputs rows (IsTypedUnit.outputs (reader_typed p typed));
}

stages_mean_same : TypedProgramsAnswerAlike → (p : ProgramTree) → IsTypedProgram p → HasNamedInstances p → StagesMeanSame p (code_of_stages p)
stages_mean_same alike (OverTables p) typed named = tt
stages_mean_same alike (OverStage p stage) typed named = (thread_means_same alike stage typed.2 named.1, stages_mean_same alike stage typed.2 named.1)

-- ---- whole

pub programs_mean_same : TypedProgramsAnswerAlike → TypedUnitsCountByWay → TypedProgramsMeanSame
programs_mean_same alike counted p translatable =
    let typed : IsTypedProgram p = IsTranslatable.typed translatable in
    record {
      answers = alike p translatable [];
      outputs = λ rows. outputs_alike (reader_of p) 0 (reader_of p).outputs rows (IsTypedUnit.outputs (reader_typed p typed));
      stages = stages_mean_same alike p typed (IsTranslatable.instances translatable);
      counts = each_counts counted p typed;
      tables = same_tables p typed;
      columns = same_columns p typed;
      places = each_names_tables p;
      names = same_names p;
      bys = same_bys p;
    }
