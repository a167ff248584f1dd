-- The thread programs of a source: their trees, their types and the verdicts on them.
use Rattle.std.proofs.Common.{◌≡◌, ℕ, List, [], ◌∷◌, ◌++◌, map, Option, Some, None, Result, Ok, Err, refl, sym, ap, subst, ◌∙◌, Global}
use Rattle.std.specs.List.{AllByRecursion}
use Rattle.std.specs.Option.{option_map}
use Rattle.std.specs.declared.sync.Arc.{Arc}
use Rattle.std.proofs.lemmas.List.{map-append}
use Rattle.ds2_tree.specs.Units.{SourcePart, Thread, Proc, Run, Quit, APackage, AThread, AData}
use Rattle.ds2_meaning.specs.IsTyped.{IsTypedProgram, IsTypedUnit}
use Rattle.ds2_meaning.specs.ProgramTree.{UnitTree, ProgramTree, OverTables, OverStage, reader_of}
use Rattle.ds2_meaning.specs.View.{over_stage, thread_part, typed_thread_program, unit_tree, unshared}
use Rattle.ds2_meaning.specs.declared.globals.Variable.{Variable}
use Rattle.ds2_meaning.specs.declared.units.Program.{Program}
use Rattle.ds2_meaning.specs.declared.units.TypedData.{TypedData}
use Rattle.ds2_meaning.specs.declared.units.TypedThread.{TypedThread, out-TypedThread}
use Rattle.ds2_meaning.specs.declared.units.TypedThread.TheFolds.{fold-roll-TypedThread}
use Rattle.ds2_meaning.specs.declared.units.TypedThread.TheViews.{roll-TypedThread, roll-out-TypedThread}
use Rattle.ds2_names.specs.SourceUnit.{TableColumns, spelled_name, unit_of_thread}
use Rattle.ds2_elaboration.specs.Elaboration.{ProgramRefusal, before_source, elaborated_source, elaborated_threads, tables_behind_part, threads_in, threads_of_parts, units_behind}
use Rattle.ds2_elaboration.specs.TypedPrograms.{EveryThreadIsTyped, HaveSchemas, StandsInSource}
use Rattle.ds2_elaboration.specs.ProgramTypes.{typed_program}
use Rattle.ds2_elaboration.specs.UnitsBefore.{UnitsBefore}
use Rattle.ds2_compile.specs.TypedPrograms.{IsTypedThread}
use Rattle.ds2_compile.specs.SourceOutcomes.{AreProgramsOf}
use Rattle.ds2_compile.specs.SourceThreads.{AreThreadsBehind, AreThreadsIn, AreThreadsOfSource}
use Rattle.ds2_compile.proofs.UnitOutcomes.{reader_made}
use Rattle.ds2_verdicts.specs.SourceVerdicts.{IsThreadOf, TypedThreadsAreJudged, source_verdicts, verdicts_in, verdicts_of_parts}
use Rattle.ds2_verdicts.specs.ThreadVerdicts.{IsTyped, verdicts_on}
use Rattle.ds2_verdicts.specs.declared.verdicts.ThreadVerdict.{ThreadVerdict}

-- ---- a thread program has its name

thread_rolled : (name : List ℕ) (parameters : List Variable) (program : Program) (o : Option (Arc TypedThread Global))
    → typed_thread_program (roll-TypedThread (record { name = name; parameters = parameters; program = program; stage = o }))
    ≡ over_stage (unit_tree (Some name) parameters program) (option_map typed_thread_program (unshared o))
thread_rolled name parameters program None = fold-roll-TypedThread ProgramTree thread_part (record { name = name; parameters = parameters; program = program; stage = None })
thread_rolled name parameters program (Some b) = fold-roll-TypedThread ProgramTree thread_part (record { name = name; parameters = parameters; program = program; stage = Some b })

name_over : (p : UnitTree) (o : Option ProgramTree) → (reader_of (over_stage p o)).thread ≡ p.thread
name_over p None = refl
name_over p (Some stage) = refl

name_kept : (t : TypedThread) → (reader_of (typed_thread_program t)).thread ≡ Some (out-TypedThread t).name
name_kept t =
    let rolled = thread_rolled (out-TypedThread t).name (out-TypedThread t).parameters (out-TypedThread t).program (out-TypedThread t).stage in
    ap (λ (p : ProgramTree). (reader_of p).thread) (sym (ap typed_thread_program (roll-out-TypedThread t)) ∙ rolled)
    ∙ name_over (unit_tree (Some (out-TypedThread t).name) (out-TypedThread t).parameters (out-TypedThread t).program) (option_map typed_thread_program (unshared (out-TypedThread t).stage))

-- the name, or another one
abbrev name_or : List ℕ → Option (List ℕ) → List ℕ
name_or other None = other
name_or other (Some name) = name

-- a thread program of a source, typed, as it is judged
thread_of : (tables : TableColumns) (before : UnitsBefore) (u : Thread) (t : TypedThread) → IsTypedThread tables before (unit_of_thread u) t → IsThreadOf tables before u t
thread_of tables before u t is = record {
  name =
      ap (name_or [])
      (sym (name_kept t)
      ∙ ap (λ (p : ProgramTree). (reader_of p).thread) (IsTypedThread.tree is)
      ∙ ap (λ (p : UnitTree). p.thread) (reader_made tables before (unit_of_thread u)));
  tree = IsTypedThread.tree is;
  run = (IsTypedThread.places is).run;
  term = (IsTypedThread.places is).term;
}

-- ---- trees

own_trees : (tables : TableColumns) (before : UnitsBefore) (part : SourcePart) (own : List TypedThread) → AreThreadsIn tables before part own → map typed_thread_program own ≡ threads_in tables before part
own_trees tables before (Proc keyword ds2 end) own is = ap (map typed_thread_program) is
own_trees tables before (Run keyword end) own is = ap (map typed_thread_program) is
own_trees tables before (Quit keyword end) own is = ap (map typed_thread_program) is
own_trees tables before (APackage u) own is = ap (map typed_thread_program) is
own_trees tables before (AThread u) [] is = absurd is
own_trees tables before (AThread u) (t ∷ []) is = ap (λ (p : ProgramTree). p ∷ []) (IsTypedThread.tree is)
own_trees tables before (AThread u) (t ∷ v ∷ threads) is = absurd is
own_trees tables before (AData u) own is = ap (map typed_thread_program) is

trees_behind : (tables : TableColumns) (before : UnitsBefore) (parts : List SourcePart) (threads : List TypedThread) → AreThreadsBehind tables before parts threads
    → map typed_thread_program threads ≡ threads_of_parts tables before parts
trees_behind tables before [] threads are = ap (map typed_thread_program) are
trees_behind tables before (part ∷ parts) threads (own, others, e, is, are) =
    ap (map typed_thread_program) e ∙ map-append typed_thread_program own others
    ∙ (λ i. own_trees tables before part own is i ++ trees_behind (tables_behind_part tables before part) (units_behind tables part before) parts others are i)

-- ---- types

unit_typed : (p : ProgramTree) → IsTypedProgram p → IsTypedUnit (reader_of p)
unit_typed (OverTables p) typed = typed.0
unit_typed (OverStage p stage) typed = typed.0

all_typed : (threads : List TypedThread) → AllByRecursion IsTypedProgram (map typed_thread_program threads) → AllByRecursion IsTyped threads
all_typed [] typed = tt
all_typed (t ∷ threads) typed = (unit_typed (typed_thread_program t) typed.0, all_typed threads typed.1)

-- the thread programs of a source that is not refused are typed
threads_typed : EveryThreadIsTyped → (tables : TableColumns) (parts : List SourcePart) (programs : List ProgramTree) (threads : List TypedThread) → HaveSchemas tables
    → AllByRecursion StandsInSource parts → elaborated_source tables parts ≡ Ok programs → AreThreadsOfSource tables parts threads → AllByRecursion IsTyped threads
threads_typed law tables parts programs threads schemas stand e are =
    all_typed threads (subst (λ (ps : List ProgramTree). AllByRecursion IsTypedProgram ps) (sym (trees_behind tables (before_source parts) parts threads are)) (law tables parts programs schemas stand e))

-- ---- verdicts

-- the verdicts on the thread programs of a part and of those behind it
part_verdicts : TypedThreadsAreJudged → (tables : TableColumns) (before : UnitsBefore) (part : SourcePart) (parts : List SourcePart) (own others : List TypedThread) → AreThreadsIn tables before part own
    → verdicts_on (part ∷ parts) (own ++ others) ≡ verdicts_in tables before part ++ verdicts_on parts others
part_verdicts law tables before (Proc keyword ds2 end) parts own others is = ap (λ (ts : List TypedThread). verdicts_on parts (ts ++ others)) is
part_verdicts law tables before (Run keyword end) parts own others is = ap (λ (ts : List TypedThread). verdicts_on parts (ts ++ others)) is
part_verdicts law tables before (Quit keyword end) parts own others is = ap (λ (ts : List TypedThread). verdicts_on parts (ts ++ others)) is
part_verdicts law tables before (APackage u) parts own others is = ap (λ (ts : List TypedThread). verdicts_on parts (ts ++ others)) is
part_verdicts law tables before (AThread u) parts [] others is = absurd is
part_verdicts law tables before (AThread u) parts (t ∷ []) others is = ap (λ (v : ThreadVerdict). v ∷ verdicts_on parts others) (law tables before u t (thread_of tables before u t is))
part_verdicts law tables before (AThread u) parts (t ∷ v ∷ threads) others is = absurd is
part_verdicts law tables before (AData u) parts own others is = ap (λ (ts : List TypedThread). verdicts_on parts (ts ++ others)) is

verdicts_behind : TypedThreadsAreJudged → (tables : TableColumns) (before : UnitsBefore) (parts : List SourcePart) (threads : List TypedThread) → AreThreadsBehind tables before parts threads
    → verdicts_on parts threads ≡ verdicts_of_parts tables before parts
verdicts_behind law tables before [] threads are = refl
verdicts_behind law tables before (part ∷ parts) threads (own, others, e, is, are) =
    ap (verdicts_on (part ∷ parts)) e ∙ part_verdicts law tables before part parts own others is
    ∙ ap (λ (vs : List ThreadVerdict). verdicts_in tables before part ++ vs) (verdicts_behind law (tables_behind_part tables before part) (units_behind tables part before) parts others are)

pub verdicts_are : TypedThreadsAreJudged → (tables : TableColumns) (parts : List SourcePart) (threads : List TypedThread) → AreThreadsOfSource tables parts threads
    → verdicts_on parts threads ≡ source_verdicts tables parts
verdicts_are law tables parts threads are = verdicts_behind law tables (before_source parts) parts threads are

-- ---- a source that is not refused

-- the programs of an outcome, where it has some
pub record IsAccepted (outcome : Result (List ProgramTree) ProgramRefusal) : Type 0 where
  pub programs : List ProgramTree
  pub accepted : outcome ≡ Ok programs

pub accepted_with : (outcome : Result (List ProgramTree) ProgramRefusal) (programs : List TypedData) → AreProgramsOf outcome programs → IsAccepted outcome
accepted_with (Ok trees) programs are = record { programs = trees; accepted = refl }
accepted_with (Err refusal) programs are = absurd (cc are)

-- the thread programs that stand beside the programs of a source are typed
pub threads_beside : EveryThreadIsTyped → (tables : TableColumns) (parts : List SourcePart) (programs : List TypedData) (threads : List TypedThread) → HaveSchemas tables
    → AllByRecursion StandsInSource parts → AreProgramsOf (elaborated_source tables parts) programs → AreThreadsOfSource tables parts threads → AllByRecursion IsTyped threads
threads_beside law tables parts programs threads schemas stand is are =
    let taken = accepted_with (elaborated_source tables parts) programs is in
    threads_typed law tables parts (IsAccepted.programs taken) threads schemas stand (IsAccepted.accepted taken) are
