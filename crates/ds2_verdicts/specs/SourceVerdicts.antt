-- The verdicts on the thread programs of a source that is not refused, whether a program reads from them or not.
use Rattle.std.specs.Prelude.{◌≡◌, codes, List, [], ◌∷◌, ◌++◌, Option, Some, None}
use Rattle.std.specs.Option.{option_map}
use Rattle.ds2_base.specs.Place.{start_place}
use Rattle.ds2_base.specs.declared.place.Place.{Place}
use Rattle.ds2_tree.specs.Globals.{Method}
use Rattle.ds2_tree.specs.Units.{SourcePart, Thread, AThread}
use Rattle.ds2_meaning.specs.ProgramTree.{reader_of}
use Rattle.ds2_meaning.specs.View.{typed_thread_program}
use Rattle.ds2_meaning.specs.declared.methods.SystemMethod.{SystemMethod}
use Rattle.ds2_meaning.specs.declared.units.TypedThread.{TypedThread, out-TypedThread}
use Rattle.ds2_names.specs.SourceUnit.{TableColumns, UnitSource, source_methods, spelled_name, unit_of_thread}
use Rattle.ds2_names.specs.Uses.{method_named}
use Rattle.ds2_elaboration.specs.Elaboration.{before_source, tables_behind_part, units_behind}
use Rattle.ds2_elaboration.specs.ProgramTypes.{typed_program}
use Rattle.ds2_elaboration.specs.UnitsBefore.{UnitsBefore}
use Rattle.ds2_locality.specs.Verdict.{JudgedThread, objects_in_order}
use Rattle.ds2_verdicts.specs.ThreadVerdicts.{declaration_names, verdict_on_typed, verdict_under}
use Rattle.ds2_verdicts.specs.declared.verdicts.ThreadVerdict.{ThreadVerdict}

-- the place of the name of a method; where there is none, nothing is ever told there
abbrev pub place_of_method : Option Method → Place
place_of_method None = start_place
place_of_method (Some m) = m.name.place

-- a thread program of a source behind other units, as it is judged
abbrev pub judged_in_source : TableColumns → UnitsBefore → UnitSource → JudgedThread
judged_in_source tables before u =
    let p = reader_of (typed_program tables before u) in
    record {
      program = p;
      run_place = place_of_method (method_named (source_methods u.globals) (codes "run"));
      term_place = place_of_method (method_named (source_methods u.globals) (codes "term"));
      objects = objects_in_order (declaration_names u) p;
    }

-- the verdict on a thread program behind other units
abbrev pub verdict_behind : TableColumns → UnitsBefore → Thread → ThreadVerdict
verdict_behind tables before u = verdict_under (spelled_name u.name) (judged_in_source tables before (unit_of_thread u))

-- the verdict on the thread program that a part of a source is
abbrev pub verdicts_in : TableColumns → UnitsBefore → SourcePart → List ThreadVerdict
verdicts_in tables before (AThread u) = verdict_behind tables before u ∷ []
verdicts_in tables before _ = []

-- the verdicts on the thread programs among these parts behind others
abbrev pub verdicts_of_parts : TableColumns → UnitsBefore → List SourcePart → List ThreadVerdict
verdicts_of_parts tables before [] = []
verdicts_of_parts tables before (part ∷ parts) =
    verdicts_in tables before part ++ verdicts_of_parts (tables_behind_part tables before part) (units_behind tables part before) parts

-- the verdicts on the thread programs of a source, in order, over the tables of the store
abbrev pub source_verdicts : TableColumns → List SourcePart → List ThreadVerdict
source_verdicts tables parts = verdicts_of_parts tables (before_source parts) parts

-- ---- typed thread programs

-- the place that a system method of a typed program keeps, where there is one
abbrev pub place_kept : Option SystemMethod → Option Place
place_kept m = option_map (λ (s : SystemMethod). s.place) m

-- the place of the name of a method of a source, where there is one
abbrev pub place_told : Option Method → Option Place
place_told m = option_map (λ (s : Method). s.name.place) m

-- a typed thread program is that of a source behind other units, with the places of its system methods
pub record IsThreadOf (tables : TableColumns) (before : UnitsBefore) (u : Thread) (t : TypedThread) : Type 0 where
  pub name : (out-TypedThread t).name ≡ spelled_name u.name
  pub tree : typed_thread_program t ≡ typed_program tables before (unit_of_thread u)
  pub run : place_kept (out-TypedThread t).program.run ≡ place_told (method_named (source_methods u.globals) (codes "run"))
  pub term : place_kept (out-TypedThread t).program.term ≡ place_told (method_named (source_methods u.globals) (codes "term"))

-- the verdict on a typed thread program of a source is the one that the source has on it
abbrev pub TypedThreadsAreJudged : Type 0
TypedThreadsAreJudged = (tables : TableColumns) (before : UnitsBefore) (u : Thread) (t : TypedThread) → IsThreadOf tables before u t → verdict_on_typed u t ≡ verdict_behind tables before u
