-- The verdict on a thread program, under its name.
use Rattle.std.specs.Prelude.{ℕ, bytes_eq, if◌then◌else◌, List, [], ◌∷◌, map, Option, Some, None}
use Rattle.ds2_tree.specs.Units.{SourcePart, Thread, AThread}
use Rattle.ds2_meaning.specs.IsTyped.{IsTypedUnit}
use Rattle.ds2_meaning.specs.ProgramTree.{reader_of}
use Rattle.ds2_meaning.specs.View.{typed_thread_program}
use Rattle.ds2_meaning.specs.declared.units.TypedThread.{TypedThread, out-TypedThread}
use Rattle.ds2_names.specs.SourceUnit.{SourceInstance, UnitSource, source_instances, spelled_name, unit_of_thread}
use Rattle.ds2_locality.specs.declared.locality.Verdict.{Verdict}
use Rattle.ds2_locality.specs.Verdict.{JudgedThread, verdict_of}
use Rattle.ds2_local.specs.JudgedTrees.{judged_thread}
use Rattle.ds2_verdicts.specs.declared.verdicts.ThreadVerdict.{ThreadVerdict}

-- the verdict on a thread program that is judged, under a name
abbrev pub verdict_under : List ℕ → JudgedThread → ThreadVerdict
verdict_under name judged = record { name = name; verdict = verdict_of judged }

-- a thread program has the types of one
abbrev pub IsTyped : TypedThread → Type 0
IsTyped thread = IsTypedUnit (reader_of (typed_thread_program thread))

-- the name of a hash object, an iterator or an instance that a unit declares
abbrev pub declaration_name : SourceInstance → List ℕ
declaration_name i = spelled_name i.name

-- the names of the hash objects, iterators and instances that a unit declares, in order
abbrev pub declaration_names : UnitSource → List (List ℕ)
declaration_names u = map declaration_name (source_instances u.globals)

-- the verdict on a typed thread program that stands so in a source
abbrev pub verdict_on_typed : Thread → TypedThread → ThreadVerdict
verdict_on_typed u thread = verdict_under (out-TypedThread thread).name (judged_thread (declaration_names (unit_of_thread u)) thread)

-- the verdicts on the typed thread programs of parts of a source, in order
abbrev pub verdicts_on : List SourcePart → List TypedThread → List ThreadVerdict
verdicts_on [] threads = []
verdicts_on (AThread u ∷ parts) [] = verdicts_on parts []
verdicts_on (AThread u ∷ parts) (thread ∷ threads) = verdict_on_typed u thread ∷ verdicts_on parts threads
verdicts_on (_ ∷ parts) threads = verdicts_on parts threads

-- the verdict on the thread program of a name, where these have one on it
abbrev pub verdict_named : List ThreadVerdict → List ℕ → Option Verdict
verdict_named [] name = None
verdict_named (v ∷ verdicts) name = if bytes_eq v.name name then Some v.verdict else verdict_named verdicts name
