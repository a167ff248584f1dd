-- The thread programs of a source, as the code holds them.
use Rattle.std.specs.Prelude.{◌≡◌, List, [], ◌∷◌, ◌++◌}
use Rattle.ds2_tree.specs.Units.{SourcePart, Proc, Run, Quit, APackage, AThread, AData}
use Rattle.ds2_meaning.specs.declared.units.TypedThread.{TypedThread}
use Rattle.ds2_names.specs.SourceUnit.{TableColumns, unit_of_thread}
use Rattle.ds2_elaboration.specs.Elaboration.{before_source, tables_behind_part, units_behind}
use Rattle.ds2_elaboration.specs.UnitsBefore.{UnitsBefore}
use Rattle.ds2_program_types.specs.TypedPrograms.{IsTypedThread}

-- one thread program of a list
abbrev pub IsOneThread : (TypedThread → Type 0) → List TypedThread → Type 0
IsOneThread Is [] = ⊥
IsOneThread Is (t ∷ []) = Is t
IsOneThread Is (t ∷ u ∷ threads) = ⊥

-- the thread programs of a part of a source behind others: the part itself, typed, where it is one
abbrev pub AreThreadsIn : TableColumns → UnitsBefore → SourcePart → List TypedThread → Type 0
AreThreadsIn tables before (Proc keyword ds2 end) threads = threads ≡ []
AreThreadsIn tables before (Run keyword end) threads = threads ≡ []
AreThreadsIn tables before (Quit keyword end) threads = threads ≡ []
AreThreadsIn tables before (APackage u) threads = threads ≡ []
AreThreadsIn tables before (AThread u) threads = IsOneThread (IsTypedThread tables before (unit_of_thread u)) threads
AreThreadsIn tables before (AData u) threads = threads ≡ []

-- those of parts behind others, in order
abbrev pub AreThreadsBehind : TableColumns → UnitsBefore → List SourcePart → List TypedThread → Type 0
AreThreadsBehind tables before [] threads = threads ≡ []
AreThreadsBehind tables before (part ∷ parts) threads =
    (own : List TypedThread) × (others : List TypedThread) × (threads ≡ own ++ others) × AreThreadsIn tables before part own
    × AreThreadsBehind (tables_behind_part tables before part) (units_behind tables part before) parts others

-- those of a source, in order
abbrev pub AreThreadsOfSource : TableColumns → List SourcePart → List TypedThread → Type 0
AreThreadsOfSource tables parts threads = AreThreadsBehind tables (before_source parts) parts threads
