-- A program's answer depends on the tables that its reading statements and its hash objects mention alone.
use Rattle.std.specs.Prelude.{◌≡◌, ℕ, List, [], ◌∷◌, ◌++◌, map, Option, Some, None}
use Rattle.std.specs.List.{AllByRecursion}
use Rattle.ds2_base.specs.declared.place.Place.{Place}
use Rattle.ds2_value.specs.declared.fault.Ending.TheVariants.{Faulted}
use Rattle.ds2_value.specs.declared.fault.Fault.{Fault}
use Rattle.ds2_value.specs.declared.value.Value.{Value}
use Rattle.ds2_table.specs.OneThread.{Answer}
use Rattle.ds2_meaning.specs.declared.hashes.DeclaredHash.{DeclaredHash}
use Rattle.ds2_meaning.specs.declared.hashes.LoadedTable.{LoadedTable}
use Rattle.ds2_meaning.specs.declared.readings.Input.{Input}
use Rattle.ds2_meaning.specs.declared.readings.Reading.{Reading}
use Rattle.ds2_meaning.specs.declared.readings.MentionedTable.{MentionedTable}
use Rattle.ds2_meaning.specs.ProgramMeaning.{program_answer, tables_left}
use Rattle.ds2_meaning.specs.ProgramTree.{InstanceTree, UnitTree, ProgramTree, OverTables, OverStage}
use Rattle.ds2_meaning.specs.Reading.{TableRows, inputs_of}

-- the tables of a reading statement
abbrev pub tables_read : Reading → List MentionedTable
tables_read reading = map (λ (input : Input). input.table) (inputs_of reading)

-- the tables that hash objects are loaded from
abbrev pub tables_loaded : List DeclaredHash → List MentionedTable
tables_loaded [] = []
tables_loaded (h ∷ hashes) = of_load h.loaded ++ tables_loaded hashes
  where
    of_load : Option LoadedTable → List MentionedTable
    of_load None = []
    of_load (Some loaded) = loaded.table ∷ []

-- the tables that the hash objects of instances are loaded from
abbrev pub tables_loaded_by : List InstanceTree → List MentionedTable
tables_loaded_by [] = []
tables_loaded_by (i ∷ instances) = tables_loaded i.objects.hashes ++ tables_loaded_by instances

-- the tables that the hash objects of a program and of its instances are loaded from
abbrev pub tables_at_opening : UnitTree → List MentionedTable
tables_at_opening p = tables_loaded p.objects.hashes ++ tables_loaded_by p.instances

-- the tables that a program mentions, those of the thread program that it reads from among them
abbrev pub tables_mentioned : ProgramTree → List MentionedTable
tables_mentioned (OverTables p) = tables_at_opening p ++ tables_read p.reading
tables_mentioned (OverStage p stage) = tables_at_opening p ++ tables_mentioned stage

-- two stores have the same rows of each of these tables
abbrev pub AgreeOn : List MentionedTable → TableRows → TableRows → Type 0
AgreeOn tables before after = AllByRecursion (λ (table : MentionedTable). before table ≡ after table) tables

-- two stores that agree on the tables that a program mentions give it one answer
abbrev pub TablesMentionedDecide : Type 0
TablesMentionedDecide = (p : ProgramTree) (values : List Value) (before after : TableRows) (budget grain : ℕ)
    → AgreeOn (tables_mentioned p) before after → program_answer p values before budget grain ≡ program_answer p values after budget grain

-- a program that ends by a fault leaves no table
abbrev pub FaultLeavesNoTable : Type 0
FaultLeavesNoTable = (p : UnitTree) (answer : Answer) (fault : Fault) (place : Place)
    → answer.ending ≡ Some (Faulted fault place) → tables_left p answer ≡ []
