-- What a source and its units become, as the code holds it: typed units, or a refusal with its kind and place.
use Rattle.std.specs.Prelude.{◌≡◌, List, map, Option, Some, None, Result, Ok, Err}
use Rattle.std.specs.Option.{option_map}
use Rattle.ds2_base.specs.declared.stop.Stop.{Stop}
use Rattle.ds2_base.specs.declared.stop.Stop.TheVariants.{Refused, OutOfMemory}
use Rattle.ds2_meaning.specs.ProgramTree.{ProgramTree}
use Rattle.ds2_meaning.specs.View.{typed_data_program}
use Rattle.ds2_meaning.specs.declared.units.TypedData.{TypedData}
use Rattle.ds2_elaboration.specs.Elaboration.{ProgramRefusal}
use Rattle.ds2_source.specs.SourceRefusals.{source_refusal_of}
use Rattle.ds2_source.specs.declared.kinds.SourceRefusal.{SourceRefusal}
use Rattle.ds2_compile.specs.declared.programs.TypedSource.{TypedSource}

-- the refusal of a unit is given, unless memory ran out
abbrev pub IsUnitRefusal : Option ProgramRefusal → Stop SourceRefusal → Type 0
IsUnitRefusal refusal (Refused given) = option_map source_refusal_of refusal ≡ Some given
IsUnitRefusal refusal OutOfMemory = Unit {0}

-- a unit that is not refused became such a one; else its refusal is given, unless memory ran out
abbrev pub IsOutcomeOfUnit : {A : Type 0} → Option ProgramRefusal → (A → Type 0) → Result A (Stop SourceRefusal) → Type 0
IsOutcomeOfUnit refusal Becomes (Ok x) = (refusal ≡ None) × Becomes x
IsOutcomeOfUnit refusal Becomes (Err stop) = IsUnitRefusal refusal stop

-- what a source becomes
abbrev pub programs_or_refusal : Result (List ProgramTree) ProgramRefusal → Result (List ProgramTree) SourceRefusal
programs_or_refusal (Ok programs) = Ok programs
programs_or_refusal (Err refusal) = Err (source_refusal_of refusal)

-- a source is refused so, unless memory ran out
abbrev pub IsRefusedSource : Result (List ProgramTree) ProgramRefusal → Stop SourceRefusal → Type 0
IsRefusedSource becomes (Refused refusal) = programs_or_refusal becomes ≡ Err refusal
IsRefusedSource becomes OutOfMemory = Unit {0}

-- a source becomes these programs
abbrev pub AreProgramsOf : Result (List ProgramTree) ProgramRefusal → List TypedData → Type 0
AreProgramsOf becomes programs = programs_or_refusal becomes ≡ Ok (map typed_data_program programs)

-- this is what a source becomes, unless memory ran out
abbrev pub IsOutcomeOfSource : Result (List ProgramTree) ProgramRefusal → Result TypedSource (Stop SourceRefusal) → Type 0
IsOutcomeOfSource becomes (Ok typed) = AreProgramsOf becomes typed.programs
IsOutcomeOfSource becomes (Err stop) = IsRefusedSource becomes stop
