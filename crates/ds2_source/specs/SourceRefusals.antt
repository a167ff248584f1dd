-- The refusals of a program, among those of a source.
use Rattle.ds2_elaboration.specs.Elaboration.{ProgramRefusal, OfNames, OfTypes}
use Rattle.ds2_source.specs.declared.kinds.SourceKind.TheVariants.{Scope, Types}
use Rattle.ds2_source.specs.declared.kinds.SourceRefusal.{SourceRefusal}

-- a refusal of a program, among those of a source
abbrev pub source_refusal_of : ProgramRefusal → SourceRefusal
source_refusal_of (OfNames refusal) = record { kind = Scope refusal.kind; place = refusal.place }
source_refusal_of (OfTypes refusal) = record { kind = Types refusal.kind; place = refusal.place }
