-- The rules of types that a unit breaks: those of its columns, of its instances, and of its methods.
use Rattle.ds2_elaboration.specs.ProgramTypes.{instance_refusals, scope_of_declarations}
use Rattle.ds2_elaboration.specs.SourceTypes.{clashing_tables, unit_names}
use Rattle.ds2_elaboration.specs.Typings.{TypeRefusals}
use Rattle.ds2_elaboration.specs.UnitsBefore.{UnitsBefore}
use Rattle.ds2_meaning.specs.declared.refusals.TypeKind.TheVariants.{TypeClash}
use Rattle.ds2_names.specs.NameRules.{from_each}
use Rattle.ds2_names.specs.Refusals.{broken_at}
use Rattle.ds2_names.specs.SourceUnit.{SourceInstance, TableColumns, UnitSource}

-- those that its columns break
abbrev pub column_refusals : TableColumns → UnitsBefore → UnitSource → TypeRefusals
column_refusals tables before u = broken_at TypeClash (clashing_tables tables before u)

-- those that its declarations of instances break
abbrev pub declaration_refusals : TableColumns → UnitsBefore → UnitSource → TypeRefusals
declaration_refusals tables before u =
    from_each (λ (i : SourceInstance). instance_refusals tables before (scope_of_declarations tables before u) i i.sort) (unit_names tables before u).instances
