use Rattle.std.proofs.Common.{List, ap, refl, ◌∙◌}
use Rattle.ds2_compile.specs.SourceUnit.{columns_stored}
use Rattle.ds2_compile.specs.UnitViews.{source_tree}
use Rattle.ds2_answer.specs.HeldTables.{NamedTable, columns_held, held_from_store}
use Rattle.ds2_answer.specs.SourcePlans.{with_tables}
use Rattle.ds2_answer.specs.declared.status.Status.TheVariants.{Read, Source, Write}
use Rattle.ds2_answer.specs.Lines.{source_line}
use Rattle.ds2_commands.proofs.LoadSteps.{compiled_over, loads_short, loads_unmade, refused_over, said_as, unmade_as}
use Rattle.ds2_commands.proofs.compiling.compile_over.Goals as goal

pub returns-in-Ok-clause-loads : goal.returns-in-Ok-clause-loads
returns-in-Ok-clause-loads c = λ told.
    compiled_over (columns_stored c.in_ok-schemas.schemas.tables) (source_tree c.args.tree.now) c.args.stored
    (c.in_ok-schemas.ensures ∙ ap (λ (ts : List NamedTable). columns_held (held_from_store ts)) c.as_slice.ensures)
    c.verdict_grains_fit.ensures c.independent_code_gives_stages.ensures c.programs_have_verdicts.ensures
    (record { object = c.in-Ok.compiled.object; verdicts = c.in-Ok.compiled.verdicts; stored = c.args.stored }) refl c.in-Ok.compiled refl refl c.in-Ok.ensures c.args.log.now told

pub returns-in-Err-Refused-clause-loads : goal.returns-in-Err-Refused-clause-loads
returns-in-Err-Refused-clause-loads c = λ told.
    refused_over (columns_stored c.in_ok-schemas.schemas.tables) (source_tree c.args.tree.now) c.args.stored
    (c.in_ok-schemas.ensures ∙ ap (λ (ts : List NamedTable). columns_held (held_from_store ts)) c.as_slice.ensures)
    c.in-Err-Refused.refusal c.in-Err-Refused.field-0 c.args.log.now c.refuse_source.new.log c.refuse_source.result c.in-Err-Refused.field-0-is c.in-Err-Refused.ensures c.refuse_source.ensures told

pub returns-in_err-schemas-clause-loads : goal.returns-in_err-schemas-clause-loads
returns-in_err-schemas-clause-loads c = λ told.
    loads_unmade (λ files go. with_tables (source_tree c.args.tree.now) go c.args.stored) c.args.log.now c.args.log.now told told c.from_residual.result c.from_residual.ensures.1 refl

pub returns-clause-loads : goal.returns-clause-loads
returns-clause-loads c = λ told. loads_short (λ files go. with_tables (source_tree c.args.tree.now) go c.args.stored) c.args.log.now c.args.log.now told told refl

pub returns-in-Err-Refused-clause-unread : goal.returns-in-Err-Refused-clause-unread
returns-in-Err-Refused-clause-unread c = said_as Source Read (source_line c.in-Err-Refused.refusal) c.args.log.now c.refuse_source.result c.refuse_source.new.log (λ e. absurd (cc e)) c.refuse_source.ensures

pub returns-in-Err-Refused-clause-unwritten : goal.returns-in-Err-Refused-clause-unwritten
returns-in-Err-Refused-clause-unwritten c = said_as Source Write (source_line c.in-Err-Refused.refusal) c.args.log.now c.refuse_source.result c.refuse_source.new.log (λ e. absurd (cc e)) c.refuse_source.ensures

pub returns-in_err-schemas-clause-unread : goal.returns-in_err-schemas-clause-unread
returns-in_err-schemas-clause-unread c = unmade_as Read c.from_residual.result c.from_residual.ensures.1

pub returns-in_err-schemas-clause-unwritten : goal.returns-in_err-schemas-clause-unwritten
returns-in_err-schemas-clause-unwritten c = unmade_as Write c.from_residual.result c.from_residual.ensures.1
