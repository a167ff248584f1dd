use Rattle.std.proofs.Common.{◌≡◌, ◌∙◌, List, None, Ok, Err, sym, subst}
use Rattle.ds2_tree.specs.Units.{AData}
use Rattle.ds2_tree.specs.UnitViews.{data_tree}
use Rattle.ds2_meaning.specs.declared.globals.OutputTable.{OutputTable}
use Rattle.ds2_meaning.specs.declared.units.TypedData.{TypedData}
use Rattle.ds2_names.specs.SourceLimits.{behind_part}
use Rattle.ds2_names.specs.SourceUnit.{columns_stored, unit_of_data}
use Rattle.ds2_names.specs.declared.schemas.NamedSchema.{NamedSchema}
use Rattle.ds2_elaboration.specs.Elaboration.{unit_refusal}
use Rattle.ds2_program_types.specs.TypedPrograms.{IsTypedData}
use Rattle.ds2_resolve.specs.StandingBefore.{TellsOfUnits}
use Rattle.ds2_resolve.specs.declared.before.UnitsBefore.{UnitsBefore}
use Rattle.ds2_compile.specs.SourceOutcomes.{IsOutcomeOfUnit}
use Rattle.ds2_compile.specs.TablesBehind.{HaveOutputSchemas, last_outputs}
use Rattle.ds2_compile.proofs.UnitOutcomes.{schemas_of_typed}
use Rattle.ds2_compile.proofs.SourceSteps.{ended_there, last_pushed, one_more_kept, program_is_behind, program_leads, refused_there}
use Rattle.ds2_compile.proofs.typed_so_far.TypedSoFar.with_program.Goals as goal

pub returns-in_err-own-clause-leads : goal.returns-in_err-own-clause-leads
returns-in_err-own-clause-leads c = λ tables parts rest lead.
    let u = data_tree c.args.program.now in
    let stop = c.in_err-own.field-0.0 in
    let units = lead.units in
    let stands = lead.stands in
    ended_there tables parts rest stop c.from_residual.result c.from_residual.ensures.1
    (refused_there tables parts rest c.args.self (AData u) stop lead
    (subst (λ (ts : List NamedSchema). IsOutcomeOfUnit (unit_refusal (columns_stored ts) units (unit_of_data u)) (IsTypedData (columns_stored ts) units (unit_of_data u)) (Err stop)) c.as_slice-2.ensures
    (c.in_err-own.ensures.typed units stands.tells stands.types (c.as_slice.ensures ∙ stands.made))))

pub with_tables-requires : goal.with_tables-requires
with_tables-requires c =
    let u = data_tree c.args.program.now in
    let d = c.in_ok-own.own in
    let some = c.requires.behind in
    let units = some.units in
    let e =
    subst (λ (ts : List NamedSchema). IsOutcomeOfUnit (unit_refusal (columns_stored ts) units (unit_of_data u)) (IsTypedData (columns_stored ts) units (unit_of_data u)) (Ok d)) c.as_slice-2.ensures
    (c.in_ok-own.ensures.typed units some.stands.tells some.stands.types (c.as_slice.ensures ∙ some.stands.made)) in
    subst (λ (ts : List TypedData). HaveOutputSchemas (last_outputs ts)) (sym c.in_ok-push.ensures.ok)
    (subst (λ (os : List OutputTable). HaveOutputSchemas os) (sym (last_pushed c.args.self.typed d))
    (schemas_of_typed c.one_outcome.ensures c.every_unit_is_typed.ensures (columns_stored c.args.self.tables) units u c.requires.stands some.schemas some.typed d e.0 e.1.tree))

pub returns-clause-leads : goal.returns-clause-leads
returns-clause-leads c = λ tables parts rest lead.
    let u = data_tree c.args.program.now in
    let d = c.in_ok-own.own in
    let next = c.in_ok-next.next in
    let kept = c.in_ok-next.ensures in
    let units = lead.units in
    let e =
    subst (λ (ts : List NamedSchema). IsOutcomeOfUnit (unit_refusal (columns_stored ts) units (unit_of_data u)) (IsTypedData (columns_stored ts) units (unit_of_data u)) (Ok d)) c.as_slice-2.ensures
    (c.in_ok-own.ensures.typed units lead.stands.tells lead.stands.types (c.as_slice.ensures ∙ lead.stands.made)) in
    let tells =
    subst (λ (b : UnitsBefore). TellsOfUnits b (behind_part (columns_stored c.args.self.tables) (AData u) units.names)) (sym kept.before)
    (subst (λ (ts : List NamedSchema). TellsOfUnits c.typed_program.new.before (behind_part (columns_stored ts) (AData u) units.names)) c.as_slice-2.ensures
    (c.in_ok-own.ensures.behind units.names lead.stands.tells)) in
    program_leads c.args.self u d next
    (one_more_kept c.args.self d c.push.new.self next c.typed_program.new.before c.in_ok-push.ensures.ok kept.before kept.known kept.made kept.tables kept.typed) tables parts rest lead tells e.0 e.1.tree

pub returns-clause-behind : goal.returns-clause-behind
returns-clause-behind c =
    let u = data_tree c.args.program.now in
    let d = c.in_ok-own.own in
    let next = c.in_ok-next.next in
    let kept = c.in_ok-next.ensures in
    let some = c.requires.behind in
    let units = some.units in
    let e =
    subst (λ (ts : List NamedSchema). IsOutcomeOfUnit (unit_refusal (columns_stored ts) units (unit_of_data u)) (IsTypedData (columns_stored ts) units (unit_of_data u)) (Ok d)) c.as_slice-2.ensures
    (c.in_ok-own.ensures.typed units some.stands.tells some.stands.types (c.as_slice.ensures ∙ some.stands.made)) in
    let tells =
    subst (λ (b : UnitsBefore). TellsOfUnits b (behind_part (columns_stored c.args.self.tables) (AData u) units.names)) (sym kept.before)
    (subst (λ (ts : List NamedSchema). TellsOfUnits c.typed_program.new.before (behind_part (columns_stored ts) (AData u) units.names)) c.as_slice-2.ensures
    (c.in_ok-own.ensures.behind units.names some.stands.tells)) in
    program_is_behind c.args.self u d next
    (one_more_kept c.args.self d c.push.new.self next c.typed_program.new.before c.in_ok-push.ensures.ok kept.before kept.known kept.made kept.tables kept.typed) c.one_outcome.ensures
    c.every_unit_is_typed.ensures c.requires.stands some tells e.0 e.1.tree
