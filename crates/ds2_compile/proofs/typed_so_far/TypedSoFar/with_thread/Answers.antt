use Rattle.std.proofs.Common.{◌≡◌, ◌∙◌, ◌∷◌, [], List, None, Ok, Err, refl, sym, ap, subst}
use Rattle.ds2_tree.specs.Units.{AThread}
use Rattle.ds2_tree.specs.UnitViews.{thread_tree}
use Rattle.ds2_meaning.specs.ProgramTree.{ProgramTree}
use Rattle.ds2_names.specs.SourceLimits.{behind_part}
use Rattle.ds2_names.specs.SourceUnit.{columns_stored, unit_of_thread}
use Rattle.ds2_names.specs.declared.schemas.NamedSchema.{NamedSchema}
use Rattle.ds2_elaboration.specs.Elaboration.{unit_refusal, units_behind}
use Rattle.ds2_program_types.specs.TypedPrograms.{IsTypedThread}
use Rattle.ds2_resolve.specs.StandingBefore.{TellsOfUnits}
use Rattle.ds2_compile.specs.declared.typed_so_far.TypedSoFar.{TypedSoFar}
use Rattle.ds2_compile.specs.SourceOutcomes.{IsOutcomeOfUnit}
use Rattle.ds2_compile.proofs.SourceSteps.{ended_there, refused_there, unit_is_behind, unit_leads, unit_stands}
use Rattle.ds2_compile.proofs.UnitsBehind.{thread_behind}
use Rattle.ds2_compile.proofs.typed_so_far.TypedSoFar.with_thread.Goals as goal

pub returns-in_err-own-clause-leads : goal.returns-in_err-own-clause-leads
returns-in_err-own-clause-leads c = λ tables parts rest lead.
    let u = thread_tree c.args.unit.now in
    let stop = c.in_err-own.field-0.0 in
    let units = lead.units in
    let stands = lead.stands in
    ended_there tables parts rest stop c.from_residual.result c.from_residual.ensures.1
    (refused_there tables parts rest c.args.self (AThread u) stop lead
    (subst (λ (ts : List NamedSchema). IsOutcomeOfUnit (unit_refusal (columns_stored ts) units (unit_of_thread u)) (IsTypedThread (columns_stored ts) units (unit_of_thread u)) (Err stop)) c.as_slice-2.ensures
    (c.in_err-own.ensures.typed units stands.tells stands.types (c.as_slice.ensures ∙ stands.made))))

pub returns-clause-leads : goal.returns-clause-leads
returns-clause-leads c = λ tables parts rest lead.
    let u = thread_tree c.args.unit.now in
    let own = c.in_ok-own.own in
    let next : TypedSoFar = record { before = c.typed_thread.new.before; known = c.in_ok-all.all; made = c.args.self.made; tables = c.args.self.tables; typed = c.args.self.typed } in
    let kept = c.in_ok-all.ensures in
    let tables_now = columns_stored c.args.self.tables in
    let units = lead.units in
    let e =
    subst (λ (ts : List NamedSchema). IsOutcomeOfUnit (unit_refusal (columns_stored ts) units (unit_of_thread u)) (IsTypedThread (columns_stored ts) units (unit_of_thread u)) (Ok own)) c.as_slice-2.ensures
    (c.in_ok-own.ensures.typed units lead.stands.tells lead.stands.types (c.as_slice.ensures ∙ lead.stands.made)) in
    let tells =
    (subst (λ (ts : List NamedSchema). TellsOfUnits c.typed_thread.new.before (behind_part (columns_stored ts) (AThread u) units.names)) c.as_slice-2.ensures
    (c.in_ok-own.ensures.behind units.names lead.stands.tells)) in
    let types = (kept.tells units (units_behind tables_now (AThread u) units) lead.stands.types refl (ap (λ (p : ProgramTree). p ∷ units.threads) (sym e.1.tree))) in
    let stands = unit_stands c.args.self next (AThread u) (record { made = refl; tables = refl; typed = refl }) units lead.stands refl tells types in
    unit_leads c.args.self next (record { made = refl; tables = refl; typed = refl }) (AThread u) tables parts rest lead e.0 refl refl stands (own ∷ []) e.1 kept.kept

pub returns-clause-behind : goal.returns-clause-behind
returns-clause-behind c =
    let some = c.requires.behind in
    let u = thread_tree c.args.unit.now in
    let own = c.in_ok-own.own in
    let next : TypedSoFar = record { before = c.typed_thread.new.before; known = c.in_ok-all.all; made = c.args.self.made; tables = c.args.self.tables; typed = c.args.self.typed } in
    let kept = c.in_ok-all.ensures in
    let tables_now = columns_stored c.args.self.tables in
    let units = some.units in
    let e =
    subst (λ (ts : List NamedSchema). IsOutcomeOfUnit (unit_refusal (columns_stored ts) units (unit_of_thread u)) (IsTypedThread (columns_stored ts) units (unit_of_thread u)) (Ok own)) c.as_slice-2.ensures
    (c.in_ok-own.ensures.typed units some.stands.tells some.stands.types (c.as_slice.ensures ∙ some.stands.made)) in
    let tells =
    (subst (λ (ts : List NamedSchema). TellsOfUnits c.typed_thread.new.before (behind_part (columns_stored ts) (AThread u) units.names)) c.as_slice-2.ensures
    (c.in_ok-own.ensures.behind units.names some.stands.tells)) in
    let types = (kept.tells units (units_behind tables_now (AThread u) units) some.stands.types refl (ap (λ (p : ProgramTree). p ∷ units.threads) (sym e.1.tree))) in
    let stands = unit_stands c.args.self next (AThread u) (record { made = refl; tables = refl; typed = refl }) units some.stands refl tells types in
    unit_is_behind c.args.self next (record { made = refl; tables = refl; typed = refl }) (AThread u) (units_behind tables_now (AThread u) units) stands
    (thread_behind tables_now units some.typed u c.one_outcome.ensures c.every_unit_is_typed.ensures c.requires.stands some.schemas e.0) some.schemas
