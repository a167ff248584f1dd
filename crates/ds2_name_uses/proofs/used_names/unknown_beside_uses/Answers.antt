use Rattle.std.proofs.Common.{sym, ap, ◌∙◌}
use Rattle.ds2_names.specs.NameRules.{from_each}
use Rattle.ds2_names.specs.SourceUnit.{columns_stored, tables_of_reading, stage_token}
use Rattle.ds2_scope.specs.CodeUnits.{unit_source}
use Rattle.ds2_name_uses.specs.ListedParts.{lacking_by, unknown_stage_by}
use Rattle.ds2_name_uses.specs.ScopeTables.{tests_by}
use Rattle.ds2_name_uses.proofs.BrokenLemmas.{beside_parts}
use Rattle.ds2_scope.specs.Earliest.{earlier_of, earliest}
use Rattle.ds2_name_uses.proofs.used_names.unknown_beside_uses.Goals as goal

pub returns : goal.returns
returns c =
    let t = tests_by c.args.scope.now in
    let tables = columns_stored c.args.tables.now in
    let bys = c.args.bys.now in
    let r = c.in_ok-reading.ensures in
    let lacking = c.in_ok-lacking.ensures ∙ ap (λ is. earliest (from_each (lacking_by tables is) bys)) (c.tables_of.ensures ∙ ap tables_of_reading r) in
    let stage = c.in_ok-stage.ensures ∙ ap (λ x. earliest (unknown_stage_by t x)) (c.stage_of.ensures ∙ ap stage_token r) in
    c.earlier_of-3.ensures
    ∙ (λ i. earlier_of (c.earlier_of.ensures i) (c.earlier_of-2.ensures i))
    ∙ (λ i. earlier_of (earlier_of (c.in_ok-listed.ensures i) (c.in_ok-options.ensures i)) (earlier_of (lacking i) (stage i)))
    ∙ sym (beside_parts tables bys t (unit_source c.args.unit))
