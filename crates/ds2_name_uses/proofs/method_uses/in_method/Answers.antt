use Rattle.std.proofs.Common.{◌&&◌, bytes_eq, subst, sym, ap, ◌∙◌}
use Rattle.std.specs.Prelude.{codes}
use Rattle.std.proofs.lemmas.Result.{IfOk-weaker}
use Rattle.ds2_tree.specs.StatementViews.{statements_of}
use Rattle.ds2_tree.specs.UnitViews.{method_tree}
use Rattle.ds2_calls.specs.UnitsCalls.{HasCalls}
use Rattle.ds2_names.specs.SourceUnit.{names_alone, local_names, spelled_name}
use Rattle.ds2_names.specs.Uses.{statements_uses}
use Rattle.ds2_scope.specs.Earliest.{earliest}
use Rattle.ds2_scope.specs.NameSets.{HasNames}
use Rattle.ds2_name_uses.specs.BrokenUses.{broken_in_method}
use Rattle.ds2_name_uses.specs.ScopeTables.{AreTablesOf, tests_by}
use Rattle.ds2_calls.specs.UseParts.{earliest_use}
use Rattle.ds2_name_uses.specs.UseRules.{flags_by, broken_by}
use Rattle.ds2_name_uses.proofs.UsageLemmas.{method_is}
use Rattle.ds2_name_uses.proofs.method_uses.in_method.Goals as goal

pub returns : goal.returns
returns c =
    let s = c.over-scope.result in
    let m = method_tree c.args.m.now in
    let made = c.over-scope.ensures in
    IfOk-weaker c.in_statements.result _ _
    (λ place found names t has.
    found
    ∙ (λ i. earliest_use (broken_by s.rule (tests_by s)) (statements_uses (flags_by (tests_by s)) (statements_of (c.as_slice.ensures i))))
    ∙ method_is names m s (subst (λ x. AreTablesOf x names) (sym made.unit) t) (subst (λ x. HasCalls x names) (sym made.calls) has)
    (subst (λ x. HasNames x (names_alone (local_names m))) (sym made.locals) c.in_ok-locals.ensures)
    (made.is_init ∙ c.in_ok-is_init.ensures ∙ ap (λ b. b && bytes_eq (spelled_name c.args.m.now.name) (codes "init")) t.is_program)
    ∙ ap (λ r. earliest (broken_in_method r names m)) made.rule)
    c.in_statements.ensures
