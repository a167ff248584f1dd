use Rattle.std.proofs.Common.{[], nat_lt, refl, ap, ◌∙◌}
use Rattle.std.specs.Prelude.{if◌then◌else◌}
use Rattle.ds2_names.specs.SourceLimits.{unit_place, tokens_behind, beyond_tokens}
use Rattle.ds2_scope.specs.CodeUnits.{unit_source}
use Rattle.ds2_scope.specs.Earliest.{earlier_of, earliest}
use Rattle.ds2_resolve.proofs.BeforeLemmas.{limits_are, mentions_are}
use Rattle.ds2_resolve.proofs.before.enter_unit.Goals as goal

pub returns-clause-place : goal.returns-clause-place
returns-clause-place c = λ units kept.
    let b = c.args.before.now in
    let u = unit_source c.args.unit in
    let first = c.unit_unless-first.ensures ∙ ap (λ n. earliest (if nat_lt n 64 then [] else unit_place u.name u.outputs)) c.count_of_kind.ensures in
    let counted = c.in_ok-counted.ensures.beyond units.known kept.known ∙ ap (λ xs. earliest (beyond_tokens 1000000 units.known b.tokens xs)) c.requires in
    c.earlier_of-2.ensures
    ∙ ap (λ x. earlier_of x c.in_ok-tables.tables) c.earlier_of.ensures
    ∙ (λ i. earlier_of (earlier_of (first i) (counted i)) (c.in_ok-tables.ensures.place i))
    ∙ limits_are b units kept u c.args.unit.kind refl

pub returns-clause-behind : goal.returns-clause-behind
returns-clause-behind c = λ units kept.
    let b = c.args.before.now in
    let u = unit_source c.args.unit in
    let entered = c.in_ok-tables.ensures in
    mentions_are b units kept u _ entered.known entered.calls entered.count entered.makers entered.mentioned entered.room
    (c.in_ok-counted.ensures.behind units.known kept.known ∙ ap (λ xs. tokens_behind units.known b.tokens xs) c.requires)
