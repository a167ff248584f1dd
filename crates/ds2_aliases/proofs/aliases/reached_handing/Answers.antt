use Rattle.std.proofs.Common.{◌≡◌, ◌+◌, None, nat_eq, drop, subst, sym, arith}
use Rattle.std.proofs.lemmas.Grind.{common_steps}
use Rattle.std.specs.Cmp.Lexicographic.{pointwise}
use Rattle.std.specs.HashMap.{get}
use Rattle.ds2_scope.proofs.CollectedLemmas.{one_more_item}
use Rattle.ds2_scope.proofs.EarliestLemmas.{none_right}
use Rattle.ds2_aliases.specs.HandedGlobals.{reached_place}
use Rattle.ds2_aliases.specs.ReachedNames.{HasReaching}
use Rattle.ds2_aliases.proofs.aliases.reached_handing.Goals as goal

pub handings-init : goal.handings-init
handings-init c = λ unit are. (
  λ name.
      let none : get (pointwise nat_eq) c.new-reached.result name ≡ None = grind (arith, common_steps) in subst (λ o. HasReaching unit name o) (sym none) tt,
  grind (arith, common_steps),
)

pub handings-preserved : goal.handings-preserved
handings-preserved c = λ unit are.
    let before = c.handings.invariant unit are in (
      c.in_ok-reached_place.ensures.table unit are before.0,
      (let k = one_more_item (reached_place unit) c.handings.found c.h-item.result (drop (c.handings.h-index + 1) c.args.handings.now) in
          let here = c.in_ok-reached_place.ensures.place unit are before.0 in
          let rest = before.1 in
          grind (arith, common_steps, k, here, rest)),
    )

pub returns : goal.returns
returns c = λ unit are.
    let k = none_right c.handings.found in
    let before = (c.handings.invariant unit are).1 in
    grind (arith, common_steps, k, before)
