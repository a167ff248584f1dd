use Rattle.std.proofs.Common.{◌≡◌, ◌≤◌, ℕ, List, false, length, nat_eq, sym, ap, ◌∙◌, arith}
use Rattle.std.proofs.lemmas.Grind.{common_steps}
use Rattle.std.specs.Cmp.Lexicographic.{pointwise}
use Rattle.std.specs.HashSet.{contains}
use Rattle.ds2_names.specs.NameRules.{from_each}
use Rattle.ds2_aliases.specs.MethodLinks.{linked}
use Rattle.ds2_aliases.specs.ReachingMethods.{reaches}
use Rattle.ds2_aliases.proofs.ReachLemmas.{first_layer, next_layer, last_layer}
use Rattle.ds2_aliases.proofs.reach.reaching.Goals as goal

pub layers-init : goal.layers-init
layers-init c = λ unit are.
    let name = c.args.name.now in
    let empty : (method : List ℕ) → contains (pointwise nat_eq) c.new-reached.result method ≡ false = λ method. grind (arith, common_steps) in
    first_layer unit name c.args.links.now are c.new-reached.result c.in_ok-begun.begun empty c.in_ok-begun.ensures

pub layers-preserved : goal.layers-preserved
layers-preserved c = λ unit are.
    let links = c.args.links.now in
    next_layer unit c.args.name.now links are c.layers._layer c.layers.reached c.enter.new.set c.layers.next c.in_ok-added.added _
    (c.layers.invariant unit are)
    (λ method. let h = c.in_ok-added.ensures.set method in grind (arith, common_steps, h))
    (λ method. let h = c.in_ok-added.ensures.added method in grind (arith, common_steps, h))
    (c.in_ok-next.ensures ∙ ap (from_each (linked links.callers)) c.as_slice-in-layers.ensures)

pub returns-then-is_empty : goal.returns-then-is_empty
returns-then-is_empty c = λ unit are.
    let few : c.layers._layer ≤ length unit.methods = omega (arith, are.depth) in
    last_layer unit c.args.name.now c.layers.reached c.layers.next c.layers._layer (length unit.methods) (c.layers.invariant unit are) few
    (sym c.is_empty.ensures ∙ c.if-is_empty.true)

pub returns : goal.returns
returns c = λ unit are method.
    let k : c.layers._layer ≡ length unit.methods = omega (arith, are.depth) in
    (c.layers.invariant unit are).here method ∙ ap (λ n. reaches unit c.args.name.now n method) k
