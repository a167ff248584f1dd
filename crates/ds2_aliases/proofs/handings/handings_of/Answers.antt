use Rattle.std.proofs.Common.{◌+◌, ◌++◌, drop, sym, ap, ◌∙◌, append_assoc}
use Rattle.ds2_names.specs.NameRules.{from_each}
use Rattle.ds2_scope.proofs.SetLemmas.{item_first}
use Rattle.ds2_aliases.specs.HandedGlobals.{handings_of_method}
use Rattle.ds2_aliases.proofs.handings.handings_of.Goals as goal

pub methods-preserved : goal.methods-preserved
methods-preserved c =
    let methods = c.args.methods.now in
    let rest = drop (c.methods.m-index + 1) methods in
    ap (λ found. found ++ from_each handings_of_method rest) c.in_ok-push_in_method.ensures
    ∙ append_assoc c.methods.found (handings_of_method c.m-item.result) (from_each handings_of_method rest)
    ∙ ap (λ ms. c.methods.found ++ from_each handings_of_method ms) (sym (item_first methods c.methods.m-index c.m-item.result c.m-item.is c.methods-test.true))
    ∙ c.methods.invariant
