use Rattle.std.proofs.Common.{◌≡◌, suc, true, false, take, drop, map, sym, ap, ◌∙◌, bytes_eq}
use Rattle.std.specs.Prelude.{◌||◌}
use Rattle.ds2_valid_code.specs.SeenNames.{has_name}
use Rattle.ds2_code.specs.ValidCode.{names_differ}
use Rattle.ds2_valid_code.proofs.NameLemmas.{stands_among, not_new, is_new, more_stand, repeated, more_differ, one_more_name, names_around}
use Rattle.ds2_valid_code.proofs.names.names_differ.Goals as goal

pub returns-then-not-branch : goal.returns-then-not-branch
returns-then-not-branch g c =
    let f = g.T.Named.own_name in
    let items = c.args.items.now in
    let i = c.items.item-index in
    let x = c.item-item.result in
    let old : c.in_ok-is_new.field-0 ≡ false = cc in
    let seen = not_new c.in_ok-is_new.field-0 (has_name c.items.seen c.name.result.now) c.in_ok-is_new.ensures.new old in
    let among : stands_among (f x) (map f (take i items)) ≡ true =
    sym (c.items.invariant.seen (f x)) ∙ ap (has_name c.items.seen) (sym c.name.ensures) ∙ seen in
    sym (ap names_differ (names_around f items i x c.items-test.true c.item-item.is) ∙ repeated (map f (take i items)) (f x) (map f (drop (suc i) items)) among)

pub items-preserved : goal.items-preserved
items-preserved g c =
    let f = g.T.Named.own_name in
    let items = c.args.items.now in
    let i = c.items.item-index in
    let x = c.item-item.result in
    let before = map f (take i items) in
    let new : c.in_ok-is_new.field-0 ≡ true = cc in
    let unseen = is_new c.in_ok-is_new.field-0 (has_name c.items.seen c.name.result.now) c.in_ok-is_new.ensures.new new in
    let among : stands_among (f x) before ≡ false =
    sym (c.items.invariant.seen (f x)) ∙ ap (has_name c.items.seen) (sym c.name.ensures) ∙ unseen in
    let more = one_more_name f items i x c.items-test.true c.item-item.is in
    record {
      differ = ap names_differ more ∙ more_differ before (f x) c.items.invariant.differ among;
      seen = λ name.
          c.in_ok-is_new.ensures.seen name
          ∙ ap (λ z. bytes_eq z name || has_name c.items.seen name) c.name.ensures
          ∙ ap (λ b. bytes_eq (f x) name || b) (c.items.invariant.seen name)
          ∙ more_stand name before (f x)
          ∙ ap (stands_among name) (sym more);
    }
