use Rattle.std.proofs.Common.{◌≡◌, ◌≤◌, [], ◌∙◌, ap, sym, arith, drop, length}
use Rattle.std.specs.Ordering.{ordering_reverse}
use Rattle.std.proofs.lemmas.List.{drop_all, take_rest}
use Rattle.ds2_value.specs.Texts.{padded_cmp}
use Rattle.ds2_value.proofs.ByteLemmas.{by-fronts, by-rests, blanks-turned}
use Rattle.ds2_value.proofs.order.byte_order.Goals as goal

pub returns-then-is_ne : goal.returns-then-is_ne
returns-then-is_ne c =
    by-fronts c.min-common.result c.args.a.now c.args.b.now c.cmp-order.result (omega arith) (omega arith) c.cmp-order.ensures (sym c.is_ne.ensures ∙ c.if-is_ne.true)

pub returns-then-common-a : goal.returns-then-common-a
returns-then-common-a c =
    let n = c.min-common.result in
    let short : length c.args.b.now ≤ c.min-common.result = omega arith in
    c.order_to_blanks.ensures
    ∙ rw (take_rest c.args.a.now n, ← drop_all n c.args.b.now short)
    (by-rests n c.args.a.now c.args.b.now c.cmp-order.result (omega arith) (omega arith) c.cmp-order.ensures (sym c.is_ne.ensures ∙ c.if-is_ne.false))

pub returns-else-common-a : goal.returns-else-common-a
returns-else-common-a c =
    let n = c.min-common.result in
    let rest : c.order_to_blanks-else-common-a.result ≡ padded_cmp (drop n c.args.b.now) [] = rw (take_rest c.args.b.now n) at c.order_to_blanks-else-common-a.ensures in
    c.reverse.ensures
    ∙ ap ordering_reverse rest
    ∙ sym (blanks-turned (drop n c.args.b.now))
    ∙ rw (← drop_all n c.args.a.now c.if-common-a.false)
    (by-rests n c.args.a.now c.args.b.now c.cmp-order.result (omega arith) (omega arith) c.cmp-order.ensures (sym c.is_ne.ensures ∙ c.if-is_ne.false))
