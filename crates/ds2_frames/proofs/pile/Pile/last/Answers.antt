use Rattle.std.proofs.Common.{◌≡◌, ◌-◌, ◌≤◌, [], Some, length, drop, sym, ap, ◌∙◌, arith, List}
use Rattle.std.specs.Prelude.{reverse}
use Rattle.ds2_value.specs.declared.value.Value.{Value}
use Rattle.ds2_code.specs.Desk.{take_off}
use Rattle.ds2_frames.proofs.PileLemmas.{taken_some, taken_none}
use Rattle.ds2_frames.proofs.pile.Pile.last.Goals as goal

pub returns-then-values-n-clause-taken : goal.returns-then-values-n-clause-taken
returns-then-values-n-clause-taken c = ap (take_off c.args.n []) (sym c.own-values.ensures.stack) ∙ taken_none c.own-values.result.now c.args.n c.if-values-n.true

pub returns-clause-taken : goal.returns-clause-taken
returns-clause-taken c =
    let enough : c.args.n ≤ length c.own-values.result.now = c.if-values-n.false in
    ap (take_off c.args.n []) (sym c.own-values.ensures.stack) ∙ taken_some c.own-values.result.now c.args.n enough
    ∙ ap (λ (vs : List Value). Some (record { values = vs; below = drop c.args.n (reverse c.own-values.result.now) })) (sym c.split_at.ensures.back)
    ∙ ap (λ (s : List Value). Some (record { values = c.split_at.result.1.now; below = drop c.args.n s })) c.own-values.ensures.stack
