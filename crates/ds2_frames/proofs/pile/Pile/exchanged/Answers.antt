use Rattle.std.proofs.Common.{◌≡◌, ◌+◌, drop, ap, ◌∙◌}
use Rattle.std.specs.Prelude.{slice_set}
use Rattle.ds2_frames.specs.PileView.{PileView}
use Rattle.ds2_frames.proofs.PileLemmas.{dropped_set}
use Rattle.ds2_frames.proofs.pile.Pile.exchanged.Goals as goal

pub returns-then-number-own-clause-own : goal.returns-then-number-own-clause-own
returns-then-number-own-clause-own c =
    let same : c.replace.new.dest ≡ c.args.value = cc in
    ap (λ v. drop c.self.inside.base (slice_set c.self.inside.items.items (c.self.inside.base + c.args.number) v)) same
    ∙ dropped_set c.self.inside.items.items c.self.inside.base c.args.number c.args.value
    ∙ ap (λ (z : PileView). slice_set z.own c.args.number c.args.value) c.self.view_is
