use Rattle.std.proofs.Common.{◌+◌, List, ℕ, sym, subst, ◌∙◌}
use Rattle.ds2_rows.specs.SetPlaces.{HasStarts}
use Rattle.ds2_rows.proofs.GroupPlaces.{opened, passed}
use Rattle.ds2_rows.proofs.groups.with_opening.Goals as goal

pub returns-then-not-opens_group : goal.returns-then-not-opens_group
returns-then-not-opens_group c =
    passed c.args.rows.now c.args.grain c.args.place c.args.starts c.requires.starts c.requires.place (sym c.opens_group.ensures ∙ c.if-not-opens_group.true)

pub returns : goal.returns
returns c =
    let P : List ℕ → Type 0 = HasStarts c.args.rows.now c.args.grain (c.args.place + 1) in
    subst P (sym c.in_ok-push.ensures.ok)
    (opened c.args.rows.now c.args.grain c.args.place c.args.starts c.requires.starts c.requires.place (sym c.opens_group.ensures ∙ c.if-not-opens_group.false))
