use Rattle.std.proofs.Common.{List, sym, subst, ◌∙◌, arith}
use Rattle.ds2_merge.specs.KeyPlaces.{key_place_behind, HasKeyPlaces}
use Rattle.ds2_merge.specs.declared.key_place.KeyPlace.{KeyPlace}
use Rattle.ds2_merge.proofs.KeyGroups.{opened_above, passed_above}
use Rattle.ds2_merge.proofs.groups.with_opening.Goals as goal

pub opens_group-requires-clause-place : goal.opens_group-requires-clause-place
opens_group-requires-clause-place c = let e = c.requires.key.end in omega (arith, e.low, e.high)

pub returns-then-not-opens_group : goal.returns-then-not-opens_group
returns-then-not-opens_group c =
    passed_above c.args.rows.now c.args.grain c.requires.tables c.args.place.now c.args.places c.args.key.now c.requires.above c.requires.places c.requires.key
    (sym c.opens_group.ensures ∙ c.if-not-opens_group.true)

pub returns : goal.returns
returns c =
    let P : List KeyPlace → Type 0 = HasKeyPlaces c.args.rows.now c.args.grain (key_place_behind c.args.place.now c.args.key.now) in
    subst P (sym c.in_ok-push.ensures.ok)
    (opened_above c.args.rows.now c.args.grain c.requires.tables c.args.place.now c.args.places c.args.key.now c.requires.above c.requires.places c.requires.key
    (sym c.opens_group.ensures ∙ c.if-not-opens_group.false))
