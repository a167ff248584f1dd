use Rattle.std.proofs.Common.{◌≡◌, ℕ, [], ◌∷◌, ◌++◌, length, arith, ◌∙◌, sym, subst}
use Rattle.ds2_rows.specs.SetPlaces.{StandAtGroups}
use Rattle.ds2_reading.specs.Places.{all_rows}
use Rattle.ds2_rows.proofs.GroupPlaces.{begin_starts, all_groups}
use Rattle.ds2_rows.proofs.groups.group_starts.Goals as goal

pub places-init : goal.places-init
places-init c = rw c.new-starts.ensures (begin_starts c.args.rows.now c.args.grain)

pub returns : goal.returns
returns c =
    let end : c.places.place ≡ length (all_rows c.args.rows.now.descending c.args.rows.now.tables) = omega (arith, c.len-count.ensures.value) in
    let P : ℕ → Type 0 = λ n. StandAtGroups c.args.rows.now c.args.grain (c.places.starts ++ n ∷ []) in
    rw c.in_ok-push.ensures.ok
    (subst P (end ∙ sym c.len-count.ensures.value) (all_groups c.args.rows.now c.args.grain c.have_keys.ensures c.places.place c.places.starts c.places.invariant end))
