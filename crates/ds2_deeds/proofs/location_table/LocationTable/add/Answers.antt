use Rattle.std.proofs.Common.{◌≡◌, ℕ, List, Some, cond, sym, ap, subst, ◌∙◌}
use Rattle.std.specs.BTreeMap.{get, is_at}
use Rattle.ds2_deeds.specs.declared.location.LocationName.{LocationName}
use Rattle.ds2_deeds.specs.LocationNumbers.{HaveFirstNumbers}
use Rattle.ds2_deeds.specs.LocationOrder.{named_cmp}
use Rattle.ds2_deeds.specs.NamedLocations.{location_named, locations_named, with_location}
use Rattle.ds2_deeds.proofs.LocationTableLemmas.{next_numbered, there_already, told_next}
use Rattle.ds2_deeds.proofs.location_table.LocationTable.add.Goals as goal

pub returns-then-is_there : goal.returns-then-is_there
returns-then-is_there c =
    subst (λ (l : List LocationName). locations_named l ≡ with_location (locations_named l) (location_named c.args.at)) c.self.view_is
    (there_already c.self.inside.locations c.self.inside.numbers c.args.at c.self.invariant (sym c.contains_key-is_there.ensures ∙ c.if-is_there.true))

pub invariant_of-self-in-Ok : goal.invariant_of-self-in-Ok
invariant_of-self-in-Ok c =
    let x = c.args.at in
    let m = c.self.inside.numbers in
    subst (λ (l : List LocationName). HaveFirstNumbers l c.insert.new.self) (sym c.in_ok-push.ensures.ok)
    (next_numbered c.self.inside.locations m c.insert.new.self x c.self.invariant (sym c.contains_key-is_there.ensures ∙ c.if-is_there.false)
    (λ q. c.in-Ok.ensures.updates.0 q ∙ ap (λ (k : ℕ). cond (is_at (named_cmp x) q) (Some k) (get named_cmp m q)) c.len-number.ensures))

pub returns-in-Ok : goal.returns-in-Ok
returns-in-Ok c =
    ap (λ (l : List LocationName). locations_named l) c.in_ok-push.ensures.ok
    ∙ told_next c.self.inside.locations c.self.inside.numbers c.args.at c.self.invariant (sym c.contains_key-is_there.ensures ∙ c.if-is_there.false)
    ∙ ap (λ (l : List LocationName). with_location (locations_named l) (location_named c.args.at)) c.self.view_is
