use Rattle.std.proofs.Common.{◌≤◌, arith, rules, take-take, subst, IsUtf8}
use Rattle.std.proofs.CharBoundary.{IsUtf8-take-drop}
use Rattle.std.proofs.lemmas.Str.{IsUtf8-had}
use Rattle.ds2_base.proofs.short_text.ShortText.truncate.Goals as goal

pub invariant_of-self : goal.invariant_of-self
invariant_of-self c =
    let inside = c.self.inside in
    let n = c.args.n in
    let within : n ≤ inside.length = omega (arith, c.if-n-self.true) in
    let boundary = rw (← c.self.view_is) at (c.requires (search rules)) in
    let front = (IsUtf8-take-drop _ (IsUtf8-had _ c.self.invariant.1) n boundary).0 in (
      omega (arith, within, c.self.invariant.0),
      ∣ subst IsUtf8 (take-take n inside.length inside.bytes within) front ∣₁,
    )
