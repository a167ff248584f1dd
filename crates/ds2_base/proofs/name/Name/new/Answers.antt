use Rattle.std.proofs.Common.{ap, map, subst, sym, ◌∙◌}
use Rattle.std.specs.Char.{to_ascii_lowercase}
use Rattle.ds2_base.specs.Name.{IsOwnName}
use Rattle.ds2_base.proofs.OwnNames.{own_name}
use Rattle.ds2_base.proofs.name.Name.new.Goals as goal

pub invariant_of-result : goal.invariant_of-result
invariant_of-result c =
    let kept = c.make_ascii_lowercase.ensures.bytes ∙ ap (map to_ascii_lowercase) c.in_ok-text.ensures.ok in
    subst IsOwnName (sym kept) (own_name c.args.s.now (sym c.is_name.ensures ∙ c.if-not-is_name.false))
