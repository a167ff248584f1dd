use Rattle.std.proofs.Common.{length, subst, ap}
use Rattle.ds2_aliases.specs.MethodLinks.{HasLinks}
use Rattle.ds2_aliases.specs.declared.links.LinkKind.TheVariants as kind
use Rattle.ds2_aliases.proofs.reach.links_of_unit.Goals as goal

pub returns : goal.returns
returns c =
    let methods = c.as_slice-methods.ensures in record {
      mentioners = subst (λ ms. HasLinks c.in_ok-mentioners.mentioners kind.Mentions ms) methods c.in_ok-mentioners.ensures;
      callers = subst (λ ms. HasLinks c.in_ok-callers.callers kind.Calls ms) methods c.in_ok-callers.ensures;
      users = subst (λ ms. HasLinks c.in_ok-users.users kind.Uses ms) methods c.in_ok-users.ensures;
      holders = subst (λ ms. HasLinks c.in_ok-holders.holders kind.Mentions ms) c.as_slice.ensures c.in_ok-holders.ensures;
      depth = ap length methods;
    }
