use Rattle.std.proofs.Common.{List, [], ◌∷◌, ◌++◌, map, refl, ap, ◌∙◌}
use Rattle.ds2_meaning.specs.declared.expressions.Link.{Link}
use Rattle.ds2_elaboration.specs.OperatorTypes.{ElaboratedLink}
use Rattle.ds2_types.specs.Judgements.{link_of}
use Rattle.ds2_expression_types.proofs.ArgumentLists.{map-push}
use Rattle.ds2_expression_types.proofs.growth.lengthened.Goals as goal

pub returns : goal.returns
returns c =
    let links = c.args.step.grown.links in
    record {
      begins = refl;
      goes_on =
          ap (λ (l : List Link). map link_of l) c.in_ok-push.ensures.ok ∙ map-push link_of links c.in_ok-next.next
          ∙ ap (λ (l : ElaboratedLink). map link_of links ++ l ∷ []) c.in_ok-next.ensures;
      type_so_far = ap (λ (l : ElaboratedLink). l.ty) c.in_ok-next.ensures;
    }
