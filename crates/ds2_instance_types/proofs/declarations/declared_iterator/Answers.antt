use Rattle.ds2_instance_types.proofs.DeclarationForms.{iterator_is}
use Rattle.ds2_instance_types.proofs.declarations.declared_iterator.Goals as goal

pub returns : goal.returns
returns c = λ tables before scope.
    iterator_is tables before scope c.args.instance.now c.args.hash.now _ (λ i. record { name = c.in_ok-own.ensures i; hash = c.in_ok-over.ensures i })
