use Rattle.std.proofs.Common.{Ok, refl}
use Rattle.ds2_names.specs.SourceUnit.{columns_stored}
use Rattle.ds2_instance_types.proofs.DeclarationForms.{sort_is}
use Rattle.ds2_instance_types.proofs.declarations.declared.Goals as goal

pub returns-in_ok-outcome-in-Package : goal.returns-in_ok-outcome-in-Package
returns-in_ok-outcome-in-Package c = λ before scope t m g.
    let tables = columns_stored c.args.context.tables.now in
    sort_is tables before scope c.args.instance.now _ c.in_ok-outcome-in-Package.outcome c.in-Package.is (c.in_ok-outcome-in-Package.ensures tables before scope t)

pub returns-in_ok-outcome-in-Hash : goal.returns-in_ok-outcome-in-Hash
returns-in_ok-outcome-in-Hash c = λ before scope t m g.
    sort_is (columns_stored c.args.context.tables.now) before scope c.args.instance.now _ c.in_ok-outcome-in-Hash.outcome c.in-Hash.is (c.in_ok-outcome-in-Hash.ensures before scope m g)

pub returns-in_ok-iterator-in-Iterator : goal.returns-in_ok-iterator-in-Iterator
returns-in_ok-iterator-in-Iterator c = λ before scope t m g.
    let tables = columns_stored c.args.context.tables.now in
    sort_is tables before scope c.args.instance.now _ (Ok c.in_ok-iterator-in-Iterator.iterator) c.in-Iterator.is (refl, c.in_ok-iterator-in-Iterator.ensures tables before scope)

pub returns-in_ok-thread-in-Thread : goal.returns-in_ok-thread-in-Thread
returns-in_ok-thread-in-Thread c = λ before scope t m g.
    let tables = columns_stored c.args.context.tables.now in
    sort_is tables before scope c.args.instance.now _ (Ok c.in_ok-thread-in-Thread.thread) c.in-Thread.is (refl, c.in_ok-thread-in-Thread.ensures tables before scope t)
