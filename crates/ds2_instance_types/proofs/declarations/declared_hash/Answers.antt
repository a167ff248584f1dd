use Rattle.std.proofs.Common.{sym, ◌∙◌}
use Rattle.ds2_names.specs.SourceUnit.{columns_stored}
use Rattle.ds2_instance_types.proofs.DeclarationForms.{hash_is}
use Rattle.ds2_instance_types.proofs.declarations.declared_hash.Goals as goal

pub returns-in-Some : goal.returns-in-Some
returns-in-Some c = λ before scope m g. sym (c.in_ok-clash.ensures scope g) ∙ c.in-Some.is

pub returns-in_ok-own-in-None : goal.returns-in_ok-own-in-None
returns-in_ok-own-in-None c = λ before scope m g.
    let context = c.args.context in
    hash_is (columns_stored context.tables.now) context.made.now before scope c.args.instance.now c.args.hash c.in_ok-clash.clash c.in_ok-own-in-None.own m (c.in_ok-clash.ensures scope g) c.in-None.is
    (c.in_ok-own-in-None.ensures scope g)
