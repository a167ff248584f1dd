use Rattle.std.proofs.Common.{Option, sym, ◌∙◌, subst}
use Rattle.ds2_meaning.specs.IsTyped.{type_in}
use Rattle.ds2_elaboration.specs.ExpressionTypes.{global_variable}
use Rattle.ds2_reference_types.specs.Scopes.{IsKnownAs}
use Rattle.ds2_reference_types.specs.declared.scopes.KnownName.{KnownName}
use Rattle.ds2_type_tables.proofs.ScopeTables.{global_is}
use Rattle.ds2_type_tables.proofs.globals.global_named.Goals as goal

pub returns : goal.returns
returns c = λ types h.
    let name = c.args.name.now in
    subst (λ (x : Option KnownName). IsKnownAs x (global_variable types name)) (sym (c.get.ensures.value ∙ h name)) (global_is types name (type_in types.variables name))
