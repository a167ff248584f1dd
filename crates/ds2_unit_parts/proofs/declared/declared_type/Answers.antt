use Rattle.std.proofs.Common.{◌≡◌, sym, ap, ◌∙◌, arith}
use Rattle.std.proofs.lemmas.Grind.{common_steps}
use Rattle.std.specs.Prelude.{nat_eq}
use Rattle.std.specs.Cmp.Lexicographic.{pointwise}
use Rattle.std.specs.HashMap.{get}
use Rattle.std.specs.Option.{option_copied, option_map}
use Rattle.ds2_meaning.specs.IsTyped.{type_in}
use Rattle.ds2_reference_types.specs.declared.scopes.KnownName.{KnownName}
use Rattle.ds2_unit_parts.proofs.DeclaredForms.{type_of_local}
use Rattle.ds2_unit_parts.proofs.declared.declared_type.Goals as goal

pub returns-in-None : goal.returns-in-None
returns-in-None c = λ variables h.
    let name = c.args.name.now in
    let got : option_copied c.get.result ≡ get (pointwise nat_eq) c.args.declared.now name = grind (arith, common_steps) in
    ap (option_map (λ (k : KnownName). k.ty)) (sym (ap option_copied c.in-None.is) ∙ got ∙ h name) ∙ type_of_local name (type_in variables name)

pub returns-in-Some : goal.returns-in-Some
returns-in-Some c = λ variables h.
    let name = c.args.name.now in
    let got : option_copied c.get.result ≡ get (pointwise nat_eq) c.args.declared.now name = grind (arith, common_steps) in
    ap (option_map (λ (k : KnownName). k.ty)) (sym (ap option_copied c.in-Some.is) ∙ got ∙ h name) ∙ type_of_local name (type_in variables name)
