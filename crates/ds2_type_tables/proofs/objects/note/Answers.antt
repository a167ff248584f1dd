use Rattle.std.proofs.Common.{◌≡◌, ℕ, bytes_eq, if◌then◌else◌, List, [], ◌∷◌, ◌++◌, Option, Some, true, None, sym, ap, ◌∙◌, subst}
use Rattle.std.specs.Prelude.{nat_eq, is_some}
use Rattle.std.specs.Cmp.Lexicographic.{pointwise}
use Rattle.std.specs.HashMap.{get}
use Rattle.ds2_names.specs.SourceUnit.{spelled_name}
use Rattle.ds2_scope.specs.CodeUnits.{source_instance}
use Rattle.ds2_elaboration.specs.ProgramTypes.{object_of_instance}
use Rattle.ds2_reference_types.specs.Scopes.{IsObjectAs}
use Rattle.ds2_reference_types.specs.declared.scopes.KnownObject.{KnownObject}
use Rattle.ds2_type_tables.specs.Objects.{object_named}
use Rattle.ds2_type_tables.proofs.ObjectLemmas.{none_listed, object_added, object_kept}
use Rattle.ds2_type_tables.proofs.objects.note.Goals as goal

pub returns-then-listed : goal.returns-then-listed
returns-then-listed c = λ before others t h.
    let old = get (pointwise nat_eq) c.args.objects.now in
    let had : is_some (old (spelled_name c.args.instance.now.name.now)) ≡ true =
    ap (λ (n : List ℕ). is_some (old n)) (sym c.in_ok-key.ensures) ∙ sym c.contains_key-listed.ensures ∙ c.if-listed.true in
    object_kept old others (object_of_instance before (source_instance c.args.instance.now)) h had

pub returns : goal.returns
returns c = λ before others t h.
    let o = object_of_instance before (source_instance c.args.instance.now) in
    let old = get (pointwise nat_eq) c.args.objects.now in
    let k = c.in_ok-object.object in
    let had : old (spelled_name c.args.instance.now.name.now) ≡ None =
    ap old (sym c.in_ok-key.ensures) ∙ none_listed (old c.in_ok-key.key) (sym c.contains_key-listed.ensures ∙ c.if-listed.false) in
    λ name.
    subst (λ (x : Option KnownObject). IsObjectAs name x (object_named (others ++ o ∷ []) name))
    (sym (c.in_ok-insert.ensures.updates.0 name ∙ ap (λ (key : List ℕ). if bytes_eq key name then Some k else old name) c.in_ok-key.ensures))
    (object_added old others o h k had (c.in_ok-object.ensures before t) name)
