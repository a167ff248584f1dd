use Rattle.std.proofs.Common.{◌≡◌, Some, arith}
use Rattle.std.proofs.lemmas.Grind.{common_steps}
use Rattle.std.specs.Prelude.{nat_eq}
use Rattle.std.specs.Cmp.Lexicographic.{pointwise}
use Rattle.std.specs.HashMap.{get}
use Rattle.ds2_meaning.specs.declared.refusals.TypeKind.TheVariants.{TypeClash}
use Rattle.ds2_types.specs.Judgements.{lesser_refusal}
use Rattle.ds2_type_tables.proofs.ClashLemmas.{noted}
use Rattle.ds2_type_tables.proofs.clashes.note.Goals as goal

pub returns : goal.returns
returns c = λ name.
    let column = c.args.c.now in
    let h : Some c.first_given-first.result ≡ lesser_refusal (get (pointwise nat_eq) c.args.clashes.now column.name) (Some (record { kind = TypeClash; place = column.place })) =
    grind (arith, common_steps) in
    let told = noted (get (pointwise nat_eq) c.args.clashes.now) column c.first_given-first.result name h in
    let updated = c.in_ok-insert.ensures.updates.0 name in
    grind (arith, common_steps, told, updated)
