use Rattle.std.proofs.Common.{◌≡◌, true, false, bytes_eq, codes, arith}
use Rattle.std.proofs.lemmas.Grind.{common_steps}
use Rattle.ds2_names.specs.SourceUnit.{spelled_name}
use Rattle.ds2_reference_types.proofs.ObjectForms.{items_counted, items_not_counted}
use Rattle.ds2_reference_types.proofs.objects.items.Goals as goal

pub returns-then-counts : goal.returns-then-counts
returns-then-counts c = λ k.
    let e : bytes_eq (spelled_name c.args.member.now) (codes "num_items") ≡ true = grind (arith, common_steps) in
    items_counted c.args.object.now c.args.member.now c.args.name.now c.hash_code.result e k c.hash_code.ensures

pub returns : goal.returns
returns c = λ k.
    let e : bytes_eq (spelled_name c.args.member.now) (codes "num_items") ≡ false = grind (arith, common_steps) in
    items_not_counted c.args.object.now c.args.member.now c.nameless.result e c.nameless.ensures
