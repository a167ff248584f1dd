use Rattle.std.proofs.Common.{◌≡◌, true, false, bytes_eq, codes, nat_eq, ap, ◌∙◌, ◌||◌, arith}
use Rattle.std.proofs.lemmas.Grind.{common_steps}
use Rattle.std.specs.Cmp.Lexicographic.{pointwise}
use Rattle.std.specs.HashSet.{contains}
use Rattle.ds2_names.specs.SourceUnit.{spelled_name}
use Rattle.ds2_source.proofs.StoreTables.{null_output, other_output}
use Rattle.ds2_source.proofs.mentions.add_output.Goals as goal

pub returns-then-is_null : goal.returns-then-is_null
returns-then-is_null c = λ name.
    let e : bytes_eq (spelled_name c.args.o.now.table) (codes "_null_") ≡ true = grind (arith, common_steps) in
    null_output c.args.o.now name (contains (pointwise nat_eq) c.args.known.now name) e

pub returns : goal.returns
returns c = λ name.
    let e : bytes_eq (spelled_name c.args.o.now.table) (codes "_null_") ≡ false = grind (arith, common_steps) in
    let k = contains (pointwise nat_eq) c.args.known.now name in
    c.in_ok-add_name.ensures.names name
    ∙ ap (λ own. bytes_eq own name || k) (c.as_slice-spelled.ensures ∙ c.in_ok-name.ensures)
    ∙ other_output c.args.o.now name k e
