use Rattle.std.proofs.Common.{◌≡◌, ℕ, bytes_eq, if◌then◌else◌, List, None, Some, true, ap, ◌∙◌, arith}
use Rattle.std.proofs.lemmas.Grind.{common_steps}
use Rattle.std.specs.Prelude.{nat_eq, is_some}
use Rattle.std.specs.Cmp.Lexicographic.{pointwise}
use Rattle.std.specs.HashMap.{get}
use Rattle.ds2_type_tables.proofs.TableLemmas.{added, not_added}
use Rattle.ds2_type_tables.proofs.tables.add.Goals as goal

pub returns-then-contains_key : goal.returns-then-contains_key
returns-then-contains_key c = λ name.
    let had : is_some (get (pointwise nat_eq) c.args.names.now c.args.known.name) ≡ true = grind (arith, common_steps) in
    not_added (get (pointwise nat_eq) c.args.names.now) c.args.known name had

pub returns : goal.returns
returns c = λ name.
    let k = c.args.known in
    let old = get (pointwise nat_eq) c.args.names.now in
    let had : get (pointwise nat_eq) c.args.names.now c.args.known.name ≡ None = grind (arith, common_steps) in
    let same : c.in_ok-key.key ≡ c.args.known.name = grind (arith, common_steps) in
    c.in_ok-insert.ensures.updates.0 name ∙ ap (λ (key : List ℕ). if bytes_eq key name then Some k else old name) same ∙ added old k name had
