use Rattle.std.proofs.Common.{ℕ, List, ◌||◌, bytes_eq, nat_eq, ap, ◌∙◌}
use Rattle.std.specs.Cmp.Lexicographic.{pointwise}
use Rattle.std.specs.HashSet.{contains}
use Rattle.ds2_store_steps.proofs.references.add_made.Goals as goal

pub returns : goal.returns
returns c = λ other.
    c.in_ok-add_name.ensures.names other
    ∙ ap (λ (name : List ℕ). bytes_eq name other || contains (pointwise nat_eq) c.args.names.now other) (c.as_bytes.ensures.value ∙ c.as_str.ensures.bytes)
