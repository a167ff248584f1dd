use Rattle.std.proofs.Common.{◌≡◌, true, ap, ◌∙◌, bytes_eq, string_bytes}
use Rattle.std.specs.Prelude.{◌||◌}
use Rattle.std.specs.HashSet.{contains_text}
use Rattle.std.proofs.lemmas.Map.Text.{hash_set_updates_text}
use Rattle.ds2_layout.proofs.LayoutLemmas.{cond_or}
use Rattle.ds2_layout.proofs.names.add_name.Goals as goal

pub returns : goal.returns
returns c = λ other.
    let key = c.in_ok-key.key in
    let spelled : string_bytes key ≡ c.args.name.now = c.in_ok-key.ensures.ok ∙ c.as_str.ensures.bytes in
    hash_set_updates_text (string_bytes key) c.args.set.now c.insert.new.self true c.in_ok-insert.ensures.updates other
    ∙ cond_or (bytes_eq (string_bytes key) other) (contains_text c.args.set.now other)
    ∙ ap (λ z. bytes_eq z other || contains_text c.args.set.now other) spelled
