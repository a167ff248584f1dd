use Rattle.std.proofs.Common.{ℕ, List, ap, ◌∙◌}
use Rattle.std.specs.Prelude.{◌||◌, bytes_eq}
use Rattle.std.specs.Borrow.{Bor}
use Rattle.ds2_valid_code.specs.SeenNames.{has_name}
use Rattle.ds2_valid_code.proofs.KeyLemmas.{key_added}
use Rattle.ds2_valid_code.proofs.names.is_new.Goals as goal

pub returns-clause-seen : goal.returns-clause-seen
returns-clause-seen c = λ other.
    key_added (λ (key : Bor (List ℕ)). key.now) c.as_str-text.result.now c.args.seen.now c.insert.new.self c.in_ok-new.ensures.updates other
    ∙ ap (λ z. bytes_eq z other || has_name c.args.seen.now other) c.as_str-text.ensures.bytes
