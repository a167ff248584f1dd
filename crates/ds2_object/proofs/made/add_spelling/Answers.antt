use Rattle.std.proofs.Common.{◌||◌, ℕ, ap, ◌∙◌}
use Rattle.std.specs.Prelude.{Vec, bytes_eq}
use Rattle.std.specs.declared.alloc.Global.{Global as Heap}
use Rattle.ds2_valid_code.proofs.KeyLemmas.{key_added}
use Rattle.ds2_object.specs.MadeTables.{has_bytes}
use Rattle.ds2_object.proofs.made.add_spelling.Goals as goal

pub returns : goal.returns
returns c = λ other.
    key_added (λ (key : Vec ℕ Heap). key.items) c.into_vec.result.items c.args.made.now c.insert.new.self c.in_ok-insert.ensures.updates other
    ∙ ap (λ bytes. bytes_eq bytes other || has_bytes c.args.made.now other) c.into_vec.ensures
