use Rattle.std.proofs.Common.{◌≡◌, false, ap, ◌∙◌}
use Rattle.std.specs.Prelude.{◌||◌}
use Rattle.std.specs.HashSet.{contains_text}
use Rattle.ds2_meaning.specs.ProgramTree.{is_listed}
use Rattle.ds2_layout.proofs.LayoutLemmas.{or_none}
use Rattle.ds2_layout.proofs.names.name_set.Goals as goal

pub returns : goal.returns
returns c = λ other.
    let none : contains_text c.new-set.result other ≡ false = search in
    c.in_ok-add_names.ensures other ∙ ap (λ b. is_listed c.args.names.now other || b) none ∙ or_none (is_listed c.args.names.now other)
