use Rattle.std.proofs.Common.{◌||◌, ap, sym, ◌∙◌}
use Rattle.ds2_names.specs.SourceUnit.{is_named}
use Rattle.ds2_name_uses.proofs.UsageLemmas.{named_append}
use Rattle.ds2_name_uses.proofs.unit_tables.set_of_both.Goals as goal

pub returns : goal.returns
returns c = λ name.
    c.in_ok-add_names.ensures name
    ∙ ap (λ t. t || is_named c.args.second.now name) (c.in_ok-set.ensures name)
    ∙ sym (named_append c.args.first.now c.args.second.now name)
