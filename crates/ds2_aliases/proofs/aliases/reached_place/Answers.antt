use Rattle.std.proofs.Common.{not, ap, ◌∙◌}
use Rattle.ds2_names.specs.NameRules.{place_unless}
use Rattle.ds2_scope.specs.Earliest.{earliest}
use Rattle.ds2_aliases.proofs.aliases.reached_place.Goals as goal

pub returns-clause-place : goal.returns-clause-place
returns-clause-place c = λ unit are has.
    c.place_unless.ensures ∙ ap (λ t. earliest (place_unless (not t) c.args.h.now.place)) (c.in_ok-is_aliased.ensures.answer unit are has)

pub returns-clause-table : goal.returns-clause-table
returns-clause-table c = λ unit are has. c.in_ok-is_aliased.ensures.table unit are has
