use Rattle.std.proofs.Common.{◌≡◌, ◌++◌, drop}
use Rattle.ds2_tree.specs.Lists.{all_spelled}
use Rattle.ds2_tree.specs.Statements.{statements_spelling, whens_spelling}
use Rattle.ds2_tree.specs.StatementViews.{statements_of, whens_of, else_if_spelling}
use Rattle.ds2_spelling.proofs.statements.+spell_statements.Given as goal

abbrev pub invariant-spell_others-loop-other : goal.invariant-spell_others-loop-other
invariant-spell_others-loop-other l = l.out ++ all_spelled else_if_spelling (drop l.other-index l.others) ≡ l.fn.out ++ all_spelled else_if_spelling l.others

abbrev pub invariant-spell_whens-loop-when : goal.invariant-spell_whens-loop-when
invariant-spell_whens-loop-when l = l.out ++ whens_spelling (whens_of (drop l.when-index l.whens)) ≡ l.fn.out ++ whens_spelling (whens_of l.whens)

abbrev pub invariant-spell_statements-loop-statement : goal.invariant-spell_statements-loop-statement
invariant-spell_statements-loop-statement l = l.out ++ statements_spelling (statements_of (drop l.statement-index l.statements)) ≡ l.fn.out ++ statements_spelling (statements_of l.statements)
