use Rattle.std.proofs.Common.{arith}
use Rattle.std.proofs.lemmas.Grind.{common_steps}
use Rattle.ds2_tree.proofs.StatementRows.{if_spelled, select_is, do_is}
use Rattle.ds2_spelling.proofs.statements.+spell_statements.Goals as goal

pub spell_statement-returns-in-None : goal.spell_statement-returns-in-None
spell_statement-returns-in-None t c = let h = if_spelled _ _ _ _ _ _ _ c.in-If.is in grind (arith, common_steps, h)

pub spell_statement-returns-in_ok-push_token-in-Some : goal.spell_statement-returns-in_ok-push_token-in-Some
spell_statement-returns-in_ok-push_token-in-Some t c = let h = if_spelled _ _ _ _ _ _ _ c.in-If.is in grind (arith, common_steps, h)

pub spell_statement-returns-in_ok-spell_statements-in-Do : goal.spell_statement-returns-in_ok-spell_statements-in-Do
spell_statement-returns-in_ok-spell_statements-in-Do t c = let h = do_is _ _ _ _ _ _ _ c.in-Do.is in grind (arith, common_steps, h)

pub spell_statement-returns-in-None-otherwise : goal.spell_statement-returns-in-None-otherwise
spell_statement-returns-in-None-otherwise t c = let h = select_is _ _ _ _ _ _ _ _ c.in-Select.is in grind (arith, common_steps, h)

pub spell_statement-returns-in_ok-spell_statement-in-Some-otherwise : goal.spell_statement-returns-in_ok-spell_statement-in-Some-otherwise
spell_statement-returns-in_ok-spell_statement-in-Some-otherwise t c = let h = select_is _ _ _ _ _ _ _ _ c.in-Select.is in grind (arith, common_steps, h)
