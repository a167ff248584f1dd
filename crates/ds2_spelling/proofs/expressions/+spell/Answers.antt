use Rattle.std.proofs.Common.{arith}
use Rattle.std.proofs.lemmas.Grind.{common_steps}
use Rattle.ds2_tree.proofs.Rows.{chain_is, call_is}
use Rattle.ds2_spelling.proofs.expressions.+spell.Goals as goal

pub spell_expression-returns-in-Call : goal.spell_expression-returns-in-Call
spell_expression-returns-in-Call t c = let h = call_is _ _ _ _ _ c.in-Call.is in grind (arith, common_steps, h)

pub spell_expression-returns-in_ok-spell_expression-in-Chain : goal.spell_expression-returns-in_ok-spell_expression-in-Chain
spell_expression-returns-in_ok-spell_expression-in-Chain t c = let h = chain_is _ _ _ _ c.in-Chain.is in grind (arith, common_steps, h)
