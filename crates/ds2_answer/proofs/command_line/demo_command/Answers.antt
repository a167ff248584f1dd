use Rattle.ds2_answer.specs.declared.sales_table.TheConstants.{MOST_SALES}
use Rattle.ds2_answer.proofs.Numbers.{some_written}
use Rattle.ds2_answer.proofs.command_line.demo_command.Goals as goal

pub returns-in-Some-clause-rows : goal.returns-in-Some-clause-rows
returns-in-Some-clause-rows c = (some_written MOST_SALES c.in-Some.n c.as_str.result.now c.in-Some.ensures.number, c.in-Some.ensures.within)
