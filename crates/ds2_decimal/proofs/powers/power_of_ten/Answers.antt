use Rattle.ds2_decimal.proofs.TenPowers.{get_or-table, get_or-table_pos, get_or-table_le}
use Rattle.ds2_decimal.proofs.powers.power_of_ten.Goals as goal

pub returns-clause-value : goal.returns-clause-value
returns-clause-value c = get_or-table c.args.exponent c.requires

pub returns-clause-positive : goal.returns-clause-positive
returns-clause-positive c = get_or-table_pos c.args.exponent c.requires

pub returns-clause-bound : goal.returns-clause-bound
returns-clause-bound c = get_or-table_le c.args.exponent c.requires
