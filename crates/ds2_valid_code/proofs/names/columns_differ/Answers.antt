use Rattle.std.proofs.Common.{◌≡◌, subst, IfOk}
use Rattle.ds2_valid_code.proofs.NameLemmas.{same_columns}
use Rattle.ds2_valid_code.proofs.names.columns_differ.Goals as goal

pub returns : goal.returns
returns c = subst (λ z. IfOk c.names_differ.result (λ differ. differ ≡ z)) (same_columns c.args.columns.now) c.names_differ.ensures
