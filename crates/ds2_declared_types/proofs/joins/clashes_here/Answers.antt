use Rattle.std.proofs.Common.{ap}
use Rattle.ds2_declared_types.specs.Joins.{column_typing_of, is_clash}
use Rattle.ds2_declared_types.specs.declared.joins.ColumnTyping.{ColumnTyping}
use Rattle.ds2_declared_types.proofs.ColumnForms.{clash_here}
use Rattle.ds2_declared_types.proofs.joins.clashes_here.Goals as goal

pub returns-in-Absent : goal.returns-in-Absent
returns-in-Absent c = λ place.
    clash_here place (column_typing_of c.args.before) (column_typing_of c.args.behind) c.is_clash.result (ap (λ (t : ColumnTyping). is_clash (column_typing_of t)) c.in-Absent.is) c.is_clash.ensures

pub returns-in-Joined : goal.returns-in-Joined
returns-in-Joined c = λ place.
    clash_here place (column_typing_of c.args.before) (column_typing_of c.args.behind) c.is_clash-in-Joined.result (ap (λ (t : ColumnTyping). is_clash (column_typing_of t)) c.in-Joined.is)
    c.is_clash-in-Joined.ensures
