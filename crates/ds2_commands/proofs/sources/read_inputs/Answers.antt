use Rattle.std.proofs.Common.{refl}
use Rattle.ds2_compile.specs.UnitViews.{source_tree}
use Rattle.ds2_commands.proofs.InputNames.{inputs_apart}
use Rattle.ds2_commands.proofs.LoadSteps.{inputs_given, inputs_refused, inputs_short}
use Rattle.ds2_commands.proofs.sources.read_inputs.Goals as goal

pub read_tables-requires : goal.read_tables-requires
read_tables-requires g c = record { apart = inputs_apart (source_tree c.args.tree.now) c.in-Ok.names c.as_slice.result.now c.in-Ok.ensures c.as_slice.ensures }

pub returns-in-Ok-clause-reads : goal.returns-in-Ok-clause-reads
returns-in-Ok-clause-reads g c =
    inputs_given (source_tree c.args.tree.now) c.in-Ok.names c.as_slice.result.now c.args.session.now.log c.read_tables.new.session.log (g.S.Store.files c.args.session.now.store.now) (g.S.Store.files c.read_tables.new.session.store.now)
    c.read_tables.result c.in-Ok.ensures c.as_slice.ensures c.read_tables.ensures.loads

pub returns-in-Err-Refused-clause-reads : goal.returns-in-Err-Refused-clause-reads
returns-in-Err-Refused-clause-reads g c =
    inputs_refused (source_tree c.args.tree.now) c.in-Err-Refused.refusal c.in-Err-Refused.field-0 c.args.session.now.log c.refuse_source.new.log (g.S.Store.files c.args.session.now.store.now) (g.S.Store.files c.args.session.now.store.now)
    c.refuse_source.result c.in-Err-Refused.field-0-is c.in-Err-Refused.ensures c.refuse_source.ensures refl

pub returns-in-Err-OutOfMemory-clause-reads : goal.returns-in-Err-OutOfMemory-clause-reads
returns-in-Err-OutOfMemory-clause-reads g c = inputs_short (source_tree c.args.tree.now) c.args.session.now.log c.args.session.now.log (g.S.Store.files c.args.session.now.store.now) (g.S.Store.files c.args.session.now.store.now) refl
