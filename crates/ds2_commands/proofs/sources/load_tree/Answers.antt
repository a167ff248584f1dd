use Rattle.ds2_compile.specs.UnitViews.{source_tree}
use Rattle.ds2_commands.proofs.LoadSteps.{inputs_end, inputs_then}
use Rattle.ds2_commands.proofs.sources.load_tree.Goals as goal

pub returns-in_err-stored-clause-loads : goal.returns-in_err-stored-clause-loads
returns-in_err-stored-clause-loads g c =
    inputs_end (source_tree c.args.tree.now) c.args.session.now.log c.read_inputs.new.session.log (g.S.Store.files c.args.session.now.store.now) (g.S.Store.files c.read_inputs.new.session.store.now) c.in_err-stored.field-0.0
    c.from_residual.result c.from_residual.ensures.1 c.in_err-stored.ensures.reads

pub returns-clause-loads : goal.returns-clause-loads
returns-clause-loads g c =
    inputs_then (source_tree c.args.tree.now) c.in_ok-stored.stored c.args.session.now.log c.read_inputs.new.session.log c.compile_over.new.log (g.S.Store.files c.args.session.now.store.now) (g.S.Store.files c.read_inputs.new.session.store.now)
    (g.S.Store.files c.read_inputs.new.session.store.now) c.compile_over.result c.in_ok-stored.ensures.reads (c.compile_over.ensures.loads (g.S.Store.files c.read_inputs.new.session.store.now))

pub returns-clause-cause : goal.returns-clause-cause
returns-clause-cause g c = record {
  same_store = c.read_inputs.ensures.cause.same_store;
  read = record { later = c.read_inputs.ensures.cause.read.later; rose = λ halts. absurd (c.compile_over.ensures.unread halts) };
  write = record { later = c.read_inputs.ensures.cause.write.later; rose = λ halts. absurd (c.compile_over.ensures.unwritten halts) };
}
