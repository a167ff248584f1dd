use Rattle.std.proofs.Common.{refl}
use Rattle.ds2_store_steps.proofs.OutputSteps.{file_not_there, file_there, file_unasked, file_unnamed}
use Rattle.ds2_store_steps.proofs.outputs.ask_file.Goals as goal

pub returns-in_err-file-clause-asks : goal.returns-in_err-file-clause-asks
returns-in_err-file-clause-asks g c =
    file_unnamed c.args.name.now c.args.session.now.log c.args.session.now.log (g.S.Store.files c.args.session.now.store.now) (g.S.Store.files c.args.session.now.store.now) c.from_residual.result c.from_residual.ensures.1 refl

pub returns-in_err-there-clause-asks : goal.returns-in_err-there-clause-asks
returns-in_err-there-clause-asks g c =
    file_unasked c.args.name.now c.in_ok-file.file c.args.session.now.log c.has_file.new.session.log (g.S.Store.files c.args.session.now.store.now) (g.S.Store.files c.has_file.new.session.store.now) c.in_err-there.field-0.0 c.from_residual-in_err-there.result c.in_ok-file.ensures
    c.from_residual-in_err-there.ensures.1 c.in_err-there.ensures.asks

pub returns-then-there-clause-asks : goal.returns-then-there-clause-asks
returns-then-there-clause-asks g c =
    file_there c.args.name.now c.in_ok-file.file c.in_ok-there.there c.args.session.now.log c.has_file.new.session.log c.refuse_output.new.log (g.S.Store.files c.args.session.now.store.now) (g.S.Store.files c.has_file.new.session.store.now) (g.S.Store.files c.has_file.new.session.store.now)
    c.refuse_output.result c.in_ok-file.ensures c.if-there.true c.in_ok-there.ensures.asks.0 c.in_ok-there.ensures.asks.1 c.in_ok-there.ensures.asks.2 c.refuse_output.ensures refl

pub returns-clause-asks : goal.returns-clause-asks
returns-clause-asks g c =
    file_not_there c.args.name.now c.in_ok-file.file c.in_ok-there.there c.args.session.now.log c.has_file.new.session.log (g.S.Store.files c.args.session.now.store.now) (g.S.Store.files c.has_file.new.session.store.now) c.in_ok-file.ensures c.if-there.false
    c.in_ok-there.ensures.asks.0 c.in_ok-there.ensures.asks.1 c.in_ok-there.ensures.asks.2
