use Rattle.std.proofs.Common.{inl, refl}
use Rattle.ds2_answer.specs.SourcePlans.{store_object}
use Rattle.ds2_store_steps.proofs.Leading.{no_memory}
use Rattle.ds2_commands.proofs.CommandSteps.{readable_short}
use Rattle.ds2_commands.proofs.StoreSteps.{object_written}
use Rattle.ds2_commands.proofs.storing.store_object.Goals as goal

pub returns-in_err-file-clause-does : goal.returns-in_err-file-clause-does
returns-in_err-file-clause-does g c rest =
    no_memory (store_object c.args.source.now c.args.object.now rest) (λ _. rest) c.args.session.now.log c.args.session.now.log (g.S.Store.files c.args.session.now.store.now) (g.S.Store.files c.args.session.now.store.now) c.from_residual.result c.from_residual.ensures.1 refl

pub returns-in_err-bytes-clause-does : goal.returns-in_err-bytes-clause-does
returns-in_err-bytes-clause-does g c rest =
    no_memory (store_object c.args.source.now c.args.object.now rest) (λ _. rest) c.args.session.now.log c.args.session.now.log (g.S.Store.files c.args.session.now.store.now) (g.S.Store.files c.args.session.now.store.now) c.from_residual-in_err-bytes.result c.from_residual-in_err-bytes.ensures.1 refl

pub returns-clause-does : goal.returns-clause-does
returns-clause-does g c rest =
    object_written c.args.source.now c.args.object.now c.in_ok-file.file c.in_ok-bytes.bytes c.args.session.now.log c.write_file.new.session.log (g.S.Store.files c.args.session.now.store.now) (g.S.Store.files c.write_file.new.session.store.now) c.write_file.result
    c.in_ok-file.ensures c.in_ok-bytes.ensures.bytes rest (c.write_file.ensures.does rest)

pub returns-in_err-file-clause-readable : goal.returns-in_err-file-clause-readable
returns-in_err-file-clause-readable g c = readable_short c.args.object.now (g.S.Store.files c.args.session.now.store.now) c.from_residual.result c.from_residual.ensures.1

pub returns-in_err-bytes-clause-readable : goal.returns-in_err-bytes-clause-readable
returns-in_err-bytes-clause-readable g c = readable_short c.args.object.now (g.S.Store.files c.args.session.now.store.now) c.from_residual-in_err-bytes.result c.from_residual-in_err-bytes.ensures.1

pub returns-clause-readable : goal.returns-clause-readable
returns-clause-readable g c = inl c.in_ok-bytes.ensures.readable
