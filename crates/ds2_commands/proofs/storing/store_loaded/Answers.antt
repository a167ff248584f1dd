use Rattle.std.proofs.Common.{inl, refl}
use Rattle.ds2_answer.specs.SourcePlans.{compile_programs_of}
use Rattle.ds2_answer.specs.Plan.{Stops}
use Rattle.ds2_answer.specs.declared.status.Status.TheVariants.{Done}
use Rattle.ds2_store_steps.proofs.Leading.{no_memory}
use Rattle.ds2_commands.proofs.CommandSteps.{readable_short}
use Rattle.ds2_commands.proofs.StoreSteps.{line_behind, line_said, line_unsaid, written_halts}
use Rattle.ds2_commands.proofs.storing.store_loaded.Goals as goal

pub returns-in_err-file-clause-does : goal.returns-in_err-file-clause-does
returns-in_err-file-clause-does g c =
    no_memory (compile_programs_of c.args.source.now c.args.object.now) (λ _. Stops Done) c.args.session.now.log c.args.session.now.log (g.S.Store.files c.args.session.now.store.now) (g.S.Store.files c.args.session.now.store.now) c.from_residual.result c.from_residual.ensures.1 refl

pub returns-in_err-bytes-clause-does : goal.returns-in_err-bytes-clause-does
returns-in_err-bytes-clause-does g c =
    no_memory (compile_programs_of c.args.source.now c.args.object.now) (λ _. Stops Done) c.args.session.now.log c.args.session.now.log (g.S.Store.files c.args.session.now.store.now) (g.S.Store.files c.args.session.now.store.now) c.from_residual-in_err-bytes.result c.from_residual-in_err-bytes.ensures.1 refl

pub returns-in_err-write_file-clause-does : goal.returns-in_err-write_file-clause-does
returns-in_err-write_file-clause-does g c =
    written_halts c.args.source.now c.args.object.now c.in_ok-file.file c.in_ok-bytes.bytes c.args.session.now.log c.write_file.new.session.log (g.S.Store.files c.args.session.now.store.now) (g.S.Store.files c.write_file.new.session.store.now) c.in_err-write_file.field-0.0
    c.from_residual-in_err-write_file.result c.from_residual-in_err-write_file.ensures.1 c.in_ok-file.ensures c.in_ok-bytes.ensures.bytes
    (c.in_err-write_file.ensures.does (line_behind c.args.source.now c.args.object.now))

pub returns-in_err-say_object-clause-does : goal.returns-in_err-say_object-clause-does
returns-in_err-say_object-clause-does g c =
    line_unsaid c.args.source.now c.args.object.now c.in_ok-file.file c.in_ok-bytes.bytes c.args.session.now.log c.write_file.new.session.log c.say_object.new.log (g.S.Store.files c.args.session.now.store.now) (g.S.Store.files c.write_file.new.session.store.now)
    c.from_residual-in_err-say_object.result c.from_residual-in_err-say_object.ensures.1 c.in_ok-file.ensures c.in_ok-bytes.ensures.bytes
    (c.in_ok-write_file.ensures.does (line_behind c.args.source.now c.args.object.now))

pub returns-clause-does : goal.returns-clause-does
returns-clause-does g c =
    line_said c.args.source.now c.args.object.now c.in_ok-file.file c.in_ok-bytes.bytes c.args.session.now.log c.write_file.new.session.log c.say_object.new.log (g.S.Store.files c.args.session.now.store.now) (g.S.Store.files c.write_file.new.session.store.now)
    c.in_ok-file.ensures c.in_ok-bytes.ensures.bytes (c.in_ok-write_file.ensures.does (line_behind c.args.source.now c.args.object.now)) c.len.result c.len.ensures c.in_ok-say_object.ensures

pub returns-in_err-file-clause-readable : goal.returns-in_err-file-clause-readable
returns-in_err-file-clause-readable g c = readable_short c.args.object.now (g.S.Store.files c.args.session.now.store.now) c.from_residual.result c.from_residual.ensures.1

pub returns-in_err-bytes-clause-readable : goal.returns-in_err-bytes-clause-readable
returns-in_err-bytes-clause-readable g c = readable_short c.args.object.now (g.S.Store.files c.args.session.now.store.now) c.from_residual-in_err-bytes.result c.from_residual-in_err-bytes.ensures.1

pub returns-in_err-write_file-clause-readable : goal.returns-in_err-write_file-clause-readable
returns-in_err-write_file-clause-readable g c = inl c.in_ok-bytes.ensures.readable

pub returns-in_err-say_object-clause-readable : goal.returns-in_err-say_object-clause-readable
returns-in_err-say_object-clause-readable g c = inl c.in_ok-bytes.ensures.readable

pub returns-clause-readable : goal.returns-clause-readable
returns-clause-readable g c = inl c.in_ok-bytes.ensures.readable
