use Rattle.std.proofs.Common.{rules}
use Rattle.ds2_store_steps.proofs.Leading.{store_ends}
use Rattle.ds2_top.specs.Headline.{Headline}
use Rattle.ds2_top.proofs.Promises.{end_headline}
use Rattle.ds2_top.proofs.top.ds2.Goals as goal

pub returns : goal.returns
returns g c =
    store_ends (λ s. Headline c.args.words.now
    (record { files = g.T.Store.files c.args.store.now; log = g.L.Sink.written c.args.log.now; read_faults = g.T.Store.read_faults c.args.store.now; write_faults = g.T.Store.write_faults c.args.store.now; log_faults = g.L.Sink.faults c.args.log.now })
    (record { files = g.T.Store.files s; log = g.L.Sink.written c.report_end.new.log; read_faults = g.T.Store.read_faults s; write_faults = g.T.Store.write_faults s; log_faults = g.L.Sink.faults c.report_end.new.log }) c.report_end.result)
    c.do_command-ran.new.session.store.now _ (search rules)
    (end_headline c.sources_are_read.ensures c.args.words.now _ _ c.report_end.result c.new.result c.do_command-ran.new.session.log c.do_command-ran.result c.new.ensures c.do_command-ran.ensures.cause.read c.do_command-ran.ensures.cause.write
    (c.do_command-ran.ensures.does c.sources_are_read.ensures) c.report_end.ensures)
