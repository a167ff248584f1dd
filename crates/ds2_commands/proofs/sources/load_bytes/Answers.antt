use Rattle.std.proofs.Common.{◌∙◌, ap, refl, sym, Option}
use Rattle.ds2_base.specs.Bytes.{Bytes}
use Rattle.ds2_base.specs.Text.{text_of}
use Rattle.ds2_answer.specs.declared.kinds.FileKind.TheVariants.{NotUtf8}
use Rattle.ds2_answer.specs.declared.status.Status.TheVariants as ended
use Rattle.ds2_answer.specs.Lines.{file_line}
use Rattle.ds2_answer.specs.SourcePlans.{with_text, with_tree}
use Rattle.ds2_commands.proofs.LoadSteps.{loads_line, loads_same, loads_unmade}
use Rattle.ds2_commands.proofs.sources.load_bytes.Goals as goal

pub returns-in_err-text-clause-loads : goal.returns-in_err-text-clause-loads
returns-in_err-text-clause-loads g c sources =
    loads_unmade (λ files go. with_text sources c.args.name.now (text_of c.args.bytes) files go) c.args.session.now.log c.args.session.now.log (g.S.Store.files c.args.session.now.store.now) (g.S.Store.files c.args.session.now.store.now) c.from_residual.result c.from_residual.ensures.1 refl

pub returns-in-Some-clause-loads : goal.returns-in-Some-clause-loads
returns-in-Some-clause-loads g c sources =
    loads_same (λ files go. with_tree (sources.answer_for c.in-Some.text) files go) (λ files go. with_text sources c.args.name.now (text_of c.args.bytes) files go) c.args.session.now.log c.load_text.new.session.log
    (g.S.Store.files c.args.session.now.store.now) (g.S.Store.files c.load_text.new.session.store.now) c.load_text.result
    (λ files go. ap (λ (text : Option Bytes). with_text sources c.args.name.now text files go) (sym c.in-Some.is ∙ c.in_ok-text.ensures)) (c.load_text.ensures.loads sources)

pub returns-in-None-clause-loads : goal.returns-in-None-clause-loads
returns-in-None-clause-loads g c sources =
    loads_line (λ files go. with_text sources c.args.name.now (text_of c.args.bytes) files go) ended.File (file_line c.args.name.now NotUtf8) c.args.session.now.log c.refuse_file.new.log (g.S.Store.files c.args.session.now.store.now) (g.S.Store.files c.args.session.now.store.now)
    c.refuse_file.result (λ files go. ap (λ (text : Option Bytes). with_text sources c.args.name.now text files go) (sym c.in_ok-text.ensures ∙ c.in-None.is)) tt c.refuse_file.ensures refl
