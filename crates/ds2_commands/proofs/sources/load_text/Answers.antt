use Rattle.std.proofs.Common.{refl, subst, Err}
use Rattle.ds2_base.specs.declared.stop.Stop.{Stop}
use Rattle.ds2_compile.specs.SourceAnswer.{GivesSourceAnswer}
use Rattle.ds2_compile.specs.SourceRefusal.{SourceRefusal}
use Rattle.ds2_compile.specs.UnitViews.{source_tree}
use Rattle.ds2_answer.specs.SourcePlans.{with_tree}
use Rattle.ds2_commands.proofs.LoadSteps.{loads_short, text_refused, text_tree}
use Rattle.ds2_commands.proofs.sources.load_text.Goals as goal

pub load_tree-requires : goal.load_tree-requires
load_tree-requires g c = c.in-Ok.ensures.tree c.requires

pub returns-in-Ok-clause-loads : goal.returns-in-Ok-clause-loads
returns-in-Ok-clause-loads g c sources =
    text_tree c.one_source_answer.ensures sources c.args.text.now (source_tree c.in-Ok.tree) c.args.session.now.log c.load_tree.new.session.log (g.S.Store.files c.args.session.now.store.now) (g.S.Store.files c.load_tree.new.session.store.now)
    c.load_tree.result c.in-Ok.ensures.answer c.load_tree.ensures.loads

pub returns-in-Err-Refused-clause-loads : goal.returns-in-Err-Refused-clause-loads
returns-in-Err-Refused-clause-loads g c sources =
    text_refused c.one_source_answer.ensures sources c.args.text.now c.in-Err-Refused.refusal c.args.session.now.log c.refuse_source.new.log (g.S.Store.files c.args.session.now.store.now) (g.S.Store.files c.args.session.now.store.now) c.refuse_source.result
    (subst (λ (stop : Stop SourceRefusal). GivesSourceAnswer c.args.text.now (Err stop)) c.in-Err-Refused.field-0-is c.in-Err-Refused.ensures.answer) c.refuse_source.ensures refl

pub returns-in-Err-OutOfMemory-clause-loads : goal.returns-in-Err-OutOfMemory-clause-loads
returns-in-Err-OutOfMemory-clause-loads g c sources =
    loads_short (λ files go. with_tree (sources.answer_for c.args.text.now) files go) c.args.session.now.log c.args.session.now.log (g.S.Store.files c.args.session.now.store.now) (g.S.Store.files c.args.session.now.store.now) refl
