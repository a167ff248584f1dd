use Rattle.std.proofs.Common.{sym, ap, ◌∙◌}
use Rattle.ds2_meaning.specs.Evaluation.{callee_home}
use Rattle.ds2_meaning.specs.Location.{Home}
use Rattle.ds2_gen.specs.StatementCode.{drop_code}
use Rattle.ds2_program_code.specs.CodeMethods.{callee_of}
use Rattle.ds2_numbering.specs.CellNumbers.{tree_of}
use Rattle.ds2_numbering.proofs.numbering.BodyNumbersNumbering.has_result.Goals as goal

pub returns : goal.returns
returns c =
    let home = c.called_home-home.ensures ∙ ap (λ (h : Home). callee_home h c.args.instance.now) c.home.ensures in
    sym (ap (λ (h : Home). drop_code (callee_of (tree_of c.args.self.now.program.now) h c.args.method)) home) ∙ c.leaves_result.ensures
