use Rattle.std.proofs.Common.{map, ap, ◌∙◌}
use Rattle.ds2_meaning.specs.View.{all_statements, typed_method, typed_statement}
use Rattle.ds2_emitter.proofs.Appended.{on_ok}
use Rattle.ds2_statement_emitter.specs.Appending.{with_statements}
use Rattle.ds2_statement_emitter.specs.Marks.{marked_exits}
use Rattle.ds2_statement_emitter.proofs.BodyRuns.{method_whole}
use Rattle.ds2_statement_emitter.proofs.bodies.emit_method.Goals as goal

pub returns : goal.returns
returns g c =
    let n = g.N.Numbering.numbers c.args.names.now in
    let way = g.N.Numbering.way c.args.names.now in
    let code = c.args.code.now in
    let shown = ap (λ body. with_statements n 0 (marked_exits way) (all_statements (map typed_statement body)) code) c.as_slice.ensures in
    on_ok c.emit_method_end.result c.emit_method_end.ensures
    (λ e. method_whole n (typed_method c.args.method.now) way code _ _ _ _ c.len-start.ensures c.requires (c.in_ok-emit_statements.ensures.code ∙ shown) c.in_ok-end_body.ensures.code c.in_ok-end_body.ensures.small e)
