use Rattle.std.proofs.Common.{◌≡◌, ◌+◌, map, drop, Option}
use Rattle.ds2_meaning.specs.TypedStatement.{TypedStatement}
use Rattle.ds2_meaning.specs.View.{in_a_row, all_statements, otherwise_part, typed_statement}
use Rattle.ds2_gen.specs.StatementCode.{statements_keep, whens_keep}
use Rattle.ds2_statement_emitter.specs.Appending.{subject_of, with_statements, with_whens, with_rest, rest_keeps}
use Rattle.ds2_statement_emitter.specs.Arms.{when_tree, arm_of_chain}
use Rattle.ds2_statement_emitter.specs.Marks.{end_mark, marked_exits}
use Rattle.ds2_statement_emitter.proofs.statements.+statement.Given as goal

abbrev pub invariant-emit_arms-arms : goal.invariant-emit_arms-arms
invariant-emit_arms-arms g l =
    ((o : Option TypedStatement)
    → with_rest (g.N.Numbering.numbers l.names) (marked_exits (g.N.Numbering.way l.names)) end_mark l.started.kept l.started.hole (map arm_of_chain (drop l.arm-index l.arms)) o l.code
    ≡ with_rest (g.N.Numbering.numbers l.names) (marked_exits (g.N.Numbering.way l.names)) end_mark l.fn.first.kept l.fn.first.hole (map arm_of_chain l.arms) o l.fn.code)
    × ((o : Option TypedStatement) → l.started.kept + rest_keeps (map arm_of_chain (drop l.arm-index l.arms)) o ≡ l.fn.first.kept + rest_keeps (map arm_of_chain l.arms) o)

abbrev pub invariant-emit_whens-whens : goal.invariant-emit_whens-whens
invariant-emit_whens-whens g l =
    ((o : Option TypedStatement)
    → with_whens (g.N.Numbering.numbers l.names) l.next end_mark (marked_exits (g.N.Numbering.way l.names)) (subject_of l.tested) (in_a_row (map when_tree (drop l.when-index l.whens)) (otherwise_part o)) l.code
    ≡ with_whens (g.N.Numbering.numbers l.names) l.fn.kept end_mark (marked_exits (g.N.Numbering.way l.names)) (subject_of l.tested) (in_a_row (map when_tree l.whens) (otherwise_part o)) l.fn.code)
    × ((o : Option TypedStatement) → l.next + whens_keep (in_a_row (map when_tree (drop l.when-index l.whens)) (otherwise_part o)) ≡ l.fn.kept + whens_keep (in_a_row (map when_tree l.whens) (otherwise_part o)))

abbrev pub invariant-emit_statements-body : goal.invariant-emit_statements-body
invariant-emit_statements-body g l =
    (with_statements (g.N.Numbering.numbers l.names) l.next (marked_exits (g.N.Numbering.way l.names)) (all_statements (map typed_statement (drop l.s-index l.body))) l.code
    ≡ with_statements (g.N.Numbering.numbers l.names) l.fn.kept (marked_exits (g.N.Numbering.way l.names)) (all_statements (map typed_statement l.body)) l.fn.code)
    × (l.next + statements_keep (all_statements (map typed_statement (drop l.s-index l.body))) ≡ l.fn.kept + statements_keep (all_statements (map typed_statement l.body)))
