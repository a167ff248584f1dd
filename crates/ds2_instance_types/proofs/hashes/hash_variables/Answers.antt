use Rattle.std.proofs.Common.{List, refl, arith}
use Rattle.ds2_tree.specs.declared.globals.BracketedName.{BracketedName}
use Rattle.ds2_names.specs.SourceUnit.{spelled_name}
use Rattle.ds2_scope.specs.CodeUnits.{names_bracketed}
use Rattle.ds2_elaboration.specs.ExpressionTypes.{global_variable}
use Rattle.ds2_elaboration.specs.ProgramTypes.{hash_variable_of, typed_hash_variables}
use Rattle.ds2_instance_types.proofs.ListForms.{one_more_given}
use Rattle.ds2_instance_types.proofs.hashes.hash_variables.Goals as goal

pub names-preserved : goal.names-preserved
names-preserved c = λ scope h.
    one_more_given (λ (ns : List BracketedName). typed_hash_variables scope (names_bracketed ns)) (λ (n : BracketedName). hash_variable_of (global_variable scope (spelled_name n.name)))
    (λ b bs. refl) c.args.names.now c.names.n-index c.n-item.result c.names.variables _ (typed_hash_variables scope (names_bracketed c.args.names.now)) (omega arith) c.n-item.is
    (c.in_ok-push_named.ensures scope h) (c.names.invariant scope h)
