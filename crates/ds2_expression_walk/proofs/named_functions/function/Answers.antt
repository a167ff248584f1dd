use Rattle.std.proofs.Common.{Ok, Some, None}
use Rattle.ds2_expression_walk.proofs.ArgumentForms.{function_told}
use Rattle.ds2_expression_walk.proofs.named_functions.function.Goals as goal

pub returns-in-None : goal.returns-in-None
returns-in-None c = λ xs h.
    function_told c.args.name.now c.as_slice.result.now c.in_ok-word.word c.function_named.result None xs (Ok c.nameless.result) c.as_slice.ensures c.in_ok-word.ensures
    c.function_named.ensures c.in-None.is c.nameless.ensures

pub returns-in-Some : goal.returns-in-Some
returns-in-Some c = λ xs h.
    function_told c.args.name.now c.as_slice.result.now c.in_ok-word.word c.function_named.result (Some c.in-Some.row) xs c.counted.result c.as_slice.ensures c.in_ok-word.ensures
    c.function_named.ensures c.in-Some.is (c.counted.ensures xs h)
