use Rattle.std.proofs.Common.{sym, ap}
use Rattle.ds2_meaning.specs.IsTyped.{expression_type, chain_type}
use Rattle.ds2_emitter.proofs.Trees.{constant_is, variable_is, widen_is, convert_is, prefixed_is, compared_is, applied_is, called_is, hash_is, iterator_is, chain_is}
use Rattle.ds2_body_survey.proofs.expression_types.+expression_type.Goals as goal

pub returns-in-Constant : goal.returns-in-Constant
returns-in-Constant t c = sym (ap expression_type (constant_is c.args.e.now _ _ c.in-Constant.is))

pub returns-in-Variable : goal.returns-in-Variable
returns-in-Variable t c = sym (ap expression_type (variable_is c.args.e.now _ _ c.in-Variable.is))

pub returns-in-Widen : goal.returns-in-Widen
returns-in-Widen t c = sym (ap expression_type (widen_is c.args.e.now _ c.in-Widen.is))

pub returns-in-Convert : goal.returns-in-Convert
returns-in-Convert t c = sym (ap expression_type (convert_is c.args.e.now _ _ c.in-Convert.is))

pub returns-in-Prefixed : goal.returns-in-Prefixed
returns-in-Prefixed t c = sym (ap expression_type (prefixed_is c.args.e.now _ _ _ c.in-Prefixed.is))

pub returns-in-Compared : goal.returns-in-Compared
returns-in-Compared t c = sym (ap expression_type (compared_is c.args.e.now _ _ _ c.in-Compared.is))

pub returns-in-Applied : goal.returns-in-Applied
returns-in-Applied t c = sym (ap expression_type (applied_is c.args.e.now _ _ _ c.in-Applied.is))

pub returns-in-Called : goal.returns-in-Called
returns-in-Called t c = sym (ap expression_type (called_is c.args.e.now _ _ c.in-Called.is))

pub returns-in-HashCalled : goal.returns-in-HashCalled
returns-in-HashCalled t c = sym (ap expression_type (hash_is c.args.e.now _ _ c.in-HashCalled.is))

pub returns-in-IteratorCalled : goal.returns-in-IteratorCalled
returns-in-IteratorCalled t c = sym (ap expression_type (iterator_is c.args.e.now _ _ c.in-IteratorCalled.is))

pub returns-in-Chain : goal.returns-in-Chain
returns-in-Chain t c =
    let is = ap expression_type (chain_is c.args.e.now _ _ c.in-Chain.is) in
    cc (is, c.chain_type.ensures, c.expression_type.ensures, c.deref.ensures, c.as_slice.ensures)
