use Rattle.std.proofs.Common.{ℕ, ◌+◌, ◌-◌, ◌*◌, sym, arith}
use Rattle.ds2_decimal.proofs.QuotientLemmas.{estimated_at, estimate, left, quotient_from, rest_from}
use Rattle.ds2_decimal.proofs.quotient.divide_estimated.Goals as goal

pub overflow_mul-left : goal.overflow_mul-left
overflow_mul-left c =
    let facts = estimated_at c.args.rest c.args.base c.args.divisor c.requires.rest c.requires.base c.requires.square in
    omega (arith, facts.room)

pub returns-then-left-divisor-clause-quotient : goal.returns-then-left-divisor-clause-quotient
returns-then-left-divisor-clause-quotient c =
    let r : ℕ = c.args.rest in
    let b : ℕ = c.args.base in
    let d : ℕ = c.args.divisor in
    let facts = estimated_at r b d c.requires.rest c.requires.base c.requires.square in
    sym (quotient_from (r * b) d (estimate r b d) (left r b d) (omega (arith, facts.below, facts.whole)) (omega arith))

pub returns-then-left-divisor-clause-rest : goal.returns-then-left-divisor-clause-rest
returns-then-left-divisor-clause-rest c =
    let r : ℕ = c.args.rest in
    let b : ℕ = c.args.base in
    let d : ℕ = c.args.divisor in
    let facts = estimated_at r b d c.requires.rest c.requires.base c.requires.square in
    sym (rest_from (r * b) d (estimate r b d) (left r b d) (omega (arith, facts.below, facts.whole)) (omega arith))

pub returns-else-left-divisor-clause-quotient : goal.returns-else-left-divisor-clause-quotient
returns-else-left-divisor-clause-quotient c =
    let r : ℕ = c.args.rest in
    let b : ℕ = c.args.base in
    let d : ℕ = c.args.divisor in
    let facts = estimated_at r b d c.requires.rest c.requires.base c.requires.square in
    sym (quotient_from (r * b) d (estimate r b d + 1) (left r b d - d) (omega (arith, facts.below, facts.whole)) (omega (arith, facts.below, facts.room)))

pub returns-else-left-divisor-clause-rest : goal.returns-else-left-divisor-clause-rest
returns-else-left-divisor-clause-rest c =
    let r : ℕ = c.args.rest in
    let b : ℕ = c.args.base in
    let d : ℕ = c.args.divisor in
    let facts = estimated_at r b d c.requires.rest c.requires.base c.requires.square in
    sym (rest_from (r * b) d (estimate r b d + 1) (left r b d - d) (omega (arith, facts.below, facts.whole)) (omega (arith, facts.below, facts.room)))
