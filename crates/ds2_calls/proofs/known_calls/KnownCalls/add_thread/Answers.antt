use Rattle.std.proofs.Common.{◌≡◌, Some, bytes_eq, nat_eq, refl, sym, ◌∙◌, arith}
use Rattle.std.proofs.Math.Bool.{cond}
use Rattle.std.proofs.lemmas.Grind.{common_steps}
use Rattle.std.specs.Cmp.Lexicographic.{pointwise}
use Rattle.std.specs.HashMap.{get}
use Rattle.ds2_names.specs.SourceUnit.{parameters_listed}
use Rattle.ds2_calls.proofs.KnownLemmas.{thread_added}
use Rattle.ds2_calls.proofs.known_calls.KnownCalls.add_thread.Goals as goal

pub returns : goal.returns
returns c = λ known t named listed knows.
    thread_added _ _ known t c.in_ok-name.name (parameters_listed c.args.unit.now.parameters) c.parameter_count-count.result (named ∙ sym c.in_ok-name.ensures) listed c.parameter_count-count.ensures
    (λ other. let put = c.in_ok-insert.ensures.updates.0 other in
    let h : get (pointwise nat_eq) c.insert.new.self other ≡ cond (bytes_eq c.in_ok-name.name other) (Some c.parameter_count-count.result) (get (pointwise nat_eq) c.args.self.now.threads other) = grind (arith, common_steps, put) in h)
    (λ other. refl) knows
