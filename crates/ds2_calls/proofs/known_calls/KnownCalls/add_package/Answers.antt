use Rattle.std.proofs.Common.{◌≡◌, Some, bytes_eq, nat_eq, refl, subst, sym, ap, ◌∙◌, arith}
use Rattle.std.specs.Prelude.{map}
use Rattle.std.proofs.Math.Bool.{cond}
use Rattle.std.proofs.lemmas.Grind.{common_steps}
use Rattle.std.specs.Cmp.Lexicographic.{pointwise}
use Rattle.std.specs.HashMap.{get}
use Rattle.std.specs.Option.{option_map}
use Rattle.ds2_tree.specs.UnitViews.{global_tree}
use Rattle.ds2_names.specs.SourceUnit.{source_methods}
use Rattle.ds2_calls.specs.KnownUnits.{methods_in_table}
use Rattle.ds2_calls.specs.MethodFlags.{HasMethods}
use Rattle.ds2_calls.proofs.KnownLemmas.{package_added, mapped_cond}
use Rattle.ds2_calls.proofs.known_calls.KnownCalls.add_package.Goals as goal

pub returns : goal.returns
returns c = λ known p named methods knows.
    let table = c.in_ok-methods.methods in
    let has = subst (λ ms. HasMethods table ms) (ap (λ gs. source_methods (map global_tree gs)) c.as_slice.ensures ∙ sym methods) c.in_ok-methods.ensures in
    package_added _ _ known p c.in_ok-name.name table (named ∙ sym c.in_ok-name.ensures) has
    (λ other.
    let put = c.in_ok-insert.ensures.updates.0 other in
    let h : get (pointwise nat_eq) c.insert.new.self other ≡ cond (bytes_eq c.in_ok-name.name other) (Some table) (get (pointwise nat_eq) c.args.self.now.packages other) = grind (arith, common_steps, put) in
    ap (option_map methods_in_table) h ∙ mapped_cond (bytes_eq c.in_ok-name.name other) table (get (pointwise nat_eq) c.args.self.now.packages other))
    (λ other. refl) knows
