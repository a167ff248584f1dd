use Rattle.std.proofs.Common.{ℤ, ap, sym, refl, ◌∙◌}
use Rattle.std.proofs.lemmas.Int.{to_z-of_z}
use Rattle.std.specs.Int.{w128}
use Rattle.ds2_decimal.specs.Arithmetic.{new}
use Rattle.ds2_object_words.proofs.ConstantSteps.{units_unfit, unfit_at}
use Rattle.ds2_object_words.proofs.constants.decimal.Goals as goal

pub returns-in-None : goal.returns-in-None
returns-in-None c =
    rw (
      c.bad.ensures,
      unfit_at c.args.p c.args.s c.args.units
          (units_unfit c.args.units c.args.p c.args.s c.requires
          (ap (λ (z : ℤ). new z c.args.s) (sym (to_z-of_z w128 c.args.units c.ranges.units)) ∙ sym c.new.ensures ∙ c.in-None.is)),
    ) refl
