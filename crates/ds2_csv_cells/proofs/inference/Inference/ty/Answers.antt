use Rattle.std.proofs.Common.{◌≡◌, ◌⊎◌, inl, inr, false, Some, None, refl, arith}
use Rattle.ds2_csv_cells.proofs.Inferring.{type-integers, type-others}
use Rattle.ds2_csv_cells.proofs.inference.Inference.ty.Goals as goal
use Rattle.ds2_csv_cells.proofs.inference.Inference.ty.Goals.{else-self-via-then-self+else-self-2, else-self-via-else-self}

pub returns-then-self-2 : goal.returns-then-self-2
returns-then-self-2 c cells is = type-integers c.args.self cells is c.if-self.true c.if-self-2.true

pub returns-in-Some : goal.returns-in-Some
returns-in-Some c cells is =
    let odd : (c.args.self.given ≡ false) ⊎ (c.args.self.integers ≡ false) = elim c.else-self.branch [ else-self-via-then-self+else-self-2 w ↦ inr w.if-self-2.false | else-self-via-else-self w ↦ inl w.if-self.false ] in
    type-others c.args.self cells (Some c.in-Some.ty) _ is odd (c.in-Some.ensures cells is) refl

pub returns-in-None : goal.returns-in-None
returns-in-None c cells is =
    let odd : (c.args.self.given ≡ false) ⊎ (c.args.self.integers ≡ false) = elim c.else-self.branch [ else-self-via-then-self+else-self-2 w ↦ inr w.if-self-2.false | else-self-via-else-self w ↦ inl w.if-self.false ] in
    type-others c.args.self cells None c.max.result is odd (c.in-None.ensures cells is) (omega (arith, c.max.ensures, c.min.ensures))
