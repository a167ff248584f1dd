use Rattle.std.proofs.Common.{Some, refl, sym, ap}
use Rattle.ds2_base.specs.declared.place.Refusal.{Refusal}
use Rattle.ds2_meaning.specs.declared.refusals.TypeKind.{TypeKind}
use Rattle.ds2_reference_types.proofs.names.nameless.Goals as goal

pub returns : goal.returns
returns c = record { typing = refl; outcome = ap (λ (r : Refusal TypeKind). Some r) (sym c.refusal.ensures) }
