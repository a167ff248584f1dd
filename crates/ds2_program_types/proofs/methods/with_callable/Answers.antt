use Rattle.std.proofs.Common.{refl}
use Rattle.ds2_program_types.proofs.SystemForms.{callable_added}
use Rattle.ds2_program_types.proofs.methods.with_callable.Goals as goal

pub returns : goal.returns
returns c = λ tables before u methods own h s e. callable_added tables before u methods own c.args.so_far _ c.args.m h s e c.in_ok-push.ensures.ok refl refl refl
