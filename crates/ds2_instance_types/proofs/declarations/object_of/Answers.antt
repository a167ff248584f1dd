use Rattle.ds2_instance_types.proofs.declarations.object_of.Goals as goal

pub returns : goal.returns
returns c = λ scope h. c.hash_object.ensures scope h
