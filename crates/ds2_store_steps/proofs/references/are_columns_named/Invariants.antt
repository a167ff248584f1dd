use Rattle.std.proofs.Common.{◌≡◌, drop}
use Rattle.ds2_answer.specs.TablePlans.{are_columns_named}
use Rattle.ds2_store_steps.proofs.references.are_columns_named.Given as goal

abbrev pub invariant-references : goal.invariant-references
invariant-references l = are_columns_named (drop l.reference-index l.references) l.name l.columns ≡ are_columns_named l.references l.name l.columns
