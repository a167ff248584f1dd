-- The statements of a method, and the rule on what it returns.
use Rattle.std.proofs.Common.{◌≡◌, Bool, true, false, ◌||◌, if◌then◌else◌, [], Option, Some, None, sym, ap, ◌∙◌}
use Rattle.std.specs.Prelude.{is_some, not}
use Rattle.ds2_base.specs.declared.place.Place.{Place}
use Rattle.ds2_base.specs.declared.place.Refusal.{Refusal}
use Rattle.ds2_tree.specs.declared.globals.Returns.{Returns}
use Rattle.ds2_meaning.specs.declared.refusals.TypeKind.{TypeKind}
use Rattle.ds2_meaning.specs.declared.refusals.TypeKind.TheVariants.{NoReturn}
use Rattle.ds2_elaboration.specs.Typings.{type_refusal_at}
use Rattle.ds2_types.specs.Judgements.{first_type_refusal}

-- the rule that is given of a method with this result, at this place, that surely returns or does not
abbrev pub rule_given : Option Returns → Bool → Place → Option (Refusal TypeKind)
rule_given returns surely place = first_type_refusal (if not (is_some returns) || surely then [] else type_refusal_at NoReturn place)

pub nothing_to_return : (r : Option Returns) (surely : Bool) (place : Place) → r ≡ None → None ≡ rule_given r surely place
nothing_to_return r surely place e = sym (ap (λ (o : Option Returns). rule_given o surely place) e)

pub surely_returned : (r : Option Returns) (surely : Bool) (place : Place) (own : Returns) → r ≡ Some own → surely ≡ true → None ≡ rule_given r surely place
surely_returned r surely place own e s = sym ((λ i. rule_given (e i) (s i) place))

pub not_returned : (r : Option Returns) (surely : Bool) (place : Place) (own : Returns) (refusal : Refusal TypeKind) → r ≡ Some own → surely ≡ false
    → refusal ≡ record { kind = NoReturn; place = place } → Some refusal ≡ rule_given r surely place
not_returned r surely place own refusal e s k = ap (λ (x : Refusal TypeKind). Some x) k ∙ sym ((λ i. rule_given (e i) (s i) place))
