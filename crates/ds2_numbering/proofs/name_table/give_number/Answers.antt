use Rattle.std.proofs.Common.{◌≡◌, ℕ, List, false, sym, ap, ◌∙◌, arith}
use Rattle.std.specs.Option.{is_some}
use Rattle.std.specs.Prelude.{bytes_eq}
use Rattle.std.proofs.lemmas.Map.Text.{hash_map_updates_str}
use Rattle.ds2_numbering.specs.NameNumbers.{number_under}
use Rattle.ds2_numbering.specs.Searching.{first_or_this}
use Rattle.ds2_numbering.proofs.NumberLemmas.{name_given}
use Rattle.ds2_numbering.proofs.name_table.give_number.Goals as goal

pub returns-in_ok-insert : goal.returns-in_ok-insert
returns-in_ok-insert c = λ other.
    let m = c.args.numbers.now in
    let grown = c.insert.new.self in
    let text = c.as_str-text.result.now in
    let absent : c.contains_key.result ≡ false = grind arith in
    let none : is_some (number_under m text) ≡ false = sym c.contains_key.ensures ∙ absent in
    name_given (number_under m) (number_under grown) text c.args.number none (hash_map_updates_str text m grown _ c.in_ok-insert.ensures.updates) other
    ∙ ap (λ (name : List ℕ). first_or_this (number_under m other) (bytes_eq other name) c.args.number) c.as_str-text.ensures.bytes
