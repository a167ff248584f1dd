-- Options one behind the other.
use Rattle.std.proofs.Common.{◌≡◌, ◌≤◌, ◌-◌, ◌∙◌, ℕ, List, [], ◌∷◌, length, get_or, take, drop, Option, Some, sym, ap, arith}
use Rattle.std.proofs.lemmas.List.{take_all}
use Rattle.ds2_answer.specs.declared.command_line.GivenOptions.{GivenOptions}
use Rattle.ds2_answer.specs.CommandLines.{behind_option, options_behind, with_option}

-- the first two of some words, and those after them
two_items : {T : Type 0} (left : List T) (x y : T) → 2 ≤ length left → x ≡ get_or left 0 x → y ≡ get_or left 1 y → left ≡ x ∷ y ∷ take (length left - 2) (drop 2 left)
two_items [] x y some is next_is = absurd (omega arith)
two_items (first ∷ []) x y some is next_is = absurd (omega arith)
two_items (first ∷ second ∷ rest) x y some is next_is =
    let enough : length rest ≤ length (first ∷ second ∷ rest) - 2 = omega arith in
    (λ i. sym is i ∷ sym next_is i ∷ rest) ∙ ap (λ r. x ∷ y ∷ r) (sym (take_all (length (first ∷ second ∷ rest) - 2) rest enough))

-- an option and its number were read, and the others are left
pub one_option_more : (given more : GivenOptions) (left : List (List ℕ)) (x y option number : List ℕ) (read : Option GivenOptions) (whole : Option GivenOptions) → 2 ≤ length left → x ≡ get_or left 0 x → y ≡ get_or left 1 y
    → option ≡ x → number ≡ y → read ≡ with_option given option number → read ≡ Some more → options_behind given left ≡ whole → options_behind more (take (length left - 2) (drop 2 left)) ≡ whole
one_option_more given more left x y option number read whole some is next_is option_is number_is read_is found so_far =
    let others : List (List ℕ) = take (length left - 2) (drop 2 left) in
    let with_it : Some more ≡ with_option given x y = sym found ∙ read_is ∙ (λ i. with_option given (option_is i) (number_is i)) in
    ap (λ (o : Option GivenOptions). behind_option o (λ m. options_behind m others)) with_it
    ∙ ap (options_behind given) (sym (two_items left x y some is next_is))
    ∙ so_far
