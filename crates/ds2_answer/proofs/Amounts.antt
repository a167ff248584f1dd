-- Amounts that are added up one after the other.
use Rattle.std.proofs.Common.{◌≡◌, ℕ, suc, ◌+◌, ◌*◌, ◌<◌, ◌≤◌, ◌^◌, ap, subst, ◌∙◌, arith}
use Rattle.ds2_decimal.specs.Decimal.{Decimal}
use Rattle.ds2_answer.specs.Drawn.{drawn, hundredths_of, in_hundredths, next_drawn}
use Rattle.ds2_answer.specs.Sales.{first_amounts, sales_total}
use Rattle.ds2_answer.proofs.Draws.{second_draw}

-- the amounts of so many of n rows are together this, and this number was drawn last
pub record HaveAdded (n rows number hundredths : ℕ) : Type 0 where
  pub hundredths_are : hundredths ≡ first_amounts n rows
  pub below : hundredths ≤ 30000 * rows
  pub drawn_is : number ≡ drawn n (2 * rows)
  pub small : number < 2 ^ 31

pub one_added : (n rows number first second before amount : ℕ) → HaveAdded n rows number before → first ≡ next_drawn number → second ≡ next_drawn first → second < 2 ^ 31
    → amount ≡ hundredths_of second → amount < 30000 → HaveAdded n (rows + 1) second (before + amount)
one_added n rows number first second before amount h first_is second_is small amount_is low = subst (λ (m : ℕ). HaveAdded n m second (before + amount)) one_more (record {
  hundredths_are = (λ i. h.hundredths_are i + (amount_is ∙ ap hundredths_of (second_draw n rows number first second h.drawn_is first_is second_is)) i);
  below = let b : before ≤ 30000 * rows = h.below in omega (arith, b, low);
  drawn_is = second_draw n rows number first second h.drawn_is first_is second_is;
  small = small;
})
  where
    one_more : suc rows ≡ rows + 1
    one_more = omega arith

pub all_added : (n rows number hundredths : ℕ) (total : Decimal) → HaveAdded n rows number hundredths → rows ≡ n → total ≡ in_hundredths hundredths → total ≡ sales_total n
unfolding sales_total
all_added n rows number hundredths total h all is = is ∙ ap in_hundredths (h.hundredths_are ∙ ap (first_amounts n) all)
