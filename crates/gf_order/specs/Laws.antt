-- The law of comparisons that a function of this crate names.
use Rattle.std.specs.Prelude.{◌≡◌, length}
use Rattle.std.specs.Ordering.{ordering_reverse}
use Rattle.std.specs.declared.cmp.Ordering.{Ordering}
use Rattle.std.specs.declared.cmp.Ordering.TheVariants.{Less}
use Rattle.gf_exponents_theory.specs.Exponents.{Exponents, plus}
use Rattle.gf_exponents_theory.specs.SixOrders.{MonomialOrder}
use Rattle.gf_order.specs.Comparisons.{IsOutcome}

-- by each of the six orders two lists of one length have one outcome; turned it is the opposite; less than less is less;
-- and the product with a third list changes nothing
pub record ComparisonsAreTotal : Type 0 where
  pub decided : (o : MonomialOrder) (x y : Exponents) → length x ≡ length y → (r : Ordering) × IsOutcome o x y r
  pub unique : (o : MonomialOrder) (x y : Exponents) (r s : Ordering) → IsOutcome o x y r → IsOutcome o x y s → r ≡ s
  pub turned : (o : MonomialOrder) (x y : Exponents) (r : Ordering) → IsOutcome o x y r →
      IsOutcome o y x (ordering_reverse r)
  pub chained : (o : MonomialOrder) (x y z : Exponents) → IsOutcome o x y Less → IsOutcome o y z Less →
      IsOutcome o x z Less
  pub products : (o : MonomialOrder) (z x y : Exponents) (r : Ordering) → IsOutcome o x y r →
      IsOutcome o (plus z x) (plus z y) r
