-- What settles a pair, in whole numbers and in the ring's variables: reduction, coprime marks, two monomials, a chain.
-- To cite: pair_by_steps, pair_by_product, pair_by_monomials, pair_by_chain, pair_turned, pair_more, pairs_at_join.
use Rattle.std.specs.Prelude.{◌≡◌, ℕ, true, List, Contains}
use Rattle.gf_exponents_theory.specs.Exponents.{Exponents, plus, same, join, AreCoprime}
use Rattle.gf_exponents_theory.specs.Orders.{IsStrict}
use Rattle.gf_poly.specs.Polynomial.{Terms}
use Rattle.gf_poly.specs.Marking.{MarkedPolynomial, polys}
use Rattle.gf_ideal_theory.specs.Membership.{AreInVariables}
use Rattle.gf_ideal_theory.specs.Marks.{AreMarked}
use Rattle.gf_ideal_theory.specs.Reduction.{Reached, IsSPolynomial, IsKept, HasOneMonomial}
use Rattle.gf_ideal_theory.specs.Settled.{IsMultipleBelow, IntegerPiece, IsSettledPair, ArePairsSettled, IsSettledAtJoin}
use Rattle.gf_ideal_theory.proofs.ListLaws.{Each-weaker}
use Rattle.gf_ideal_theory.proofs.SettledLaws.{settled_everywhere, settled_at_join, settled_turned, settled_by_chain, all_pairs}
use Rattle.gf_ideal_theory.proofs.ProductLaws.{settled_by_product}
use Rattle.gf_ideal_theory.proofs.ReductionLaws.{settled_by_steps, settled_monomials}
use Rattle.gf_ideal_theory.proofs.IntegerPairLaws.{settled_of_pair, pair_of_settled}

-- the S-polynomial reduces to zero, or to a polynomial whose monic form is a member
pub pair_by_steps : (n : ℕ) (bs : List MarkedPolynomial) (below : Exponents → Exponents → Type 0) (b c : MarkedPolynomial) (s r : Terms) →
    AreInVariables n (polys bs) → IsStrict below → AreMarked below bs → Contains bs b → Contains bs c →
    IsSPolynomial b c s → Reached (Contains bs) s r → IsKept (Contains bs) r → IsSettledPair n bs below b c
pair_by_steps n bs below b c s r v o m hb hc q steps k =
    pair_of_settled n bs below b c v o m hb hc (settled_by_steps (Contains bs) (Contains bs) below b c s r o m (λ d j. j) hb hc q steps k)

-- the marks are coprime
pub pair_by_product : (n : ℕ) (bs : List MarkedPolynomial) (below : Exponents → Exponents → Type 0) (b c : MarkedPolynomial) →
    AreInVariables n (polys bs) → IsStrict below → AreMarked below bs → Contains bs b → Contains bs c →
    AreCoprime b.head c.head → IsSettledPair n bs below b c
pair_by_product n bs below b c v o m hb hc q =
    pair_of_settled n bs below b c v o m hb hc (settled_by_product (Contains bs) below b c o (m b hb) (m c hc) hb hc q)

-- both are monomials
pub pair_by_monomials : (n : ℕ) (bs : List MarkedPolynomial) (below : Exponents → Exponents → Type 0) (b c : MarkedPolynomial) →
    AreInVariables n (polys bs) → IsStrict below → AreMarked below bs → Contains bs b → Contains bs c → HasOneMonomial b →
    HasOneMonomial c → IsSettledPair n bs below b c
pair_by_monomials n bs below b c v o m hb hc p q =
    pair_of_settled n bs below b c v o m hb hc (settled_monomials (Contains bs) below b c (m b hb).monic (m c hc).monic p q)

-- the mark of a third member divides the least common multiple, and its pairs with both are settled
pub pair_by_chain : (n : ℕ) (bs : List MarkedPolynomial) (below : Exponents → Exponents → Type 0) (b c d : MarkedPolynomial) (u : Exponents) →
    AreInVariables n (polys bs) → IsStrict below → AreMarked below bs → Contains bs b → Contains bs c →
    same (join b.head c.head) (plus u d.head) ≡ true → IsSettledPair n bs below b d → IsSettledPair n bs below d c →
    IsSettledPair n bs below b c
pair_by_chain n bs below b c d u v o m hb hc h p q =
    pair_of_settled n bs below b c v o m hb hc (settled_at_join (Contains bs) below b c
    (settled_by_chain (Contains bs) below b c d u o h (settled_everywhere (Contains bs) below b d o (settled_of_pair n bs below b d o p))
    (settled_everywhere (Contains bs) below d c o (settled_of_pair n bs below d c o q))))

-- the pair the other way round
pub pair_turned : (n : ℕ) (bs : List MarkedPolynomial) (below : Exponents → Exponents → Type 0) (b c : MarkedPolynomial) →
    AreInVariables n (polys bs) → IsStrict below → AreMarked below bs → Contains bs b → Contains bs c →
    IsSettledPair n bs below b c → IsSettledPair n bs below c b
pair_turned n bs below b c v o m hb hc p = pair_of_settled n bs below c b v o m hc hb
    (settled_at_join (Contains bs) below c b (settled_turned (Contains bs) below b c o
    (settled_everywhere (Contains bs) below b c o (settled_of_pair n bs below b c o p))))

-- in a longer list
pub pair_more : (n : ℕ) (bs ks : List MarkedPolynomial) (below : Exponents → Exponents → Type 0) (b c : MarkedPolynomial) →
    ((d : MarkedPolynomial) → Contains bs d → Contains ks d) → IsSettledPair n bs below b c →
    IsSettledPair n ks below b c
pair_more n bs ks below b c h p = record {
  s = p.s;
  is_s = p.is_s;
  factor = p.factor;
  positive = p.positive;
  multiples = p.multiples;
  lower = Each-weaker (IsMultipleBelow n bs below (join b.head c.head)) (IsMultipleBelow n ks below (join b.head c.head))
      (λ (q : IntegerPiece) k. record { contained = h q.of k.contained; in_ring = k.in_ring; lower = k.lower }) p.multiples p.lower;
  equation = p.equation;
}

-- where the pairs of any two indices are settled, those of any two members are
pub pairs_at_join : (n : ℕ) (bs : List MarkedPolynomial) (below : Exponents → Exponents → Type 0) → IsStrict below →
    ArePairsSettled n bs below → (b c : MarkedPolynomial) → Contains bs b → Contains bs c →
    IsSettledAtJoin (Contains bs) below b c
pairs_at_join n bs below o h = all_pairs below bs o (λ i j b c l p q. settled_of_pair n bs below b c o (h i j b c l p q))
