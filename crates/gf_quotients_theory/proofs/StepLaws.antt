-- One step on the way to a saturation, and sums of vectors.
-- To cite: way_stepped, saturated_quotient, saturated_sum.
use Rattle.std.proofs.Common.{◌≡◌, ◌⊎◌, ℕ, ◌+◌, ◌<◌, ◌≤◌, List, [], ◌∷◌, Contains, arith, refl, sym, ap, ◌∙◌, subst, inl, inr}
use Rattle.gf_frac.specs.Fraction.{one_ℚ}
use Rattle.gf_exponents_theory.specs.Exponents.{Exponents, entry, plus, minus, degree, IsInRing}
use Rattle.gf_exponents_theory.proofs.ExponentsLaws.{same_by_entries, entry-plus, entry-minus}
use Rattle.gf_poly.specs.Polynomial.{Terms, coefficient, SamePolynomial, times}
use Rattle.gf_poly.specs.Marking.{MarkedPolynomial, polys, Each}
use Rattle.gf_ideal_theory.specs.Membership.{IsInVariables, AreInVariables, IsMember}
use Rattle.gf_ideal_theory.specs.Bases.{IsBasis}
use Rattle.gf_int_theory.proofs.ListLaws.{Contains-here}
use Rattle.gf_ideal_theory.proofs.ListLaws.{Contains-there, Contains-cases, each_contained}
use Rattle.gf_poly.proofs.PolynomialLaws.{SamePolynomial-times}
use Rattle.gf_ideal_theory.proofs.RingLaws.{entry-degree}
use Rattle.std.proofs.lemmas.Bool.{cases_lt}
use Rattle.gf_ideal_theory.proofs.SpanLaws.{Spans-equal, Spans-generator, Spans-times}
use Rattle.gf_saturation_theory.proofs.SubstitutionLaws.{entry-product_power, ring-product_power}
use Rattle.gf_quotients_theory.proofs.TakenLaws.{spans_more}
use Rattle.gf_ideal_theory.proofs.MembershipLaws.{variables-times, variables-equal, variables_of_member, spans_of_member, member_of_spans}
use Rattle.gf_ideal_theory.proofs.PieceLaws.{Contains-marked}
use Rattle.gf_ideal_theory.proofs.SettledLaws.{twice}
use Rattle.gf_saturation_theory.specs.Saturations.{powered, product_power, IsSaturated, next_variable}
use Rattle.gf_saturation_theory.proofs.SaturationLaws.{times_same, variables_of_multiple}
use Rattle.gf_quotients_theory.specs.Quotients.{IsQuotient, AreQuotients, IsStripped, AreStripped}
use Rattle.gf_quotients_theory.specs.Ways.{IsOnTheWay}
use Rattle.gf_quotients_theory.proofs.QuotientLaws.{power-here, power-other, cases_at, quotient_members, quotient_variables}
use Rattle.gf_quotients_theory.proofs.WayLaws.{saturated_variables, way_divided, way_variable}

-- ---- quotients, from what is divided further

-- a quotient of b, and what has to be multiplied to come to it
record IsBetween (k : ℕ) (hs : List Terms) (b : MarkedPolynomial) : Type 0 where
  quotient : MarkedPolynomial
  is : IsQuotient k b quotient
  by : Exponents
  of : Terms
  contained : Contains hs of
  poly : SamePolynomial quotient.poly (times one_ℚ by of)

between : (n k : ℕ) (gs hs : List Terms) (bs : List MarkedPolynomial) → IsBasis n gs bs → AreStripped n k bs hs → (b : MarkedPolynomial) → Contains bs b →
    IsBetween k hs b
between n k gs hs bs basis s b c = at (s.each b c)
  where
    at : ((h : Terms) × Contains hs h × IsStripped n k b h) → IsBetween k hs b
    at o = record {
      quotient = record { poly = times one_ℚ r o.0; head = minus b.head w };
      is = record {
        power = p;
        head = same_by_entries b.head (plus w (minus b.head w)) (λ i. heads i (cases_at i k));
        poly =
            λ e. o.2.poly e ∙ times_same one_ℚ o.2.by (plus w r) o.0 (same_by_entries o.2.by (plus w r) (λ i. shifts i (cases_at i k))) e
            ∙ ap (λ z. coefficient z e) (twice w r o.0);
        free = omega (arith, entry-minus b.head w k, power-here p k);
      };
      by = r;
      of = o.0;
      contained = o.1;
      poly = λ e. refl;
    }
      where
        p : ℕ
        p = entry b.head k

        w : Exponents
        w = powered p (next_variable k)

        r : Exponents
        r = minus o.2.by w

        heads : (i : ℕ) → ((i < k) ⊎ (k < i)) ⊎ (i ≡ k) → entry b.head i ≡ entry (plus w (minus b.head w)) i
        heads i (inl g) = omega (arith, entry-plus w (minus b.head w) i, entry-minus b.head w i, power-other p k i g)
        heads i (inr e) =
            ap (entry b.head) e ∙ omega (arith, entry-plus w (minus b.head w) k, entry-minus b.head w k, power-here p k)
            ∙ ap (entry (plus w (minus b.head w))) (sym e)

        shifts : (i : ℕ) → ((i < k) ⊎ (k < i)) ⊎ (i ≡ k) → entry o.2.by i ≡ entry (plus w r) i
        shifts i (inl g) = omega (arith, entry-plus w r i, entry-minus o.2.by w i, power-other p k i g)
        shifts i (inr e) =
            ap (entry o.2.by) e ∙ omega (arith, o.2.enough, entry-plus w r k, entry-minus o.2.by w k, power-here p k) ∙ ap (entry (plus w r)) (sym e)

-- the list of them
record IsListOf (k : ℕ) (hs : List Terms) (bs : List MarkedPolynomial) : Type 0 where
  list : List MarkedPolynomial
  each : (b : MarkedPolynomial) → Contains bs b → (d : MarkedPolynomial) × Contains list d × IsQuotient k b d
  only : (d : MarkedPolynomial) → Contains list d → (b : MarkedPolynomial) × Contains bs b × (q : IsBetween k hs b) × (q.quotient ≡ d)

listed : (k : ℕ) (hs : List Terms) (bs : List MarkedPolynomial) → Each (IsBetween k hs) bs → IsListOf k hs bs
listed k hs [] h = record { list = []; each = λ b c. absurd (omega (arith, c.1)); only = λ d c. absurd (omega (arith, c.1)) }
listed k hs (b ∷ bs) h = onto (listed k hs bs h.1)
  where
    onto : IsListOf k hs bs → IsListOf k hs (b ∷ bs)
    onto r =
        record {
          list =
              h.0.quotient ∷ r.list;
          each = λ c m. first c (Contains-cases b c bs m);
          only = λ d m. second d (Contains-cases h.0.quotient d r.list m);
        }
      where
        first : (c : MarkedPolynomial) → (b ≡ c) ⊎ Contains bs c → (d : MarkedPolynomial) × Contains (h.0.quotient ∷ r.list) d × IsQuotient k c d
        first c (inl e) = (h.0.quotient, Contains-here h.0.quotient r.list, subst (λ z. IsQuotient k z h.0.quotient) e h.0.is)
        first c (inr m) = let o = r.each c m in (o.0, Contains-there h.0.quotient o.0 r.list o.1, o.2)

        second : (d : MarkedPolynomial) → (h.0.quotient ≡ d) ⊎ Contains r.list d →
            (c : MarkedPolynomial) × Contains (b ∷ bs) c × (q : IsBetween k hs c) × (q.quotient ≡ d)
        second d (inl e) = (b, Contains-here b bs, h.0, e)
        second d (inr m) = let o = r.only d m in (o.0, Contains-there b o.0 bs o.1, o.2, o.3)

stripped_variables : (n k : ℕ) (gs hs : List Terms) (bs : List MarkedPolynomial) → AreInVariables n gs → IsBasis n gs bs → AreStripped n k bs hs →
    AreInVariables n hs
stripped_variables n k gs hs bs v b s h c =
    let o = s.only h c in
    variables_of_multiple n o.2.by h (variables-equal n o.0.poly (times one_ℚ o.2.by h) o.2.poly (variables_of_member n gs o.0.poly v (b.members o.0 o.1)))

-- ---- what is divided stays in the saturation

pub saturated_quotient : (n : ℕ) (fs : List Terms) (u : Exponents) (f g : Terms) → AreInVariables n fs → IsInRing n u → SamePolynomial f (times one_ℚ u g) →
    IsSaturated n fs f → IsSaturated n fs g
saturated_quotient n fs u f g v ru h s = record {
  power = q;
  member = member_of_spans n fs (times one_ℚ (product_power n q) g) v (variables-times n one_ℚ (product_power n q) g (ring-product_power n q) in_ring)
      (spans_more fs g (plus (product_power n s.power) u) (product_power n q) (λ i. entries i (cases_lt i n))
      (Spans-equal fs (times one_ℚ (product_power n s.power) f) (times one_ℚ (plus (product_power n s.power) u) g)
      (λ e. SamePolynomial-times one_ℚ (product_power n s.power) f (times one_ℚ u g) h e
      ∙ ap (λ z. coefficient z e) (sym (twice (product_power n s.power) u g)))
      (spans_of_member n fs (times one_ℚ (product_power n s.power) f) s.member)));
}
  where
    q : ℕ
    q = s.power + degree u

    in_ring : IsInVariables n g
    in_ring = variables_of_multiple n u g (variables-equal n f (times one_ℚ u g) h (saturated_variables n fs f v s))

    entries : (i : ℕ) → (i < n) ⊎ (n ≤ i) → entry (plus (product_power n s.power) u) i ≤ entry (product_power n q) i
    entries i (inl l) =
        omega (arith, entry-plus (product_power n s.power) u i, entry-product_power n s.power i l, entry-product_power n q i l, entry-degree u i)
    entries i (inr l) = omega (arith, entry-plus (product_power n s.power) u i, ring-product_power n s.power i l, ru i l)

-- ---- one step

pub way_stepped : (n k : ℕ) (fs gs hs : List Terms) (bs : List MarkedPolynomial) (v : Exponents) → k < n → IsInRing n v → AreInVariables n fs →
    IsOnTheWay n fs gs (plus v (next_variable k)) → IsBasis n gs bs → AreStripped n k bs hs → IsOnTheWay n fs hs v
way_stepped n k fs gs hs bs v l rv r w basis s = way_divided n fs (polys ds) hs v r
    (way_variable n k fs gs (polys ds) v l rv r w ring (λ f. quotient_members n k gs bs ds f l w.ring basis quotients))
    (stripped_variables n k gs hs bs w.ring basis s) inside generated
  where
    found : IsListOf k hs bs
    found = listed k hs bs (each_contained (IsBetween k hs) bs (between n k gs hs bs basis s))

    ds : List MarkedPolynomial
    ds = found.list

    quotients : AreQuotients k bs ds
    quotients = record { each = found.each; only = λ d m. let o = found.only d m in (o.0, o.1, subst (λ z. IsQuotient k o.0 z) o.3 o.2.is) }

    ring : AreInVariables n (polys ds)
    ring = quotient_variables n k gs bs ds w.ring basis quotients

    inside : (h : Terms) → Contains hs h → IsSaturated n fs h
    inside h c = let o = s.only h c in saturated_quotient n fs o.2.by o.0.poly h r o.2.ring o.2.poly (w.inside o.0.poly (basis.members o.0 o.1))

    generated : (g : Terms) → Contains (polys ds) g → IsMember n hs g
    generated g c = at (Contains-marked ds g c)
      where
        at : ((d : MarkedPolynomial) × Contains ds d × (d.poly ≡ g)) → IsMember n hs g
        at d =
            let o = found.only d.0 d.1 in
            member_of_spans n hs g (stripped_variables n k gs hs bs w.ring basis s) (ring g c)
            (Spans-equal hs (times one_ℚ o.2.by o.2.of) g (λ e. sym (o.2.poly e) ∙ ap (λ z. coefficient z.poly e) o.3 ∙ ap (λ z. coefficient z e) d.2)
            (Spans-times hs o.2.of one_ℚ o.2.by (Spans-generator hs o.2.of o.2.contained)))
