-- Marks that an order gives are marks that a positive weight gives.
-- To cite: marked_by, marked_positive, poly_traded, list_traded (finitely many comparisons of an order are made by one
-- positive weight), order-marks.
use Rattle.std.proofs.Common.{◌≡◌, ◌⊎◌, ℕ, ◌≤◌, true, List, [], ◌∷◌, Contains, max, arith, sym, ◌∙◌, inl, inr}
use Rattle.gf_exponents_theory.specs.Exponents.{Exponents, same}
use Rattle.gf_exponents_theory.specs.Orders.{lighter}
use Rattle.gf_exponents_theory.proofs.ExponentsLaws.{entries_same, same_flip, same_trans}
use Rattle.gf_exponents_theory.proofs.WeightLaws.{weight-same}
use Rattle.gf_poly.specs.declared.Term.{Term}
use Rattle.gf_poly.specs.Polynomial.{Terms}
use Rattle.gf_poly.specs.Marking.{MarkedPolynomial, Each}
use Rattle.gf_ideal_theory.specs.Membership.{HasMonomial}
use Rattle.gf_ideal_theory.specs.Marks.{IsMarked, AreMarked, IsPositive, HasPositiveWeight, IsRealisedBy, IsRealisable}
use Rattle.gf_ideal_theory.specs.Reduction.{IsMonicForm, AreMonicForms}
use Rattle.gf_ideal_theory.specs.MonomialOrders.{MonomialOrder, below_of, IsOfGrade, IsHomogeneous, IsAdmissible, ArePairs}
use Rattle.gf_ideal_theory.proofs.Identities.{one_not_zero}
use Rattle.gf_ideal_theory.proofs.ListLaws.{each_contained, contained_each, collect}
use Rattle.gf_ideal_theory.proofs.TermLaws.{Canonical, canonical, canonical_exponents}
use Rattle.gf_ideal_theory.proofs.StepLaws.{monic-one, monic-monomials}
use Rattle.gf_ideal_theory.proofs.GeneratorLaws.{monic-from}
use Rattle.gf_ideal_theory.proofs.OrderWeights.{IsShort, HasWeightsFor, short-up, box_of, weights-positive, order-weights}

-- all monomials of b are like the mark
abbrev pub IsGradedBy : (Exponents → Exponents → Type 0) → MarkedPolynomial → Type 0
IsGradedBy Alike b = (e : Exponents) → HasMonomial b.poly e → Alike e b.head

-- the mark and the monomials of b are in a box
pub record IsPolyTraded (b : MarkedPolynomial) (k : ℕ) : Type 0 where
  pub head : IsShort k b.head
  pub each : (e : Exponents) → HasMonomial b.poly e → IsShort k e

short-along : (k : ℕ) (x y : Exponents) → same x y ≡ true → IsShort k x → IsShort k y
short-along k x y s h = record { small = λ i. omega (arith, entries_same x y s i, h.small i); short = λ i l. sym (entries_same x y s i) ∙ h.short i l }

-- each polynomial is in a box
pub poly_traded : (b : MarkedPolynomial) → (k : ℕ) × IsPolyTraded b k
poly_traded b = over (canonical b.poly)
  where
    boxes : (f : Terms) → Each (λ (t : Term). (k : ℕ) × IsShort k t.mono) f
    boxes [] = tt
    boxes (t ∷ f) = (box_of t.mono, boxes f)

    over : Canonical b.poly → (k : ℕ) × IsPolyTraded b k
    over c = at (collect (λ (t : Term) k. IsShort k t.mono) (λ t k l h p. short-up t.mono k l h p) c.terms (boxes c.terms)) (box_of b.head)
      where
        at : ((k : ℕ) × Each (λ (t : Term). IsShort k t.mono) c.terms) → ((k : ℕ) × IsShort k b.head) →
            (k : ℕ) × IsPolyTraded b k
        at r s =
            let k = max r.0 s.0 in (
              k,
              record {
                head = short-up b.head s.0 k (omega arith) s.1;
                each = λ e n. short-up e r.0 k (omega arith) (canonical_exponents (IsShort r.0) b.poly c (short-along r.0) r.1 e n);
              },
            )

-- and in each larger one
pub poly-up : (b : MarkedPolynomial) (k l : ℕ) → k ≤ l → IsPolyTraded b k → IsPolyTraded b l
poly-up b k l h t = record { head = short-up b.head k l h t.head; each = λ e n. short-up e k l h (t.each e n) }

-- finitely many are in one box
pub polys_traded : (bs : List MarkedPolynomial) → (k : ℕ) × Each (λ b. IsPolyTraded b k) bs
polys_traded bs = collect (λ b k. IsPolyTraded b k) (λ b k l j t. poly-up b k l j t) bs (each_contained (λ b. (k : ℕ) × IsPolyTraded b k) bs
    (λ b c. poly_traded b))

-- marks by an order are marks by a weight that compares alike in the box
pub marked_by : (below : Exponents → Exponents → Type 0) (Alike : Exponents → Exponents → Type 0) (k : ℕ) (w : List ℕ) (b : MarkedPolynomial) →
    ((x y : Exponents) → IsShort k x → IsShort k y → Alike x y → below x y → lighter w x y) → IsMarked below b →
    IsGradedBy Alike b → IsPolyTraded b k → IsMarked (lighter w) b
marked_by below Alike k w b h m g t = record { monic = m.monic; tail = λ e n. at e n (m.tail e n) }
  where
    at : (e : Exponents) → HasMonomial b.poly e → (same e b.head ≡ true) ⊎ below e b.head →
        (same e b.head ≡ true) ⊎ lighter w e b.head
    at e n (inl s) = inl s
    at e n (inr l) = inr (h e b.head (t.each e n) t.head (g e n) l)

-- marks that an order gives are given by a positive weight
pub marked_positive : (Alike below : Exponents → Exponents → Type 0) (n : ℕ) (bs : List MarkedPolynomial) →
    HasWeightsFor Alike below → AreMarked below bs → ((b : MarkedPolynomial) → Contains bs b → IsGradedBy Alike b) →
    HasPositiveWeight n bs
marked_positive Alike below n bs h m g = at (polys_traded bs)
  where
    at : ((k : ℕ) × Each (λ b. IsPolyTraded b k) bs) → HasPositiveWeight n bs
    at p =
        let w = weights-positive Alike below n h p.0 in
        (w.0, w.1, λ b c. marked_by below Alike p.0 w.0 b w.2 (m b c) (g b c) (contained_each (λ b. IsPolyTraded b p.0) bs p.1 b c))

-- a monic polynomial has its mark
pub mark-there : (below : Exponents → Exponents → Type 0) (b : MarkedPolynomial) → IsMarked below b →
    HasMonomial b.poly b.head
mark-there below b m z = one_not_zero (sym m.monic ∙ z)

-- marks by one of the six orders, of homogeneous polynomials where the order wants that
pub order-marks : (o : MonomialOrder) (n : ℕ) (grade : List ℕ) (bs : List MarkedPolynomial) → IsAdmissible o n grade →
    AreMarked (below_of o) bs → ((b : MarkedPolynomial) → Contains bs b → IsHomogeneous n grade b.poly) →
    HasPositiveWeight n bs
order-marks o n grade bs a m g = marked_positive (IsOfGrade n grade) (below_of o) n bs (order-weights o n grade a) m
    (λ b c e k. g b c e b.head k (mark-there (below_of o) b (m b c)))

-- ---- finitely many comparisons

record IsPairShort (p : Exponents × Exponents) (k : ℕ) : Type 0 where
  first : IsShort k p.0
  second : IsShort k p.1

-- finitely many comparisons are made by a positive weight
pub list_traded : (Alike below : Exponents → Exponents → Type 0) (n : ℕ) (ps : List (Exponents × Exponents)) →
    HasWeightsFor Alike below → ArePairs Alike ps → ArePairs below ps →
    (w : List ℕ) × IsPositive n w × ArePairs (lighter w) ps
list_traded Alike below n ps h g b =
    at (collect (λ p k. IsPairShort p k) (λ p k l j t. record { first = short-up p.0 k l j t.first; second = short-up p.1 k l j t.second }) ps (boxes ps))
  where
    boxes : (ps : List (Exponents × Exponents)) → Each (λ p. (k : ℕ) × IsPairShort p k) ps
    boxes [] = tt
    boxes (p ∷ ps) = (both (box_of p.0) (box_of p.1), boxes ps)
      where
        both : ((k : ℕ) × IsShort k p.0) → ((k : ℕ) × IsShort k p.1) → (k : ℕ) × IsPairShort p k
        both r s = (max r.0 s.0, record { first = short-up p.0 r.0 (max r.0 s.0) (omega arith) r.1; second = short-up p.1 s.0 (max r.0 s.0) (omega arith) s.1 })

    at : ((k : ℕ) × Each (λ p. IsPairShort p k) ps) → (w : List ℕ) × IsPositive n w × ArePairs (lighter w) ps
    at r =
        let w = weights-positive Alike below n h r.0 in
        (w.0, w.1, all w.0 w.2 ps r.1 g b)
      where
        all : (w : List ℕ) →
            ((x y : Exponents) → IsShort r.0 x → IsShort r.0 y → Alike x y → below x y → lighter w x y) →
            (ps : List (Exponents × Exponents)) → Each (λ p. IsPairShort p r.0) ps → ArePairs Alike ps →
            ArePairs below ps → ArePairs (lighter w) ps
        all w h [] s g b = tt
        all w h (p ∷ ps) s g b = (h p.0 p.1 s.0.first s.0.second g.0 b.0, all w h ps s.1 g.1 b.1)

-- ---- marks with any coefficient

-- and back
pub realised_of_marked : (w : List ℕ) (b : MarkedPolynomial) → IsMarked (lighter w) b → IsRealisedBy w b
realised_of_marked w b m = record { there = mark-there (lighter w) b m; tail = m.tail }

-- the monic form of what a weight realises is marked by the weight
pub monic_realised : (w : List ℕ) (b c : MarkedPolynomial) → IsMonicForm b.poly c → same c.head b.head ≡ true →
    IsRealisedBy w b → IsMarked (lighter w) c
monic_realised w b c q s r = record { monic = monic-one b.poly c q; tail = λ x k. at x (r.tail x (monic-monomials b.poly c q x k)) }
  where
    at : (x : Exponents) → (same x b.head ≡ true) ⊎ lighter w x b.head → (same x c.head ≡ true) ⊎ lighter w x c.head
    at x (inl e) = inl (same_trans x b.head c.head e (same_flip c.head b.head s))
    at x (inr l) = inr (omega (arith, l, weight-same w c.head b.head s))

-- what a weight realises has monic forms that the weight marks
pub monic-weights : (n : ℕ) (bs cs : List MarkedPolynomial) → IsRealisable n bs → AreMonicForms bs cs →
    HasPositiveWeight n cs
monic-weights n bs cs r h = (r.0, r.1, λ c q. let b = monic-from bs cs h c q in monic_realised r.0 b.0 c b.2 b.3 (r.2 b.0 b.1))
