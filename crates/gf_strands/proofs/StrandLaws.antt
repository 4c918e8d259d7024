-- Polynomials on strands: their coefficients, their monomials, and what kinds of members they are.
-- To cite: strand_listed, strand_absent, strand_coefficient, strand_variables, member_variables, members_variables, strand_marked.
use Rattle.std.proofs.Common.{◌≡◌, ℕ, Bool, true, false, List, [], ◌∷◌, ◌++◌, length, Contains, ℤ, pos, ◌<ℤ◌, if◌then◌else◌, arith, refl, ap, ◌∙◌, subst, inl}
use Rattle.std.proofs.Common.{inr}
use Rattle.std.proofs.lemmas.Int.{ints}
use Rattle.gf_frac.specs.Fraction.{◌+ℚ◌, zero_ℚ, one_ℚ}
use Rattle.gf_frac.proofs.FractionLaws.{+ℚ-zero}
use Rattle.gf_int_theory.proofs.ListLaws.{Contains-here}
use Rattle.gf_exponents_theory.specs.Exponents.{Exponents, same}
use Rattle.gf_exponents_theory.specs.SixOrders.{below_of}
use Rattle.gf_exponents_theory.proofs.ExponentsLaws.{same-refl, same_flip}
use Rattle.gf_exponents_theory.proofs.SixOrdersLaws.{order-is}
use Rattle.gf_poly.specs.declared.Term.{Term}
use Rattle.gf_poly.specs.Polynomial.{Terms, coefficient, HasVariables}
use Rattle.gf_poly.specs.Marking.{HaveVariables, Each}
use Rattle.gf_poly.proofs.InitialFormLaws.{same_or_not, elsewhere}
use Rattle.gf_ideal_theory.specs.Membership.{HasMonomial}
use Rattle.gf_ideal_theory.specs.Marks.{IsMarked}
use Rattle.gf_ideal_theory.proofs.ListLaws.{Contains-there, contained_each}
use Rattle.gf_ideal_theory.proofs.ListedTerms.{listed}
use Rattle.gf_strands.specs.declared.strands.Point.{Point}
use Rattle.gf_strands.specs.declared.strands.Strand.{Strand}
use Rattle.gf_strands.specs.Along.{HasNonzero}
use Rattle.gf_strands.specs.Strands.{moved, IsSpot, AreSpots, AreFalling, point_term, strand_terms, strand_member, strand_members, IsStrandAlong, facet_order}
use Rattle.gf_strands.proofs.MoveLaws.{moved-length, moved-zero, on-zero, moved_one, moved_below}

-- ---- monomials

-- the term is that of one of the points
abbrev IsOfPoint : List ℤ → Exponents → List Point → Term → Type 0
IsOfPoint a x ps t = (p : Point) × Contains ps p × (t.mono ≡ moved a x p.k)

each_of_points : (a : List ℤ) (x : Exponents) (ps qs : List Point) → ((p : Point) → Contains qs p → Contains ps p) →
    Each (IsOfPoint a x ps) (strand_terms a x qs)
each_of_points a x ps [] s = tt
each_of_points a x ps (q ∷ qs) s = ((q, s q (Contains-here q qs), refl), each_of_points a x ps qs (λ p c. s p (Contains-there q p qs c)))

-- a monomial of points is that of one of them
pub strand_listed : (a : List ℤ) (x y : Exponents) (ps : List Point) → HasMonomial (strand_terms a x ps) y →
    (p : Point) × Contains ps p × (same y (moved a x p.k) ≡ true)
strand_listed a x y ps h =
    let r = listed (IsOfPoint a x ps) (strand_terms a x ps) y (each_of_points a x ps ps (λ p c. c)) h in
    (r.1.0, r.1.1, subst (λ (z : Exponents). same y z ≡ true) r.1.2 r.2)

-- ---- coefficients

untrue : (b : Bool) → (b ≡ true → ⊥) → b ≡ false
untrue true h = absurd (h refl)
untrue false h = refl

-- no point with other multiples has this monomial
other_point : (a : List ℤ) (x : Exponents) (j k : ℤ) → HasNonzero a → IsSpot a x j → IsSpot a x k → (j ≡ k → ⊥) → same (moved a x j) (moved a x k) ≡ false
other_point a x j k n o p d = untrue (same (moved a x j) (moved a x k)) (λ s. d (moved_one a x j k n o p s))

pub strand_absent : (a : List ℤ) (x : Exponents) (k : ℤ) (ps : List Point) → HasNonzero a → IsSpot a x k → AreSpots a x ps →
    Each (λ (p : Point). k ≡ p.k → ⊥) ps → coefficient (strand_terms a x ps) (moved a x k) ≡ zero_ℚ
strand_absent a x k [] n o h d = refl
strand_absent a x k (p ∷ ps) n o h d = elsewhere (point_term a x p) (strand_terms a x ps) (moved a x k) (other_point a x k p.k n o h.0 d.0) ∙
    strand_absent a x k ps n o h.1 d.1

each_middle : (P : Point → Type 0) (before after : List Point) (p : Point) → Each P (before ++ p ∷ after) → P p
each_middle P [] after p h = h.0
each_middle P (q ∷ before) after p h = each_middle P before after p h.1

below_apart : (k : ℤ) (ps : List Point) → Each (λ (q : Point). q.k <ℤ k) ps → Each (λ (q : Point). k ≡ q.k → ⊥) ps
below_apart k [] h = tt
below_apart k (p ∷ ps) h = ((λ e. omega (arith, ints, h.0, e)), below_apart k ps h.1)

above_apart : (k : ℤ) (ps : List Point) → Each (λ (q : Point). k <ℤ q.k) ps → Each (λ (q : Point). k ≡ q.k → ⊥) ps
above_apart k [] h = tt
above_apart k (p ∷ ps) h = ((λ e. omega (arith, ints, h.0, e)), above_apart k ps h.1)

-- a term of its own monomial, and none of the others has it
first_alone : (t : Term) (f : Terms) → coefficient f t.mono ≡ zero_ℚ → coefficient (t ∷ f) t.mono ≡ t.coef
first_alone t f h = ap (λ b. (if b then t.coef else zero_ℚ) +ℚ coefficient f t.mono) (same-refl t.mono) ∙ ap (λ z. t.coef +ℚ z) h ∙ +ℚ-zero t.coef

-- the coefficient at a point whose multiple no other one has
pub strand_coefficient : (a : List ℤ) (x : Exponents) (before after : List Point) (p : Point) → HasNonzero a → AreSpots a x (before ++ p ∷ after) →
    AreFalling (before ++ p ∷ after) → coefficient (strand_terms a x (before ++ p ∷ after)) (moved a x p.k) ≡ p.coef
strand_coefficient a x [] after p n o f =
    first_alone (point_term a x p) (strand_terms a x after) (strand_absent a x p.k after n o.0 o.1 (below_apart p.k after f.0))
strand_coefficient a x (q ∷ before) after p n o f =
    let l : p.k <ℤ q.k = each_middle (λ (r : Point). r.k <ℤ q.k) before after p f.0 in
    elsewhere (point_term a x q) (strand_terms a x (before ++ p ∷ after)) (moved a x p.k)
    (other_point a x p.k q.k n (each_middle (λ (r : Point). IsSpot a x r.k) before after p o.1) o.0 (λ e. omega (arith, ints, l, e)))
    ∙ strand_coefficient a x before after p n o.1 f.1

-- ---- variables

pub strand_variables : (a : List ℤ) (x : Exponents) (ps : List Point) (n : ℕ) → length x ≡ n → HasVariables n (strand_terms a x ps)
strand_variables a x [] n e = tt
strand_variables a x (p ∷ ps) n e = (moved-length a x p.k ∙ e, strand_variables a x ps n e)

pub member_variables : (a : List ℤ) (l : Strand) (n : ℕ) → length l.mark ≡ n → HasVariables n (strand_member a l).poly
member_variables a l n e = (e, strand_variables a l.mark l.rest.items n e)

pub members_variables : (a : List ℤ) (ls : List Strand) → Each (IsStrandAlong a) ls → HaveVariables (length a) (strand_members a ls)
members_variables a [] h = tt
members_variables a (l ∷ ls) h = (member_variables a l (length a) h.0.width, members_variables a ls h.1)

-- ---- marks

-- the other terms have none of the marked monomial
mark_absent : (a : List ℤ) (l : Strand) → HasNonzero a → IsStrandAlong a l → coefficient (strand_terms a l.mark l.rest.items) l.mark ≡ zero_ℚ
mark_absent a l n h =
    subst (λ (z : Exponents). coefficient (strand_terms a l.mark l.rest.items) z ≡ zero_ℚ) (moved-zero a l.mark)
    (strand_absent a l.mark (pos 0) l.rest.items n (on-zero a l.mark) h.on (above_apart (pos 0) l.rest.items h.further))

-- a strand is monic, and marked at its greatest monomial
pub strand_marked : (a : List ℤ) (l : Strand) → HasNonzero a → IsStrandAlong a l → IsMarked (below_of (facet_order a)) (strand_member a l)
strand_marked a l n h = record {
  monic = first_alone (record { coef = one_ℚ; mono = l.mark }) (strand_terms a l.mark l.rest.items) (mark_absent a l n h);
  tail = λ x m. elim (same_or_not x l.mark) [
    | inl e ↦ inl e
    | inr e ↦ inr (lower x (strand_listed a l.mark x l.rest.items
        (λ z. m (elsewhere (record { coef = one_ℚ; mono = l.mark }) (strand_terms a l.mark l.rest.items) x e ∙ z))))
  ];
}
  where
    lower : (x : Exponents) → (p : Point) × Contains l.rest.items p × (same x (moved a l.mark p.k) ≡ true) → below_of (facet_order a) x l.mark
    lower x r =
        let p = r.0 in
        let k : pos 0 <ℤ p.k = contained_each (λ (q : Point). pos 0 <ℤ q.k) l.rest.items h.further p r.1 in
        let o : IsSpot a l.mark p.k = contained_each (λ (q : Point). IsSpot a l.mark q.k) l.rest.items h.on p r.1 in
        (order-is (facet_order a)).strict.along_left (moved a l.mark p.k) x l.mark (same_flip x (moved a l.mark p.k) r.2) (moved_below a l.mark p.k n o k)
