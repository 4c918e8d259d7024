-- An ideal has finitely many marked reduced bases: there is a list of them.
-- To cite: bases_exist. The rest are steps: a list of chosen marked members of the ideal is made longer, until the reduced
-- basis for a weight that gives their marks has no other marks than multiples of theirs; Dickson's lemma ends this.
use Rattle.std.proofs.Common.{◌≡◌, ◌⊎◌, ℕ, true, List, [], ◌∷◌, ◌++◌, Contains, arith, sym, ap, ◌∙◌, subst, inl, inr}
use Rattle.std.proofs.lemmas.List.Elements.{Contains-append_left, Contains-append_right, Contains-append_cases}
use Rattle.gf_frac.specs.Fraction.{◌+ℚ◌, zero_ℚ, one_ℚ}
use Rattle.gf_frac.proofs.FractionLaws.{+ℚ-zero, zero_or_not}
use Rattle.gf_exponents_theory.specs.Exponents.{Exponents, same, plus, IsInRing}
use Rattle.gf_exponents_theory.specs.Orders.{lighter, IsWeightedBelow, IsMonomialOrder}
use Rattle.gf_exponents_theory.proofs.ExponentsLaws.{same-refl, same_flip, same_trans}
use Rattle.gf_exponents_theory.proofs.OrderLaws.{lighter-strict, weighted-order}
use Rattle.gf_int_theory.proofs.ListLaws.{Contains-here}
use Rattle.gf_poly.specs.declared.Term.{Term}
use Rattle.gf_poly.specs.Polynomial.{Terms, coefficient, SamePolynomial}
use Rattle.gf_poly.specs.Marking.{MarkedPolynomial, Each}
use Rattle.gf_poly.proofs.PolynomialLaws.{coefficient-same}
use Rattle.gf_ideal_theory.specs.Membership.{HasMonomial, AreInVariables, IsMember}
use Rattle.gf_ideal_theory.specs.Marks.{level, value, IsMarked, AreMarked, IsPositive, HasPositiveWeight}
use Rattle.gf_ideal_theory.specs.Reduction.{IsDivisible}
use Rattle.gf_ideal_theory.specs.Bases.{AreMembers, IsTwin, IsCanonical, IsGreatest}
use Rattle.gf_ideal_theory.proofs.Identities.{one_not_zero}
use Rattle.gf_ideal_theory.proofs.ListLaws.{Each-weaker, each_contained, contained_each, Contains-there, Contains-cases}
use Rattle.gf_ideal_theory.proofs.TermLaws.{Canonical, canonical}
use Rattle.gf_ideal_theory.proofs.ListedTerms.{listed}
use Rattle.gf_ideal_theory.proofs.MembershipLaws.{member-equal, variables_of_member}
use Rattle.gf_ideal_theory.proofs.StepLaws.{IsUpTo, closed-up_to, IsPieceIn, monic-one}
use Rattle.gf_ideal_theory.proofs.GeneratorLaws.{member-monic}
use Rattle.gf_ideal_theory.proofs.LeadingLaws.{top_heaviest, top_greatest}
use Rattle.gf_ideal_theory.proofs.DivisionLaws.{NoMark, divisible_or_not, undivided}
use Rattle.gf_ideal_theory.proofs.BasisLaws.{IsPieceNotPast, divisible_on_top, basis_heaviest}
use Rattle.gf_ideal_theory.proofs.LawsHold.{marks_have_weights}
use Rattle.gf_facets_theory.specs.MarkedBases.{IsMarkedReducedBasis}
use Rattle.gf_facets_theory.proofs.SystemLaws.{positive_or_none}
use Rattle.gf_bases_theory.proofs.DicksonLaws.{IsNew, dickson}
use Rattle.gf_bases_theory.proofs.DecidedLaws.{search}
use Rattle.gf_bases_theory.proofs.RemainderLaws.{HasRemainder, remainder, monic, monic_is, monic-marked}
use Rattle.gf_bases_theory.proofs.RunLaws.{new_mark}
use Rattle.gf_bases_theory.proofs.KeptLaws.{kept_form, marked-twin}
use Rattle.gf_bases_theory.proofs.ReducedFormLaws.{through}
use Rattle.gf_bases_theory.proofs.ExistenceLaws.{weighted_exists}
use Rattle.gf_bases_theory.proofs.ContainmentLaws.{contained_equal}

-- a monic polynomial as a program keeps it
record IsKeptMonic (n : ℕ) (b : MarkedPolynomial) : Type 0 where
  canonical : IsCanonical n b
  one : coefficient b.poly b.head ≡ one_ℚ

-- members of the ideal, monic, as a program keeps them
record AreChosen (n : ℕ) (fs : List Terms) (ps : List MarkedPolynomial) : Type 0 where
  members : AreMembers n fs ps
  kept : (p : MarkedPolynomial) → Contains ps p → IsKeptMonic n p

-- the marked reduced bases whose marks some positive weight gives together with those of ps
pub record Listed (n : ℕ) (fs : List Terms) (ps : List MarkedPolynomial) : Type 0 where
  pub bases : List (List MarkedPolynomial)
  pub sound : (bs : List MarkedPolynomial) → Contains bases bs → IsMarkedReducedBasis n fs bs
  pub complete : (bs : List MarkedPolynomial) → IsMarkedReducedBasis n fs bs → (w : List ℕ) → IsPositive n w →
      AreMarked (lighter w) ps → AreMarked (lighter w) bs → Contains bases bs

-- a list marked by a weight is marked by the weight before lex
heavier : (w : List ℕ) (ps : List MarkedPolynomial) → AreMarked (lighter w) ps → AreMarked (IsWeightedBelow w) ps
heavier w ps m p c = let k = m p c in record { monic = k.monic; tail = λ x h. elim (k.tail x h) [ inl s ↦ inl s | inr l ↦ inr (inl l) ] }

-- ---- the basis for a weight has no new mark

ended : (n : ℕ) (fs : List Terms) (ps gs : List MarkedPolynomial) → AreInVariables n fs → AreChosen n fs ps →
    IsMarkedReducedBasis n fs gs → Each (λ (b : MarkedPolynomial). IsDivisible (Contains ps) b.head) gs → Listed n fs ps
ended n fs ps gs v c g all = record {
  bases = gs ∷ [];
  sound = λ bs h. sound bs (Contains-cases gs bs [] h);
  complete = λ bs b w p m k. subst (Contains (gs ∷ [])) (contained_equal n fs gs bs g b
      (λ d h. over bs b w m k (contained_each (λ (b : MarkedPolynomial). IsDivisible (Contains ps) b.head) gs all d h))) (Contains-here gs []);
}
  where
    sound : (bs : List MarkedPolynomial) → (gs ≡ bs) ⊎ Contains [] bs → IsMarkedReducedBasis n fs bs
    sound bs (inl e) = subst (IsMarkedReducedBasis n fs) e g
    sound bs (inr h) = absurd (omega (arith, h.1))

    over : (bs : List MarkedPolynomial) → IsMarkedReducedBasis n fs bs → (w : List ℕ) → AreMarked (lighter w) ps →
        AreMarked (lighter w) bs → {x : Exponents} → IsDivisible (Contains ps) x → IsDivisible (Contains bs) x
    over bs b w m k {x} d =
        let e = basis_heaviest n fs bs w d.member.poly d.member.head v b.reduced.basis k (c.members d.member d.contained)
        ((top_heaviest w).mark d.member (m d.member d.contained)) in
        record {
          member = e.member;
          contained = e.contained;
          rest = plus d.rest e.rest;
          divides = through x d.member.head e.member.head d.rest e.rest d.divides e.divides;
        }

-- ---- it has a new mark

-- the remainder of a member with a new mark has the mark still
mark_stays : (n : ℕ) (fs : List Terms) (ps : List MarkedPolynomial) (w : List ℕ) (g : MarkedPolynomial) →
    AreMarked (IsWeightedBelow w) ps → IsMarked (IsWeightedBelow w) g → NoMark ps g.head →
    (r : HasRemainder n fs ps (IsUpTo (IsWeightedBelow w) g.head) g.poly) → HasMonomial r.rest g.head
mark_stays n fs ps w g m k new r z =
    one_not_zero (sym k.monic ∙ r.equal g.head ∙ ap (λ y. y +ℚ coefficient (value r.pieces) g.head) z ∙ ap (λ y. zero_ℚ +ℚ y) nothing ∙ +ℚ-zero zero_ℚ)
  where
    o : IsMonomialOrder (IsWeightedBelow w)
    o = weighted-order w

    not_past : (y : Exponents) → IsUpTo (IsWeightedBelow w) g.head y → IsWeightedBelow w g.head y → ⊥
    not_past y (inl q) l = o.strict.irreflexive g.head y (same_flip y g.head q) l
    not_past y (inr j) l = o.strict.irreflexive g.head g.head (same-refl g.head) (o.strict.transitive g.head y g.head l j)

    nothing : coefficient (value r.pieces) g.head ≡ zero_ℚ
    nothing = elim (zero_or_not (coefficient (value r.pieces) g.head)) [
      | inl e ↦ e
      | inr j ↦ absurd (undivided ps g.head new (divisible_on_top (Contains ps) (IsWeightedBelow w) g.head r.pieces o.strict m
          (Each-weaker (IsPieceIn (Contains ps) (IsUpTo (IsWeightedBelow w) g.head)) (IsPieceNotPast (Contains ps) (IsWeightedBelow w) g.head)
          (λ p q. record { member = q.member; not_past = λ l. not_past (level p) q.inside l }) r.pieces r.inside) j))
    ]

-- the bases for each of some terms of f as the next choice
record Joined (n : ℕ) (fs : List Terms) (ps : List MarkedPolynomial) (f : Terms) (ts : Terms) : Type 0 where
  bases : List (List MarkedPolynomial)
  sound : (bs : List MarkedPolynomial) → Contains bases bs → IsMarkedReducedBasis n fs bs
  complete : (bs : List MarkedPolynomial) → IsMarkedReducedBasis n fs bs → (t : Term) → Contains ts t → (w : List ℕ) →
      IsPositive n w → IsMarked (lighter w) (monic f t.mono) → AreMarked (lighter w) ps → AreMarked (lighter w) bs →
      Contains bases bs

-- a choice more
more : (w : List ℕ) (p : MarkedPolynomial) (ps : List MarkedPolynomial) → IsMarked (lighter w) p → AreMarked (lighter w) ps →
    AreMarked (lighter w) (p ∷ ps)
more w p ps m k q h = elim (Contains-cases p q ps h) [ inl e ↦ subst (λ (x : MarkedPolynomial). IsMarked (lighter w) x) e m | inr j ↦ k q j ]

joined : (n : ℕ) (fs : List Terms) (ps : List MarkedPolynomial) (f : Terms) →
    ((x : Exponents) → HasMonomial f x → (c : MarkedPolynomial) × IsTwin (monic f x) c × Listed n fs (c ∷ ps)) →
    (ts : Terms) → Each (λ (t : Term). HasMonomial f t.mono) ts → Joined n fs ps f ts
joined n fs ps f next [] h = record { bases = []; sound = λ bs c. absurd (omega (arith, c.1)); complete = λ bs b t c. absurd (omega (arith, c.1)) }
joined n fs ps f next (t ∷ ts) h = at (next t.mono h.0) (joined n fs ps f next ts h.1)
  where
    at : ((c : MarkedPolynomial) × IsTwin (monic f t.mono) c × Listed n fs (c ∷ ps)) → Joined n fs ps f ts →
        Joined n fs ps f (t ∷ ts)
    at c r = record {
      bases = c.2.bases ++ r.bases;
      sound = λ bs k. sound bs (Contains-append_cases c.2.bases r.bases bs k);
      complete = λ bs b s k w p m l j. complete bs b s (Contains-cases t s ts k) w p m l j;
    }
      where
        sound : (bs : List MarkedPolynomial) → Contains c.2.bases bs ⊎ Contains r.bases bs → IsMarkedReducedBasis n fs bs
        sound bs (inl k) = c.2.sound bs k
        sound bs (inr k) = r.sound bs k

        complete : (bs : List MarkedPolynomial) → IsMarkedReducedBasis n fs bs → (s : Term) → (t ≡ s) ⊎ Contains ts s →
            (w : List ℕ) → IsPositive n w → IsMarked (lighter w) (monic f s.mono) → AreMarked (lighter w) ps →
            AreMarked (lighter w) bs → Contains (c.2.bases ++ r.bases) bs
        complete bs b s (inl e) w p m l j = Contains-append_left c.2.bases r.bases bs
            (c.2.complete bs b w p (more w c.0 ps (marked-twin (lighter w) (monic f t.mono) c.0 (lighter-strict w) c.1
            (subst (λ (u : Term). IsMarked (lighter w) (monic f u.mono)) (sym e) m)) l) j)
        complete bs b s (inr k) w p m l j = Contains-append_right c.2.bases r.bases bs (r.complete bs b s k w p m l j)

-- a weight that gives the marks of ps and of the basis gives, before lex, a mark to f, and some positive weight gives all
chosen_mark : (n : ℕ) (w : List ℕ) (ps bs : List MarkedPolynomial) (f : Terms) (x : Exponents) → HasMonomial f x →
    AreMarked (lighter w) ps → AreMarked (lighter w) bs → IsGreatest (IsWeightedBelow w) f x →
    (u : List ℕ) × IsPositive n u × IsMarked (lighter u) (monic f x) × AreMarked (lighter u) ps × AreMarked (lighter u) bs
chosen_mark n w ps bs f x h m k t = at (marks_have_weights.by_weighted n w (monic f x ∷ (ps ++ bs)) (λ b c. all b (Contains-cases (monic f x) b (ps ++ bs) c)))
  where
    all : (b : MarkedPolynomial) → (monic f x ≡ b) ⊎ Contains (ps ++ bs) b → IsMarked (IsWeightedBelow w) b
    all b (inl e) = subst (λ (y : MarkedPolynomial). IsMarked (IsWeightedBelow w) y) e (monic-marked (IsWeightedBelow w) f x t)
    all b (inr c) = elim (Contains-append_cases ps bs b c) [ inl d ↦ heavier w ps m b d | inr d ↦ heavier w bs k b d ]

    at : HasPositiveWeight n (monic f x ∷ (ps ++ bs)) →
        (u : List ℕ) × IsPositive n u × IsMarked (lighter u) (monic f x) × AreMarked (lighter u) ps × AreMarked (lighter u) bs
    at u = (
      u.0,
      u.1,
      u.2 (monic f x) (Contains-here (monic f x) (ps ++ bs)),
      λ p c. u.2 p (Contains-there (monic f x) p (ps ++ bs) (Contains-append_left ps bs p c)),
      λ b c. u.2 b (Contains-there (monic f x) b (ps ++ bs) (Contains-append_right ps bs b c)),
    )

greatest-along : (below : Exponents → Exponents → Type 0) (f : Terms) (x y : Exponents) → IsMonomialOrder below →
    same x y ≡ true → HasMonomial f y → IsGreatest below f x → IsGreatest below f y
greatest-along below f x y o s h t = record { there = h; greatest = λ z k. at z (t.greatest z k) }
  where
    at : (z : Exponents) → (same z x ≡ true) ⊎ below z x → (same z y ≡ true) ⊎ below z y
    at z (inl e) = inl (same_trans z x y e s)
    at z (inr l) = inr (o.strict.along_right z x y s l)

-- all bases, one choice further
branched : (n : ℕ) (fs : List Terms) (ps : List MarkedPolynomial) (f : Terms) → (SamePolynomial f [] → ⊥) →
    ((x : Exponents) → HasMonomial f x → (c : MarkedPolynomial) × IsTwin (monic f x) c × Listed n fs (c ∷ ps)) →
    Listed n fs ps
branched n fs ps f nonzero next = at (canonical f)
  where
    at : Canonical f → Listed n fs ps
    at c = with_all (joined n fs ps f next c.terms c.there)
      where
        with_all : Joined n fs ps f c.terms → Listed n fs ps
        with_all r = record {
          bases = r.bases;
          sound = r.sound;
          complete = λ bs b w p m k. complete bs b w m k ((top_greatest (IsWeightedBelow w) (weighted-order w)).some f);
        }
          where
            complete : (bs : List MarkedPolynomial) → IsMarkedReducedBasis n fs bs → (w : List ℕ) →
                AreMarked (lighter w) ps → AreMarked (lighter w) bs →
                SamePolynomial f [] ⊎ ((x : Exponents) × IsGreatest (IsWeightedBelow w) f x) → Contains r.bases bs
            complete bs b w m k (inl z) = absurd (nonzero z)
            complete bs b w m k (inr x) = with_term (listed (λ (t : Term). Contains c.terms t × HasMonomial f t.mono) c.terms x.0
                (each_contained (λ (t : Term). Contains c.terms t × HasMonomial f t.mono) c.terms
                (λ t h. (h, contained_each (λ (t : Term). HasMonomial f t.mono) c.terms c.there t h))) (λ z. x.1.there (c.equal x.0 ∙ z)))
              where
                with_term : ((t : Term) × (Contains c.terms t × HasMonomial f t.mono) × (same x.0 t.mono ≡ true)) →
                    Contains r.bases bs
                with_term t =
                    let u = chosen_mark n w ps bs f t.0.mono t.1.1 m k (greatest-along (IsWeightedBelow w) f x.0 t.0.mono (weighted-order w) t.2 t.1.1 x.1) in
                    r.complete bs b t.0 t.1.0 u.0 u.1 u.2 u.3 u.4

-- ---- the list
pub bases_exist : (n : ℕ) (fs : List Terms) → AreInVariables n fs → Listed n fs []
bases_exist n fs v = dickson n P step [] [] (record { members = λ p h. absurd (omega (arith, h.1)); kept = λ p h. absurd (omega (arith, h.1)) }) tt
  where
    P : List Exponents → Type 0
    P ts = (ps : List MarkedPolynomial) → AreChosen n fs ps → Each (IsDivisible (Contains ps)) ts → Listed n fs ps

    step : (ts : List Exponents) → ((t : Exponents) → IsInRing n t → IsNew ts t → P (t ∷ ts)) → P ts
    step ts next ps c h = at (positive_or_none n ps (λ p k. (c.kept p k).canonical) (λ p k. (c.kept p k).one))
      where
        at : HasPositiveWeight n ps ⊎ (HasPositiveWeight n ps → ⊥) → Listed n fs ps
        at (inr none) = record { bases = []; sound = λ bs k. absurd (omega (arith, k.1)); complete = λ bs b w p m k. absurd (none (w, p, m)) }
        at (inl w) = with_basis (weighted_exists n fs w.0 v)
          where
            with_basis : ((gs : List MarkedPolynomial) × IsMarkedReducedBasis n fs gs × AreMarked (IsWeightedBelow w.0) gs) →
                Listed n fs ps
            with_basis g = decide (search (λ (b : MarkedPolynomial). IsDivisible (Contains ps) b.head)
                ((b : MarkedPolynomial) × Contains g.0 b × NoMark ps b.head) g.0 (λ b k. one b k (divisible_or_not ps b.head)))
              where
                one : (b : MarkedPolynomial) → Contains g.0 b → IsDivisible (Contains ps) b.head ⊎ NoMark ps b.head →
                    IsDivisible (Contains ps) b.head ⊎ ((b : MarkedPolynomial) × Contains g.0 b × NoMark ps b.head)
                one b k (inl d) = inl d
                one b k (inr m) = inr (b, k, m)

                decide : Each (λ (b : MarkedPolynomial). IsDivisible (Contains ps) b.head) g.0 ⊎ ((b : MarkedPolynomial) × Contains g.0 b × NoMark ps b.head) →
                    Listed n fs ps
                decide (inl all) = ended n fs ps g.0 v c g.1 all
                decide (inr b) = with_rest (remainder n fs ps w.0 B b.0.poly v c.members w.2
                    (closed-up_to (Contains ps) below b.0.head (weighted-order w.0).strict (heavier w.0 ps w.2)) (g.1.reduced.basis.members b.0 b.1)
                    (g.2 b.0 b.1).tail)
                  where
                    below : Exponents → Exponents → Type 0
                    below = IsWeightedBelow w.0

                    B : Exponents → Type 0
                    B = IsUpTo below b.0.head

                    with_rest : HasRemainder n fs ps B b.0.poly → Listed n fs ps
                    with_rest r = branched n fs ps r.rest (λ z. mark_stays n fs ps w.0 b.0 (heavier w.0 ps w.2) (g.2 b.0 b.1) b.2 r (z b.0.head))
                        (λ x j. choose x j (kept_form n (monic r.rest x) (variables_of_member n fs (monic r.rest x).poly v (member x j)) (there x j)))
                      where
                        member : (x : Exponents) → HasMonomial r.rest x → IsMember n fs (monic r.rest x).poly
                        member x j = member-monic n fs r.rest (monic r.rest x) v (monic_is r.rest x j) r.member

                        there : (x : Exponents) → HasMonomial r.rest x → HasMonomial (monic r.rest x).poly x
                        there x j z = one_not_zero (sym (monic-one r.rest (monic r.rest x) (monic_is r.rest x j)) ∙ z)

                        choose : (x : Exponents) → HasMonomial r.rest x →
                            ((d : MarkedPolynomial) × IsCanonical n d × IsTwin (monic r.rest x) d) →
                            (d : MarkedPolynomial) × IsTwin (monic r.rest x) d × Listed n fs (d ∷ ps)
                        choose x j d = (
                          d.0,
                          d.2,
                          next x (variables_of_member n fs r.rest v r.member x j) (new_mark (Contains ps) ts x h (r.irreducible x j)) (d.0 ∷ ps)
                              (record { members = λ p k. members p (Contains-cases d.0 p ps k); kept = λ p k. kept p (Contains-cases d.0 p ps k) }) (
                                record { member = d.0; contained = Contains-here d.0 ps; rest = []; divides = d.2.head },
                                Each-weaker (IsDivisible (Contains ps)) (IsDivisible (Contains (d.0 ∷ ps))) (λ t e. record {
                                  member = e.member;
                                  contained = Contains-there d.0 e.member ps e.contained;
                                  rest = e.rest;
                                  divides = e.divides;
                                }) ts h,
                              ),
                        )
                          where
                            members : (p : MarkedPolynomial) → (d.0 ≡ p) ⊎ Contains ps p → IsMember n fs p.poly
                            members p (inl e) =
                                subst (λ (y : MarkedPolynomial). IsMember n fs y.poly) e (member-equal n fs (monic r.rest x).poly d.0.poly d.2.poly
                                (member x j))
                            members p (inr k) = c.members p k

                            one_there : coefficient d.0.poly d.0.head ≡ one_ℚ
                            one_there = sym (d.2.poly d.0.head) ∙ coefficient-same (monic r.rest x).poly d.0.head x (same_flip x d.0.head d.2.head) ∙
                                monic-one r.rest (monic r.rest x) (monic_is r.rest x j)

                            kept : (p : MarkedPolynomial) → (d.0 ≡ p) ⊎ Contains ps p → IsKeptMonic n p
                            kept p (inl e) = subst (IsKeptMonic n) e (record { canonical = d.1; one = one_there })
                            kept p (inr k) = c.kept p k
