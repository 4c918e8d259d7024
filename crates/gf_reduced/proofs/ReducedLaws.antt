-- A Gröbner basis for its marking without terms that offend is the reduced one.
-- To cite: reduced_of.
use Rattle.std.specs.Prelude.{◌≡◌, ◌≢◌, ℕ, suc, Bool, true, false, if◌then◌else◌, List, [], ◌∷◌, map, Contains}
use Rattle.std.proofs.Common.{arith, refl, sym, subst, inl, inr}
use Rattle.std.proofs.lemmas.List.Sorted.{Contains-permutation, IsPermutation-sym}
use Rattle.gf_exponents_theory.specs.Exponents.{Exponents, same, plus, NoMultiple}
use Rattle.gf_exponents_theory.proofs.ExponentsLaws.{same_trans, same_flip}
use Rattle.gf_poly.specs.declared.Term.{Term}
use Rattle.gf_poly.specs.Polynomial.{Terms, HasVariables}
use Rattle.gf_poly.specs.Marking.{MarkedPolynomial, MarkedPolynomials, Each, HaveVariables, HasMarkedTerm, IsArranged}
use Rattle.gf_ideal_theory.specs.Membership.{HasMonomial}
use Rattle.gf_ideal_theory.specs.Reduction.{IsDivisible}
use Rattle.gf_ideal_theory.specs.Bases.{AreApart, HasReducedTails, IsCanonical, AreArranged}
use Rattle.gf_ideal_theory.specs.Settled.{IsAt}
use Rattle.gf_ideal_theory.proofs.ListLaws.{each_contained, contained_each}
use Rattle.gf_ideal_theory.proofs.ListedTerms.{by_terms}
use Rattle.gf_ideal_theory.proofs.KeptForms.{arranged_list}
use Rattle.gf_ideal_theory.proofs.StepLaws.{monic-monomials}
use Rattle.gf_ideal_theory.proofs.ArrangementLaws.{apart-arranged}
use Rattle.gf_division.proofs.RuleLaws.{no_multiple}
use Rattle.gf_reduced.specs.Forms.{monic_of, monic_set}
use Rattle.gf_reduced.specs.Markings.{IsMarkedGroebnerBasis, IsBasisOf, IsReducedBasisOf}
use Rattle.gf_reduced.specs.Terms.{all_but, IsOffending, NoneOffends, AreReduced}
use Rattle.gf_reduced.proofs.FormLaws.{AreThere, form_of, is_form, form_canonical}
use Rattle.gf_reduced.proofs.GroebnerLaws.{divisible_back, basis_of}

-- ---- marks are apart

at_first : (b : MarkedPolynomial) (bs : List MarkedPolynomial) → IsAt (b ∷ bs) 0 b
at_first b bs = record { within = omega arith; is = refl }

at_later : (b c : MarkedPolynomial) (bs : List MarkedPolynomial) (i : ℕ) → IsAt bs i c → IsAt (b ∷ bs) (suc i) c
at_later b c bs i h = record { within = omega (arith, h.within); is = h.is }

apart_by_indices : (bs : List MarkedPolynomial) → ((i j : ℕ) (b c : MarkedPolynomial) → i ≢ j → IsAt bs i b → IsAt bs j c → NoMultiple b.head c.head) →
    AreApart bs
apart_by_indices [] h = tt
apart_by_indices (b ∷ bs) h = (
  each_contained (λ (c : MarkedPolynomial). NoMultiple b.head c.head × NoMultiple c.head b.head) bs (λ c k. (
    h 0 (suc k.0) b c (λ e. omega (arith, e)) (at_first b bs) (at_later b c bs k.0 (record { within = k.1; is = k.2 })),
    h (suc k.0) 0 c b (λ e. omega (arith, e)) (at_later b c bs k.0 (record { within = k.1; is = k.2 })) (at_first b bs),
  )),
  apart_by_indices bs (λ i j c d n p q. h (suc i) (suc j) c d (λ e. n (omega (arith, e))) (at_later b c bs i p) (at_later b d bs j q)),
)

reduced-apart : (bs : List MarkedPolynomial) → AreReduced bs → AreApart bs
reduced-apart bs h = apart_by_indices bs (λ i j b c n p q. no_multiple b.head c.head
    (λ d. (h j c q).0 (record { index = i; member = b; at = p; divides = d; other = inl n })))

-- ---- tails are reduced

-- no mark divides x, unless it is the mark of b
abbrev IsFree : List MarkedPolynomial → MarkedPolynomial → Exponents → Type 0
IsFree bs b x = IsDivisible (Contains bs) x → same x b.head ≡ true

reduced-tails : (bs : List MarkedPolynomial) → AreReduced bs → HasReducedTails bs
reduced-tails bs h b k = by_terms (IsFree bs b) b.poly along (each b.poly (h k.0 b (record { within = k.1; is = k.2 })).1)
  where
    along : (x y : Exponents) → same x y ≡ true → IsFree bs b x → IsFree bs b y
    along x y s f d = same_trans y x b.head (same_flip x y s)
        (f (record { member = d.member; contained = d.contained; rest = d.rest; divides = same_trans x y (plus d.rest d.member.head) s d.divides }))

    offending : (x : Exponents) → same x b.head ≡ false → IsDivisible (Contains bs) x → IsOffending bs k.0 b x
    offending x e d = record {
      index = d.contained.0;
      member = d.member;
      at = record { within = d.contained.1; is = d.contained.2 };
      divides = record { rest = d.rest; product = d.divides };
      other = inr e;
    }

    each : (f : Terms) → NoneOffends bs k.0 b (all_but b.head f) → Each (λ (t : Term). IsFree bs b t.mono) f
    each [] n = tt
    each (t ∷ f) n = at (same t.mono b.head) refl (λ m. each f m)
      where
        at : (s : Bool) → same t.mono b.head ≡ s → (NoneOffends bs k.0 b (all_but b.head f) → Each (λ (u : Term). IsFree bs b u.mono) f) →
            Each (λ (u : Term). IsFree bs b u.mono) (t ∷ f)
        at true e r = (λ d. e, r (subst (λ (s : Bool). NoneOffends bs k.0 b (if s then all_but b.head f else (t.mono ∷ all_but b.head f))) e n))
        at false e r =
            let m : NoneOffends bs k.0 b (t.mono ∷ all_but b.head f) =
            subst (λ (s : Bool). NoneOffends bs k.0 b (if s then all_but b.head f else (t.mono ∷ all_but b.head f))) e n in
            (λ d. absurd (m.0 (offending t.mono e d)), r m.1)

-- ---- the monic forms have the same marks and monomials

forms-tails : (bs : List MarkedPolynomial) → AreThere bs → HasReducedTails bs → HasReducedTails (map monic_of bs)
forms-tails bs m h c k x p d = at (form_of bs c k)
  where
    at : ((b : MarkedPolynomial) × Contains bs b × (monic_of b ≡ c)) → same x c.head ≡ true
    at b =
        let q : HasMonomial (monic_of b.0).poly x = subst (λ (z : MarkedPolynomial). HasMonomial z.poly x) (sym b.2) p in
        subst (λ (z : MarkedPolynomial). same x z.head ≡ true) b.2
        (h b.0 b.1 x (monic-monomials b.0.poly (monic_of b.0) (is_form b.0 (m b.0 b.1)) x q) (divisible_back bs x d))

forms-apart : (bs : List MarkedPolynomial) → AreApart bs → AreApart (map monic_of bs)
forms-apart [] h = tt
forms-apart (b ∷ bs) h = (each bs h.0, forms-apart bs h.1)
  where
    each : (cs : List MarkedPolynomial) → Each (λ (c : MarkedPolynomial). NoMultiple b.head c.head × NoMultiple c.head b.head) cs →
        Each (λ (c : MarkedPolynomial). NoMultiple b.head c.head × NoMultiple c.head b.head) (map monic_of cs)
    each [] h = tt
    each (c ∷ cs) h = (h.0, each cs h.1)

forms-canonical : (n : ℕ) (bs : List MarkedPolynomial) → HaveVariables n bs → Each HasMarkedTerm bs → (c : MarkedPolynomial) → Contains (map monic_of bs) c →
    IsCanonical n c
forms-canonical n bs v m c k =
    let b = form_of bs c k in
    subst (IsCanonical n) b.2 (form_canonical n b.0 (contained_each (λ (a : MarkedPolynomial). HasVariables n a.poly) bs v b.0 b.1)
    (contained_each HasMarkedTerm bs m b.0 b.1))

-- ---- the whole

pub reduced_of : (s t : MarkedPolynomials) → HaveVariables s.variables s.items → Each HasMarkedTerm s.items → IsArranged (monic_set s) t → AreReduced s.items →
    IsMarkedGroebnerBasis s.variables s.items → IsReducedBasisOf s t
reduced_of s t v m r h g = record {
  basis = basis;
  reduced = record {
    reduced = record { basis = basis.basis; tails = tails; heads = apart-arranged forms t.items r.members apart };
    arranged = subst (λ (n : ℕ). AreArranged n t.items) (sym r.variables) (arranged_list s.variables (monic_set s) t r (forms-canonical s.variables s.items v m)
        apart);
  };
}
  where
    forms : List MarkedPolynomial
    forms = map monic_of s.items

    basis : IsBasisOf s t
    basis = basis_of s t v r g

    apart : AreApart forms
    apart = forms-apart s.items (reduced-apart s.items h)

    tails : HasReducedTails t.items
    tails c k x p d =
        forms-tails s.items (λ b i. (g.marks b i).there) (reduced-tails s.items h) c
        (Contains-permutation t.items forms c (IsPermutation-sym forms t.items r.members) k) x p
        (record {
          member = d.member;
          contained = Contains-permutation t.items forms d.member (IsPermutation-sym forms t.items r.members) d.contained;
          rest = d.rest;
          divides = d.divides;
        })
