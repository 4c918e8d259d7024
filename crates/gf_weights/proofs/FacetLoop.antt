-- The loop over the normals of a cone, one index further.
use Rattle.std.proofs.Common.{◌≡◌, ℕ, ◌+◌, ◌<◌, ◌≤◌, List, [], ◌∷◌, ◌++◌, length, ℤ, arith, refl, sym, ap, ◌∙◌, subst, Contains, inl, inr}
use Rattle.std.proofs.lemmas.Bool.{cases_lt}
use Rattle.std.proofs.lemmas.List.{get_or_default}
use Rattle.std.proofs.lemmas.List.Elements.{Contains-append_left, Contains-append_right, Contains-append_cases}
use Rattle.gf_int_theory.proofs.ListLaws.{Contains-here}
use Rattle.gf_poly.specs.Marking.{MarkedPolynomial}
use Rattle.gf_duality_theory.proofs.ListLaws.{none_in, in_cons}
use Rattle.gf_facets_theory.specs.LexPositive.{IsBefore}
use Rattle.gf_facets_theory.specs.Regions.{Region}
use Rattle.gf_facets_theory.specs.Normals.{Ascends}
use Rattle.gf_facets_theory.specs.Facets.{IsFlippable}
use Rattle.gf_facets_theory.proofs.AscendingLaws.{ascends_more, ascends_at}
use Rattle.gf_cone.specs.Cones.{ConeRows, normal_at, IsConeOf}
use Rattle.gf_weights.specs.declared.certificates.FacetWitness.{FacetWitness}
use Rattle.gf_weights.specs.Weights.{IsWitnessIn, AreWitnessedIn, normals_of}
use Rattle.gf_weights.specs.Cuts.{AreWitnessedBefore}

normals_append : (fs : List FacetWitness) (f : FacetWitness) → normals_of (fs ++ f ∷ []) ≡ normals_of fs ++ f.normal ∷ []
normals_append [] f = refl
normals_append (g ∷ fs) f = ap (λ (z : List (List ℤ)). g.normal ∷ z) (normals_append fs f)

module _ (n : ℕ) (region : Region) (bs : List MarkedPolynomial) (c : ConeRows) where
  pub facets_none : (fs : List FacetWitness) → fs ≡ [] → AreWitnessedBefore n region bs c 0 fs
  facets_none fs e = subst (AreWitnessedBefore n region bs c 0) (sym e) (record {
    rises = tt;
    before = λ a k. absurd (none_in a k);
    flippable = λ f k. absurd (none_in f k);
    witnessed = λ f k. absurd (none_in f k);
    all = λ j l f. absurd (omega (arith, l));
  })

  -- a normal whose facet no flip may cross
  pub facets_passed : (i : ℕ) (fs : List FacetWitness) → (IsFlippable n region bs (normal_at c i) → ⊥) → AreWitnessedBefore n region bs c i fs →
      AreWitnessedBefore n region bs c (i + 1) fs
  facets_passed i fs not h = record {
    rises = h.rises;
    before = λ a k. let q = h.before a k in (q.0, omega (arith, q.1), q.2);
    flippable = h.flippable;
    witnessed = h.witnessed;
    all = λ j l f. elim (cases_lt j i) [
      | inl m ↦ h.all j m f
      | inr m ↦ let e : j ≡ i = omega (arith, l, m) in absurd (not (subst (λ (z : ℕ). IsFlippable n region bs (normal_at c z)) e f))
    ];
  }

  -- and one whose facet may be crossed, with its witness
  pub facets_next : (i : ℕ) (fs next : List FacetWitness) (f : FacetWitness) → IsConeOf n region bs c → i < length c.normals → f.normal ≡ normal_at c i →
      IsFlippable n region bs (normal_at c i) → IsWitnessIn n region bs (normal_at c i) f.witness → next ≡ fs ++ f ∷ [] →
      AreWitnessedBefore n region bs c i fs → AreWitnessedBefore n region bs c (i + 1) next
  facets_next i fs next f k l e flip w en h = subst (AreWitnessedBefore n region bs c (i + 1)) (sym en) (record {
    rises = subst Ascends (sym (normals_append fs f)) (ascends_more (normals_of fs) f.normal h.rises (λ a q.
        let b = h.before a q in
        subst (λ (z : List ℤ). IsBefore z f.normal) (sym b.2) (subst (IsBefore (normal_at c b.0)) (sym e) (ascends_at c.normals b.0 i k.normals.rises b.1 l))));
    before = λ a q. elim (Contains-append_cases (normals_of fs) (f.normal ∷ []) a (subst (λ (z : List (List ℤ)). Contains z a) (normals_append fs f) q)) [
      | inl b ↦ let r = h.before a b in (r.0, omega (arith, r.1), r.2)
      | inr b ↦ elim (in_cons f.normal [] a b) [ inl d ↦ (i, omega arith, d ∙ e) | inr d ↦ absurd (none_in a d) ]
    ];
    flippable = λ g q. elim (Contains-append_cases fs (f ∷ []) g q) [
      | inl b ↦ h.flippable g b
      | inr b ↦ elim (in_cons f [] g b) [
        | inl d ↦ subst (λ (z : FacetWitness). IsFlippable n region bs z.normal) (sym d) (subst (IsFlippable n region bs) (sym e) flip)
        | inr d ↦ absurd (none_in g d)
      ]
    ];
    witnessed = λ g q. elim (Contains-append_cases fs (f ∷ []) g q) [
      | inl b ↦ h.witnessed g b
      | inr b ↦ elim (in_cons f [] g b) [
        | inl d ↦ subst (λ (z : FacetWitness). IsWitnessIn n region bs z.normal z.witness) (sym d) (subst (λ (z : List ℤ). IsWitnessIn n region bs z f.witness)
            (sym e) w)
        | inr d ↦ absurd (none_in g d)
      ]
    ];
    all = λ j m g. subst (λ (z : List (List ℤ)). Contains z (normal_at c j)) (sym (normals_append fs f)) (elim (cases_lt j i) [
      | inl d ↦ Contains-append_left (normals_of fs) (f.normal ∷ []) (normal_at c j) (h.all j d g)
      | inr d ↦ let ej : j ≡ i = omega (arith, m, d) in subst (λ (z : List ℤ). Contains (normals_of fs ++ f.normal ∷ []) z) (e ∙ ap (normal_at c) (sym ej))
          (Contains-append_right (normals_of fs) (f.normal ∷ []) f.normal (Contains-here f.normal []))
    ]);
  })

  -- at the end all are there
  pub facets_all : (i : ℕ) (fs : List FacetWitness) → IsConeOf n region bs c → length c.normals ≤ i → AreWitnessedBefore n region bs c i fs →
      AreWitnessedIn n region bs fs
  facets_all i fs k l h = record {
    rises = h.rises;
    flippable = h.flippable;
    witnessed = h.witnessed;
    all = λ a f.
        let there = k.normals.all a f.inside.normal in
        let e : normal_at c there.0 ≡ a = get_or_default c.normals there.0 [] a there.1 ∙ there.2 in
        subst (Contains (normals_of fs)) e (h.all there.0 (omega (arith, there.1, l)) (subst (IsFlippable n region bs) (sym e) f));
  }
