-- A marked list has one printed weight, and each facet one witness.
-- To cite: one_weight, one_witness, normal_there, one_facets, one_certificates.
use Rattle.std.proofs.Common.{◌≡◌, ℕ, List, [], ◌∷◌, ◌++◌, length, ℤ, arith, refl, sym, ap, ap₂, ◌∙◌, subst, Contains, get_or, drop, inl, inr}
use Rattle.gf_int_theory.proofs.ListLaws.{Contains-here}
use Rattle.gf_poly.specs.Marking.{MarkedPolynomial}
use Rattle.gf_duality_theory.specs.Rays.{IsRays}
use Rattle.gf_duality_theory.specs.Faces.{sum_of}
use Rattle.gf_duality_theory.proofs.Determined.{rays_determined}
use Rattle.gf_rays.specs.Parts.{zeros_of}
use Rattle.gf_facets_theory.specs.Systems.{units}
use Rattle.gf_facets_theory.specs.Regions.{Region}
use Rattle.gf_facets_theory.specs.Facets.{IsFlippable}
use Rattle.gf_facets_theory.proofs.AscendingLaws.{same_ascending}
use Rattle.gf_duality_theory.proofs.ListLaws.{none_in, in_tail, in_cons}
use Rattle.gf_weights.specs.declared.certificates.FacetWitness.{FacetWitness}
use Rattle.gf_weights.specs.declared.certificates.BasisCertificates.{BasisCertificates}
use Rattle.gf_weights.specs.Weights.{AreCutRows, AreCutRays, IsWeightIn, IsWitnessIn, AreWitnessedIn, AreCertificatesIn, normals_of}

one_rows : (n : ℕ) (j : Region) (bs : List MarkedPolynomial) (rows others : List (List ℤ)) → AreCutRows n j bs rows → AreCutRows n j bs others → rows ≡ others
one_rows n j bs rows others k l =
    let e : k.normals ≡ l.normals = same_ascending k.normals l.normals k.are_normals.rises l.are_normals.rises
    (λ x c. l.are_normals.all x (k.are_normals.only x c)) (λ x c. k.are_normals.all x (l.are_normals.only x c)) in
    k.all ∙ ap (λ (z : List (List ℤ)). z ++ (j.rows ++ units n n)) e ∙ sym l.all

one_rays : (n : ℕ) (j : Region) (bs : List MarkedPolynomial) (rays others : List (List ℤ)) → AreCutRays n j bs rays → AreCutRays n j bs others → rays ≡ others
one_rays n j bs rays others k l =
    let e : k.rows ≡ l.rows = one_rows n j bs k.rows l.rows k.are_rows l.are_rows in
    (rays_determined n (record { inequalities = l.rows; equations = [] }) (record { inequalities = l.rows; equations = [] }) [] rays [] others
    (λ v w. (λ i. i, λ i. i)) (subst (λ (z : List (List ℤ)). IsRays n z [] [] rays) e k.are_rays) l.are_rays).1

pub one_weight : (n : ℕ) (j : Region) (bs : List MarkedPolynomial) (v w : List ℤ) → IsWeightIn n j bs v → IsWeightIn n j bs w → v ≡ w
one_weight n j bs v w p q = p.sum ∙ ap (sum_of n) (one_rays n j bs p.rays q.rays p.cut q.cut) ∙ sym q.sum

pub one_witness : (n : ℕ) (j : Region) (bs : List MarkedPolynomial) (a v w : List ℤ) → IsWitnessIn n j bs a v → IsWitnessIn n j bs a w → v ≡ w
one_witness n j bs a v w p q = p.sum ∙ ap (λ (z : List (List ℤ)). sum_of n (zeros_of a z)) (one_rays n j bs p.rays q.rays p.cut q.cut) ∙ sym q.sum

-- ---- lists of facets

-- facets with the same normals have the same witnesses
same_facets : (n : ℕ) (j : Region) (bs : List MarkedPolynomial) (fs gs : List FacetWitness) →
    ((f : FacetWitness) → Contains fs f → IsWitnessIn n j bs f.normal f.witness) →
    ((f : FacetWitness) → Contains gs f → IsWitnessIn n j bs f.normal f.witness) → normals_of fs ≡ normals_of gs → fs ≡ gs
same_facets n j bs [] [] p q e = refl
same_facets n j bs [] (g ∷ gs) p q e = absurd (omega (arith, ap length e))
same_facets n j bs (f ∷ fs) [] p q e = absurd (omega (arith, ap length e))
same_facets n j bs (f ∷ fs) (g ∷ gs) p q e =
    let a : f.normal ≡ g.normal = ap (λ (z : List (List ℤ)). get_or z 0 []) e in
    let w : f.witness ≡ g.witness = one_witness n j bs g.normal f.witness g.witness (subst (λ (z : List ℤ). IsWitnessIn n j bs z f.witness) a
    (p f (Contains-here f fs))) (q g (Contains-here g gs)) in
    let rest : fs ≡ gs = same_facets n j bs fs gs (λ h c. p h (in_tail f fs h c)) (λ h c. q h (in_tail g gs h c)) (ap (λ (z : List (List ℤ)). drop 1 z) e) in
    ap₂ (λ (x : FacetWitness) (xs : List FacetWitness). x ∷ xs) (ap₂ (λ (x y : List ℤ). record { normal = x; witness = y }) a w) rest

-- each normal is that of a facet
pub normal_there : (fs : List FacetWitness) (a : List ℤ) → Contains (normals_of fs) a → (f : FacetWitness) × (Contains fs f × (f.normal ≡ a))
normal_there [] a c = absurd (none_in a c)
normal_there (f ∷ fs) a c = elim (in_cons f.normal (normals_of fs) a c) [
  | inl e ↦ (f, (Contains-here f fs, sym e))
  | inr k ↦ let r = normal_there fs a k in (r.0, (in_tail f fs r.0 r.1.0, r.1.1))
]

pub one_facets : (n : ℕ) (j : Region) (bs : List MarkedPolynomial) (fs gs : List FacetWitness) → AreWitnessedIn n j bs fs → AreWitnessedIn n j bs gs → fs ≡ gs
one_facets n j bs fs gs p q =
    same_facets n j bs fs gs p.witnessed q.witnessed (same_ascending (normals_of fs) (normals_of gs) p.rises q.rises
    (λ a c. let r = normal_there fs a c in q.all a (subst (IsFlippable n j bs) r.1.1 (p.flippable r.0 r.1.0)))
    (λ a c. let r = normal_there gs a c in p.all a (subst (IsFlippable n j bs) r.1.1 (q.flippable r.0 r.1.0))))

pub one_certificates : (n : ℕ) (j : Region) (bs : List MarkedPolynomial) (c d : BasisCertificates) → AreCertificatesIn n j bs c → AreCertificatesIn n j bs d →
    (c.weight ≡ d.weight) × (c.facets.items ≡ d.facets.items)
one_certificates n j bs c d p q = (one_weight n j bs c.weight d.weight p.weight q.weight, one_facets n j bs c.facets.items d.facets.items p.facets q.facets)
