-- What the outcome of a basis and a cone says of the test of all faces. To cite: closed_by, passes, fails.
use Rattle.std.specs.Prelude.{None, Some}
use Rattle.std.proofs.Common.{◌≡◌, ℕ, List, ◌++◌, ℤ, All, Contains, length, sym, ap₂, ◌∙◌, subst}
use Rattle.std.proofs.lemmas.List.{append-nil}
use Rattle.std.proofs.lemmas.List.Elements.{All-contains}
use Rattle.gf_int_theory.proofs.ListLaws.{all_by}
use Rattle.gf_poly.specs.Polynomial.{Terms}
use Rattle.gf_poly.specs.Marking.{MarkedPolynomial}
use Rattle.gf_duality_theory.specs.Faces.{Rows, IsInCone, IsInterior, part, cone_of}
use Rattle.gf_duality_theory.proofs.ListLaws.{none_in}
use Rattle.gf_duality_theory.proofs.Interior.{interior}
use Rattle.gf_fans_theory.specs.Fans.{meet}
use Rattle.gf_fans_theory.specs.FaceLists.{numbered}
use Rattle.gf_fans_theory.proofs.Meeting.{left_in, right_in}
use Rattle.gf_fans_theory.proofs.FanLaws.{is_in, up_in, of_part}
use Rattle.gf_rays.specs.Cones.{RowsAndRays, rows_of}
use Rattle.gf_rays.specs.Faces.{IsPartBy}
use Rattle.gf_rays.specs.declared.faces.Face.{Face}
use Rattle.gf_patterns_theory.specs.Interiors.{IsRelativeInterior}
use Rattle.gf_patterns_theory.proofs.InteriorLaws.{interior_relative}
use Rattle.gf_facets_theory.specs.Normals.{AreNormals}
use Rattle.gf_facets_theory.specs.MarkedBases.{AreCanonical, IsMarkedReducedBasis}
use Rattle.gf_facets_theory.proofs.ConeLaws.{normals_closed, closed_by_normals}
use Rattle.gf_saturation_theory.specs.Saturations.{HasOneTermMember}
use Rattle.gf_tropical_basis_test.specs.Tests.{IsClosedConeBy, IsFacePassed, IsBasisPassed, IsFailedAt}
use Rattle.gf_initial_monomials.specs.Outcomes.{HasMonomialAt, HasNoMonomialAt, PassesAt, FailsAt, IsCutBy, HasOutcome, vector_of}
use Rattle.gf_initial_monomials.proofs.OutcomeLaws.{reached_in}
use Rattle.gf_tropical_basis_test.specs.Verdicts.{HasBasisOutcome}

-- ---- what the cone and the closed cone of the basis share

pub closed_by : (n : ℕ) (bs : List MarkedPolynomial) (ns : List (List ℤ)) → AreCanonical n bs → AreNormals bs ns → IsClosedConeBy n bs (cone_of ns)
closed_by n bs ns k a u lu = (
  λ i. closed_by_normals n bs u k (λ t m. up_in (cone_of ns) u t i (a.all t m)),
  λ c. is_in (cone_of ns) u (λ h m. normals_closed n bs u k c h (a.only h m)) (λ e m. absurd (none_in e m)),
)

cut_is : (n : ℕ) (c : Rows) (ns : List (List ℤ)) (d : RowsAndRays) → IsCutBy c n ns d → rows_of d ≡ meet c (cone_of ns)
cut_is n c ns d k = ap₂ (λ (i j : List (List ℤ)). record { inequalities = i; equations = j }) k.inequalities (k.equations ∙ sym (append-nil c.equations))

-- the vector that is tried is in the relative interior of the face
inside : (n : ℕ) (c : Rows) (ns : List (List ℤ)) (d : RowsAndRays) (zero : List (List ℤ)) (f : Face) → IsCutBy c n ns d → IsPartBy d zero f →
    IsRelativeInterior n (part (meet c (cone_of ns)) zero) (vector_of d f)
inside n c ns d zero f k p =
    let i : IsInterior n (part (rows_of d) zero) (vector_of d f) =
    subst (λ m. IsInterior m (part (rows_of d) zero) (vector_of d f)) k.ambient (interior d.ambient (part (rows_of d) zero) d.lineality (numbered d.rays f.rays)
    p.are_rays) in
    subst (λ (z : Rows). IsRelativeInterior n (part z zero) (vector_of d f)) (cut_is n c ns d k) (interior_relative n (part (rows_of d) zero) (vector_of d f) i)

-- ---- where all pass

face_passes : (n : ℕ) (bs : List MarkedPolynomial) (ns : List (List ℤ)) (c : Rows) (zero : List (List ℤ)) →
    ((t : List ℤ) → Contains zero t → Contains (c.inequalities ++ ns) t) → HasOutcome n bs ns c None → IsFacePassed n bs (part (meet c (cone_of ns)) zero)
face_passes n bs ns c zero sub h =
    let a = h.are_faces.every zero (all_by (Contains h.cut.inequalities) zero (λ t i. subst (λ (z : List (List ℤ)). Contains z t) (sym h.is_cut.inequalities)
    (sub t i))) in
    let f : Face = a.1 in
    let free : HasNoMonomialAt n bs (vector_of h.cut f) = subst (λ m. HasNoMonomialAt m bs (vector_of h.cut f)) h.is_cut.ambient
    (h.outcome f (a.0, a.2, a.3)) in
    record {
      sample = record {
        vector = vector_of h.cut f;
        interior = inside n c ns h.cut zero f h.is_cut a.4;
        parts = free.are_forms.parts;
        are_parts = free.are_forms.are_parts;
      };
      free = λ s. free.none (subst (HasOneTermMember n) free.are_forms.polys_are s);
    }

pub passes : (n : ℕ) (bs : List MarkedPolynomial) (cones : List Rows) → AreCanonical n bs → HasBasisOutcome n cones bs None → IsBasisPassed n cones bs
passes n bs cones k o = record {
  rows = cone_of o.normals;
  closed = closed_by n bs o.normals k o.are_normals;
  faces = λ c m zero sub. face_passes n bs o.normals c zero sub (o.outcome c m);
}

-- ---- where one fails

failed_at : (n : ℕ) (fs : List Terms) (cones : List Rows) (bs : List MarkedPolynomial) (ns : List (List ℤ)) (c : Rows) (v : List ℤ) →
    IsMarkedReducedBasis n fs bs → AreNormals bs ns → Contains cones c → HasOutcome n bs ns c (Some v) → (length v ≡ n) × IsFailedAt n fs cones v
failed_at n fs cones bs ns c v b a m h =
    let f : Face = h.outcome.0 in
    let e : FailsAt bs h.cut v f = h.outcome.2 in
    let p = All-contains (λ (g : Face). (zero : List (List ℤ)) × (All (Contains h.cut.inequalities) zero × IsPartBy h.cut zero g)) h.faces f h.are_faces.each
    (reached_in (PassesAt bs h.cut) h.faces f h.outcome.1) in
    let i : IsRelativeInterior n (part (meet c (cone_of ns)) p.0) v =
    subst (IsRelativeInterior n (part (meet c (cone_of ns)) p.0)) (sym e.0) (inside n c ns h.cut p.0 f h.is_cut p.1.1) in
    let w : IsInCone (meet c (cone_of ns)) v = of_part (meet c (cone_of ns)) p.0 v i.inside in
    let one : HasMonomialAt n bs v = subst (λ k. HasMonomialAt k bs v) h.is_cut.ambient e.1 in (
      i.width,
      record {
        basis = bs;
        is_basis = b;
        inside = (closed_by n bs ns b.arranged.canonical a v i.width).0 (right_in c (cone_of ns) v w);
        cone = c;
        listed = m;
        in_cone = left_in c (cone_of ns) v w;
        parts = one.are_forms.parts;
        are_parts = one.are_forms.are_parts;
        single = subst (HasOneTermMember n) (sym one.are_forms.polys_are) one.member;
      },
    )

pub fails : (n : ℕ) (fs : List Terms) (cones : List Rows) (bs : List MarkedPolynomial) (v : List ℤ) → IsMarkedReducedBasis n fs bs →
    HasBasisOutcome n cones bs (Some v) → (length v ≡ n) × IsFailedAt n fs cones v
fails n fs cones bs v b o =
    let c : Rows = o.outcome.0 in
    failed_at n fs cones bs o.normals c v b o.are_normals (reached_in (λ (d : Rows). HasOutcome n bs o.normals d None) cones c o.outcome.1) o.outcome.2
