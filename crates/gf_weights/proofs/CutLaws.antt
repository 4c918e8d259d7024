-- The cone of a marked list, cut with a closed region: its rows, and that it has no lineality space.
use Rattle.std.proofs.Common.{◌≡◌, ℕ, ◌<◌, List, [], ◌∷◌, ◌++◌, length, ℤ, pos, ◌<ℤ◌, arith, refl, ap, ◌∙◌, subst, sym, append_assoc, get_or}
use Rattle.std.proofs.lemmas.Int.{ints}
use Rattle.std.proofs.Math.ListN.{get_or-append}
use Rattle.std.proofs.lemmas.List.Elements.{Contains-append_right}
use Rattle.gf_int_theory.proofs.ListLaws.{Contains-here}
use Rattle.gf_vec.specs.Vector.{dot, entry_at}
use Rattle.gf_poly.specs.Marking.{MarkedPolynomial}
use Rattle.gf_duality_theory.specs.Rays.{IsRays}
use Rattle.gf_duality_theory.specs.Faces.{sum_of}
use Rattle.gf_duality_theory.proofs.Determined.{described_of}
use Rattle.gf_rays.specs.Cones.{RowsAndRays}
use Rattle.gf_rays.specs.Parts.{zeros_of}
use Rattle.gf_facets_theory.specs.Systems.{unit, units}
use Rattle.gf_facets_theory.specs.Regions.{Region}
use Rattle.gf_facets_theory.proofs.UnitLaws.{dot-unit, unit_there}
use Rattle.gf_cone.specs.Cones.{ConeRows, all_rows, normal_at, IsConeOf}
use Rattle.gf_weights.specs.Weights.{AreCutRows, AreCutRays, IsWeightIn, IsWitnessIn}
use Rattle.gf_weights.specs.Cuts.{HasRaysOf, IsCutOf}

-- where the unit vectors are rows, only zero is lineal
pub pointed : (n : ℕ) (ns lin rays : List (List ℤ)) → IsRays n (ns ++ units n n) [] lin rays → lin ≡ []
pointed n ns [] rays r = refl
pointed n ns (l ∷ lin) rays r =
    let q = r.echelon.leading 0 l (omega arith) in
    let wide : length l ≡ n = r.lin_width 0 l (omega arith) in
    let inside = q.1.0.inside in
    let below : q.0 < n = omega (arith, inside, wide) in
    let d = described_of n (ns ++ units n n) [] (l ∷ lin) rays r in
    let flat : dot (unit n q.0) l ≡ pos 0 = d.valid.flat (unit n q.0) l (Contains-append_right ns (units n n) (unit n q.0) (unit_there n n q.0 below))
    (Contains-here l lin) in
    let same : dot (unit n q.0) l ≡ get_or l q.0 (pos 0) = dot-unit n q.0 l below wide in
    let up : pos 0 <ℤ entry_at l q.0 = q.1.1 in
    absurd (omega (arith, ints, flat, same, up))

-- the rows of the cone are those of the cut cone
pub cut_rows : (n : ℕ) (j : Region) (bs : List MarkedPolynomial) (c : ConeRows) → IsConeOf n j bs c → AreCutRows n j bs (all_rows c)
cut_rows n j bs c k = record { normals = c.normals; are_normals = k.normals; all = ap (λ (z : List (List ℤ)). c.normals ++ z) k.beside }

-- and its rays those
pub cut_rays : (n : ℕ) (j : Region) (bs : List MarkedPolynomial) (c : ConeRows) (r : RowsAndRays) → IsCutOf n j bs c r → AreCutRays n j bs r.rays
unfolding cut_rows
cut_rays n j bs c r k =
    let rows = cut_rows n j bs c k.cone in
    let are : IsRays n (all_rows c) [] r.lineality r.rays = subst (λ (m : ℕ). IsRays m (all_rows c) [] r.lineality r.rays) k.cone.variables k.rays.rays in
    let none : r.lineality ≡ [] = pointed n (c.normals ++ j.rows) r.lineality r.rays (subst (λ (z : List (List ℤ)). IsRays n z [] r.lineality r.rays)
    (rows.all ∙ sym (append_assoc c.normals j.rows (units n n))) are) in
    record { rows = all_rows c; are_rows = rows; are_rays = subst (λ (z : List (List ℤ)). IsRays n (all_rows c) [] z r.rays) none are }

pub ambient_is : (n : ℕ) (j : Region) (bs : List MarkedPolynomial) (c : ConeRows) (r : RowsAndRays) → IsCutOf n j bs c r → r.ambient ≡ n
ambient_is n j bs c r k = k.rays.ambient ∙ k.cone.variables

-- so the sums of its rays are printed
pub weight_is : (n : ℕ) (j : Region) (bs : List MarkedPolynomial) (c : ConeRows) (r : RowsAndRays) (v : List ℤ) → IsCutOf n j bs c r →
    v ≡ sum_of r.ambient r.rays → IsWeightIn n j bs v
weight_is n j bs c r v k e = record { rays = r.rays; cut = cut_rays n j bs c r k; sum = e ∙ ap (λ (m : ℕ). sum_of m r.rays) (ambient_is n j bs c r k) }

pub witness_is : (n : ℕ) (j : Region) (bs : List MarkedPolynomial) (c : ConeRows) (r : RowsAndRays) (a v : List ℤ) → IsCutOf n j bs c r →
    v ≡ sum_of r.ambient (zeros_of a r.rays) → IsWitnessIn n j bs a v
witness_is n j bs c r a v k e = record {
  rays = r.rays;
  cut = cut_rays n j bs c r k;
  sum = e ∙ ap (λ (m : ℕ). sum_of m (zeros_of a r.rays)) (ambient_is n j bs c r k);
}

-- the row of the cone at the index of a normal is this normal
pub normal_row : (c : ConeRows) (r : RowsAndRays) (i : ℕ) → HasRaysOf c r → i < length c.normals → get_or r.inequalities i [] ≡ normal_at c i
normal_row c r i k l = ap (λ (z : List (List ℤ)). get_or z i []) k.rows ∙ get_or-append c.normals c.beside [] i l
