-- One face tried, and what is refused there. To cite: told_of, face_numbers, fails_by, passes_by, wide_refused, vector_refused, rays_refused.
use Rattle.std.specs.Prelude.{IsTrue}
use Rattle.std.proofs.Common.{rules, ◌≡◌, ◌↔◌, ℕ, ◌<◌, Bool, true, false, List, ◌++◌, ℤ, All, Contains, length, refl, sym, subst}
use Rattle.std.proofs.lemmas.List.Elements.{All-contains}
use Rattle.gf_poly.specs.Polynomial.{Terms}
use Rattle.gf_poly.specs.Marking.{MarkedPolynomial}
use Rattle.gf_vec.specs.Vector.{zeros}
use Rattle.gf_vec.specs.Steps.{IsFirstWide, IfWide}
use Rattle.gf_vec.specs.declared.error.VecError.{VecError}
use Rattle.gf_vec.specs.declared.error.VecError.TheVariants as vectors
use Rattle.gf_gordan.specs.Steps.{Failed}
use Rattle.gf_gordan.specs.declared.error.GordanError.{GordanError}
use Rattle.gf_gordan.specs.declared.error.GordanError.TheVariants as cones
use Rattle.gf_duality_theory.specs.Faces.{Rows}
use Rattle.gf_fans_theory.specs.FaceLists.{numbered}
use Rattle.gf_rays.specs.Cones.{RowsAndRays}
use Rattle.gf_rays.specs.Faces.{AreFaces, IsPartBy}
use Rattle.gf_rays.specs.Reached.{IsRaysStep}
use Rattle.gf_rays.specs.Sums.{adding_steps}
use Rattle.gf_rays.specs.declared.faces.Face.{Face}
use Rattle.gf_saturation_theory.specs.Saturations.{HasOneTermMember}
use Rattle.gf_initial_monomials.specs.declared.error.InitialError.{InitialError}
use Rattle.gf_initial_monomials.specs.declared.error.InitialError.TheVariants.{Cone, Wide, Entry, Saturation, Memory}
use Rattle.gf_initial_monomials.specs.Outcomes.{AreFormsAt, HasMonomialAt, HasNoMonomialAt, TellsMonomial, PassesAt, FailsAt, vector_of}
use Rattle.gf_initial_monomials.specs.Refusals.{of_cone_refusal, of_vector_refusal, IsVectorRefusal, IsRefusedAtFace, IsConeRefusal}

-- ---- at a vector

pub told_of : (n : ℕ) (bs : List MarkedPolynomial) (v : List ℤ) (forms : List Terms) (yes : Bool) → AreFormsAt v bs forms →
    IsTrue yes ↔ HasOneTermMember n forms → TellsMonomial n bs v yes
told_of n bs v forms true a h = record { forms = forms; are_forms = a; member = h.0 (search rules) }
told_of n bs v forms false a h = record { forms = forms; are_forms = a; none = λ m. absurd (at (h.1 m)) }
  where
    at : IsTrue false → ⊥
    at t = search rules

-- ---- at a face

pub face_numbers : (c : RowsAndRays) (faces : List Face) (f : Face) → AreFaces c faces → Contains faces f → All (λ i. i < length c.rays) f.rays
face_numbers c faces f a k =
    let p = All-contains (λ (g : Face). (zero : List (List ℤ)) × (All (Contains c.inequalities) zero × IsPartBy c zero g)) faces f a.each k in
    p.1.1.listed.inside

pub fails_by : (n : ℕ) (bs : List MarkedPolynomial) (c : RowsAndRays) (f : Face) (v : List ℤ) (b : Bool) → c.ambient ≡ n → v ≡ vector_of c f → b ≡ true →
    TellsMonomial n bs v b → FailsAt bs c v f
fails_by n bs c f v b e q t h = (q, subst (λ m. HasMonomialAt m bs v) (sym e) (subst (TellsMonomial n bs v) t h))

pub passes_by : (n : ℕ) (bs : List MarkedPolynomial) (c : RowsAndRays) (f : Face) (v : List ℤ) (b : Bool) → c.ambient ≡ n → v ≡ vector_of c f → b ≡ false →
    TellsMonomial n bs v b → PassesAt bs c f
passes_by n bs c f v b e q t h =
    subst (λ (u : List ℤ). HasNoMonomialAt c.ambient bs u) q (subst (λ m. HasNoMonomialAt m bs v) (sym e) (subst (TellsMonomial n bs v) t h))

-- ---- what is refused

pub wide_refused : (bs : List MarkedPolynomial) (c : RowsAndRays) (pairs : ℕ) (f : Face) (e : VecError) →
    IfWide (λ w. IsFirstWide w (adding_steps (zeros c.ambient) (numbered c.rays f.rays))) e → IsRefusedAtFace bs c pairs (of_vector_refusal e) f
wide_refused bs c pairs f (vectors.Wide w) h = h
wide_refused bs c pairs f vectors.Memory h = tt

pub vector_refused : (n : ℕ) (bs : List MarkedPolynomial) (c : RowsAndRays) (pairs : ℕ) (f : Face) (v : List ℤ) (e : InitialError) → c.ambient ≡ n →
    v ≡ vector_of c f → IsVectorRefusal n bs v pairs e → IsRefusedAtFace bs c pairs e f
vector_refused n bs c pairs f v (Cone s) i q h = absurd h
vector_refused n bs c pairs f v (Wide w) i q h = absurd h
vector_refused n bs c pairs f v (Entry k x) i q h = subst (λ (u : List ℤ). IsVectorRefusal c.ambient bs u pairs (Entry k x)) q
    (subst (λ m. IsVectorRefusal m bs v pairs (Entry k x)) (sym i) h)
vector_refused n bs c pairs f v (Saturation r) i q h = subst (λ (u : List ℤ). IsVectorRefusal c.ambient bs u pairs (Saturation r)) q
    (subst (λ m. IsVectorRefusal m bs v pairs (Saturation r)) (sym i) h)
vector_refused n bs c pairs f v Memory i q h = tt

pub rays_refused : (n m : ℕ) (bs : List MarkedPolynomial) (rows : List (List ℤ)) (c : Rows) (pairs : ℕ) (all : List (List ℤ)) (e : GordanError) → m ≡ n →
    Failed (IsRaysStep m all c.equations) e → all ≡ c.inequalities ++ rows → IsConeRefusal n bs rows c pairs (of_cone_refusal e)
rays_refused n m bs rows c pairs all (cones.Cone s) e f q =
    IsConeRefusal.at_rays s (subst (λ (z : List (List ℤ)). IsRaysStep n z c.equations s) q (subst (λ k. IsRaysStep k all c.equations s) e f)) refl
rays_refused n m bs rows c pairs all cones.Memory e f q = IsConeRefusal.no_memory refl
