-- What a refusal of the rays, or of a sum of them, says of a marked list.
use Rattle.std.specs.Prelude.{Result, Ok, Err, IfErr}
use Rattle.std.proofs.Common.{◌≡◌, ℕ, List, [], ℤ, ◌∙◌, subst, inl, inr}
use Rattle.gf_vec.specs.Vector.{zeros}
use Rattle.gf_vec.specs.Steps.{IsFirstWide, IfWide}
use Rattle.gf_vec.specs.declared.error.VecError.{VecError}
use Rattle.gf_vec.specs.declared.error.VecError.TheVariants as vec_errors
use Rattle.gf_gordan.specs.Steps.{Failed}
use Rattle.gf_gordan.specs.declared.error.GordanError.{GordanError}
use Rattle.gf_gordan.specs.declared.error.GordanError.TheVariants as gordan_errors
use Rattle.gf_poly.specs.Marking.{MarkedPolynomial}
use Rattle.gf_rays.specs.Reached.{IsRaysStep}
use Rattle.gf_rays.specs.Cones.{RowsAndRays}
use Rattle.gf_rays.specs.Sums.{adding_steps}
use Rattle.gf_rays.specs.Parts.{zeros_of}
use Rattle.gf_facets_theory.specs.Regions.{Region}
use Rattle.gf_facets_theory.specs.Facets.{IsFlippable}
use Rattle.gf_cone.specs.Cones.{ConeRows, all_rows, IsConeOf}
use Rattle.gf_weights.specs.declared.error.WeightError.{WeightError}
use Rattle.gf_weights.specs.declared.error.WeightError.TheVariants.{Cone, Wide, Memory}
use Rattle.gf_weights.specs.Cuts.{IsCutOf}
use Rattle.gf_weights.specs.Refusals.{weight_of_gordan, of_vector, IsWeightCauseIn, IsCertificateCauseIn}
use Rattle.gf_weights.proofs.CutLaws.{cut_rows, cut_rays, ambient_is}

-- the rays of the cone aren't found
pub cut_refused : (n m : ℕ) (j : Region) (bs : List MarkedPolynomial) (c : ConeRows) (given : List (List ℤ)) (none : List (List ℤ)) (e : GordanError) →
    IsConeOf n j bs c → m ≡ c.variables → given ≡ all_rows c → none ≡ [] → Failed (IsRaysStep m given none) e → IsWeightCauseIn n j bs (weight_of_gordan e)
cut_refused n m j bs c given none (gordan_errors.Cone s) k em eg en f =
    let a = subst (λ (z : ℕ). IsRaysStep z given none s) (em ∙ k.variables) f in
    let b = subst (λ (z : List (List ℤ)). IsRaysStep n z none s) eg a in
    (all_rows c, cut_rows n j bs c k, subst (λ (z : List (List ℤ)). IsRaysStep n (all_rows c) z s) en b)
cut_refused n m j bs c given none gordan_errors.Memory k em eg en f = tt

-- what isn't told for the weight isn't for all
pub weight_first : (n : ℕ) (j : Region) (bs : List MarkedPolynomial) (e : WeightError) → IsWeightCauseIn n j bs e → IsCertificateCauseIn n j bs e
weight_first n j bs (Cone s) h = h
weight_first n j bs (Wide w) h = inl h
weight_first n j bs Memory h = tt

-- the sum of the rays isn't told
pub weight_refused : (n : ℕ) (j : Region) (bs : List MarkedPolynomial) (c : ConeRows) (r : RowsAndRays) (e : VecError) → IsCutOf n j bs c r →
    IfWide (λ w. IsFirstWide w (adding_steps (zeros r.ambient) r.rays)) e → IsWeightCauseIn n j bs (of_vector e)
weight_refused n j bs c r (vec_errors.Wide w) k h =
    (r.rays, cut_rays n j bs c r k, subst (λ (m : ℕ). IsFirstWide w (adding_steps (zeros m) r.rays)) (ambient_is n j bs c r k) h)
weight_refused n j bs c r vec_errors.Memory k h = tt

-- nor that of a facet's
pub witness_refused : (n : ℕ) (j : Region) (bs : List MarkedPolynomial) (c : ConeRows) (r : RowsAndRays) (a : List ℤ) (e : VecError) → IsCutOf n j bs c r →
    IsFlippable n j bs a → IfWide (λ w. IsFirstWide w (adding_steps (zeros r.ambient) (zeros_of a r.rays))) e → IsCertificateCauseIn n j bs (of_vector e)
witness_refused n j bs c r a (vec_errors.Wide w) k f h =
    inr (a, f, (r.rays, cut_rays n j bs c r k, subst (λ (m : ℕ). IsFirstWide w (adding_steps (zeros m) (zeros_of a r.rays))) (ambient_is n j bs c r k) h))
witness_refused n j bs c r a vec_errors.Memory k f h = tt

-- where nothing leaves the range, only memory may be wanting
pub only_memory : {A : Type 0} (C : WeightError → Type 0) (r : Result A WeightError) → IfErr r C → ((e : WeightError) → C e → e ≡ Memory) →
    IfErr r (λ e. e ≡ Memory)
only_memory C (Ok a) h w = h
only_memory C (Err e) h w = w e h
