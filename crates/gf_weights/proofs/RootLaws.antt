-- The region of weights that rows cut out: its root is in it; why there is none.
-- To cite: closed_wide, system_refused, solved_by, refuted_by, sum_is, rays_refused, sum_refused, root_long, root_inside, root_small, refused_sum,
-- region_is, only_memory_left. The rest are steps.
use Rattle.std.proofs.Common.{◌≡◌, ℕ, ◌+◌, ◌<◌, ◌^◌, List, [], ◌∷◌, ◌++◌, length, ℤ, pos, ◌<ℤ◌, arith, refl, sym, ap, ◌∙◌, subst, unsigned_abs, Contains, All}
use Rattle.std.proofs.Common.{Result, Ok, Err, IfErr, inl, inr}
use Rattle.std.proofs.lemmas.Int.{ints}
use Rattle.std.proofs.lemmas.List.Elements.{All-contains, Contains-append_left, Contains-append_right, Contains-append_cases}
use Rattle.gf_int_theory.proofs.ListLaws.{all_by}
use Rattle.gf_vec.specs.Vector.{dot, zeros}
use Rattle.gf_vec.specs.Steps.{IsFirstWide, IfWide}
use Rattle.gf_vec.specs.declared.error.VecError.{VecError}
use Rattle.gf_vec.specs.declared.error.VecError.TheVariants as vec_errors
use Rattle.gf_gordan.specs.Alternative.{AreRows, IsSolvable, IsFarkas}
use Rattle.gf_gordan.specs.Answers.{IsAlternative}
use Rattle.gf_gordan.specs.Equations.{IsStepOn}
use Rattle.gf_gordan.specs.Steps.{Failed}
use Rattle.gf_gordan.specs.declared.answer.Answer.{Answer}
use Rattle.gf_gordan.specs.declared.answer.Answer.TheVariants.{Point, Farkas}
use Rattle.gf_gordan.specs.declared.error.GordanError.{GordanError}
use Rattle.gf_gordan.specs.declared.error.GordanError.TheVariants as gordan_errors
use Rattle.gf_duality_theory.specs.Rays.{IsRays}
use Rattle.gf_duality_theory.specs.Faces.{sum_of}
use Rattle.gf_duality_theory.proofs.RaySums.{sum_long}
use Rattle.gf_duality_theory.proofs.Determined.{described_of}
use Rattle.gf_duality_theory.proofs.Sums.{sum_positive}
use Rattle.gf_rays.specs.Reached.{IsRaysStep}
use Rattle.gf_rays.specs.Cones.{RowsAndRays}
use Rattle.gf_rays.specs.Sums.{adding_steps}
use Rattle.gf_facets_theory.specs.Systems.{units}
use Rattle.gf_facets_theory.specs.Regions.{Region, IsRegion}
use Rattle.gf_facets_theory.proofs.UnitLaws.{units_wide, positive_by_units}
use Rattle.gf_weights.specs.declared.error.WeightError.{WeightError}
use Rattle.gf_weights.specs.declared.error.WeightError.TheVariants as weight_errors
use Rattle.gf_weights.specs.declared.region.RegionError.{RegionError}
use Rattle.gf_weights.specs.declared.region.RegionError.TheVariants as region_errors
use Rattle.gf_weights.specs.Refusals.{weight_of_gordan, of_vector}
use Rattle.gf_weights.specs.Roots.{IsSumOfRays, IsRegionOf, IsSystemRefusal, IsRaySumRefusal, region_of_weight, IsRegionRefusal}
use Rattle.gf_weights.proofs.CutLaws.{pointed}

-- the rows of the closed region have n entries
pub closed_wide : (n : ℕ) (rows all : List (List ℤ)) → all ≡ rows ++ units n n → AreRows n rows → AreRows n all
closed_wide n rows all e w =
    subst (AreRows n) (sym e) (all_by (λ t. length t ≡ n) (rows ++ units n n) (λ t m. elim (Contains-append_cases rows (units n n) t m) [
      | inl h ↦ All-contains (λ z. length z ≡ n) rows t w h
      | inr h ↦ units_wide n n t h
    ]))

-- ---- the system

pub system_refused : (n : ℕ) (all : List (List ℤ)) (e : GordanError) → Failed (IsStepOn (length all + 0) n all []) e →
    IsSystemRefusal n all (weight_of_gordan e)
system_refused n all (gordan_errors.Cone s) h = h
system_refused n all gordan_errors.Memory h = tt

pub solved_by : (n : ℕ) (all : List (List ℤ)) (a : Answer) (v : List ℤ) → a ≡ Point v → IsAlternative n all [] a → IsSolvable n all []
solved_by n all a v e h = (v, subst (IsAlternative n all []) e h)

no_multipliers : (es : List ℤ) → length es ≡ 0 → es ≡ []
no_multipliers [] e = refl
no_multipliers (x ∷ es) e = absurd (omega (arith, e))

pub refuted_by : (n : ℕ) (all : List (List ℤ)) (a : Answer) (ms es : List ℤ) → a ≡ Farkas ms es → IsAlternative n all [] a → IsFarkas n all [] ms []
refuted_by n all a ms es e h =
    let f : IsFarkas n all [] ms es = subst (IsAlternative n all []) e h in
    subst (IsFarkas n all [] ms) (no_multipliers es f.equations_len) f

-- ---- the sum of the rays

-- the cone of the closed region is pointed
no_lines : (n : ℕ) (rows all lin rays : List (List ℤ)) → all ≡ rows ++ units n n → IsRays n all [] lin rays → IsRays n all [] [] rays
no_lines n rows all lin rays e h =
    subst (λ (z : List (List ℤ)). IsRays n all [] z rays) (pointed n rows lin rays (subst (λ (z : List (List ℤ)). IsRays n z [] lin rays) e h)) h

pub sum_is : (n : ℕ) (all none : List (List ℤ)) (c : RowsAndRays) (r : List ℤ) → ((rows : List (List ℤ)) × (all ≡ rows ++ units n n)) → none ≡ [] →
    c.ambient ≡ n → IsRays n all none c.lineality c.rays → r ≡ sum_of c.ambient c.rays → IsSumOfRays n all r
sum_is n all none c r p z a h s = record {
  rays = c.rays;
  are_rays = no_lines n p.0 all c.lineality c.rays p.1 (subst (λ (y : List (List ℤ)). IsRays n all y c.lineality c.rays) z h);
  sum = s ∙ ap (λ (m : ℕ). sum_of m c.rays) a;
}

pub rays_refused : (n : ℕ) (all none : List (List ℤ)) (e : GordanError) → none ≡ [] → Failed (IsRaysStep n all none) e →
    IsRaySumRefusal n all (weight_of_gordan e)
rays_refused n all none (gordan_errors.Cone s) z h = subst (λ (y : List (List ℤ)). IsRaysStep n all y s) z h
rays_refused n all none gordan_errors.Memory z h = tt

pub sum_refused : (n : ℕ) (all none : List (List ℤ)) (c : RowsAndRays) (e : VecError) → ((rows : List (List ℤ)) × (all ≡ rows ++ units n n)) → none ≡ [] →
    c.ambient ≡ n → IsRays n all none c.lineality c.rays → IfWide (λ w. IsFirstWide w (adding_steps (zeros c.ambient) c.rays)) e →
    IsRaySumRefusal n all (of_vector e)
sum_refused n all none c (vec_errors.Wide w) p z a h f = (
  c.rays,
  no_lines n p.0 all c.lineality c.rays p.1 (subst (λ (y : List (List ℤ)). IsRays n all y c.lineality c.rays) z h),
  subst (λ (m : ℕ). IsFirstWide w (adding_steps (zeros m) c.rays)) a f,
)
sum_refused n all none c vec_errors.Memory p z a h f = tt

-- ---- the root

pub root_long : (n : ℕ) (all : List (List ℤ)) (r : List ℤ) → IsSumOfRays n all r → length r ≡ n
root_long n all r p = ap length p.sum ∙ sum_long n p.rays (described_of n all [] [] p.rays p.are_rays).rays_width

-- it is in the region
pub root_inside : (n : ℕ) (rows all : List (List ℤ)) (r : List ℤ) → all ≡ rows ++ units n n → AreRows n rows → IsSolvable n all [] → IsSumOfRays n all r →
    IsRegion n (record { rows = rows; root = r })
root_inside n rows all r e w s p =
    let above : (t : List ℤ) → Contains all t → pos 0 <ℤ dot t s.0 = λ t c. All-contains (λ (k : List ℤ). pos 0 <ℤ dot k s.0) all t s.1.positive c in
    let up : (t : List ℤ) → Contains all t → pos 0 <ℤ dot t r =
    λ t c. subst (λ (z : List ℤ). pos 0 <ℤ dot t z) (sym p.sum) (sum_positive n all [] p.rays s.0 t p.are_rays s.1.width above c) in
    let wide : length r ≡ n = ap length p.sum ∙ sum_long n p.rays (described_of n all [] [] p.rays p.are_rays).rays_width in
    record {
      widths = w;
      root = record {
        width = wide;
        positive = positive_by_units n r wide (λ t c. up t (subst (λ (z : List (List ℤ)). Contains z t) (sym e) (Contains-append_right rows (units n n) t c)));
        rows = all_by (λ c. pos 0 <ℤ dot c r) rows (λ t c. up t (subst (λ (z : List (List ℤ)). Contains z t) (sym e)
            (Contains-append_left rows (units n n) t c)));
      };
    }

-- and its entries are positive
pub root_small : (n : ℕ) (k : Region) → IsRegion n k → All (λ x. x <ℤ pos (2 ^ 63)) k.root → All (λ x. unsigned_abs x < 2 ^ 63) k.root
root_small n k g h i d m = (let p = g.root.positive i d m in let q = h i d m in omega (arith, ints, p, q))

pub region_is : (n : ℕ) (rows all : List (List ℤ)) (r : List ℤ) (k : Region) → all ≡ rows ++ units n n → AreRows n rows → IsSolvable n all [] →
    IsSumOfRays n all r → All (λ x. x <ℤ pos (2 ^ 63)) r → k ≡ record { rows = rows; root = r } → IsRegionOf n rows k
region_is n rows all r k e w s p l q = subst (IsRegionOf n rows) (sym q) (record {
  same = refl;
  region = root_inside n rows all r e w s p;
  root = subst (λ (z : List (List ℤ)). IsSumOfRays n z r) e p;
  small = l;
})

-- ---- refusals of a region

pub refused_sum : (n : ℕ) (rows all : List (List ℤ)) (e : WeightError) → all ≡ rows ++ units n n → IsSolvable n all [] → IsRaySumRefusal n all e →
    IsRegionRefusal n rows (region_of_weight e)
refused_sum n rows all (weight_errors.Cone s) q v h =
    inr (subst (λ (z : List (List ℤ)). IsSolvable n z []) q v, subst (λ (z : List (List ℤ)). IsRaySumRefusal n z (weight_errors.Cone s)) q h)
refused_sum n rows all (weight_errors.Wide w) q v h =
    (subst (λ (z : List (List ℤ)). IsSolvable n z []) q v, subst (λ (z : List (List ℤ)). IsRaySumRefusal n z (weight_errors.Wide w)) q h)
refused_sum n rows all weight_errors.Memory q v h = tt

-- where nothing leaves its limits, only memory may be wanting
pub only_memory_left : (n : ℕ) (rows : List (List ℤ)) (r : Result Region RegionError) → IfErr r (IsRegionRefusal n rows) →
    ((e : RegionError) → IsRegionRefusal n rows e → e ≡ region_errors.Memory) → IfErr r (λ e. e ≡ region_errors.Memory)
only_memory_left n rows (Ok k) h w = h
only_memory_left n rows (Err e) h w = w e h
