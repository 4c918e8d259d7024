-- In at most three variables, the sums that are written of a fan whose cones are cut out by small rows stay in the range.
-- To cite: widened, same_itself, cone_rows_small, cut_sums_fit, writing_fits, written_fits. The rest are steps.
use Rattle.std.proofs.Common.{◌≡◌, ℕ, zero, suc, ◌*◌, ◌^◌, ◌<◌, ◌≤◌, List, length, ℤ, unsigned_abs, arith, sym, ap, subst, All, Contains}
use Rattle.std.proofs.Common.{get_or}
use Rattle.std.proofs.Math.Nat.{mul-le-mul_left}
use Rattle.std.proofs.lemmas.List.Elements.{All-contains, All-append, All-filter}
use Rattle.gf_int_theory.proofs.ListLaws.{all_by}
use Rattle.gf_vec.specs.Vector.{zeros}
use Rattle.gf_vec.specs.Steps.{IsFirstWide}
use Rattle.gf_vec.specs.declared.error.WideVector.{WideVector}
use Rattle.gf_gordan.specs.Alternative.{AreRows}
use Rattle.gf_gordan.specs.Sizes.{HaveEntriesUpTo}
use Rattle.gf_gordan.proofs.SizeLaws.{UpTo, up_zeros}
use Rattle.gf_duality_theory.specs.Rays.{IsRays}
use Rattle.gf_duality_theory.specs.Faces.{Rows, SameCone}
use Rattle.gf_duality_theory.proofs.Determined.{same_rays_of}
use Rattle.gf_fans_theory.specs.FaceLists.{numbered}
use Rattle.gf_rays.specs.Cones.{RowsAndRays, rows_of}
use Rattle.gf_rays.specs.Sums.{adding_steps}
use Rattle.gf_rays.specs.Limits.{IsSmallSystem}
use Rattle.gf_fan.specs.declared.cones.FanCone.{FanCone}
use Rattle.gf_fan.specs.FanLists.{FanLists}
use Rattle.gf_fan.specs.FansOfCones.{IsFanOf, IsFan, is_zero_on, vanishing_rows}
use Rattle.gf_fan.proofs.FanConeLaws.{own_rays}
use Rattle.gf_fan_files.specs.declared.parts.ListedCone.{ListedCone}
use Rattle.gf_fan_files.specs.FanTexts.{IsWritingStep}
use Rattle.gf_fan_files.proofs.WrittenFansLaws.{of_places}
use Rattle.gfan_theory.proofs.FewVectors.{boxes, few_vectors, no_wide_total}
use Rattle.gfan_theory.proofs.SmallRays.{rays_up}

-- ---- bounds

pub widened : (n b m : ℕ) (c : Rows) → b ≤ m → IsSmallSystem n b c → IsSmallSystem n m c
widened n b m c l s = record {
  inequalities_width = s.inequalities_width;
  equations_width = s.equations_width;
  inequalities = wider c.inequalities s.inequalities;
  equations = wider c.equations s.equations;
}
  where
    wider : (rows : List (List ℤ)) → HaveEntriesUpTo b rows → HaveEntriesUpTo m rows
    wider rows u = all_by (All (λ x. unsigned_abs x ≤ m)) rows (λ t c k d i.
        let p : unsigned_abs (get_or t k d) ≤ b = All-contains (All (λ x. unsigned_abs x ≤ b)) rows t u c k d i in omega (arith, p, l))

-- the sum of all vectors with entries up to 750000000, in at most three variables
pub room : (n : ℕ) → 1 ≤ n → n ≤ 3 → 750000000 * boxes 1500000001 n < 2 ^ 127
room zero h l = absurd (omega (arith, h))
room (suc zero) h l = omega arith
room (suc (suc zero)) h l = omega arith
room (suc (suc (suc zero))) h l = omega arith
room (suc (suc (suc (suc n)))) h l = absurd (omega (arith, l))

-- ---- the rays of one cone

-- adding up the rays of a cone that such rows cut out
pub cut_sums_fit : (n b : ℕ) (c : Rows) (lin rays : List (List ℤ)) (k : ℕ) (w : WideVector) → 1 ≤ n → n ≤ 3 → b ≤ 500 → IsSmallSystem n b c →
    IsRays n c.inequalities c.equations lin rays → IsFirstWide w (adding_steps (zeros k) rays) → ⊥
cut_sums_fit n b c lin rays k w h l small s is f =
    let up : (x : List ℤ) → Contains rays x → UpTo 750000000 x = rays_up n 500 c lin rays h l (widened n b 500 c small s) is in
    let few : length rays ≤ boxes 1500000001 n =
    few_vectors n 750000000 rays up (λ x i. All-contains (λ t. length t ≡ n) rays x is.rays_width i) is.ascending in
    let p : 750000000 * length rays ≤ 750000000 * boxes 1500000001 n = mul-le-mul_left 750000000 few in
    let q = room n h l in
    no_wide_total 0 750000000 (zeros k) rays w (up_zeros 0 k) up (omega (arith, p, q)) f

-- ---- fans

pub same_itself : (n : ℕ) (c : Rows) → SameCone n c c
same_itself n c v l = (λ x. x, λ x. x)

-- where each cone of a fan is cut out by such rows
pub writing_fits : (n b : ℕ) (f : FanLists) (w : WideVector) → 1 ≤ n → n ≤ 3 → b ≤ 500 → f.ambient ≡ n → IsFan f →
    ((k : FanCone) → Contains f.cones k → (c : Rows) × IsSmallSystem n b c × SameCone n (rows_of k.cone) c) → IsWritingStep f w → ⊥
writing_fits n b f w h l small e is cut step =
    let given = is.0 in
    let k = of_places f.cones f.maximal step.0 step.1.0 in
    let c = cut k.0 k.1.0 in
    let own : IsRays f.ambient k.0.cone.inequalities k.0.cone.equations f.lineality (numbered f.rays k.0.numbers) =
    own_rays f.ambient given f.lineality f.rays k.0 (is.1.cones.each k.0 k.1.0) in
    let same_numbers : k.0.numbers ≡ step.0.rays = ap (λ (x : ListedCone). x.rays) k.1.1 in
    cut_sums_fit n b c.0 f.lineality (numbered f.rays k.0.numbers) f.ambient w h l small c.1
    (same_rays_of n (rows_of k.0.cone) c.0 f.lineality (numbered f.rays k.0.numbers) c.2
    (subst (λ (m : ℕ). IsRays m k.0.cone.inequalities k.0.cone.equations f.lineality (numbered f.rays k.0.numbers)) e own))
    (subst (λ (ns : List ℕ). IsFirstWide w (adding_steps (zeros f.ambient) (numbered f.rays ns))) (sym same_numbers) step.1.1)

-- the rows of a cone of a fan are those of one of the cones that it is made of
pub cone_rows_small : (n b : ℕ) (given : List RowsAndRays) (f : FanLists) → IsFanOf n given f →
    ((c : RowsAndRays) → Contains given c → IsSmallSystem n b (rows_of c)) → (k : FanCone) → Contains f.cones k → IsSmallSystem n b (rows_of k.cone)
cone_rows_small n b given f is small k i =
    let o = is.cones.each k i in
    let s = small o.origin o.listed in
    let rays = numbered f.rays k.numbers in
    let wide = All-append (λ (t : List ℤ). length t ≡ n) o.origin.equations (vanishing_rows o.origin.inequalities rays) s.equations_width
    (All-filter (is_zero_on rays) (λ (t : List ℤ). length t ≡ n) o.origin.inequalities s.inequalities_width) in
    let up = All-append (All (λ x. unsigned_abs x ≤ b)) o.origin.equations (vanishing_rows o.origin.inequalities rays) s.equations
    (All-filter (is_zero_on rays) (All (λ x. unsigned_abs x ≤ b)) o.origin.inequalities s.inequalities) in
    record {
      inequalities_width = subst (AreRows n) (sym o.inequalities) s.inequalities_width;
      equations_width = subst (AreRows n) (sym o.equations) wide;
      inequalities = subst (HaveEntriesUpTo b) (sym o.inequalities) s.inequalities;
      equations = subst (HaveEntriesUpTo b) (sym o.equations) up;
    }

-- where the cones that a fan is made of have small rows
pub written_fits : (n b : ℕ) (given : List RowsAndRays) (f : FanLists) (w : WideVector) → 1 ≤ n → n ≤ 3 → b ≤ 500 → IsFanOf n given f →
    ((c : RowsAndRays) → Contains given c → IsSmallSystem n b (rows_of c)) → IsWritingStep f w → ⊥
written_fits n b given f w h l small is rows step =
    writing_fits n b f w h l small is.ambient (given, subst (λ (m : ℕ). IsFanOf m given f) (sym is.ambient) is)
    (λ k i. (rows_of k.cone, cone_rows_small n b given f is rows k i, same_itself n (rows_of k.cone))) step
