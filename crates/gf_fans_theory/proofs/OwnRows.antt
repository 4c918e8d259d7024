-- The inequalities that are zero on a face give it as they are.
use Rattle.std.proofs.Common.{◌≡◌, ℕ, List, ◌++◌, ℤ, subst, Contains}
use Rattle.gf_duality_theory.specs.Rays.{IsRays}
use Rattle.gf_duality_theory.specs.Faces.{Rows}
use Rattle.gf_duality_theory.proofs.Determined.{rays_determined}
use Rattle.gf_fans_theory.specs.FaceLists.{IsPartOn, AreZeroRows}
use Rattle.gf_fans_theory.proofs.FaceLaws.{part_on, face_rays}

-- the rays of a face are those on which its rows are zero
pub rays_part : (n : ℕ) (hs es lin rays zero some : List (List ℤ)) → IsRays n hs es lin rays → ((t : List ℤ) → Contains zero t → Contains hs t) →
    IsRays n hs (es ++ zero) lin some → IsPartOn zero rays some
rays_part n hs es lin rays zero some r sub s =
    let p = part_on zero rays r.ascending in
    let c : Rows = record { inequalities = hs; equations = es ++ zero } in
    let e : p.0 ≡ some = (rays_determined n c c lin p.0 lin some (λ x l. (λ i. i, λ i. i)) (face_rays n hs es lin rays zero p.0 r sub p.1) s).1 in
    subst (IsPartOn zero rays) e p.1

-- and those on which all inequalities are zero that are zero on it
pub zero_part : (n : ℕ) (hs es lin rays zero flat some : List (List ℤ)) → IsRays n hs es lin rays → ((t : List ℤ) → Contains zero t → Contains hs t) →
    IsRays n hs (es ++ zero) lin some → AreZeroRows hs some flat → IsPartOn flat rays some
zero_part n hs es lin rays zero flat some r sub s z =
    let p = rays_part n hs es lin rays zero some r sub s in record {
      ascending = p.ascending;
      each = λ x c. ((p.each x c).0, λ t k. (z.each t k).1 x c);
      every = λ x c f. p.every x c (λ t k. f t (z.every t (sub t k) (λ y j. (p.each y j).1 t k)));
    }

pub zero_rays : (n : ℕ) (hs es lin rays zero flat some : List (List ℤ)) → IsRays n hs es lin rays → ((t : List ℤ) → Contains zero t → Contains hs t) →
    IsRays n hs (es ++ zero) lin some → AreZeroRows hs some flat → IsRays n hs (es ++ flat) lin some
zero_rays n hs es lin rays zero flat some r sub s z = face_rays n hs es lin rays flat some r (λ t k. (z.each t k).0)
    (zero_part n hs es lin rays zero flat some r sub s z)
