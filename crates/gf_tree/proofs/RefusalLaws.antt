-- Refusals of a search: of its steps, seen from another basis of the same ideal, and where it stays within its limits.
-- To cite: flip_refused, cone_refused, flip_at, cone_at, index_at, refusal_moved, limits_moved, refusal_beside, call_refused, refusal_above, refusal_over,
-- refused_on_way,
-- no_memory_on_way, way_refused, way_only, within_memory, only_memory,
-- only_memory_back.
use Rattle.std.proofs.Common.{◌≡◌, ℕ, ◌<◌, ◌≤◌, List, [], ℤ, length, Result, Ok, Err, IfErr, arith, refl, sym, ap, ◌∙◌, subst}
use Rattle.gf_poly.specs.Marking.{MarkedPolynomials}
use Rattle.gf_gordan.specs.declared.error.GordanError.{GordanError}
use Rattle.gf_gordan.specs.declared.error.GordanError.TheVariants as cones
use Rattle.gf_gordan.specs.Steps.{Failed}
use Rattle.gf_flip.specs.BasisError.{BasisError}
use Rattle.gf_facets_theory.specs.Regions.{Region}
use Rattle.gf_facets_theory.specs.Facets.{IsFlippable}
use Rattle.gf_cone.specs.Cones.{ConeRows, normal_at, other_rows, IsConeOf}
use Rattle.gf_cone.specs.Answers.{IsNormalStep}
use Rattle.gf_known_cone.specs.Ways.{IsStepBefore}
use Rattle.gf_flip.specs.Operations.{IsFlipRefusal}
use Rattle.gf_flip.proofs.RefusalSteps.{flip_refusal_within}
use Rattle.gf_reverse_search.specs.Path.{Leads}
use Rattle.gf_reverse_search.specs.Walk.{IsRefused, IsRefusedAbove}
use Rattle.gf_reverse_theory.specs.Upward.{Fan, IsNodeIn, IsNode, IsParent, fan_of}
use Rattle.gf_reverse_theory.proofs.TreeLaws.{SameFan, own_fan, back_fan, node_moved}
use Rattle.gf_reverse_theory.proofs.ListLaws.{root_above, root_own}
use Rattle.gf_tree.proofs.LabelLaws.{across_in}
use Rattle.gf_flip.specs.declared.error.TreeError.{TreeError}
use Rattle.gf_flip.specs.declared.error.TreeError.TheVariants.{Memory}
use Rattle.gf_flip.specs.TreeErrors.{of_flip_error, of_cone_error}
use Rattle.gf_tree.specs.Refusals.{IsTreeRefusal, IsRefusedAtBasis, IsWayRefused, IsCallRefusal, IsTreeWithinLimits}

-- ---- steps

pub flip_refused : (k : Region) (pairs : ℕ) (v : MarkedPolynomials) (a : List ℤ) (r : BasisError) (e : TreeError) → IsNode k v →
    IsFlippable v.variables k v.items a → IsFlipRefusal v.variables v.items a pairs r → e ≡ of_flip_error r → IsTreeRefusal (fan_of k v) pairs e
flip_refused k pairs v a r e h f c q = IsTreeRefusal.flip v a r h f c q

-- a step of the system of one of the first normals
pub cone_refused : (k : Region) (pairs : ℕ) (v : MarkedPolynomials) (c : ConeRows) (m : ℕ) (r : GordanError) (e : TreeError) → IsNode k v →
    IsConeOf v.variables k v.items c → m ≤ length c.normals → Failed (IsStepBefore c m) r → e ≡ of_cone_error r → IsTreeRefusal (fan_of k v) pairs e
cone_refused k pairs v c m (cones.Cone s) e h is l f q =
    IsTreeRefusal.system v s h (record { cone = c; is_cone = is; index = f.0; inside = omega (arith, l, f.1); step = f.2 }) q
cone_refused k pairs v c m cones.Memory e h is l f q = IsTreeRefusal.memory q

-- ---- calls at one basis

pub flip_at : (k : Region) (pairs : ℕ) (v : MarkedPolynomials) (a : List ℤ) (r : BasisError) (e : TreeError) → IsFlippable v.variables k v.items a →
    IsFlipRefusal v.variables v.items a pairs r → e ≡ of_flip_error r → IsRefusedAtBasis k pairs v e
flip_at k pairs v a r e f c q = IsRefusedAtBasis.flip a r f c q

pub cone_at : (k : Region) (pairs : ℕ) (v : MarkedPolynomials) (c : ConeRows) (m : ℕ) (r : GordanError) (e : TreeError) → IsConeOf v.variables k v.items c →
    m ≤ length c.normals → Failed (IsStepBefore c m) r → e ≡ of_cone_error r → IsRefusedAtBasis k pairs v e
cone_at k pairs v c m (cones.Cone s) e is l f q =
    IsRefusedAtBasis.system s (record { cone = c; is_cone = is; index = f.0; inside = omega (arith, l, f.1); step = f.2 }) q
cone_at k pairs v c m cones.Memory e is l f q = IsRefusedAtBasis.memory q

pub index_at : (k : Region) (pairs : ℕ) (v : MarkedPolynomials) (c : ConeRows) (i : ℕ) (r : GordanError) (e : TreeError) → IsConeOf v.variables k v.items c →
    i < length c.normals → Failed (IsNormalStep c.variables (other_rows c i) (normal_at c i)) r → e ≡ of_cone_error r → IsRefusedAtBasis k pairs v e
index_at k pairs v c i (cones.Cone s) e is l f q = IsRefusedAtBasis.system s (record { cone = c; is_cone = is; index = i; inside = l; step = f }) q
index_at k pairs v c i cones.Memory e is l f q = IsRefusedAtBasis.memory q

-- a refusal at a basis is one of a search over the bases of its ideal
at_refused : (k : Region) (pairs : ℕ) (v : MarkedPolynomials) (e : TreeError) → IsNode k v → IsRefusedAtBasis k pairs v e → IsTreeRefusal (fan_of k v) pairs e
at_refused k pairs v e h (IsRefusedAtBasis.flip a r f c q) = IsTreeRefusal.flip v a r h f c q
at_refused k pairs v e h (IsRefusedAtBasis.system s t q) = IsTreeRefusal.system v s h t q
at_refused k pairs v e h (IsRefusedAtBasis.memory q) = IsTreeRefusal.memory q

-- ---- the same ideal by other generators

pub refusal_moved : (F G : Fan) (pairs : ℕ) (e : TreeError) → SameFan F G → IsTreeRefusal F pairs e → IsTreeRefusal G pairs e
refusal_moved F G pairs e s (IsTreeRefusal.flip v a r h f c q) =
    IsTreeRefusal.flip v a r (node_moved F G v s h) (subst (λ (k : Region). IsFlippable v.variables k v.items a) s.region f) c q
refusal_moved F G pairs e s (IsTreeRefusal.system v o h t q) =
    IsTreeRefusal.system v o (node_moved F G v s h) (record {
      cone = t.cone;
      is_cone = subst (λ (k : Region). IsConeOf v.variables k v.items t.cone) s.region t.is_cone;
      index = t.index;
      inside = t.inside;
      step = t.step;
    }) q
refusal_moved F G pairs e s (IsTreeRefusal.memory q) = IsTreeRefusal.memory q

pub limits_moved : (F G : Fan) (pairs : ℕ) → SameFan F G → IsTreeWithinLimits F pairs → IsTreeWithinLimits G pairs
limits_moved F G pairs s w = record {
  flips = λ v a h f. w.flips v a (node_moved G F v (back_fan F G s) h) (subst (λ (k : Region). IsFlippable v.variables k v.items a) (sym s.region) f);
  systems = λ v o h t. w.systems v o (node_moved G F v (back_fan F G s) h)
      (record {
        cone = t.cone;
        is_cone = subst (λ (k : Region). IsConeOf v.variables k v.items t.cone) (sym s.region) t.is_cone;
        index = t.index;
        inside = t.inside;
        step = t.step;
      });
}

-- a refusal at another basis of the ideal
pub refusal_beside : (k : Region) (pairs : ℕ) (v w : MarkedPolynomials) (e : TreeError) → IsNodeIn (fan_of k v) w → IsTreeRefusal (fan_of k w) pairs e →
    IsTreeRefusal (fan_of k v) pairs e
refusal_beside k pairs v w e h r = refusal_moved (fan_of k w) (fan_of k v) pairs e (back_fan (fan_of k v) (fan_of k w) (own_fan (fan_of k v) w h)) r

-- a refusal of a call at a basis
pub call_refused : (k : Region) (pairs : ℕ) (v : MarkedPolynomials) (e : TreeError) → IsNode k v → IsCallRefusal k pairs v e →
    IsTreeRefusal (fan_of k v) pairs e
call_refused k pairs v e h (IsCallRefusal.here r) = at_refused k pairs v e h r
call_refused k pairs v e h (IsCallRefusal.beside w b a r) =
    let m = across_in k v w b h a in
    refusal_beside k pairs v w e m (at_refused k pairs w e (root_own k v w h m) r)
call_refused k pairs v e h (IsCallRefusal.memory q) = IsTreeRefusal.memory q

-- a refusal at a basis above
pub refusal_above : (k : Region) (pairs : ℕ) (v : MarkedPolynomials) (most : ℕ) (e : TreeError) → IsNode k v →
    IsRefused (IsParent k) (λ w r. IsCallRefusal k pairs w r) v most e → IsTreeRefusal (fan_of k v) pairs e
refusal_above k pairs v most e h r =
    let m = root_above k v r.node r.path h r.leads in
    refusal_beside k pairs v r.node e m (call_refused k pairs r.node e (root_own k v r.node h m) r.refused)

pub refusal_over : (k : Region) (pairs : ℕ) (v : MarkedPolynomials) (e : TreeError) → IsNode k v →
    IsRefusedAbove (IsParent k) (λ w r. IsCallRefusal k pairs w r) v e → IsTreeRefusal (fan_of k v) pairs e
refusal_over k pairs v e h r = refusal_above k pairs v r.0 e h r.1

-- a refusal at a basis to which the way up from v leads
pub refused_on_way : (k : Region) (pairs : ℕ) (v u : MarkedPolynomials) (p : List (List ℤ)) (e : TreeError) → Leads (IsParent k) u p v →
    IsRefusedAtBasis k pairs u e → IsWayRefused k pairs v e
refused_on_way k pairs v u p e l r = (length p, record { node = u; path = p; leads = l; near = omega arith; refused = r })

-- want of memory is one at v itself
pub no_memory_on_way : (k : Region) (pairs : ℕ) (v : MarkedPolynomials) (e : TreeError) → e ≡ Memory → IsWayRefused k pairs v e
no_memory_on_way k pairs v e q = refused_on_way k pairs v v [] e refl (IsRefusedAtBasis.memory q)

-- one on the way up is one of a search
pub way_refused : (k : Region) (pairs : ℕ) (v : MarkedPolynomials) (e : TreeError) → IsNode k v → IsWayRefused k pairs v e → IsTreeRefusal (fan_of k v) pairs e
way_refused k pairs v e h r =
    let m = root_above k v r.1.node r.1.path h r.1.leads in
    refusal_beside k pairs v r.1.node e m (at_refused k pairs r.1.node e (root_own k v r.1.node h m) r.1.refused)

pub way_only : {A : Type 0} (k : Region) (pairs : ℕ) (v : MarkedPolynomials) (r : Result A TreeError) → IsNode k v → IfErr r (IsWayRefused k pairs v) →
    IfErr r (IsTreeRefusal (fan_of k v) pairs)
way_only k pairs v (Ok a) h w = w
way_only k pairs v (Err e) h w = way_refused k pairs v e h w

-- ---- where nothing leaves its limits, only memory may be wanting

pub within_memory : (F : Fan) (pairs : ℕ) (e : TreeError) → IsTreeWithinLimits F pairs → IsTreeRefusal F pairs e → e ≡ Memory
within_memory F pairs e w (IsTreeRefusal.flip v a r h f c q) = q ∙ ap of_flip_error (flip_refusal_within v.variables v.items a pairs r (w.flips v a h f) c)
within_memory F pairs e w (IsTreeRefusal.system v o h t q) = absurd (w.systems v o h t)
within_memory F pairs e w (IsTreeRefusal.memory q) = q

pub only_memory : {A : Type 0} (F : Fan) (pairs : ℕ) (r : Result A TreeError) → IfErr r (IsTreeRefusal F pairs) → IsTreeWithinLimits F pairs →
    IfErr r (λ e. e ≡ Memory)
only_memory F pairs (Ok a) c w = c
only_memory F pairs (Err e) c w = within_memory F pairs e w c

pub only_memory_back : {A W : Type 0} (F : Fan) (pairs : ℕ) (r : Result A (W × TreeError)) → IfErr r (λ p. IsTreeRefusal F pairs p.1) →
    IsTreeWithinLimits F pairs → IfErr r (λ p. p.1 ≡ Memory)
only_memory_back F pairs (Ok a) c w = c
only_memory_back F pairs (Err e) c w = within_memory F pairs e.1 w c
