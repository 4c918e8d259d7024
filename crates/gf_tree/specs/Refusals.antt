-- Why a search over the bases of an ideal is refused, and when it stays within its limits. Laws: proofs/RefusalLaws.antt.
use Rattle.std.specs.Prelude.{◌≡◌, ℕ, ◌<◌, List, ℤ, length, Some}
use Rattle.gf_poly.specs.Marking.{MarkedPolynomials}
use Rattle.gf_gordan.specs.declared.error.ConeOverflow.{ConeOverflow}
use Rattle.gf_flip.specs.BasisError.{BasisError}
use Rattle.gf_facets_theory.specs.Facets.{IsFlippable}
use Rattle.gf_cone.specs.Cones.{ConeRows, normal_at, other_rows, IsConeOf}
use Rattle.gf_cone.specs.Answers.{IsNormalStep}
use Rattle.gf_flip.specs.Operations.{IsFlipRefusal, IsFlipWithinLimits}
use Rattle.gf_reverse_search.specs.Walk.{IsRefusedAbove}
use Rattle.gf_facets_theory.specs.Regions.{Region}
use Rattle.gf_reverse_theory.specs.Upward.{Fan, IsNodeIn, IsParent, fan_of}
use Rattle.gf_reverse_theory.specs.Answers.{IsAcross}
use Rattle.gf_flip.specs.declared.error.TreeError.{TreeError}
use Rattle.gf_flip.specs.declared.error.TreeError.TheVariants.{Cone, Memory}
use Rattle.gf_flip.specs.TreeErrors.{of_flip_error}

-- s is a step of the system that decides whether a flip may cross the facet of some normal of v, and it leaves its range
pub record IsConeStep (F : Fan) (v : MarkedPolynomials) (s : ConeOverflow) : Type 0 where
  pub cone : ConeRows
  pub is_cone : IsConeOf v.variables F.region v.items cone
  pub index : ℕ
  pub inside : index < length cone.normals
  pub step : IsNormalStep cone.variables (other_rows cone index) (normal_at cone index) s

-- why a search over the bases of F is refused, where each flip may settle this number of pairs: at some basis v of F a flip across a
-- flippable normal is refused, or a step of the system of a normal leaves its range; or memory runs out
pub data IsTreeRefusal (F : Fan) (pairs : ℕ) (e : TreeError) : Type 0 where
  flip : (v : MarkedPolynomials) (a : List ℤ) (r : BasisError) → IsNodeIn F v → IsFlippable v.variables F.region v.items a →
      IsFlipRefusal v.variables v.items a pairs r → e ≡ of_flip_error r → IsTreeRefusal F pairs e
  system : (v : MarkedPolynomials) (s : ConeOverflow) → IsNodeIn F v → IsConeStep F v s → e ≡ Cone s → IsTreeRefusal F pairs e
  memory : e ≡ Memory → IsTreeRefusal F pairs e

-- why a call at the basis v is refused, without other bases: a flip across a flippable normal of v is refused, or a step of the system of a
-- normal of v leaves its range; or memory runs out
pub data IsRefusedAtBasis (k : Region) (pairs : ℕ) (v : MarkedPolynomials) (e : TreeError) : Type 0 where
  flip : (a : List ℤ) (r : BasisError) → IsFlippable v.variables k v.items a → IsFlipRefusal v.variables v.items a pairs r → e ≡ of_flip_error r →
      IsRefusedAtBasis k pairs v e
  system : (s : ConeOverflow) → IsConeStep (fan_of k v) v s → e ≡ Cone s → IsRefusedAtBasis k pairs v e
  memory : e ≡ Memory → IsRefusedAtBasis k pairs v e

-- why the way up from v to the root is refused: a call is refused at a basis on the way, at v or at one above
abbrev pub IsWayRefused : Region → ℕ → MarkedPolynomials → TreeError → Type 0
IsWayRefused k pairs v e = IsRefusedAbove (IsParent k) (λ w r. IsRefusedAtBasis k pairs w r) v e

-- why a call of the tree at the basis v is refused: a call is refused at v, or at a basis across a facet of v; or memory runs out
pub data IsCallRefusal (k : Region) (pairs : ℕ) (v : MarkedPolynomials) (e : TreeError) : Type 0 where
  here : IsRefusedAtBasis k pairs v e → IsCallRefusal k pairs v e
  beside : (w : MarkedPolynomials) (b : List ℤ) → IsAcross k v b (Some w) → IsRefusedAtBasis k pairs w e → IsCallRefusal k pairs v e
  memory : e ≡ Memory → IsCallRefusal k pairs v e

-- no flip across a flippable normal of a basis of F leaves its limits, and no step of the systems of its normals leaves its range
pub record IsTreeWithinLimits (F : Fan) (pairs : ℕ) : Type 0 where
  pub flips : (v : MarkedPolynomials) (a : List ℤ) → IsNodeIn F v → IsFlippable v.variables F.region v.items a → IsFlipWithinLimits v.variables v.items a pairs
  pub systems : (v : MarkedPolynomials) (s : ConeOverflow) → IsNodeIn F v → IsConeStep F v s → ⊥
