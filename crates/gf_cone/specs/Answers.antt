-- What the answers about a normal say, of the rows that a cone keeps and of the marked lists that it is the cone of.
-- The system of a normal has the other normals as rows, and the normal as the one equation; where a flip is asked for, the
-- rows of the region and the unit vectors are rows too. Laws: proofs/AnswerLaws.antt.
use Rattle.std.specs.Prelude.{◌≡◌, ℕ, ◌+◌, List, [], ◌∷◌, ℤ, length}
use Rattle.gf_poly.specs.Marking.{MarkedPolynomial}
use Rattle.gf_gordan.specs.declared.error.ConeOverflow.{ConeOverflow}
use Rattle.gf_gordan.specs.Alternative.{IsSolution}
use Rattle.gf_gordan.specs.Equations.{IsStepOn}
use Rattle.gf_facets_theory.specs.Combinations.{IsCombination}
use Rattle.gf_facets_theory.specs.Regions.{Region, IsInRegion}
use Rattle.gf_facets_theory.specs.Normals.{others_of}
use Rattle.gf_facets_theory.specs.Facets.{IsInsideFacet, IsFacet, IsFlippable}
use Rattle.gf_cone.specs.Cones.{ConeRows, normal_at, other_rows, IsConeOf}
use Rattle.gf_cone.specs.declared.answer.FacetAnswer.{FacetAnswer}
use Rattle.gf_cone.specs.declared.answer.FacetAnswer.TheVariants.{Facet, Redundant}
use Rattle.gf_cone.specs.declared.answer.FlipAnswer.{FlipAnswer}
use Rattle.gf_cone.specs.declared.answer.FlipAnswer.TheVariants.{Yes, No}

-- ---- by rows

-- a vector that is positive on the rows and zero on a, or a multiple of a as a combination of the rows
abbrev pub AnswersSystem : ℕ → List (List ℤ) → List ℤ → FlipAnswer → Type 0
AnswersSystem n rows a (Yes w) = IsSolution n rows (a ∷ []) w
AnswersSystem n rows a (No k ms) = IsCombination n rows a k ms

-- the same of the other normals and the rows beside them: the multipliers of the normals come first
abbrev pub AnswersFlip : ConeRows → ℕ → FlipAnswer → Type 0
AnswersFlip c i answer = AnswersSystem c.variables (other_rows c i) (normal_at c i) answer

-- the same of the other normals alone
abbrev pub AnswersFacet : ConeRows → ℕ → FacetAnswer → Type 0
AnswersFacet c i (Facet w) = IsSolution c.variables (others_of i c.normals) (normal_at c i ∷ []) w
AnswersFacet c i (Redundant k ms) = IsCombination c.variables (others_of i c.normals) (normal_at c i) k ms

-- ---- by the cone

-- w is in the region and inside the facet with normal a, or a flip may not cross it
abbrev pub TellsFlip : ℕ → Region → List MarkedPolynomial → List ℤ → FlipAnswer → Type 0
TellsFlip n k bs a (Yes w) = IsInRegion n k w × IsInsideFacet bs a w
TellsFlip n k bs a (No times ms) = IsFlippable n k bs a → ⊥

-- w is inside the facet with normal a, or there is no such facet
abbrev pub TellsFacet : ℕ → List MarkedPolynomial → List ℤ → FacetAnswer → Type 0
TellsFacet n bs a (Facet w) = (length w ≡ n) × IsInsideFacet bs a w
TellsFacet n bs a (Redundant times ms) = IsFacet n bs a → ⊥

-- so it is with each marked list of which c is the cone, in each region
abbrev pub IsFlipTold : ConeRows → ℕ → FlipAnswer → Type 0
IsFlipTold c i answer = (n : ℕ) (k : Region) (bs : List MarkedPolynomial) → IsConeOf n k bs c → TellsFlip n k bs (normal_at c i) answer

-- so it is in the region k, with each marked list of which c is the cone in some region
abbrev pub IsFlipToldIn : Region → ConeRows → ℕ → FlipAnswer → Type 0
IsFlipToldIn k c i answer = (n : ℕ) (j : Region) (bs : List MarkedPolynomial) → IsConeOf n j bs c → TellsFlip n k bs (normal_at c i) answer

-- the same of a facet
abbrev pub IsFacetAnswered : ConeRows → ℕ → FacetAnswer → Type 0
IsFacetAnswered c i answer = (n : ℕ) (k : Region) (bs : List MarkedPolynomial) → IsConeOf n k bs c → TellsFacet n bs (normal_at c i) answer

-- ---- refusals

-- a step of the system of these rows with a as the one equation
abbrev pub IsNormalStep : ℕ → List (List ℤ) → List ℤ → ConeOverflow → Type 0
IsNormalStep n rows a s = IsStepOn (length rows + 1) n rows (a ∷ []) s
