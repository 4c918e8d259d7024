-- Positive weights that give a marking, multipliers which show that there is none, and when a marked set is a Gröbner basis for its
-- marking: by the ideal that it generates, for any nonzero marked coefficients.
-- Laws: proofs/WeightLaws.antt, proofs/GroebnerLaws.antt.
-- Source: Fukuda, Jensen, Thomas, Computing Gröbner fans, 2; Sturmfels, Gröbner Bases and Convex Polytopes, 2 and 3.
use Rattle.std.specs.Prelude.{◌≡◌, ℕ, List, [], ◌++◌, ℤ, pos, ◌<ℤ◌, length, All, Contains}
use Rattle.gf_exponents_theory.specs.Exponents.{Exponents}
use Rattle.gf_poly.specs.Polynomial.{Terms}
use Rattle.gf_poly.specs.Marking.{MarkedPolynomial, MarkedPolynomials, polys}
use Rattle.gf_gordan.specs.declared.answer.Answer.{Answer}
use Rattle.gf_gordan.specs.declared.answer.Answer.TheVariants.{Point, Farkas}
use Rattle.gf_gordan.specs.declared.error.ConeOverflow.{ConeOverflow}
use Rattle.gf_gordan.specs.Alternative.{IsFarkas}
use Rattle.gf_gordan.specs.Equations.{IsStepOn}
use Rattle.gf_ideal_theory.specs.Membership.{IsMember, AreSameIdeal}
use Rattle.gf_ideal_theory.specs.Marks.{IsPositive, IsRealisedBy, IsRealisable}
use Rattle.gf_ideal_theory.specs.Reduction.{IsDivisible}
use Rattle.gf_ideal_theory.specs.Bases.{IsHeaviest, IsBasis}
use Rattle.gf_facets_theory.specs.Rows.{rows_of_polynomials}
use Rattle.gf_facets_theory.specs.Systems.{units, system_of}
use Rattle.gf_facets_theory.specs.Regions.{Region, IsInRegion}
use Rattle.gf_facets_theory.specs.Facets.{IsInOpenCone}
use Rattle.gf_facets_theory.specs.MarkedBases.{IsMarkedReducedBasis}

-- ---- weights

-- v is a positive vector of n entries by which each mark weighs more than the other monomials of its polynomial
pub record GivesMarks (n : ℕ) (bs : List MarkedPolynomial) (v : List ℤ) : Type 0 where
  pub width : length v ≡ n
  pub positive : All (λ x. pos 0 <ℤ x) v
  pub marks : IsInOpenCone v bs

-- no positive weight gives the marks, and these multipliers of the marking's rows and the unit vectors show it
pub record IsInconsistent (n : ℕ) (bs : List MarkedPolynomial) (ms : List ℤ) : Type 0 where
  pub multipliers : IsFarkas n (system_of n bs) [] ms []
  pub none : IsRealisable n bs → ⊥

-- a point is a vector that gives the marks; multipliers show that there is none
abbrev pub IsWeightAnswer : ℕ → List MarkedPolynomial → Answer → Type 0
IsWeightAnswer n bs (Point v) = GivesMarks n bs v × IsRealisable n bs
IsWeightAnswer n bs (Farkas ms es) = IsInconsistent n bs ms

-- o is a step of the elimination of the marking's system, and it leaves its range
abbrev pub IsMarkingStep : ℕ → List MarkedPolynomial → ConeOverflow → Type 0
IsMarkingStep n bs o = IsStepOn (length (system_of n bs)) n (system_of n bs) [] o

-- ---- weights on which given rows are positive as well

-- the positive vectors on which each of these rows is positive; its root isn't used
abbrev pub cut_by : List (List ℤ) → Region
cut_by rows = record { rows = rows; root = [] }

-- the rows of the marking, then the given rows, then the unit vectors
abbrev pub system_beside : ℕ → List (List ℤ) → List MarkedPolynomial → List (List ℤ)
system_beside n rows bs = rows_of_polynomials bs ++ (rows ++ units n n)

-- some positive vector on which each of the given rows is positive gives the marks
pub record IsRealisableBeside (n : ℕ) (rows : List (List ℤ)) (bs : List MarkedPolynomial) : Type 0 where
  pub weight : List ℤ
  pub inside : IsInRegion n (cut_by rows) weight
  pub marks : IsInOpenCone weight bs

-- no such vector gives the marks, and these multipliers of the marking's rows, of the given rows and of the unit vectors show it
pub record IsInconsistentBeside (n : ℕ) (rows : List (List ℤ)) (bs : List MarkedPolynomial) (ms : List ℤ) : Type 0 where
  pub multipliers : IsFarkas n (system_beside n rows bs) [] ms []
  pub none : IsRealisableBeside n rows bs → ⊥

-- a point is such a vector; multipliers show that there is none
abbrev pub IsAnswerBeside : ℕ → List (List ℤ) → List MarkedPolynomial → Answer → Type 0
IsAnswerBeside n rows bs (Point v) = IsInRegion n (cut_by rows) v × IsInOpenCone v bs
IsAnswerBeside n rows bs (Farkas ms es) = IsInconsistentBeside n rows bs ms

-- o is a step of the elimination of the marking's system with the given rows, and it leaves its range
abbrev pub IsStepBeside : ℕ → List (List ℤ) → List MarkedPolynomial → ConeOverflow → Type 0
IsStepBeside n rows bs o = IsStepOn (length (system_beside n rows bs)) n (system_beside n rows bs) [] o

-- ---- bases

-- some positive weight sets each mark above the other monomials of its polynomial, and for each member of the ideal that bs generates each
-- of its monomials of greatest weight is divisible by a mark
pub record IsMarkedGroebnerBasis (n : ℕ) (bs : List MarkedPolynomial) : Type 0 where
  pub weight : List ℕ
  pub positive : IsPositive n weight
  pub marks : (b : MarkedPolynomial) → Contains bs b → IsRealisedBy weight b
  pub initial : (f : Terms) → IsMember n (polys bs) f → (x : Exponents) → IsHeaviest weight f x → IsDivisible (Contains bs) x

-- s is a Gröbner basis for its marking, and t is one of the same ideal, with marked coefficients 1
pub record IsBasisOf (s t : MarkedPolynomials) : Type 0 where
  pub marked : IsMarkedGroebnerBasis s.variables s.items
  pub ideal : AreSameIdeal s.variables (polys s.items) (polys t.items)
  pub basis : IsBasis t.variables (polys t.items) t.items

-- s is a Gröbner basis for its marking, and t is the reduced basis of the same ideal, arranged, for some positive weight that gives the
-- marks of t
pub record IsReducedBasisOf (s t : MarkedPolynomials) : Type 0 where
  pub basis : IsBasisOf s t
  pub reduced : IsMarkedReducedBasis t.variables (polys t.items) t.items
