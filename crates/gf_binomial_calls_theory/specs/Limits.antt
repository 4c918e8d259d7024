-- Ideals whose bases, flips and searches stay within their limits: that of one pure difference binomial, and those of monomials.
-- Laws: proofs/LimitLaws.antt, proofs/SystemLimits.antt, proofs/CheckLimits.antt, proofs/TermLimits.antt.
use Rattle.std.specs.Prelude.{◌≡◌, ℕ, ◌<◌, ◌≤◌, ◌^◌, List, [], ◌∷◌, Some, ℤ}
use Rattle.gf_exponents_theory.specs.Exponents.{Exponents, entry, Divides}
use Rattle.gf_exponents_theory.specs.SixOrders.{MonomialOrder}
use Rattle.gf_poly.specs.Polynomial.{Terms}
use Rattle.gf_poly.specs.declared.error.PolyError.{PolyError}
use Rattle.gf_poly.specs.declared.error.PolyError.TheVariants as errors
use Rattle.gf_poly.specs.Marking.{MarkedPolynomial, MarkedPolynomials, IsArranged}
use Rattle.gf_ideal_theory.specs.Membership.{HasMonomial, IsInVariables}
use Rattle.gf_gordan.specs.Sizes.{HaveEntriesUpTo}
use Rattle.gf_gordan.specs.declared.error.ConeOverflow.{ConeOverflow}
use Rattle.gf_division.specs.Autoreduction.{IsAutoreductionRefusal}
use Rattle.gf_reduced.specs.Forms.{monic_set}
use Rattle.gf_reduced.specs.Refusals.{AreChecksWithinLimits}
use Rattle.gf_buchberger.specs.declared.queue.Strategy.{Strategy}
use Rattle.gf_buchberger.specs.Bases.{AreRunsWithinLimits}
use Rattle.gf_buchberger.specs.Tasks.{HaveRingVariables}
use Rattle.gf_buchberger.specs.Ruled.{AreRuledRunsWithinLimits}
use Rattle.gf_facets_theory.specs.Regions.{Region}
use Rattle.gf_facets_theory.specs.Facets.{IsFlippable}
use Rattle.gf_facets_theory.specs.MarkedBases.{IsBasisInRegion}
use Rattle.gf_tree.specs.Operations.{IsFlipWithinLimits}
use Rattle.gf_reverse_theory.specs.Upward.{Fan, IsNodeIn}
use Rattle.gf_tree.specs.Refusals.{IsConeStep, IsTreeWithinLimits}
use Rattle.gf_binomials_theory.specs.Antichains.{IsAntichain, HasShortExponents}
use Rattle.gf_binomials_theory.specs.Binomials.{IsBinomialOf, IsBinomial}
use Rattle.gf_binomial_bases_theory.specs.Laws.{HaveOneMonomial}
use Rattle.gf_binomial_calls_theory.specs.Sets.{IsBinomialSet}

-- f is a pure difference binomial, neither of its monomials divides the other, and its exponents are below 2^31
pub record IsPlainGenerator (f : Terms) : Type 0 where
  pub binomial : IsBinomial f
  pub antichain : IsAntichain f
  pub short : HasShortExponents f

-- the exponents of f are at most b
abbrev pub HasExponentsUpTo : ℕ → Terms → Type 0
HasExponentsUpTo b f = (x : Exponents) → HasMonomial f x → (i : ℕ) → entry x i ≤ b

-- generators: x^p - x^q is a plain generator if neither monomial divides the other. runs, flips: for its ideal they stay within their limits for each
-- order, region and budget. ruled: so does the run by the rule of the program. search: so does the search over its bases, unless a step of the system of a
-- normal leaves its range. small_search: none does with at most three variables, and exponents and rows of the region up to 500. checks, tails: then the
-- checks of the generator as a marked set, with either term marked, stay within their limits, and so does the reduction of that set. monomials: the search
-- for an ideal of monomials always does, since it has no normal and no flip
pub record LimitsAreMet : Type 0 where
  pub generators : (p q : Exponents) (f : Terms) → IsBinomialOf (Some p) (Some q) f → (Divides p q → ⊥) → (Divides q p → ⊥) →
      ((i : ℕ) → entry p i < 2 ^ 31) → ((i : ℕ) → entry q i < 2 ^ 31) → IsPlainGenerator f
  pub runs : (order : MonomialOrder) (f : Terms) (budget : ℕ) → IsPlainGenerator f → AreRunsWithinLimits order (f ∷ []) budget
  pub ruled : (strategy : Strategy) (order : MonomialOrder) (n : ℕ) (f : Terms) (budget : ℕ) → HaveRingVariables n (f ∷ []) → IsPlainGenerator f →
      AreRuledRunsWithinLimits strategy order (f ∷ []) budget
  pub flips : (n : ℕ) (f : Terms) (k : Region) (bs : List MarkedPolynomial) (a : List ℤ) (budget : ℕ) → IsInVariables n f →
      IsPlainGenerator f → IsBasisInRegion n (f ∷ []) k bs → IsFlippable n k bs a → IsFlipWithinLimits n bs a budget
  pub search : (F : Fan) (f : Terms) (pairs : ℕ) → F.ideal ≡ f ∷ [] → IsPlainGenerator f →
      ((v : MarkedPolynomials) (s : ConeOverflow) → IsNodeIn F v → IsConeStep F v s → ⊥) → IsTreeWithinLimits F pairs
  pub small_search : (F : Fan) (f : Terms) (pairs : ℕ) → F.ideal ≡ f ∷ [] → IsPlainGenerator f → F.variables ≤ 3 →
      HaveEntriesUpTo 500 F.region.rows → HasExponentsUpTo 500 f → IsTreeWithinLimits F pairs
  pub checks : (n : ℕ) (b : MarkedPolynomial) → IsBinomialSet (record { variables = n; items = b ∷ [] }) → IsPlainGenerator b.poly → n ≤ 3 →
      HasExponentsUpTo 500 b.poly → AreChecksWithinLimits (record { variables = n; items = b ∷ [] })
  pub tails : (n : ℕ) (b : MarkedPolynomial) (t : MarkedPolynomials) (e : PolyError) → IsBinomialSet (record { variables = n; items = b ∷ [] }) →
      IsPlainGenerator b.poly → IsArranged (monic_set (record { variables = n; items = b ∷ [] })) t → IsAutoreductionRefusal t.items e → e ≡ errors.Memory
  pub monomials : (F : Fan) (pairs : ℕ) → HaveOneMonomial F.ideal → IsTreeWithinLimits F pairs
