-- A search over the bases of an ideal that pure difference binomials generate isn't refused for coefficients.
-- To cite: flip_narrow, tree_narrow.
use Rattle.std.proofs.Common.{◌≡◌, ℕ, List, ℤ, sym, subst}
use Rattle.gf_frac.specs.declared.refusal.Overflow.{Overflow}
use Rattle.gf_poly.specs.Polynomial.{Terms}
use Rattle.gf_poly.specs.Marking.{MarkedPolynomial}
use Rattle.gf_ideal_theory.specs.Membership.{AreInVariables}
use Rattle.gf_buchberger.specs.declared.bases.BasisError.{BasisError}
use Rattle.gf_buchberger.specs.declared.bases.BasisError.TheVariants as flips
use Rattle.gf_facets_theory.specs.Regions.{Region}
use Rattle.gf_facets_theory.specs.Facets.{IsFlippable}
use Rattle.gf_facets_theory.specs.MarkedBases.{IsBasisInRegion}
use Rattle.gf_tree.specs.Operations.{IsFlipRefusal}
use Rattle.gf_reverse_theory.specs.Upward.{Fan}
use Rattle.gf_tree.specs.TreeError.TheVariants as trees
use Rattle.gf_tree.specs.TreeErrors.{of_flip_error}
use Rattle.gf_tree.specs.Refusals.{IsTreeRefusal}
use Rattle.gf_binomials_theory.specs.Binomials.{AreBinomials}
use Rattle.gf_binomial_calls_theory.proofs.FlipLaws.{flip_fits}

-- a flip of a basis of the ideal, in each region
pub flip_narrow : (n : ℕ) (fs : List Terms) (k : Region) (bs : List MarkedPolynomial) (a : List ℤ) (budget : ℕ) (o : Overflow) → AreInVariables n fs →
    AreBinomials fs → IsBasisInRegion n fs k bs → IsFlippable n k bs a → IsFlipRefusal n bs a budget (flips.Overflow o) → ⊥
flip_narrow n fs k bs a budget o v two b f r = r.1 (flip_fits n fs k bs a o.op o.left o.right v two b f r.0)

pub tree_narrow : (F : Fan) (pairs : ℕ) (o : Overflow) → AreBinomials F.ideal → IsTreeRefusal F pairs (trees.Overflow o) → ⊥
tree_narrow F pairs o two (IsTreeRefusal.flip v a r node f c e) = at r c e
  where
    at : (r : BasisError) → IsFlipRefusal v.variables v.items a pairs r → trees.Overflow o ≡ of_flip_error r → ⊥
    at (flips.Overflow p) c e = flip_narrow v.variables F.ideal F.region v.items a pairs p
        (subst (λ (n : ℕ). AreInVariables n F.ideal) (sym node.variables) node.fan.ideal) two
        (subst (λ (n : ℕ). IsBasisInRegion n F.ideal F.region v.items) (sym node.variables) node.basis) f c
    at (flips.Exponent p) c e = absurd (cc)
    at (flips.PairBudget s unsettled) c e = absurd (cc)
    at flips.Memory c e = absurd (cc)
tree_narrow F pairs o two (IsTreeRefusal.system v s node step e) = absurd (cc)
tree_narrow F pairs o two (IsTreeRefusal.memory e) = absurd (cc)
