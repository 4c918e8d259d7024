-- Bases of ideals that monomials generate have no normals, so a search over them has nothing to do.
-- To cite: no_normals, monomials_within.
use Rattle.std.proofs.Common.{◌≡◌, ℕ, true, false, List, [], Contains, ℤ, sym, subst}
use Rattle.std.proofs.lemmas.List.Elements.{Contains-get_or}
use Rattle.gf_exponents_theory.specs.Exponents.{same}
use Rattle.gf_exponents_theory.proofs.ExponentsLaws.{same_flip}
use Rattle.gf_poly.specs.declared.Term.{Term}
use Rattle.gf_poly.specs.Marking.{MarkedPolynomial, MarkedPolynomials}
use Rattle.gf_ideal_theory.specs.Membership.{AreInVariables}
use Rattle.gf_ideal_theory.specs.Reduction.{HasOneMonomial}
use Rattle.gf_ideal_theory.proofs.KeptForms.{term_there}
use Rattle.gf_facets_theory.specs.Rows.{IsNormal}
use Rattle.gf_facets_theory.specs.MarkedBases.{AreCanonical, IsBasisInRegion}
use Rattle.gf_facets_theory.proofs.RowLaws.{IsTermRow, row-from}
use Rattle.gf_reverse_theory.specs.Upward.{Fan, IsNodeIn}
use Rattle.gf_tree.specs.Refusals.{IsTreeWithinLimits}
use Rattle.gf_cone.specs.Cones.{normal_at}
use Rattle.gf_binomial_bases_theory.specs.Laws.{HaveOneMonomial}
use Rattle.gf_binomial_bases_theory.proofs.LawsHold.{monomial_bases}

pub no_normals : (n : ℕ) (bs : List MarkedPolynomial) (a : List ℤ) → AreCanonical n bs → ((b : MarkedPolynomial) → Contains bs b → HasOneMonomial b) →
    IsNormal bs a → ⊥
no_normals n bs a k one h = at (row-from bs h.0 h.1)
  where
    at : ((b : MarkedPolynomial) × Contains bs b × IsTermRow b.head b.poly h.0) → ⊥
    at b =
        let c = k b.0 b.1 in
        let t : Term = b.2.term in
        let s : same b.0.head t.mono ≡ true = same_flip t.mono b.0.head (one b.0 b.1 t.mono (term_there n b.0.poly t c.variables c.descending b.2.inside)) in
        let o : same b.0.head t.mono ≡ false = b.2.other in
        absurd (cc)

pub monomials_within : (F : Fan) (pairs : ℕ) → HaveOneMonomial F.ideal → IsTreeWithinLimits F pairs
monomials_within F pairs one = record {
  flips = λ v a node q. absurd (none v a node q.inside.normal);
  systems = λ v s node step. none v (normal_at step.cone step.index) node (step.is_cone.normals.only (normal_at step.cone step.index)
      (Contains-get_or step.cone.normals step.index [] step.inside));
}
  where
    none : (v : MarkedPolynomials) (a : List ℤ) → IsNodeIn F v → IsNormal v.items a → ⊥
    none v a node = no_normals v.variables v.items a basis.arranged.canonical
        (monomial_bases v.variables F.ideal v.items (subst (λ (n : ℕ). AreInVariables n F.ideal) (sym node.variables) node.fan.ideal) one basis.reduced)
      where
        basis : IsBasisInRegion v.variables F.ideal F.region v.items
        basis = subst (λ (n : ℕ). IsBasisInRegion n F.ideal F.region v.items) (sym node.variables) node.basis
