-- Operations of flips of bases of differences of two monomials stay in range.
-- To cite: flip_fits, forms_binomials.
use Rattle.std.proofs.Common.{List, Contains, ℤ, arith, sym, subst}
use Rattle.gf_frac.specs.Fraction.{Fraction}
use Rattle.gf_frac.specs.Fits.{Fits}
use Rattle.gf_frac.specs.declared.refusal.Op.{Op}
use Rattle.gf_exponents_theory.specs.Orders.{IsFacetBelow, negated_row_of}
use Rattle.gf_poly.specs.Polynomial.{Terms}
use Rattle.gf_poly.specs.Marking.{MarkedPolynomial}
use Rattle.gf_ideal_theory.specs.Bases.{IsReducedBasisFor}
use Rattle.gf_ideal_theory.proofs.NormalFormLaws.{normal_form-reached}
use Rattle.gf_division.specs.Autoreduction.{AreNeededForms}
use Rattle.gf_facets_theory.specs.Rows.{negated}
use Rattle.gf_initial_theory.specs.Parts.{IsPartAlong}
use Rattle.gf_initial_theory.specs.Lifts.{IsLift, AreLifts}
use Rattle.gf_initial_theory.proofs.MatchingLaws.{matched-map, matched-from}
use Rattle.gf_initial_theory.proofs.PartLaws.{IsLevelPart}
use Rattle.gf_initial_theory.proofs.SideLaws.{IsSide, level_of_along}
use Rattle.gf_initial_theory.proofs.FlipLaws.{side_of_inside, along_negated, ArePartFacts, part_facts}
use Rattle.gf_strands.specs.Along.{AreAlong, IsBasisOfParts}
use Rattle.gf_tree.specs.LiftRefusals.{IsLiftOperation}
use Rattle.gf_tree.specs.Operations.{IsFlipOperation}
use Rattle.gf_binomials_theory.specs.Binomials.{AreBinomials, IsMarkedBinomial, AreMarkedBinomials}
use Rattle.gf_binomials_theory.proofs.WholeLaws.{IsSmallWhole, fits-sub}
use Rattle.gf_binomials_theory.proofs.BinomialLaws.{binomial-reached, binomial-monic, binomial-marked, coefficient-small, reduction_fits, monic_fits}
use Rattle.gf_binomials_theory.proofs.RunLaws.{run_fits, tail_fits}
use Rattle.gf_binomial_bases_theory.proofs.LawsHold.{bases_of_binomials}
use Rattle.gf_binomial_bases_theory.proofs.BinomialParts.{parts_binomials}
use Rattle.gf_binomial_bases_theory.proofs.LiftedBinomials.{basis_of_parts-binomials, lift-binomial}
use Rattle.gf_binomial_calls_theory.specs.Laws.{FlipsOfBinomialsFit}

-- ---- a flip

-- the difference of a member and its remainder
lift_fits : (bs : List MarkedPolynomial) (h : MarkedPolynomial) (op : Op) (left right : Fraction) → AreMarkedBinomials (Contains bs) → IsMarkedBinomial h →
    IsLiftOperation bs h op left right → Fits op left right
lift_fits bs h op left right two m (IsLiftOperation.remainder o) = reduction_fits (Contains bs) h.poly op left right two (binomial-marked h m) o
lift_fits bs h op left right two m (IsLiftOperation.difference r at f e l k) =
    subst (λ x. Fits x left right) (sym e) (fits-sub 2 2 left right (omega arith) (omega arith)
    (subst (IsSmallWhole 2) (sym l) (coefficient-small h.poly at (binomial-marked h m)))
    (subst (IsSmallWhole 2) (sym k) (coefficient-small r at (binomial-reached (Contains bs) h.poly r two (binomial-marked h m)
    (normal_form-reached bs h.poly r f.reached)))))

-- the monic forms of those that are needed
pub forms_binomials : (ls ks : List MarkedPolynomial) → AreMarkedBinomials (Contains ls) → AreNeededForms ls ks → AreMarkedBinomials (Contains ks)
forms_binomials ls ks two m k c =
    let f = m.inside k c in
    binomial-monic f.member.poly k (binomial-marked f.member (two f.member (f.index, f.needed.at.within, f.needed.at.is))) f.form.form

-- whatever the region is
pub flip_fits : FlipsOfBinomialsFit
flip_fits n fs k bs a op left right vars gens b f o = at o
  where
    v : List ℤ
    v = f.point

    two : AreMarkedBinomials (Contains bs)
    two = bases_of_binomials n fs bs vars gens b.reduced

    side : IsSide n fs v (negated a) bs
    side = side_of_inside n fs k bs a v b f.inside

    along_binomials : (gs : List Terms) → AreAlong a bs gs → AreBinomials gs
    along_binomials gs h = subst AreBinomials (sym h.polynomials) (parts_binomials v bs h.parts two (matched-map (IsPartAlong a) (IsLevelPart v) bs h.parts
        (λ d p c i. level_of_along v (negated a) d p side.nonzero side.zero (side.marked d c) (along_negated a d p i)) h.each))

    facts : (hs : List MarkedPolynomial) (p : IsBasisOfParts n bs a hs) → ArePartFacts n fs bs p.along.parts hs a v
    facts hs p = part_facts n fs k bs p.along.parts hs a v vars b f.region f.inside p.along.each
        (subst (λ (z : List Terms). IsReducedBasisFor n z (IsFacetBelow (negated_row_of a)) hs) p.along.polynomials p.reduced)

    members : (hs : List MarkedPolynomial) → IsBasisOfParts n bs a hs → AreMarkedBinomials (Contains hs)
    members hs p = basis_of_parts-binomials n fs bs p.along.parts hs a v vars two (facts hs p) p.reduced.tails

    lifts : (hs ls : List MarkedPolynomial) → IsBasisOfParts n bs a hs → AreLifts bs hs ls → AreMarkedBinomials (Contains ls)
    lifts hs ls p m l c =
        let h = matched-from (IsLift bs) hs ls m l c in
        lift-binomial n fs bs p.along.parts hs a v vars two (facts hs p) p.reduced.tails h.0 l h.2.remainder h.1 (members hs p h.0 h.1)
        h.2.reached h.2.irreducible h.2.head h.2.poly

    at : IsFlipOperation n bs a op left right → Fits op left right
    at (IsFlipOperation.parts gs h r) = run_fits gs (IsFacetBelow (negated_row_of a)) op left right (along_binomials gs h) r
    at (IsFlipOperation.lift hs p r) = lift_fits bs r.member op left right two (members hs p r.member r.contained) r.operation
    at (IsFlipOperation.monic hs ls p l r) = monic_fits r.member.poly r.member.head op left right
        (binomial-marked r.member (lifts hs ls p l r.member (r.index, r.needed.at.within, r.needed.at.is))) r.operation.operation
    at (IsFlipOperation.tail hs ls ks p l m r) = tail_fits ks r.from r.at op left right (forms_binomials ls ks (lifts hs ls p l) m) r.tail r.operation
