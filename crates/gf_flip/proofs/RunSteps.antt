-- The run on the parts and the lifts of what it leads to, as the code of a flip has them.
-- To cite: start_of, entering_of, ground_of, crossing_at, end_later, run_lifts, lifts_under, lifts_of, if_lifts_of, ending_of.
use Rattle.std.specs.declared.option.Option.{Option}
use Rattle.std.proofs.Common.{◌≡◌, ℕ, Bool, List, [], length, ℤ, Some, None, IfSome, refl, sym, subst}
use Rattle.gf_exponents_theory.specs.Exponents.{Exponents}
use Rattle.gf_exponents_theory.proofs.WholeWeightLaws.{length-losses}
use Rattle.gf_order.specs.Comparisons.{HasEntries}
use Rattle.gf_poly.specs.Polynomial.{Terms}
use Rattle.gf_poly.specs.Marking.{MarkedPolynomial, HaveVariables}
use Rattle.gf_buchberger.proofs.ReducedPairLaws.{variables_each}
use Rattle.gf_initial_theory.specs.Lifts.{AreTopLifts}
use Rattle.gf_lifts.specs.declared.tops.Lifts.{Lifts}
use Rattle.gf_strands.specs.Along.{AreSmall, IsBasisOfParts}
use Rattle.gf_flip.specs.Chosen.{AreLiftsOfParts}
use Rattle.gf_lifts.specs.Crossings.{IsCrossing}
use Rattle.gf_lifts.specs.LiftTails.{AreCopies, AreTailsInTurn}
use Rattle.gf_strands.specs.Strands.{IsGround, facet_order}
use Rattle.gf_strands.specs.Monomials.{with_monomials, AreLaterUndivided}
use Rattle.gf_strand_runs.specs.Settling.{SettlesTo}
use Rattle.gf_strands.specs.Splits.{AreSplit}
use Rattle.gf_strand_runs.specs.Turns.{HasEntering, LeadsToEnd}
use Rattle.gf_lifts.proofs.CrossingMath.{crossing_width, crossing_nonzero}
use Rattle.gf_flip.proofs.FlipSteps.{topped_at, Ending, ending_at}
use Rattle.gf_flip.proofs.StartLaws.{IsStart, split_start}

-- ---- what a run begins with

-- under the names that the code has
pub crossing_at : (n : ℕ) (bs items : List MarkedPolynomial) (a b : List ℤ) → items ≡ bs → b ≡ a → IsCrossing n bs a → IsCrossing (length b) items b
crossing_at n bs items a b e q c = subst (λ (z : List ℤ). IsCrossing (length z) items z) (sym q)
    (subst (λ (z : List MarkedPolynomial). IsCrossing (length a) z a) (sym e) (subst (λ (k : ℕ). IsCrossing k bs a) (sym (crossing_width n bs a c)) c))

row_entries : (a : List ℤ) → HasEntries (length a) (facet_order a)
row_entries a = length-losses a

pub start_of : (bs : List MarkedPolynomial) (a : List ℤ) (indices : List ℕ) (xs : List Exponents) (fs : List Terms) → IsCrossing (length a) bs a →
    AreSplit a bs indices xs fs → IsStart (length a) bs a xs fs
start_of bs a indices xs fs c h = split_start (length a) bs a indices xs fs c (row_entries a) h

pub entering_of : (bs : List MarkedPolynomial) (a : List ℤ) (xs : List Exponents) (fs : List Terms) → IsStart (length a) bs a xs fs →
    HasEntering (facet_order a) (length a) fs (with_monomials xs [])
entering_of bs a xs fs s = record { polynomials = s.generators; entering = s.entering }

pub ground_of : (bs : List MarkedPolynomial) (a : List ℤ) (xs : List Exponents) (fs : List Terms) → IsCrossing (length a) bs a → AreSmall a →
    IsStart (length a) bs a xs fs → IsGround a xs
ground_of bs a xs fs c w s = record {
  small = w;
  nonzero = crossing_nonzero (length a) bs a c;
  marks = variables_each (length a) (with_monomials xs []) s.entering.underway.variables;
}

-- ---- its end

pub end_later : (bs : List MarkedPolynomial) (a : List ℤ) (xs : List Exponents) (fs : List Terms) (ms : List MarkedPolynomial) → IsStart (length a) bs a xs fs →
    LeadsToEnd (facet_order a) (length a) fs (with_monomials xs []) ms → AreLaterUndivided ms
end_later bs a xs fs ms s l = (l.turning s.generators s.entering).underway.later

-- the basis of the parts
run_basis : (bs : List MarkedPolynomial) (a : List ℤ) (xs : List Exponents) (fs : List Terms) (ms hs : List MarkedPolynomial) → IsStart (length a) bs a xs fs →
    LeadsToEnd (facet_order a) (length a) fs (with_monomials xs []) ms → SettlesTo (facet_order a) (length a) ms hs → IsBasisOfParts (length a) bs a hs
run_basis bs a xs fs ms hs s l t = record {
  generators = s.generators;
  along = s.along;
  reduced = t.at s.generators (l.turning s.generators s.entering) (l.entered s.generators s.entering);
}

-- and its lifts
pub run_lifts : (bs : List MarkedPolynomial) (a : List ℤ) (xs : List Exponents) (fs : List Terms) (ms hs : List MarkedPolynomial) (o : Option Lifts) →
    IsStart (length a) bs a xs fs → LeadsToEnd (facet_order a) (length a) fs (with_monomials xs []) ms → SettlesTo (facet_order a) (length a) ms hs →
    IfSome o (λ ls. AreTopLifts bs a hs ls.members.items) → IfSome o (λ ls. HaveVariables (length a) ls.members.items) →
    IfSome o (λ ls. AreCopies bs ls.members.items ls.copied.items) → IfSome o (λ ls. AreLiftsOfParts (length a) bs a ls.members.items ls.copied.items)
run_lifts bs a xs fs ms hs (Some ls) s l t p v k = record { basis = hs; parts = run_basis bs a xs fs ms hs s l t; tops = p; variables = v; copies = k }
run_lifts bs a xs fs ms hs None s l t p v k = tt

-- under the names that the code has
pub lifts_under : (n : ℕ) (bs items : List MarkedPolynomial) (a b : List ℤ) (o : Option Lifts) → items ≡ bs → b ≡ a → length a ≡ n →
    IfSome o (λ ls. AreLiftsOfParts (length b) items b ls.members.items ls.copied.items) →
    IfSome o (λ ls. AreLiftsOfParts n bs a ls.members.items ls.copied.items)
lifts_under n bs items a b o e q w h = subst (λ (k : ℕ). IfSome o (λ ls. AreLiftsOfParts k bs a ls.members.items ls.copied.items)) w
    (subst (λ (z : List MarkedPolynomial). IfSome o (λ ls. AreLiftsOfParts (length a) z a ls.members.items ls.copied.items)) e
    (subst (λ (z : List ℤ). IfSome o (λ ls. AreLiftsOfParts (length z) items z ls.members.items ls.copied.items)) q h))

-- the same from a basis of the parts
pub lifts_of : (n : ℕ) (bs items : List MarkedPolynomial) (a b : List ℤ) (hs ls : List MarkedPolynomial) (flags : List Bool) → items ≡ bs → b ≡ a →
    length b ≡ n → IsBasisOfParts n bs a hs → AreTopLifts items b hs ls → HaveVariables (length b) ls → AreCopies items ls flags →
    AreLiftsOfParts n bs a ls flags
lifts_of n bs items a b hs ls flags e q w p t v k = record {
  basis = hs;
  parts = p;
  tops = topped_at bs items a b hs ls e q t;
  variables = subst (λ (z : ℕ). HaveVariables z ls) w v;
  copies = subst (λ (z : List MarkedPolynomial). AreCopies z ls flags) e k;
}

pub if_lifts_of : (n : ℕ) (bs items : List MarkedPolynomial) (a b : List ℤ) (hs : List MarkedPolynomial) (o : Option Lifts) → items ≡ bs → b ≡ a →
    length b ≡ n → IsBasisOfParts n bs a hs → IfSome o (λ ls. AreTopLifts items b hs ls.members.items) →
    IfSome o (λ ls. HaveVariables (length b) ls.members.items) → IfSome o (λ ls. AreCopies items ls.members.items ls.copied.items) →
    IfSome o (λ ls. AreLiftsOfParts n bs a ls.members.items ls.copied.items)
if_lifts_of n bs items a b hs (Some ls) e q w p t v k = lifts_of n bs items a b hs ls.members.items ls.copied.items e q w p t v k
if_lifts_of n bs items a b hs None e q w p t v k = tt

-- their tails reduced
pub ending_of : (n : ℕ) (bs : List MarkedPolynomial) (a : List ℤ) (ls : List MarkedPolynomial) (flags : List Bool) (ms : List MarkedPolynomial) →
    IsCrossing n bs a → (k : AreLiftsOfParts n bs a ls flags) → AreTailsInTurn ls flags (length ls) ms → Ending n bs a k.basis ms
ending_of n bs a ls flags ms c k r = ending_at n bs bs a a k.basis ls flags ms c k.parts refl refl k.tops
    (subst (λ (z : ℕ). HaveVariables z ls) (sym (crossing_width n bs a c)) k.variables) k.copies r
