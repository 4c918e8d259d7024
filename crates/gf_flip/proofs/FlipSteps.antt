-- The steps of a flip, as the code has them.
-- To cite: weight_at, bounded_at, along_at, job_at, parts_at, if_neighbour, if_variables, if_tails_refused, topped_at, Ending, ending_at, lifts_weight,
-- ended_variables, ended_neighbour.
use Rattle.std.proofs.Common.{◌≡◌, ℕ, Bool, List, length, Contains, Result, Ok, Err, IfOk, IfErr, ℤ, refl, sym, ap, ◌∙◌, subst}
use Rattle.gf_exponents_theory.specs.Orders.{negated_row_of}
use Rattle.gf_exponents_theory.specs.SixOrders.{MonomialOrder}
use Rattle.gf_exponents_theory.proofs.ExponentsLaws.{same-refl}
use Rattle.gf_order.specs.Comparisons.{HasEntries}
use Rattle.gf_poly.specs.declared.error.PolyError.{PolyError}
use Rattle.gf_poly.specs.Polynomial.{Terms, HasVariables}
use Rattle.gf_poly.specs.Marking.{MarkedPolynomial, MarkedPolynomials, HaveVariables, IsArranged}
use Rattle.gf_ideal_theory.specs.Bases.{AreArranged, AreApart, AreSameBasis, IsTwin, IsCanonical}
use Rattle.gf_ideal_theory.specs.WorkLists.{AreReducedTails}
use Rattle.gf_ideal_theory.proofs.ListLaws.{each_contained}
use Rattle.gf_ideal_theory.proofs.KeptForms.{arranged_list}
use Rattle.gf_division.specs.NormalForms.{HasSomeWeight}
use Rattle.gf_division.specs.Autoreduction.{IsAutoreduced, IsAutoreductionRefusal}
use Rattle.gf_buchberger.specs.Tasks.{IsBasisTask}
use Rattle.gf_buchberger.specs.Bases.{IsArrangedBasis, IsBasisRefusal, of_poly_error}
use Rattle.gf_buchberger.specs.declared.bases.BasisError.{BasisError}
use Rattle.gf_initial_theory.specs.Lifts.{AreLifts, AreTopLifts}
use Rattle.gf_strands.specs.Along.{AreSmall, AreAlong, IsBasisOfParts}
use Rattle.gf_lifts.specs.Crossings.{IsCrossing, IsNeighbour}
use Rattle.gf_lifts.specs.LiftTails.{AreCopies, AreTailsInTurn}
use Rattle.gf_lifts.proofs.TailsInTurn.{turned_tails, turned_canonical}
use Rattle.gf_lifts.proofs.LiftedTails.{ever_turned}
use Rattle.gf_lifts.proofs.CrossingMath.{AreEverLifted, ever_topped, crossing_width, crossing_weight, lifts_marked, lifts_apart, neighbour, neighbour_at}
use Rattle.gf_flip.specs.Limits.{HaveMonomialsAlone}
use Rattle.gf_flip.specs.Operations.{IsFlipRefusal}
use Rattle.gf_flip.proofs.SmallNormals.{normal_small}
use Rattle.gf_flip.proofs.PartJobs.{in_ring, suited}
use Rattle.gf_flip.proofs.RefusalSteps.{parts_refused, tails_refused}

-- ---- values under other names

pub weight_at : (n : ℕ) (bs items : List MarkedPolynomial) (a : List ℤ) → IsCrossing n bs a → items ≡ bs → HasSomeWeight items
weight_at n bs items a c e = let w = crossing_weight n bs a c in subst HasSomeWeight (sym e) (w.0, w.2)

-- the normal is within the limit
pub bounded_at : (n : ℕ) (bs items : List MarkedPolynomial) (a b : List ℤ) → IsCrossing n bs a → items ≡ bs → HaveMonomialsAlone items → b ≡ a → AreSmall b
bounded_at n bs items a b c e h q = subst AreSmall (sym q) (normal_small bs a (subst HaveMonomialsAlone e h) c.flippable.inside.normal)

-- ---- the basis of the parts

pub along_at : (a x : List ℤ) (bs items : List MarkedPolynomial) (fs : List Terms) → x ≡ a → items ≡ bs → AreAlong x items fs → AreAlong a bs fs
along_at a x bs items fs e q h = subst (λ (z : List ℤ). AreAlong z bs fs) e (subst (λ (z : List MarkedPolynomial). AreAlong x z fs) q h)

-- the order along the facet, from a copy of the normal
pub facet_at : (a b : List ℤ) (o : MonomialOrder) → b ≡ a → o ≡ MonomialOrder.facet (negated_row_of b) → o ≡ MonomialOrder.facet (negated_row_of a)
facet_at a b o e q = q ∙ ap (λ (z : List ℤ). MonomialOrder.facet (negated_row_of z)) e

pub facet_entries : (a b : List ℤ) (o : MonomialOrder) → b ≡ a → HasEntries (length b) o → HasEntries (length a) o
facet_entries a b o e h = subst (λ (z : List ℤ). HasEntries (length z) o) e h

pub job_at : (n m : ℕ) (bs : List MarkedPolynomial) (a : List ℤ) (fs : List Terms) (o : MonomialOrder) → IsCrossing n bs a → AreAlong a bs fs → m ≡ n →
    o ≡ MonomialOrder.facet (negated_row_of a) → HasEntries (length a) o → IsBasisTask o m fs
job_at n m bs a fs o c h e q w = subst (λ (z : ℕ). IsBasisTask o z fs) (sym e) (subst (λ (z : MonomialOrder). IsBasisTask z n fs) (sym q) (record {
  ring = in_ring n bs a fs c h;
  entries = subst (λ (z : ℕ). HasEntries z (MonomialOrder.facet (negated_row_of a))) (crossing_width n bs a c) (subst (HasEntries (length a)) q w);
  suited = suited n bs a fs c h;
}))

pub parts_at : (n m : ℕ) (bs : List MarkedPolynomial) (a : List ℤ) (fs : List Terms) (o : MonomialOrder) (s : MarkedPolynomials) → AreAlong a bs fs → m ≡ n →
    o ≡ MonomialOrder.facet (negated_row_of a) → IsArrangedBasis o m fs s → IsBasisOfParts n bs a s.items
parts_at n m bs a fs o s h e q b = let r = subst (λ (z : ℕ). IsArrangedBasis o z fs s) e b in
    let t = subst (λ (z : MonomialOrder). IsArrangedBasis z n fs s) q r in
    record { generators = fs; along = h; reduced = t.reduced }

pub parts_variables : (n m : ℕ) (fs : List Terms) (o : MonomialOrder) (s : MarkedPolynomials) → m ≡ n → IsArrangedBasis o m fs s →
    HaveVariables s.variables s.items → HaveVariables n s.items
parts_variables n m fs o s e b v = subst (λ (z : ℕ). HaveVariables z s.items) (b.variables ∙ e) v

pub parts_refused_at : (n m : ℕ) (bs : List MarkedPolynomial) (a : List ℤ) (fs : List Terms) (o : MonomialOrder) (budget : ℕ) (x : BasisError) →
    AreAlong a bs fs → m ≡ n → o ≡ MonomialOrder.facet (negated_row_of a) → IsBasisRefusal o m fs budget x → IsFlipRefusal n bs a budget x
parts_refused_at n m bs a fs o budget x h e q k =
    parts_refused n bs a fs budget x h (subst (λ (z : MonomialOrder). IsBasisRefusal z n fs budget x) q (subst (λ (z : ℕ). IsBasisRefusal o z fs budget x) e k))

-- ---- lifts

pub if_neighbour : {E : Type 0} (n m : ℕ) (bs : List MarkedPolynomial) (a : List ℤ) (hs ls : List MarkedPolynomial) (s : MarkedPolynomials)
    (r : Result MarkedPolynomials E) → IsCrossing n bs a → IsBasisOfParts n bs a hs → AreEverLifted n bs a hs ls → m ≡ n →
    s ≡ record { variables = m; items = ls } → IfOk r (IsAutoreduced s) → IfOk r (λ t. AreArranged s.variables t.items) →
    IfOk r (λ t. IsNeighbour n bs a t.items)
if_neighbour n m bs a hs ls s (Ok t) c p l e q w o = neighbour_at n m bs a hs ls s t c p l e q w o
if_neighbour n m bs a hs ls s (Err x) c p l e q w o = tt

pub if_variables : {E : Type 0} (n m : ℕ) (ls : List MarkedPolynomial) (s : MarkedPolynomials) (r : Result MarkedPolynomials E) → m ≡ n →
    s ≡ record { variables = m; items = ls } → IfOk r (IsAutoreduced s) → IfOk r (λ t. t.variables ≡ n)
if_variables n m ls s (Ok t) e q w = w.arranged.variables ∙ ap (λ (z : MarkedPolynomials). z.variables) q ∙ e
if_variables n m ls s (Err x) e q w = tt

pub if_tails_refused : {A : Type 0} (n m : ℕ) (bs : List MarkedPolynomial) (a : List ℤ) (hs ls : List MarkedPolynomial) (s : MarkedPolynomials)
    (r : Result A PolyError) → IsBasisOfParts n bs a hs → AreLifts bs hs ls → s ≡ record { variables = m; items = ls } →
    IfErr r (IsAutoreductionRefusal s.items) → IfErr r (λ e. (pairs : ℕ) → IsFlipRefusal n bs a pairs (of_poly_error e))
if_tails_refused n m bs a hs ls s (Ok t) p l q k = tt
if_tails_refused n m bs a hs ls s (Err e) p l q k =
    λ pairs. tails_refused n bs a hs ls pairs e p l (subst (λ (z : MarkedPolynomials). IsAutoreductionRefusal z.items e) q k)

pub topped_at : (bs items : List MarkedPolynomial) (a b : List ℤ) (hs ls : List MarkedPolynomial) → items ≡ bs → b ≡ a → AreTopLifts items b hs ls →
    AreTopLifts bs a hs ls
topped_at bs items a b hs ls e q t = subst (λ (z : List MarkedPolynomial). AreTopLifts z a hs ls) e (subst (λ (z : List ℤ). AreTopLifts items z hs ls) q t)

-- ---- tails of lifts that end early

-- what the lifts with their tails reduced are
pub record Ending (n : ℕ) (bs : List MarkedPolynomial) (a : List ℤ) (hs ms : List MarkedPolynomial) : Type 0 where
  pub lifted : AreEverLifted n bs a hs ms
  pub reduced : AreReducedTails ms ms ms
  pub canonical : (m : MarkedPolynomial) → Contains ms m → IsCanonical n m

pub ending_at : (n : ℕ) (bs items : List MarkedPolynomial) (a b : List ℤ) (hs ls : List MarkedPolynomial) (flags : List Bool) (ms : List MarkedPolynomial) →
    IsCrossing n bs a → IsBasisOfParts n bs a hs → items ≡ bs → b ≡ a → AreTopLifts items b hs ls → HaveVariables (length b) ls → AreCopies items ls flags →
    AreTailsInTurn ls flags (length ls) ms → Ending n bs a hs ms
ending_at n bs items a b hs ls flags ms c p e q t v k r = record {
  lifted = ever_turned n bs a hs ls flags (length ls) ms p r (ever_topped n bs a hs ls p (topped_at bs items a b hs ls e q t));
  reduced = turned_tails bs ls flags ms c.basis.reduced.tails copies r;
  canonical = turned_canonical n bs ls flags ms c.basis.reduced.tails copies r (subst (λ (z : ℕ). HaveVariables z ls) (ap length q ∙ crossing_width n bs a c)
      v);
}
  where
    copies : AreCopies bs ls flags
    copies = subst (λ (z : List MarkedPolynomial). AreCopies z ls flags) e k

pub lifts_weight : (n : ℕ) (bs items : List MarkedPolynomial) (a b : List ℤ) (hs ls : List MarkedPolynomial) → IsCrossing n bs a → IsBasisOfParts n bs a hs →
    items ≡ bs → b ≡ a → AreTopLifts items b hs ls → HasSomeWeight ls
lifts_weight n bs items a b hs ls c p e q t = let w = lifts_marked n bs a hs ls c p (ever_topped n bs a hs ls p (topped_at bs items a b hs ls e q t)) in
    (w.0, w.2)

pub ended_variables : (n m : ℕ) (bs : List MarkedPolynomial) (a : List ℤ) (hs ms : List MarkedPolynomial) → m ≡ n → Ending n bs a hs ms → HaveVariables m ms
ended_variables n m bs a hs ms q e = subst (λ (z : ℕ). HaveVariables z ms) (sym q) (each_contained (λ (b : MarkedPolynomial). HasVariables n b.poly) ms
    (λ b k. (e.canonical b k).variables))

-- arranged they are the neighbour
pub ended_neighbour : (n m : ℕ) (bs : List MarkedPolynomial) (a : List ℤ) (hs ms : List MarkedPolynomial) (s t : MarkedPolynomials) → IsCrossing n bs a →
    IsBasisOfParts n bs a hs → m ≡ n → Ending n bs a hs ms → s ≡ record { variables = m; items = ms } → IsArranged s t → IsNeighbour n bs a t.items
ended_neighbour n m bs a hs ms s t c p q e r o =
    neighbour n bs a hs ms ms ms t.items p e.lifted twins apart e.reduced arranged.members
    (arranged_list n (record { variables = n; items = ms }) t arranged e.canonical apart)
  where
    apart : AreApart ms
    apart = lifts_apart n bs a hs ms c p e.lifted

    arranged : IsArranged (record { variables = n; items = ms }) t
    arranged = subst (λ (z : ℕ). IsArranged (record { variables = z; items = ms }) t) q (subst (λ (z : MarkedPolynomials). IsArranged z t) r o)

    twin : (b : MarkedPolynomial) → IsTwin b b
    twin b = record { head = same-refl b.head; poly = λ x. refl }

    twins : AreSameBasis ms ms
    twins = record { there = λ b k. (b, k, twin b); back = λ b k. (b, k, twin b) }
