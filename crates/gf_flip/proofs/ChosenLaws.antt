-- Lifts of chosen members, one after another.
-- To cite: descending_one, chosen_more, AreLiftedTo, lifted_to-none, lifted_to-more, lifted_to-end, copy_lifted, origin_lifted, if_origin_lifted,
-- if_origin_variables, if_twin_lifted, twin_monic, terms_end, lifted_front, lifted_strand.
use Rattle.std.specs.declared.option.Option.{Option}
use Rattle.std.proofs.Common.{Some, None, IfSome, ◌≡◌, ◌≢◌, ℕ, zero, suc, ◌+◌, ◌<◌, ◌≤◌, Bool, true, false, List, [], ◌∷◌, length, take, get_or, Contains, ℤ}
use Rattle.std.proofs.Common.{arith, refl, sym, ap, ◌∙◌, subst}
use Rattle.std.proofs.lemmas.List.{take_all, length-map, get_or-map, get_or_default}
use Rattle.gf_frac.specs.Fraction.{◌*ℚ◌, zero_ℚ, one_ℚ}
use Rattle.gf_exponents_theory.specs.Exponents.{Exponents}
use Rattle.gf_poly.specs.declared.Term.{Term}
use Rattle.gf_poly.specs.Polynomial.{Terms, coefficient, SamePolynomial, HasVariables, IsDescending}
use Rattle.gf_poly.specs.Marking.{MarkedPolynomial, HaveVariables}
use Rattle.gf_ideal_theory.specs.Settled.{IsAt}
use Rattle.gf_division.specs.NormalForms.{HasSomeWeight}
use Rattle.gf_division.proofs.ReducerLaws.{member_at, members_equal, member_contained, member_variables}
use Rattle.gf_initial_theory.specs.Lifts.{IsTopLift, AreTopLifts}
use Rattle.gf_ideal_theory.specs.OrderTable.{AreMultipleApart}
use Rattle.gf_initial_theory.proofs.ClassLaws.{multiple-grading}
use Rattle.gf_strands.specs.declared.strands.Point.{Point}
use Rattle.gf_strands.specs.declared.strands.Strand.{Strand}
use Rattle.gf_strands.specs.Along.{HasNonzero}
use Rattle.gf_strands.specs.Strands.{strand_terms, strand_member, strand_members, IsStrandAlong, IsStrandOf, HasOrigin}
use Rattle.gf_strands.proofs.StrandLaws.{strand_marked}
use Rattle.gf_flip.specs.Chosen.{IsLiftedWhere}
use Rattle.gf_lifts.specs.LiftTails.{AreCopies}
use Rattle.gf_strands.specs.Monomials.{monomial_member, with_monomials, chosen, IsAddedWhere}
use Rattle.gf_strands.specs.Splits.{IsAloneAt, IsAlone}
use Rattle.gf_lifts.specs.Tops.{IsQuotientAt}
use Rattle.gf_strands.proofs.MonomialLaws.{monomial_single, monomial_one, joined_length, front_at, behind_at}
use Rattle.gf_lifts.proofs.LiftTailLaws.{copies_more}
use Rattle.gf_lifts.proofs.TopLaws.{AreTopping, topping_push, untouched_at, top_twin, divided_lift}

-- a term of a descending list is a descending list by itself
pub descending_one : (f : Terms) (i : ℕ) (t : Term) → IsDescending f → i < length f → t ≡ get_or f i t → IsDescending (t ∷ [])
descending_one [] i t d l e = absurd (omega (arith, l))
descending_one (s ∷ f) zero t d l e = (subst (λ (z : Term). z.coef ≢ zero_ℚ) (sym e) d.0, tt, tt)
descending_one (s ∷ f) (suc i) t d l e = descending_one f i t d.2 (omega (arith, l)) e

-- ---- the chosen ones, one after another

pub chosen_more : (flags : List Bool) (bs : List MarkedPolynomial) (i : ℕ) (b : MarkedPolynomial) → i < length flags → IsAt bs i b →
    IsAddedWhere (get_or flags i false) b (chosen (take i flags) bs) (chosen (take (i + 1) flags) bs)
chosen_more [] bs i b l h = absurd (omega (arith, l))
chosen_more (f ∷ flags) [] i b l h = absurd (omega (arith, h.within))
chosen_more (true ∷ flags) (c ∷ bs) zero b l h = ap (λ (z : MarkedPolynomial). z ∷ []) h.is
chosen_more (false ∷ flags) (c ∷ bs) zero b l h = refl
chosen_more (true ∷ flags) (c ∷ bs) (suc i) b l h =
    let e : suc (i + 1) ≡ suc i + 1 = omega arith in
    subst (λ (k : ℕ). IsAddedWhere (get_or flags i false) b (c ∷ chosen (take i flags) bs) (chosen (take k (true ∷ flags)) (c ∷ bs))) e
    (at (get_or flags i false) (chosen_more flags bs i b (omega (arith, l)) (record { within = omega (arith, h.within); is = h.is })))
  where
    at : (f : Bool) → IsAddedWhere f b (chosen (take i flags) bs) (chosen (take (i + 1) flags) bs) →
        IsAddedWhere f b (c ∷ chosen (take i flags) bs) (c ∷ chosen (take (i + 1) flags) bs)
    at true e = ap (λ (z : List MarkedPolynomial). c ∷ z) e
    at false e = ap (λ (z : List MarkedPolynomial). c ∷ z) e
chosen_more (false ∷ flags) (c ∷ bs) (suc i) b l h =
    let e : suc (i + 1) ≡ suc i + 1 = omega arith in
    subst (λ (k : ℕ). IsAddedWhere (get_or flags i false) b (chosen (take i flags) bs) (chosen (take k (false ∷ flags)) (c ∷ bs))) e
    (chosen_more flags bs i b (omega (arith, l)) (record { within = omega (arith, h.within); is = h.is }))

-- ls are the lifts of the chosen ones of the first i members
pub record AreLiftedTo (n : ℕ) (bs : List MarkedPolynomial) (a : List ℤ) (ms : List MarkedPolynomial) (flags : List Bool) (i : ℕ) (ls : List MarkedPolynomial)
    (copied : List Bool) : Type 0 where
  pub topping : AreTopping n bs a (chosen (take i flags) ms) ls
  pub copies : AreCopies bs ls copied

pub lifted_to-none : (n : ℕ) (bs : List MarkedPolynomial) (a : List ℤ) (ms : List MarkedPolynomial) (flags : List Bool) (ls : List MarkedPolynomial)
    (copied : List Bool) → ls ≡ [] → copied ≡ [] → AreLiftedTo n bs a ms flags 0 ls copied
lifted_to-none n bs a ms flags ls copied e q = subst (λ (z : List MarkedPolynomial). AreLiftedTo n bs a ms flags 0 z copied) (sym e)
    (subst (AreLiftedTo n bs a ms flags 0 []) (sym q) (record { topping = record { lifts = tt; variables = tt }; copies = tt }))

pub lifted_to-more : (n : ℕ) (bs : List MarkedPolynomial) (a : List ℤ) (ms : List MarkedPolynomial) (flags : List Bool) (i : ℕ) (h : MarkedPolynomial)
    (f : Bool) (old new : List MarkedPolynomial) (before after : List Bool) → i < length flags → get_or flags i false ≡ f → IsAt ms i h →
    IsLiftedWhere f n bs a h old new before after → AreLiftedTo n bs a ms flags i old before → AreLiftedTo n bs a ms flags (i + 1) new after
lifted_to-more n bs a ms flags i h f old new before after l e p k s =
    at f k (subst (λ (z : Bool). IsAddedWhere z h (chosen (take i flags) ms) (chosen (take (i + 1) flags) ms)) e (chosen_more flags ms i h l p))
  where
    at : (f : Bool) → IsLiftedWhere f n bs a h old new before after → IsAddedWhere f h (chosen (take i flags) ms) (chosen (take (i + 1) flags) ms) →
        AreLiftedTo n bs a ms flags (i + 1) new after
    at true k q = record {
      topping = subst (λ (z : List MarkedPolynomial). AreTopping n bs a z new) (sym q)
          (topping_push n bs a (chosen (take i flags) ms) h k.lift old new k.top k.variables k.members s.topping);
      copies = copies_more bs old new before after k.lift k.flag k.copy k.members k.copied s.copies;
    }
    at false k q = subst (λ (z : List MarkedPolynomial). AreLiftedTo n bs a ms flags (i + 1) z after) (sym k.0)
        (subst (AreLiftedTo n bs a ms flags (i + 1) old) (sym k.1) (record {
          topping = subst (λ (z : List MarkedPolynomial). AreTopping n bs a z old) (sym q) s.topping;
          copies = s.copies;
        }))

pub lifted_to-end : (n : ℕ) (bs : List MarkedPolynomial) (a : List ℤ) (ms : List MarkedPolynomial) (flags : List Bool) (i : ℕ) (ls : List MarkedPolynomial)
    (copied : List Bool) → length flags ≤ i → AreLiftedTo n bs a ms flags i ls copied → AreTopLifts bs a (chosen flags ms) ls
lifted_to-end n bs a ms flags i ls copied l s = subst (λ (z : List Bool). AreTopLifts bs a (chosen z ms) ls) (take_all i flags l) s.topping.lifts

-- ---- one of them

-- a copied member is the lift of the monomial that is its part
pub copy_lifted : (n : ℕ) (bs : List MarkedPolynomial) (a : List ℤ) (p : ℕ) (x : Exponents) (b : MarkedPolynomial) (f : Bool) (old new : List MarkedPolynomial)
    (before after : List Bool) → HasSomeWeight bs → HaveVariables n bs → IsAloneAt a bs p x → b ≡ get_or bs p b → IsAddedWhere f b old new →
    IsAddedWhere f true before after → IsLiftedWhere f n bs a (monomial_member x) old new before after
copy_lifted n bs a p x b f old new before after w v o e m c = at f m c
  where
    here : IsAt bs p b
    here = member_at bs p b o.at.within e

    in_bs : Contains bs b
    in_bs = member_contained bs p b here

    is : o.member ≡ b
    is = members_equal bs p o.member b o.at here

    at : (f : Bool) → IsAddedWhere f b old new → IsAddedWhere f true before after → IsLiftedWhere f n bs a (monomial_member x) old new before after
    at true m c = record {
      lift = b;
      flag = true;
      top = untouched_at bs a (monomial_member x) b b (monomial_one x) (w.1 b in_bs).monic (monomial_single x) in_bs
          (ap (λ (z : MarkedPolynomial). z.head) (sym is) ∙ o.head) (subst (IsAlone a) is o.alone) refl;
      variables = member_variables n bs b v in_bs;
      copy = in_bs;
      members = m;
      copied = c;
    }
    at false m c = (m, c)

-- ---- strands

-- what the part of a member on a strand is lifted to
pub origin_lifted : (bs : List MarkedPolynomial) (a : List ℤ) (l : Strand) (p : ℕ) (b k : MarkedPolynomial) (x : Exponents) → HasNonzero a → HasSomeWeight bs →
    IsStrandAlong a l → HasOrigin a bs l p → b ≡ get_or bs p b → x ≡ l.mark → IsQuotientAt b x k → IsTopLift bs a (strand_member a l) k
origin_lifted bs a l p b k x n w h o e ex d =
    divided_lift bs a (strand_member a l) b k (strand_marked a l n h).monic (w.1 b in_bs).monic in_bs
    ((multiple-grading a n).symmetric l.mark b.head (subst (λ (z : MarkedPolynomial). AreMultipleApart a l.mark z.head) is o.apart))
    (subst (λ (z : Exponents). IsQuotientAt b z k) ex d)
    (λ y q. subst (λ (z : MarkedPolynomial). coefficient z.poly l.mark *ℚ coefficient (strand_member a l).poly y ≡ coefficient z.poly y) is (o.part y q))
  where
    here : IsAt bs p b
    here = member_at bs p b o.at.within e

    in_bs : Contains bs b
    in_bs = member_contained bs p b here

    is : o.member ≡ b
    is = members_equal bs p o.member b o.at here

-- as the code has it
pub if_origin_lifted : (bs : List MarkedPolynomial) (a : List ℤ) (l : Strand) (p : ℕ) (b : MarkedPolynomial) (o : Option MarkedPolynomial) → HasNonzero a →
    HasSomeWeight bs → IsStrandOf a bs l → l.origin ≡ Some p → b ≡ get_or bs p b → IfSome o (IsQuotientAt b l.mark) →
    IfSome o (IsTopLift bs a (strand_member a l))
if_origin_lifted bs a l p b (Some k) n w h e q d = origin_lifted bs a l p b k l.mark n w h.0 (subst (λ (z : Option ℕ). IfSome z (HasOrigin a bs l)) e h.1)
    q refl d
if_origin_lifted bs a l p b None n w h e q d = tt

pub if_origin_variables : (n : ℕ) (bs : List MarkedPolynomial) (a : List ℤ) (l : Strand) (p : ℕ) (b : MarkedPolynomial) (o : Option MarkedPolynomial) →
    HaveVariables n bs → IsStrandOf a bs l → l.origin ≡ Some p → b ≡ get_or bs p b → IfSome o (IsQuotientAt b l.mark) → IfSome o (λ k. HasVariables n k.poly)
if_origin_variables n bs a l p b (Some k) v h e q d =
    let w : HasOrigin a bs l p = subst (λ (z : Option ℕ). IfSome z (HasOrigin a bs l)) e h.1 in
    d.variables.at n (member_variables n bs b v (member_contained bs p b (member_at bs p b w.at.within q)))
if_origin_variables n bs a l p b None v h e q d = tt

pub if_twin_lifted : (bs : List MarkedPolynomial) (a : List ℤ) (l : Strand) (m : MarkedPolynomial) (o : Option MarkedPolynomial) →
    SamePolynomial m.poly (strand_member a l).poly → m.head ≡ l.mark → IfSome o (IsTopLift bs a m) → IfSome o (IsTopLift bs a (strand_member a l))
if_twin_lifted bs a l m (Some k) s e t = top_twin bs a m (strand_member a l) k s e t
if_twin_lifted bs a l m None s e t = tt

-- a polynomial that is the same, with the same mark, is monic
pub twin_monic : (a : List ℤ) (l : Strand) (m : MarkedPolynomial) → HasNonzero a → IsStrandAlong a l → SamePolynomial m.poly (strand_member a l).poly →
    m.head ≡ l.mark → coefficient m.poly m.head ≡ one_ℚ
twin_monic a l m n h s e = s m.head ∙ ap (coefficient (strand_member a l).poly) e ∙ (strand_marked a l n h).monic

pub terms_end : (a : List ℤ) (l : Strand) (i : ℕ) (f : Terms) → length l.rest.items ≤ i →
    f ≡ record { coef = one_ℚ; mono = l.mark } ∷ strand_terms a l.mark (take i l.rest.items) → f ≡ (strand_member a l).poly
terms_end a l i f n e = e ∙ ap (λ (z : List Point). record { coef = one_ℚ; mono = l.mark } ∷ strand_terms a l.mark z) (take_all i l.rest.items n)

-- ---- the lifts, as the code has them

pub lifted_front : (n : ℕ) (bs : List MarkedPolynomial) (a : List ℤ) (xs : List Exponents) (ms : List MarkedPolynomial) (flags : List Bool) (i p : ℕ)
    (b : MarkedPolynomial) (old new : List MarkedPolynomial) (before after : List Bool) → HasSomeWeight bs → HaveVariables n bs →
    length flags ≡ length (with_monomials xs ms) → i < length xs → IsAloneAt a bs p (get_or xs i []) → b ≡ get_or bs p b →
    IsAddedWhere (get_or flags i false) b old new → IsAddedWhere (get_or flags i false) true before after → AreLiftedTo n bs a (with_monomials xs ms)
    flags i old before → AreLiftedTo n bs a (with_monomials xs ms) flags (i + 1) new after
lifted_front n bs a xs ms flags i p b old new before after w v e l o q m c h =
    lifted_to-more n bs a (with_monomials xs ms) flags i (monomial_member (get_or xs i [])) (get_or flags i false) old new before after
    (omega (arith, l, e, joined_length xs ms)) refl
    (front_at xs ms i (get_or xs i []) l (get_or_default xs i [] (get_or xs i []) l)) (copy_lifted n bs a p (get_or xs i []) b (get_or flags i false)
    old new before after w v o q m c) h

pub lifted_behind : (n : ℕ) (bs : List MarkedPolynomial) (a : List ℤ) (xs : List Exponents) (ms : List MarkedPolynomial) (flags : List Bool) (j : ℕ)
    (b : MarkedPolynomial) (old new : List MarkedPolynomial) (before after : List Bool) → length flags ≡ length (with_monomials xs ms) → j < length ms →
    b ≡ get_or ms j b → IsLiftedWhere (get_or flags (length xs + j) false) n bs a b old new before after → AreLiftedTo n bs a (with_monomials xs ms) flags
    (length xs + j) old before → AreLiftedTo n bs a (with_monomials xs ms) flags (length xs + (j + 1)) new after
lifted_behind n bs a xs ms flags j b old new before after e l q k h =
    subst (λ (i : ℕ). AreLiftedTo n bs a (with_monomials xs ms) flags i new after) next
    (lifted_to-more n bs a (with_monomials xs ms) flags (length xs + j) b (get_or flags (length xs + j) false) old new before after
    (omega (arith, l, e, joined_length xs ms)) refl (behind_at xs ms j b (member_at ms j b l q)) k h)
  where
    next : (length xs + j) + 1 ≡ length xs + (j + 1)
    next = omega arith

-- the same of a strand
pub lifted_strand : (n : ℕ) (bs : List MarkedPolynomial) (a : List ℤ) (xs : List Exponents) (ls : List Strand) (flags : List Bool) (j : ℕ) (l : Strand)
    (old new : List MarkedPolynomial) (before after : List Bool) → length flags ≡ length (with_monomials xs (strand_members a ls)) → j < length ls →
    l ≡ get_or ls j l → IsLiftedWhere (get_or flags (length xs + j) false) n bs a (strand_member a l) old new before after →
    AreLiftedTo n bs a (with_monomials xs (strand_members a ls)) flags (length xs + j) old before → AreLiftedTo n bs a (with_monomials xs (strand_members a ls))
    flags (length xs + (j + 1)) new after
lifted_strand n bs a xs ls flags j l old new before after e m q k h =
    lifted_behind n bs a xs (strand_members a ls) flags j (strand_member a l) old new before after e (omega (arith, m, length-map ls (strand_member a)))
    (ap (strand_member a) q ∙ sym (get_or-map (strand_member a) ls j l (strand_member a l) m)) k h
