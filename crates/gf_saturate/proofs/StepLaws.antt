-- The lists that the code makes are those of the laws.
-- To cite: mapped-from, extended, extended-ring, left_over-are, left_over-ring, member-back, length-last, to_eliminate, reduced_of,
-- contains_at, if_told. The rest are steps.
use Rattle.std.specs.Prelude.{◌≡◌, ◌⊎◌, ℕ, zero, suc, ◌+◌, ◌<◌, ◌≤◌, ◌==◌, Bool, true, false, if◌then◌else◌, List, [], ◌∷◌, ◌++◌, map, take, length, replicate}
use Rattle.std.specs.Prelude.{Contains, ℤ, pos, All, unsigned_abs, ◌^◌, Result, Ok, Err, IfErr}
use Rattle.std.proofs.Common.{arith, refl, sym, ap, ◌∙◌, subst, inl, inr, append_assoc, length-append, set, get_or}
use Rattle.std.proofs.lemmas.Bool.Decides.{nat_tests}
use Rattle.std.proofs.lemmas.List.{take_more, take_more_set, take-replicate, length-replicate}
use Rattle.std.proofs.lemmas.List.Elements.{All-push, All-replicate}
use Rattle.gf_frac.specs.Fraction.{◌+ℚ◌, zero_ℚ, one_ℚ, neg_ℚ}
use Rattle.gf_exponents_theory.specs.Exponents.{Exponents, entry, same, plus}
use Rattle.gf_exponents_theory.specs.Orders.{IsWeightedBelow, gains}
use Rattle.gf_exponents_theory.specs.SixOrders.{MonomialOrder}
use Rattle.gf_exponents_theory.proofs.ExponentsLaws.{same-sym, same_along, same_by_entries, eq_by, entry-plus}
use Rattle.gf_int_theory.proofs.ListLaws.{Contains-here, Contains-last}
use Rattle.gf_poly.specs.declared.Term.{Term}
use Rattle.gf_poly.specs.Polynomial.{Terms, coefficient, SamePolynomial, HasVariables}
use Rattle.gf_poly.specs.Marking.{MarkedPolynomial, MarkedPolynomials, Each}
use Rattle.gf_poly.proofs.MonomialLaws.{entry-ones}
use Rattle.gf_ideal_theory.specs.Membership.{IsInVariables}
use Rattle.gf_ideal_theory.specs.Bases.{IsReducedBasisFor}
use Rattle.gf_ideal_theory.proofs.ListLaws.{Contains-there, Contains-cases, each_contained}
use Rattle.gf_ideal_theory.proofs.ListedTerms.{variables_by_terms}
use Rattle.gf_ideal_theory.proofs.KeptForms.{term_there}
use Rattle.gf_order.specs.Weights.{AreBounded}
use Rattle.gf_buchberger.specs.Tasks.{HaveRingVariables}
use Rattle.gf_buchberger.specs.declared.queue.Strategy.TheVariants.{Degree}
use Rattle.gf_buchberger.specs.Ruled.{AreRuledRunsWithinLimits}
use Rattle.gf_buchberger.specs.Bases.{IsArrangedBasis, IsBasisRefusal, IsWantOfMemory}
use Rattle.gf_buchberger.specs.declared.bases.BasisError.{BasisError}
use Rattle.gf_saturation_theory.specs.Saturations.{next_variable, rabinowitsch, AreExtended, AreLeftOver, last_weight}
use Rattle.gf_saturation_theory.proofs.EliminationLaws.{free_by_head, bound_by_head}
use Rattle.gf_saturate.specs.Saturating.{IsToldRefusal, IsToEliminate, step_order}
use Rattle.gf_saturate.specs.Widening.{widened_term, narrowed_term, rabinowitsch_terms, extended_list, left_over}
use Rattle.gf_saturate.proofs.WideningLaws.{same-widened, variables-widened, variables-narrowed, narrowed-back}

-- ---- the extended list

mapped-contains : (change : Terms → Terms) (fs : List Terms) (f : Terms) → Contains fs f → Contains (map change fs) (change f)
mapped-contains change [] f c = absurd (omega (arith, c.1))
mapped-contains change (g ∷ fs) f c = at (Contains-cases g f fs c) (λ k. mapped-contains change fs f k)
  where
    at : (g ≡ f) ⊎ Contains fs f → (Contains fs f → Contains (map change fs) (change f)) → Contains (change g ∷ map change fs) (change f)
    at (inl e) r = subst (λ (z : Terms). Contains (change g ∷ map change fs) (change z)) e (Contains-here (change g) (map change fs))
    at (inr k) r = Contains-there (change g) (change f) (map change fs) (r k)

pub mapped-from : (change : Terms → Terms) (fs : List Terms) (g : Terms) → Contains (map change fs) g → (f : Terms) × Contains fs f × (change f ≡ g)
mapped-from change [] g c = absurd (omega (arith, c.1))
mapped-from change (h ∷ fs) g c = at (Contains-cases (change h) g (map change fs) c) (λ k. mapped-from change fs g k)
  where
    at : (change h ≡ g) ⊎ Contains (map change fs) g → (Contains (map change fs) g → (f : Terms) × Contains fs f × (change f ≡ g)) →
        (f : Terms) × Contains (h ∷ fs) f × (change f ≡ g)
    at (inl e) r = (h, Contains-here h fs, e)
    at (inr k) r = let q = r k in (q.0, Contains-there h q.0 fs q.1, q.2)

front : (xs ys : List Terms) (f : Terms) → Contains xs f → Contains (xs ++ ys) f
front [] ys f c = absurd (omega (arith, c.1))
front (x ∷ xs) ys f c = at (Contains-cases x f xs c) (λ k. front xs ys f k)
  where
    at : (x ≡ f) ⊎ Contains xs f → (Contains xs f → Contains (xs ++ ys) f) → Contains (x ∷ xs ++ ys) f
    at (inl e) r = subst (λ (z : Terms). Contains (z ∷ xs ++ ys) f) (sym e) (Contains-here f (xs ++ ys))
    at (inr k) r = Contains-there x f (xs ++ ys) (r k)

last : (xs : List Terms) (f : Terms) → Contains (xs ++ f ∷ []) f
last [] f = Contains-here f []
last (x ∷ xs) f = Contains-there x f (xs ++ f ∷ []) (last xs f)

-- the relation as it is kept is the relation
relation-same : (n : ℕ) (u : Exponents) → length u ≡ n → SamePolynomial (rabinowitsch n u) (rabinowitsch_terms u)
relation-same n u l e =
    ap (λ b. (if b then one_ℚ else zero_ℚ) +ℚ ((if same e [] then neg_ℚ one_ℚ else zero_ℚ) +ℚ zero_ℚ)) (along e (plus u (next_variable n))
    (u ++ 1 ∷ []) (same_by_entries (plus u (next_variable n)) (u ++ 1 ∷ []) (λ i. entry-plus u (next_variable n) i ∙ tail u n i l)))
    ∙ ap (λ b. (if same e (u ++ 1 ∷ []) then one_ℚ else zero_ℚ) +ℚ ((if b then neg_ℚ one_ℚ else zero_ℚ) +ℚ zero_ℚ)) (along e [] (replicate (length u + 1) 0)
    (same_by_entries [] (replicate (length u + 1) 0) (λ i. sym (entry-ones (length u + 1) i))))
  where
    along : (e x y : Exponents) → same x y ≡ true → same e x ≡ same e y
    along e x y h = same-sym e x ∙ same_along x y e h ∙ same-sym y e

    tail : (u : Exponents) (n i : ℕ) → length u ≡ n → entry u i + entry (next_variable n) i ≡ entry (u ++ 1 ∷ []) i
    tail [] zero zero l = omega arith
    tail [] zero (suc i) l = omega arith
    tail [] (suc n) i l = absurd (omega arith)
    tail (a ∷ u) zero i l = absurd (omega arith)
    tail (a ∷ u) (suc n) zero l = omega arith
    tail (a ∷ u) (suc n) (suc i) l = tail u n i (omega arith)

pub extended : (n : ℕ) (u : Exponents) (fs : List Terms) → length u ≡ n → AreExtended n u fs (extended_list u fs)
extended n u fs l = record {
  each = λ f c. (
    map widened_term f,
    front (map (map widened_term) fs) (rabinowitsch_terms u ∷ []) (map widened_term f)
        (mapped-contains (map widened_term) fs f c),
    same-widened f,
  );
  trick = (rabinowitsch_terms u, last (map (map widened_term) fs) (rabinowitsch_terms u), relation-same n u l);
  only = λ g c. at g (Contains-last (map (map widened_term) fs) (rabinowitsch_terms u) g c);
}
  where
    at : (g : Terms) → Contains (map (map widened_term) fs) g ⊎ (g ≡ rabinowitsch_terms u) →
        ((f : Terms) × Contains fs f × SamePolynomial f g) ⊎ SamePolynomial (rabinowitsch n u) g
    at g (inl k) = let q = mapped-from (map widened_term) fs g k in inl (q.0, q.1, λ e. same-widened q.0 e ∙ ap (λ z. coefficient z e) q.2)
    at g (inr e) = inr (λ x. relation-same n u l x ∙ ap (λ z. coefficient z x) (sym e))

pub extended-ring : (n : ℕ) (u : Exponents) (fs : List Terms) → length u ≡ n → HaveRingVariables n fs → HaveRingVariables (n + 1) (extended_list u fs)
extended-ring n u fs l v = record { each = λ g c. at g (Contains-last (map (map widened_term) fs) (rabinowitsch_terms u) g c) }
  where
    none : ℕ
    none = 0

    long : (n : ℕ) → length (replicate n none) ≡ n
    long zero = refl
    long (suc n) = omega (arith, long n)

    at : (g : Terms) → Contains (map (map widened_term) fs) g ⊎ (g ≡ rabinowitsch_terms u) → HasVariables (n + 1) g
    at g (inl k) = let q = mapped-from (map widened_term) fs g k in subst (HasVariables (n + 1)) q.2 (variables-widened n q.0 (v.each q.0 q.1))
    at g (inr e) = subst (HasVariables (n + 1)) (sym e) (omega (arith, length-append u (1 ∷ []), l), (omega (arith, long (length u + 1), l), tt))

-- ---- what is left over

pub left_over-push : (n : ℕ) (bs : List MarkedPolynomial) (b : MarkedPolynomial) →
    left_over n (bs ++ b ∷ []) ≡ left_over n bs ++ (if entry b.head n == 0 then (map (narrowed_term n) b.poly ∷ []) else [])
left_over-push n [] b = nothing (if entry b.head n == 0 then (map (narrowed_term n) b.poly ∷ []) else [])
  where
    nothing : (xs : List Terms) → xs ++ [] ≡ xs
    nothing [] = refl
    nothing (x ∷ xs) = ap (λ z. x ∷ z) (nothing xs)
left_over-push n (a ∷ bs) b = ap (λ z. (if entry a.head n == 0 then (map (narrowed_term n) a.poly ∷ []) else []) ++ z) (left_over-push n bs b) ∙
    sym (append_assoc (if entry a.head n == 0 then (map (narrowed_term n) a.poly ∷ []) else []) (left_over n bs)
    (if entry b.head n == 0 then (map (narrowed_term n) b.poly ∷ []) else []))

in_one_more : (n : ℕ) (f : Terms) → HasVariables (n + 1) f → IsInVariables (suc n) f
in_one_more n f v = let e : n + 1 ≡ suc n = omega arith in subst (λ k. IsInVariables k f) e (variables_by_terms (n + 1) f v)

-- a member that is kept has nothing of the last variable in any term
pub member-back : (n : ℕ) (bs : List MarkedPolynomial) (b : MarkedPolynomial) → IsToEliminate n bs → Contains bs b → (entry b.head n == 0) ≡ true →
    map widened_term (map (narrowed_term n) b.poly) ≡ b.poly
member-back n bs b h c z = narrowed-back n b.poly (h.variables b c) listed
  where
    free : IsInVariables n b.poly
    free = free_by_head n b (in_one_more n b.poly (h.variables b c)) (h.marked b c) (eq_by (entry b.head n) 0 z)

    listed : Each (λ (t : Term). entry t.mono n ≡ 0) b.poly
    listed = each_contained (λ (t : Term). entry t.mono n ≡ 0) b.poly (λ t i. free t.mono (term_there (n + 1) b.poly t (h.variables b c) (h.descending b c) i) n
        (omega arith))

pub not_equal : (a b : ℕ) → (a == b) ≡ false → a ≡ b → ⊥
not_equal a b h e = let t : (a == b) ≡ true = ap (λ z. z == b) e ∙ same_number b in absurd (cc)
  where
    same_number : (b : ℕ) → (b == b) ≡ true
    same_number b = grind (arith, nat_tests)

pub left_over-are : (n : ℕ) (all bs : List MarkedPolynomial) → IsToEliminate n all → ((b : MarkedPolynomial) → Contains bs b → Contains all b) →
    AreLeftOver n bs (left_over n bs)
left_over-are n all [] h k = record { each = λ b c v. absurd (omega (arith, c.1)); only = λ g c. absurd (omega (arith, c.1)) }
left_over-are n all (a ∷ bs) h k = at (entry a.head n == 0) refl (left_over-are n all bs h (λ b c. k b (Contains-there a b bs c)))
  where
    inside : Contains all a
    inside = k a (Contains-here a bs)

    at : (b : Bool) → (entry a.head n == 0) ≡ b → AreLeftOver n bs (left_over n bs) →
        AreLeftOver n (a ∷ bs) ((if b then (map (narrowed_term n) a.poly ∷ []) else []) ++ left_over n bs)
    at true z r = record {
      each = λ b c v. there b (Contains-cases a b bs c) v;
      only = λ g c. back g (Contains-cases g_first g (left_over n bs) c);
    }
      where
        g_first : Terms
        g_first = map (narrowed_term n) a.poly

        first_same : SamePolynomial a.poly g_first
        first_same e = ap (λ f. coefficient f e) (sym (member-back n all a h inside z)) ∙ sym (same-widened g_first e)

        there : (b : MarkedPolynomial) → (a ≡ b) ⊎ Contains bs b → IsInVariables n b.poly →
            (g : Terms) × Contains (g_first ∷ left_over n bs) g × SamePolynomial b.poly g
        there b (inl q) v = (g_first, Contains-here g_first (left_over n bs), λ e. ap (λ c. coefficient c.poly e) (sym q) ∙ first_same e)
        there b (inr c) v = let g = r.each b c v in (g.0, Contains-there g_first g.0 (left_over n bs) g.1, g.2)

        back : (g : Terms) → (g_first ≡ g) ⊎ Contains (left_over n bs) g →
            (b : MarkedPolynomial) × Contains (a ∷ bs) b × IsInVariables n b.poly × SamePolynomial b.poly g
        back g (inl q) = (
          a,
          Contains-here a bs,
          free_by_head n a (in_one_more n a.poly (h.variables a inside)) (h.marked a inside)
              (eq_by (entry a.head n) 0 z),
          λ e. first_same e ∙ ap (λ f. coefficient f e) q,
        )
        back g (inr c) = let b = r.only g c in (b.0, Contains-there a b.0 bs b.1, b.2, b.3)
    at false z r = record {
      each = λ b c v. there b (Contains-cases a b bs c) v;
      only = λ g c. let b = r.only g c in (b.0, Contains-there a b.0 bs b.1, b.2, b.3);
    }
      where
        there : (b : MarkedPolynomial) → (a ≡ b) ⊎ Contains bs b → IsInVariables n b.poly → (g : Terms) × Contains (left_over n bs) g × SamePolynomial b.poly g
        there b (inl q) v =
            absurd (not_equal (entry a.head n) 0 z (bound_by_head n a (h.marked a inside) (subst (λ (c : MarkedPolynomial). IsInVariables n c.poly) (sym q) v)))
        there b (inr c) v = r.each b c v

pub left_over-ring : (n : ℕ) (bs : List MarkedPolynomial) → ((b : MarkedPolynomial) → Contains bs b → HasVariables (n + 1) b.poly) →
    HaveRingVariables n (left_over n bs)
left_over-ring n [] v = record { each = λ f c. absurd (omega (arith, c.1)) }
left_over-ring n (a ∷ bs) v = at (entry a.head n == 0) (left_over-ring n bs (λ b c. v b (Contains-there a b bs c)))
  where
    at : (b : Bool) → HaveRingVariables n (left_over n bs) → HaveRingVariables n ((if b then (map (narrowed_term n) a.poly ∷ []) else []) ++ left_over n bs)
    at true r = record { each = λ f c. one f (Contains-cases (map (narrowed_term n) a.poly) f (left_over n bs) c) }
      where
        one : (f : Terms) → (map (narrowed_term n) a.poly ≡ f) ⊎ Contains (left_over n bs) f → HasVariables n f
        one f (inl e) = subst (HasVariables n) e (variables-narrowed n a.poly (v a (Contains-here a bs)))
        one f (inr c) = r.each f c
    at false r = r

-- ---- the weight

pub gains-last : (n : ℕ) → gains (replicate n (pos 0) ++ pos 1 ∷ []) ≡ last_weight n
gains-last zero = refl
gains-last (suc n) = ap (λ z. 0 ∷ z) (gains-last n)

pub length-last : (n : ℕ) → length (last_weight n) ≡ n + 1
length-last zero = omega arith
length-last (suc n) = omega (arith, length-last n)

one_at_last : (n m : ℕ) → n < m → take (n + 1) (set (replicate m (pos 0)) n (pos 1)) ≡ replicate n (pos 0) ++ pos 1 ∷ []
one_at_last n m l = take_more_set (replicate m (pos 0)) n (pos 1) (omega (arith, length-replicate m (pos 0), l)) ∙
    ap (λ (z : List ℤ). z ++ pos 1 ∷ []) (take-replicate n m (pos 0) (omega (arith, l)))

pub entries-all : (P : ℤ → Type 0) → P (pos 0) → P (pos 1) → (n m : ℕ) → n < m → All P (take (n + 1) (set (replicate m (pos 0)) n (pos 1)))
entries-all P h k n m l = subst (All P) (sym (one_at_last n m l)) (All-push P (replicate n (pos 0)) (pos 1) (All-replicate P n (pos 0) h) k)

pub entries-gains : (n m : ℕ) (w : List ℤ) → n < m → w ≡ take (n + 1) (set (replicate m (pos 0)) n (pos 1)) → gains w ≡ last_weight n
entries-gains n m w l e = ap gains (e ∙ one_at_last n m l) ∙ gains-last n

pub entries-long : (n m : ℕ) (w : List ℤ) → n < m → w ≡ take (n + 1) (set (replicate m (pos 0)) n (pos 1)) → length w ≡ n + 1
entries-long n m w l e = ap length (e ∙ one_at_last n m l) ∙ omega (arith, length-append (replicate n (pos 0)) (pos 1 ∷ []), length-replicate n (pos 0))

pub bounded-of : (n m : ℕ) (w : List ℤ) → n < m → w ≡ take (n + 1) (set (replicate m (pos 0)) n (pos 1)) → AreBounded w
bounded-of n m w l e = subst AreBounded (sym e) (entries-all (λ z. unsigned_abs z ≤ 2 ^ 63) (omega arith) (omega arith) n m l)

pub contains_at : {A : Type 0} (xs : List A) (i : ℕ) (x : A) → i < length xs → x ≡ get_or xs i x → Contains xs x
contains_at xs i x l e = (i, l, sym e)

pub kept-more : (n : ℕ) (bs : List MarkedPolynomial) (out next : List Terms) (i : ℕ) (b : MarkedPolynomial) (f : Terms) → i < length bs → b ≡ get_or bs i b →
    (entry b.head n == 0) ≡ true → f ≡ map (narrowed_term n) b.poly → next ≡ out ++ f ∷ [] → out ≡ left_over n (take i bs) →
    next ≡ left_over n (take (i + 1) bs)
kept-more n bs out next i b f l e z q h k =
    h ∙ ap (λ (z : List Terms). z ++ f ∷ []) k ∙ ap (λ (z : Terms). left_over n (take i bs) ++ z ∷ []) q
    ∙ ap (λ c. left_over n (take i bs) ++ (if c then (map (narrowed_term n) b.poly ∷ []) else [])) (sym z)
    ∙ sym (left_over-push n (take i bs) b)
    ∙ ap (left_over n) (sym (take_more bs i b l ∙ ap (λ (c : MarkedPolynomial). take i bs ++ c ∷ []) (sym e)))

pub kept-skip : (n : ℕ) (bs : List MarkedPolynomial) (out next : List Terms) (i : ℕ) (b : MarkedPolynomial) → i < length bs → b ≡ get_or bs i b →
    (entry b.head n == 0) ≡ false → next ≡ out → out ≡ left_over n (take i bs) → next ≡ left_over n (take (i + 1) bs)
kept-skip n bs out next i b l e z h k =
    h ∙ k ∙ sym (nothing (left_over n (take i bs)))
    ∙ ap (λ c. left_over n (take i bs) ++ (if c then (map (narrowed_term n) b.poly ∷ []) else [])) (sym z)
    ∙ sym (left_over-push n (take i bs) b)
    ∙ ap (left_over n) (sym (take_more bs i b l ∙ ap (λ (c : MarkedPolynomial). take i bs ++ c ∷ []) (sym e)))
  where
    nothing : (xs : List Terms) → xs ++ [] ≡ xs
    nothing [] = refl
    nothing (x ∷ xs) = ap (λ z. x ∷ z) (nothing xs)

pub arranged-as : (o p : MonomialOrder) (n : ℕ) (gs hs : List Terms) (s : MarkedPolynomials) → o ≡ p → gs ≡ hs → IsArrangedBasis o n gs s →
    IsArrangedBasis p n hs s
arranged-as o p n gs hs s e f b = subst (λ (q : MonomialOrder). IsArrangedBasis q n hs s) e (subst (λ (z : List Terms). IsArrangedBasis o n z s) f b)

pub refusal-as : (o p : MonomialOrder) (n k : ℕ) (gs hs : List Terms) (e : BasisError) → o ≡ p → gs ≡ hs → IsBasisRefusal o n gs k e → IsBasisRefusal p n hs k e
refusal-as o p n k gs hs e q f b = subst (λ (r : MonomialOrder). IsBasisRefusal r n hs k e) q (subst (λ (z : List Terms). IsBasisRefusal o n z k e) f b)

-- what a run tells of one order and list it tells of equal ones
pub if_told : {A : Type 0} (o p : MonomialOrder) (n k : ℕ) (gs hs : List Terms) (r : Result A BasisError) → o ≡ p → gs ≡ hs →
    IfErr r (IsBasisRefusal o n gs k) → (AreRuledRunsWithinLimits Degree o gs k → IfErr r IsWantOfMemory) → IfErr r (IsToldRefusal p n hs k)
if_told o p n k gs hs (Ok a) q f h w = tt
if_told o p n k gs hs (Err e) q f h w = (
  refusal-as o p n k gs hs e q f h,
  subst (λ (z : MonomialOrder). AreRuledRunsWithinLimits Degree z hs k → IsWantOfMemory e) q
      (subst (λ (z : List Terms). AreRuledRunsWithinLimits Degree o z k → IsWantOfMemory e) f w),
)

-- ---- what a step and the last basis give

pub to_eliminate : (n : ℕ) (gs : List Terms) (s : MarkedPolynomials) → IsArrangedBasis (step_order n) (n + 1) gs s → IsToEliminate n s.items
to_eliminate n gs s b = record {
  variables = λ c k. (b.arranged.canonical c k).variables;
  descending = λ c k. (b.arranged.canonical c k).descending;
  heads = λ c k. (b.arranged.canonical c k).head;
  marked = b.marked;
}

pub reduced_of : (n : ℕ) (gs : List Terms) (s : MarkedPolynomials) → IsArrangedBasis (step_order n) (n + 1) gs s →
    IsReducedBasisFor (suc n) gs (IsWeightedBelow (last_weight n)) s.items
reduced_of n gs s b = let e : n + 1 ≡ suc n = omega arith in subst (λ k. IsReducedBasisFor k gs (IsWeightedBelow (last_weight n)) s.items) e b.reduced
