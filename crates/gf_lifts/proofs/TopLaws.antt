-- Lifts that end once nothing is left along the normal, as the code works them out.
-- To cite: reducible_there, SeekingStrand, seeking_more, Topping, topping-none, topping_shares, topping_more,
-- off_more, off_end, top_remainder_at, top_there, top_lift_at, divided_by, top_twin, divided_lift, AreTopping, topping_push,
-- AreToppingBefore, before-more.
use Rattle.std.specs.declared.option.Option.{Option}
use Rattle.std.proofs.Common.{◌≡◌, ◌≢◌, ℕ, ◌+◌, ◌<◌, ◌≤◌, true, Some, None, IfSome, List, [], ◌∷◌, ◌++◌, length, take, get_or, Contains, ℤ, pos, ◌+ℤ◌}
use Rattle.std.proofs.Common.{◌*ℤ◌, arith, refl, sym, ap, ◌∙◌, subst, inl, inr}
use Rattle.std.proofs.lemmas.List.{take_more, take_all, append_assoc}
use Rattle.gf_int_theory.proofs.RingLaws.{dv, dn, ◌⊕◌, ◌⊗◌, same as same_number}
use Rattle.gf_frac.specs.Fraction.{Fraction, ◌+ℚ◌, ◌*ℚ◌, neg_ℚ, reciprocal_ℚ, zero_ℚ, one_ℚ}
use Rattle.gf_frac.proofs.FractionLaws.{zero_or_not, +ℚ-zero, +ℚ-neg_ℚ, +ℚ_assoc, +ℚ_comm, *ℚ-one, one-*ℚ, *ℚ_assoc, reciprocal_ℚ-*ℚ, zero-*ℚ, neg_ℚ-*ℚ}
use Rattle.gf_exponents_theory.specs.Exponents.{Exponents, same, entry}
use Rattle.gf_exponents_theory.proofs.ExponentsLaws.{same-refl}
use Rattle.gf_poly.specs.declared.Term.{Term}
use Rattle.gf_poly.specs.Monomial.{IsMonomial}
use Rattle.gf_poly.specs.Polynomial.{Terms, coefficient, SamePolynomial, times, HasVariables, IsDescending, KeepsVariables, KeepsBothVariables}
use Rattle.gf_poly.specs.Marking.{MarkedPolynomial, Each, HaveVariables, head_of, HasMarkedTerm}
use Rattle.gf_poly.specs.Sums.{IsDifference}
use Rattle.gf_poly.specs.Products.{HasProducts, IsScaled}
use Rattle.gf_poly.proofs.CoefficientLaws.{term_coefficient}
use Rattle.gf_division.proofs.TailLaws.{head_at}
use Rattle.gf_ideal_theory.proofs.StepLaws.{reached_trans}
use Rattle.gf_poly.proofs.ProductLaws.{IsScaled-products, KeepsVariables-scaled}
use Rattle.gf_poly.proofs.MarkingLaws.{nonzero_reciprocal, head_of-times}
use Rattle.gf_ideal_theory.specs.Membership.{HasMonomial}
use Rattle.gf_ideal_theory.specs.Reduction.{Reached, HasOneMonomial}
use Rattle.gf_ideal_theory.specs.OrderTable.{AreMultipleApart}
use Rattle.gf_ideal_theory.proofs.ListLaws.{Each-++}
use Rattle.gf_ideal_theory.proofs.ListedTerms.{listed}
use Rattle.gf_ideal_theory.proofs.Identities.{one_not_zero}
use Rattle.gf_division.specs.Dividends.{Split, joined_terms, IsSound, IsTermInFront, PassesOne}
use Rattle.gf_division.specs.NormalForms.{HasSomeWeight}
use Rattle.gf_poly.proofs.PolynomialLaws.{coefficient-same, coefficient-++, coefficient-times}
use Rattle.gf_division.specs.Reducers.{IsDivisorAt, IsReducibleFirst, ShareVariables}
use Rattle.gf_division.specs.Remainders.{IsWorkedOn}
use Rattle.gf_division.proofs.DividendLaws.{terms_down, first_length}
use Rattle.gf_division.proofs.RuleLaws.{keeps_along, sound_same}
use Rattle.gf_division.proofs.RemainderLaws.{reached_by}
use Rattle.gf_division.proofs.StepLaws.{head_length}
use Rattle.gf_initial_theory.specs.Lifts.{IsTopLift, AreTopLifts}
use Rattle.gf_initial_theory.proofs.DifferenceLaws.{difference, less_zero, less_summand}
use Rattle.gf_initial_theory.proofs.ClassLaws.{multiple-grading}
use Rattle.gf_initial_theory.proofs.MatchingLaws.{matched-push}
use Rattle.gf_strands.specs.Along.{HasNonzero}
use Rattle.gf_lifts.specs.Tops.{AreOff, IsTopRemainder, IsQuotientAt}
use Rattle.gf_strands.specs.Splits.{IsAlone}

-- ---- the search

-- the terms are the same after some moves, and sound
pub record SeekingStrand (n : ℕ) (old new : Split) : Type 0 where
  pub same : joined_terms new ≡ joined_terms old
  pub sound : IsSound n new

pub seeking_more : (n : ℕ) (old now new : Split) → PassesOne now new → SeekingStrand n old now → SeekingStrand n old new
seeking_more n old now new w k = let e = terms_down now new w in record { same = e ∙ k.same; sound = sound_same n now new e k.sound }

pub first_width : (n : ℕ) (old s : Split) (t : Term) → IsTermInFront s.below t → SeekingStrand n old s → length t.mono ≡ n
first_width n old s t f k = first_length n s t k.sound f

-- the member that reduces the first term, if there is one
pub reducible_there : (bs : List MarkedPolynomial) (s : Split) (t : Term) (o : Option ℕ) → IsTermInFront s.below t → IsMonomial t.mono →
    IfSome o (IsDivisorAt bs t.mono) → IfSome o (IsReducibleFirst bs None s)
reducible_there bs s t (Some j) f m d = record { term = t; is = f; divisor = d; beside = tt; monomial = m }
reducible_there bs s t None f m d = tt

-- ---- the steps

-- what holds after some steps
pub record Topping (n : ℕ) (bs : List MarkedPolynomial) (f : Terms) (s : Split) : Type 0 where
  pub reached : Reached (Contains bs) f (joined_terms s)
  pub sound : IsSound n s
  pub kept : KeepsVariables f (joined_terms s)

pub topping-none : (n : ℕ) (bs : List MarkedPolynomial) (f : Terms) (s : Split) → HasVariables n f → IsDescending f →
    s ≡ record { above = []; below = f } → Topping n bs f s
topping-none n bs f s v d e = subst (Topping n bs f) (sym e) (record {
  reached = Reached.here f (λ x. refl);
  sound = record { descending = d; variables = v };
  kept = record { at = λ n h. h };
})

pub topping_shares : (n : ℕ) (bs : List MarkedPolynomial) (f : Terms) (old s : Split) → joined_terms s ≡ joined_terms old → HaveVariables n bs →
    Topping n bs f old → ShareVariables s bs None
topping_shares n bs f old s e m h = record { n = n; sound = sound_same n old s e h.sound; members = m; spare = tt }

pub topping_more : (n : ℕ) (bs : List MarkedPolynomial) (f : Terms) (old s u : Split) → joined_terms s ≡ joined_terms old → Topping n bs f old →
    IsWorkedOn bs None s u → Topping n bs f u
topping_more n bs f old s u e h k = record {
  reached = reached_trans (Contains bs) f (joined_terms s) (joined_terms u) (subst (Reached (Contains bs) f) (sym e) h.reached)
      (reached_by bs None (joined_terms s) (joined_terms u) k.reached);
  sound = record { descending = k.variables.sound.descending; variables = k.kept.at n (subst (HasVariables n) (sym e) h.sound.variables) };
  kept = record { at = λ m v. k.kept.at m (subst (HasVariables m) (sym e) (h.kept.at m v)) };
}

-- ---- the end

-- the terms before i are off the strand
abbrev pub AreOffBefore : List ℤ → Exponents → ℕ → Terms → Type 0
AreOffBefore a x i f = Each (λ (t : Term). AreMultipleApart a t.mono x → ⊥) (take i f)

pub off_more : (a : List ℤ) (x y z : Exponents) (i : ℕ) (f : Terms) (t : Term) → i < length f → t ≡ get_or f i t → y ≡ t.mono → z ≡ x →
    (AreMultipleApart a y z → ⊥) → AreOffBefore a x i f → AreOffBefore a x (i + 1) f
off_more a x y z i f t l e ey ez o h = subst (Each (λ (t : Term). AreMultipleApart a t.mono x → ⊥))
    (sym (take_more f i t l ∙ ap (λ (w : Term). take i f ++ w ∷ []) (sym e))) (Each-++ (λ (t : Term). AreMultipleApart a t.mono x → ⊥) (take i f) (t ∷ []) h
    (λ m. o (subst (λ (u : Exponents). AreMultipleApart a u z) (sym ey) (subst (λ (u : Exponents). AreMultipleApart a t.mono u) (sym ez) m)), tt))

pub off_end : (a : List ℤ) (x : Exponents) (i : ℕ) (f : Terms) → length f ≤ i → AreOffBefore a x i f → AreOff a x f
off_end a x i f l h = subst (Each (λ (t : Term). AreMultipleApart a t.mono x → ⊥)) (take_all i f l) h

-- what is left has the variables
pub left_variables : (n : ℕ) (bs : List MarkedPolynomial) (f r g : Terms) (old s : Split) → joined_terms s ≡ joined_terms old → r ≡ joined_terms s → g ≡ r →
    Topping n bs f old → HasVariables n g
left_variables n bs f r g old s e q d h = subst (HasVariables n) (sym (d ∙ q ∙ e)) h.sound.variables

pub top_remainder_at : (n : ℕ) (bs : List MarkedPolynomial) (a : List ℤ) (x : Exponents) (f r g : Terms) (old s : Split) → joined_terms s ≡ joined_terms old →
    r ≡ joined_terms s → g ≡ r → AreOff a x g → Topping n bs f old → IsTopRemainder bs a x f r
top_remainder_at n bs a x f r g old s e q d o h = record {
  reached = subst (Reached (Contains bs) f) (sym (q ∙ e)) h.reached;
  off = subst (AreOff a x) d o;
  kept = keeps_along f (joined_terms old) r (q ∙ e) h.kept;
  descending = subst IsDescending (sym (q ∙ e)) h.sound.descending;
}

-- ---- one lift

off_monomial : (a : List ℤ) (nz : HasNonzero a) (x : Exponents) (r : Terms) → AreOff a x r → (y : Exponents) → HasMonomial r y → AreMultipleApart a y x → ⊥
off_monomial a nz x r o y m h = at (listed (λ (t : Term). AreMultipleApart a t.mono x → ⊥) r y o m)
  where
    at : (t : Term) × (AreMultipleApart a t.mono x → ⊥) × (same y t.mono ≡ true) → ⊥
    at t = let g = multiple-grading a nz in t.1 (g.transitive t.0.mono y x (g.symmetric y t.0.mono (g.along y t.0.mono t.2)) h)

zero_apart : (a : List ℤ) (x : Exponents) → AreMultipleApart a x x
zero_apart a x = (pos 0, λ i. still (pos (entry x i)) (get_or a i (pos 0)))
  where
    still : (y z : ℤ) → y ≡ y +ℤ pos 0 *ℤ z
    still y z = same_number (dv y) (dv y ⊕ dn 0 ⊗ dv z) (omega arith)

-- the mark is a monomial of the difference
pub top_there : (bs : List MarkedPolynomial) (a : List ℤ) (nz : HasNonzero a) (h : MarkedPolynomial) (f g r p t : Terms) (x y : Exponents) →
    coefficient h.poly h.head ≡ one_ℚ → f ≡ h.poly → g ≡ h.poly → x ≡ h.head → y ≡ h.head → IsTopRemainder bs a x f r → IsDifference g r p → t ≡ p →
    HasMonomial t y
top_there bs a nz h f g r p t x y one ef eg ex ey k d q z =
    one_not_zero (sym (d h.head ∙ ap (λ c. c +ℚ neg_ℚ (coefficient r h.head)) (ap (λ (w : Terms). coefficient w h.head) eg ∙ one) ∙ ap (λ c. one_ℚ +ℚ neg_ℚ c)
    none ∙ less_zero one_ℚ)
    ∙ ap (λ (w : Terms). coefficient w h.head) (sym q) ∙ ap (coefficient t) (sym ey) ∙ z)
  where
    none : coefficient r h.head ≡ zero_ℚ
    none = elim (zero_or_not (coefficient r h.head)) [
      | inl w ↦ w
      | inr m ↦ absurd (off_monomial a nz x r k.off h.head m (subst (λ (u : Exponents). AreMultipleApart a h.head u) (sym ex) (zero_apart a h.head)))
    ]

-- the difference has the variables
pub top_variables : (bs : List MarkedPolynomial) (a : List ℤ) (n : ℕ) (x : Exponents) (h : MarkedPolynomial) (f g r p : Terms) → f ≡ h.poly → g ≡ h.poly →
    HasVariables n h.poly → IsTopRemainder bs a x f r → KeepsBothVariables g r p → HasVariables n p
top_variables bs a n x h f g r p ef eg v k b = b.at n (subst (HasVariables n) (sym eg) v) (k.kept.at n (subst (HasVariables n) (sym ef) v))

pub top_index : (bs : List MarkedPolynomial) (a : List ℤ) (n : ℕ) (h : MarkedPolynomial) (f g r p t : Terms) (x y : Exponents) → f ≡ h.poly → g ≡ h.poly →
    HasVariables n h.poly → IsTopRemainder bs a x f r → KeepsBothVariables g r p → t ≡ p → y ≡ h.head → HasMarkedTerm h → HasVariables (length y) t
top_index bs a n h f g r p t x y ef eg v k b q ey m =
    let l : n ≡ length y = sym (ap (λ (z : Exponents). length z) ey ∙ head_length n h v m) in
    subst (λ (z : Terms). HasVariables (length y) z) (sym q) (subst (λ (z : ℕ). HasVariables z p) l (top_variables bs a n x h f g r p ef eg v k b))

-- so it is such a lift
pub top_lift_at : (bs : List MarkedPolynomial) (a : List ℤ) (nz : HasNonzero a) (h l : MarkedPolynomial) (f g r p t : Terms) (x y : Exponents) (i : ℕ) →
    f ≡ h.poly → g ≡ h.poly → x ≡ h.head → IsTopRemainder bs a x f r → IsDifference g r p → t ≡ p → y ≡ h.head → head_of t i ≡ y →
    l ≡ record { poly = p; head = head_of p i } → IsTopLift bs a h l
top_lift_at bs a nz h l f g r p t x y i ef eg ex k d q ey m o = record {
  remainder = r;
  reached = subst (λ (w : Terms). Reached (Contains bs) w r) ef k.reached;
  off = λ u n b. off_monomial a nz x r k.off u n (subst (λ (w : Exponents). AreMultipleApart a u w) (sym ex) b);
  head = ap (λ (w : MarkedPolynomial). w.head) o ∙ ap (λ (w : Terms). head_of w i) (sym q) ∙ m ∙ ey;
  poly = λ u. ap (λ (w : MarkedPolynomial). coefficient w.poly u) o ∙ d u ∙ ap (λ (w : Terms). coefficient w u +ℚ neg_ℚ (coefficient r u)) eg ∙
      sym (difference h.poly r u);
}

-- in the variables
pub top_lifted_variables : (bs : List MarkedPolynomial) (a : List ℤ) (n : ℕ) (h l : MarkedPolynomial) (f g r p : Terms) (x : Exponents) (i : ℕ) → f ≡ h.poly →
    g ≡ h.poly → HasVariables n h.poly → IsTopRemainder bs a x f r → KeepsBothVariables g r p → l ≡ record { poly = p; head = head_of p i } →
    HasVariables n l.poly
top_lifted_variables bs a n h l f g r p x i ef eg v k b o = subst (HasVariables n) (sym (ap (λ (z : MarkedPolynomial). z.poly) o))
    (top_variables bs a n x h f g r p ef eg v k b)

-- ---- members that the crossing does not touch

-- a monomial less the step by a member with its mark is that member
pub untouched_at : (bs : List MarkedPolynomial) (a : List ℤ) (h b l : MarkedPolynomial) → coefficient h.poly h.head ≡ one_ℚ →
    coefficient b.poly b.head ≡ one_ℚ → HasOneMonomial h → Contains bs b → b.head ≡ h.head → IsAlone a b → l ≡ b → IsTopLift bs a h l
untouched_at bs a h b l one unit single c e alone q = subst (IsTopLift bs a h) (sym q) (record {
  remainder = rest;
  reached = Reached.next h.poly rest (Reached.here h.poly (λ x. refl)) (record {
    at = h.head;
    member = b;
    rest = [];
    contained = c;
    there = λ z. one_not_zero (sym one ∙ z);
    divides = subst (λ (z : Exponents). same h.head z ≡ true) (sym e) (same-refl h.head);
    equal = λ x. ap (λ k. coefficient (h.poly ++ times (neg_ℚ k) [] b.poly) x) (sym one);
  });
  off = λ x m p. elim (zero_or_not (coefficient b.poly x)) [
    | inl z ↦ elim (zero_or_not (coefficient h.poly x)) [
      | inl w ↦ m (difference h.poly b.poly x ∙ ap (λ k. k +ℚ neg_ℚ (coefficient b.poly x)) w ∙ ap (λ k. zero_ℚ +ℚ neg_ℚ k) z ∙ less_zero zero_ℚ)
      | inr n ↦ one_not_zero (sym unit ∙ sym (coefficient-same b.poly x b.head (subst (λ (y : Exponents). same x y ≡ true) (sym e) (single x n))) ∙ z)
    ]
    | inr n ↦ let s = alone x n (subst (λ (y : Exponents). AreMultipleApart a x y) (sym e) p) in
        m (difference h.poly b.poly x ∙ ap (λ k. k +ℚ neg_ℚ (coefficient b.poly x))
        (coefficient-same h.poly x h.head (subst (λ (y : Exponents). same x y ≡ true) e s) ∙ one) ∙ ap (λ k. one_ℚ +ℚ neg_ℚ k)
        (coefficient-same b.poly x b.head s ∙ unit) ∙ +ℚ-neg_ℚ one_ℚ)
  ];
  head = e;
  poly = λ x. back (coefficient h.poly x) (coefficient b.poly x) ∙ ap (λ k. coefficient h.poly x +ℚ neg_ℚ k) (sym (difference h.poly b.poly x)) ∙
      sym (difference h.poly rest x);
})
  where
    rest : Terms
    rest = h.poly ++ times (neg_ℚ one_ℚ) [] b.poly

    back : (p q : Fraction) → q ≡ p +ℚ neg_ℚ (p +ℚ neg_ℚ q)
    back p q = sym (less_summand q (p +ℚ neg_ℚ q) p (sym (+ℚ_comm q (p +ℚ neg_ℚ q) ∙ +ℚ_assoc p (neg_ℚ q) q ∙
        ap (λ z. p +ℚ z) (+ℚ_comm (neg_ℚ q) q ∙ +ℚ-neg_ℚ q) ∙ +ℚ-zero p)))

-- ---- members whose parts are only marked elsewhere

-- a member divided by its coefficient at an index, and marked there
pub divided_by : (b l : MarkedPolynomial) (f h : Terms) (t : Term) (i : ℕ) (x : Exponents) → f ≡ b.poly → IsDescending f → HasVariables (length x) b.poly →
    i < length f → t ≡ get_or f i t → t.coef ≢ zero_ℚ → HasProducts (reciprocal_ℚ t.coef) [] b.poly h → head_of f i ≡ x →
    l ≡ record { poly = h; head = head_of h i } → IsQuotientAt b x l
divided_by b l f h t i x e d v w r n p q o = subst (IsQuotientAt b x) (sym o) (record {
  there = λ z. n (sym value ∙ z);
  scaled = subst (λ (k : Fraction). IsScaled (reciprocal_ℚ k) b.poly h) (sym value) (IsScaled-products (reciprocal_ℚ t.coef) b.poly h p);
  head = ap (λ (z : Terms). head_of z i) (p.nonzero (nonzero_reciprocal t.coef n)) ∙ head_of-times (reciprocal_ℚ t.coef) b.poly i ∙
      ap (λ (z : Terms). head_of z i) (sym e) ∙ q;
  variables = KeepsVariables-scaled (reciprocal_ℚ t.coef) b.poly h p;
})
  where
    at : t.mono ≡ x
    at = sym (head_at f i t w r) ∙ q

    value : coefficient b.poly x ≡ t.coef
    value = ap (coefficient b.poly) (sym at) ∙ term_coefficient (length x) b.poly t v (subst IsDescending e d)
        (subst (λ (z : Terms). Contains z t) e (i, w, sym r))

-- the lift of a polynomial is that of each one that is the same, with the same mark
pub top_twin : (bs : List MarkedPolynomial) (a : List ℤ) (h k l : MarkedPolynomial) → SamePolynomial h.poly k.poly → h.head ≡ k.head → IsTopLift bs a h l →
    IsTopLift bs a k l
top_twin bs a h k l s e t = record {
  remainder = t.remainder;
  reached = reached_trans (Contains bs) k.poly h.poly t.remainder (Reached.here h.poly (λ x. sym (s x))) t.reached;
  off = λ x m p. t.off x m (subst (AreMultipleApart a x) (sym e) p);
  head = t.head ∙ e;
  poly = λ x. t.poly x ∙ coefficient-++ h.poly (times (neg_ℚ one_ℚ) [] t.remainder) x ∙ ap (λ z. z +ℚ coefficient (times (neg_ℚ one_ℚ) [] t.remainder) x)
      (s x) ∙ sym (coefficient-++ k.poly (times (neg_ℚ one_ℚ) [] t.remainder) x);
}

-- where the terms of b that are multiples of a apart from the mark of h are c times those of h, b divided by c is the lift of h: h less a step by b
pub divided_lift : (bs : List MarkedPolynomial) (a : List ℤ) (h b l : MarkedPolynomial) → coefficient h.poly h.head ≡ one_ℚ →
    coefficient b.poly b.head ≡ one_ℚ → Contains bs b → AreMultipleApart a b.head h.head → IsQuotientAt b h.head l →
    ((x : Exponents) → AreMultipleApart a x h.head → coefficient b.poly h.head *ℚ coefficient h.poly x ≡ coefficient b.poly x) → IsTopLift bs a h l
divided_lift bs a h b l one unit c apart d p = record {
  remainder = rest;
  reached = Reached.next h.poly rest (Reached.here h.poly (λ x. refl)) (record {
    at = b.head;
    member = b;
    rest = [];
    contained = c;
    there = λ z. nonzero (sym q ∙ z);
    divides = same-refl b.head;
    equal = λ x. refl;
  });
  off = λ x m s. m (value x ∙ ap (λ k. k +ℚ neg_ℚ (coefficient l.poly x)) (on x s) ∙ +ℚ-neg_ℚ (coefficient l.poly x));
  head = d.head;
  poly = λ x. back (coefficient h.poly x) (coefficient l.poly x) ∙ ap (λ k. coefficient h.poly x +ℚ neg_ℚ k) (sym (value x)) ∙ sym (difference h.poly rest x);
}
  where
    rest : Terms
    rest = h.poly ++ times (neg_ℚ (coefficient h.poly b.head)) [] b.poly

    factor : Fraction
    factor = reciprocal_ℚ (coefficient b.poly h.head)

    on : (x : Exponents) → AreMultipleApart a x h.head → coefficient h.poly x ≡ coefficient l.poly x
    on x s = sym (one-*ℚ (coefficient h.poly x)) ∙ ap (λ k. k *ℚ coefficient h.poly x) (sym (reciprocal_ℚ-*ℚ (coefficient b.poly h.head) d.there))
        ∙ *ℚ_assoc factor (coefficient b.poly h.head) (coefficient h.poly x) ∙ ap (λ k. factor *ℚ k) (p x s) ∙ sym (d.scaled x)

    q : coefficient h.poly b.head ≡ factor
    q = on b.head apart ∙ d.scaled b.head ∙ ap (λ k. factor *ℚ k) unit ∙ *ℚ-one factor

    nonzero : factor ≡ zero_ℚ → ⊥
    nonzero z = one_not_zero (sym (reciprocal_ℚ-*ℚ (coefficient b.poly h.head) d.there) ∙ ap (λ k. k *ℚ coefficient b.poly h.head) z ∙
        zero-*ℚ (coefficient b.poly h.head))

    value : (x : Exponents) → coefficient rest x ≡ coefficient h.poly x +ℚ neg_ℚ (coefficient l.poly x)
    value x = coefficient-++ h.poly (times (neg_ℚ (coefficient h.poly b.head)) [] b.poly) x
        ∙ ap (λ k. coefficient h.poly x +ℚ k) (coefficient-times (neg_ℚ (coefficient h.poly b.head)) [] b.poly x ∙ neg_ℚ-*ℚ (coefficient h.poly b.head)
        (coefficient b.poly x) ∙ ap (λ k. neg_ℚ (k *ℚ coefficient b.poly x)) q ∙ ap neg_ℚ (sym (d.scaled x)))

    back : (p q : Fraction) → q ≡ p +ℚ neg_ℚ (p +ℚ neg_ℚ q)
    back p q = sym (less_summand q (p +ℚ neg_ℚ q) p (sym (+ℚ_comm q (p +ℚ neg_ℚ q) ∙ +ℚ_assoc p (neg_ℚ q) q ∙
        ap (λ z. p +ℚ z) (+ℚ_comm (neg_ℚ q) q ∙ +ℚ-neg_ℚ q) ∙ +ℚ-zero p)))

-- a monic member
pub monic_member : (bs : List MarkedPolynomial) (b : MarkedPolynomial) (j : ℕ) → HasSomeWeight bs → j < length bs → b ≡ get_or bs j b →
    coefficient b.poly b.head ≡ one_ℚ
monic_member bs b j w l e = (w.1 b (j, l, sym e)).monic

-- ---- all lifts

pub record AreTopping (n : ℕ) (bs : List MarkedPolynomial) (a : List ℤ) (hs ls : List MarkedPolynomial) : Type 0 where
  pub lifts : AreTopLifts bs a hs ls
  pub variables : HaveVariables n ls

pub topping_push : (n : ℕ) (bs : List MarkedPolynomial) (a : List ℤ) (hs : List MarkedPolynomial) (h l : MarkedPolynomial) (old new : List MarkedPolynomial) →
    IsTopLift bs a h l → HasVariables n l.poly → new ≡ old ++ l ∷ [] → AreTopping n bs a hs old → AreTopping n bs a (hs ++ h ∷ []) new
topping_push n bs a hs h l old new t v e s = record {
  lifts = subst (λ (z : List MarkedPolynomial). AreTopLifts bs a (hs ++ h ∷ []) z) (sym e) (matched-push (IsTopLift bs a) hs old h l s.lifts t);
  variables = subst (HaveVariables n) (sym e) (Each-++ (λ (b : MarkedPolynomial). HasVariables n b.poly) old (l ∷ []) s.variables (v, tt));
}

-- so it is with those of hs before what is left
pub record AreToppingBefore (n : ℕ) (bs : List MarkedPolynomial) (a : List ℤ) (hs left ls : List MarkedPolynomial) : Type 0 where
  pub done : List MarkedPolynomial
  pub split : done ++ left ≡ hs
  pub topping : AreTopping n bs a done ls

pub before-more : (n : ℕ) (bs : List MarkedPolynomial) (a : List ℤ) (hs left next : List MarkedPolynomial) (h l : MarkedPolynomial)
    (old new : List MarkedPolynomial) → left ≡ h ∷ next → IsTopLift bs a h l → HasVariables n l.poly → new ≡ old ++ l ∷ [] →
    AreToppingBefore n bs a hs left old → AreToppingBefore n bs a hs next new
before-more n bs a hs left next h l old new e t v q s = record {
  done = s.done ++ h ∷ [];
  split = append_assoc s.done (h ∷ []) next ∙ ap (λ (z : List MarkedPolynomial). s.done ++ z) (sym e) ∙ s.split;
  topping = topping_push n bs a s.done h l old new t v q s.topping;
}
