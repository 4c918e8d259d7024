-- Runs of Buchberger's algorithm on one polynomial none of whose monomials divides another: they have one member, and add no
-- exponents but those of the polynomial to 0.
-- To cite: IsAmong, closed-among, reached_within, shift_short, step_short, tail_within, IsFormOf, form-among, work_forms, run_short.
use Rattle.std.proofs.Common.{◌≡◌, ◌⊎◌, ℕ, ◌+◌, ◌<◌, ◌≤◌, ◌^◌, true, List, [], ◌∷◌, ◌++◌, length, Contains, max, arith, sym, ap, ap₂, ◌∙◌, subst, inl, inr}
use Rattle.gf_frac.specs.Fraction.{◌+ℚ◌, ◌*ℚ◌, neg_ℚ, one_ℚ}
use Rattle.gf_frac.proofs.FractionLaws.{one-*ℚ, *ℚ-zero, neg_ℚ-*ℚ, +ℚ-neg_ℚ, *ℚ_cancel}
use Rattle.gf_exponents_theory.specs.Exponents.{Exponents, entry, same, plus, join}
use Rattle.gf_exponents_theory.specs.Orders.{IsStrict}
use Rattle.gf_exponents_theory.specs.SixOrders.{MonomialOrder, below_of}
use Rattle.gf_exponents_theory.proofs.ExponentsLaws.{same-refl, same_flip, same_trans, same_shift_right, same_by_entries, entries_same, entry-join, cancel}
use Rattle.gf_exponents_theory.proofs.SixOrdersLaws.{order-is}
use Rattle.gf_int_theory.proofs.ListLaws.{Contains-here, Contains-last}
use Rattle.gf_poly.specs.Polynomial.{Terms, coefficient, SamePolynomial, times}
use Rattle.gf_poly.specs.Marking.{MarkedPolynomial}
use Rattle.gf_poly.proofs.PolynomialLaws.{coefficient-++, coefficient-same}
use Rattle.gf_ideal_theory.specs.Membership.{HasMonomial}
use Rattle.gf_ideal_theory.specs.Marks.{IsMarked}
use Rattle.gf_ideal_theory.specs.Operands.{AreThese, IsShiftOperation, IsStepExponents}
use Rattle.gf_ideal_theory.specs.Reduction.{IsDivisible, IsStep, Reached, IsSPolynomial, IsMonicForm}
use Rattle.gf_ideal_theory.specs.WorkLists.{IsOrigin, IsWorkList, IsTail, IsRunExponents}
use Rattle.gf_ideal_theory.proofs.ListLaws.{Contains-cases}
use Rattle.gf_ideal_theory.proofs.StepLaws.{IsClosed, IsWithin, reached-one, taken, monic-monomials}
use Rattle.gf_ideal_theory.proofs.TermLaws.{coefficient-times-one}
use Rattle.gf_binomials_theory.specs.Antichains.{IsAntichain, HasShortExponents}

-- ---- members with monomials of f

pub record IsAmong (f : Terms) (b : MarkedPolynomial) : Type 0 where
  pub head : HasMonomial f b.head
  pub within : IsWithin (HasMonomial f) b.poly

abbrev pub AreAmong : Terms → List MarkedPolynomial → Type 0
AreAmong f bs = (b : MarkedPolynomial) → Contains bs b → IsAmong f b

pub there_along : (f : Terms) (x y : Exponents) → same x y ≡ true → HasMonomial f x → HasMonomial f y
there_along f x y s h = λ z. h (coefficient-same f x y s ∙ z)

-- raised to a monomial of f, a mark is as it was
pub unraised : (f : Terms) (u : Exponents) (b : MarkedPolynomial) → IsAntichain f → IsAmong f b → HasMonomial f (plus u b.head) → same u [] ≡ true
unraised f u b a m h = a.apart u b.head (plus u b.head) m.head h (same-refl (plus u b.head))

pub closed-among : (f : Terms) (bs : List MarkedPolynomial) → IsAntichain f → AreAmong f bs → IsClosed (Contains bs) (HasMonomial f)
closed-among f bs a m = record {
  along = there_along f;
  lower = λ b c u t n h. there_along f t (plus u t) (same_flip (plus u t) t (same_shift_right t u [] (unraised f u b a (m b c) h))) ((m b c).within t n);
}

pub reached_within : (f : Terms) (bs : List MarkedPolynomial) (g h : Terms) → IsAntichain f → AreAmong f bs → IsWithin (HasMonomial f) g →
    Reached (Contains bs) g h → IsWithin (HasMonomial f) h
reached_within f bs g h a m w r = (taken (Contains bs) (HasMonomial f) g h (closed-among f bs a m) w r).within

pub shift_short : (f : Terms) (u : Exponents) (b : MarkedPolynomial) (left right : ℕ) → HasShortExponents f → IsAmong f b → same u [] ≡ true →
    IsShiftOperation u b.poly left right → left + right < 2 ^ 31
shift_short f u b left right l m s k = these k.operands
  where
    none : entry u k.variable ≡ 0
    none = entries_same u [] s k.variable

    short : entry k.monomial k.variable < 2 ^ 31
    short = l k.monomial (m.within k.monomial k.there) k.variable

    these : AreThese (entry u k.variable) (entry k.monomial k.variable) left right → left + right < 2 ^ 31
    these (inl p) = omega (arith, p.0, p.1, none, short)
    these (inr p) = omega (arith, p.0, p.1, none, short)

pub step_short : (f : Terms) (bs : List MarkedPolynomial) (g : Terms) (at : Exponents) (left right : ℕ) → IsAntichain f → HasShortExponents f → AreAmong f bs →
    IsWithin (HasMonomial f) g → IsStepExponents (Contains bs) g at left right → left + right < 2 ^ 31
step_short f bs g at left right a l m w o =
    let d = m o.member o.index.contained in
    shift_short f o.rest o.member left right l d (unraised f o.rest o.member a d (there_along f at (plus o.rest o.member.head) o.index.divides
    (w at o.index.there))) o.sum

pub tail_within : (f : Terms) (bs : List MarkedPolynomial) (b : MarkedPolynomial) → IsAntichain f → AreAmong f bs → IsTail bs b →
    IsWithin (HasMonomial f) b.poly
tail_within f bs b a m (IsTail.member d c) = (m b c).within
tail_within f bs c a m (IsTail.step b d t h s n) = reached_within f bs b.poly c.poly a m (tail_within f bs b a m t) (reached-one (Contains bs) b.poly c.poly s)

-- ---- monic forms of f

pub record IsFormOf (below : Exponents → Exponents → Type 0) (f : Terms) (b : MarkedPolynomial) : Type 0 where
  pub form : IsMonicForm f b
  pub marked : IsMarked below b

abbrev pub AreFormsOf : (Exponents → Exponents → Type 0) → Terms → List MarkedPolynomial → Type 0
AreFormsOf below f bs = (b : MarkedPolynomial) → Contains bs b → IsFormOf below f b

pub form_to : (f : Terms) (b : MarkedPolynomial) (x : Exponents) → IsMonicForm f b → HasMonomial f x → HasMonomial b.poly x
form_to f b x m n = λ z. n (sym (m.equation x) ∙ ap (λ c. coefficient f b.head *ℚ c) z ∙ *ℚ-zero (coefficient f b.head))

pub form-among : (f : Terms) (b : MarkedPolynomial) → IsMonicForm f b → IsAmong f b
form-among f b m = record { head = m.there; within = λ x n. monic-monomials f b m x n }

-- two of them have the same mark
pub forms_alike : (below : Exponents → Exponents → Type 0) (f : Terms) (b c : MarkedPolynomial) → IsStrict below → IsFormOf below f b → IsFormOf below f c →
    same c.head b.head ≡ true
forms_alike below f b c o p q = at (p.marked.tail c.head (form_to f b c.head p.form q.form.there))
    (q.marked.tail b.head (form_to f c b.head q.form p.form.there))
  where
    at : (same c.head b.head ≡ true) ⊎ below c.head b.head → (same b.head c.head ≡ true) ⊎ below b.head c.head → same c.head b.head ≡ true
    at (inl s) k = s
    at (inr l) (inl s) = same_flip b.head c.head s
    at (inr l) (inr k) = absurd (o.irreflexive b.head b.head (same-refl b.head) (o.transitive b.head c.head b.head k l))

-- ---- what steps and S-polynomials leave

-- g is f, or zero
abbrev IsWhole : Terms → Terms → Type 0
IsWhole f g = SamePolynomial g f ⊎ SamePolynomial g []

step_whole : (below : Exponents → Exponents → Type 0) (f : Terms) (bs : List MarkedPolynomial) (g h : Terms) → IsAntichain f → AreFormsOf below f bs →
    IsWhole f g → IsStep (Contains bs) g h → IsWhole f h
step_whole below f bs g h a m (inr z) s = absurd (s.there (z s.at))
step_whole below f bs g h a m (inl e) s = inr (λ y.
    s.equal y
    ∙ coefficient-++ g (times (neg_ℚ (coefficient g s.at)) s.rest s.member.poly) y
    ∙ ap₂ (λ p q. p +ℚ q) (e y) (coefficient-times-one (neg_ℚ (coefficient g s.at)) s.rest s.member.poly y none
    ∙ ap (λ c. neg_ℚ c *ℚ coefficient s.member.poly y) (e s.at ∙ coefficient-same f s.at s.member.head here)
    ∙ neg_ℚ-*ℚ (coefficient f s.member.head) (coefficient s.member.poly y) ∙ ap neg_ℚ (d.form.equation y))
    ∙ +ℚ-neg_ℚ (coefficient f y))
  where
    d : IsFormOf below f s.member
    d = m s.member s.contained

    there : HasMonomial f s.at
    there z = s.there (e s.at ∙ z)

    none : same s.rest [] ≡ true
    none = unraised f s.rest s.member a (form-among f s.member d.form) (there_along f s.at (plus s.rest s.member.head) s.divides there)

    here : same s.at s.member.head ≡ true
    here = same_trans s.at (plus s.rest s.member.head) s.member.head s.divides (same_shift_right s.member.head s.rest [] none)

reached_whole : (below : Exponents → Exponents → Type 0) (f : Terms) (bs : List MarkedPolynomial) (g h : Terms) → IsAntichain f → AreFormsOf below f bs →
    IsWhole f g → Reached (Contains bs) g h → IsWhole f h
reached_whole below f bs g h a m (inl e) (Reached.here k q) = inl (λ y. sym (q y) ∙ e y)
reached_whole below f bs g h a m (inr z) (Reached.here k q) = inr (λ y. sym (q y) ∙ z y)
reached_whole below f bs g h a m w (Reached.next k l r s) = step_whole below f bs k h a m (reached_whole below f bs g k a m w r) s

-- the marks of two forms are their least common multiple
join_alike : (b c : MarkedPolynomial) → same c.head b.head ≡ true → same (join b.head c.head) b.head ≡ true
join_alike b c s = same_by_entries (join b.head c.head) b.head (λ i. entry-join b.head c.head i ∙ ap (λ z. max (entry b.head i) z)
    (entries_same c.head b.head s i) ∙ omega arith)

raised_none : (b c : MarkedPolynomial) (u v : Exponents) → same c.head b.head ≡ true → same v b.head ≡ true → same (plus u v) (join b.head c.head) ≡ true →
    same u [] ≡ true
raised_none b c u v s t h =
    cancel v u [] (same_trans (plus u v) (join b.head c.head) v h (same_trans (join b.head c.head) b.head v (join_alike b c s) (same_flip v b.head t)))

forms_equal : (f : Terms) (b c : MarkedPolynomial) → IsMonicForm f b → IsMonicForm f c → same c.head b.head ≡ true → SamePolynomial b.poly c.poly
forms_equal f b c p q s x = *ℚ_cancel (coefficient f b.head) (coefficient b.poly x) (coefficient c.poly x) p.there
    (p.equation x ∙ sym (q.equation x) ∙ ap (λ z. z *ℚ coefficient c.poly x) (coefficient-same f c.head b.head s))

s_polynomial_none : (below : Exponents → Exponents → Type 0) (f : Terms) (b c : MarkedPolynomial) (s : Terms) → IsStrict below → IsFormOf below f b →
    IsFormOf below f c → IsSPolynomial b c s → SamePolynomial s []
s_polynomial_none below f b c s o p q h y =
    h.equal y
    ∙ coefficient-++ (times one_ℚ h.left b.poly) (times (neg_ℚ one_ℚ) h.right c.poly) y
    ∙ ap₂ (λ x z. x +ℚ z)
    (coefficient-times-one one_ℚ h.left b.poly y (raised_none b c h.left b.head alike (same-refl b.head) h.of_left) ∙ one-*ℚ (coefficient b.poly y))
    (coefficient-times-one (neg_ℚ one_ℚ) h.right c.poly y (raised_none b c h.right c.head alike alike h.of_right) ∙ neg_ℚ-*ℚ one_ℚ (coefficient c.poly y) ∙
    ap neg_ℚ (one-*ℚ (coefficient c.poly y) ∙ sym (forms_equal f b c p.form q.form alike y)))
    ∙ +ℚ-neg_ℚ (coefficient b.poly y)
  where
    alike : same c.head b.head ≡ true
    alike = forms_alike below f b c o p q

-- ---- lists of a run

origin_whole : (below : Exponents → Exponents → Type 0) (f : Terms) (bs : List MarkedPolynomial) (g : Terms) → IsStrict below → AreFormsOf below f bs →
    IsOrigin (f ∷ []) bs g → IsWhole f g
origin_whole below f bs g o m (inl c) = at (Contains-cases f g [] c)
  where
    at : (f ≡ g) ⊎ Contains [] g → IsWhole f g
    at (inl q) = inl (λ y. ap (λ (z : Terms). coefficient z y) (sym q))
    at (inr k) = absurd (omega (arith, k.1))
origin_whole below f bs g o m (inr (b, c, k, l, h)) = inr (s_polynomial_none below f b c g o (m b k) (m c l) h)

form_whole : (f g : Terms) (b : MarkedPolynomial) → IsWhole f g → IsMonicForm g b → IsMonicForm f b
form_whole f g b (inl e) m = record {
  there = λ z. m.there (e b.head ∙ z);
  equation = λ x. ap (λ c. c *ℚ coefficient b.poly x) (sym (e b.head)) ∙ m.equation x ∙ e x;
}
form_whole f g b (inr z) m = absurd (m.there (z b.head))

first_form : (below : Exponents → Exponents → Type 0) (f : Terms) (bs : List MarkedPolynomial) (b : MarkedPolynomial) → IsStrict below → AreFormsOf below f bs →
    IsFormOf below f b → (IsDivisible (Contains bs) b.head → ⊥) → length (bs ++ b ∷ []) ≤ 1
first_form below f [] b o m p n = omega arith
first_form below f (c ∷ bs) b o m p n =
    absurd (n (record { member = c; contained = Contains-here c bs; rest = []; divides = forms_alike below f c b o (m c (Contains-here c bs)) p }))

pub work_forms : (order : MonomialOrder) (f : Terms) (bs : List MarkedPolynomial) → IsAntichain f → IsWorkList (f ∷ []) (below_of order) bs →
    AreFormsOf (below_of order) f bs × (length bs ≤ 1)
work_forms order f cs a IsWorkList.start = (λ b c. absurd (omega (arith, c.1)), omega arith)
work_forms order f cs a (IsWorkList.more bs g h b w o r q m n) = at (work_forms order f bs a w).0
  where
    strict : IsStrict (below_of order)
    strict = (order-is order).strict

    at : AreFormsOf (below_of order) f bs → AreFormsOf (below_of order) f (bs ++ b ∷ []) × (length (bs ++ b ∷ []) ≤ 1)
    at forms = (λ c k. by c (Contains-last bs b c k), first_form (below_of order) f bs b strict forms new n)
      where
        new : IsFormOf (below_of order) f b
        new = record {
          form = form_whole f h b (reached_whole (below_of order) f bs g h a forms (origin_whole (below_of order) f bs g strict forms o) r) q;
          marked = m;
        }

        by : (c : MarkedPolynomial) → Contains bs c ⊎ (c ≡ b) → IsFormOf (below_of order) f c
        by c (inl k) = forms c k
        by c (inr e) = subst (IsFormOf (below_of order) f) (sym e) new

work_among : (order : MonomialOrder) (f : Terms) (bs : List MarkedPolynomial) → IsAntichain f → IsWorkList (f ∷ []) (below_of order) bs → AreAmong f bs
work_among order f bs a w b c = form-among f b ((work_forms order f bs a w).0 b c).form

whole_within : (f g : Terms) → IsWhole f g → IsWithin (HasMonomial f) g
whole_within f g (inl e) x n = λ z. n (e x ∙ z)
whole_within f g (inr z) x n = absurd (n (z x))

-- ---- sums of exponents

pub run_short : (order : MonomialOrder) (f : Terms) (left right : ℕ) → IsAntichain f → HasShortExponents f →
    IsRunExponents (f ∷ []) (below_of order) left right → left + right < 2 ^ 31
run_short order f left right a l (IsRunExponents.step bs g w o h) =
    let m = work_among order f bs a w in
    step_short f bs h.from h.at left right a l m
    (reached_within f bs g h.from a m (whole_within f g (origin_whole (below_of order) f bs g (order-is order).strict (work_forms order f bs a w).0 o))
    h.reached) h.sum
run_short order f left right a l (IsRunExponents.s_polynomial bs b c w k m h) = at h.sum
  where
    p : IsFormOf (below_of order) f b
    p = (work_forms order f bs a w).0 b k

    q : IsFormOf (below_of order) f c
    q = (work_forms order f bs a w).0 c m

    alike : same c.head b.head ≡ true
    alike = forms_alike (below_of order) f b c (order-is order).strict p q

    at : IsShiftOperation h.of_b b.poly left right ⊎ IsShiftOperation h.of_c c.poly left right → left + right < 2 ^ 31
    at (inl s) = shift_short f h.of_b b left right l (form-among f b p.form) (raised_none b c h.of_b b.head alike (same-refl b.head) h.shift_b) s
    at (inr s) = shift_short f h.of_c c left right l (form-among f c q.form) (raised_none b c h.of_c c.head alike alike h.shift_c) s
run_short order f left right a l (IsRunExponents.tail bs b at w t n h) =
    let m = work_among order f bs a w in step_short f bs b.poly at left right a l m (tail_within f bs b a m t) h
