-- Steps of reduction: what they take away, and that they stay in the ideal and in the variables.
-- To cite: the ruleset `steps` for loops, reached_trans, operation-reached, step-gone, member-reached, member-reached_back, variables-reached, taken (what
-- steps take
-- away is a sum of pieces inside any set of monomials that steps don't leave).
use Rattle.std.proofs.Common.{◌≡◌, ◌⊎◌, ℕ, true, List, [], ◌∷◌, ◌++◌, arith, refl, sym, ap, ◌∙◌, inl, inr}
use Rattle.gf_frac.specs.Fraction.{Fraction, reciprocal_ℚ, ◌+ℚ◌, ◌*ℚ◌, neg_ℚ, zero_ℚ, one_ℚ}
use Rattle.gf_frac.proofs.FractionLaws.{+ℚ_assoc, +ℚ-zero, +ℚ-neg_ℚ, *ℚ-one, *ℚ-zero, *ℚ_assoc, *ℚ_comm, zero-+ℚ, zero_or_not, one-*ℚ, *ℚ-reciprocal_ℚ}
use Rattle.gf_frac.specs.declared.refusal.Op.{Op}
use Rattle.gf_exponents_theory.specs.Exponents.{Exponents, plus, same, join, IsInRing}
use Rattle.gf_exponents_theory.specs.Orders.{IsStrict}
use Rattle.gf_exponents_theory.proofs.ExponentsLaws.{same_flip, same_shift, same_trans, entry-join}
use Rattle.gf_poly.specs.Polynomial.{Terms, coefficient, SamePolynomial, times}
use Rattle.gf_poly.specs.Marking.{MarkedPolynomial, Each}
use Rattle.gf_poly.proofs.PolynomialLaws.{coefficient-++, coefficient-same, coefficient-times, coefficient-factor}
use Rattle.gf_ideal_theory.specs.Membership.{HasMonomial, IsInVariables, AreInVariables, IsMember, Spans}
use Rattle.gf_ideal_theory.specs.Marks.{IsMarked, Piece, level, value}
use Rattle.gf_ideal_theory.specs.Reduction.{IsStep, Reached, IsSPolynomial, IsMonicForm}
use Rattle.gf_ideal_theory.specs.Operands.{IsReductionOperation, IsReductionExponents}
use Rattle.gf_ideal_theory.proofs.Identities.{back}
use Rattle.gf_ideal_theory.proofs.TermLaws.{found}
use Rattle.gf_ideal_theory.proofs.SpanLaws.{Spans-equal, Spans-++, Spans-times}
use Rattle.gf_ideal_theory.proofs.RingLaws.{ring-along, ring-left, ring-plus}
use Rattle.gf_ideal_theory.proofs.MembershipLaws.{variables-++, variables-times, variables-equal, variables_of_member, spans_of_member, member_of_spans}

-- ---- chains of steps

-- one chain after another
pub reached_trans : (by : MarkedPolynomial → Type 0) (f g h : Terms) → Reached by f g → Reached by g h → Reached by f h
reached_trans by f g h r (Reached.here k e) = onto r
  where
    onto : Reached by f g → Reached by f h
    onto (Reached.here j d) = Reached.here h (λ x. d x ∙ e x)
    onto (Reached.next j l q s) = Reached.next j h q (record {
      at = s.at;
      member = s.member;
      rest = s.rest;
      contained = s.contained;
      there = s.there;
      divides = s.divides;
      equal = λ x. sym (e x) ∙ s.equal x;
    })
reached_trans by f g h r (Reached.next j l q s) = Reached.next j l (reached_trans by f g j r q) s

-- no step
pub reached-here : (by : MarkedPolynomial → Type 0) (f : Terms) → Reached by f f
reached-here by f = Reached.here f (λ x. refl)

-- one step more
pub reached-next : (by : MarkedPolynomial → Type 0) (f g h : Terms) → Reached by f g → IsStep by g h → Reached by f h
reached-next by f g h r s = Reached.next g h r s

-- one step
pub reached-one : (by : MarkedPolynomial → Type 0) (f g : Terms) → IsStep by f g → Reached by f g
reached-one by f g s = Reached.next f g (Reached.here f (λ x. refl)) s

-- by more members
pub reached-more : (by kept : MarkedPolynomial → Type 0) (f g : Terms) → ((b : MarkedPolynomial) → by b → kept b) →
    Reached by f g → Reached kept f g
reached-more by kept f g h (Reached.here k e) = Reached.here k e
reached-more by kept f g h (Reached.next j l q s) = Reached.next j l (reached-more by kept f j h q)
    (record { at = s.at; member = s.member; rest = s.rest; contained = h s.member s.contained; there = s.there; divides = s.divides; equal = s.equal })

-- an operation of the reduction of what f reaches is one of the reduction of f
pub operation-reached : (by : MarkedPolynomial → Type 0) (f g : Terms) (op : Op) (left right : Fraction) →
    Reached by f g → IsReductionOperation by g op left right → IsReductionOperation by f op left right
operation-reached by f g op left right r o = record { from = o.from; reached = reached_trans by f g o.from r o.reached; at = o.at; operation = o.operation }

-- so are exponent sums
pub exponents-reached : (by : MarkedPolynomial → Type 0) (f g : Terms) (left right : ℕ) → Reached by f g →
    IsReductionExponents by g left right → IsReductionExponents by f left right
exponents-reached by f g left right r o = record { from = o.from; reached = reached_trans by f g o.from r o.reached; at = o.at; sum = o.sum }

-- ---- one step

-- a multiple has its factor at its mark
pub coefficient-mark : (c : Fraction) (u x : Exponents) (b : MarkedPolynomial) → coefficient b.poly b.head ≡ one_ℚ →
    same x (plus u b.head) ≡ true → coefficient (times c u b.poly) x ≡ c
coefficient-mark c u x b one s = coefficient-same (times c u b.poly) x (plus u b.head) s ∙ coefficient-times c u b.poly b.head ∙ ap (λ z. c *ℚ z) one ∙ *ℚ-one c

-- a step by a monic member takes its term away
pub step-gone : (by : MarkedPolynomial → Type 0) (f g : Terms) (s : IsStep by f g) →
    coefficient s.member.poly s.member.head ≡ one_ℚ → coefficient g s.at ≡ zero_ℚ
step-gone by f g s one =
    s.equal s.at ∙ coefficient-++ f (times (neg_ℚ (coefficient f s.at)) s.rest s.member.poly) s.at
    ∙ ap (λ z. coefficient f s.at +ℚ z) (coefficient-mark (neg_ℚ (coefficient f s.at)) s.rest s.at s.member one s.divides)
    ∙ +ℚ-neg_ℚ (coefficient f s.at)

-- what it took away, added back
pub step-back : (by : MarkedPolynomial → Type 0) (f g : Terms) (s : IsStep by f g) →
    SamePolynomial f (g ++ times (coefficient f s.at) s.rest s.member.poly)
step-back by f g s x =
    let c = coefficient f s.at in
    back (coefficient g x) (coefficient f x) c (coefficient (times one_ℚ s.rest s.member.poly) x)
    (s.equal x ∙ coefficient-++ f (times (neg_ℚ c) s.rest s.member.poly) x ∙ ap (λ z. coefficient f x +ℚ z) (coefficient-factor (neg_ℚ c)
    s.rest s.member.poly x))
    ∙ ap (λ z. coefficient g x +ℚ z) (sym (coefficient-factor c s.rest s.member.poly x))
    ∙ sym (coefficient-++ g (times c s.rest s.member.poly) x)

-- ---- steps by spanned members stay in the ideal, both ways

-- forwards
pub spans-reached : (fs : List Terms) (by : MarkedPolynomial → Type 0) (f g : Terms) →
    ((b : MarkedPolynomial) → by b → Spans fs b.poly) → Reached by f g → Spans fs f → Spans fs g
spans-reached fs by f g h (Reached.here k e) m = Spans-equal fs f g e m
spans-reached fs by f g h (Reached.next k l r s) m =
    Spans-equal fs (k ++ times (neg_ℚ (coefficient k s.at)) s.rest s.member.poly) g (λ e. sym (s.equal e))
    (Spans-++ fs k (times (neg_ℚ (coefficient k s.at)) s.rest s.member.poly) (spans-reached fs by f k h r m)
    (Spans-times fs s.member.poly (neg_ℚ (coefficient k s.at)) s.rest (h s.member s.contained)))

-- and backwards
pub spans-reached_back : (fs : List Terms) (by : MarkedPolynomial → Type 0) (f g : Terms) →
    ((b : MarkedPolynomial) → by b → Spans fs b.poly) → Reached by f g → Spans fs g → Spans fs f
spans-reached_back fs by f g h (Reached.here k e) m = Spans-equal fs g f (λ x. sym (e x)) m
spans-reached_back fs by f g h (Reached.next k l r s) m =
    spans-reached_back fs by f k h r
    (Spans-equal fs (g ++ times (coefficient k s.at) s.rest s.member.poly) k (λ x. sym (step-back by k g s x))
    (Spans-++ fs g (times (coefficient k s.at) s.rest s.member.poly) m (Spans-times fs s.member.poly (coefficient k s.at) s.rest (h s.member s.contained))))

-- ---- steps by members in n variables stay in n variables

-- what is reached is in the variables
pub variables-reached : (n : ℕ) (by : MarkedPolynomial → Type 0) (f g : Terms) →
    ((b : MarkedPolynomial) → by b → IsInVariables n b.poly) → IsInVariables n f → Reached by f g → IsInVariables n g
variables-reached n by f g h v (Reached.here k e) = variables-equal n f g e v
variables-reached n by f g h v (Reached.next k l r s) = at (variables-reached n by f k h v r)
  where
    at : IsInVariables n k → IsInVariables n g
    at w = variables-equal n (k ++ times (neg_ℚ (coefficient k s.at)) s.rest s.member.poly) g (λ x. sym (s.equal x))
        (variables-++ n k (times (neg_ℚ (coefficient k s.at)) s.rest s.member.poly) w
        (variables-times n (neg_ℚ (coefficient k s.at)) s.rest s.member.poly
        (ring-left n s.rest s.member.head (ring-along n s.at (plus s.rest s.member.head) s.divides (w s.at s.there))) (h s.member s.contained)))

-- ---- steps and members

-- what a member reaches is a member
pub member-reached : (n : ℕ) (fs : List Terms) (by : MarkedPolynomial → Type 0) (f g : Terms) → AreInVariables n fs →
    ((b : MarkedPolynomial) → by b → IsMember n fs b.poly) → Reached by f g → IsMember n fs f → IsMember n fs g
member-reached n fs by f g v h r m =
    member_of_spans n fs g v (variables-reached n by f g (λ b k. variables_of_member n fs b.poly v (h b k)) (variables_of_member n fs f v m) r)
    (spans-reached fs by f g (λ b k. spans_of_member n fs b.poly (h b k)) r (spans_of_member n fs f m))

-- and what reaches a member is one
pub member-reached_back : (n : ℕ) (fs : List Terms) (by : MarkedPolynomial → Type 0) (f g : Terms) →
    AreInVariables n fs → IsInVariables n f → ((b : MarkedPolynomial) → by b → IsMember n fs b.poly) → Reached by f g →
    IsMember n fs g → IsMember n fs f
member-reached_back n fs by f g v w h r m =
    member_of_spans n fs f v w (spans-reached_back fs by f g (λ b k. spans_of_member n fs b.poly (h b k)) r (spans_of_member n fs g m))

-- ---- monic forms

-- b is 1/c times f
pub monic-back : (f : Terms) (b : MarkedPolynomial) (q : IsMonicForm f b) (x : Exponents) →
    reciprocal_ℚ (coefficient f b.head) *ℚ coefficient f x ≡ coefficient b.poly x
monic-back f b q x =
    let c = coefficient f b.head in
    ap (λ z. reciprocal_ℚ c *ℚ z) (sym (q.equation x))
    ∙ sym (*ℚ_assoc (reciprocal_ℚ c) c (coefficient b.poly x))
    ∙ ap (λ z. z *ℚ coefficient b.poly x) (*ℚ_comm (reciprocal_ℚ c) c ∙ *ℚ-reciprocal_ℚ c q.there)
    ∙ one-*ℚ _

-- the monic form as a multiple
pub monic-times : (f : Terms) (b : MarkedPolynomial) → IsMonicForm f b →
    SamePolynomial b.poly (times (reciprocal_ℚ (coefficient f b.head)) [] f)
monic-times f b q x = sym (monic-back f b q x) ∙ sym (coefficient-times (reciprocal_ℚ (coefficient f b.head)) [] f x)

-- and back
pub times-monic : (f : Terms) (b : MarkedPolynomial) → IsMonicForm f b →
    SamePolynomial f (times (coefficient f b.head) [] b.poly)
times-monic f b q x = sym (q.equation x) ∙ sym (coefficient-times (coefficient f b.head) [] b.poly x)

-- spanned with it
pub spans-monic : (fs : List Terms) (f : Terms) (b : MarkedPolynomial) → IsMonicForm f b → Spans fs f → Spans fs b.poly
spans-monic fs f b q m = Spans-equal fs (times (reciprocal_ℚ (coefficient f b.head)) [] f) b.poly (λ x. sym (monic-times f b q x))
    (Spans-times fs f (reciprocal_ℚ (coefficient f b.head)) [] m)

-- and back
pub spans-of_monic : (fs : List Terms) (f : Terms) (b : MarkedPolynomial) → IsMonicForm f b → Spans fs b.poly →
    Spans fs f
spans-of_monic fs f b q m = Spans-equal fs (times (coefficient f b.head) [] b.poly) f (λ x. sym (times-monic f b q x))
    (Spans-times fs b.poly (coefficient f b.head) [] m)

-- its marked coefficient is 1
pub monic-one : (f : Terms) (b : MarkedPolynomial) → IsMonicForm f b → coefficient b.poly b.head ≡ one_ℚ
monic-one f b q = sym (monic-back f b q b.head) ∙ *ℚ_comm (reciprocal_ℚ (coefficient f b.head)) (coefficient f b.head) ∙ *ℚ-reciprocal_ℚ (coefficient f b.head)
    q.there

-- a monic form has the same monomials
pub monic-monomials : (f : Terms) (b : MarkedPolynomial) → IsMonicForm f b → (x : Exponents) → HasMonomial b.poly x →
    HasMonomial f x
monic-monomials f b q x m z = m (sym (monic-back f b q x) ∙ ap (λ c. reciprocal_ℚ (coefficient f b.head) *ℚ c) z ∙ *ℚ-zero _)

-- ---- S-polynomials stay in the ideal

-- spanned with both
pub spans-s_polynomial : (fs : List Terms) (b c : MarkedPolynomial) (s : Terms) → Spans fs b.poly → Spans fs c.poly →
    IsSPolynomial b c s → Spans fs s
spans-s_polynomial fs b c s h k q = Spans-equal fs (times one_ℚ q.left b.poly ++ times (neg_ℚ one_ℚ) q.right c.poly) s (λ e. sym (q.equal e))
    (Spans-++ fs (times one_ℚ q.left b.poly) (times (neg_ℚ one_ℚ) q.right c.poly) (Spans-times fs b.poly one_ℚ q.left h)
    (Spans-times fs c.poly (neg_ℚ one_ℚ) q.right k))

-- in the variables of both
pub variables-s_polynomial : (n : ℕ) (b c : MarkedPolynomial) (s : Terms) → IsInVariables n b.poly →
    IsInVariables n c.poly → HasMonomial b.poly b.head → HasMonomial c.poly c.head → IsSPolynomial b c s →
    IsInVariables n s
variables-s_polynomial n b c s v w h k q = variables-equal n (times one_ℚ q.left b.poly ++ times (neg_ℚ one_ℚ) q.right c.poly) s (λ x. sym (q.equal x))
    (variables-++ n (times one_ℚ q.left b.poly) (times (neg_ℚ one_ℚ) q.right c.poly) (variables-times n one_ℚ q.left b.poly (shift q.left b.head q.of_left) v)
    (variables-times n (neg_ℚ one_ℚ) q.right c.poly (shift q.right c.head q.of_right) w))
  where
    top : IsInRing n (join b.head c.head)
    top i l = omega (arith, entry-join b.head c.head i, v b.head h i l, w c.head k i l)

    shift : (u y : Exponents) → same (plus u y) (join b.head c.head) ≡ true → IsInRing n u
    shift u y e = ring-left n u y (ring-along n (join b.head c.head) (plus u y) (same_flip (plus u y) (join b.head c.head) e) top)

-- a member with both
pub member-s_polynomial : (n : ℕ) (fs : List Terms) (b c : MarkedPolynomial) (s : Terms) → AreInVariables n fs →
    HasMonomial b.poly b.head → HasMonomial c.poly c.head → IsMember n fs b.poly → IsMember n fs c.poly →
    IsSPolynomial b c s → IsMember n fs s
member-s_polynomial n fs b c s v h k mb mc q =
    member_of_spans n fs s v (variables-s_polynomial n b c s (variables_of_member n fs b.poly v mb) (variables_of_member n fs c.poly v mc) h k q)
    (spans-s_polynomial fs b c s (spans_of_member n fs b.poly mb) (spans_of_member n fs c.poly mc) q)

-- ---- sets of monomials that steps don't leave

-- where a mark times u is there, so is each monomial of that member times u
pub record IsClosed (by : MarkedPolynomial → Type 0) (B : Exponents → Type 0) : Type 0 where
  pub along : (x y : Exponents) → same x y ≡ true → B x → B y
  pub lower : (b : MarkedPolynomial) → by b → (u t : Exponents) → HasMonomial b.poly t → B (plus u b.head) →
      B (plus u t)

-- the monomials of f are there
abbrev pub IsWithin : (Exponents → Type 0) → Terms → Type 0
IsWithin B f = (x : Exponents) → HasMonomial f x → B x

-- a multiple of a member, whose mark comes to a monomial that is there
pub record IsPieceIn (by : MarkedPolynomial → Type 0) (B : Exponents → Type 0) (p : Piece) : Type 0 where
  pub member : by p.of
  pub inside : B (level p)

-- under marks by a comparison: what is closed downwards
pub closed_downward : (by : MarkedPolynomial → Type 0) (below : Exponents → Exponents → Type 0) (B : Exponents → Type 0) →
    IsStrict below → ((b : MarkedPolynomial) → by b → IsMarked below b) →
    ((x y : Exponents) → same x y ≡ true → B x → B y) → ((x y : Exponents) → below x y → B y → B x) → IsClosed by B
closed_downward by below B o m along lower = record { along = along; lower = λ b k u t n h. at b u t h ((m b k).tail t n) }
  where
    at : (b : MarkedPolynomial) (u t : Exponents) → B (plus u b.head) → (same t b.head ≡ true) ⊎ below t b.head →
        B (plus u t)
    at b u t h (inl s) = along (plus u b.head) (plus u t) (same_flip (plus u t) (plus u b.head) (same_shift u t b.head s)) h
    at b u t h (inr l) = lower (plus u t) (plus u b.head) (o.invariant u t b.head l) h

-- what is below y
pub closed-below : (by : MarkedPolynomial → Type 0) (below : Exponents → Exponents → Type 0) (y : Exponents) →
    IsStrict below → ((b : MarkedPolynomial) → by b → IsMarked below b) → IsClosed by (λ x. below x y)
closed-below by below y o m = closed_downward by below (λ x. below x y) o m (λ a b s h. o.along_left a b y s h) (λ a b h k. o.transitive a b y h k)

-- y, or what is below it
abbrev pub IsUpTo : (Exponents → Exponents → Type 0) → Exponents → Exponents → Type 0
IsUpTo below y x = (same x y ≡ true) ⊎ below x y

-- y and what is below it are not left
pub closed-up_to : (by : MarkedPolynomial → Type 0) (below : Exponents → Exponents → Type 0) (y : Exponents) →
    IsStrict below → ((b : MarkedPolynomial) → by b → IsMarked below b) → IsClosed by (IsUpTo below y)
closed-up_to by below y o m = closed_downward by below (IsUpTo below y) o m
    (λ x z s h. elim h [ inl q ↦ inl (same_trans z x y (same_flip x z s) q) | inr l ↦ inr (o.along_left x z y s l) ])
    (λ x z l h. elim h [ inl q ↦ inr (o.along_right x z y q l) | inr k ↦ inr (o.transitive x z y l k) ])

-- the ring of members in n variables
pub closed-ring : (n : ℕ) (by : MarkedPolynomial → Type 0) → ((b : MarkedPolynomial) → by b → IsInVariables n b.poly) →
    IsClosed by (IsInRing n)
closed-ring n by v = record { along = ring-along n; lower = λ b k u t m h. ring-plus n u t (ring-left n u b.head h) (v b k t m) }

-- nor is what is in two such sets
pub closed-both : (by : MarkedPolynomial → Type 0) (B C : Exponents → Type 0) → IsClosed by B → IsClosed by C →
    IsClosed by (λ x. B x × C x)
closed-both by B C h k = record {
  along = λ x y s p. (h.along x y s p.0, k.along x y s p.1);
  lower = λ b m u t n p. (h.lower b m u t n p.0, k.lower b m u t n p.1);
}

-- a multiple is where its mark comes to
pub multiple_within : (by : MarkedPolynomial → Type 0) (B : Exponents → Type 0) (b : MarkedPolynomial) (c : Fraction) (u : Exponents) →
    IsClosed by B → by b → B (plus u b.head) → IsWithin B (times c u b.poly)
multiple_within by B b c u d m h e n = let r = found c u b.poly e n in d.along (plus u r.0) e (same_flip e (plus u r.0) r.2) (d.lower b m u r.0 r.1 h)

-- a sum is where both are
pub sum_within : (B : Exponents → Type 0) (f g h : Terms) → IsWithin B f → IsWithin B g → SamePolynomial h (f ++ g) →
    IsWithin B h
sum_within B f g h k l q e n = elim (zero_or_not (coefficient f e)) [
  | inr m ↦ k e m
  | inl z ↦ l e (λ y. n (q e ∙ coefficient-++ f g e ∙ ap (λ x. x +ℚ coefficient g e) z ∙ zero-+ℚ _ ∙ y))
]

-- ---- what steps take away

-- f is g and a sum of pieces, all inside B
pub record AreTaken (by : MarkedPolynomial → Type 0) (B : Exponents → Type 0) (f g : Terms) : Type 0 where
  pub pieces : List Piece
  pub inside : Each (IsPieceIn by B) pieces
  pub equal : (e : Exponents) → coefficient f e ≡ coefficient g e +ℚ coefficient (value pieces) e
  pub within : IsWithin B g

-- what steps take away is a sum of pieces inside B
pub taken : (by : MarkedPolynomial → Type 0) (B : Exponents → Type 0) (f g : Terms) → IsClosed by B → IsWithin B f →
    Reached by f g → AreTaken by B f g
taken by B f g d h (Reached.here k e) = record { pieces = []; inside = tt; equal = λ x. e x ∙ sym (+ℚ-zero _); within = λ x n. h x (λ z. n (sym (e x) ∙ z)) }
taken by B f g d h (Reached.next k l r s) = more (taken by B f k d h r)
  where
    more : AreTaken by B f k → AreTaken by B f g
    more t =
        let c = coefficient k s.at in
        let top : B (plus s.rest s.member.head) = d.along s.at (plus s.rest s.member.head) s.divides (t.within s.at s.there) in
        record {
          pieces = record { factor = c; shift = s.rest; of = s.member } ∷ t.pieces;
          inside = (record { member = s.contained; inside = top }, t.inside);
          equal = λ e.
              t.equal e
              ∙ ap (λ z. z +ℚ coefficient (value t.pieces) e) (step-back by k g s e ∙ coefficient-++ g (times c s.rest s.member.poly) e)
              ∙ +ℚ_assoc _ _ _
              ∙ ap (λ z. coefficient g e +ℚ z) (sym (coefficient-++ (times c s.rest s.member.poly) (value t.pieces) e));
          within = sum_within B k (times (neg_ℚ c) s.rest s.member.poly) g t.within (multiple_within by B s.member (neg_ℚ c) s.rest d s.contained top) s.equal;
        }

-- ---- for loops of steps: nothing done yet, and one step more
pub ruleset steps = (reached-here, reached-next)
