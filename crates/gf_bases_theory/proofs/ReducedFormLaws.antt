-- Each Gröbner basis becomes the reduced one, arranged as a program keeps it, with numbers of any size.
-- To cite: through (divisibility along two quotients), reduced_form. The rest are steps: members whose marks are multiples of
-- others' are dropped, tails are divided, what is left is arranged.
use Rattle.std.proofs.Common.{◌≡◌, ◌⊎◌, if◌then◌else◌, ℕ, Bool, true, false, List, [], ◌∷◌, ◌++◌, Contains, arith, refl, sym, ap, ◌∙◌, subst, inl, inr}
use Rattle.gf_frac.specs.Fraction.{Fraction, ◌+ℚ◌, neg_ℚ, zero_ℚ, one_ℚ}
use Rattle.gf_frac.proofs.FractionLaws.{+ℚ-zero, zero-+ℚ, +ℚ_assoc, +ℚ_comm, +ℚ-neg_ℚ, zero_or_not}
use Rattle.gf_exponents_theory.specs.Exponents.{Exponents, same, plus, IsInRing, NoMultiple}
use Rattle.gf_exponents_theory.specs.Orders.{lighter, IsStrict, IsLexBelow}
use Rattle.gf_exponents_theory.proofs.ExponentsLaws.{plus_comm, same-refl, same_flip, same_trans, multiple_or_not, entry-plus, entries_same, same_by_entries}
use Rattle.gf_exponents_theory.proofs.OrderLaws.{lighter-strict, lex-strict, lex-total}
use Rattle.gf_int_theory.proofs.ListLaws.{Contains-here}
use Rattle.gf_poly.specs.Polynomial.{Terms, coefficient, times}
use Rattle.gf_poly.specs.Marking.{MarkedPolynomial}
use Rattle.gf_poly.proofs.PolynomialLaws.{coefficient-++, coefficient-same}
use Rattle.gf_ideal_theory.specs.Membership.{HasMonomial, IsInVariables, AreInVariables, IsMember, Spans}
use Rattle.gf_ideal_theory.specs.Marks.{Piece, value, IsMarked, AreMarked}
use Rattle.gf_ideal_theory.specs.Reduction.{IsDivisible}
use Rattle.gf_ideal_theory.specs.Bases.{AreMembers, IsBasis, IsTwin, IsCanonical, AreApart, HaveAscendingMarks}
use Rattle.gf_ideal_theory.proofs.ListLaws.{Each-weaker, each_contained, contained_each, Contains-there, Contains-cases}
use Rattle.gf_ideal_theory.proofs.ListedTerms.{by_terms}
use Rattle.gf_ideal_theory.proofs.SpanLaws.{Spans-equal, Spans-difference}
use Rattle.gf_ideal_theory.proofs.MembershipLaws.{member-equal, variables_of_member, spans_of_member, member_of_spans}
use Rattle.gf_ideal_theory.proofs.PieceLaws.{spans_value}
use Rattle.gf_ideal_theory.proofs.MarkWeights.{mark-there}
use Rattle.gf_ideal_theory.proofs.StepLaws.{IsClosed, closed-below, closed-ring, closed-both, IsPieceIn, IsWithin}
use Rattle.gf_ideal_theory.proofs.DivisionLaws.{NoMark, divisible_or_not, undivided, Divided, divided, irreducible_terms}
use Rattle.gf_ideal_theory.proofs.InterreductionLaws.{divisible_through, basis-kept, basis-tails}
use Rattle.gf_facets_theory.specs.MarkedBases.{IsMarkedReducedBasis}
use Rattle.gf_bases_theory.proofs.RemainderLaws.{taken}
use Rattle.gf_bases_theory.proofs.KeptLaws.{kept_form, marked-twin}

-- ---- fewer members

-- a multiple of a multiple
pub through : (x y z u v : Exponents) → same x (plus u y) ≡ true → same y (plus v z) ≡ true →
    same x (plus (plus u v) z) ≡ true
through x y z u v s t = same_by_entries x (plus (plus u v) z) (λ i. omega (
  arith,
  entries_same x (plus u y) s i,
  entry-plus u y i,
  entries_same y (plus v z) t i,
  entry-plus v z i,
  entry-plus (plus u v) z i,
  entry-plus u v i,
))

-- the members whose marks aren't multiples of x
record Sifted (x : Exponents) (ks : List MarkedPolynomial) : Type 0 where
  kept : List MarkedPolynomial
  inside : (k : MarkedPolynomial) → Contains kept k → Contains ks k
  over : (k : MarkedPolynomial) → Contains ks k → Contains kept k ⊎ ((y : Exponents) × (same k.head (plus y x) ≡ true))
  none : (k : MarkedPolynomial) → Contains kept k → (y : Exponents) → same k.head (plus y x) ≡ true → ⊥

sifted : (x : Exponents) (ks : List MarkedPolynomial) → Sifted x ks
sifted x [] = record { kept = []; inside = λ k h. h; over = λ k h. inl h; none = λ k h y s. absurd (omega (arith, h.1)) }
sifted x (b ∷ ks) = at (sifted x ks) (multiple_or_not x b.head)
  where
    at : Sifted x ks → ((y : Exponents) × (same b.head (plus x y) ≡ true)) ⊎ NoMultiple x b.head → Sifted x (b ∷ ks)
    at r (inl m) = record {
      kept = r.kept;
      inside = λ k h. Contains-there b k ks (r.inside k h);
      over = λ k h. over k (Contains-cases b k ks h);
      none = r.none;
    }
      where
        over : (k : MarkedPolynomial) → (b ≡ k) ⊎ Contains ks k →
            Contains r.kept k ⊎ ((y : Exponents) × (same k.head (plus y x) ≡ true))
        over k (inl e) = inr (m.0, subst (λ (c : MarkedPolynomial). same c.head (plus m.0 x) ≡ true) e (ap (same b.head) (plus_comm m.0 x) ∙ m.1))
        over k (inr h) = r.over k h
    at r (inr n) = record {
      kept = b ∷ r.kept;
      inside = λ k h. inside k (Contains-cases b k r.kept h);
      over = λ k h. over k (Contains-cases b k ks h);
      none = λ k h. none k (Contains-cases b k r.kept h);
    }
      where
        inside : (k : MarkedPolynomial) → (b ≡ k) ⊎ Contains r.kept k → Contains (b ∷ ks) k
        inside k (inl e) = subst (Contains (b ∷ ks)) e (Contains-here b ks)
        inside k (inr h) = Contains-there b k ks (r.inside k h)

        over : (k : MarkedPolynomial) → (b ≡ k) ⊎ Contains ks k →
            Contains (b ∷ r.kept) k ⊎ ((y : Exponents) × (same k.head (plus y x) ≡ true))
        over k (inl e) = inl (subst (Contains (b ∷ r.kept)) e (Contains-here b r.kept))
        over k (inr h) = elim (r.over k h) [ inl c ↦ inl (Contains-there b k r.kept c) | inr y ↦ inr y ]

        none : (k : MarkedPolynomial) → (b ≡ k) ⊎ Contains r.kept k → (y : Exponents) →
            same k.head (plus y x) ≡ true → ⊥
        none k (inl e) y s =
            let no : same b.head (plus x y) ≡ false = n y in
            let yes : same b.head (plus x y) ≡ true = ap (same b.head) (plus_comm x y) ∙ subst (λ (c : MarkedPolynomial). same c.head (plus y x) ≡ true) (sym e)
            s in
            absurd (cc)
        none k (inr h) y s = r.none k h y s

-- members whose marks don't divide each other, and divide all marks
record Thinned (bs : List MarkedPolynomial) : Type 0 where
  kept : List MarkedPolynomial
  inside : (k : MarkedPolynomial) → Contains kept k → Contains bs k
  over : (b : MarkedPolynomial) → Contains bs b → IsDivisible (Contains kept) b.head
  apart : (k l : MarkedPolynomial) → Contains kept k → Contains kept l → (y : Exponents) →
      same l.head (plus y k.head) ≡ true → k ≡ l

thinned : (bs : List MarkedPolynomial) → Thinned bs
thinned [] = record { kept = []; inside = λ k h. h; over = λ b h. absurd (omega (arith, h.1)); apart = λ k l h. absurd (omega (arith, h.1)) }
thinned (b ∷ bs) = at (thinned bs)
  where
    at : Thinned bs → Thinned (b ∷ bs)
    at r = by (divisible_or_not r.kept b.head)
      where
        by : IsDivisible (Contains r.kept) b.head ⊎ NoMark r.kept b.head → Thinned (b ∷ bs)
        by (inl d) = record {
          kept = r.kept;
          inside = λ k h. Contains-there b k bs (r.inside k h);
          over = λ c h. over c (Contains-cases b c bs h);
          apart = r.apart;
        }
          where
            over : (c : MarkedPolynomial) → (b ≡ c) ⊎ Contains bs c → IsDivisible (Contains r.kept) c.head
            over c (inl e) = subst (λ (x : MarkedPolynomial). IsDivisible (Contains r.kept) x.head) e d
            over c (inr h) = r.over c h
        by (inr n) = with_rest (sifted b.head r.kept)
          where
            with_rest : Sifted b.head r.kept → Thinned (b ∷ bs)
            with_rest s = record {
              kept = b ∷ s.kept;
              inside = λ k h. inside k (Contains-cases b k s.kept h);
              over = λ c h. over c (Contains-cases b c bs h);
              apart = λ k l h j. apart k l (Contains-cases b k s.kept h) (Contains-cases b l s.kept j);
            }
              where
                inside : (k : MarkedPolynomial) → (b ≡ k) ⊎ Contains s.kept k → Contains (b ∷ bs) k
                inside k (inl e) = subst (Contains (b ∷ bs)) e (Contains-here b bs)
                inside k (inr h) = Contains-there b k bs (r.inside k (s.inside k h))

                itself : (c : MarkedPolynomial) → b ≡ c → IsDivisible (Contains (b ∷ s.kept)) c.head
                itself c e = record {
                  member = b;
                  contained = Contains-here b s.kept;
                  rest = [];
                  divides = subst (λ (x : MarkedPolynomial). same x.head b.head ≡ true) e (same-refl b.head);
                }

                other : (c : MarkedPolynomial) (d : IsDivisible (Contains r.kept) c.head) →
                    Contains s.kept d.member ⊎ ((y : Exponents) × (same d.member.head (plus y b.head) ≡ true)) →
                    IsDivisible (Contains (b ∷ s.kept)) c.head
                other c d (inl h) = record { member = d.member; contained = Contains-there b d.member s.kept h; rest = d.rest; divides = d.divides }
                other c d (inr y) = record {
                  member = b;
                  contained = Contains-here b s.kept;
                  rest = plus d.rest y.0;
                  divides = through c.head d.member.head b.head d.rest y.0 d.divides y.1;
                }

                over : (c : MarkedPolynomial) → (b ≡ c) ⊎ Contains bs c → IsDivisible (Contains (b ∷ s.kept)) c.head
                over c (inl e) = itself c e
                over c (inr h) = let d = r.over c h in other c d (s.over d.member d.contained)

                apart : (k l : MarkedPolynomial) → (b ≡ k) ⊎ Contains s.kept k → (b ≡ l) ⊎ Contains s.kept l →
                    (y : Exponents) → same l.head (plus y k.head) ≡ true → k ≡ l
                apart k l (inl e) (inl f) y q = sym e ∙ f
                apart k l (inl e) (inr h) y q = absurd (s.none l h y (subst (λ (x : MarkedPolynomial). same l.head (plus y x.head) ≡ true) (sym e) q))
                apart k l (inr h) (inl f) y q = absurd (undivided r.kept b.head n (record {
                  member = k;
                  contained = s.inside k h;
                  rest = y;
                  divides = subst (λ (x : MarkedPolynomial). same x.head (plus y k.head) ≡ true) (sym f) q;
                }))
                apart k l (inr h) (inr j) y q = r.apart k l (s.inside k h) (s.inside l j) y q

-- ---- tails

-- a member as a program keeps it, marked by the order and by the weight, of which no mark of ks divides an unmarked monomial
record IsForm (n : ℕ) (fs : List Terms) (ks : List MarkedPolynomial) (below : Exponents → Exponents → Type 0) (w : List ℕ) (c : MarkedPolynomial) : Type 0 where
  canonical : IsCanonical n c
  member : IsMember n fs c.poly
  marked : IsMarked below c
  weighed : IsMarked (lighter w) c
  irreducible : (x : Exponents) → HasMonomial c.poly x → IsDivisible (Contains ks) x → same x c.head ≡ true

-- k less its mark, and then what is left of it with the mark again
without_mark : (k r p i m : Fraction) → m +ℚ i ≡ zero_ℚ → k +ℚ (m +ℚ zero_ℚ) ≡ r +ℚ p → k ≡ (i +ℚ r) +ℚ p
without_mark k r p i m h e =
    sym (+ℚ-zero k) ∙ ap (λ z. k +ℚ z) (sym h) ∙ sym (+ℚ_assoc k m i) ∙ ap (λ z. (k +ℚ z) +ℚ i) (sym (+ℚ-zero m)) ∙ ap (λ z. z +ℚ i) e
    ∙ +ℚ_comm (r +ℚ p) i ∙ sym (+ℚ_assoc i r p)

form_of : (n : ℕ) (fs : List Terms) (ks : List MarkedPolynomial) (below : Exponents → Exponents → Type 0) (w : List ℕ) (k : MarkedPolynomial) →
    AreInVariables n fs → IsStrict below → AreMembers n fs ks → AreMarked below ks → AreMarked (lighter w) ks →
    Contains ks k → (c : MarkedPolynomial) × IsForm n fs ks below w c × (same k.head c.head ≡ true)
form_of n fs ks below w k v o inside m mw h = at (divided ks w B f mw closed within)
  where
    B : Exponents → Type 0
    B x = (below x k.head × lighter w x k.head) × IsInRing n x

    f : Terms
    f = k.poly ++ record { coef = neg_ℚ one_ℚ; mono = k.head } ∷ []

    closed : IsClosed (Contains ks) B
    closed = closed-both (Contains ks) (λ x. below x k.head × lighter w x k.head) (IsInRing n)
        (closed-both (Contains ks) (λ x. below x k.head) (λ x. lighter w x k.head) (closed-below (Contains ks) below k.head o m)
        (closed-below (Contains ks) (lighter w) k.head (lighter-strict w) mw))
        (closed-ring n (Contains ks) (λ b j. variables_of_member n fs b.poly v (inside b j)))

    in_ring : IsInVariables n k.poly
    in_ring = variables_of_member n fs k.poly v (inside k h)

    within : IsWithin B f
    within x j = by (same x k.head) refl
      where
        value_there : coefficient f x ≡ coefficient k.poly x +ℚ ((if same x k.head then neg_ℚ one_ℚ else zero_ℚ) +ℚ zero_ℚ)
        value_there = coefficient-++ k.poly (record { coef = neg_ℚ one_ℚ; mono = k.head } ∷ []) x

        tail : (b : Bool) → same x k.head ≡ b → b ≡ false → (same x k.head ≡ true) ⊎ below x k.head → below x k.head
        tail b e q (inl s) = absurd (cc)
        tail b e q (inr l) = l

        tail_w : same x k.head ≡ false → (same x k.head ≡ true) ⊎ lighter w x k.head → lighter w x k.head
        tail_w q (inl s) = absurd (cc)
        tail_w q (inr l) = l

        by : (b : Bool) → same x k.head ≡ b → B x
        by true e = absurd (j (value_there ∙ ap (λ b. coefficient k.poly x +ℚ ((if b then neg_ℚ one_ℚ else zero_ℚ) +ℚ zero_ℚ)) e ∙
            ap (λ z. coefficient k.poly x +ℚ z) (+ℚ-zero _) ∙ ap (λ z. z +ℚ neg_ℚ one_ℚ) (coefficient-same k.poly x k.head e ∙ (m k h).monic) ∙ +ℚ-neg_ℚ one_ℚ))
        by false e =
            let there : HasMonomial k.poly x = λ z. j (value_there ∙ ap (λ b. coefficient k.poly x +ℚ ((if b then neg_ℚ one_ℚ else zero_ℚ) +ℚ zero_ℚ)) e ∙
            ap (λ z. coefficient k.poly x +ℚ z) (+ℚ-zero _) ∙ +ℚ-zero _ ∙ z) in
            ((tail false e refl ((m k h).tail x there), tail_w e ((mw k h).tail x there)), in_ring x there)

    at : Divided ks B f → (c : MarkedPolynomial) × IsForm n fs ks below w c × (same k.head c.head ≡ true)
    at q = finish (kept_form n c0 variables (mark-there below c0 marked))
      where
        c0 : MarkedPolynomial
        c0 = record { poly = record { coef = one_ℚ; mono = k.head } ∷ q.remainder; head = k.head }

        in_B : IsWithin B q.remainder
        in_B = by_terms B q.remainder closed.along q.kept

        -- a monomial of it is the mark, or one of the remainder
        parts : (x : Exponents) → HasMonomial c0.poly x → (same x k.head ≡ true) ⊎ HasMonomial q.remainder x
        parts x j = by (same x k.head) refl
          where
            by : (b : Bool) → same x k.head ≡ b → (same x k.head ≡ true) ⊎ HasMonomial q.remainder x
            by true e = inl e
            by false e = inr (λ z. j (ap (λ b. (if b then one_ℚ else zero_ℚ) +ℚ coefficient q.remainder x) e ∙ zero-+ℚ _ ∙ z))

        none_at_mark : coefficient q.remainder k.head ≡ zero_ℚ
        none_at_mark = elim (zero_or_not (coefficient q.remainder k.head)) [
          | inl z ↦ z
          | inr j ↦ absurd (o.irreflexive k.head k.head (same-refl k.head) (in_B k.head j).0.0)
        ]

        monic : coefficient c0.poly c0.head ≡ one_ℚ
        monic = ap (λ b. (if b then one_ℚ else zero_ℚ) +ℚ coefficient q.remainder k.head) (same-refl k.head) ∙ ap (λ z. one_ℚ +ℚ z) none_at_mark ∙ +ℚ-zero one_ℚ

        marked : IsMarked below c0
        marked = record { monic = monic; tail = λ x j. elim (parts x j) [ inl s ↦ inl s | inr r ↦ inr (in_B x r).0.0 ] }

        weighed : IsMarked (lighter w) c0
        weighed = record { monic = monic; tail = λ x j. elim (parts x j) [ inl s ↦ inl s | inr r ↦ inr (in_B x r).0.1 ] }

        variables : IsInVariables n c0.poly
        variables x j = elim (parts x j) [ inl s ↦ closed_ring x s | inr r ↦ (in_B x r).1 ]
          where
            closed_ring : (x : Exponents) → same x k.head ≡ true → IsInRing n x
            closed_ring x s i l = omega (arith, entries_same x k.head s i, in_ring k.head (mark-there below k (m k h)) i l)

        equal : (e : Exponents) → coefficient k.poly e ≡ coefficient c0.poly e +ℚ coefficient (value q.pieces) e
        equal e = without_mark (coefficient k.poly e) (coefficient q.remainder e) (coefficient (value q.pieces) e) (if same e k.head then one_ℚ else zero_ℚ)
            (if same e k.head then neg_ℚ one_ℚ else zero_ℚ) (cancel (same e k.head))
            (sym (coefficient-++ k.poly (record { coef = neg_ℚ one_ℚ; mono = k.head } ∷ []) e) ∙ q.equal e)
          where
            cancel : (b : Bool) → (if b then neg_ℚ one_ℚ else zero_ℚ) +ℚ (if b then one_ℚ else zero_ℚ) ≡ zero_ℚ
            cancel true = +ℚ_comm (neg_ℚ one_ℚ) one_ℚ ∙ +ℚ-neg_ℚ one_ℚ
            cancel false = +ℚ-zero zero_ℚ

        spanned : Spans fs c0.poly
        spanned = Spans-equal fs (k.poly ++ times (neg_ℚ one_ℚ) [] (value q.pieces)) c0.poly (λ e. sym (taken k.poly (value q.pieces) c0.poly equal e))
            (Spans-difference fs k.poly (value q.pieces) (spans_of_member n fs k.poly (inside k h))
            (spans_value fs (Contains ks) (λ c j. spans_of_member n fs c.poly (inside c j)) q.pieces
            (Each-weaker (IsPieceIn (Contains ks) B) (λ (p : Piece). Contains ks p.of) (λ p j. j.member) q.pieces q.inside)))

        irreducible : (x : Exponents) → HasMonomial c0.poly x → IsDivisible (Contains ks) x → same x k.head ≡ true
        irreducible x j d = elim (parts x j) [ inl s ↦ s | inr r ↦ absurd (irreducible_terms ks q.remainder q.irreducible x r d) ]

        finish : ((c : MarkedPolynomial) × IsCanonical n c × IsTwin c0 c) →
            (c : MarkedPolynomial) × IsForm n fs ks below w c × (same k.head c.head ≡ true)
        finish c = (
          c.0,
          record {
            canonical = c.1;
            member = member-equal n fs c0.poly c.0.poly c.2.poly (member_of_spans n fs c0.poly v variables spanned);
            marked = marked-twin below c0 c.0 o c.2 marked;
            weighed = marked-twin (lighter w) c0 c.0 (lighter-strict w) c.2 weighed;
            irreducible = λ x j d. same_trans x k.head c.0.head (irreducible x (λ z. j (sym (c.2.poly x) ∙ z)) d) c.2.head;
          },
          c.2.head,
        )

-- ---- arranged

-- a form more in an ascending list, unless its mark is there
record Placed (c : MarkedPolynomial) (cs : List MarkedPolynomial) : Type 0 where
  items : List MarkedPolynomial
  ascending : HaveAscendingMarks items
  some : (d : MarkedPolynomial) × Contains items d × (same c.head d.head ≡ true)
  keeps : (d : MarkedPolynomial) → Contains cs d → Contains items d
  only : (d : MarkedPolynomial) → Contains items d → (c ≡ d) ⊎ Contains cs d

placed : (c : MarkedPolynomial) (cs : List MarkedPolynomial) → HaveAscendingMarks cs → Placed c cs
placed c [] a = record {
  items = c ∷ [];
  ascending = (tt, tt);
  some = (c, Contains-here c [], same-refl c.head);
  keeps = λ d h. Contains-there c d [] h;
  only = λ d h. Contains-cases c d [] h;
}
placed c (b ∷ cs) a = at (lex-total c.head b.head) (placed c cs a.1)
  where
    at : IsLexBelow c.head b.head ⊎ (same c.head b.head ≡ true) ⊎ IsLexBelow b.head c.head → Placed c cs →
        Placed c (b ∷ cs)
    at (inl l) r = record {
      items = c ∷ b ∷ cs;
      ascending = (
        (
          l,
          Each-weaker (λ (d : MarkedPolynomial). IsLexBelow b.head d.head) (λ (d : MarkedPolynomial). IsLexBelow c.head d.head)
              (λ d m. lex-strict.transitive c.head b.head d.head l m) cs a.0,
        ),
        a,
      );
      some = (c, Contains-here c (b ∷ cs), same-refl c.head);
      keeps = λ d h. Contains-there c d (b ∷ cs) h;
      only = λ d h. Contains-cases c d (b ∷ cs) h;
    }
    at (inr (inl s)) r = record {
      items = b ∷ cs;
      ascending = a;
      some = (b, Contains-here b cs, s);
      keeps = λ d h. h;
      only = λ d h. inr h;
    }
    at (inr (inr g)) r = record {
      items = b ∷ r.items;
      ascending = (each_contained (λ (d : MarkedPolynomial). IsLexBelow b.head d.head) r.items (λ d h. above d (r.only d h)), r.ascending);
      some = (r.some.0, Contains-there b r.some.0 r.items r.some.1, r.some.2);
      keeps = λ d h. keep d (Contains-cases b d cs h);
      only = λ d h. only d (Contains-cases b d r.items h);
    }
      where
        above : (d : MarkedPolynomial) → (c ≡ d) ⊎ Contains cs d → IsLexBelow b.head d.head
        above d (inl e) = subst (λ (x : MarkedPolynomial). IsLexBelow b.head x.head) e g
        above d (inr h) = contained_each (λ (d : MarkedPolynomial). IsLexBelow b.head d.head) cs a.0 d h

        keep : (d : MarkedPolynomial) → (b ≡ d) ⊎ Contains cs d → Contains (b ∷ r.items) d
        keep d (inl e) = subst (Contains (b ∷ r.items)) e (Contains-here b r.items)
        keep d (inr h) = Contains-there b d r.items (r.keeps d h)

        only : (d : MarkedPolynomial) → (b ≡ d) ⊎ Contains r.items d → (c ≡ d) ⊎ Contains (b ∷ cs) d
        only d (inl e) = inr (subst (Contains (b ∷ cs)) e (Contains-here b cs))
        only d (inr h) = elim (r.only d h) [ inl e ↦ inl e | inr j ↦ inr (Contains-there b d cs j) ]

-- the forms of the members js of ks, ascending
record Forms (n : ℕ) (fs : List Terms) (ks : List MarkedPolynomial) (below : Exponents → Exponents → Type 0) (w : List ℕ) (js : List MarkedPolynomial) :
    Type 0 where
  items : List MarkedPolynomial
  ascending : HaveAscendingMarks items
  each : (c : MarkedPolynomial) → Contains items c → IsForm n fs ks below w c
  there : (j : MarkedPolynomial) → Contains js j → (c : MarkedPolynomial) × Contains items c × (same j.head c.head ≡ true)
  back : (c : MarkedPolynomial) → Contains items c → (j : MarkedPolynomial) × Contains js j × (same j.head c.head ≡ true)

forms_of : (n : ℕ) (fs : List Terms) (ks : List MarkedPolynomial) (below : Exponents → Exponents → Type 0) (w : List ℕ) →
    ((k : MarkedPolynomial) → Contains ks k → (c : MarkedPolynomial) × IsForm n fs ks below w c × (same k.head c.head ≡ true)) →
    (js : List MarkedPolynomial) → ((j : MarkedPolynomial) → Contains js j → Contains ks j) → Forms n fs ks below w js
forms_of n fs ks below w form [] inside = record {
  items = [];
  ascending = tt;
  each = λ c h. absurd (omega (arith, h.1));
  there = λ j h. absurd (omega (arith, h.1));
  back = λ c h. absurd (omega (arith, h.1));
}
forms_of n fs ks below w form (j ∷ js) inside =
    at (form j (inside j (Contains-here j js))) (forms_of n fs ks below w form js (λ i h. inside i (Contains-there j i js h)))
  where
    at : ((c : MarkedPolynomial) × IsForm n fs ks below w c × (same j.head c.head ≡ true)) → Forms n fs ks below w js →
        Forms n fs ks below w (j ∷ js)
    at c r = with_index (placed c.0 r.items r.ascending)
      where
        with_index : Placed c.0 r.items → Forms n fs ks below w (j ∷ js)
        with_index p = record {
          items = p.items;
          ascending = p.ascending;
          each = λ d h. each d (p.only d h);
          there = λ i h. there i (Contains-cases j i js h);
          back = λ d h. back d (p.only d h);
        }
          where
            each : (d : MarkedPolynomial) → (c.0 ≡ d) ⊎ Contains r.items d → IsForm n fs ks below w d
            each d (inl e) = subst (IsForm n fs ks below w) e c.1
            each d (inr h) = r.each d h

            there : (i : MarkedPolynomial) → (j ≡ i) ⊎ Contains js i →
                (d : MarkedPolynomial) × Contains p.items d × (same i.head d.head ≡ true)
            there i (inl e) = (
              p.some.0,
              p.some.1,
              subst (λ (x : MarkedPolynomial). same x.head p.some.0.head ≡ true) e
                  (same_trans j.head c.0.head p.some.0.head c.2 p.some.2),
            )
            there i (inr h) = let d = r.there i h in (d.0, p.keeps d.0 d.1, d.2)

            back : (d : MarkedPolynomial) → (c.0 ≡ d) ⊎ Contains r.items d →
                (i : MarkedPolynomial) × Contains (j ∷ js) i × (same i.head d.head ≡ true)
            back d (inl e) = (j, Contains-here j js, subst (λ (x : MarkedPolynomial). same j.head x.head ≡ true) e c.2)
            back d (inr h) = let i = r.back d h in (i.0, Contains-there j i.0 js i.1, i.2)

-- marks that ascend, and of which none divides another, are apart
apart_of : (cs : List MarkedPolynomial) → HaveAscendingMarks cs →
    ((c d : MarkedPolynomial) → Contains cs c → Contains cs d → (y : Exponents) → same d.head (plus y c.head) ≡ true → same c.head d.head ≡ true) →
    AreApart cs
apart_of [] a h = tt
apart_of (c ∷ cs) a h = (
  each_contained (λ (d : MarkedPolynomial). NoMultiple c.head d.head × NoMultiple d.head c.head) cs
      (λ d k. both d k (contained_each (λ (d : MarkedPolynomial). IsLexBelow c.head d.head) cs a.0 d k)),
  apart_of cs a.1 (λ d e j k y q. h d e (Contains-there c d cs j) (Contains-there c e cs k) y q),
)
  where
    none : (x y : Exponents) → (((z : Exponents) → same y (plus z x) ≡ true → ⊥)) → NoMultiple x y
    none x y n = elim (multiple_or_not x y) [ inl m ↦ absurd (n m.0 (ap (same y) (plus_comm m.0 x) ∙ m.1)) | inr k ↦ k ]

    both : (d : MarkedPolynomial) → Contains cs d → IsLexBelow c.head d.head →
        NoMultiple c.head d.head × NoMultiple d.head c.head
    both d k l = (
      none c.head d.head (λ z q. lex-strict.irreflexive c.head d.head (h c d (Contains-here c cs) (Contains-there c d cs k) z q) l),
      none d.head c.head (λ z q. lex-strict.irreflexive c.head d.head (same_flip d.head c.head (h d c (Contains-there c d cs k) (Contains-here c cs) z q)) l),
    )

-- ---- the reduced basis
pub reduced_form : (n : ℕ) (fs : List Terms) (bs : List MarkedPolynomial) (below : Exponents → Exponents → Type 0) →
    AreInVariables n fs → IsStrict below → IsBasis n fs bs → AreMarked below bs →
    (cs : List MarkedPolynomial) × IsMarkedReducedBasis n fs cs × AreMarked below cs
reduced_form n fs bs below v o b m = thin (thinned bs)
  where
    thin : Thinned bs → (cs : List MarkedPolynomial) × IsMarkedReducedBasis n fs cs × AreMarked below cs
    thin t = finish (basis-kept n fs bs t.kept b t.inside t.over)
      where
        finish : IsBasis n fs t.kept → (cs : List MarkedPolynomial) × IsMarkedReducedBasis n fs cs × AreMarked below cs
        finish k = with_forms (forms_of n fs t.kept below k.marked.0 (λ c h. form_of n fs t.kept below k.marked.0 c v o k.members (λ c h. m c (t.inside c h))
            k.marked.2 h) t.kept (λ c h. h))
          where
            with_forms : Forms n fs t.kept below k.marked.0 t.kept →
                (cs : List MarkedPolynomial) × IsMarkedReducedBasis n fs cs × AreMarked below cs
            with_forms r = (
              r.items,
              record {
                reduced = record {
                  basis = basis-tails n fs t.kept r.items k (λ c h. (r.each c h).member) (λ c h. (r.each c h).weighed) r.there;
                  tails = λ c h x j d. (r.each c h).irreducible x j (divisible_through r.items t.kept (λ e i. over e (r.back e i)) x d);
                  heads = apart_of r.items r.ascending (λ c d h j y q. apart c d (r.back c h) (r.back d j) y q);
                };
                arranged = record { canonical = λ c h. (r.each c h).canonical; ascending = r.ascending };
              },
              λ c h. (r.each c h).marked,
            )
              where
                over : (e : MarkedPolynomial) → ((j : MarkedPolynomial) × Contains t.kept j × (same j.head e.head ≡ true)) →
                    IsDivisible (Contains t.kept) e.head
                over e j = record { member = j.0; contained = j.1; rest = []; divides = same_flip j.0.head e.head j.2 }

                apart : (c d : MarkedPolynomial) → ((i : MarkedPolynomial) × Contains t.kept i × (same i.head c.head ≡ true)) →
                    ((j : MarkedPolynomial) × Contains t.kept j × (same j.head d.head ≡ true)) → (y : Exponents) →
                    same d.head (plus y c.head) ≡ true → same c.head d.head ≡ true
                apart c d i j y q =
                    let e = t.apart i.0 j.0 i.1 j.1 y (same_by_entries j.0.head (plus y i.0.head)
                    (λ l. omega (
                      arith,
                      entries_same j.0.head d.head j.2 l,
                      entries_same d.head (plus y c.head) q l,
                      entry-plus y c.head l,
                      entry-plus y i.0.head l,
                      entries_same i.0.head c.head i.2 l,
                    ))) in
                    same_trans c.head i.0.head d.head (same_flip i.0.head c.head i.2) (subst (λ (x : MarkedPolynomial). same x.head d.head ≡ true) (sym e) j.2)
