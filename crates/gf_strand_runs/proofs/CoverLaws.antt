-- Pairs that members with one monomial settle: each term that the S-polynomial may have is a multiple of such a member below the least
-- common multiple of the marks.
-- To cite: join_left, join_right, cover_all, covered_pair.
use Rattle.std.proofs.Common.{◌≡◌, ◌⊎◌, ℕ, Bool, true, false, if◌then◌else◌, List, [], ◌∷◌, ◌++◌, Contains, refl, sym, ap, ◌∙◌, inl, inr}
use Rattle.gf_frac.specs.Fraction.{Fraction, ◌+ℚ◌, ◌*ℚ◌, neg_ℚ, zero_ℚ, one_ℚ}
use Rattle.gf_exponents_theory.specs.Exponents.{Exponents, plus, minus, join, same, Divides}
use Rattle.gf_exponents_theory.specs.Orders.{IsStrict}
use Rattle.gf_exponents_theory.proofs.ExponentsLaws.{same-refl, same-sym, same_along, same_flip, same_shift, same_trans, minus_left, minus_right}
use Rattle.gf_poly.specs.declared.Term.{Term}
use Rattle.gf_poly.specs.Polynomial.{Terms, coefficient, times}
use Rattle.gf_poly.specs.Marking.{MarkedPolynomial, polys, Each}
use Rattle.gf_poly.proofs.PolynomialLaws.{coefficient-++, coefficient-factor, SamePolynomial-times, times-plain}
use Rattle.gf_ideal_theory.specs.Membership.{HasMonomial, AreInVariables}
use Rattle.gf_ideal_theory.specs.Marks.{AreMarked, IsMarked, Piece, level, value}
use Rattle.gf_ideal_theory.specs.Reduction.{HasOneMonomial}
use Rattle.gf_ideal_theory.specs.Settled.{IsPieceBelow, IsSettledAtJoin, IsSettledPair}
use Rattle.gf_ideal_theory.proofs.Identities.{crossed_over, neg_one}
use Rattle.gf_ideal_theory.proofs.IntegerPairLaws.{pair_of_settled}
use Rattle.gf_ideal_theory.proofs.ListLaws.{Each-++}
use Rattle.gf_ideal_theory.proofs.ListedTerms.{listed}
use Rattle.gf_ideal_theory.proofs.PieceLaws.{coefficient-value-++, scale, value-scale, Each-scale}
use Rattle.gf_ideal_theory.proofs.StepLaws.{coefficient-mark}
use Rattle.gf_ideal_theory.proofs.TermLaws.{Canonical, canonical, canonical_terms, without, apart, nothing_there}
use Rattle.gf_division.proofs.SubtractionLaws.{swap_last}
use Rattle.gf_strands.specs.Forms.{HasCover}
use Rattle.gf_strand_runs.specs.Turns.{HasCoveredTail, IsPairCovered}

-- ---- the least common multiple

pub join_left : (h k : Exponents) → Divides h (join h k)
join_left h k = record { rest = minus (join h k) h; product = same_flip (plus (minus (join h k) h) h) (join h k) (minus_left h k) }

pub join_right : (h k : Exponents) → Divides k (join h k)
join_right h k = record { rest = minus (join h k) k; product = same_flip (plus (minus (join h k) k) k) (join h k) (minus_right h k) }

-- ---- the terms, one after another

-- the term is at the mark, or what it is raised to has a cover
abbrev pub IsCovered : List MarkedPolynomial → Exponents → Exponents → Term → Type 0
IsCovered bs u h t = (same t.mono h ≡ true) ⊎ HasCover bs (plus u t.mono)

-- a cover of a monomial is one of each that is the same
cover_along : (bs : List MarkedPolynomial) (x y : Exponents) → same x y ≡ true → HasCover bs x → HasCover bs y
cover_along bs x y s c = record {
  member = c.member;
  contained = c.contained;
  single = c.single;
  divides = record { rest = c.divides.rest; product = same_trans y x (plus c.divides.rest c.member.head) (same_flip x y s) c.divides.product };
}

-- each term is so: the tail is covered
pub cover_all : (bs : List MarkedPolynomial) (u : Exponents) (b : MarkedPolynomial) → Each (IsCovered bs u b.head) b.poly → HasCoveredTail bs u b
cover_all bs u b h = record { at = λ y m. at y (listed (IsCovered bs u b.head) b.poly y h m) }
  where
    at : (y : Exponents) → (t : Term) × IsCovered bs u b.head t × (same y t.mono ≡ true) → (same y b.head ≡ true) ⊎ HasCover bs (plus u y)
    at y t = elim t.1 [
      | inl s ↦ inl (same_trans y t.0.mono b.head t.2 s)
      | inr c ↦ inr (cover_along bs (plus u t.0.mono) (plus u y) (same_shift u t.0.mono y (same_flip y t.0.mono t.2)) c)
    ]

-- ---- the pair

-- a multiple of a member with one monomial is one term
one_term : (k : Fraction) (r x e : Exponents) (d : MarkedPolynomial) → coefficient d.poly d.head ≡ one_ℚ → HasOneMonomial d → same x (plus r d.head) ≡ true →
    coefficient (times k r d.poly) e ≡ (if same e x then k else zero_ℚ)
one_term k r x e d m h s = at (same e x) refl
  where
    at : (b : Bool) → same e x ≡ b → coefficient (times k r d.poly) e ≡ (if b then k else zero_ℚ)
    at true p = coefficient-mark k r e d m (same_trans e x (plus r d.head) p s)
    at false p = nothing_there k r d.poly e (λ y n q.
        let z : same e x ≡ true = same_trans e (plus r d.head) x (same_trans e (plus r y) (plus r d.head) q (same_shift r y d.head (h y n)))
        (same_flip x (plus r d.head) s) in absurd (cc))

-- the terms of f but those at the mark h, all raised by u, are multiples of members below the mark
record IsSpread (bs : List MarkedPolynomial) (below : Exponents → Exponents → Type 0) (u h : Exponents) (f : Terms) : Type 0 where
  pieces : List Piece
  lower : Each (IsPieceBelow (Contains bs) below (plus u h)) pieces
  equation : (e : Exponents) → coefficient (without (plus u h) (times one_ℚ u f)) e ≡ coefficient (value pieces) e

-- at h, or below it with a cover
abbrev IsLow : List MarkedPolynomial → (Exponents → Exponents → Type 0) → Exponents → Exponents → Exponents → Type 0
IsLow bs below u h y = (same y h ≡ true) ⊎ (below y h × HasCover bs (plus u y))

spread : (bs : List MarkedPolynomial) (below : Exponents → Exponents → Type 0) (u h : Exponents) (f : Terms) → IsStrict below → AreMarked below bs →
    Each (λ (t : Term). IsLow bs below u h t.mono) f → IsSpread bs below u h f
spread bs below u h [] o m k = record { pieces = []; lower = tt; equation = λ e. refl }
spread bs below u h (t ∷ f) o m k = at (same (plus u h) (plus u t.mono)) refl (spread bs below u h f o m k.1)
  where
    -- as in the list, whether it is at the mark or not
    left : Bool → Terms
    left b = if b then without (plus u h) (times one_ℚ u f) else (record { coef = one_ℚ *ℚ t.coef; mono = plus u t.mono } ∷ without (plus u h)
        (times one_ℚ u f))

    further : IsSpread bs below u h f → below t.mono h → HasCover bs (plus u t.mono) →
        (ps : List Piece) × Each (IsPieceBelow (Contains bs) below (plus u h)) ps × ((e : Exponents) → coefficient (left false) e ≡ coefficient (value ps) e)
    further r l c = (
      record { factor = one_ℚ *ℚ t.coef; shift = c.divides.rest; of = c.member } ∷ r.pieces,
      (
        record {
          member = c.contained;
          lower = o.along_left (plus u t.mono) (plus c.divides.rest c.member.head) (plus u h) c.divides.product (o.invariant u t.mono h l);
        },
        r.lower,
      ),
      λ e.
          ap (λ z. (if same e (plus u t.mono) then one_ℚ *ℚ t.coef else zero_ℚ) +ℚ z) (r.equation e)
          ∙ ap (λ z. z +ℚ coefficient (value r.pieces) e) (sym (one_term (one_ℚ *ℚ t.coef) c.divides.rest (plus u t.mono) e c.member
          (m c.member c.contained).monic c.single c.divides.product))
          ∙ sym (coefficient-++ (times (one_ℚ *ℚ t.coef) c.divides.rest c.member.poly) (value r.pieces) e),
    )

    at : (b : Bool) → same (plus u h) (plus u t.mono) ≡ b → IsSpread bs below u h f → IsSpread bs below u h (t ∷ f)
    at true s r = record { pieces = r.pieces; lower = r.lower; equation = λ e. ap (λ b. coefficient (left b) e) s ∙ r.equation e }
    at false s r = elim k.0 [
      | inl q ↦ (let z : same (plus u h) (plus u t.mono) ≡ true = same_flip (plus u t.mono) (plus u h) (same_shift u t.mono h q) in absurd (cc))
      | inr q ↦ (let p = further r q.0 q.1 in record { pieces = p.0; lower = p.1; equation = λ e. ap (λ b. coefficient (left b) e) s ∙ p.2 e })
    ]

-- b raised by u is its mark and such multiples
record HasSpreadTail (bs : List MarkedPolynomial) (below : Exponents → Exponents → Type 0) (b : MarkedPolynomial) (u : Exponents) : Type 0 where
  pieces : List Piece
  lower : Each (IsPieceBelow (Contains bs) below (plus u b.head)) pieces
  equation : (e : Exponents) → coefficient (times one_ℚ u b.poly) e ≡ (if same e (plus u b.head) then one_ℚ else zero_ℚ) +ℚ coefficient (value pieces) e

spread_tail : (bs : List MarkedPolynomial) (below : Exponents → Exponents → Type 0) (b : MarkedPolynomial) (u : Exponents) → IsStrict below →
    AreMarked below bs → IsMarked below b → ((y : Exponents) → HasMonomial b.poly y → (same y b.head ≡ true) ⊎ HasCover bs (plus u y)) →
    HasSpreadTail bs below b u
spread_tail bs below b u o m mb h = at (canonical b.poly)
  where
    x : Exponents
    x = plus u b.head

    low : (y : Exponents) → HasMonomial b.poly y → IsLow bs below u b.head y
    low y n = elim (mb.tail y n) [
      | inl s ↦ inl s
      | inr l ↦ elim (h y n) [ inl s ↦ inl s | inr c ↦ inr (l, c) ]
    ]

    at : Canonical b.poly → HasSpreadTail bs below b u
    at k =
        let r = spread bs below u b.head k.terms o m (canonical_terms (IsLow bs below u b.head) b.poly k low) in
        record {
          pieces = r.pieces;
          lower = r.lower;
          equation = λ e.
              SamePolynomial-times one_ℚ u b.poly k.terms k.equal e
              ∙ apart x (times one_ℚ u k.terms) e
              ∙ ap (λ z. (if same e x then z else zero_ℚ) +ℚ coefficient (without x (times one_ℚ u k.terms)) e)
              (sym (SamePolynomial-times one_ℚ u b.poly k.terms k.equal x) ∙ coefficient-mark one_ℚ u x b mb.monic (same-refl x))
              ∙ ap (λ z. (if same e x then one_ℚ else zero_ℚ) +ℚ z) (r.equation e);
        }

settled_by_cover : (bs : List MarkedPolynomial) (below : Exponents → Exponents → Type 0) (b c : MarkedPolynomial) → IsStrict below → AreMarked below bs →
    Contains bs b → Contains bs c → IsPairCovered bs b c → IsSettledAtJoin (Contains bs) below b c
settled_by_cover bs below b c o m hb hc k = record {
  left = u;
  right = v;
  of_left = minus_left b.head c.head;
  of_right = minus_right b.head c.head;
  bridge = record {
    pieces = p.pieces ++ scale (neg_ℚ one_ℚ) [] q.pieces;
    lower = Each-++ (IsPieceBelow (Contains bs) below (plus u b.head)) p.pieces (scale (neg_ℚ one_ℚ) [] q.pieces) p.lower
        (Each-scale (IsPieceBelow (Contains bs) below (plus v c.head)) (IsPieceBelow (Contains bs) below (plus u b.head)) (neg_ℚ one_ℚ) []
        (λ z g. record {
          member = g.member;
          lower = o.along_right (level z) (plus v c.head) (plus u b.head) (same_flip (plus u b.head) (plus v c.head) alike) g.lower;
        }) q.pieces q.lower);
    equation = λ e.
        crossed_over (coefficient (times one_ℚ u b.poly) e) (coefficient (value q.pieces) e) (coefficient (times one_ℚ v c.poly) e)
        (coefficient (value p.pieces) e)
        (ap (λ z. z +ℚ coefficient (value q.pieces) e) (p.equation e)
        ∙ swap_last _ _ _
        ∙ ap (λ z. ((if z then one_ℚ else zero_ℚ) +ℚ coefficient (value q.pieces) e) +ℚ coefficient (value p.pieces) e) (here e)
        ∙ ap (λ z. z +ℚ coefficient (value p.pieces) e) (sym (q.equation e)))
        ∙ ap (λ z. coefficient (times one_ℚ v c.poly) e +ℚ z)
        (ap (λ z. coefficient (value p.pieces) e +ℚ z) (sym (negated e)) ∙ sym (coefficient-value-++ p.pieces (scale (neg_ℚ one_ℚ) [] q.pieces) e));
  };
}
  where
    u : Exponents
    u = minus (join b.head c.head) b.head

    v : Exponents
    v = minus (join b.head c.head) c.head

    p : HasSpreadTail bs below b u
    p = spread_tail bs below b u o m (m b hb) k.first.at

    q : HasSpreadTail bs below c v
    q = spread_tail bs below c v o m (m c hc) k.second.at

    alike : same (plus u b.head) (plus v c.head) ≡ true
    alike = same_trans (plus u b.head) (join b.head c.head) (plus v c.head) (minus_left b.head c.head)
        (same_flip (plus v c.head) (join b.head c.head) (minus_right b.head c.head))

    here : (e : Exponents) → same e (plus u b.head) ≡ same e (plus v c.head)
    here e = same-sym e (plus u b.head) ∙ same_along (plus u b.head) (plus v c.head) e alike ∙ same-sym (plus v c.head) e

    negated : (e : Exponents) → coefficient (value (scale (neg_ℚ one_ℚ) [] q.pieces)) e ≡ neg_ℚ (coefficient (value q.pieces) e)
    negated e = ap (λ z. coefficient z e) (value-scale (neg_ℚ one_ℚ) [] q.pieces) ∙ coefficient-factor (neg_ℚ one_ℚ) [] (value q.pieces) e ∙
        ap (λ z. neg_ℚ one_ℚ *ℚ coefficient z e) (times-plain (value q.pieces)) ∙ neg_one _

-- members with one monomial settle it
pub covered_pair : (n : ℕ) (bs : List MarkedPolynomial) (below : Exponents → Exponents → Type 0) (b c : MarkedPolynomial) → AreInVariables n (polys bs) →
    IsStrict below → AreMarked below bs → Contains bs b → Contains bs c → IsPairCovered bs b c → IsSettledPair n bs below b c
covered_pair n bs below b c v o m hb hc k = pair_of_settled n bs below b c v o m hb hc (settled_by_cover bs below b c o m hb hc k)
