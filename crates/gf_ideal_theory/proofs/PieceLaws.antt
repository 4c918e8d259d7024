-- Sums of multiples of marked polynomials.
-- To cite: value-++, coefficient-value-++, value-scale, Each-scale, find (a piece whose mark comes to a monomial),
-- combined_of_spans and spans_of_combined. The rest are steps.
use Rattle.std.proofs.Common.{◌≡◌, ◌⊎◌, suc, Bool, true, false, List, [], ◌∷◌, ◌++◌, map, length, Contains, arith, refl, sym, ap, ◌∙◌, inl, inr, subst}
use Rattle.std.proofs.Common.{append_assoc}
use Rattle.gf_frac.specs.Fraction.{Fraction, ◌+ℚ◌, ◌*ℚ◌, one_ℚ}
use Rattle.gf_frac.proofs.FractionLaws.{+ℚ-zero}
use Rattle.gf_exponents_theory.specs.Exponents.{Exponents, plus, same}
use Rattle.gf_exponents_theory.proofs.ExponentsLaws.{plus_assoc}
use Rattle.gf_int_theory.proofs.ListLaws.{Contains-here}
use Rattle.gf_poly.specs.Polynomial.{Terms, coefficient, times}
use Rattle.gf_poly.specs.Marking.{MarkedPolynomial, polys, Each}
use Rattle.gf_poly.proofs.PolynomialLaws.{coefficient-++, SamePolynomial-times, times-times, times-++, times-plain}
use Rattle.gf_ideal_theory.specs.Membership.{Spans}
use Rattle.gf_ideal_theory.specs.Marks.{Piece, level, value, IsCombined}
use Rattle.gf_ideal_theory.proofs.ListLaws.{Contains-there, Contains-cases, Each-++}
use Rattle.gf_ideal_theory.proofs.SpanLaws.{Spans-zero, Spans-++, Spans-times}
use Rattle.gf_poly.proofs.MergeLaws.{swap_first}

-- the sum of two lists
pub value-++ : (ps qs : List Piece) → value (ps ++ qs) ≡ value ps ++ value qs
value-++ [] qs = refl
value-++ (p ∷ ps) qs = ap (λ z. times p.factor p.shift p.of.poly ++ z) (value-++ ps qs) ∙ sym (append_assoc (times p.factor p.shift p.of.poly) (value ps)
    (value qs))

-- its coefficients
pub coefficient-value-++ : (ps qs : List Piece) (e : Exponents) →
    coefficient (value (ps ++ qs)) e ≡ coefficient (value ps) e +ℚ coefficient (value qs) e
coefficient-value-++ ps qs e = ap (λ z. coefficient z e) (value-++ ps qs) ∙ coefficient-++ (value ps) (value qs) e

-- a term times the sum
abbrev pub scale_piece : Fraction → Exponents → Piece → Piece
scale_piece c x p = record { factor = c *ℚ p.factor; shift = plus x p.shift; of = p.of }

-- a term times each piece
abbrev pub scale : Fraction → Exponents → List Piece → List Piece
scale c x ps = map (scale_piece c x) ps

-- a term times the sum
pub value-scale : (c : Fraction) (x : Exponents) (ps : List Piece) → value (scale c x ps) ≡ times c x (value ps)
value-scale c x [] = refl
value-scale c x (p ∷ ps) =
    ap (λ z. z ++ value (scale c x ps)) (times-times c p.factor x p.shift p.of.poly)
    ∙ ap (λ z. times c x (times p.factor p.shift p.of.poly) ++ z) (value-scale c x ps)
    ∙ sym (times-++ c x (times p.factor p.shift p.of.poly) (value ps))

-- where the marks come to
pub level-scale : (c : Fraction) (x : Exponents) (p : Piece) → level (scale_piece c x p) ≡ plus x (level p)
level-scale c x p = plus_assoc x p.shift p.of.head

-- what holds of scaled pieces
pub Each-scale : (P Q : Piece → Type 0) (c : Fraction) (x : Exponents) → ((p : Piece) → P p → Q (scale_piece c x p)) →
    (ps : List Piece) → Each P ps → Each Q (scale c x ps)
Each-scale P Q c x w [] h = tt
Each-scale P Q c x w (p ∷ ps) h = (w p h.0, Each-scale P Q c x w ps h.1)

-- ---- a piece at an exponent
pub record Found (P : Piece → Type 0) (x : Exponents) (ps : List Piece) : Type 0 where
  pub piece : Piece
  pub rest : List Piece
  pub like : same x (level piece) ≡ true
  pub holds : P piece
  pub rest_holds : Each P rest
  pub shorter : length ps ≡ suc (length rest)
  pub equal : (e : Exponents) →
      coefficient (value ps) e ≡ coefficient (times piece.factor piece.shift piece.of.poly) e +ℚ coefficient (value rest) e

-- no mark comes to x
abbrev pub NoneAt : Exponents → List Piece → Type 0
NoneAt x ps = Each (λ (p : Piece). same x (level p) ≡ false) ps

-- a piece whose mark comes to x, or none
pub find : (P : Piece → Type 0) (x : Exponents) (ps : List Piece) → Each P ps → Found P x ps ⊎ NoneAt x ps
find P x [] h = inr tt
find P x (p ∷ ps) h = at (same x (level p)) refl (find P x ps h.1)
  where
    at : (b : Bool) → same x (level p) ≡ b → Found P x ps ⊎ NoneAt x ps → Found P x (p ∷ ps) ⊎ NoneAt x (p ∷ ps)
    at true e r = inl (record {
      piece = p;
      rest = ps;
      like = e;
      holds = h.0;
      rest_holds = h.1;
      shorter = refl;
      equal = λ e. coefficient-++ (times p.factor p.shift p.of.poly) (value ps) e;
    })
    at false e (inl f) = inl (record {
      piece = f.piece;
      rest = p ∷ f.rest;
      like = f.like;
      holds = f.holds;
      rest_holds = (h.0, f.rest_holds);
      shorter = ap suc f.shorter;
      equal = λ e.
          coefficient-++ (times p.factor p.shift p.of.poly) (value ps) e
          ∙ ap (λ z. coefficient (times p.factor p.shift p.of.poly) e +ℚ z) (f.equal e)
          ∙ swap_first _ _ _
          ∙ ap (λ z. coefficient (times f.piece.factor f.piece.shift f.piece.of.poly) e +ℚ z) (sym (coefficient-++ (times p.factor p.shift p.of.poly)
          (value f.rest) e));
    })
    at false e (inr n) = inr (e, n)

-- ---- sums of multiples of the members, with marks and without

-- the polynomial of a member
pub Contains-polys : (bs : List MarkedPolynomial) (b : MarkedPolynomial) → Contains bs b → Contains (polys bs) b.poly
Contains-polys [] b c = absurd (omega (arith, c.1))
Contains-polys (d ∷ bs) b c = at (Contains-cases d b bs c) (λ k. Contains-polys bs b k)
  where
    at : (d ≡ b) ⊎ Contains bs b → (Contains bs b → Contains (polys bs) b.poly) → Contains (polys (d ∷ bs)) b.poly
    at (inl e) r = subst (λ (z : MarkedPolynomial). Contains (polys (z ∷ bs)) b.poly) (sym e) (Contains-here b.poly (polys bs))
    at (inr k) r = Contains-there d.poly b.poly (polys bs) (r k)

-- is that of a member
pub Contains-marked : (bs : List MarkedPolynomial) (f : Terms) → Contains (polys bs) f →
    (b : MarkedPolynomial) × Contains bs b × (b.poly ≡ f)
Contains-marked [] f c = absurd (omega (arith, c.1))
Contains-marked (d ∷ bs) f c = at (Contains-cases d.poly f (polys bs) c) (λ k. Contains-marked bs f k)
  where
    at : (d.poly ≡ f) ⊎ Contains (polys bs) f →
        (Contains (polys bs) f → (b : MarkedPolynomial) × Contains bs b × (b.poly ≡ f)) →
        (b : MarkedPolynomial) × Contains (d ∷ bs) b × (b.poly ≡ f)
    at (inl e) r = (d, Contains-here d bs, e)
    at (inr k) r = let b = r k in (b.0, Contains-there d b.0 bs b.1, b.2)

-- what a list of polynomials spans is a sum of pieces where each of the list is
pub combined_of_spans : (by : MarkedPolynomial → Type 0) (fs : List Terms) (f : Terms) →
    ((p : Terms) → Contains fs p → IsCombined by p) → Spans fs f → IsCombined by f
combined_of_spans by fs f h (Spans.none k z) = record { pieces = []; members = tt; equal = z }
combined_of_spans by fs f h (Spans.more c u p k g j s q) = at (h p j) (combined_of_spans by fs g h s)
  where
    at : IsCombined by p → IsCombined by g → IsCombined by f
    at a b = record {
      pieces = scale c u a.pieces ++ b.pieces;
      members = Each-++ (λ (p : Piece). by p.of) (scale c u a.pieces) b.pieces (Each-scale (λ (p : Piece). by p.of) (λ (p : Piece). by p.of) c u (λ p k. k)
          a.pieces a.members) b.members;
      equal = λ e.
          q e ∙ coefficient-++ (times c u p) g e
          ∙ ap (λ z. z +ℚ coefficient g e) (SamePolynomial-times c u p (value a.pieces) a.equal e ∙ ap (λ z. coefficient z e) (sym (value-scale c u a.pieces)))
          ∙ ap (λ z. coefficient (value (scale c u a.pieces)) e +ℚ z) (b.equal e)
          ∙ sym (coefficient-value-++ (scale c u a.pieces) b.pieces e);
    }

-- a member is one piece
pub combined_member : (by : MarkedPolynomial → Type 0) (b : MarkedPolynomial) → by b → IsCombined by b.poly
combined_member by b h = record {
  pieces = record { factor = one_ℚ; shift = []; of = b } ∷ [];
  members = (h, tt);
  equal = λ e. sym (coefficient-++ (times one_ℚ [] b.poly) [] e ∙ +ℚ-zero _ ∙ ap (λ z. coefficient z e) (times-plain b.poly));
}

-- from spanned to combined
pub combined_of_polys : (bs : List MarkedPolynomial) (f : Terms) → Spans (polys bs) f → IsCombined (Contains bs) f
combined_of_polys bs f s = combined_of_spans (Contains bs) (polys bs) f (λ p k. at p (Contains-marked bs p k)) s
  where
    at : (p : Terms) → ((b : MarkedPolynomial) × Contains bs b × (b.poly ≡ p)) → IsCombined (Contains bs) p
    at p b = subst (λ (z : Terms). IsCombined (Contains bs) z) b.2 (combined_member (Contains bs) b.0 b.1)

-- sums of pieces of spanned members are spanned
pub spans_value : (fs : List Terms) (by : MarkedPolynomial → Type 0) →
    ((b : MarkedPolynomial) → by b → Spans fs b.poly) → (ps : List Piece) → Each (λ (p : Piece). by p.of) ps →
    Spans fs (value ps)
spans_value fs by h [] m = Spans-zero fs
spans_value fs by h (p ∷ ps) m = Spans-++ fs (times p.factor p.shift p.of.poly) (value ps) (Spans-times fs p.of.poly p.factor p.shift (h p.of m.0))
    (spans_value fs by h ps m.1)
