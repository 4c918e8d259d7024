-- The steps of a run on strands: what is read, what is covered, and what an S-polynomial is.
-- To cite: strands_length, strand_within, strand_inside, more_strands, strands_more, read_strand, read_strands, chained_strand, chained_strands, front_width,
-- alone_strand,
-- wide_join, on_multiple, cover_taken, cover_of_strand,
-- negated_on, negated_falling, monomial_strand, whole_is, two_strands, two_strands_on, turned_strand.
use Rattle.std.proofs.Common.{◌≡◌, ℕ, zero, suc, ◌+◌, ◌<◌, ◌≤◌, ◌==◌, Bool, true, false, if◌then◌else◌, Some, None, IfSome, List, [], ◌∷◌, ◌++◌, length, map}
use Rattle.std.proofs.Common.{take, get_or, ℤ, pos, ◌<ℤ◌, arith, refl, sym, ap, ap₂, ◌∙◌, subst, inl, inr}
use Rattle.std.specs.Option.{is_some}
use Rattle.std.specs.declared.option.Option.{Option}
use Rattle.std.proofs.lemmas.List.{length-map, get_or-map, nil_from_length, take_more}
use Rattle.gf_frac.specs.Fraction.{Fraction, ◌+ℚ◌, ◌*ℚ◌, neg_ℚ, zero_ℚ, one_ℚ}
use Rattle.gf_frac.proofs.FractionLaws.{zero-+ℚ, *ℚ-one, +ℚ-neg_ℚ, +ℚ-middle}
use Rattle.gf_exponents_theory.specs.Exponents.{Exponents, Divides, join, minus, plus, same}
use Rattle.gf_exponents_theory.specs.SixOrders.{MonomialOrder}
use Rattle.gf_exponents_theory.proofs.ExponentsLaws.{eq_by, same-refl, minus_left, minus_right}
use Rattle.gf_poly.specs.Polynomial.{Terms, coefficient, SamePolynomial, times}
use Rattle.gf_poly.specs.Marking.{MarkedPolynomial, Each}
use Rattle.gf_poly.proofs.MonomialLaws.{length-join, length-minus, plus-minus}
use Rattle.gf_poly.proofs.PolynomialLaws.{coefficient-++, times-plain}
use Rattle.gf_ideal_theory.specs.Reduction.{HasOneMonomial, IsSPolynomial}
use Rattle.gf_ideal_theory.proofs.DividingLaws.{member_contained}
use Rattle.gf_ideal_theory.proofs.Identities.{neg_one}
use Rattle.gf_ideal_theory.proofs.ListLaws.{Each-++, Each-weaker}
use Rattle.gf_division.proofs.ReducerLaws.{member_at}
use Rattle.gf_buchberger.proofs.ReducedPairLaws.{AreRead}
use Rattle.gf_strands.specs.declared.strands.Point.{Point}
use Rattle.gf_strands.specs.declared.strands.Strand.{Strand}
use Rattle.gf_strands.specs.Strands.{moved, IsSpot, AreSpots, AreFalling, strand_terms, strand_member, strand_members, negated_point, AreStrandsOf, IsStrandOf}
use Rattle.gf_strands.specs.Strands.{IsSubtracted}
use Rattle.gf_strands.specs.Strands.{HasStrandBelow}
use Rattle.gf_strands.specs.Monomials.{monomial_member, with_monomials}
use Rattle.gf_strand_runs.specs.Turns.{IsChained, HasCoveredTail, IsPairTaken, IsTurning}
use Rattle.gf_strands.specs.Forms.{HasCover, IsTakenIn}
use Rattle.gf_strand_runs.proofs.CoverLaws.{IsCovered, join_left, join_right, cover_all}
use Rattle.gf_strand_runs.proofs.JoinedTurns.{read_monomial, read_members, chained_turn}
use Rattle.gf_strands.proofs.StrandLaws.{strand_variables}
use Rattle.gf_strands.proofs.MonomialLaws.{monomial_single}
use Rattle.gf_strands.proofs.MoveLaws.{moved-zero, on-zero, moved_plus, on_plus}
use Rattle.gf_strand_runs.proofs.TurnLaws.{IsTurnedOn, each-take, turned_on}

-- ---- strands that are read

pub strands_length : (a : List ℤ) (ls : List Strand) → length (strand_members a ls) ≡ length ls
strands_length a ls = length-map ls (strand_member a)

pub strand_within : (a : List ℤ) (ls : List Strand) (i : ℕ) → i < length ls → i < length (strand_members a ls)
strand_within a ls i l = omega (arith, l, length-map ls (strand_member a))

pub strand_inside : (a : List ℤ) (ls : List Strand) (i : ℕ) → i < length (strand_members a ls) → i < length ls
strand_inside a ls i l = omega (arith, l, length-map ls (strand_member a))

pub more_strands : (a : List ℤ) (old new : List Strand) → length old ≤ length new → length (strand_members a old) ≤ length (strand_members a new)
more_strands a old new l = omega (arith, l, length-map old (strand_member a), length-map new (strand_member a))

pub strands_more : (a : List ℤ) (old new : List Strand) → length (strand_members a old) ≤ length (strand_members a new) → length old ≤ length new
strands_more a old new l = omega (arith, l, length-map old (strand_member a), length-map new (strand_member a))

strand_at : (a : List ℤ) (ls : List Strand) (i : ℕ) (c : Strand) → i < length ls → c ≡ get_or ls i c →
    strand_member a c ≡ get_or (strand_members a ls) i (strand_member a c)
strand_at a ls i c l e = ap (strand_member a) e ∙ sym (get_or-map (strand_member a) ls i c (strand_member a c) l)

taken_strands : (a : List ℤ) (ls : List Strand) (i : ℕ) → take i (strand_members a ls) ≡ strand_members a (take i ls)
taken_strands a ls zero = refl
taken_strands a [] (suc i) = refl
taken_strands a (l ∷ ls) (suc i) = ap (λ (z : List MarkedPolynomial). strand_member a l ∷ z) (taken_strands a ls i)

pub read_strand : (a : List ℤ) (xs : List Exponents) (ls : List Strand) (i j : ℕ) (x : Exponents) (c : Strand) → i < length xs → x ≡ get_or xs i x →
    j < length ls → c ≡ get_or ls j c → AreRead (with_monomials xs (strand_members a ls)) i (length xs + j) (monomial_member x) (strand_member a c)
read_strand a xs ls i j x c l e m q = read_monomial xs (strand_members a ls) i j x (strand_member a c) l e (strand_within a ls j m) (strand_at a ls j c m q)

pub read_strands : (a : List ℤ) (xs : List Exponents) (ls : List Strand) (i j : ℕ) (b c : Strand) → i < j → j < length ls → b ≡ get_or ls i b →
    c ≡ get_or ls j c → AreRead (with_monomials xs (strand_members a ls)) (length xs + i) (length xs + j) (strand_member a b) (strand_member a c)
read_strands a xs ls i j b c l m e q = read_members xs (strand_members a ls) i j (strand_member a b) (strand_member a c) l (strand_within a ls j m)
    (strand_at a ls i b (omega (arith, l, m)) e) (strand_at a ls j c m q)

-- the strand that a search found
pub chained_strand : (a : List ℤ) (ls : List Strand) (x : Exponents) (o : Option ℕ) → IfSome o (HasStrandBelow ls x) → is_some o ≡ true →
    IsChained (strand_members a ls) x
chained_strand a ls x (Some k) h t = record {
  index = k;
  member = strand_member a h.strand;
  at = member_at (strand_members a ls) k (strand_member a h.strand) (strand_within a ls k h.within) (strand_at a ls k h.strand h.within (sym h.at));
  divides = h.divides;
}
chained_strand a ls x None h t = absurd (let z : false ≡ true = t in cc)

-- a chain by a strand before the index i
pub chained_strands : (a : List ℤ) (xs : List Exponents) (ls ks : List Strand) (i : ℕ) (x : Exponents) → ks ≡ ls →
    IsChained (with_monomials xs (strand_members a (take i ks))) x → IsChained (take (length xs + i) (with_monomials xs (strand_members a ls))) x
chained_strands a xs ls ks i x e h = chained_turn xs (strand_members a ls) i x (subst (λ (z : List MarkedPolynomial). IsChained (with_monomials xs z) x)
    (sym (taken_strands a ls i)) (subst (λ (z : List Strand). IsChained (with_monomials xs (strand_members a (take i z))) x) e h))

-- the strands before an index have as many variables
pub front_width : (a : List ℤ) (by : List MarkedPolynomial) (ls ks : List Strand) (i : ℕ) (x : Exponents) → ks ≡ ls → length x ≡ length a →
    AreStrandsOf a by ls → Each (λ (l : Strand). length l.mark ≡ length x) (take i ks)
front_width a by ls ks i x e w h = subst (λ (z : List Strand). Each (λ (l : Strand). length l.mark ≡ length x) (take i z)) (sym e)
    (each-take (λ (l : Strand). length l.mark ≡ length x) i ls (Each-weaker (IsStrandOf a by) (λ (l : Strand). length l.mark ≡ length x)
    (λ l k. k.0.width ∙ sym w)
    ls h))

-- a strand without further points
pub alone_strand : (a : List ℤ) (l : Strand) (n : ℕ) → n ≡ length l.rest.items → true ≡ (n == 0) → HasOneMonomial (strand_member a l)
alone_strand a l n q e = subst (λ (ps : List Point). HasOneMonomial (record {
  poly = record { coef = one_ℚ; mono = l.mark } ∷ strand_terms a l.mark ps;
  head = l.mark;
})) (sym (nil_from_length l.rest.items (sym q ∙ eq_by n 0 (sym e)))) (monomial_single l.mark)

-- ---- the least common multiple

pub wide_join : (n : ℕ) (x y : Exponents) → length x ≡ n → length y ≡ n → length (join x y) ≡ n
wide_join n x y e f = length-join x y (e ∙ sym f) ∙ e

-- what is missing to a multiple
raised : (x m : Exponents) → length m ≡ length x → Divides x m → plus (minus m x) x ≡ m
raised x m e d = plus-minus m x e d

raised-length : (x m : Exponents) → length m ≡ length x → length (minus m x) ≡ length x
raised-length x m e = length-minus m x e ∙ e

pub on_multiple : (a : List ℤ) (x m : Exponents) (ps : List Point) → length m ≡ length x → Divides x m → AreSpots a x ps → AreSpots a m ps
on_multiple a x m [] e d h = tt
on_multiple a x m (p ∷ ps) e d h = (
  subst (λ (z : Exponents). IsSpot a z p.k) (raised x m e d) (on_plus a (minus m x) x p.k (raised-length x m e) h.0),
  on_multiple a x m ps e d h.1,
)

-- ---- covers

pub cover_taken : (P : Point → Type 0) (k : ℕ) (ps : List Point) (p : Point) → k < length ps → p ≡ get_or ps k p → P p → Each P (take k ps) →
    Each P (take (k + 1) ps)
cover_taken P k ps p l e c h = subst (Each P) (sym (take_more ps k p l ∙ ap (λ (z : Point). take k ps ++ z ∷ []) (sym e)))
    (Each-++ P (take k ps) (p ∷ []) h (c, tt))

-- the points at the multiple are covered: so is the strand, raised to it
pub cover_of_strand : (a : List ℤ) (bs : List MarkedPolynomial) (m : Exponents) (l : Strand) → length m ≡ length l.mark → Divides l.mark m →
    AreSpots a l.mark l.rest.items → Each (λ (p : Point). HasCover bs (moved a m p.k)) l.rest.items → HasCoveredTail bs (minus m l.mark) (strand_member a l)
cover_of_strand a bs m l e d o h = cover_all bs (minus m l.mark) (strand_member a l) (inl (same-refl l.mark), at l.rest.items o h)
  where
    at : (ps : List Point) → AreSpots a l.mark ps → Each (λ (p : Point). HasCover bs (moved a m p.k)) ps →
        Each (IsCovered bs (minus m l.mark) l.mark) (strand_terms a l.mark ps)
    at [] o h = tt
    at (p ∷ ps) o h = (
      inr (subst (HasCover bs) (ap (λ (z : Exponents). moved a z p.k) (sym (raised l.mark m e d)) ∙ moved_plus a (minus m l.mark) l.mark p.k
          (raised-length l.mark m e) o.0) h.0),
      at ps o.1 h.1,
    )

-- ---- points that are negated

pub negated_on : (a : List ℤ) (x : Exponents) (ps : List Point) → AreSpots a x ps → AreSpots a x (map negated_point ps)
negated_on a x [] h = tt
negated_on a x (p ∷ ps) h = (h.0, negated_on a x ps h.1)

negated_before : (k : ℤ) (ps : List Point) → Each (λ (q : Point). q.k <ℤ k) ps → Each (λ (q : Point). q.k <ℤ k) (map negated_point ps)
negated_before k [] h = tt
negated_before k (p ∷ ps) h = (h.0, negated_before k ps h.1)

pub negated_falling : (ps : List Point) → AreFalling ps → AreFalling (map negated_point ps)
negated_falling [] h = tt
negated_falling (p ∷ ps) h = (negated_before p.k ps h.0, negated_falling ps h.1)

negated_terms : (a : List ℤ) (x : Exponents) (ps : List Point) → strand_terms a x (map negated_point ps) ≡ times (neg_ℚ one_ℚ) [] (strand_terms a x ps)
negated_terms a x [] = refl
negated_terms a x (p ∷ ps) = ap₂ (λ (c : Fraction) (f : Terms). record { coef = c; mono = moved a x p.k } ∷ f) (sym (neg_one p.coef)) (negated_terms a x ps)

-- ---- S-polynomials

-- points of the strand through x, raised by u
raised_terms : (a : List ℤ) (u x m : Exponents) (c : Fraction) (ps : List Point) → length u ≡ length x → plus u x ≡ m → AreSpots a x ps →
    times c u (strand_terms a x ps) ≡ times c [] (strand_terms a m ps)
raised_terms a u x m c [] e s h = refl
raised_terms a u x m c (p ∷ ps) e s h =
    ap₂ (λ (z : Exponents) (f : Terms). record { coef = c *ℚ p.coef; mono = z } ∷ f) (sym (moved_plus a u x p.k e h.0) ∙ ap (λ (z : Exponents). moved a z p.k)
    s) (raised_terms a u x m c ps e s h.1)

-- the marked terms cancel
cancelled : (b : Bool) (p q : Fraction) → p +ℚ q ≡ ((if b then one_ℚ *ℚ one_ℚ else zero_ℚ) +ℚ p) +ℚ ((if b then neg_ℚ one_ℚ *ℚ one_ℚ else zero_ℚ) +ℚ q)
cancelled b p q = sym (zero-+ℚ (p +ℚ q)) ∙ ap (λ z. z +ℚ (p +ℚ q)) (sym (none b)) ∙ sym (+ℚ-middle (if b then one_ℚ *ℚ one_ℚ else zero_ℚ) p
    (if b then neg_ℚ one_ℚ *ℚ one_ℚ else zero_ℚ) q)
  where
    none : (b : Bool) → (if b then one_ℚ *ℚ one_ℚ else zero_ℚ) +ℚ (if b then neg_ℚ one_ℚ *ℚ one_ℚ else zero_ℚ) ≡ zero_ℚ
    none true = ap₂ (λ y z. y +ℚ z) (*ℚ-one one_ℚ) (*ℚ-one (neg_ℚ one_ℚ)) ∙ +ℚ-neg_ℚ one_ℚ
    none false = zero-+ℚ zero_ℚ

-- the mark x, and points on the strand through it
abbrev with_mark : List ℤ → Exponents → List Point → MarkedPolynomial
with_mark a x ps = record { poly = record { coef = one_ℚ; mono = x } ∷ strand_terms a x ps; head = x }

-- the points of the one at the multiple without those of the other
s_of_points : (a : List ℤ) (x y m : Exponents) (ps qs new : List Point) → length x ≡ length y → m ≡ join x y → AreSpots a x ps → AreSpots a y qs →
    SamePolynomial (strand_terms a m new) (strand_terms a m ps ++ times (neg_ℚ one_ℚ) [] (strand_terms a m qs)) →
    IsSPolynomial (with_mark a x ps) (with_mark a y qs)
    (strand_terms a m new)
s_of_points a x y m ps qs new w q o r h = record {
  left = minus (join x y) x;
  right = minus (join x y) y;
  of_left = minus_left x y;
  of_right = minus_right x y;
  equal = λ e. h e ∙ coefficient-++ (strand_terms a m ps) (times (neg_ℚ one_ℚ) [] (strand_terms a m qs)) e ∙ cancelled (same e m) _ _ ∙
      ap₂ (λ y z. y +ℚ z) (first e) (second e) ∙ sym (coefficient-++ (times one_ℚ (minus (join x y) x) (with_mark a x ps).poly)
      (times (neg_ℚ one_ℚ) (minus (join x y) y) (with_mark a y qs).poly) e);
}
  where
    long : length (join x y) ≡ length x
    long = length-join x y w

    at_x : plus (minus (join x y) x) x ≡ m
    at_x = raised x (join x y) long (join_left x y) ∙ sym q

    at_y : plus (minus (join x y) y) y ≡ m
    at_y = raised y (join x y) (long ∙ w) (join_right x y) ∙ sym q

    of_x : strand_terms a m ps ≡ times one_ℚ (minus (join x y) x) (strand_terms a x ps)
    of_x = sym (raised_terms a (minus (join x y) x) x m one_ℚ ps (raised-length x (join x y) long) at_x o ∙ times-plain (strand_terms a m ps))

    of_y : times (neg_ℚ one_ℚ) [] (strand_terms a m qs) ≡ times (neg_ℚ one_ℚ) (minus (join x y) y) (strand_terms a y qs)
    of_y = sym (raised_terms a (minus (join x y) y) y m (neg_ℚ one_ℚ) qs (raised-length y (join x y) (long ∙ w)) at_y r)

    first : (e : Exponents) → (if same e m then one_ℚ *ℚ one_ℚ else zero_ℚ) +ℚ coefficient (strand_terms a m ps) e ≡ coefficient (times one_ℚ
        (minus (join x y) x)
        (with_mark a x ps).poly) e
    first e = ap₂ (λ (z : Exponents) (f : Terms). (if same e z then one_ℚ *ℚ one_ℚ else zero_ℚ) +ℚ coefficient f e) (sym at_x) of_x

    second : (e : Exponents) → (if same e m then neg_ℚ one_ℚ *ℚ one_ℚ else zero_ℚ) +ℚ coefficient (times (neg_ℚ one_ℚ) [] (strand_terms a m qs)) e ≡
        coefficient (times (neg_ℚ one_ℚ) (minus (join x y) y) (with_mark a y qs).poly) e
    second e = ap₂ (λ (z : Exponents) (f : Terms). (if same e z then neg_ℚ one_ℚ *ℚ one_ℚ else zero_ℚ) +ℚ coefficient f e) (sym at_y) of_y

-- of a monomial and a strand: the points of that, negated
pub monomial_strand : (a : List ℤ) (x m : Exponents) (l : Strand) (new : List Point) → length x ≡ length l.mark → m ≡ join x l.mark →
    AreSpots a l.mark l.rest.items → new ≡ map negated_point l.rest.items → IsSPolynomial (monomial_member x) (strand_member a l) (strand_terms a m new)
monomial_strand a x m l new w q o e = s_of_points a x l.mark m [] l.rest.items new w q tt o
    (λ d. ap (λ (f : Terms). coefficient f d) (ap (strand_terms a m) e ∙ negated_terms a m l.rest.items))

pub whole_is : (p : Point) → p.k ≡ pos 0 → p.coef ≡ one_ℚ → p ≡ record { k = pos 0; coef = one_ℚ }
whole_is p e f = ap₂ {C = Point} (λ (k : ℤ) (c : Fraction). record { k = k; coef = c }) e f

-- of two strands: the points of the second, at the multiple, are taken from those of the first
pub two_strands : (a : List ℤ) (m : Exponents) (b c : Strand) (p : Point) (new : List Point) → length b.mark ≡ length c.mark → m ≡ join b.mark c.mark →
    AreSpots a b.mark b.rest.items → AreSpots a c.mark c.rest.items → p ≡ record { k = pos 0; coef = one_ℚ } → IsSubtracted p c.rest.items b.rest.items new →
    IsSPolynomial (strand_member a b) (strand_member a c) (strand_terms a m new)
two_strands a m b c p new w q o r z h = s_of_points a b.mark c.mark m b.rest.items c.rest.items new w q o r
    (λ e. s.terms a m (on-zero a m) (subst (λ (y : Exponents). AreSpots a y c.rest.items) (sym (moved-zero a m))
    (on_multiple a c.mark m c.rest.items long (subst (Divides c.mark) (sym q) (join_right b.mark c.mark)) r)) e
    ∙ ap (λ (y : Exponents). coefficient (strand_terms a m b.rest.items ++ times (neg_ℚ one_ℚ) [] (strand_terms a y c.rest.items)) e) (moved-zero a m))
  where
    s : IsSubtracted (record { k = pos 0; coef = one_ℚ }) c.rest.items b.rest.items new
    s = subst (λ (y : Point). IsSubtracted y c.rest.items b.rest.items new) z h

    long : length m ≡ length c.mark
    long = ap length q ∙ length-join b.mark c.mark w ∙ w

-- its points are on the strand through the multiple
pub two_strands_on : (a : List ℤ) (m : Exponents) (b c : Strand) (p : Point) (new : List Point) → length b.mark ≡ length c.mark → m ≡ join b.mark c.mark →
    AreSpots a b.mark b.rest.items → AreSpots a c.mark c.rest.items → p ≡ record { k = pos 0; coef = one_ℚ } → IsSubtracted p c.rest.items b.rest.items new →
    AreSpots a m new
two_strands_on a m b c p new w q o r z h = s.on a m (on-zero a m) (subst (λ (y : Exponents). AreSpots a y c.rest.items) (sym (moved-zero a m))
    (on_multiple a c.mark m c.rest.items (long ∙ w) (subst (Divides c.mark) (sym q) (join_right b.mark c.mark)) r))
    (on_multiple a b.mark m b.rest.items long (subst (Divides b.mark) (sym q) (join_left b.mark c.mark)) o)
  where
    s : IsSubtracted (record { k = pos 0; coef = one_ℚ }) c.rest.items b.rest.items new
    s = subst (λ (y : Point). IsSubtracted y c.rest.items b.rest.items new) z h

    long : length m ≡ length b.mark
    long = ap length q ∙ length-join b.mark c.mark w

-- ---- a pair that is settled

-- the S-polynomial was taken in
pub turned_strand : (order : MonomialOrder) (n : ℕ) (fs : List Terms) (old new : List MarkedPolynomial) (i j : ℕ) (b c : MarkedPolynomial) (a : List ℤ)
    (m : Exponents) (ps : List Point) → i < j → j < length old → IsTurning order n fs old i j → AreRead old i j b c → length b.head ≡ length c.head →
    m ≡ join b.head c.head → IsSPolynomial b c (strand_terms a m ps) → IsTakenIn order (strand_terms a m ps) old new → IsTurnedOn order n fs old new (i + 1) j
turned_strand order n fs old new i j b c a m ps l k t r w q s h =
    turned_on order n fs old new i j l k t (IsPairTaken.reduced b c (strand_terms a m ps) r.at_i r.at_j s
    (λ n v. strand_variables a m ps n (ap length q ∙ length-join b.head c.head w ∙ v.heads b (member_contained old i b r.at_i))) h)
