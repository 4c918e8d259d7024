-- A run with monomials in front of its members.
-- To cite: cover_more, tail_cover_monomial, cover_chain, front_chain, front_take, chained_behind, chained_turn, read_monomial, read_members, AreSettledTo,
-- settled_to-start, settled_to-more, settled_within, settled_turning,
-- settled_entered, row_next, row_start, first_behind, pair_behind, behind_second, behind_size, row_second, undivided-first, undivided-rest.
use Rattle.std.proofs.Common.{◌≡◌, ◌⊎◌, ℕ, zero, suc, ◌+◌, ◌<◌, ◌≤◌, List, [], ◌∷◌, length, take, get_or, Contains, arith, refl, sym, ap, ◌∙◌, subst, inl, inr}
use Rattle.gf_exponents_theory.specs.Exponents.{Exponents, join, minus, plus}
use Rattle.gf_exponents_theory.specs.SixOrders.{MonomialOrder}
use Rattle.gf_poly.specs.Polynomial.{Terms}
use Rattle.gf_poly.specs.Marking.{MarkedPolynomial, HaveVariables}
use Rattle.gf_ideal_theory.specs.Reduction.{HasOneMonomial, IsIrreducible}
use Rattle.gf_ideal_theory.specs.Settled.{IsAt}
use Rattle.gf_int_theory.proofs.ListLaws.{Contains-here}
use Rattle.gf_ideal_theory.proofs.ListLaws.{Contains-there}
use Rattle.gf_division.proofs.ReducerLaws.{member_at}
use Rattle.gf_buchberger.proofs.ReducedPairLaws.{AreRead}
use Rattle.gf_strands.specs.Monomials.{monomial_member, with_monomials}
use Rattle.gf_strand_runs.specs.Turns.{AreUndividedBy, IsChained, HasCoveredTail, IsPairCovered, IsEntering, AreSingleTo, IsTurning, KeepsTurning, AreKeptIn}
use Rattle.gf_strand_runs.specs.Turns.{AreTakenIn}
use Rattle.gf_strands.specs.Forms.{HasCover}
use Rattle.gf_strands.proofs.MonomialLaws.{monomial_single, joined_length, front_at, behind_at, AtFront, AtBehind, joined_cases, front_contained}
use Rattle.gf_strand_runs.proofs.TurnLaws.{entering_end, IsWhole, whole-start, whole-more, IsRowTaken, row-more}

-- ---- covers and chains

-- the members in front are among all
pub cover_more : (xs : List Exponents) (bs : List MarkedPolynomial) (x : Exponents) → HasCover (with_monomials xs []) x → HasCover (with_monomials xs bs) x
cover_more xs bs x h = record { member = h.member; contained = front_contained xs bs h.member h.contained; single = h.single; divides = h.divides }

tail_cover_more : (xs : List Exponents) (bs : List MarkedPolynomial) (u : Exponents) (b : MarkedPolynomial) → HasCoveredTail (with_monomials xs []) u b →
    HasCoveredTail (with_monomials xs bs) u b
tail_cover_more xs bs u b h = record { at = λ y m. elim (h.at y m) [ inl s ↦ inl s | inr k ↦ inr (cover_more xs bs (plus u y) k) ] }

-- a monomial has no tail
pub tail_cover_monomial : (xs : List Exponents) (bs : List MarkedPolynomial) (x : Exponents) (c : MarkedPolynomial) →
    HasCoveredTail (with_monomials xs []) (minus (join x c.head) c.head) c → IsPairCovered (with_monomials xs bs) (monomial_member x) c
tail_cover_monomial xs bs x c h = record {
  first = record { at = λ y m. inl (monomial_single x y m) };
  second = tail_cover_more xs bs (minus (join x c.head) c.head) c h;
}

front_index : (xs : List Exponents) (bs : List MarkedPolynomial) (k : ℕ) (b : MarkedPolynomial) → IsAt (with_monomials xs []) k b →
    IsAt (with_monomials xs bs) k b
front_index xs bs k b h = at (joined_cases xs [] k b h)
  where
    at : AtFront xs k b ⊎ AtBehind xs [] k b → IsAt (with_monomials xs bs) k b
    at (inl f) = subst (IsAt (with_monomials xs bs) k) (sym f.member) (front_at xs bs k f.mono f.within f.is)
    at (inr g) = absurd (omega (arith, g.at.within))

pub cover_chain : (xs : List Exponents) (bs : List MarkedPolynomial) (x : Exponents) → HasCover (with_monomials xs []) x → IsChained (with_monomials xs bs) x
cover_chain xs bs x h = record {
  index = h.contained.0;
  member = h.member;
  at = front_index xs bs h.contained.0 h.member (record { within = h.contained.1; is = h.contained.2 });
  divides = h.divides;
}

take_front : (xs : List Exponents) (bs : List MarkedPolynomial) (i : ℕ) → i ≤ length xs → take i (with_monomials xs bs) ≡ with_monomials (take i xs) []
take_front xs bs zero l = refl
take_front [] bs (suc i) l = absurd (omega (arith, l))
take_front (x ∷ xs) bs (suc i) l = ap (λ (z : List MarkedPolynomial). monomial_member x ∷ z) (take_front xs bs i (omega (arith, l)))

-- a monomial before the index i makes a chain
pub front_chain : (xs : List Exponents) (bs : List MarkedPolynomial) (i : ℕ) (x : Exponents) → i ≤ length xs → HasCover (with_monomials (take i xs) []) x →
    IsChained (take i (with_monomials xs bs)) x
front_chain xs bs i x l h = subst (λ (z : List MarkedPolynomial). IsChained z x) (sym (take_front xs bs i l)) (cover_chain (take i xs) [] x h)

pub front_take : (n : ℕ) (xs : List Exponents) (i : ℕ) → HaveVariables n (with_monomials xs []) → HaveVariables n (with_monomials (take i xs) [])
front_take n xs zero v = tt
front_take n [] (suc i) v = tt
front_take n (x ∷ xs) (suc i) v = (v.0, front_take n xs i v.1)

pub chained_behind : (xs : List Exponents) (bs : List MarkedPolynomial) (x : Exponents) → IsChained bs x → IsChained (with_monomials xs bs) x
chained_behind xs bs x h = record { index = length xs + h.index; member = h.member; at = behind_at xs bs h.index h.member h.at; divides = h.divides }

take_joined : (xs : List Exponents) (bs : List MarkedPolynomial) (i : ℕ) → take (length xs + i) (with_monomials xs bs) ≡ with_monomials xs (take i bs)
take_joined [] bs i =
    let e : length {A = Exponents} [] + i ≡ i = omega arith in
    ap (λ (k : ℕ). take k bs) e
take_joined (x ∷ xs) bs i =
    let e : length (x ∷ xs) + i ≡ suc (length xs + i) = omega arith in
    ap (λ (k : ℕ). take k (with_monomials (x ∷ xs) bs)) e ∙ ap (λ (z : List MarkedPolynomial). monomial_member x ∷ z) (take_joined xs bs i)

pub chained_turn : (xs : List Exponents) (bs : List MarkedPolynomial) (i : ℕ) (x : Exponents) → IsChained (with_monomials xs (take i bs)) x →
    IsChained (take (length xs + i) (with_monomials xs bs)) x
chained_turn xs bs i x h = subst (λ (z : List MarkedPolynomial). IsChained z x) (sym (take_joined xs bs i)) h

-- ---- members that are read

pub read_monomial : (xs : List Exponents) (bs : List MarkedPolynomial) (i j : ℕ) (x : Exponents) (c : MarkedPolynomial) → i < length xs → x ≡ get_or xs i x →
    j < length bs → c ≡ get_or bs j c → AreRead (with_monomials xs bs) i (length xs + j) (monomial_member x) c
read_monomial xs bs i j x c l e m q = record { at_i = front_at xs bs i x l e; at_j = behind_at xs bs j c (member_at bs j c m q) }

pub read_members : (xs : List Exponents) (bs : List MarkedPolynomial) (i j : ℕ) (b c : MarkedPolynomial) → i < j → j < length bs → b ≡ get_or bs i b →
    c ≡ get_or bs j c → AreRead (with_monomials xs bs) (length xs + i) (length xs + j) b c
read_members xs bs i j b c l m e q = record { at_i = behind_at xs bs i b (member_at bs i b (omega arith) e); at_j = behind_at xs bs j c (member_at bs j c m q) }

-- ---- the whole run

pub fronts_single : (xs : List Exponents) (bs : List MarkedPolynomial) → AreSingleTo (with_monomials xs bs) (length xs)
fronts_single xs bs j b l h = at (joined_cases xs bs j b h)
  where
    at : AtFront xs j b ⊎ AtBehind xs bs j b → HasOneMonomial b
    at (inl f) = subst HasOneMonomial (sym f.member) (monomial_single f.mono)
    at (inr g) = absurd (omega (arith, l, g.is))

-- the pairs of the monomials and of the first j members are settled, whatever list the run is on
pub record AreSettledTo (order : MonomialOrder) (n : ℕ) (waiting : List Terms) (start : List MarkedPolynomial) (xs : List Exponents)
    (bs : List MarkedPolynomial) (j : ℕ) : Type 0 where
  pub at : (fs : List Terms) → IsEntering order n fs waiting start → IsWhole order n fs (with_monomials xs bs) (length xs + j)

pub settled_to-start : (order : MonomialOrder) (n : ℕ) (waiting : List Terms) (start : List MarkedPolynomial) (xs : List Exponents)
    (bs : List MarkedPolynomial) → ((fs : List Terms) → IsEntering order n fs waiting start → IsEntering order n fs [] (with_monomials xs bs)) →
    AreSettledTo order n waiting start xs bs 0
settled_to-start order n waiting start xs bs k = record {
  at = λ fs e. let h = k fs e in
      subst (IsWhole order n fs (with_monomials xs bs)) none (whole-start order n fs (with_monomials xs bs) (length xs) h.underway
      (entering_end order n fs [] (with_monomials xs bs) refl h) (omega (arith, joined_length xs bs)) (fronts_single xs bs));
}
  where
    none : length xs ≡ length xs + 0
    none = omega arith

pub settled_to-more : (order : MonomialOrder) (n : ℕ) (waiting : List Terms) (start : List MarkedPolynomial) (xs : List Exponents)
    (old new : List MarkedPolynomial) (j : ℕ) → KeepsTurning order n (with_monomials xs old) 0 (length xs + j) (with_monomials xs new) 0 ((length xs + j) + 1) →
    AreKeptIn (with_monomials xs old) (with_monomials xs new) → length old ≤ length new → j < length old → AreSettledTo order n waiting start xs old j →
    AreSettledTo order n waiting start xs new (j + 1)
settled_to-more order n waiting start xs old new j t k l m h = record {
  at = λ fs e.
      subst (IsWhole order n fs (with_monomials xs new)) next
      (whole-more order n fs (with_monomials xs old) (with_monomials xs new) (length xs + j) t k (omega (arith, l, joined_length xs old, joined_length xs new))
      (omega (arith, m, joined_length xs old)) (h.at fs e));
}
  where
    next : (length xs + j) + 1 ≡ length xs + (j + 1)
    next = omega arith

pub settled_within : (order : MonomialOrder) (n : ℕ) (fs waiting : List Terms) (start : List MarkedPolynomial) (xs : List Exponents)
    (bs : List MarkedPolynomial) (j : ℕ) → IsEntering order n fs waiting start → AreSettledTo order n waiting start xs bs j → j ≤ length bs
settled_within order n fs waiting start xs bs j e h = omega (arith, (h.at fs e).within, joined_length xs bs)

pub settled_turning : (order : MonomialOrder) (n : ℕ) (fs waiting : List Terms) (start : List MarkedPolynomial) (xs : List Exponents)
    (bs : List MarkedPolynomial) (j : ℕ) → j ≡ length bs → IsEntering order n fs waiting start → AreSettledTo order n waiting start xs bs j →
    IsTurning order n fs (with_monomials xs bs) 0 (length (with_monomials xs bs))
settled_turning order n fs waiting start xs bs j q e h = subst (IsTurning order n fs (with_monomials xs bs) 0) all (h.at fs e).turning
  where
    all : length xs + j ≡ length (with_monomials xs bs)
    all = omega (arith, q, joined_length xs bs)

pub settled_entered : (order : MonomialOrder) (n : ℕ) (fs waiting : List Terms) (start : List MarkedPolynomial) (xs : List Exponents)
    (bs : List MarkedPolynomial) (j : ℕ) → IsEntering order n fs waiting start → AreSettledTo order n waiting start xs bs j →
    AreTakenIn n fs (with_monomials xs bs)
settled_entered order n fs waiting start xs bs j e h = (h.at fs e).entered

-- the next pair of a row, among the members
pub row_next : (order : MonomialOrder) (n : ℕ) (xs : List Exponents) (start : List MarkedPolynomial) (old new : List MarkedPolynomial) (i q : ℕ) →
    KeepsTurning order n (with_monomials xs old) (length xs + i) q (with_monomials xs new) ((length xs + i) + 1) q →
    AreKeptIn (with_monomials xs old) (with_monomials xs new) → length old ≤ length new → IsRowTaken order n start (with_monomials xs old) (length xs + i) q →
    IsRowTaken order n start (with_monomials xs new) (length xs + (i + 1)) q
row_next order n xs start old new i q t k l h =
    subst (λ (p : ℕ). IsRowTaken order n start (with_monomials xs new) p q) next (row-more order n start (with_monomials xs old) (with_monomials xs new)
    (length xs + i) ((length xs + i) + 1) q t k (omega (arith, l, joined_length xs old, joined_length xs new)) h)
  where
    next : (length xs + i) + 1 ≡ length xs + (i + 1)
    next = omega arith

pub row_start : (order : MonomialOrder) (n : ℕ) (xs : List Exponents) (start bs : List MarkedPolynomial) (i q : ℕ) → i ≡ length xs →
    IsRowTaken order n (with_monomials xs start) (with_monomials xs bs) i q → IsRowTaken order n (with_monomials xs start) (with_monomials xs bs)
    (length xs + 0) q
row_start order n xs start bs i q e h = subst (λ (p : ℕ). IsRowTaken order n (with_monomials xs start) (with_monomials xs bs) p q) here h
  where
    here : i ≡ length xs + 0
    here = omega (arith, e)

-- ---- indices behind the monomials

pub first_behind : (xs : List Exponents) (i j : ℕ) → i < length xs → i < length xs + j
first_behind xs i j l = omega (arith, l)

pub pair_behind : (xs : List Exponents) (i j : ℕ) → i < j → length xs + i < length xs + j
pair_behind xs i j l = omega (arith, l)

pub behind_second : (xs : List Exponents) (bs : List MarkedPolynomial) (j : ℕ) → j < length bs → length xs + j < length (with_monomials xs bs)
behind_second xs bs j l = omega (arith, l, joined_length xs bs)

pub behind_size : (xs : List Exponents) (old new : List MarkedPolynomial) → length (with_monomials xs old) ≤ length (with_monomials xs new) →
    length old ≤ length new
behind_size xs old new l = omega (arith, l, joined_length xs old, joined_length xs new)

pub row_second : (order : MonomialOrder) (n : ℕ) (xs : List Exponents) (start bs : List MarkedPolynomial) (p q j : ℕ) → j < length start →
    IsRowTaken order n (with_monomials xs start) (with_monomials xs bs) p q → j < length bs
row_second order n xs start bs p q j l h = omega (arith, l, h.size, joined_length xs start, joined_length xs bs)

-- ---- what is taken in

-- no mark divides a monomial of the first one
pub undivided-first : (bs : List MarkedPolynomial) (f : Terms) (fs : List Terms) → AreUndividedBy bs (f ∷ fs) → IsIrreducible (Contains bs) f
undivided-first bs f fs h = h.at f (Contains-here f fs)

-- nor of those behind it
pub undivided-rest : (bs : List MarkedPolynomial) (f : Terms) (fs : List Terms) → AreUndividedBy bs (f ∷ fs) → AreUndividedBy bs fs
undivided-rest bs f fs h = record { at = λ g c. h.at g (Contains-there f g fs c) }
