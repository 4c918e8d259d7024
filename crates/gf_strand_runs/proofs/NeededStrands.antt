-- Which monomials and strands of a run are needed: those whose mark no later strand's divides.
-- To cite: AreFlagsTo, flags_none, flags_mark, flags_turn, flags_strand, flags_end, strands_length.
use Rattle.std.proofs.Common.{◌≡◌, ◌⊎◌, ℕ, ◌+◌, ◌<◌, ◌≤◌, Bool, true, false, List, [], ◌∷◌, ◌++◌, length, get_or, ℤ, arith, refl, sym, ap, ◌∙◌, subst, inl, inr}
use Rattle.std.proofs.lemmas.Bool.{cases_lt}
use Rattle.std.proofs.lemmas.List.{get_or_append_left, get_or_push, get_or_default}
use Rattle.gf_exponents_theory.specs.Exponents.{Exponents, same, Divides}
use Rattle.gf_exponents_theory.proofs.ExponentsLaws.{same_of}
use Rattle.gf_poly.specs.Marking.{MarkedPolynomial, Each}
use Rattle.gf_ideal_theory.specs.Membership.{HasMonomial}
use Rattle.gf_ideal_theory.specs.Settled.{IsAt}
use Rattle.gf_ideal_theory.proofs.Identities.{one_not_zero}
use Rattle.gf_division.specs.Autoreduction.{IsNeededAt}
use Rattle.gf_division.proofs.ReducerLaws.{members_equal, member_contained}
use Rattle.gf_strands.specs.declared.strands.Strand.{Strand}
use Rattle.gf_strands.specs.Members.{AreMonic}
use Rattle.gf_strands.specs.Strands.{strand_member, strand_members, IsStrandAlong, IsGround}
use Rattle.gf_strands.specs.Monomials.{monomial_member, with_monomials, AreMonomialsApart, AreLaterUndivided}
use Rattle.gf_strands.specs.Forms.{NoStrandFrom, HasStrandFrom}
use Rattle.gf_strands.proofs.MonomialLaws.{joined_length, front_at, behind_at, AtFront, AtBehind, joined_cases}
use Rattle.gf_strands.proofs.StrandMarks.{strand_at, at_strand, ground_monic}
use Rattle.gf_strand_runs.specs.Settling.{IsNeededWhere, AreNeededFlags}

-- ---- one member

-- the mark of a monic member is a monomial of it
mark_there : (bs : List MarkedPolynomial) (i : ℕ) (b : MarkedPolynomial) → AreMonic bs → IsAt bs i b → HasMonomial b.poly b.head
mark_there bs i b o a z = one_not_zero (sym (o b (member_contained bs i b a)) ∙ z)

-- a monomial that no strand's mark divides is needed
monomial_needed : (a : List ℤ) (xs : List Exponents) (ls : List Strand) (i : ℕ) (x : Exponents) → AreMonomialsApart xs → i < length xs → x ≡ get_or xs i x →
    NoStrandFrom ls 0 x → IsNeededAt (with_monomials xs (strand_members a ls)) i
monomial_needed a xs ls i x p l e u =
    (monomial_member x, record { at = front_at xs (strand_members a ls) i x l e; least = λ k c m d. at k c (joined_cases xs (strand_members a ls) k c m) d })
  where
    at : (k : ℕ) (c : MarkedPolynomial) → AtFront xs k c ⊎ AtBehind xs (strand_members a ls) k c → Divides c.head x → (same c.head x ≡ true) × (i ≤ k)
    at k c (inl f) d =
        let m : c.head ≡ get_or xs k [] = ap (λ (z : MarkedPolynomial). z.head) f.member ∙ f.is ∙ get_or_default xs k f.mono [] f.within in
        let y : x ≡ get_or xs i [] = e ∙ get_or_default xs i x [] l in
        let r : k ≡ i = p.none k i f.within l (subst (λ (z : Exponents). Divides z (get_or xs i [])) m (subst (λ (z : Exponents). Divides c.head z) y d)) in
        (same_of c.head x (m ∙ ap (λ (z : ℕ). get_or xs z []) r ∙ sym y), omega (arith, r))
    at k c (inr g) d =
        let m = strand_at a ls g.index c g.at in
        absurd (u.none g.index m.strand (omega arith) m.within m.at (subst (λ (z : MarkedPolynomial). Divides z.head x) m.member d))

-- and so is a strand that no later one's mark divides
strand_needed : (a : List ℤ) (xs : List Exponents) (ls : List Strand) (j : ℕ) (l : Strand) → AreMonic (with_monomials xs (strand_members a ls)) →
    AreLaterUndivided (with_monomials xs (strand_members a ls)) → j < length ls → l ≡ get_or ls j l → NoStrandFrom ls (j + 1) l.mark →
    IsNeededAt (with_monomials xs (strand_members a ls)) (length xs + j)
strand_needed a xs ls j l o h w q u = (strand_member a l, record { at = here; least = λ k c m d. at k c (cases_lt k (length xs + j)) m d })
  where
    here : IsAt (with_monomials xs (strand_members a ls)) (length xs + j) (strand_member a l)
    here = behind_at xs (strand_members a ls) j (strand_member a l) (at_strand a ls j l w (sym q))

    later : (k : ℕ) (c : MarkedPolynomial) → length xs + j < k → AtFront xs k c ⊎ AtBehind xs (strand_members a ls) k c → Divides c.head l.mark → ⊥
    later k c g (inl f) d = absurd (omega (arith, g, f.within))
    later k c g (inr b) d =
        let m = strand_at a ls b.index c b.at in
        u.none b.index m.strand (omega (arith, g, b.is)) m.within m.at (subst (λ (z : MarkedPolynomial). Divides z.head l.mark) m.member d)

    from : (k : ℕ) (c : MarkedPolynomial) → (length xs + j < k) ⊎ (k ≤ length xs + j) → length xs + j ≤ k → IsAt (with_monomials xs (strand_members a ls)) k c →
        Divides c.head l.mark → (same c.head l.mark ≡ true) × (length xs + j ≤ k)
    from k c (inl g) m i d = absurd (later k c g (joined_cases xs (strand_members a ls) k c i) d)
    from k c (inr g) m i d =
        let r : k ≡ length xs + j = omega (arith, g, m) in (
          same_of c.head l.mark (ap (λ (z : MarkedPolynomial). z.head) (members_equal (with_monomials xs (strand_members a ls)) (length xs + j) c
              (strand_member a l)
              (subst (λ (z : ℕ). IsAt (with_monomials xs (strand_members a ls)) z c) r i) here)),
          m,
        )

    at : (k : ℕ) (c : MarkedPolynomial) → (k < length xs + j) ⊎ (length xs + j ≤ k) → IsAt (with_monomials xs (strand_members a ls)) k c →
        Divides c.head l.mark → (same c.head l.mark ≡ true) × (length xs + j ≤ k)
    at k c (inl m) i d = absurd (h.none k (length xs + j) c (strand_member a l) m i here l.mark (mark_there (with_monomials xs (strand_members a ls))
        (length xs + j) (strand_member a l) o here) d)
    at k c (inr m) i d = from k c (cases_lt (length xs + j) k) m i d

-- one that a later one's mark divides isn't: that would be the same mark, which divides the later one
needless : (bs : List MarkedPolynomial) (i k : ℕ) (b c : MarkedPolynomial) → AreMonic bs → AreLaterUndivided bs → i < k → IsAt bs i b → IsAt bs k c →
    Divides c.head b.head → IsNeededAt bs i → ⊥
needless bs i k b c o h l x y d n =
    let e : n.0 ≡ b = members_equal bs i n.0 b n.1.at x in
    let s = n.1.least k c y (subst (λ (z : MarkedPolynomial). Divides c.head z.head) (sym e) d) in
    h.none i k b c l x y c.head (mark_there bs k c o y) (subst (λ (z : MarkedPolynomial). Divides z.head c.head) e (record { rest = []; product = s.0 }))

-- ---- as the code tells

mark_flag : (a : List ℤ) (xs : List Exponents) (ls : List Strand) (i : ℕ) (x : Exponents) (f : Bool) → AreMonic (with_monomials xs (strand_members a ls)) →
    AreMonomialsApart xs → AreLaterUndivided (with_monomials xs (strand_members a ls)) → i < length xs → x ≡ get_or xs i x → (f ≡ true → NoStrandFrom ls 0 x) →
    (f ≡ false → HasStrandFrom ls 0 x) → IsNeededWhere (with_monomials xs (strand_members a ls)) i f
mark_flag a xs ls i x true o p h l e u d = monomial_needed a xs ls i x p l e (u refl)
mark_flag a xs ls i x false o p h l e u d =
    let g = d refl in
    needless (with_monomials xs (strand_members a ls)) i (length xs + g.index) (monomial_member x) (strand_member a g.strand) o h
    (omega (arith, l)) (front_at xs (strand_members a ls) i x l e)
    (behind_at xs (strand_members a ls) g.index (strand_member a g.strand) (at_strand a ls g.index g.strand g.within g.at)) g.divides

strand_flag : (a : List ℤ) (xs : List Exponents) (ls : List Strand) (j : ℕ) (l : Strand) (f : Bool) → AreMonic (with_monomials xs (strand_members a ls)) →
    AreLaterUndivided (with_monomials xs (strand_members a ls)) → j < length ls → l ≡ get_or ls j l → (f ≡ true → NoStrandFrom ls (j + 1) l.mark) →
    (f ≡ false → HasStrandFrom ls (j + 1) l.mark) → IsNeededWhere (with_monomials xs (strand_members a ls)) (length xs + j) f
strand_flag a xs ls j l true o h w q u d = strand_needed a xs ls j l o h w q (u refl)
strand_flag a xs ls j l false o h w q u d =
    let g = d refl in
    needless (with_monomials xs (strand_members a ls)) (length xs + j) (length xs + g.index) (strand_member a l) (strand_member a g.strand) o h
    (omega (arith, g.from)) (behind_at xs (strand_members a ls) j (strand_member a l) (at_strand a ls j l w (sym q)))
    (behind_at xs (strand_members a ls) g.index (strand_member a g.strand) (at_strand a ls g.index g.strand g.within g.at)) g.divides

-- ---- the flags

-- the flags tell it of the first i members
pub record AreFlagsTo (bs : List MarkedPolynomial) (flags : List Bool) (i : ℕ) : Type 0 where
  pub size : length flags ≡ i
  pub at : (j : ℕ) → j < i → IsNeededWhere bs j (get_or flags j false)

pub flags_none : (bs : List MarkedPolynomial) (flags : List Bool) → flags ≡ [] → AreFlagsTo bs flags 0
flags_none bs flags e = record { size = ap (λ (z : List Bool). length z) e; at = λ j l. absurd (omega (arith, l)) }

flags_more : (bs : List MarkedPolynomial) (flags new : List Bool) (i : ℕ) (f : Bool) → IsNeededWhere bs i f → new ≡ flags ++ f ∷ [] → AreFlagsTo bs flags i →
    AreFlagsTo bs new (i + 1)
flags_more bs flags new i f p e h = subst (λ (z : List Bool). AreFlagsTo bs z (i + 1)) (sym e) (record { size = size; at = λ j l. at j (cases_lt j i) l })
  where
    longer : (xs : List Bool) → length (xs ++ f ∷ []) ≡ length xs + 1
    longer [] = refl
    longer (x ∷ xs) = omega (arith, longer xs)

    size : length (flags ++ f ∷ []) ≡ i + 1
    size = omega (arith, longer flags, h.size)

    at : (j : ℕ) → (j < i) ⊎ (i ≤ j) → j < i + 1 → IsNeededWhere bs j (get_or (flags ++ f ∷ []) j false)
    at j (inl q) l = subst (IsNeededWhere bs j) (sym (get_or_append_left flags (f ∷ []) false j (omega (arith, h.size)))) (h.at j q)
    at j (inr q) l =
        let r : i ≡ j = omega arith in
        subst (IsNeededWhere bs j) (sym (get_or_push flags f false j (h.size ∙ r))) (subst (λ (z : ℕ). IsNeededWhere bs z f) r p)

-- that of a monomial
pub flags_mark : (a : List ℤ) (xs : List Exponents) (ls : List Strand) (flags new : List Bool) (i : ℕ) (x : Exponents) (f : Bool) → IsGround a xs →
    Each (IsStrandAlong a) ls → AreMonomialsApart xs → AreLaterUndivided (with_monomials xs (strand_members a ls)) → i < length xs → x ≡ get_or xs i x →
    (f ≡ true → NoStrandFrom ls 0 x) → (f ≡ false → HasStrandFrom ls 0 x) → new ≡ flags ++ f ∷ [] → AreFlagsTo (with_monomials xs (strand_members a ls))
    flags i → AreFlagsTo (with_monomials xs (strand_members a ls)) new (i + 1)
flags_mark a xs ls flags new i x f g o p h l e u d q r =
    flags_more (with_monomials xs (strand_members a ls)) flags new i f (mark_flag a xs ls i x f (ground_monic a xs ls g.nonzero o) p h l e u d) q r

-- behind the monomials
pub flags_turn : (a : List ℤ) (xs : List Exponents) (ls : List Strand) (flags : List Bool) (i : ℕ) → i ≡ length xs →
    AreFlagsTo (with_monomials xs (strand_members a ls)) flags i → AreFlagsTo (with_monomials xs (strand_members a ls)) flags (length xs + 0)
flags_turn a xs ls flags i e h = subst (AreFlagsTo (with_monomials xs (strand_members a ls)) flags) (omega (arith, e)) h

-- that of a strand
pub flags_strand : (a : List ℤ) (xs : List Exponents) (ls : List Strand) (flags new : List Bool) (j : ℕ) (l : Strand) (y : Exponents) (f : Bool) →
    IsGround a xs → Each (IsStrandAlong a) ls → AreLaterUndivided (with_monomials xs (strand_members a ls)) → j < length ls → l ≡ get_or ls j l → y ≡ l.mark →
    (f ≡ true → NoStrandFrom ls (j + 1) y) → (f ≡ false → HasStrandFrom ls (j + 1) y) → new ≡ flags ++ f ∷ [] →
    AreFlagsTo (with_monomials xs (strand_members a ls))
    flags (length xs + j) → AreFlagsTo (with_monomials xs (strand_members a ls)) new (length xs + (j + 1))
flags_strand a xs ls flags new j l y f g o h w q m u d e r =
    subst (AreFlagsTo (with_monomials xs (strand_members a ls)) new) (omega arith)
    (flags_more (with_monomials xs (strand_members a ls)) flags new (length xs + j) f (strand_flag a xs ls j l f (ground_monic a xs ls g.nonzero o) h w q
    (λ t. subst (NoStrandFrom ls (j + 1)) m (u t)) (λ t. subst (HasStrandFrom ls (j + 1)) m (d t))) e r)

members-length : (a : List ℤ) (ls : List Strand) → length (strand_members a ls) ≡ length ls
members-length a [] = refl
members-length a (l ∷ ls) = omega (arith, members-length a ls)

pub strands_length : (a : List ℤ) (xs : List Exponents) (ls : List Strand) → length (with_monomials xs (strand_members a ls)) ≡ length xs + length ls
strands_length a xs ls = joined_length xs (strand_members a ls) ∙ ap (λ (k : ℕ). length xs + k) (members-length a ls)

pub flags_end : (a : List ℤ) (xs : List Exponents) (ls : List Strand) (flags : List Bool) (j : ℕ) → j ≡ length ls →
    AreFlagsTo (with_monomials xs (strand_members a ls)) flags (length xs + j) → AreNeededFlags (with_monomials xs (strand_members a ls)) flags
flags_end a xs ls flags j e h =
    let s : length xs + j ≡ length (with_monomials xs (strand_members a ls)) = ap (λ (k : ℕ). length xs + k) e ∙ sym (strands_length a xs ls) in
    record { size = h.size ∙ s; at = λ i l. h.at i (omega (arith, s, l)) }
