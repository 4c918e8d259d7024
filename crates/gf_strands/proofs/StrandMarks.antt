-- The marks of strands: strands as members, and which marks of later strands divide a monomial.
-- To cite: IsStrandAt, strand_at, at_strand, each_strand, strand_width, mark_width, ground_monic, NoStrandBetween, between_none, between_more, between_end,
-- strand_divided,
-- AreLeftTo, left_none, left_more, left_end, moved_width.
use Rattle.std.proofs.Common.{◌≡◌, ◌⊎◌, ℕ, zero, suc, ◌+◌, ◌<◌, ◌≤◌, List, [], ◌∷◌, length, get_or, ℤ, arith, refl, sym, ap, ◌∙◌, subst, inl, inr}
use Rattle.std.proofs.lemmas.Bool.{cases_lt}
use Rattle.std.proofs.lemmas.List.{get_or_default}
use Rattle.gf_frac.specs.Fraction.{one_ℚ}
use Rattle.gf_exponents_theory.specs.Exponents.{Exponents, Divides}
use Rattle.gf_poly.specs.Polynomial.{coefficient}
use Rattle.gf_poly.specs.Marking.{MarkedPolynomial, Each}
use Rattle.gf_ideal_theory.specs.Settled.{IsAt}
use Rattle.gf_ideal_theory.proofs.ListLaws.{Each-weaker, contained_each, each_contained}
use Rattle.gf_strands.specs.declared.strands.Strand.{Strand}
use Rattle.gf_strands.specs.declared.strands.Point.{Point}
use Rattle.gf_strands.specs.Along.{HasNonzero}
use Rattle.gf_strands.specs.Members.{AreMonic}
use Rattle.gf_strands.specs.Strands.{moved, strand_member, strand_members, IsStrandAlong, IsGround}
use Rattle.gf_strands.specs.Monomials.{with_monomials}
use Rattle.gf_strands.specs.Forms.{NoStrandFrom, HasStrandFrom}
use Rattle.gf_strands.proofs.MoveLaws.{moved-length}
use Rattle.gf_strands.proofs.StrandLaws.{strand_marked}
use Rattle.gf_strands.proofs.MonomialLaws.{monomial_one, AtFront, AtBehind, joined_cases, front_variables}

-- ---- strands as members

-- the member at an index is that of the strand there
pub record IsStrandAt (a : List ℤ) (ls : List Strand) (k : ℕ) (b : MarkedPolynomial) : Type 0 where
  pub strand : Strand
  pub within : k < length ls
  pub at : get_or ls k strand ≡ strand
  pub member : b ≡ strand_member a strand

pub strand_at : (a : List ℤ) (ls : List Strand) (k : ℕ) (b : MarkedPolynomial) → IsAt (strand_members a ls) k b → IsStrandAt a ls k b
strand_at a [] k b h = absurd (omega (arith, h.within))
strand_at a (l ∷ ls) zero b h = record { strand = l; within = omega arith; at = refl; member = sym h.is }
strand_at a (l ∷ ls) (suc k) b h =
    let r = strand_at a ls k b (record { within = omega (arith, h.within); is = h.is }) in
    record { strand = r.strand; within = omega (arith, r.within); at = r.at; member = r.member }

pub at_strand : (a : List ℤ) (ls : List Strand) (k : ℕ) (l : Strand) → k < length ls → get_or ls k l ≡ l → IsAt (strand_members a ls) k (strand_member a l)
at_strand a [] k l h e = absurd (omega (arith, h))
at_strand a (m ∷ ls) zero l h e = record { within = omega arith; is = ap (strand_member a) e }
at_strand a (m ∷ ls) (suc k) l h e =
    let r = at_strand a ls k l (omega (arith, h)) e in
    record { within = omega (arith, r.within); is = r.is }

strands_equal : (ls : List Strand) (k : ℕ) (l m : Strand) → k < length ls → get_or ls k l ≡ l → get_or ls k m ≡ m → l ≡ m
strands_equal ls k l m h e f = sym e ∙ get_or_default ls k l m h ∙ f

-- what holds of each strand
pub each_strand : (P : Strand → Type 0) (ls : List Strand) (k : ℕ) (l : Strand) → Each P ls → k < length ls → get_or ls k l ≡ l → P l
each_strand P ls k l h m e = contained_each P ls h l (k, m, e)

-- the marks have as many variables
strands_width : (a : List ℤ) (ls : List Strand) (n : ℕ) → n ≡ length a → Each (IsStrandAlong a) ls → Each (λ (l : Strand). length l.mark ≡ n) ls
strands_width a ls n e h = Each-weaker (IsStrandAlong a) (λ (l : Strand). length l.mark ≡ n) (λ l k. k.width ∙ sym e) ls h

pub strand_width : (a : List ℤ) (ls : List Strand) (j : ℕ) (l : Strand) (y : Exponents) → Each (IsStrandAlong a) ls → j < length ls → l ≡ get_or ls j l →
    y ≡ l.mark → Each (λ (m : Strand). length m.mark ≡ length y) ls
strand_width a ls j l y h w q e = strands_width a ls (length y) (ap length e ∙ (each_strand (IsStrandAlong a) ls j l h w (sym q)).width) h

pub mark_width : (a : List ℤ) (xs : List Exponents) (ls : List Strand) (i : ℕ) (x : Exponents) → IsGround a xs → Each (IsStrandAlong a) ls → i < length xs →
    x ≡ get_or xs i x → Each (λ (m : Strand). length m.mark ≡ length x) ls
mark_width a xs ls i x g h w q = strands_width a ls (length x) (front_variables (length a) xs [] i x g.marks w q) h

-- monomials and strands are monic
pub ground_monic : (a : List ℤ) (xs : List Exponents) (ls : List Strand) → HasNonzero a → Each (IsStrandAlong a) ls →
    AreMonic (with_monomials xs (strand_members a ls))
ground_monic a xs ls n h b c = at (joined_cases xs (strand_members a ls) c.0 b (record { within = c.1; is = c.2 }))
  where
    at : AtFront xs c.0 b ⊎ AtBehind xs (strand_members a ls) c.0 b → coefficient b.poly b.head ≡ one_ℚ
    at (inl f) = subst (λ (z : MarkedPolynomial). coefficient z.poly z.head ≡ one_ℚ) (sym f.member) (monomial_one f.mono)
    at (inr g) =
        let l = strand_at a ls g.index b g.at in
        subst (λ (z : MarkedPolynomial). coefficient z.poly z.head ≡ one_ℚ) (sym l.member)
        (strand_marked a l.strand n (each_strand (IsStrandAlong a) ls g.index l.strand h l.within l.at)).monic

-- ---- marks from an index on, one after another

-- no mark of a strand from the index i on and before the index j divides x
pub record NoStrandBetween (ls : List Strand) (i j : ℕ) (x : Exponents) : Type 0 where
  pub within : i ≤ j
  pub none : (k : ℕ) (l : Strand) → i ≤ k → k < j → k < length ls → get_or ls k l ≡ l → Divides l.mark x → ⊥

pub between_none : (ls : List Strand) (i : ℕ) (x : Exponents) → NoStrandBetween ls i i x
between_none ls i x = record { within = omega arith; none = λ k l g h m e d. absurd (omega (arith, g, h)) }

pub between_more : (ls : List Strand) (i j : ℕ) (x : Exponents) (l : Strand) → j < length ls → l ≡ get_or ls j l → (Divides l.mark x → ⊥) →
    NoStrandBetween ls i j x → NoStrandBetween ls i (j + 1) x
between_more ls i j x l w q n h = record { within = omega (arith, h.within); none = λ k m g p v e d. at k m (cases_lt k j) g p v e d }
  where
    at : (k : ℕ) (m : Strand) → (k < j) ⊎ (j ≤ k) → i ≤ k → k < j + 1 → k < length ls → get_or ls k m ≡ m → Divides m.mark x → ⊥
    at k m (inl c) g p v e d = h.none k m g c v e d
    at k m (inr c) g p v e d =
        let r : k ≡ j = omega (arith, c, p) in
        let s : l ≡ m = strands_equal ls j l m w (sym q) (subst (λ (z : ℕ). get_or ls z m ≡ m) r e) in
        n (subst (λ (z : Strand). Divides z.mark x) (sym s) d)

pub between_end : (ls : List Strand) (i j : ℕ) (x : Exponents) → length ls ≤ j → NoStrandBetween ls i j x → NoStrandFrom ls i x
between_end ls i j x l h = record { none = λ k m g v e d. h.none k m g (omega (arith, l, v)) v e d }

pub strand_divided : (ls : List Strand) (i j : ℕ) (x : Exponents) (l : Strand) → i ≤ j → j < length ls → l ≡ get_or ls j l → Divides l.mark x →
    HasStrandFrom ls i x
strand_divided ls i j x l g w q d = record { index = j; from = g; within = w; strand = l; at = sym q; divides = d }

-- ---- points, one after another

-- no such mark divides one of the first i points on the strand through x
pub record AreLeftTo (a : List ℤ) (x : Exponents) (ls : List Strand) (from : ℕ) (ps : List Point) (i : ℕ) : Type 0 where
  pub none : (j : ℕ) (p : Point) → j < i → j < length ps → get_or ps j p ≡ p → NoStrandFrom ls from (moved a x p.k)

pub left_none : (a : List ℤ) (x : Exponents) (ls : List Strand) (from : ℕ) (ps : List Point) → AreLeftTo a x ls from ps 0
left_none a x ls from ps = record { none = λ j p l w e. absurd (omega (arith, l)) }

pub left_more : (a : List ℤ) (x : Exponents) (ls : List Strand) (from : ℕ) (ps : List Point) (i : ℕ) (p : Point) (y : Exponents) → i < length ps →
    p ≡ get_or ps i p → y ≡ moved a x p.k → NoStrandFrom ls from y → AreLeftTo a x ls from ps i → AreLeftTo a x ls from ps (i + 1)
left_more a x ls from ps i p y w q e n h = record { none = λ j r l v f. at j r (cases_lt j i) l v f }
  where
    at : (j : ℕ) (r : Point) → (j < i) ⊎ (i ≤ j) → j < i + 1 → j < length ps → get_or ps j r ≡ r → NoStrandFrom ls from (moved a x r.k)
    at j r (inl c) l v f = h.none j r c v f
    at j r (inr c) l v f =
        let k : j ≡ i = omega (arith, c, l) in
        let s : p ≡ r = q ∙ get_or_default ps i p r w ∙ subst (λ (z : ℕ). get_or ps z r ≡ r) k f in
        subst (λ (z : Point). NoStrandFrom ls from (moved a x z.k)) s (subst (NoStrandFrom ls from) e n)

pub left_end : (a : List ℤ) (x : Exponents) (ls : List Strand) (from : ℕ) (ps : List Point) (i : ℕ) → length ps ≤ i → AreLeftTo a x ls from ps i →
    Each (λ (p : Point). NoStrandFrom ls from (moved a x p.k)) ps
left_end a x ls from ps i l h = each_contained (λ (p : Point). NoStrandFrom ls from (moved a x p.k)) ps (λ p c. h.none c.0 p (omega (arith, l, c.1)) c.1 c.2)

pub moved_width : (a : List ℤ) (x : Exponents) (ls : List Strand) (k : ℤ) (y : Exponents) → length x ≡ length a → Each (IsStrandAlong a) ls → y ≡ moved a x k →
    Each (λ (m : Strand). length m.mark ≡ length y) ls
moved_width a x ls k y w h e = strands_width a ls (length y) (ap length e ∙ moved-length a x k ∙ w) h
