-- Normals and monomials: a vector inside a facet is one by which each unmarked monomial is lighter, or further along the
-- negated normal; and back.
-- To cite: IsNormalOf, normal_of, normal_of_monomial, normal-length, normal-primitive, normal-nonzero, row-further, beyond_of_inside,
-- HasFurther, inside_of_beyond.
use Rattle.std.proofs.Common.{◌≡◌, ◌⊎◌, ℕ, ◌<◌, true, false, List, length, get_or, Contains, ℤ, pos, neg_ℤ, ◌+ℤ◌, ◌-ℤ◌, ◌*ℤ◌, ◌<ℤ◌, arith, sym, ap, ◌∙◌, subst}
use Rattle.std.proofs.Common.{inl, inr}
use Rattle.std.proofs.Math.IntN.{*ℤ-zero}
use Rattle.std.proofs.lemmas.Int.{ints}
use Rattle.gf_int_theory.specs.Content.{IsPrimitive, scaled}
use Rattle.gf_int_theory.proofs.RingLaws.{*ℤ-neg}
use Rattle.gf_int_theory.proofs.SignLaws.{0<-*ℤ, 0<-cancel}
use Rattle.gf_poly.specs.Fraction.{one_ℚ}
use Rattle.gf_vec.specs.Vector.{dot}
use Rattle.gf_vec.specs.Primitive.{IsPrimitivePart}
use Rattle.gf_vec.proofs.VectorLaws.{length-times, dot-times}
use Rattle.gf_exponents_theory.specs.Exponents.{Exponents, entry, same, whole_weight}
use Rattle.gf_exponents_theory.proofs.ExponentsLaws.{same_flip, same_trans, entries_same}
use Rattle.gf_exponents_theory.proofs.WholeWeightLaws.{whole_weight-same}
use Rattle.gf_poly.specs.declared.Term.{Term}
use Rattle.gf_poly.specs.Polynomial.{coefficient}
use Rattle.gf_poly.specs.Marking.{MarkedPolynomial}
use Rattle.gf_ideal_theory.specs.Membership.{HasMonomial}
use Rattle.gf_ideal_theory.specs.Marks.{AreMarked}
use Rattle.gf_facets_theory.specs.Rows.{differences, IsNormal, negated}
use Rattle.gf_facets_theory.specs.Facets.{IsInsideFacet}
use Rattle.gf_facets_theory.specs.Beyond.{IsStepsFrom, IsFurther, IsBeyond}
use Rattle.gf_facets_theory.specs.MarkedBases.{AreCanonical}
use Rattle.gf_facets_theory.proofs.VectorLaws.{IsNonzero, vectors_by_entries, get-negated, length-negated, dot-negated, vector_or_not}
use Rattle.gf_facets_theory.proofs.WholeLaws.{no_multiple}
use Rattle.gf_facets_theory.proofs.PrimitiveLaws.{multiple_divided, primitive_unique, divided-entry}
use Rattle.gf_vec.proofs.EntryLaws.{entry_times}
use Rattle.gf_vec.proofs.PrimitiveLaws.{primitive_of, primitive_opposite}
use Rattle.gf_poly.proofs.CoefficientLaws.{term_length}
use Rattle.gf_facets_theory.proofs.RowLaws.{row-in, IsTermRow, row-from, term_of, monomial_of, length-differences, get-differences, dot-differences, differs}
use Rattle.gf_gordan.proofs.ExistenceLaws.{divided_exists}
use Rattle.gf_poly.proofs.InitialFormLaws.{same_or_not}

-- ---- normals

-- what a normal of kept members comes from
pub record IsNormalOf (n : ℕ) (bs : List MarkedPolynomial) (a : List ℤ) : Type 0 where
  pub member : MarkedPolynomial
  pub contained : Contains bs member
  pub at : Exponents
  pub there : HasMonomial member.poly at
  pub unmarked : same member.head at ≡ false
  pub width : length at ≡ n
  pub is_row : List ℤ
  pub row : is_row ≡ differences member.head at
  pub part : IsPrimitivePart is_row a
  pub steps : ℕ
  pub some : 0 < steps
  pub apart : IsStepsFrom steps a at member.head

-- the row of x and y is k times a: x is y and k times a
row-steps : (x y : Exponents) (a : List ℤ) (k : ℕ) → length x ≡ length y →
    ((i : ℕ) → get_or (differences x y) i (pos 0) ≡ pos k *ℤ get_or a i (pos 0)) → IsStepsFrom k a y x
row-steps x y a k e h i = omega (arith, ints, h i, get-differences x y i e)

pub normal_of : (n : ℕ) (bs : List MarkedPolynomial) (a : List ℤ) →
    AreCanonical n bs → IsNormal bs a → IsNormalOf n bs a
normal_of n bs a k p = at (row-from bs p.0 p.1)
  where
    at : ((b : MarkedPolynomial) × Contains bs b × IsTermRow b.head b.poly p.0) → IsNormalOf n bs a
    at b = record {
      member = b.0;
      contained = b.1;
      at = t.term.mono;
      there = monomial_of n b.0 t.term (k b.0 b.1) t.inside;
      unmarked = t.other;
      width = term_length n b.0.poly t.term (k b.0 b.1).variables t.inside;
      is_row = p.0;
      row = t.row;
      part = p.2;
      steps = d.0;
      some = d.1;
      apart = row-steps b.0.head t.term.mono a d.0 ((k b.0 b.1).head ∙ sym (term_length n b.0.poly t.term (k b.0 b.1).variables t.inside))
          (λ i. ap (λ (z : List ℤ). get_or z i (pos 0)) (sym t.row) ∙ d.3 i);
    }
      where
        t : IsTermRow b.0.head b.0.poly p.0
        t = b.2

        d : (k : ℕ) × (0 < k) × (scaled (pos k) a ≡ p.0) × ((i : ℕ) → get_or p.0 i (pos 0) ≡ pos k *ℤ get_or a i (pos 0))
        d = divided-entry p.0 a p.2

-- each unmarked monomial gives a normal, some times which it lies below the mark
pub normal_of_monomial : (n : ℕ) (bs : List MarkedPolynomial) (b : MarkedPolynomial) (x : Exponents) → AreCanonical n bs → Contains bs b →
    HasMonomial b.poly x → same x b.head ≡ false → (a : List ℤ) × IsNormal bs a × ((j : ℕ) × (0 < j) × IsStepsFrom j a x b.head)
normal_of_monomial n bs b x k c m u = at (term_of b.poly x m)
  where
    at : ((t : Term) × Contains b.poly t × (same x t.mono ≡ true)) → (a : List ℤ) × IsNormal bs a × ((j : ℕ) × (0 < j) × IsStepsFrom j a x b.head)
    at t = elim (same_or_not b.head t.0.mono) [
      | inl s ↦ absurd (let v : same x b.head ≡ true = same_trans x t.0.mono b.head t.2 (same_flip b.head t.0.mono s) in cc)
      | inr o ↦ found o (divided_exists (differences b.head t.0.mono))
    ]
      where
        found : same b.head t.0.mono ≡ false → ((a : List ℤ) × IsPrimitivePart (differences b.head t.0.mono) a) →
            (a : List ℤ) × IsNormal bs a × ((j : ℕ) × (0 < j) × IsStepsFrom j a x b.head)
        found o p =
            let d = divided-entry (differences b.head t.0.mono) p.0 p.1 in
            let s = row-steps b.head t.0.mono p.0 d.0 ((k b c).head ∙ sym (term_length n b.poly t.0 (k b c).variables t.1)) d.3 in (
              p.0,
              (differences b.head t.0.mono, row-in bs b t.0 c t.1 o, p.1),
              (d.0, d.1, λ i. s i ∙ ap (λ z. pos z +ℤ pos d.0 *ℤ get_or p.0 i (pos 0)) (sym (entries_same x t.0.mono t.2 i))),
            )

-- a normal has n entries
pub normal-length : (n : ℕ) (bs : List MarkedPolynomial) (a : List ℤ) →
    AreCanonical n bs → IsNormal bs a → length a ≡ n
normal-length n bs a k p =
    let q = normal_of n bs a k p in
    let d = divided-entry q.is_row a q.part in
    let h : length q.member.head ≡ n = (k q.member q.contained).head in
    sym (length-times (pos d.0) a) ∙ ap (λ (z : List ℤ). length z) (d.2 ∙ q.row) ∙ length-differences q.member.head q.at (h ∙ sym q.width) ∙ h

-- it is primitive
pub normal-primitive : (bs : List MarkedPolynomial) (a : List ℤ) → IsNormal bs a → IsPrimitive a
normal-primitive bs a p = primitive_of p.0 a p.2

-- and not zero
pub normal-nonzero : (n : ℕ) (bs : List MarkedPolynomial) (a : List ℤ) →
    AreCanonical n bs → IsNormal bs a → IsNonzero a
normal-nonzero n bs a k p = (i.0, λ z. i.1 (equal z))
  where
    q : IsNormalOf n bs a
    q = normal_of n bs a k p

    i : (i : ℕ) × (entry q.member.head i ≡ entry q.at i → ⊥)
    i = differs q.member.head q.at q.unmarked

    equal : get_or a i.0 (pos 0) ≡ pos 0 → entry q.member.head i.0 ≡ entry q.at i.0
    equal z =
        let d = divided-entry q.is_row a q.part in
        let e : get_or q.is_row i.0 (pos 0) ≡ pos (entry q.member.head i.0) -ℤ pos (entry q.at i.0) =
        ap (λ (r : List ℤ). get_or r i.0 (pos 0)) q.row ∙ get-differences q.member.head q.at i.0 ((k q.member q.contained).head ∙ sym q.width) in
        let f : get_or q.is_row i.0 (pos 0) ≡ pos 0 = d.3 i.0 ∙ ap (λ y. pos d.0 *ℤ y) z ∙ *ℤ-zero (pos d.0) in
        omega (arith, ints, e, f)

-- ---- inside a facet

-- the row of x and y is k times a: y is further along the negatives
pub row-further : (x y : Exponents) (a : List ℤ) (k : ℕ) → 0 < k → length x ≡ length y →
    ((i : ℕ) → get_or (differences x y) i (pos 0) ≡ pos k *ℤ get_or a i (pos 0)) → IsFurther (negated a) y x
row-further x y a k l e h =
    (k, omega arith, λ i. omega (arith, ints, h i, get-differences x y i e, ap (λ z. pos k *ℤ z) (get-negated a i), *ℤ-neg (pos k) (get_or a i (pos 0))))

-- by a vector inside the facet each unmarked monomial is lighter, or further along the negated normal
pub beyond_of_inside : (n : ℕ) (bs : List MarkedPolynomial) (a v : List ℤ) →
    AreCanonical n bs →
    ((b : MarkedPolynomial) → Contains bs b → coefficient b.poly b.head ≡ one_ℚ) → IsInsideFacet bs a v →
    AreMarked (IsBeyond v (negated a)) bs
beyond_of_inside n bs a v k one f b c = record { monic = one b c; tail = λ x m. at x m (term_of b.poly x m) }
  where
    at : (x : Exponents) → HasMonomial b.poly x → ((t : Term) × Contains b.poly t × (same x t.mono ≡ true)) →
        (same x b.head ≡ true) ⊎ IsBeyond v (negated a) x b.head
    at x m t = elim (same_or_not b.head t.0.mono) [
      | inl s ↦ inl (same_trans x t.0.mono b.head t.2 (same_flip b.head t.0.mono s))
      | inr o ↦ inr (along (further o (divided_exists (differences b.head t.0.mono))))
    ]
      where
        lengths : length b.head ≡ length t.0.mono
        lengths = (k b c).head ∙ sym (term_length n b.poly t.0 (k b c).variables t.1)

        further : same b.head t.0.mono ≡ false → ((p : List ℤ) × IsPrimitivePart (differences b.head t.0.mono) p) →
            IsBeyond v (negated a) t.0.mono b.head
        further o p = elim (vector_or_not p.0 a) [
          | inl e ↦ let d = divided-entry (differences b.head t.0.mono) p.0 p.1 in
              inr (row-further b.head t.0.mono a d.0 d.1 lengths (λ i. d.3 i ∙ ap (λ (z : List ℤ). pos d.0 *ℤ get_or z i (pos 0)) e))
          | inr e ↦ let d = divided-entry (differences b.head t.0.mono) p.0 p.1 in
              let q : pos 0 <ℤ dot p.0 v = f.positive p.0 (differences b.head t.0.mono, row-in bs b t.0 c t.1 o, p.1) e in
              let r : pos 0 <ℤ (pos d.0 *ℤ dot p.0 v) = 0<-*ℤ (pos d.0) (dot p.0 v) (omega (arith, ints, d.1)) q in
              let w : pos d.0 *ℤ dot p.0 v ≡ whole_weight v b.head -ℤ whole_weight v t.0.mono =
              sym (dot-times (pos d.0) p.0 v) ∙ ap (λ (z : List ℤ). dot z v) d.2 ∙ dot-differences v b.head t.0.mono lengths in
              inl (omega (arith, ints, r, w))
        ]

        along : IsBeyond v (negated a) t.0.mono b.head → IsBeyond v (negated a) x b.head
        along (inl l) = inl (omega (arith, ints, l, whole_weight-same v x t.0.mono t.2))
        along (inr g) = inr (g.0, g.1, λ i. ap pos (entries_same x t.0.mono t.2 i) ∙ g.2 i)

-- a member has a monomial further along a
pub record HasFurther (bs : List MarkedPolynomial) (a : List ℤ) : Type 0 where
  pub member : MarkedPolynomial
  pub contained : Contains bs member
  pub at : Exponents
  pub there : HasMonomial member.poly at
  pub further : IsFurther a at member.head

-- back: such a vector, orthogonal to a, is inside the facet with the negated normal, where a member has a monomial
-- further along
pub inside_of_beyond : (n : ℕ) (cs : List MarkedPolynomial) (a v : List ℤ) →
    AreCanonical n cs → length a ≡ n → IsPrimitive a → IsNonzero a →
    dot a v ≡ pos 0 → AreMarked (IsBeyond v a) cs → HasFurther cs a → IsInsideFacet cs (negated a) v
inside_of_beyond n cs a v k e prime nz o m h = record { normal = normal; zero = dot-negated a v ∙ ap neg_ℤ o; positive = positive }
  where
    nonzero : IsNonzero (negated a)
    nonzero = (nz.0, λ z. nz.1 (omega (arith, ints, z, get-negated a nz.0)))

    -- the row of a monomial that is further along is a multiple of the negatives
    row : (b : MarkedPolynomial) (t : Term) → Contains cs b → Contains b.poly t → (f : IsFurther a t.mono b.head) →
        differences b.head t.mono ≡ scaled (pos f.0) (negated a)
    row b t c q f = vectors_by_entries (differences b.head t.mono) (scaled (pos f.0) (negated a))
        (length-differences b.head t.mono lengths ∙ (k b c).head ∙ sym e ∙ sym (length-negated a) ∙ sym (length-times (pos f.0) (negated a)))
        (λ i. get-differences b.head t.mono i lengths ∙ less i ∙ ap (λ z. pos f.0 *ℤ z) (sym (get-negated a i)) ∙ sym (entry_times (pos f.0) (negated a) i))
      where
        lengths : length b.head ≡ length t.mono
        lengths = (k b c).head ∙ sym (term_length n b.poly t (k b c).variables q)

        less : (i : ℕ) → pos (entry b.head i) -ℤ pos (entry t.mono i) ≡ pos f.0 *ℤ neg_ℤ (get_or a i (pos 0))
        less i = omega (arith, ints, f.2 i, *ℤ-neg (pos f.0) (get_or a i (pos 0)))

    -- whose primitive part they are
    part : (b : MarkedPolynomial) (t : Term) → Contains cs b → Contains b.poly t → IsFurther a t.mono b.head →
        IsPrimitivePart (differences b.head t.mono) (negated a)
    part b t c q f = subst (λ (z : List ℤ). IsPrimitivePart z (negated a)) (sym (row b t c q f))
        (pos f.0, multiple_divided f.0 (negated a) (omega (arith, f.1)) (primitive_opposite a prime) nonzero)

    never : (x y : Exponents) → same x y ≡ true → IsFurther a y x → ⊥
    never x y s f = nz.1 (no_multiple f.0 (get_or a nz.0 (pos 0)) f.1 (omega (arith, ints, f.2 nz.0, entries_same x y s nz.0)))

    normal : IsNormal cs (negated a)
    normal =
        let t = term_of h.member.poly h.at h.there in
        let f : IsFurther a t.0.mono h.member.head = (h.further.0, h.further.1, λ i. ap pos (sym (entries_same h.at t.0.mono t.2 i)) ∙ h.further.2 i) in
        (differences h.member.head t.0.mono, row-in cs h.member t.0 h.contained t.1 (apart h.member.head t.0.mono f), part h.member t.0 h.contained t.1 f)
      where
        apart : (x y : Exponents) → IsFurther a y x → same x y ≡ false
        apart x y f = elim (same_or_not x y) [ inl s ↦ absurd (never x y s f) | inr q ↦ q ]

    positive : (b : List ℤ) → IsNormal cs b → (b ≡ negated a → ⊥) → pos 0 <ℤ dot b v
    positive b p other = at (row-from cs p.0 p.1)
      where
        at : ((c : MarkedPolynomial) × Contains cs c × IsTermRow c.head c.poly p.0) → pos 0 <ℤ dot b v
        at c = index ((m c.0 c.1).tail c.2.term.mono (monomial_of n c.0 c.2.term (k c.0 c.1) c.2.inside))
          where
            index : (same c.2.term.mono c.0.head ≡ true) ⊎ IsBeyond v a c.2.term.mono c.0.head → pos 0 <ℤ dot b v
            index (inl s) = let u : same c.0.head c.2.term.mono ≡ false = c.2.other in let t : same c.0.head c.2.term.mono ≡ true =
                same_flip c.2.term.mono c.0.head s in absurd (cc)
            index (inr (inr f)) =
                absurd (other (primitive_unique p.0 b (negated a) p.2 (subst (λ (z : List ℤ). IsPrimitivePart z (negated a)) (sym c.2.row)
                (part c.0 c.2.term c.1 c.2.inside f))))
            index (inr (inl l)) =
                let d = divided-entry p.0 b p.2 in
                let w : pos d.0 *ℤ dot b v ≡ whole_weight v c.0.head -ℤ whole_weight v c.2.term.mono =
                sym (dot-times (pos d.0) b v) ∙ ap (λ (z : List ℤ). dot z v) (d.2 ∙ c.2.row) ∙ dot-differences v c.0.head c.2.term.mono
                ((k c.0 c.1).head ∙ sym (term_length n c.0.poly c.2.term (k c.0 c.1).variables c.2.inside)) in
                0<-cancel (pos d.0) (dot b v) (omega (arith, ints, d.1)) (omega (arith, ints, w, l))
