-- A basis with a normal that is negative at a root weight has a facet with such a normal that a flip may cross: some vector
-- of the region gives each normal the sign that it has at the root weight, and on the way to it a facet is crossed.
-- To cite: sign_or, normal_sign, root_weight, weight_everywhere, near_root, negative_at, normal-signable, negative_gives_flippable.
use Rattle.std.proofs.Common.{◌≡◌, ◌⊎◌, ℕ, zero, suc, ◌<◌, List, [], ◌∷◌, ◌++◌, length, Contains, All, ℤ, pos, negsuc, ◌<ℤ◌, ◌≤ℤ◌, arith, refl, sym, ap, ◌∙◌}
use Rattle.std.proofs.Common.{subst, inl, inr}
use Rattle.std.proofs.lemmas.Int.{ints}
use Rattle.std.proofs.lemmas.List.Elements.{All-nil, All-append, All-contains, Contains-append_left, Contains-append_right}
use Rattle.gf_int_theory.specs.Content.{AllZero, scaled}
use Rattle.gf_int_theory.proofs.ListLaws.{Contains-here, all_by}
use Rattle.gf_poly.specs.Marking.{MarkedPolynomial}
use Rattle.gf_vec.specs.Vector.{dot, zeros, vector_sum}
use Rattle.gf_vec.proofs.VectorLaws.{dot-plus, dot-times, dot-zeros}
use Rattle.gf_gordan.specs.Alternative.{AreRows, IsSolvable}
use Rattle.gf_ideal_theory.proofs.ListLaws.{Contains-there, Contains-cases}
use Rattle.gf_facets_theory.specs.Rows.{IsNormal, negated}
use Rattle.gf_facets_theory.specs.Systems.{unit, units}
use Rattle.gf_facets_theory.specs.LexPositive.{IsLexPositive, rooted, IsNegative}
use Rattle.gf_facets_theory.specs.LinearMaps.{IsLinear}
use Rattle.gf_facets_theory.specs.Regions.{Region, IsRegion, IsInRegion, all_positive}
use Rattle.gf_facets_theory.specs.Facets.{IsInOpenCone, IsFlippable}
use Rattle.gf_facets_theory.specs.MarkedBases.{AreCanonical}
use Rattle.gf_facets_theory.proofs.VectorLaws.{length-negated, dot-negated, minus_one}
use Rattle.gf_facets_theory.proofs.PrimitiveLaws.{not_all_zero}
use Rattle.gf_facets_theory.proofs.NormalLaws.{normal-length, normal-nonzero}
use Rattle.gf_facets_theory.proofs.NormalListLaws.{NormalsListed, normals_listed}
use Rattle.gf_facets_theory.proofs.LexPositiveLaws.{lex-cases, lex-not_both}
use Rattle.gf_facets_theory.proofs.UnitLaws.{dot-unit, unit_of}
use Rattle.gf_facets_theory.proofs.SystemLaws.{region_rows_wide, region_of_rows}
use Rattle.gf_facets_theory.proofs.PointsByLex.{solvable_by_lex}
use Rattle.gf_facets_theory.proofs.FirstLaws.{flippable_towards_root}
use Rattle.gf_reverse_theory.specs.Upward.{IsRootWeight, LeadsTowards}
use Rattle.gf_reverse_theory.proofs.StepsLaws.{rooted-negated}

-- ---- signs at a weight

zero_all : (n : ℕ) (a : List ℤ) → a ≡ zeros n → AllZero a
zero_all n [] e = tt
zero_all zero (c ∷ a) e = absurd (omega (arith, ap length e))
zero_all (suc n) (c ∷ a) e = ((let f : c ≡ pos 0 = cc in f), zero_all n a (let f : a ≡ zeros n = cc in f))

-- a vector that isn't zero is positive or negative
pub sign_or : (r a : List ℤ) → (AllZero a → ⊥) → IsLexPositive (rooted r a) ⊎ IsNegative r a
sign_or r a n = elim (lex-cases (rooted r a)) [
  | inl z ↦ absurd (n (zero_all (length a) a (let f : a ≡ zeros (length a) = cc in f)))
  | inr k ↦ k
]

-- so is a normal
pub normal_sign : (n : ℕ) (bs : List MarkedPolynomial) (r a : List ℤ) → AreCanonical n bs → IsNormal bs a → IsLexPositive (rooted r a) ⊎ IsNegative r a
normal_sign n bs r a k q = sign_or r a (not_all_zero a (normal-nonzero n bs a k q))

rooted-linear : (n : ℕ) (r : List ℤ) → IsLinear n (suc n) (rooted r)
rooted-linear n r = record {
  width = λ x l. ap suc l;
  zero = ap (λ z. z ∷ zeros n) (dot-zeros n r);
  sum = λ x y l k. ap (λ z. z ∷ vector_sum x y) (dot-plus x y r (l ∙ sym k));
  multiple = λ c x l. ap (λ z. z ∷ scaled c x) (dot-times c x r);
}

-- ---- unit vectors

unit-positive : (n i : ℕ) → i < n → IsLexPositive (unit n i)
unit-positive zero i l = absurd (omega arith)
unit-positive (suc n) zero l = inl (omega (arith, ints))
unit-positive (suc n) (suc i) l = inr (refl, unit-positive n i (omega arith))

units-positive : (n : ℕ) (r : List ℤ) → length r ≡ n → All (λ c. pos 0 ≤ℤ c) r → All (λ t. IsLexPositive (rooted r t)) (units n n)
units-positive n r w p = all_by (λ t. IsLexPositive (rooted r t)) (units n n) (λ t c. at t (unit_of n n t c))
  where
    lexed : (i : ℕ) (d : ℤ) → i < n → pos 0 ≤ℤ d → IsLexPositive (d ∷ unit n i)
    lexed i (pos zero) l h = inr (refl, unit-positive n i l)
    lexed i (pos (suc d)) l h = inl (omega (arith, ints))
    lexed i (negsuc d) l h = absurd (omega (arith, ints, h))

    at : (t : List ℤ) → ((i : ℕ) × (i < n) × (t ≡ unit n i)) → IsLexPositive (rooted r t)
    at t u = subst (λ z. IsLexPositive (rooted r z)) (sym u.2)
        (lexed u.0 (dot (unit n u.0) r) u.1 (subst (λ (d : ℤ). pos 0 ≤ℤ d) (sym (dot-unit n u.0 r u.1 w)) (p u.0 (pos 0) (let l = u.1 in omega arith))))

-- ---- a vector of the region with the same signs

-- the root of a region is a root weight
pub root_weight : (n : ℕ) (k : Region) → IsRegion n k → IsRootWeight n k k.root
root_weight n k h = record {
  width = h.root.width;
  natural = λ i d l. (let p = h.root.positive i d l in omega (arith, ints, p));
  rows = λ i d l. inl (h.root.rows i d l);
}

-- in the region of all positive vectors each weight with entries at least 0 is one
pub weight_everywhere : (n : ℕ) (r : List ℤ) → length r ≡ n → All (λ c. pos 0 ≤ℤ c) r → IsRootWeight n (all_positive n) r
weight_everywhere n r w p = record { width = w; natural = p; rows = All-nil (λ t. IsLexPositive (rooted r t)) }

-- vectors of n entries, none of which is zero
abbrev pub AreSignable : ℕ → List (List ℤ) → Type 0
AreSignable n ns = (a : List ℤ) → Contains ns a → (length a ≡ n) × (AllZero a → ⊥)

-- each vector by its sign: itself, or its negative
record SignedVectors (n : ℕ) (r : List ℤ) (ns : List (List ℤ)) : Type 0 where
  list : List (List ℤ)
  widths : (t : List ℤ) → Contains list t → length t ≡ n
  positive : (t : List ℤ) → Contains list t → IsLexPositive (rooted r t)
  each : (a : List ℤ) → Contains ns a → (IsLexPositive (rooted r a) × Contains list a) ⊎ (IsNegative r a × Contains list (negated a))

signed_vectors : (n : ℕ) (r : List ℤ) (ns : List (List ℤ)) → AreSignable n ns → SignedVectors n r ns
signed_vectors n r [] h = record {
  list = [];
  widths = λ t c. absurd (omega (arith, c.1));
  positive = λ t c. absurd (omega (arith, c.1));
  each = λ a c. absurd (omega (arith, c.1));
}
signed_vectors n r (b ∷ ns) h = at (sign_or r b (h b (Contains-here b ns)).1) (signed_vectors n r ns (λ a c. h a (Contains-there b a ns c)))
  where
    wide : length b ≡ n
    wide = (h b (Contains-here b ns)).0

    at : IsLexPositive (rooted r b) ⊎ IsNegative r b → SignedVectors n r ns → SignedVectors n r (b ∷ ns)
    at (inl p) g = record {
      list = b ∷ g.list;
      widths = λ t c. elim (Contains-cases b t g.list c) [ inl e ↦ subst (λ (z : List ℤ). length z ≡ n) e wide | inr i ↦ g.widths t i ];
      positive = λ t c. elim (Contains-cases b t g.list c) [ inl e ↦ subst (λ z. IsLexPositive (rooted r z)) e p | inr i ↦ g.positive t i ];
      each = λ a c. elim (Contains-cases b a ns c) [
        | inl e ↦ inl (subst (λ z. IsLexPositive (rooted r z)) e p, subst (Contains (b ∷ g.list)) e (Contains-here b g.list))
        | inr i ↦ elim (g.each a i) [ inl u ↦ inl (u.0, Contains-there b a g.list u.1) | inr u ↦ inr (u.0, Contains-there b (negated a) g.list u.1) ]
      ];
    }
    at (inr m) g = record {
      list = negated b ∷ g.list;
      widths = λ t c. elim (Contains-cases (negated b) t g.list c) [
        | inl e ↦ subst (λ (z : List ℤ). length z ≡ n) e (length-negated b ∙ wide)
        | inr i ↦ g.widths t i
      ];
      positive = λ t c. elim (Contains-cases (negated b) t g.list c) [
        | inl e ↦ subst (λ z. IsLexPositive (rooted r z)) e (subst IsLexPositive (sym (rooted-negated r b)) m)
        | inr i ↦ g.positive t i
      ];
      each = λ a c. elim (Contains-cases b a ns c) [
        | inl e ↦ inr (subst (IsNegative r) e m, subst (λ z. Contains (negated b ∷ g.list) (negated z)) e (Contains-here (negated b) g.list))
        | inr i ↦ elim (g.each a i) [
          | inl u ↦ inl (u.0, Contains-there (negated b) a g.list u.1)
          | inr u ↦ inr (u.0, Contains-there (negated b) (negated a) g.list u.1)
        ]
      ];
    }

-- a vector of the region on which each of some vectors has the sign that it has at r
pub record NearRoot (n : ℕ) (k : Region) (r : List ℤ) (ns : List (List ℤ)) : Type 0 where
  pub point : List ℤ
  pub region : IsInRegion n k point
  pub positive : (a : List ℤ) → Contains ns a → IsLexPositive (rooted r a) → pos 0 <ℤ dot a point
  pub negative : (a : List ℤ) → Contains ns a → IsNegative r a → dot a point <ℤ pos 0

pub near_root : (n : ℕ) (k : Region) (r : List ℤ) (ns : List (List ℤ)) → AreRows n k.rows → IsRootWeight n k r → AreSignable n ns → NearRoot n k r ns
near_root n k r ns wide rw h = with_signs (signed_vectors n r ns h)
  where
    with_signs : SignedVectors n r ns → NearRoot n k r ns
    with_signs s = found (solvable_by_lex n (suc n) (rooted r) (s.list ++ (k.rows ++ units n n)) [] (rooted-linear n r)
        (All-append (λ t. length t ≡ n) s.list (k.rows ++ units n n) (all_by (λ t. length t ≡ n) s.list s.widths) (region_rows_wide n k wide))
        (All-nil (λ t. length t ≡ n))
        (All-append (λ t. IsLexPositive (rooted r t)) s.list (k.rows ++ units n n) (all_by (λ t. IsLexPositive (rooted r t)) s.list s.positive)
        (All-append (λ t. IsLexPositive (rooted r t)) k.rows (units n n) rw.rows (units-positive n r rw.width rw.natural)))
        (All-nil (λ t. rooted r t ≡ zeros (suc n))))
      where
        found : IsSolvable n (s.list ++ (k.rows ++ units n n)) [] → NearRoot n k r ns
        found v = record {
          point = v.0;
          region = region_of_rows n k v.0 v.1.width (all_by (λ t. pos 0 <ℤ dot t v.0) (k.rows ++ units n n)
              (λ t i. on t (Contains-append_right s.list (k.rows ++ units n n) t i)));
          positive = λ a q p. elim (s.each a q) [
            | inl u ↦ on a (Contains-append_left s.list (k.rows ++ units n n) a u.1)
            | inr u ↦ absurd (lex-not_both (rooted r a) p u.0)
          ];
          negative = λ a q m. elim (s.each a q) [
            | inl u ↦ absurd (lex-not_both (rooted r a) u.0 m)
            | inr u ↦ (let l = on (negated a) (Contains-append_left s.list (k.rows ++ units n n) (negated a) u.1) in let e = dot-negated a v.0 in
                omega (arith, ints, l, e))
          ];
        }
          where
            on : (t : List ℤ) → Contains (s.list ++ (k.rows ++ units n n)) t → pos 0 <ℤ dot t v.0
            on t i = All-contains (λ t. pos 0 <ℤ dot t v.0) (s.list ++ (k.rows ++ units n n)) t v.1.positive i

-- negative on the vector, a vector is negative there in the sense of the first entry that isn't zero
pub negative_at : (a v : List ℤ) → dot a v <ℤ pos 0 → IsNegative v a
negative_at a v l = inl (let e = minus_one (dot a v) in omega (arith, ints, l, e))

-- normals are no zero vectors
pub normal-signable : (n : ℕ) (bs : List MarkedPolynomial) (a : List ℤ) → AreCanonical n bs → IsNormal bs a → (length a ≡ n) × (AllZero a → ⊥)
normal-signable n bs a k q = (normal-length n bs a k q, not_all_zero a (normal-nonzero n bs a k q))

-- ---- a facet that a flip may cross

-- where a normal is negative at a root weight, one is that a flip may cross
pub negative_gives_flippable : (n : ℕ) (k : Region) (r : List ℤ) (bs : List MarkedPolynomial) (w b : List ℤ) → AreRows n k.rows → IsRootWeight n k r →
    AreCanonical n bs → IsInRegion n k w → IsInOpenCone w bs → IsNormal bs b → IsNegative r b → (a : List ℤ) × LeadsTowards n k r bs a
negative_gives_flippable n k r bs w b wide rw c iw o q neg = at (normals_listed bs)
  where
    at : NormalsListed bs → (a : List ℤ) × LeadsTowards n k r bs a
    at l = towards (near_root n k r l.list wide rw (λ a h. normal-signable n bs a c (l.only a h)))
      where
        towards : NearRoot n k r l.list → (a : List ℤ) × LeadsTowards n k r bs a
        towards p = found (flippable_towards_root n K bs w b
            (record { widths = wide; root = record { width = p.region.width; positive = p.region.positive; rows = p.region.rows } }) c
            (record { width = iw.width; positive = iw.positive; rows = iw.rows }) o q (negative_at b p.point (p.negative b (l.all b q) neg)))
          where
            K : Region
            K = record { rows = k.rows; root = p.point }

            found : ((a : List ℤ) × IsFlippable n (record { rows = k.rows; root = p.point }) bs a × IsNegative p.point a) →
                (a : List ℤ) × LeadsTowards n k r bs a
            found f = (
              f.0,
              record {
                flippable = record {
                  point = f.1.point;
                  region = record { width = f.1.region.width; positive = f.1.region.positive; rows = f.1.region.rows };
                  inside = f.1.inside;
                };
                negative = elim (normal_sign n bs r f.0 c f.1.inside.normal) [
                  | inl s ↦ absurd (clash (p.positive f.0 (l.all f.0 f.1.inside.normal) s) f.2)
                  | inr m ↦ m
                ];
              },
            )
              where
                clash : pos 0 <ℤ dot f.0 p.point → IsNegative p.point f.0 → ⊥
                clash l (inl m) = absurd (let e = minus_one (dot f.0 p.point) in omega (arith, ints, l, m, e))
                clash l (inr m) = absurd (let e = minus_one (dot f.0 p.point) in let z = m.0 in omega (arith, ints, l, z, e))
