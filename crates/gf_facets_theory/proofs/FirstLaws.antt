-- From a vector of the open cone towards another one, which some normal is negative on: the normal that is crossed first
-- is one of a facet, and it is negative there too.
-- To cite: CrossedFirst, crossed_first, flippable_towards_root.
use Rattle.std.proofs.Common.{◌≡◌, ◌⊎◌, ℕ, suc, List, [], ◌∷◌, ◌++◌, length, Contains, All, ℤ, pos, ◌<ℤ◌, arith, sym, ◌∙◌, subst, inl, inr}
use Rattle.std.proofs.lemmas.List.Elements.{All-from_recursion, All-append, All-contains, Contains-append_left, Contains-append_right}
use Rattle.gf_int_theory.specs.Content.{scaled}
use Rattle.gf_int_theory.proofs.ListLaws.{Contains-here, all_by}
use Rattle.gf_poly.specs.Marking.{MarkedPolynomial}
use Rattle.gf_vec.specs.Vector.{dot, zeros}
use Rattle.gf_gordan.specs.Alternative.{AreRows, IsSolvable}
use Rattle.gf_ideal_theory.proofs.ListLaws.{Contains-there, Contains-cases}
use Rattle.gf_facets_theory.specs.Rows.{IsNormal}
use Rattle.gf_facets_theory.specs.Systems.{units}
use Rattle.gf_facets_theory.specs.LexPositive.{IsLexPositive, IsNegative}
use Rattle.gf_facets_theory.specs.Regions.{Region, IsRegion, IsInRegion}
use Rattle.gf_facets_theory.specs.Facets.{IsInOpenCone, IsInsideFacet, IsFlippable}
use Rattle.gf_facets_theory.specs.MarkedBases.{AreCanonical}
use Rattle.gf_vec.proofs.PrimitiveLaws.{primitive_same}
use Rattle.gf_facets_theory.proofs.PrimitiveLaws.{not_all_zero}
use Rattle.gf_facets_theory.proofs.NormalLaws.{normal-length, normal-primitive, normal-nonzero}
use Rattle.gf_facets_theory.proofs.NormalListLaws.{NormalsListed, normals_listed}
use Rattle.gf_facets_theory.proofs.ConeLaws.{normals_open}
use Rattle.gf_facets_theory.proofs.SystemLaws.{region_rows_wide, rows_of_region, region_of_rows}
use Rattle.gf_facets_theory.proofs.PointsByLex.{solvable_by_lex}
use Rattle.gf_facets_theory.proofs.TurningLaws.{turned, turned-linear, turned-self, turned_cases, turned_trans, turned_negative, turned_far, turned_beyond}

-- ---- the first that is crossed

-- what is known of a normal
record IsPlain (n : ℕ) (bs : List MarkedPolynomial) (w a : List ℤ) : Type 0 where
  normal : IsNormal bs a
  width : length a ≡ n
  positive : pos 0 <ℤ dot a w

-- a is crossed before each of the others
record IsFirst (n : ℕ) (bs : List MarkedPolynomial) (w r : List ℤ) (ns : List (List ℤ)) : Type 0 where
  first : List ℤ
  plain : IsPlain n bs w first
  others : List (List ℤ)
  later : (b : List ℤ) → Contains others b → IsPlain n bs w b × IsLexPositive (turned w r first b)
  covers : (b : List ℤ) → Contains ns b → (first ≡ b) ⊎ Contains others b

same_normal : (n : ℕ) (bs : List MarkedPolynomial) (w b c : List ℤ) → AreCanonical n bs → IsPlain n bs w b → IsPlain n bs w c →
    scaled (dot b w) c ≡ scaled (dot c w) b → b ≡ c
same_normal n bs w b c k p q e =
    sym (primitive_same b c (dot b w) (dot c w) p.positive q.positive e (normal-primitive bs b p.normal) (normal-primitive bs c q.normal)
    (not_all_zero b (normal-nonzero n bs b k p.normal)))

first_of : (n : ℕ) (bs : List MarkedPolynomial) (w r : List ℤ) → AreCanonical n bs → (a : List ℤ) (ns : List (List ℤ)) → IsPlain n bs w a →
    ((b : List ℤ) → Contains ns b → IsPlain n bs w b) → IsFirst n bs w r (a ∷ ns)
first_of n bs w r k a [] p h = record {
  first = a;
  plain = p;
  others = [];
  later = λ b c. absurd (omega (arith, c.1));
  covers = λ b c. elim (Contains-cases a b [] c) [ inl e ↦ inl e | inr i ↦ inr i ];
}
first_of n bs w r k a (b ∷ ns) p h = at (first_of n bs w r k b ns (h b (Contains-here b ns)) (λ c i. h c (Contains-there b c ns i)))
  where
    at : IsFirst n bs w r (b ∷ ns) → IsFirst n bs w r (a ∷ (b ∷ ns))
    at f = elim (turned_cases w r a f.first (p.width ∙ sym f.plain.width)) [
      | inl e ↦ record {
        first = f.first;
        plain = f.plain;
        others = f.others;
        later = f.later;
        covers = λ c i. elim (Contains-cases a c (b ∷ ns) i) [ inl q ↦ inl (sym (same_normal n bs w a f.first k p f.plain e) ∙ q) | inr l ↦ f.covers c l ];
      }
      | inr s ↦ elim s [ inl q ↦ before f q | inr q ↦ after f q ]
    ]
      where
        before : (f : IsFirst n bs w r (b ∷ ns)) → IsLexPositive (turned w r a f.first) → IsFirst n bs w r (a ∷ (b ∷ ns))
        before f q = record {
          first = a;
          plain = p;
          others = f.first ∷ f.others;
          later = λ c i. elim (Contains-cases f.first c f.others i) [
            | inl e ↦ (subst (IsPlain n bs w) e f.plain, subst (λ (z : List ℤ). IsLexPositive (turned w r a z)) e q)
            | inr l ↦ (let u = f.later c l in
                (u.0, turned_trans w r a f.first c (p.width ∙ sym u.0.width) (f.plain.width ∙ sym u.0.width) p.positive f.plain.positive u.0.positive q u.1))
          ];
          covers = λ c i. elim (Contains-cases a c (b ∷ ns) i) [
            | inl e ↦ inl e
            | inr l ↦ inr (elim (f.covers c l) [
              | inl e ↦ subst (Contains (f.first ∷ f.others)) e (Contains-here f.first f.others)
              | inr m ↦ Contains-there f.first c f.others m
            ])
          ];
        }

        after : (f : IsFirst n bs w r (b ∷ ns)) → IsLexPositive (turned w r f.first a) → IsFirst n bs w r (a ∷ (b ∷ ns))
        after f q = record {
          first = f.first;
          plain = f.plain;
          others = a ∷ f.others;
          later = λ c i. elim (Contains-cases a c f.others i) [
            | inl e ↦ (subst (IsPlain n bs w) e p, subst (λ (z : List ℤ). IsLexPositive (turned w r f.first z)) e q)
            | inr l ↦ f.later c l
          ];
          covers = λ c i. elim (Contains-cases a c (b ∷ ns) i) [
            | inl e ↦ inr (subst (Contains (a ∷ f.others)) e (Contains-here a f.others))
            | inr l ↦ elim (f.covers c l) [ inl e ↦ inl e | inr m ↦ inr (Contains-there a c f.others m) ]
          ];
        }

-- ---- it is one of a facet

-- a normal of a facet that r is negative on where it is on b, with a vector inside on which some rows are positive
pub record CrossedFirst (n : ℕ) (bs : List MarkedPolynomial) (r : List ℤ) (rows : List (List ℤ)) (b : List ℤ) : Type 0 where
  pub normal : List ℤ
  pub negative : IsNegative r normal
  pub as_far : dot b r <ℤ pos 0 → dot normal r <ℤ pos 0
  pub point : List ℤ
  pub width : length point ≡ n
  pub inside : IsInsideFacet bs normal point
  pub rows_positive : All (λ t. pos 0 <ℤ dot t point) rows

-- rows that are positive on both ends of the way are so inside the facet that is crossed first
pub crossed_first : (n : ℕ) (bs : List MarkedPolynomial) (w r b : List ℤ) (rows : List (List ℤ)) → AreCanonical n bs → IsInOpenCone w bs →
    AreRows n rows → All (λ t. pos 0 <ℤ dot t w) rows → All (λ t. pos 0 <ℤ dot t r) rows → IsNormal bs b → IsNegative r b →
    CrossedFirst n bs r rows b
crossed_first n bs w r b rows k o wide here there q neg = at (normals_listed bs)
  where
    plain_of : (a : List ℤ) → IsNormal bs a → IsPlain n bs w a
    plain_of a h = record { normal = h; width = normal-length n bs a k h; positive = normals_open n bs w k o a h }

    witness : (ns : List (List ℤ)) → ((c : List ℤ) → IsNormal bs c → Contains ns c) → IsFirst n bs w r ns → CrossedFirst n bs r rows b
    witness ns all f = found (solvable_by_lex n (suc n) (turned w r f.first) (f.others ++ rows) (f.first ∷ []) (turned-linear n w r f.first f.plain.width)
        widths
        (All-from_recursion (λ t. length t ≡ n) (f.first ∷ []) (f.plain.width, tt)) later
        (All-from_recursion (λ t. turned w r f.first t ≡ zeros (suc n)) (f.first ∷ []) (turned-self n w r f.first f.plain.width, tt)))
      where
        negative : IsNegative r f.first
        negative = elim (f.covers b (all b q)) [
          | inl e ↦ subst (IsNegative r) (sym e) neg
          | inr c ↦ (let u = f.later b c in turned_negative w r f.first b (f.plain.width ∙ sym u.0.width) f.plain.positive u.0.positive u.1 neg)
        ]

        as_far : dot b r <ℤ pos 0 → dot f.first r <ℤ pos 0
        as_far l = elim (f.covers b (all b q)) [
          | inl e ↦ subst (λ (z : List ℤ). dot z r <ℤ pos 0) (sym e) l
          | inr c ↦ (let u = f.later b c in turned_far w r f.first b f.plain.positive u.0.positive u.1 l)
        ]

        widths : AreRows n (f.others ++ rows)
        widths = All-append (λ t. length t ≡ n) f.others rows (all_by (λ t. length t ≡ n) f.others (λ c i. (f.later c i).0.width)) wide

        later : All (λ t. IsLexPositive (turned w r f.first t)) (f.others ++ rows)
        later = All-append (λ t. IsLexPositive (turned w r f.first t)) f.others rows
            (all_by (λ t. IsLexPositive (turned w r f.first t)) f.others (λ c i. (f.later c i).1))
            (all_by (λ t. IsLexPositive (turned w r f.first t)) rows (λ c i. turned_beyond w r f.first c f.plain.positive
            (All-contains (λ t. pos 0 <ℤ dot t w) rows c here i) (All-contains (λ t. pos 0 <ℤ dot t r) rows c there i) negative))

        found : IsSolvable n (f.others ++ rows) (f.first ∷ []) → CrossedFirst n bs r rows b
        found s = record {
          normal = f.first;
          negative = negative;
          as_far = as_far;
          point = s.0;
          width = s.1.width;
          inside = record {
            normal = f.plain.normal;
            zero = All-contains (λ t. dot t s.0 ≡ pos 0) (f.first ∷ []) f.first s.1.zero (Contains-here f.first []);
            positive = λ c h other. elim (f.covers c (all c h)) [
              | inl e ↦ absurd (other (sym e))
              | inr i ↦ All-contains (λ t. pos 0 <ℤ dot t s.0) (f.others ++ rows) c s.1.positive (Contains-append_left f.others rows c i)
            ];
          };
          rows_positive = all_by (λ t. pos 0 <ℤ dot t s.0) rows (λ c i. All-contains (λ t. pos 0 <ℤ dot t s.0) (f.others ++ rows) c s.1.positive
              (Contains-append_right f.others rows c i));
        }

    at : NormalsListed bs → CrossedFirst n bs r rows b
    at l = start l.list l.only l.all
      where
        start : (ns : List (List ℤ)) → ((a : List ℤ) → Contains ns a → IsNormal bs a) → ((a : List ℤ) → IsNormal bs a → Contains ns a) →
            CrossedFirst n bs r rows b
        start [] only all = absurd (let c = all b q in omega (arith, c.1))
        start (a ∷ ns) only all =
            witness (a ∷ ns) all (first_of n bs w r k a ns (plain_of a (only a (Contains-here a ns))) (λ c h. plain_of c (only c (Contains-there a c ns h))))

-- ---- towards the root of a region

-- where a normal is negative at the root, one that a flip may cross is
pub flippable_towards_root : (n : ℕ) (k : Region) (bs : List MarkedPolynomial) (w b : List ℤ) → IsRegion n k → AreCanonical n bs →
    IsInRegion n k w → IsInOpenCone w bs → IsNormal bs b → IsNegative k.root b →
    (a : List ℤ) × IsFlippable n k bs a × IsNegative k.root a
flippable_towards_root n k bs w b kr c iw o q neg = at (crossed_first n bs w k.root b (k.rows ++ units n n) c o (region_rows_wide n k kr.widths)
    (rows_of_region n k w iw) (rows_of_region n k k.root kr.root) q neg)
  where
    at : CrossedFirst n bs k.root (k.rows ++ units n n) b → (a : List ℤ) × IsFlippable n k bs a × IsNegative k.root a
    at f = (f.normal, record { point = f.point; region = region_of_rows n k f.point f.width f.rows_positive; inside = f.inside }, f.negative)
