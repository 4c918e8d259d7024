-- The cones of one polynomial as lists for its hypersurface and its Minkowski fan, and those of no polynomial.
use Rattle.std.proofs.Common.{◌≡◌, ◌≢◌, ℕ, ◌<◌, List, [], ◌∷◌, length, ℤ, pos, ◌<ℤ◌, ◌↔◌, arith, sym, ap, ◌∙◌, subst, Contains, inl, inr, AllPairs, remove}
use Rattle.std.proofs.lemmas.Int.{ints}
use Rattle.std.proofs.lemmas.List.{get_or_default}
use Rattle.std.proofs.lemmas.List.Elements.{All-contains, All-append}
use Rattle.gf_int_theory.proofs.ListLaws.{Contains-here, all_by}
use Rattle.gf_vec.specs.Vector.{dot, zeros}
use Rattle.gf_vec.proofs.VectorLaws.{length-zeros}
use Rattle.gf_gordan.specs.Alternative.{AreRows, GordansAlternative, IsSolvable}
use Rattle.gf_duality_theory.specs.Faces.{Rows, IsInCone, IsFaceOf, part}
use Rattle.gf_duality_theory.proofs.Equations.{in_map}
use Rattle.gf_duality_theory.proofs.ListLaws.{none_in, in_tail, in_cons, of_rest, stood, index, less, at, more}
use Rattle.gf_fans_theory.specs.Fans.{MeetInFaces}
use Rattle.gf_fans_theory.proofs.FanLaws.{is_in, own_face, same_turned}
use Rattle.gf_patterns_theory.specs.Refinements.{HaveEntries}
use Rattle.gf_patterns_theory.specs.Interiors.{HaveInteriors}
use Rattle.gf_patterns_theory.specs.Patterns.{IsOnPrevariety, IsAnywhere}
use Rattle.gf_patterns_theory.specs.PatternRows.{vector_difference, point_at, single_rows, pair_rows, AreSingleCones, ArePairCones}
use Rattle.gf_patterns_theory.specs.Vertices.{IsVertex, AreVertexCones, AreVertexPairCones}
use Rattle.gf_patterns_theory.specs.PatternFans.{whole_space, IsFanOfPatterns, IsPrevarietyList, IsMinkowskiList}
use Rattle.gf_patterns_theory.proofs.MeetLaws.{meets_self}
use Rattle.gf_patterns_theory.proofs.RefinementLaws.{fan_of}
use Rattle.gf_patterns_theory.proofs.InnerLaws.{inner}
use Rattle.gf_patterns_theory.proofs.InteriorLaws.{interior_relative, relative_same}
use Rattle.gf_patterns_theory.proofs.RowLaws.{minus_long, IsRowsOf, row_value}
use Rattle.gf_patterns_theory.proofs.ConeLaws.{single_is, pair_is, singles_fan, pairs_fan, singles_minkowski, pairs_hypersurface}
use Rattle.gf_duality_theory.proofs.EchelonUnique.{no_widths}

-- each cone of the fan has a vector of its relative interior
pub interiors : (n : ℕ) (cones : List Rows) → GordansAlternative → HaveEntries n cones → HaveInteriors n cones
interiors n cones g w f k =
    let c : Rows = k.cone in let zs : List (List ℤ) = k.face.0 in let wc = w c k.listed in
    let wz : AreRows n zs = all_by (λ t. length t ≡ n) zs (λ t i. All-contains (λ t. length t ≡ n) c.inequalities t wc.0
    (All-contains (Contains c.inequalities) zs t k.face.1.0 i)) in
    let r = inner n (part c zs) g wc.0 (All-append (λ t. length t ≡ n) c.equations zs wc.1 wz) in
    (r.0, relative_same n (part c zs) f r.0 (same_turned n f (part c zs) k.face.1.1) (interior_relative n (part c zs) r.0 r.1))

-- rows that are differences of points
rows_wide : (n : ℕ) (A S : List (List ℤ)) (a : List ℤ) (c : Rows) → IsRowsOf n A S a c → AreRows n c.inequalities
rows_wide n A S a c r = all_by (λ t. length t ≡ n) c.inequalities (λ h k. let o = r.each h k in
    ap length o.1.1 ∙ minus_long n a o.0 (r.wide a (r.inside a r.first)) (r.wide o.0 o.1.0))

-- the rows of the cone of one point have n entries
pub single_wide : (n : ℕ) (A : List (List ℤ)) (i : ℕ) → AreRows n A → i < length A → AreRows n (single_rows A i).inequalities
single_wide n A i w l = rows_wide n A (point_at A i ∷ []) (point_at A i) (single_rows A i) (single_is n A i w l)

single_width : (n : ℕ) (A : List (List ℤ)) (cones : List Rows) → AreRows n A → AreVertexCones n A cones → HaveEntries n cones
single_width n A cones w s c k =
    let p = s.each c k in
    subst (λ z. AreRows n z.inequalities × AreRows n z.equations) (sym p.1.1) (
      rows_wide n A (point_at A p.0 ∷ []) (point_at A p.0) (single_rows A p.0)
          (single_is n A p.0 w p.1.0),
      no_widths n,
    )

pair_width : (n : ℕ) (A : List (List ℤ)) (cones : List Rows) → AreRows n A → AreVertexPairCones n A cones → HaveEntries n cones
pair_width n A cones w s c k =
    let p = s.each c k in let a : List ℤ = point_at A p.0 in let b : List ℤ = point_at A p.1 in
    let is = pair_is n A p.0 p.1 w p.2.0 p.2.1 in
    let one : AreRows n (vector_difference a b ∷ []) =
    all_by (λ t. length t ≡ n) (vector_difference a b ∷ []) (λ t i. elim (in_cons (vector_difference a b) [] t i) [
      | inl e ↦ ap length e ∙ minus_long n a b (is.wide a (is.inside a is.first)) (is.wide b (is.inside b (in_tail a (b ∷ []) b (Contains-here b []))))
      | inr j ↦ absurd (none_in t j)
    ]) in
    subst (λ z. AreRows n z.inequalities × AreRows n z.equations) (sym p.2.2) (rows_wide n A (a ∷ b ∷ []) a (pair_rows A p.0 p.1) is, one)

-- the hypersurface of one polynomial
pub hypersurface_list : (n : ℕ) (A : List (List ℤ)) (cones : List Rows) → GordansAlternative → AreRows n A → AllPairs (λ x y. x ≢ y) A →
    AreVertexPairCones n A cones → IsPrevarietyList n (A ∷ []) cones
hypersurface_list n A cones g w different s =
    let wide = pair_width n A cones w s in record {
      width = wide;
      fan = pairs_fan n A cones w s;
      patterns = pairs_hypersurface n A cones w different s (interiors n cones g wide);
    }

-- the Minkowski fan of one polynomial
pub minkowski_list : (n : ℕ) (A : List (List ℤ)) (b : List ℤ) (cones : List Rows) → GordansAlternative → AreRows n A → Contains A b → AreVertexCones n A cones →
    IsMinkowskiList n (A ∷ []) cones
minkowski_list n A b cones g w kb s =
    let wide = single_width n A cones w s in record {
      width = wide;
      fan = singles_fan n A cones w s;
      patterns = singles_minkowski n A b cones w kb s (interiors n cones g wide);
    }

-- all cones of single points, and of pairs, are such lists
pub all_singles : (n : ℕ) (A : List (List ℤ)) (cones : List Rows) → AreSingleCones A cones → AreVertexCones n A cones
all_singles n A cones s = record { each = s.each; every = λ i l v. s.every i l }

pub all_pairs : (n : ℕ) (A : List (List ℤ)) (cones : List Rows) → ArePairCones A cones → AreVertexPairCones n A cones
all_pairs n A cones s = record { each = s.each; every = λ i j l lj v u. s.every i j l lj }

-- of no polynomial both are the whole space
pub whole_list : (Admitted : List (List (List ℤ)) → List ℤ → Type 0) (n : ℕ) → ((w : List ℤ) → Admitted [] w) → IsFanOfPatterns Admitted n [] (whole_space ∷ [])
whole_list Admitted n ad =
    let only : (c : Rows) → Contains (whole_space ∷ []) c → c ≡ whole_space =
    λ c k. elim (in_cons whole_space [] c k) [ inl e ↦ e | inr i ↦ absurd (none_in c i) ] in
    let all_in : (x : List ℤ) → IsInCone whole_space x = λ x. is_in whole_space x (λ h k. absurd (none_in h k)) (λ h k. absurd (none_in h k)) in
    record {
      width = λ c k. subst (λ z. AreRows n z.inequalities × AreRows n z.equations) (sym (only c k)) (no_widths n, no_widths n);
      fan = fan_of n (whole_space ∷ []) (λ c d k l. subst (λ z. MeetInFaces n z d) (sym (only c k)) (subst (λ z. MeetInFaces n whole_space z) (sym (only d l))
          (meets_self n whole_space)));
      patterns = record {
        each = λ f k.
            let c = only k.cone k.listed in let face : IsFaceOf n f whole_space = subst (IsFaceOf n f) c k.face in let zs : List (List ℤ) = face.0 in
            record {
              vector = zeros n;
              width = length-zeros n;
              admitted = ad (zeros n);
              closed = λ u lu. (
                (λ i A ka. absurd (none_in A ka)),
                (λ z. (face.1.1 u lu).1 (is_in (part whole_space zs) u (λ h kh. absurd (none_in h kh))
                    (λ h kh. absurd (none_in h (All-contains (Contains whole_space.inequalities) zs h face.1.0 kh))))),
              );
            };
        every = λ w lw h. (
          whole_space,
          (
            record {
              cone = whole_space;
              listed = Contains-here whole_space [];
              face = own_face n whole_space;
            },
            λ u lu. (λ i A ka. absurd (none_in A ka), λ z. all_in u),
          ),
        );
      };
    }

pub whole_prevariety : (n : ℕ) → IsPrevarietyList n [] (whole_space ∷ [])
whole_prevariety n = whole_list IsOnPrevariety n (λ w A k. absurd (none_in A k))

pub whole_minkowski : (n : ℕ) → IsMinkowskiList n [] (whole_space ∷ [])
whole_minkowski n = whole_list IsAnywhere n (λ w. tt)

-- points at other indices are others
others_differ : (A : List (List ℤ)) (i : ℕ) (x : List ℤ) → i < length A → AllPairs (λ x y. x ≢ y) A → Contains (remove A i) x → x ≢ point_at A i
others_differ A i x li different k e =
    let st = stood A i x li k in let j : ℕ = st.j in
    let q : point_at A j ≡ x = get_or_default A j [] x st.inside ∙ st.is in
    elim (index i j) [
      | less g ↦ different j i [] g li (q ∙ e)
      | at g ↦ st.other g
      | more g ↦ different i j [] g st.inside (sym (q ∙ e))
    ]

-- a point is a vertex where the rows of its cone have a vector on which each is positive
pub vertex_solvable : (n : ℕ) (A : List (List ℤ)) (i : ℕ) → AreRows n A → AllPairs (λ x y. x ≢ y) A → i < length A →
    IsVertex n A (point_at A i) ↔ IsSolvable n (single_rows A i).inequalities []
vertex_solvable n A i w different li =
    let a : List ℤ = point_at A i in let rest : List (List ℤ) = remove A i in let hs : List (List ℤ) = (single_rows A i).inequalities in
    let is = single_is n A i w li in let ka = is.inside a is.first in (
      (λ v. (
        v.vector,
        record {
          width = v.width;
          positive = all_by (λ t. pos 0 <ℤ dot t v.vector) hs (λ h k.
              let o = in_map (vector_difference a) rest h k in
              let up = v.alone o.0 (of_rest A i o.0 li o.1.0) (others_differ A i o.0 li different o.1.0) in
              let d = row_value n A (a ∷ []) a (single_rows A i) o.0 v.vector is (of_rest A i o.0 li o.1.0) in
              let e : dot h v.vector ≡ dot (vector_difference a o.0) v.vector = ap (λ z. dot z v.vector) o.1.1 in
              omega (arith, ints, up, d, e));
          zero = all_by (λ t. dot t v.vector ≡ pos 0) [] (λ t k. absurd (none_in t k));
        },
      )),
      (λ s. record {
        vector = s.0;
        width = s.1.width;
        alone = λ b kb d. elim (is.every b kb) [
          | inl one ↦ elim (in_cons a [] b one) [ inl e ↦ absurd (d e) | inr y ↦ absurd (none_in b y) ]
          | inr row ↦
              let up : pos 0 <ℤ dot (vector_difference a b) s.0 = All-contains (λ t. pos 0 <ℤ dot t s.0) hs (vector_difference a b) s.1.positive row in
              let v = row_value n A (a ∷ []) a (single_rows A i) b s.0 is kb in
              omega (arith, ints, up, v)
        ];
      }),
    )
