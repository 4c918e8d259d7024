-- A cone that is cut with the non-negative orthant has its rays, and a marked list its normals: one row after another.
-- To cite: put_in, rays_exist, normals_exist. The rest are steps.
use Rattle.std.proofs.Common.{◌≡◌, ◌⊎◌, ◌↔◌, ℕ, zero, suc, ◌<◌, List, [], ◌∷◌, ◌++◌, length, map, ℤ, pos, ◌+ℤ◌, ◌*ℤ◌, ◌<ℤ◌, ◌≤ℤ◌, arith, refl, sym, ap, ap₂}
use Rattle.std.proofs.Common.{◌∙◌, subst, inl, inr, Contains, get_or, append_assoc, append-nil}
use Rattle.std.specs.Ordering.{int_cmp, MatchOrdering}
use Rattle.std.specs.Cmp.Lexicographic.{slice_cmp}
use Rattle.std.specs.declared.cmp.Ordering.{Ordering}
use Rattle.std.specs.declared.cmp.Ordering.TheVariants.{Less, Equal, Greater}
use Rattle.std.proofs.lemmas.Bool.{cases_lt}
use Rattle.std.proofs.lemmas.Int.{ints}
use Rattle.std.proofs.lemmas.List.{get_or_default}
use Rattle.std.proofs.lemmas.List.Elements.{All-nil, All-contains, Contains-append_left, Contains-append_right, Contains-append_cases}
use Rattle.gf_int_theory.specs.Content.{IsPrimitive, scaled}
use Rattle.gf_int_theory.proofs.ContentLaws.{IsPrimitive-one}
use Rattle.gf_int_theory.proofs.RingLaws.{dv}
use Rattle.gf_int_theory.proofs.SignLaws.{sign_of, negative, none, positive, zero_or_not}
use Rattle.gf_int_theory.proofs.ListLaws.{Contains-here, all_by}
use Rattle.gf_vec.specs.Vector.{dot, zeros}
use Rattle.gf_vec.specs.Primitive.{IsPrimitivePart}
use Rattle.gf_vec.proofs.DividedLaws.{IsContent-unit}
use Rattle.gf_vec.proofs.PrimitiveLaws.{primitive_of}
use Rattle.gf_vec.proofs.VectorIdentities.{vv, vz, ◌⊡◌, ◌⊞◌, vsame}
use Rattle.gf_vec.proofs.VectorLaws.{length-zeros}
use Rattle.gf_poly.specs.Marking.{MarkedPolynomial}
use Rattle.gf_duality_theory.specs.Combining.{pair}
use Rattle.gf_duality_theory.specs.Faces.{Rows}
use Rattle.gf_duality_theory.specs.Rays.{IsRays}
use Rattle.gf_duality_theory.specs.Generators.{Made, nothing, ray, line, summed, multiplied, divided, IsDescribed, unit_vectors}
use Rattle.gf_duality_theory.specs.Straightening.{start}
use Rattle.gf_duality_theory.proofs.ListLaws.{none_in, in_tail, in_cons}
use Rattle.gf_duality_theory.proofs.Made.{Made-into}
use Rattle.gf_duality_theory.proofs.Equations.{in_map, map_in, units_width}
use Rattle.gf_duality_theory.proofs.Orthogonal.{basis}
use Rattle.gf_duality_theory.proofs.Taking.{ZeroWhere}
use Rattle.gf_duality_theory.proofs.Described.{multiple_of, split_step, pruned}
use Rattle.gf_duality_theory.proofs.Thinning.{same_rays}
use Rattle.gf_duality_theory.proofs.Finishing.{finish}
use Rattle.gf_duality_theory.proofs.Determined.{same_rays_of}
use Rattle.gf_facets_theory.specs.Rows.{rows_of_polynomials}
use Rattle.gf_facets_theory.specs.Systems.{unit, units}
use Rattle.gf_facets_theory.specs.LexPositive.{IsBefore}
use Rattle.gf_facets_theory.specs.Normals.{Ascends, AreNormals}
use Rattle.gf_facets_theory.proofs.PrimitiveLaws.{primitive_unique}
use Rattle.gf_facets_theory.proofs.UnitLaws.{dot-unit, unit_of, unit_there}
use Rattle.gf_facets_theory.proofs.VectorOrder.{before_strict, vectors_compare}
use Rattle.gf_facets_theory.proofs.AscendingLaws.{ascends_at}
use Rattle.gf_gordan.proofs.ExistenceLaws.{divided_exists}

-- ---- ascending lists

-- a list and one vector more
pub record IsPutIn (xs : List (List ℤ)) (v : List ℤ) (more : List (List ℤ)) : Type 0 where
  pub rises : Ascends more
  pub has : (a : List ℤ) → Contains more a ↔ ((a ≡ v) ⊎ Contains xs a)

pub put_in : (xs : List (List ℤ)) (v : List ℤ) → Ascends xs → (more : List (List ℤ)) × IsPutIn xs v more
put_in [] v p = (
  v ∷ [],
  record {
    rises = (λ y c. absurd (none_in y c), tt);
    has = λ a. (λ c. in_cons v [] a c, λ k. elim k [ inl e ↦ subst (Contains (v ∷ [])) (sym e) (Contains-here v []) | inr c ↦ absurd (none_in a c) ]);
  },
)
put_in (x ∷ xs) v p = elim (before_strict.total v x) [
  | inl b ↦ (
    v ∷ x ∷ xs,
    record {
      rises = (λ y c. elim (in_cons x xs y c) [ inl e ↦ subst (IsBefore v) (sym e) b | inr k ↦ before_strict.transitive v x y b (p.0 y k) ], p);
      has = λ a. (
        λ c. in_cons v (x ∷ xs) a c,
        λ k. elim k [
          | inl e ↦ subst (Contains (v ∷ x ∷ xs)) (sym e) (Contains-here v (x ∷ xs))
          | inr c ↦ in_tail v (x ∷ xs) a c
        ],
      );
    },
  )
  | inr o ↦ elim o [
    | inl e ↦ (x ∷ xs, record { rises = p; has = λ a. (inr, λ k. elim k [ inl f ↦ subst (Contains (x ∷ xs)) (sym (f ∙ e)) (Contains-here x xs) | inr c ↦ c ]) })
    | inr b ↦ let r = put_in xs v p.1 in (
      x ∷ r.0,
      record {
        rises = (λ y c. elim ((r.1.has y).0 c) [ inl e ↦ subst (IsBefore x) (sym e) b | inr k ↦ p.0 y k ], r.1.rises);
        has = λ a. (
          λ c. elim (in_cons x r.0 a c) [
            | inl e ↦ inr (subst (Contains (x ∷ xs)) (sym e) (Contains-here x xs))
            | inr k ↦ elim ((r.1.has a).0 k) [ inl e ↦ inl e | inr m ↦ inr (in_tail x xs a m) ]
          ],
          λ k. elim k [
            | inl e ↦ in_tail x r.0 a ((r.1.has a).1 (inl e))
            | inr c ↦ elim (in_cons x xs a c) [
              | inl e ↦ subst (Contains (x ∷ r.0)) (sym e) (Contains-here x r.0)
              | inr m ↦ in_tail x r.0 a ((r.1.has a).1 (inr m))
            ]
          ],
        );
      },
    )
  ]
]

-- the primitive parts of rows
record IsCollected (r ys : List (List ℤ)) : Type 0 where
  pub rises : Ascends ys
  pub only : (a : List ℤ) → Contains ys a → (t : List ℤ) × Contains r t × IsPrimitivePart t a
  pub all : (a t : List ℤ) → Contains r t → IsPrimitivePart t a → Contains ys a

collected : (r : List (List ℤ)) → (ys : List (List ℤ)) × IsCollected r ys
collected [] = ([], record { rises = tt; only = λ a c. absurd (none_in a c); all = λ a t c p. absurd (none_in t c) })
collected (t ∷ r) =
    let rest = collected r in
    let v = divided_exists t in
    let m = put_in rest.0 v.0 rest.1.rises in (
      m.0,
      record {
        rises = m.1.rises;
        only = λ a c. elim ((m.1.has a).0 c) [
          | inl e ↦ (t, Contains-here t r, subst (IsPrimitivePart t) (sym e) v.1)
          | inr k ↦ let q = rest.1.only a k in (q.0, in_tail t r q.0 q.1, q.2)
        ];
        all = λ a s c p. elim (in_cons t r s c) [
          | inl e ↦ (m.1.has a).1 (inl (primitive_unique t a v.0 (subst (λ (z : List ℤ). IsPrimitivePart z a) e p) v.1))
          | inr d ↦ (m.1.has a).1 (inr (rest.1.all a s d p))
        ];
      },
    )

-- a marked list has its normals
pub normals_exist : (bs : List MarkedPolynomial) → (ns : List (List ℤ)) × AreNormals bs ns
normals_exist bs = let g = collected (rows_of_polynomials bs) in (g.0, record { rises = g.1.rises; only = g.1.only; all = λ a k. g.1.all a k.0 k.1 k.2 })

-- ---- the orthant

fronted : (n : ℕ) (rays lin : List (List ℤ)) (v : List ℤ) → ((x : List ℤ) → Contains lin x → ⊥) → Made n rays lin v →
    Made (suc n) (map (λ x. pos 0 ∷ x) rays) [] (pos 0 ∷ v)
fronted n rays lin v z (nothing m rs ls) = nothing (suc m) (map (λ x. pos 0 ∷ x) rs) []
fronted n rays lin v z (ray m rs ls w l c) = ray (suc m) (map (λ x. pos 0 ∷ x) rs) [] (pos 0 ∷ w) (ap suc l) (map_in (λ x. pos 0 ∷ x) rs w c)
fronted n rays lin v z (line m rs ls a u w l c e) = absurd (z u c)
fronted n rays lin v z (summed m rs ls x y w e p q) = summed (suc m) (map (λ x. pos 0 ∷ x) rs) [] (pos 0 ∷ x) (pos 0 ∷ y) (pos 0 ∷ w) (ap (λ t. pos 0 ∷ t) e)
    (fronted m rs ls x z p) (fronted m rs ls y z q)
fronted n rays lin v z (multiplied m rs ls a x w k e p) = multiplied (suc m) (map (λ x. pos 0 ∷ x) rs) [] a (pos 0 ∷ x) (pos 0 ∷ w) k
    (ap (λ t. pos 0 ∷ t) e ∙ ap (λ (c : ℤ). c ∷ scaled a x) (omega (arith, ints))) (fronted m rs ls x z p)
fronted n rays lin v z (divided m rs ls a x w k e p) = divided (suc m) (map (λ x. pos 0 ∷ x) rs) [] a (pos 0 ∷ x) (pos 0 ∷ w) k
    (ap (λ (c : ℤ). c ∷ scaled a x) (omega (arith, ints)) ∙ ap (λ t. pos 0 ∷ t) e) (fronted m rs ls w z p)

-- what has no entry below zero is made of the unit vectors
made_of_units : (n : ℕ) (v : List ℤ) → length v ≡ n → ((i : ℕ) → i < n → pos 0 ≤ℤ get_or v i (pos 0)) → Made n (unit_vectors n) [] v
made_of_units zero [] l up = nothing zero [] []
made_of_units zero (x ∷ v) l up = absurd (omega (arith, l))
made_of_units (suc n) [] l up = absurd (omega (arith, l))
made_of_units (suc n) (x ∷ v) l up =
    let lv : length v ≡ n = omega (arith, l) in
    let first : List ℤ = pos 1 ∷ zeros n in
    let later : List (List ℤ) = map (λ u. pos 0 ∷ u) (unit_vectors n) in
    summed (suc n) (first ∷ later) [] (scaled x first) (pos 0 ∷ v) (x ∷ v)
    (ap₂ ◌∷◌ (let e : x ≡ x *ℤ pos 1 +ℤ pos 0 = omega (arith, ints) in e) (vsame (vv v lv) (dv x ⊡ vz n ⊞ vv v lv) (λ w. omega arith)))
    (multiplied (suc n) (first ∷ later) [] x first (scaled x first) (up 0 (omega arith)) refl (ray (suc n) (first ∷ later) [] first (ap suc (length-zeros n))
    (Contains-here first later)))
    (Made-into (suc n) later [] (first ∷ later) [] (pos 0 ∷ v) (λ y i c. ray (suc n) (first ∷ later) [] y i (in_tail first later y c))
    (λ a y i c. absurd (none_in y c))
    (fronted n (unit_vectors n) [] v (λ y c. none_in y c) (made_of_units n v lv (λ i k. up (suc i) (omega (arith, k))))))

-- a unit vector has the entry 1, and no entry below zero
unit_has_one : (n : ℕ) (x : List ℤ) → Contains (unit_vectors n) x → (i : ℕ) × (i < n) × (get_or x i (pos 0) ≡ pos 1)
unit_has_one zero x c = absurd (none_in x c)
unit_has_one (suc n) x c = elim (in_cons (pos 1 ∷ zeros n) (map (λ u. pos 0 ∷ u) (unit_vectors n)) x c) [
  | inl e ↦ (0, omega arith, ap (λ (t : List ℤ). get_or t 0 (pos 0)) e)
  | inr d ↦ let t = in_map (λ u. pos 0 ∷ u) (unit_vectors n) x d in let r =
      unit_has_one n t.0 t.1.0 in (suc r.0, omega (arith, r.1), ap (λ (u : List ℤ). get_or u (suc r.0) (pos 0)) t.1.1 ∙ r.2)
]

zeros_up : (n i : ℕ) → pos 0 ≤ℤ get_or (zeros n) i (pos 0)
zeros_up zero i = omega (arith, ints)
zeros_up (suc n) zero = omega (arith, ints)
zeros_up (suc n) (suc i) = zeros_up n i

first_up : (n i : ℕ) → pos 0 ≤ℤ get_or (pos 1 ∷ zeros n) i (pos 0)
first_up n zero = omega (arith, ints)
first_up n (suc i) = zeros_up n i

later_up : (t : List ℤ) (i : ℕ) → ((i : ℕ) → pos 0 ≤ℤ get_or t i (pos 0)) → pos 0 ≤ℤ get_or (pos 0 ∷ t) i (pos 0)
later_up t zero up = omega (arith, ints)
later_up t (suc i) up = up i

unit_up : (n : ℕ) (x : List ℤ) (i : ℕ) → Contains (unit_vectors n) x → pos 0 ≤ℤ get_or x i (pos 0)
unit_up zero x i c = absurd (none_in x c)
unit_up (suc n) x i c = elim (in_cons (pos 1 ∷ zeros n) (map (λ u. pos 0 ∷ u) (unit_vectors n)) x c) [
  | inl e ↦ subst (λ (t : List ℤ). pos 0 ≤ℤ get_or t i (pos 0)) (sym e) (first_up n i)
  | inr d ↦ let t = in_map (λ u. pos 0 ∷ u) (unit_vectors n) x d in subst (λ (u : List ℤ). pos 0 ≤ℤ get_or u i (pos 0)) (sym t.1.1)
      (later_up t.0 i (λ k. unit_up n t.0 k t.1.0))
]

-- the cone of the unit vectors, with some rays that are primitive
record HasRays (n : ℕ) (hs rays : List (List ℤ)) : Type 0 where
  pub described : IsDescribed n hs [] [] rays
  pub primitive : (x : List ℤ) → Contains rays x → IsPrimitive x

orthant : (n : ℕ) → HasRays n (units n n) (unit_vectors n)
orthant n = record {
  described = record {
    lin_width = λ x c. absurd (none_in x c);
    rays_width = units_width n;
    valid = record {
      up = λ h x ch cx. let u = unit_of n n h ch in subst (λ (t : List ℤ). pos 0 ≤ℤ dot t x) (sym u.2)
          (subst (λ (z : ℤ). pos 0 ≤ℤ z) (sym (dot-unit n u.0 x u.1 (units_width n x cx))) (unit_up n x u.0 cx));
      flat = λ h x ch cx. absurd (none_in x cx);
    };
    solves = λ e x ce cx. absurd (none_in e ce);
    lin_solves = λ e x ce cx. absurd (none_in e ce);
    complete = λ v lv up z. made_of_units n v lv (λ i k. subst (λ (z : ℤ). pos 0 ≤ℤ z) (dot-unit n i v k lv) (up (unit n i) (unit_there n n i k)));
    pointed = λ x cx. let r = unit_has_one n x cx in let d : dot (unit n r.0) x ≡ pos 1 =
        dot-unit n r.0 x r.1 (units_width n x cx) ∙ r.2 in (unit n r.0, (unit_there n n r.0 r.1, omega (arith, ints, d)));
  };
  primitive = λ x cx.
      let r = unit_has_one n x cx in
      let wide : length x ≡ n = units_width n x cx in
      IsPrimitive-one x (IsContent-unit x (r.0, pos 1, omega (arith, r.1, wide), get_or_default x r.0 (pos 1) (pos 0) (omega (arith, r.1, wide)) ∙ r.2, refl));
}

-- ---- one row more

record Kept (h : List ℤ) (rays : List (List ℤ)) : Type 0 where
  pub kept : List (List ℤ)
  pub from : (y : List ℤ) → Contains kept y → Contains rays y × (pos 0 ≤ℤ dot h y)
  pub to : (x : List ℤ) → Contains rays x → pos 0 ≤ℤ dot h x → Contains kept x

kept_of : (h : List ℤ) (rays : List (List ℤ)) → Kept h rays
kept_of h [] = record { kept = []; from = λ y c. absurd (none_in y c); to = λ x c u. absurd (none_in x c) }
kept_of h (x ∷ rays) =
    let k = kept_of h rays in
    let with : pos 0 ≤ℤ dot h x → Kept h (x ∷ rays) = λ u. record {
      kept = x ∷ k.kept;
      from = λ y c. elim (in_cons x k.kept y c) [
        | inl e ↦ (subst (Contains (x ∷ rays)) (sym e) (Contains-here x rays), subst (λ (t : List ℤ). pos 0 ≤ℤ dot h t) (sym e) u)
        | inr d ↦ (in_tail x rays y (k.from y d).0, (k.from y d).1)
      ];
      to = λ y c v. elim (in_cons x rays y c) [
        | inl e ↦ subst (Contains (x ∷ k.kept)) (sym e) (Contains-here x k.kept)
        | inr d ↦ in_tail x k.kept y (k.to y d v)
      ];
    } in
    elim (sign_of (dot h x)) [
      | positive g ↦ with (omega (arith, ints, g))
      | none g ↦ with (omega (arith, ints, g))
      | negative g ↦ record {
        kept = k.kept;
        from = λ y c. (in_tail x rays y (k.from y c).0, (k.from y c).1);
        to = λ y c v. elim (in_cons x rays y c) [
          | inl e ↦ (let w : pos 0 ≤ℤ dot h x = subst (λ (t : List ℤ). pos 0 ≤ℤ dot h t) e v in absurd (omega (arith, ints, g, w)))
          | inr d ↦ k.to y d v
        ];
      }
    ]

-- y comes of p and some ray on which h is negative
abbrev IsMate : List ℤ → List ℤ → List (List ℤ) → List ℤ → Type 0
IsMate h p rays y = (q : List ℤ) × Contains rays q × (dot h q <ℤ pos 0) × IsPrimitivePart (pair h p q) y

record Mates (h p : List ℤ) (rays : List (List ℤ)) : Type 0 where
  pub mates : List (List ℤ)
  pub from : (y : List ℤ) → Contains mates y → IsMate h p rays y
  pub to : (q : List ℤ) → Contains rays q → dot h q <ℤ pos 0 → (y : List ℤ) × Contains mates y × IsPrimitivePart (pair h p q) y

mates_of : (h p : List ℤ) (rays : List (List ℤ)) → Mates h p rays
mates_of h p [] = record { mates = []; from = λ y c. absurd (none_in y c); to = λ q c d. absurd (none_in q c) }
mates_of h p (x ∷ rays) =
    let k = mates_of h p rays in
    let later : (y : List ℤ) → IsMate h p rays y → IsMate h p (x ∷ rays) y = λ y m. (m.0, in_tail x rays m.0 m.1, m.2, m.3) in
    let without : (dot h x <ℤ pos 0 → ⊥) → Mates h p (x ∷ rays) = λ never. record {
      mates = k.mates;
      from = λ y c. later y (k.from y c);
      to = λ q c d. elim (in_cons x rays q c) [ inl e ↦ absurd (never (subst (λ (t : List ℤ). dot h t <ℤ pos 0) e d)) | inr i ↦ k.to q i d ];
    } in
    elim (sign_of (dot h x)) [
      | positive g ↦ without (λ d. omega (arith, ints, g, d))
      | none g ↦ without (λ d. omega (arith, ints, g, d))
      | negative g ↦ let v = divided_exists (pair h p x) in record {
        mates = v.0 ∷ k.mates;
        from = λ y c. elim (in_cons v.0 k.mates y c) [
          | inl e ↦ (x, Contains-here x rays, g, subst (IsPrimitivePart (pair h p x)) (sym e) v.1)
          | inr d ↦ later y (k.from y d)
        ];
        to = λ q c d. elim (in_cons x rays q c) [
          | inl e ↦ (v.0, Contains-here v.0 k.mates, subst (λ (t : List ℤ). IsPrimitivePart (pair h p t) v.0) (sym e) v.1)
          | inr i ↦ let t = k.to q i d in (t.0, in_tail v.0 k.mates t.0 t.1, t.2)
        ];
      }
    ]

record Pairs (h : List ℤ) (ps rays : List (List ℤ)) : Type 0 where
  pub pairs : List (List ℤ)
  pub from : (y : List ℤ) → Contains pairs y → (p : List ℤ) × Contains ps p × (pos 0 <ℤ dot h p) × IsMate h p rays y
  pub to : (p q : List ℤ) → Contains ps p → Contains rays q → pos 0 <ℤ dot h p → dot h q <ℤ pos 0 →
      (y : List ℤ) × Contains pairs y × IsPrimitivePart (pair h p q) y

pairs_of : (h : List ℤ) (ps rays : List (List ℤ)) → Pairs h ps rays
pairs_of h [] rays = record { pairs = []; from = λ y c. absurd (none_in y c); to = λ p q c d u v. absurd (none_in p c) }
pairs_of h (x ∷ ps) rays =
    let k = pairs_of h ps rays in
    let without : (pos 0 <ℤ dot h x → ⊥) → Pairs h (x ∷ ps) rays = λ never. record {
      pairs = k.pairs;
      from = λ y c. let t = k.from y c in (t.0, in_tail x ps t.0 t.1, t.2, t.3);
      to = λ p q c d u v. elim (in_cons x ps p c) [ inl e ↦ absurd (never (subst (λ (t : List ℤ). pos 0 <ℤ dot h t) e u)) | inr i ↦ k.to p q i d u v ];
    } in
    elim (sign_of (dot h x)) [
      | negative g ↦ without (λ u. omega (arith, ints, g, u))
      | none g ↦ without (λ u. omega (arith, ints, g, u))
      | positive g ↦ let m = mates_of h x rays in record {
        pairs = m.mates ++ k.pairs;
        from = λ y c. elim (Contains-append_cases m.mates k.pairs y c) [
          | inl i ↦ (x, Contains-here x ps, g, m.from y i)
          | inr i ↦ let t = k.from y i in (t.0, in_tail x ps t.0 t.1, t.2, t.3)
        ];
        to = λ p q c d u v. elim (in_cons x ps p c) [
          | inl e ↦ let t = m.to q d v in (
            t.0,
            Contains-append_left m.mates k.pairs t.0 t.1,
            subst (λ (z : List ℤ). IsPrimitivePart (pair h z q) t.0) (sym e)
                t.2,
          )
          | inr i ↦ let t = k.to p q i d u v in (t.0, Contains-append_right m.mates k.pairs t.0 t.1, t.2)
        ];
      }
    ]

stepped : (n : ℕ) (hs rays : List (List ℤ)) (h : List ℤ) → HasRays n hs rays → (next : List (List ℤ)) × HasRays n (hs ++ h ∷ []) next
stepped n hs rays h s = (
  k.kept ++ m.pairs,
  record {
    described = split_step n hs [] [] rays (k.kept ++ m.pairs) h s.described (λ x c. absurd (none_in x c)) (record {
      from = λ y c. elim (Contains-append_cases k.kept m.pairs y c) [
        | inl i ↦ inl (k.from y i)
        | inr i ↦ let t =
            m.from y i in inr (record {
              p = t.0;
              q = t.3.0;
              in_p = t.1;
              in_q = t.3.1;
              up = t.2;
              down = t.3.2;
              divided = multiple_of (pair h t.0 t.3.0) y t.3.3;
            })
      ];
      kept = λ x c u. Contains-append_left k.kept m.pairs x (k.to x c u);
      paired = λ p q c d u v. let t = m.to p q c d u v in (t.0, (Contains-append_right k.kept m.pairs t.0 t.1, multiple_of (pair h p q) t.0 t.2));
    });
    primitive = λ y c. elim (Contains-append_cases k.kept m.pairs y c) [
      | inl i ↦ s.primitive y (k.from y i).0
      | inr i ↦ let t = m.from y i in primitive_of (pair h t.0 t.3.0) y t.3.3
    ];
  },
)
  where
    k : Kept h rays
    k = kept_of h rays

    m : Pairs h rays rays
    m = pairs_of h rays rays

rows_added : (n : ℕ) (hs more rays : List (List ℤ)) → HasRays n hs rays → (next : List (List ℤ)) × HasRays n (hs ++ more) next
rows_added n hs [] rays s = (rays, subst (λ (z : List (List ℤ)). HasRays n z rays) (sym (append-nil hs)) s)
rows_added n hs (h ∷ more) rays s =
    let t = stepped n hs rays h s in
    let r = rows_added n (hs ++ h ∷ []) more t.0 t.1 in
    (r.0, subst (λ (z : List (List ℤ)). HasRays n z r.0) (append_assoc hs (h ∷ []) more) r.1)

-- ---- rays inside others taken away

zero_where : (hs : List (List ℤ)) (x y : List ℤ) → ZeroWhere hs x y ⊎ (ZeroWhere hs x y → ⊥)
zero_where [] x y = inl (λ h c z. absurd (none_in h c))
zero_where (h ∷ hs) x y = elim (zero_where hs x y) [
  | inr never ↦ inr (λ w. never (λ k c z. w k (in_tail h hs k c) z))
  | inl always ↦ elim (zero_or_not (dot h x)) [
    | inr out ↦ inl (λ k c z. elim (in_cons h hs k c) [ inl e ↦ absurd (out (ap (λ (t : List ℤ). dot t x) (sym e) ∙ z)) | inr d ↦ always k d z ])
    | inl zx ↦ elim (zero_or_not (dot h y)) [
      | inl zy ↦ inl (λ k c z. elim (in_cons h hs k c) [ inl e ↦ ap (λ (t : List ℤ). dot t y) e ∙ zy | inr d ↦ always k d z ])
      | inr out ↦ inr (λ w. out (w h (Contains-here h hs) zx))
    ]
  ]
]

inside_one : (hs : List (List ℤ)) (x : List ℤ) (ys : List (List ℤ)) → ((j : ℕ) × (j < length ys) × ZeroWhere hs x (get_or ys j [])) ⊎ ((y : List ℤ) →
    Contains ys y → ZeroWhere hs x y → ⊥)
inside_one hs x [] = inr (λ y c z. none_in y c)
inside_one hs x (y ∷ ys) = elim (zero_where hs x y) [
  | inl w ↦ inl (0, omega arith, w)
  | inr never ↦ elim (inside_one hs x ys) [
    | inl t ↦ inl (suc t.0, omega (arith, t.1), t.2)
    | inr out ↦ inr (λ z c. elim (in_cons y ys z c) [ inl e ↦ (λ w. never (subst (ZeroWhere hs x) e w)) | inr d ↦ out z d ])
  ]
]

-- none inside another
abbrev AreApart : List (List ℤ) → List (List ℤ) → List (List ℤ) → Type 0
AreApart hs xs ys = (x y : List ℤ) → Contains xs x → Contains ys y → (x ≡ y → ⊥) → ZeroWhere hs x y → ⊥

record AreThin (n : ℕ) (hs rays : List (List ℤ)) : Type 0 where
  pub has : HasRays n hs rays
  pub rises : Ascends rays
  pub apart : AreApart hs rays rays

thin : (n : ℕ) (hs left out : List (List ℤ)) → HasRays n hs (left ++ out) → Ascends out → AreApart hs out (left ++ out) →
    (rays : List (List ℤ)) × AreThin n hs rays
thin n hs [] out s p a = (out, record { has = s; rises = p; apart = a })
thin n hs (x ∷ left) out s p a = elim (inside_one hs x (left ++ out)) [
  | inl t ↦ thin n hs left out (record {
    described = pruned n hs [] [] (x ∷ (left ++ out)) zero (suc t.0) s.described (omega arith) (omega (arith, t.1)) (λ q. omega (arith, q)) t.2;
    primitive = λ y c. s.primitive y (in_tail x (left ++ out) y c);
  }) p (λ y z cy cz. a y z cy (in_tail x (left ++ out) z cz))
  | inr never ↦
      let m = put_in out x p in
      let back : (y : List ℤ) → Contains (left ++ m.0) y → Contains (x ∷ (left ++ out)) y = λ y c. elim (Contains-append_cases left m.0 y c) [
        | inl i ↦ in_tail x (left ++ out) y (Contains-append_left left out y i)
        | inr i ↦ elim ((m.1.has y).0 i) [
          | inl e ↦ subst (Contains (x ∷ (left ++ out))) (sym e) (Contains-here x (left ++ out))
          | inr k ↦ in_tail x (left ++ out) y (Contains-append_right left out y k)
        ]
      ] in
      let on : (y : List ℤ) → Contains (x ∷ (left ++ out)) y → Contains (left ++ m.0) y = λ y c. elim (in_cons x (left ++ out) y c) [
        | inl e ↦ Contains-append_right left m.0 y ((m.1.has y).1 (inl e))
        | inr d ↦ elim (Contains-append_cases left out y d) [
          | inl i ↦ Contains-append_left left m.0 y i
          | inr i ↦ Contains-append_right left m.0 y ((m.1.has y).1 (inr i))
        ]
      ] in
      thin n hs left m.0 (record {
        described = same_rays n hs [] [] (x ∷ (left ++ out)) (left ++ m.0) s.described on back;
        primitive = λ y c. s.primitive y (back y c);
      }) m.1.rises (λ y z cy cz ne w. elim ((m.1.has y).0 cy) [
        | inl e ↦ elim (in_cons x (left ++ out) z (back z cz)) [
          | inl f ↦ ne (e ∙ sym f)
          | inr k ↦ never z k (subst (λ (t : List ℤ). ZeroWhere hs t z) e w)
        ]
        | inr k ↦ a y z k (back z cz) ne w
      ])
]

-- ---- the rays

less_of : (x y : List ℤ) → IsBefore x y → slice_cmp int_cmp x y ≡ Less
less_of x y b = at (slice_cmp int_cmp x y) (vectors_compare x y)
  where
    at : (o : Ordering) → MatchOrdering o (IsBefore x y) (x ≡ y) (IsBefore y x) → o ≡ Less
    at Less h = refl
    at Equal h = absurd (before_strict.irreflexive x (subst (IsBefore x) (sym h) b))
    at Greater h = absurd (before_strict.irreflexive x (before_strict.transitive x y x b h))

-- two indices of an ascending list have different vectors
different : (xs : List (List ℤ)) (i j : ℕ) → Ascends xs → i < length xs → j < length xs → (i ≡ j → ⊥) → get_or xs i [] ≡ get_or xs j [] → ⊥
different xs i j p hi hj ne e = elim (cases_lt i j) [
  | inl l ↦ before_strict.irreflexive (get_or xs j []) (subst (λ (t : List ℤ). IsBefore t (get_or xs j [])) e (ascends_at xs i j p l hj))
  | inr g ↦ elim (cases_lt j i) [
    | inl l ↦ before_strict.irreflexive (get_or xs j []) (subst (IsBefore (get_or xs j [])) e (ascends_at xs j i p l hi))
    | inr m ↦ ne (omega (arith, g, m))
  ]
]

rays_of_thin : (n : ℕ) (hs rays : List (List ℤ)) → AreThin n hs rays → IsRays n hs [] [] rays
rays_of_thin n hs rays t =
    finish n hs [] [] rays [] [] t.has.described (record {
      width = λ x c. absurd (none_in x c);
      to = λ x c. absurd (none_in x c);
      from = λ x c. absurd (none_in x c);
    })
    (record { rising = λ i j e h hj. absurd (omega (arith, hj)); leading = All-nil _; alone = λ x y p q cx. absurd (none_in x cx); primitive = All-nil _ })
    (basis n [] [] (λ x c. absurd (none_in x c)) start)
    (λ r y cr cy. absurd (none_in y cy))
    (all_by IsPrimitive rays t.has.primitive)
    (λ i j e h hj. let hi : i < length rays = omega (arith, h, hj) in
    less_of (get_or rays i e) (get_or rays j e) (subst (λ (z : List ℤ). IsBefore z (get_or rays j e)) (get_or_default rays i [] e hi)
    (subst (IsBefore (get_or rays i [])) (get_or_default rays j [] e hj) (ascends_at rays i j t.rises h hj))))
    (λ i j hi hj ne w. t.apart (get_or rays i []) (get_or rays j []) (i, hi, get_or_default rays i (get_or rays i []) [] hi)
    (j, hj, get_or_default rays j (get_or rays j []) [] hj) (different rays i j t.rises hi hj ne) w)

-- the rays of these rows, cut with the orthant
pub rays_exist : (n : ℕ) (ns : List (List ℤ)) → (rays : List (List ℤ)) × IsRays n (ns ++ units n n) [] [] rays
rays_exist n ns =
    let s = rows_added n (units n n) ns (unit_vectors n) (orthant n) in
    let t = thin n (units n n ++ ns) s.0 [] (subst (HasRays n (units n n ++ ns)) (sym (append-nil s.0)) s.1) tt (λ x y cx cy ne w. none_in x cx) in
    let swap : (xs ys : List (List ℤ)) (h : List ℤ) → Contains (xs ++ ys) h → Contains (ys ++ xs) h = λ xs ys h c. elim (Contains-append_cases xs ys h c) [
      | inl i ↦ Contains-append_right ys xs h i
      | inr i ↦ Contains-append_left ys xs h i
    ] in
    let old : Rows = record { inequalities = units n n ++ ns; equations = [] } in
    let new : Rows = record { inequalities = ns ++ units n n; equations = [] } in (
      t.0,
      same_rays_of n old new [] t.0 (λ v l. (
        λ f. record {
          not_negative = all_by (λ h. pos 0 ≤ℤ dot h v) (ns ++ units n n) (λ h c. All-contains (λ k. pos 0 ≤ℤ dot k v) (units n n ++ ns) h f.not_negative
              (swap ns (units n n) h c));
          zero = f.zero;
        },
        λ f. record {
          not_negative = all_by (λ h. pos 0 ≤ℤ dot h v) (units n n ++ ns) (λ h c. All-contains (λ k. pos 0 ≤ℤ dot k v) (ns ++ units n n) h f.not_negative
              (swap (units n n) ns h c));
          zero = f.zero;
        },
      )) (rays_of_thin n (units n n ++ ns) t.0 t.1),
    )
