-- The faces of a cone and the lists of its rays.
use Rattle.std.proofs.Common.{◌≡◌, ◌≢◌, ℕ, zero, suc, ◌<◌, List, [], ◌∷◌, ◌++◌, length, ℤ, pos, ◌≤ℤ◌, arith, sym, refl, ap, ◌∙◌, subst, Contains, ◌⊎◌, inl, inr}
use Rattle.std.proofs.Common.{All, AllPairs, get_or, remove}
use Rattle.std.specs.Ordering.{int_cmp}
use Rattle.std.specs.Cmp.Lexicographic.{slice_cmp}
use Rattle.std.specs.declared.cmp.Ordering.TheVariants.{Less}
use Rattle.std.proofs.lemmas.List.{get_or_default}
use Rattle.std.proofs.lemmas.List.Elements.{All-contains, Contains-append_left, Contains-append_right, Contains-append_cases}
use Rattle.gf_int_theory.specs.Content.{IsPrimitive, scaled}
use Rattle.gf_vec.specs.Vector.{dot, zeros}
use Rattle.gf_vec.proofs.VectorLaws.{dot_comm, dot-zeros}
use Rattle.gf_gordan.specs.Alternative.{AreRows}
use Rattle.gf_duality_theory.specs.Generators.{Made, ray, line, AreValid}
use Rattle.gf_duality_theory.specs.Rays.{IsRays, Generated}
use Rattle.gf_fans_theory.specs.FaceLists.{IsPartOn}
use Rattle.gf_duality_theory.proofs.ListLaws.{none_in, in_tail, in_cons, of_rest, in_rest, stood, index, less, at, more}
use Rattle.gf_duality_theory.proofs.Made.{Made-dot, Made-dot_zero, Made-into}
use Rattle.gf_duality_theory.proofs.Generated.{made-generated, generated-made}
use Rattle.gf_duality_theory.proofs.Uniqueness.{face_made}
use Rattle.gf_duality_theory.proofs.Determined.{described_of, less_never}
use Rattle.gf_int_theory.proofs.SignLaws.{zero_or_not}
use Rattle.gf_int_theory.proofs.ListLaws.{Contains-here, all_by}

zero_at : (n : ℕ) (t : List ℤ) → dot t (zeros n) ≡ pos 0
zero_at n t = dot_comm t (zeros n) ∙ dot-zeros n t

-- what is made and zero on some rows is made of the rays that are
pub part_made : (n : ℕ) (flat rays part lin : List (List ℤ)) (v : List ℤ) → AreValid flat rays lin →
    ((r : List ℤ) → Contains rays r → ((t : List ℤ) → Contains flat t → dot t r ≡ pos 0) → Contains part r) → Made n rays lin v →
    ((t : List ℤ) → Contains flat t → dot t v ≡ pos 0) → Made n part lin v
part_made n flat rays part lin v va every m f = face_made n flat rays part lin (zeros n) v va (λ r c w. every r c (λ t k. w t k (zero_at n t))) m
    (λ t k e. f t k)

-- ---- one face

-- in a strict order no entry stands twice
strictly_once : (xs : List (List ℤ)) (i j : ℕ) → AllPairs (λ x y. slice_cmp int_cmp x y ≡ Less) xs → i < j → j < length xs → get_or xs i [] ≡ get_or xs j [] → ⊥
strictly_once xs i j a h l e =
    let u : slice_cmp int_cmp (get_or xs j []) (get_or xs j []) ≡ Less = subst (λ t. slice_cmp int_cmp t (get_or xs j []) ≡ Less) e (a i j [] h l) in
    less_never (get_or xs j []) (get_or xs j []) u u

apart_from : (xs : List (List ℤ)) (i : ℕ) → AllPairs (λ x y. slice_cmp int_cmp x y ≡ Less) xs → i < length xs → (y : List ℤ) → Contains (remove xs i) y →
    y ≢ get_or xs i []
apart_from xs i a h y c e =
    let s = stood xs i y h c in
    let q : get_or xs s.j [] ≡ y = get_or_default xs s.j [] y s.inside ∙ s.is in
    elim (index i s.j) [
      | at k ↦ s.other k
      | less k ↦ strictly_once xs s.j i a k h (q ∙ e)
      | more k ↦ strictly_once xs i s.j a k s.inside (sym (q ∙ e))
    ]

-- the part of a cone on which some of its rows are zero has the rays on which they are
pub face_rays : (n : ℕ) (hs es lin rays flat part : List (List ℤ)) → IsRays n hs es lin rays → ((t : List ℤ) → Contains flat t → Contains hs t) →
    IsPartOn flat rays part → IsRays n hs (es ++ flat) lin part
face_rays n hs es lin rays flat part r sub p =
    let d = described_of n hs es lin rays r in
    let wp : AreRows n part = all_by (λ t. length t ≡ n) part (λ x c. d.rays_width x (p.each x c).0) in
    let va : AreValid flat rays lin = record { up = λ t x k c. d.valid.up t x (sub t k) c; flat = λ t x k c. d.valid.flat t x (sub t k) c } in
    record {
      lin_width = r.lin_width;
      echelon = r.echelon;
      spans = λ v l. (
        λ s. (r.spans v l).0 (record {
          flat = s.flat;
          zero = all_by (λ e. dot e v ≡ pos 0) es (λ e k. All-contains (λ e. dot e v ≡ pos 0) (es ++ flat) e s.zero (Contains-append_left es flat e k));
        }),
        λ g. let s = (r.spans v l).1 g in record {
          flat = s.flat;
          zero = all_by (λ e. dot e v ≡ pos 0) (es ++ flat) (λ e k. elim (Contains-append_cases es flat e k) [
            | inl a ↦ All-contains (λ e. dot e v ≡ pos 0) es e s.zero a
            | inr b ↦ All-contains (λ e. dot e v ≡ pos 0) hs e s.flat (sub e b)
          ]);
        },
      );
      rays_width = wp;
      ascending = p.ascending;
      primitive = all_by IsPrimitive part (λ x c. All-contains IsPrimitive rays x r.primitive (p.each x c).0);
      orthogonal = all_by (λ r. All (λ l. dot r l ≡ pos 0) lin) part (λ x c. All-contains (λ r. All (λ l. dot r l ≡ pos 0) lin) rays x r.orthogonal
          (p.each x c).0);
      generates = λ v l. (
        λ s. made-generated n part lin v wp r.lin_width (part_made n flat rays part lin v va p.every
            (d.complete v l (λ h k. All-contains (λ h. pos 0 ≤ℤ dot h v) hs h s.not_negative k)
            (λ e k. All-contains (λ e. dot e v ≡ pos 0) (es ++ flat) e s.zero (Contains-append_left es flat e k)))
            (λ t k. All-contains (λ e. dot e v ≡ pos 0) (es ++ flat) t s.zero (Contains-append_right es flat t k))),
        λ g. let m : Made n part lin v = generated-made n part lin v wp r.lin_width g in record {
          not_negative =
              all_by (λ h. pos 0 ≤ℤ dot h v) hs (λ h k. Made-dot n part lin h v (λ x c. d.valid.up h x k (p.each x c).0) (λ x c. d.valid.flat h x k c) m);
          zero = all_by (λ e. dot e v ≡ pos 0) (es ++ flat) (λ e k. elim (Contains-append_cases es flat e k) [
            | inl a ↦ Made-dot_zero n part lin e v (λ x c. d.solves e x a (p.each x c).0) (λ x c. d.lin_solves e x a c) m
            | inr b ↦ Made-dot_zero n part lin e v (λ x c. (p.each x c).1 e b) (λ x c. d.valid.flat e x (sub e b) c) m
          ]);
        },
      );
      minimal = λ i h g.
          let x : List ℤ = get_or part i [] in
          let cx : Contains part x = (i, h, get_or_default part i x [] h) in
          let c = (p.each x cx).0 in
          let j : ℕ = c.0 in
          let ej : get_or rays j [] ≡ x = get_or_default rays j [] x c.1 ∙ c.2 in
          let wr : AreRows n (remove part i) =
          all_by (λ t. length t ≡ n) (remove part i) (λ y k. All-contains (λ t. length t ≡ n) part y wp (of_rest part i y h k)) in
          let wj : AreRows n (remove rays j) = all_by (λ t. length t ≡ n) (remove rays j) (λ y k. d.rays_width y (of_rest rays j y c.1 k)) in
          let m : Made n (remove part i) lin x = generated-made n (remove part i) lin x wr r.lin_width g in
          let other : (y : List ℤ) → Contains (remove part i) y → Contains (remove rays j) y = λ y k.
          let cy = (p.each y (of_rest part i y h k)).0 in
          let ey : get_or rays cy.0 [] ≡ y = get_or_default rays cy.0 [] y cy.1 ∙ cy.2 in
          let ne : j ≢ cy.0 = λ q. apart_from part i p.ascending h y k (sym ey ∙ ap (λ t. get_or rays t []) (sym q) ∙ ej) in
          subst (Contains (remove rays j)) ey (in_rest rays j cy.0 [] c.1 cy.1 ne) in
          let all : Made n (remove rays j) lin x = Made-into n (remove part i) lin (remove rays j) lin x (λ y l k. ray n (remove rays j) lin y l (other y k))
          (λ a y l k. line n (remove rays j) lin a y (scaled a y) l k refl) m in
          r.minimal j c.1 (subst (Generated n (remove rays j) lin) (sym ej) (made-generated n (remove rays j) lin x wj r.lin_width all));
    }

-- ---- lists of rays

pub all_zero_or : (flat : List (List ℤ)) (x : List ℤ) → ((t : List ℤ) → Contains flat t → dot t x ≡ pos 0) ⊎ (((t : List ℤ) → Contains flat t →
    dot t x ≡ pos 0) → ⊥)
all_zero_or [] x = inl (λ t k. absurd (none_in t k))
all_zero_or (h ∷ flat) x = elim (zero_or_not (dot h x)) [
  | inr n ↦ inr (λ f. n (f h (Contains-here h flat)))
  | inl z ↦ elim (all_zero_or flat x) [
    | inr n ↦ inr (λ f. n (λ t k. f t (in_tail h flat t k)))
    | inl g ↦ inl (λ t k. elim (in_cons h flat t k) [ inl e ↦ ap (λ (q : List ℤ). dot q x) e ∙ z | inr d ↦ g t d ])
  ]
]

pairs_cons : (x : List ℤ) (xs : List (List ℤ)) → ((y : List ℤ) → Contains xs y → slice_cmp int_cmp x y ≡ Less) →
    AllPairs (λ x y. slice_cmp int_cmp x y ≡ Less) xs → AllPairs (λ x y. slice_cmp int_cmp x y ≡ Less) (x ∷ xs)
pairs_cons x xs f a zero (suc j) d h l = f (get_or xs j d) (j, omega (arith, l), get_or_default xs j (get_or xs j d) d (omega (arith, l)))
pairs_cons x xs f a (suc i) (suc j) d h l = a i j d (omega (arith, h)) (omega (arith, l))
pairs_cons x xs f a i zero d h l = absurd (omega (arith, h))

-- the rays on which these rows are zero
pub part_on : (flat rays : List (List ℤ)) → AllPairs (λ x y. slice_cmp int_cmp x y ≡ Less) rays → (part : List (List ℤ)) × IsPartOn flat rays part
part_on flat [] a = ([], record { ascending = a; each = λ r c. absurd (none_in r c); every = λ r c f. c })
part_on flat (x ∷ rays) a =
    let s = part_on flat rays (λ i j d h l. a (suc i) (suc j) d (omega arith) (omega arith)) in
    let p = s.1 in
    let after : (y : List ℤ) → Contains rays y → slice_cmp int_cmp x y ≡ Less =
    λ y c. subst (λ t. slice_cmp int_cmp x t ≡ Less) c.2 (a 0 (suc c.0) y (omega arith) (omega (arith, c.1))) in
    elim (all_zero_or flat x) [
      | inl z ↦ (
        x ∷ s.0,
        record {
          ascending = pairs_cons x s.0 (λ y c. after y (p.each y c).0) p.ascending;
          each = λ r c. elim (in_cons x s.0 r c) [
            | inl e ↦ (subst (Contains (x ∷ rays)) (sym e) (Contains-here x rays), λ t k. ap (dot t) e ∙ z t k)
            | inr d ↦ (in_tail x rays r (p.each r d).0, (p.each r d).1)
          ];
          every = λ r c f. elim (in_cons x rays r c) [
            | inl e ↦ subst (Contains (x ∷ s.0)) (sym e) (Contains-here x s.0)
            | inr d ↦ in_tail x s.0 r (p.every r d f)
          ];
        },
      )
      | inr n ↦ (
        s.0,
        record {
          ascending = p.ascending;
          each = λ r c. (in_tail x rays r (p.each r c).0, (p.each r c).1);
          every = λ r c f. elim (in_cons x rays r c) [ inl e ↦ absurd (n (λ t k. ap (dot t) (sym e) ∙ f t k)) | inr d ↦ p.every r d f ];
        },
      )
    ]
