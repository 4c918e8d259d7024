-- The rays and the lineality basis are determined by the cone.
use Rattle.std.proofs.Common.{◌≡◌, ℕ, zero, List, [], ◌∷◌, length, ℤ, pos, negsuc, ◌*ℤ◌, neg_ℤ, ◌<ℤ◌, ◌≤ℤ◌, arith, sym, refl, ap, ◌∙◌, subst, Contains, ◌⊎◌}
use Rattle.std.proofs.Common.{inl, inr, get_or, remove, All, rules}
use Rattle.std.specs.Ordering.{int_cmp}
use Rattle.std.specs.Cmp.Lexicographic.{slice_cmp}
use Rattle.std.specs.declared.cmp.Ordering.TheVariants.{Less, Equal}
use Rattle.std.proofs.lemmas.Cmp.{lists_total, int_cmp_total, tied_itself}
use Rattle.std.proofs.lemmas.Int.{ints}
use Rattle.std.proofs.lemmas.List.{get_or_default}
use Rattle.std.proofs.lemmas.List.Elements.{All-contains}
use Rattle.gf_int_theory.specs.Content.{AllZero, IsPrimitive}
use Rattle.gf_int_theory.proofs.RingLaws.{same, dn, dneg}
use Rattle.gf_int_theory.proofs.SignLaws.{sign_of, negative, none, positive, zero-cancel}
use Rattle.gf_int_theory.proofs.ListLaws.{Contains-here, all_by}
use Rattle.gf_vec.specs.Vector.{dot, zeros, opposite}
use Rattle.gf_vec.proofs.VectorLaws.{length-times}
use Rattle.gf_gordan.specs.Alternative.{AreRows}
use Rattle.gf_duality_theory.specs.Generators.{Made, nothing, ray, IsDescribed}
use Rattle.gf_duality_theory.specs.Rays.{Satisfies, IsLineal, Generated, IsRays}
use Rattle.gf_duality_theory.specs.Faces.{Rows, IsInCone, SameCone}
use Rattle.gf_duality_theory.proofs.ListLaws.{none_in, in_tail, in_cons, of_rest}
use Rattle.gf_vec.proofs.DotLaws.{own_zero, dot-times_right}
use Rattle.gf_vec.proofs.VectorIdentities.{vv, ◌⊡◌, by}
use Rattle.gf_duality_theory.proofs.Made.{Made-dot_zero}
use Rattle.gf_duality_theory.proofs.Taking.{ZeroWhere}
use Rattle.gf_duality_theory.proofs.Described.{pruned}
use Rattle.gf_duality_theory.proofs.Generated.{made-generated, generated-made}
use Rattle.gf_duality_theory.proofs.Echelon.{own_member}
use Rattle.gf_duality_theory.proofs.EchelonUnique.{same_ordered, one_basis, no_widths}
use Rattle.gf_vec.proofs.PrimitiveLaws.{primitive_same}
use Rattle.gf_duality_theory.proofs.Uniqueness.{matched}
use Rattle.std.proofs.lemmas.Bool.{cases_eq}

-- some row is positive on x, or all are zero
pub some_positive : (hs : List (List ℤ)) (x : List ℤ) → ((h : List ℤ) → Contains hs h → pos 0 ≤ℤ dot h x) →
    ((h : List ℤ) × (Contains hs h × (pos 0 <ℤ dot h x))) ⊎ ((h : List ℤ) → Contains hs h → dot h x ≡ pos 0)
some_positive [] x f = inr (λ h c. absurd (none_in h c))
some_positive (t ∷ hs) x f = elim (sign_of (dot t x)) [
  | negative g ↦ let k : pos 0 ≤ℤ dot t x = f t (Contains-here t hs) in absurd (omega (arith, ints))
  | positive g ↦ inl (t, (Contains-here t hs, g))
  | none g ↦ elim (some_positive hs x (λ h c. f h (in_tail t hs h c))) [
    | inl r ↦ inl (r.0, (in_tail t hs r.0 r.1.0, r.1.1))
    | inr z ↦ inr (λ h c. elim (in_cons t hs h c) [ inl e ↦ subst (λ (k : List ℤ). dot k x ≡ pos 0) (sym e) g | inr d ↦ z h d ])
  ]
]

-- what the rays of a cone are is a description of it
pub described_of : (n : ℕ) (hs es lin rays : List (List ℤ)) → IsRays n hs es lin rays → IsDescribed n hs es lin rays
described_of n hs es lin rays r =
    let wr : (x : List ℤ) → Contains rays x → length x ≡ n = λ x c. All-contains (λ t. length t ≡ n) rays x r.rays_width c in
    let wl : (x : List ℤ) → Contains lin x → length x ≡ n = λ x c. All-contains (λ t. length t ≡ n) lin x r.lin_width c in
    let ray_in : (x : List ℤ) → Contains rays x → Satisfies hs es x =
    λ x c. (r.generates x (wr x c)).1 (made-generated n rays lin x r.rays_width r.lin_width (ray n rays lin x (wr x c) c)) in
    let line_in : (x : List ℤ) → Contains lin x → IsLineal hs es x =
    λ x c. (r.spans x (wl x c)).1 (made-generated n [] lin x (no_widths n) r.lin_width (own_member n lin x (wl x c) c)) in
    record {
      lin_width = wl;
      rays_width = wr;
      valid = record {
        up = λ h x ch cx. All-contains (λ k. pos 0 ≤ℤ dot k x) hs h (ray_in x cx).not_negative ch;
        flat = λ h x ch cx. All-contains (λ k. dot k x ≡ pos 0) hs h (line_in x cx).flat ch;
      };
      solves = λ e x ce cx. All-contains (λ k. dot k x ≡ pos 0) es e (ray_in x cx).zero ce;
      lin_solves = λ e x ce cx. All-contains (λ k. dot k x ≡ pos 0) es e (line_in x cx).zero ce;
      complete = λ v lv up z. generated-made n rays lin v r.rays_width r.lin_width
          ((r.generates v lv).0 (record { not_negative = all_by (λ k. pos 0 ≤ℤ dot k v) hs up; zero = all_by (λ k. dot k v ≡ pos 0) es z }));
      pointed = λ x c. elim (some_positive hs x (λ h k. All-contains (λ k. pos 0 ≤ℤ dot k x) hs h (ray_in x c).not_negative k)) [
        | inl p ↦ p
        | inr z ↦
            let lx = wr x c in
            let m : Made n [] lin x = generated-made n [] lin x (no_widths n) r.lin_width
            ((r.spans x lx).0 (record { flat = all_by (λ k. dot k x ≡ pos 0) hs z; zero = (ray_in x c).zero })) in
            let own : dot x x ≡ pos 0 = Made-dot_zero n [] lin x x (λ y i. absurd (none_in y i))
            (λ y i. All-contains (λ l. dot x l ≡ pos 0) lin y (All-contains (λ t. All (λ l. dot t l ≡ pos 0) lin) rays x r.orthogonal c) i) m in
            let xz : x ≡ zeros n = own_zero x own ∙ ap zeros lx in
            let k = c.0 in
            let e : get_or rays k [] ≡ zeros n = get_or_default rays k [] x c.1 ∙ c.2 ∙ xz in
            let rest : AreRows n (remove rays k) = all_by (λ t. length t ≡ n) (remove rays k) (λ t i. wr t (of_rest rays k t c.1 i)) in
            absurd (r.minimal k c.1 (subst (Generated n (remove rays k) lin) (sym e) (made-generated n (remove rays k) lin (zeros n) rest r.lin_width
            (nothing n (remove rays k) lin))))
      ];
    }

-- only the ray itself is zero wherever it is
pub alone_of : (n : ℕ) (hs es lin rays : List (List ℤ)) (r x : List ℤ) → IsRays n hs es lin rays → Contains rays r → Contains rays x → ZeroWhere hs r x → x ≡ r
alone_of n hs es lin rays r x s cr cx z =
    let d = described_of n hs es lin rays s in
    let i = cr.0 in let k = cx.0 in
    let er : get_or rays i [] ≡ r = get_or_default rays i [] r cr.1 ∙ cr.2 in
    let ex : get_or rays k [] ≡ x = get_or_default rays k [] x cx.1 ∙ cx.2 in
    elim (cases_eq i k) [
      | inl e ↦ sym ex ∙ ap (λ j. get_or rays j []) (sym e) ∙ er
      | inr ne ↦
          let w : ZeroWhere hs (get_or rays i []) (get_or rays k []) =
          subst (λ t. ZeroWhere hs t (get_or rays k [])) (sym er) (subst (ZeroWhere hs r) (sym ex) z) in
          let p = pruned n hs es lin rays i k d cr.1 cx.1 ne w in
          let t : List ℤ = get_or rays i [] in
          let ct : Contains rays t = (i, cr.1, get_or_default rays i t [] cr.1) in
          let m : Made n (remove rays i) lin t = p.complete t (d.rays_width t ct) (λ h c. d.valid.up h t c ct) (λ e c. d.solves e t c ct) in
          let rest : AreRows n (remove rays i) = all_by (λ t. length t ≡ n) (remove rays i) (λ t c. d.rays_width t (of_rest rays i t cr.1 c)) in
          absurd (s.minimal i cr.1 (made-generated n (remove rays i) lin t rest s.lin_width m))
    ]

all_zero_dot : (h x : List ℤ) → AllZero x → dot h x ≡ pos 0
all_zero_dot [] x z = refl
all_zero_dot (a ∷ h) [] z = refl
all_zero_dot (a ∷ h) (b ∷ x) z = rw (z.0, all_zero_dot h x z.1) (omega (arith, ints))

-- each ray of the one is a ray of the other
ray_member : (n : ℕ) (hs es lin rays others : List (List ℤ)) (r : List ℤ) → IsRays n hs es lin rays → IsRays n hs es lin others → Contains rays r →
    Contains others r
ray_member n hs es lin rays others r s t c =
    let d = described_of n hs es lin rays s in let e = described_of n hs es lin others t in
    let m = matched n hs es lin rays lin others r d e c (λ x cx z. alone_of n hs es lin rays r x s c cx z)
    (λ x y cx cy. All-contains (λ l. dot x l ≡ pos 0) lin y (All-contains (λ q. All (λ l. dot q l ≡ pos 0) lin) rays x s.orthogonal cx) cy)
    (λ x y cx cy. All-contains (λ l. dot x l ≡ pos 0) lin y (All-contains (λ q. All (λ l. dot q l ≡ pos 0) lin) others x t.orthogonal cx) cy) in
    let o : List ℤ = m.0 in let co = m.1.0 in let k = m.1.1 in
    let p = e.pointed o co in
    let q = d.pointed r c in
    let nz : AllZero r → ⊥ = λ z. let w : dot q.0 r ≡ pos 0 = all_zero_dot q.0 r z in let u = q.1.1 in omega (arith, ints, w, u) in
    elim (sign_of k.a) [
      | negative g ↦ let f = k.a_fits in absurd (omega (arith, ints, g, f))
      | none g ↦
          let w : k.k *ℤ dot p.0 o ≡ pos 0 = sym (dot-times_right k.k p.0 o) ∙ ap (dot p.0) k.is ∙ dot-times_right k.a p.0 r ∙ ap (λ z. z *ℤ dot p.0 r) g ∙
          omega (arith, ints) in
          let z : dot p.0 o ≡ pos 0 = zero-cancel k.k (dot p.0 o) k.k_positive w in let u = p.1.1 in absurd (omega (arith, ints, z, u))
      | positive g ↦
          let same_ray : o ≡ r = primitive_same r o k.k k.a k.k_positive g k.is (All-contains IsPrimitive rays r s.primitive c)
          (All-contains IsPrimitive others o t.primitive co) nz in
          subst (Contains others) same_ray co
    ]

pub less_never : (x y : List ℤ) → slice_cmp int_cmp x y ≡ Less → slice_cmp int_cmp y x ≡ Less → ⊥
less_never x y f g =
    let o = lists_total int_cmp_total in
    let a : slice_cmp int_cmp x x ≡ Less = o.trans x y x f g in
    let b : slice_cmp int_cmp x x ≡ Equal = tied_itself o x in
    let e : Less ≡ Equal = sym a ∙ b in absurd (search rules)

pub opposite_dot : (h v : List ℤ) → dot h (opposite v) ≡ neg_ℤ (dot h v)
opposite_dot h v = same (by h (dneg (dn 1) ⊡ vv v refl)) (dneg (by h (vv v refl))) (omega arith)

-- rays of the same rows
one_description : (n : ℕ) (hs es lin rays lines others : List (List ℤ)) → IsRays n hs es lin rays → IsRays n hs es lines others →
    (lin ≡ lines) × (rays ≡ others)
one_description n hs es lin rays lines others s t =
    let wl : (x : List ℤ) → Contains lin x → length x ≡ n = λ x c. All-contains (λ t. length t ≡ n) lin x s.lin_width c in
    let wo : (x : List ℤ) → Contains lines x → length x ≡ n = λ x c. All-contains (λ t. length t ≡ n) lines x t.lin_width c in
    let e : lin ≡ lines = one_basis n lin lines s.lin_width t.lin_width s.echelon t.echelon
    (λ v c. generated-made n [] lines v (no_widths n) t.lin_width
    ((t.spans v (wl v c)).0 ((s.spans v (wl v c)).1 (made-generated n [] lin v (no_widths n) s.lin_width (own_member n lin v (wl v c) c)))))
    (λ v c. generated-made n [] lin v (no_widths n) s.lin_width
    ((s.spans v (wo v c)).0 ((t.spans v (wo v c)).1 (made-generated n [] lines v (no_widths n) t.lin_width (own_member n lines v (wo v c) c))))) in
    let t2 : IsRays n hs es lin others = subst (λ l. IsRays n hs es l others) (sym e) t in (
      e,
      same_ordered (λ x y. slice_cmp int_cmp x y ≡ Less) rays others (λ x y cx cy f g. less_never x y f g) s.ascending t.ascending
          (λ r c. ray_member n hs es lin rays others r s t2 c) (λ r c. ray_member n hs es lin others rays r t2 s c),
    )

pub minus_up : (x y : ℤ) → y ≡ neg_ℤ x → pos 0 ≤ℤ x → pos 0 ≤ℤ y → x ≡ pos 0
minus_up x y e a b = omega (arith, ints, e, a, b)

pub zero_up : (x : ℤ) → x ≡ pos 0 → pos 0 ≤ℤ x
zero_up x e = omega (arith, ints, e)

pub minus_zero : (x y : ℤ) → y ≡ neg_ℤ x → x ≡ pos 0 → y ≡ pos 0
minus_zero x y e z = omega (arith, ints, e, z)

-- lineal for the one rows, lineal for the others
lineal_too : (n : ℕ) (c d : Rows) (v : List ℤ) → length v ≡ n → ((w : List ℤ) → length w ≡ n → IsInCone c w → IsInCone d w) →
    IsLineal c.inequalities c.equations v → IsLineal d.inequalities d.equations v
lineal_too n c d v l f s =
    let up : IsInCone d v = f v l (record { not_negative = λ k e h. zero_up _ (s.flat k e h); zero = s.zero }) in
    let down : IsInCone d (opposite v) = f (opposite v) (length-times (negsuc 0) v ∙ l)
    (record {
      not_negative = λ k e h. zero_up _ (minus_zero _ _ (opposite_dot (get_or c.inequalities k e) v) (s.flat k e h));
      zero = λ k e h. minus_zero _ _ (opposite_dot (get_or c.equations k e) v) (s.zero k e h);
    }) in
    record {
      flat = λ k e h. minus_up _ _ (opposite_dot (get_or d.inequalities k e) v) (up.not_negative k e h) (down.not_negative k e h);
      zero = up.zero;
    }

-- rays for other rows of the same cone
pub same_rays_of : (n : ℕ) (c d : Rows) (lin rays : List (List ℤ)) → SameCone n c d → IsRays n c.inequalities c.equations lin rays →
    IsRays n d.inequalities d.equations lin rays
same_rays_of n c d lin rays m r = record {
  lin_width = r.lin_width;
  echelon = r.echelon;
  spans = λ v l. (λ s. (r.spans v l).0 (lineal_too n d c v l (λ w lw. (m w lw).1) s), λ g. lineal_too n c d v l (λ w lw. (m w lw).0) ((r.spans v l).1 g));
  rays_width = r.rays_width;
  ascending = r.ascending;
  primitive = r.primitive;
  orthogonal = r.orthogonal;
  generates = λ v l. (λ s. (r.generates v l).0 ((m v l).1 s), λ g. (m v l).0 ((r.generates v l).1 g));
  minimal = r.minimal;
}

-- two cones that are one have one lineality basis and the same rays
pub rays_determined : (n : ℕ) (c d : Rows) (lin rays lines others : List (List ℤ)) → SameCone n c d → IsRays n c.inequalities c.equations lin rays →
    IsRays n d.inequalities d.equations lines others → (lin ≡ lines) × (rays ≡ others)
rays_determined n c d lin rays lines others m r s = one_description n d.inequalities d.equations lin rays lines others (same_rays_of n c d lin rays m r) s
