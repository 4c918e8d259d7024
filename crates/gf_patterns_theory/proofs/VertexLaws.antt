-- Each pattern has a vertex, and each pattern of two members has two of them.
use Rattle.std.proofs.Common.{◌≡◌, ◌≢◌, ℕ, List, [], ◌∷◌, length, ℤ, pos, ◌+ℤ◌, ◌-ℤ◌, ◌*ℤ◌, ◌<ℤ◌, ◌≤ℤ◌, arith, sym, ap, ◌∙◌, Contains, ◌⊎◌, inl, inr}
use Rattle.std.proofs.lemmas.Int.{ints}
use Rattle.gf_int_theory.proofs.RingLaws.{same, dv, ◌⊗◌, ◌⊖◌}
use Rattle.gf_int_theory.proofs.SignLaws.{sign_of, negative, none, positive, equal_or_not}
use Rattle.gf_int_theory.proofs.ListLaws.{Contains-here}
use Rattle.gf_vec.specs.Vector.{dot}
use Rattle.gf_vec.proofs.DotLaws.{vector_ext, own_not_negative, own_zero}
use Rattle.gf_vec.proofs.VectorLaws.{dot_comm, dot-zeros}
use Rattle.gf_duality_theory.proofs.ListLaws.{none_in, in_tail, in_cons}
use Rattle.gf_patterns_theory.specs.Interiors.{beyond}
use Rattle.gf_patterns_theory.specs.Patterns.{IsHighest, IsOnHypersurface}
use Rattle.gf_patterns_theory.specs.PatternRows.{vector_difference}
use Rattle.gf_patterns_theory.specs.Vertices.{IsVertex}
use Rattle.gf_patterns_theory.proofs.InteriorLaws.{beyond_vec, dot_beyond, bound_of, times_up}
use Rattle.gf_patterns_theory.proofs.PatternLaws.{as_high, level, highest_of}
use Rattle.gf_patterns_theory.proofs.RowLaws.{minus_long, dot_minus}

-- points are the same, or their difference tells them apart
apart : (n : ℕ) (t s : List ℤ) → length t ≡ n → length s ≡ n → (t ≡ s) ⊎ (dot s (vector_difference t s) <ℤ dot t (vector_difference t s))
apart n t s lt ls =
    let y : List ℤ = vector_difference t s in
    let e : dot y y ≡ dot t y -ℤ dot s y = dot_minus t s y (lt ∙ sym ls) in
    elim (sign_of (dot y y)) [
      | negative g ↦ let p = own_not_negative y in absurd (omega (arith, ints, g, p))
      | none g ↦ inl (vector_ext t s (lt ∙ sym ls) (λ u.
          let z : dot y u ≡ pos 0 = ap (λ x. dot x u) (own_zero y g) ∙ dot-zeros (length y) u in
          let d : dot y u ≡ dot t u -ℤ dot s u = dot_minus t s u (lt ∙ sym ls) in
          omega (arith, ints, z, d)))
      | positive g ↦ inr (omega (arith, ints, e, g))
    ]

-- the pattern at u has those members of the pattern at w that are lowest by y
record IsNarrowed (n : ℕ) (A : List (List ℤ)) (w y u : List ℤ) : Type 0 where
  wide : length u ≡ n
  kept : (s : List ℤ) → IsHighest A u s → IsHighest A w s
  low : (s t : List ℤ) → IsHighest A u s → IsHighest A w t → dot s y ≤ℤ dot t y

narrow : (n : ℕ) (A : List (List ℤ)) (w y : List ℤ) → length w ≡ n → length y ≡ n → (u : List ℤ) × IsNarrowed n A w y u
narrow n A w y lw ly =
    let b = bound_of A y in let m : ℤ = b.bound +ℤ b.bound +ℤ pos 1 in let bu = b.up in
    let u : List ℤ = beyond m w y in
    let high : (s t : List ℤ) → IsHighest A u s → Contains A t → (m *ℤ dot t w -ℤ dot t y) ≤ℤ (m *ℤ dot s w -ℤ dot s y) = λ s t h k.
    let g = h.highest t k in let p = dot_beyond n m t w y lw ly in let q = dot_beyond n m s w y lw ly in omega (arith, ints, g, p, q) in
    let kept : (s : List ℤ) → IsHighest A u s → IsHighest A w s = λ s h. record {
      listed = h.listed;
      highest = λ t k. elim (sign_of (dot t w -ℤ dot s w)) [
        | negative g ↦ omega (arith, ints, g)
        | none g ↦ omega (arith, ints, g)
        | positive g ↦
            let v = times_up m (dot t w -ℤ dot s w) (omega (arith, ints, bu)) g in
            let d : m *ℤ (dot t w -ℤ dot s w) ≡ m *ℤ dot t w -ℤ m *ℤ dot s w =
            same (dv m ⊗ (dv (dot t w) ⊖ dv (dot s w))) (dv m ⊗ dv (dot t w) ⊖ dv m ⊗ dv (dot s w)) (omega arith) in
            let up_t = b.above t k in let low_s = b.below s h.listed in let z = high s t h k in
            absurd (omega (arith, ints, v, d, up_t, low_s, z))
      ];
    } in (
      u,
      record {
        wide = (beyond_vec m w y lw ly).long;
        kept = kept;
        low = λ s t h k.
            let z = high s t h k.listed in
            let e : m *ℤ dot t w ≡ m *ℤ dot s w = ap (λ x. m *ℤ x) (level A w s t (kept s h) k) in
            omega (arith, ints, z, e);
      },
    )

-- a member of the pattern that is told apart from t, or each of these points that is a member is t
other : (n : ℕ) (A B : List (List ℤ)) (a t w : List ℤ) → ((x : List ℤ) → Contains A x → length x ≡ n) → length t ≡ n →
    ((x : List ℤ) → Contains B x → Contains A x) → IsHighest A w a →
    ((s : List ℤ) × (IsHighest A w s × (dot s (vector_difference t s) <ℤ dot t (vector_difference t s)))) ⊎ ((s : List ℤ) → Contains B s → IsHighest A w s →
    s ≡ t)
other n A [] a t w wide lt inside h = inr (λ s k hs. absurd (none_in s k))
other n A (x ∷ B) a t w wide lt inside h =
    let kx : Contains A x = inside x (Contains-here x B) in
    elim (other n A B a t w wide lt (λ z k. inside z (in_tail x B z k)) h) [
      | inl p ↦ inl p
      | inr rest ↦ elim (equal_or_not (dot x w) (dot a w)) [
        | inr unlike ↦ inr (λ s k hs. elim (in_cons x B s k) [ inl e ↦ absurd (unlike (ap (λ z. dot z w) (sym e) ∙ level A w a s h hs)) | inr i ↦ rest s i hs ])
        | inl alike ↦ elim (apart n t x lt (wide x kx)) [
          | inl e ↦ inr (λ s k hs. elim (in_cons x B s k) [ inl q ↦ q ∙ sym e | inr i ↦ rest s i hs ])
          | inr g ↦ inl (x, (as_high A w a x h kx alike, g))
        ]
      ]
    ]

-- each pattern has a vertex: T has all its members
vertex_among : (n : ℕ) (A T : List (List ℤ)) (w b : List ℤ) → ((x : List ℤ) → Contains A x → length x ≡ n) → length w ≡ n →
    ((x : List ℤ) → Contains T x → Contains A x) → ((s : List ℤ) → IsHighest A w s → Contains T s) → Contains A b →
    (a : List ℤ) × (IsHighest A w a × IsVertex n A a)
vertex_among n A [] w b wide lw inside all kb = let h = highest_of A w b kb in absurd (none_in h.0 (all h.0 h.1))
vertex_among n A (t ∷ T) w b wide lw inside all kb =
    let h = highest_of A w b kb in let a : List ℤ = h.0 in
    let kt : Contains A t = inside t (Contains-here t T) in let lt = wide t kt in
    let inner : (x : List ℤ) → Contains T x → Contains A x = λ x k. inside x (in_tail t T x k) in
    elim (equal_or_not (dot t w) (dot a w)) [
      | inr unlike ↦ vertex_among n A T w b wide lw inner (λ s hs. elim (in_cons t T s (all s hs)) [
        | inl e ↦ absurd (unlike (ap (λ z. dot z w) (sym e) ∙ level A w a s h.1 hs))
        | inr i ↦ i
      ]) kb
      | inl alike ↦
          let ht = as_high A w a t h.1 kt alike in
          elim (other n A A a t w wide lt (λ x k. k) h.1) [
            | inr only ↦ (
              t,
              (
                ht,
                record {
                  vector = w;
                  width = lw;
                  alone = λ x kx d. elim (equal_or_not (dot x w) (dot t w)) [
                    | inl e ↦ absurd (d (only x kx (as_high A w t x ht kx e)))
                    | inr unlike ↦ let g = ht.highest x kx in less_than (dot x w) (dot t w) g unlike
                  ];
                },
              ),
            )
            | inl p ↦
                let s : List ℤ = p.0 in let y : List ℤ = vector_difference t s in
                let r = narrow n A w y lw (minus_long n t s lt (wide s p.1.0.listed)) in let u : List ℤ = r.0 in
                let v = vertex_among n A T u b wide r.1.wide inner (λ x hx. elim (in_cons t T x (all x (r.1.kept x hx))) [
                  | inl e ↦
                      let g = r.1.low x s hx p.1.0 in let q : dot x y ≡ dot t y = ap (λ z. dot z y) e in let f = p.1.1 in
                      absurd (omega (arith, ints, g, q, f))
                  | inr i ↦ i
                ]) kb in
                (v.0, (r.1.kept v.0 v.1.0, v.1.1))
          ]
    ]
  where
    less_than : (x y : ℤ) → x ≤ℤ y → (x ≡ y → ⊥) → x <ℤ y
    less_than x y l unlike = elim (sign_of (x -ℤ y)) [
      | negative g ↦ omega (arith, ints, g)
      | none g ↦ absurd (unlike (omega (arith, ints, g)))
      | positive g ↦ absurd (omega (arith, ints, g, l))
    ]

pub vertex_of : (n : ℕ) (A : List (List ℤ)) (w b : List ℤ) → ((x : List ℤ) → Contains A x → length x ≡ n) → length w ≡ n → Contains A b →
    (a : List ℤ) × (IsHighest A w a × IsVertex n A a)
vertex_of n A w b wide lw kb = vertex_among n A A w b wide lw (λ x k. k) (λ s h. h.listed) kb

-- two vertices in one pattern
pub record HasTwoVertices (n : ℕ) (A : List (List ℤ)) (w : List ℤ) : Type 0 where
  pub one : List ℤ
  pub two : List ℤ
  pub other : one ≢ two
  pub first : IsHighest A w one
  pub second : IsHighest A w two
  pub first_vertex : IsVertex n A one
  pub second_vertex : IsVertex n A two

pub two_vertices : (n : ℕ) (A : List (List ℤ)) (w : List ℤ) → ((x : List ℤ) → Contains A x → length x ≡ n) → length w ≡ n → IsOnHypersurface A w →
    HasTwoVertices n A w
two_vertices n A w wide lw on =
    let a : List ℤ = on.one in let b : List ℤ = on.two in let la = wide a on.first.listed in let lb = wide b on.second.listed in
    let y : List ℤ = vector_difference a b in let z : List ℤ = vector_difference b a in
    let p = narrow n A w y lw (minus_long n a b la lb) in let q = narrow n A w z lw (minus_long n b a lb la) in
    let k = vertex_of n A p.0 a wide p.1.wide on.first.listed in let l = vertex_of n A q.0 a wide q.1.wide on.first.listed in
    let turned : (x : List ℤ) → dot x z ≡ pos 0 -ℤ dot x y = λ x.
    let e = dot_minus a b x (la ∙ sym lb) in let f = dot_minus b a x (lb ∙ sym la) in let g = dot_comm x y in let h =
    dot_comm x z in omega (arith, ints, e, f, g, h) in
    let low_k = p.1.low k.0 b k.1.0 on.second in let low_l = q.1.low l.0 a l.1.0 on.first in
    let tl = turned l.0 in let ta = turned a in
    record {
      one = k.0;
      two = l.0;
      other = λ e. elim (apart n a b la lb) [
        | inl same_points ↦ on.other same_points
        | inr g ↦ let d : dot k.0 y ≡ dot l.0 y = ap (λ x. dot x y) e in absurd (omega (arith, ints, g, d, low_k, low_l, tl, ta))
      ];
      first = p.1.kept k.0 k.1.0;
      second = q.1.kept l.0 l.1.0;
      first_vertex = k.1.1;
      second_vertex = l.1.1;
    }
