-- Patterns of several polynomials: their closed cones are the common refinement, and each vector is in the relative interior of one.
use Rattle.std.proofs.Common.{◌≡◌, ℕ, List, [], ◌∷◌, ◌++◌, length, ℤ, pos, ◌+ℤ◌, ◌-ℤ◌, ◌*ℤ◌, neg_ℤ, ◌≤ℤ◌, arith, ap, subst, Contains, inl, inr}
use Rattle.std.proofs.lemmas.Int.{ints}
use Rattle.std.proofs.lemmas.List.Elements.{Contains-append_left, Contains-append_right, Contains-append_cases}
use Rattle.gf_int_theory.proofs.RingLaws.{same, dv, ◌⊗◌, ◌⊖◌}
use Rattle.gf_int_theory.proofs.SignLaws.{sign_of, negative, none, positive}
use Rattle.gf_int_theory.proofs.ListLaws.{Contains-here}
use Rattle.gf_vec.specs.Vector.{dot}
use Rattle.gf_duality_theory.specs.Faces.{Rows, IsInCone, SameCone}
use Rattle.gf_duality_theory.proofs.ListLaws.{none_in, in_tail, in_cons}
use Rattle.gf_fans_theory.specs.Fans.{meet}
use Rattle.gf_fans_theory.proofs.Meeting.{left_in, right_in}
use Rattle.gf_fans_theory.proofs.FanLaws.{both_in}
use Rattle.gf_patterns_theory.specs.Refinements.{IsCommonRefinement}
use Rattle.gf_patterns_theory.specs.Interiors.{beyond, IsRelativeInterior, HaveInteriors, IsAloneAround}
use Rattle.gf_patterns_theory.specs.Patterns.{IsHighest, ContainsPattern, ContainsPatterns, IsClosedCone, IsOnPrevariety, IsAnywhere, ArePatternCones}
use Rattle.gf_patterns_theory.specs.Patterns.{HavePoints}
use Rattle.gf_patterns_theory.proofs.MeetLaws.{same_refl}
use Rattle.gf_patterns_theory.proofs.InteriorLaws.{beyond_vec, dot_beyond, bound_of, times_up}

-- a point as high as a highest one
pub as_high : (A : List (List ℤ)) (u a s : List ℤ) → IsHighest A u a → Contains A s → dot s u ≡ dot a u → IsHighest A u s
as_high A u a s h c e = record { listed = c; highest = λ b k. let g = h.highest b k in omega (arith, ints, g, e) }

pub level : (A : List (List ℤ)) (u a s : List ℤ) → IsHighest A u a → IsHighest A u s → dot s u ≡ dot a u
level A u a s h k = let f = h.highest s k.listed in let g = k.highest a h.listed in omega (arith, ints, f, g)

-- the greater of two values decides a highest point
pub highest_of : (A : List (List ℤ)) (u b : List ℤ) → Contains A b → (s : List ℤ) × IsHighest A u s
highest_of [] u b c = absurd (none_in b c)
highest_of (a ∷ []) u b c = (
  a,
  record {
    listed = Contains-here a [];
    highest = λ x k. elim (in_cons a [] x k) [ inl e ↦ let q = ap (λ z. dot z u) e in omega (arith, ints, q) | inr i ↦ absurd (none_in x i) ];
  },
)
highest_of (a ∷ d ∷ A) u b c =
    let r = highest_of (d ∷ A) u d (Contains-here d A) in let s : List ℤ = r.0 in let h = r.1 in
    let low : dot a u ≤ℤ dot s u → (t : List ℤ) × IsHighest (a ∷ d ∷ A) u t = λ l. (
      s,
      record {
        listed = in_tail a (d ∷ A) s h.listed;
        highest = λ x k. elim (in_cons a (d ∷ A) x k) [ inl e ↦ let q = ap (λ z. dot z u) e in omega (arith, ints, q, l) | inr i ↦ h.highest x i ];
      },
    ) in
    elim (sign_of (dot a u -ℤ dot s u)) [
      | positive g ↦ (
        a,
        record {
          listed = Contains-here a (d ∷ A);
          highest = λ x k. elim (in_cons a (d ∷ A) x k) [
            | inl e ↦ let q = ap (λ z. dot z u) e in omega (arith, ints, q)
            | inr i ↦ let l = h.highest x i in omega (arith, ints, g, l)
          ];
        },
      )
      | none g ↦ low (omega (arith, ints, g))
      | negative g ↦ low (omega (arith, ints, g))
    ]

-- where a is highest all over the cone, its vectors keep the pattern of a vector of the relative interior
pub relative_keeps : (n : ℕ) (A : List (List ℤ)) (f : Rows) (a w u : List ℤ) → ((x : List ℤ) → length x ≡ n → IsInCone f x → IsHighest A x a) →
    IsRelativeInterior n f w → length u ≡ n → IsInCone f u → ContainsPattern A w u
relative_keeps n A f a w u top i lu iu s h =
    let r = i.past u lu iu in let k : ℤ = r.0 in
    let one : dot s w ≡ dot a w = level A w a s (top w i.width i.inside) h in
    let two = (top u lu iu).highest s h.listed in
    let three = (top (beyond k w u) (beyond_vec k w u i.width lu).long r.1).highest s h.listed in
    let p = dot_beyond n k s w u i.width lu in
    let q = dot_beyond n k a w u i.width lu in
    let four : k *ℤ dot s w ≡ k *ℤ dot a w = ap (λ z. k *ℤ z) one in
    as_high A u a s (top u lu iu) h.listed (omega (arith, ints, two, three, p, q, four))

-- where f is the closed cone of v, it is that of each vector of its relative interior
pub relative_closed : (n : ℕ) (As : List (List (List ℤ))) (f : Rows) (v w : List ℤ) → HavePoints As → length v ≡ n → IsClosedCone n As v f →
    IsRelativeInterior n f w → IsClosedCone n As w f
relative_closed n As f v w some lv cl i u lu = (
  (λ iu A k.
      let b = some A k in let t = highest_of A v b.0 b.1 in
      relative_keeps n A f t.0 w u (λ x lx ix. (cl x lx).0 ix A k t.0 t.1) i lu iu),
  (λ g. (cl u lu).1 (λ A k s h. g A k s ((cl w i.width).0 i.inside A k s h))),
)

-- a bound for the points of all lists
record IsBoundOfAll (As : List (List (List ℤ))) (u : List ℤ) : Type 0 where
  bound : ℤ
  up : pos 0 ≤ℤ bound
  above : (A : List (List ℤ)) (h : List ℤ) → Contains As A → Contains A h → dot h u ≤ℤ bound
  below : (A : List (List ℤ)) (h : List ℤ) → Contains As A → Contains A h → neg_ℤ bound ≤ℤ dot h u

bound_of_all : (As : List (List (List ℤ))) (u : List ℤ) → IsBoundOfAll As u
bound_of_all [] u = record { bound = pos 0; up = omega (arith, ints); above = λ A h k. absurd (none_in A k); below = λ A h k. absurd (none_in A k) }
bound_of_all (B ∷ As) u =
    let b = bound_of B u in let r = bound_of_all As u in let p = b.up in let q = r.up in
    record {
      bound = b.bound +ℤ r.bound;
      up = omega (arith, ints, p, q);
      above = λ A h k l. elim (in_cons B As A k) [
        | inl e ↦ let g = b.above h (subst (λ z. Contains z h) e l) in omega (arith, ints, g, q)
        | inr i ↦ let g = r.above A h i l in omega (arith, ints, g, p)
      ];
      below = λ A h k l. elim (in_cons B As A k) [
        | inl e ↦ let g = b.below h (subst (λ z. Contains z h) e l) in omega (arith, ints, g, q)
        | inr i ↦ let g = r.below A h i l in omega (arith, ints, g, p)
      ];
    }

-- each vector is in the relative interior of its own closed cone
pub own_relative : (n : ℕ) (As : List (List (List ℤ))) (f : Rows) (w : List ℤ) → length w ≡ n → IsClosedCone n As w f → IsRelativeInterior n f w
own_relative n As f w lw cl = record {
  width = lw;
  inside = (cl w lw).1 (λ A k s h. h);
  past = λ u lu iu.
      let b = bound_of_all As u in let m : ℤ = b.bound +ℤ b.bound in let bu = b.up in (
        m,
        (cl (beyond m w u) (beyond_vec m w u lw lu).long).1 (λ A k s h. record {
          listed = h.listed;
          highest = λ g cg.
              let p = dot_beyond n m s w u lw lu in let q = dot_beyond n m g w u lw lu in
              let keep = (cl u lu).0 iu A k in
              let lower = h.highest g cg in
              elim (sign_of (dot s w -ℤ dot g w)) [
                | negative z ↦ absurd (omega (arith, ints, z, lower))
                | none z ↦
                    let e : dot g w ≡ dot s w = omega (arith, ints, z) in
                    let hg = keep g (as_high A w s g h cg e) in
                    let l = level A u s g (keep s h) hg in
                    let t : m *ℤ dot g w ≡ m *ℤ dot s w = ap (λ z. m *ℤ z) e in
                    omega (arith, ints, p, q, l, t)
                | positive z ↦
                    let t = times_up m (dot s w -ℤ dot g w) (omega (arith, ints, bu)) z in
                    let d : m *ℤ (dot s w -ℤ dot g w) ≡ m *ℤ dot s w -ℤ m *ℤ dot g w =
                    same (dv m ⊗ (dv (dot s w) ⊖ dv (dot g w))) (dv m ⊗ dv (dot s w) ⊖ dv m ⊗ dv (dot g w)) (omega arith) in
                    let up_s = b.above A s k h.listed in let low_g = b.below A g k cg in
                    omega (arith, ints, p, q, t, d, up_s, low_g)
              ];
        }),
      );
}

-- closed cones of the same vector are the same
pub closed_same : (n : ℕ) (As : List (List (List ℤ))) (f g : Rows) (w : List ℤ) → IsClosedCone n As w f → IsClosedCone n As w g → SameCone n f g
closed_same n As f g w a b u lu = (λ i. (b u lu).1 ((a u lu).0 i), λ i. (a u lu).1 ((b u lu).0 i))

-- each vector that is admitted is in the relative interior of exactly one cone, the closed cone of its own pattern
pub own_alone : (Admitted : List (List (List ℤ)) → List ℤ → Type 0) (n : ℕ) (As : List (List (List ℤ))) (cones : List Rows) (w : List ℤ) →
    ArePatternCones Admitted n As cones → HavePoints As → length w ≡ n → Admitted As w → (f : Rows) × (IsClosedCone n As w f × IsAloneAround n cones w f)
own_alone Admitted n As cones w p some lw ad =
    let r = p.every w lw ad in let f : Rows = r.0 in (
      f,
      (
        r.1.1,
        record {
          face = r.1.0;
          interior = own_relative n As f w lw r.1.1;
          alone = λ g c i. let o = p.each g c in closed_same n As f g w r.1.1 (relative_closed n As g o.vector w some o.width o.closed i);
        },
      ),
    )

-- what is admitted of two lists together
pub record IsAdmission (Admitted : List (List (List ℤ)) → List ℤ → Type 0) : Type 0 where
  pub left : (As Bs : List (List (List ℤ))) (w : List ℤ) → Admitted (As ++ Bs) w → Admitted As w
  pub right : (As Bs : List (List (List ℤ))) (w : List ℤ) → Admitted (As ++ Bs) w → Admitted Bs w
  pub both : (As Bs : List (List (List ℤ))) (w : List ℤ) → Admitted As w → Admitted Bs w → Admitted (As ++ Bs) w
  pub kept : (As : List (List (List ℤ))) (w u : List ℤ) → Admitted As w → ContainsPatterns As w u → Admitted As u

pub anywhere : IsAdmission IsAnywhere
anywhere = record { left = λ As Bs w h. tt; right = λ As Bs w h. tt; both = λ As Bs w h k. tt; kept = λ As w u h k. tt }

pub on_prevariety : IsAdmission IsOnPrevariety
on_prevariety = record {
  left = λ As Bs w h A k. h A (Contains-append_left As Bs A k);
  right = λ As Bs w h A k. h A (Contains-append_right As Bs A k);
  both = λ As Bs w f g A k. elim (Contains-append_cases As Bs A k) [ inl a ↦ f A a | inr b ↦ g A b ];
  kept = λ As w u h k A c. let o = h A c in record { one = o.one; two = o.two; other = o.other; first = k A c o.one o.first; second = k A c o.two o.second };
}

-- the common refinement of the fans of two lists of polynomials is the fan of both together
pub refined_patterns : (Admitted : List (List (List ℤ)) → List ℤ → Type 0) (n : ℕ) (As Bs : List (List (List ℤ))) (cs ds es : List Rows) →
    IsAdmission Admitted → HavePoints As → HavePoints Bs → ArePatternCones Admitted n As cs → ArePatternCones Admitted n Bs ds → IsCommonRefinement n cs ds es →
    HaveInteriors n es → ArePatternCones Admitted n (As ++ Bs) es
refined_patterns Admitted n As Bs cs ds es ad some_a some_b p q r inner = record {
  each = λ f c.
      let m = (r f).0 c in let i = inner f c in let w : List ℤ = i.0 in let lw = i.1.width in
      let a = p.each m.first m.of_first in let b = q.each m.second m.of_second in
      let iw = (m.same w lw).0 i.1.inside in
      let in_a = left_in m.first m.second w iw in let in_b = right_in m.first m.second w iw in
      let keep_a : ContainsPatterns As a.vector w = (a.closed w lw).0 in_a in
      let keep_b : ContainsPatterns Bs b.vector w = (b.closed w lw).0 in_b in
      record {
        vector = w;
        width = lw;
        admitted = ad.both As Bs w (ad.kept As a.vector w a.admitted keep_a) (ad.kept Bs b.vector w b.admitted keep_b);
        closed = λ u lu. (
          (λ iu A k.
              let at_a : (x : List ℤ) → length x ≡ n → IsInCone f x → ContainsPatterns As a.vector x =
              λ x lx ix. (a.closed x lx).0 (left_in m.first m.second x ((m.same x lx).0 ix)) in
              let at_b : (x : List ℤ) → length x ≡ n → IsInCone f x → ContainsPatterns Bs b.vector x =
              λ x lx ix. (b.closed x lx).0 (right_in m.first m.second x ((m.same x lx).0 ix)) in
              elim (Contains-append_cases As Bs A k) [
                | inl ka ↦ let s = some_a A ka in let t = highest_of A a.vector s.0 s.1 in relative_keeps n A f t.0 w u (λ x lx ix. at_a x lx ix A ka t.0 t.1)
                    i.1 lu iu
                | inr kb ↦ let s = some_b A kb in let t = highest_of A b.vector s.0 s.1 in relative_keeps n A f t.0 w u (λ x lx ix. at_b x lx ix A kb t.0 t.1)
                    i.1 lu iu
              ]),
          (λ g.
              (m.same u lu).1 (both_in m.first m.second u
              ((a.closed u lu).1 (λ A k s h. g A (Contains-append_left As Bs A k) s (keep_a A k s h)))
              ((b.closed u lu).1 (λ A k s h. g A (Contains-append_right As Bs A k) s (keep_b A k s h))))),
        );
      };
  every = λ w lw h.
      let a = p.every w lw (ad.left As Bs w h) in let b = q.every w lw (ad.right As Bs w h) in
      let f : Rows = meet a.0 b.0 in (
        f,
        (
          (r f).1 (record { first = a.0; second = b.0; of_first = a.1.0; of_second = b.1.0; same = same_refl n f }),
          λ u lu. (
            (λ iu A k. elim (Contains-append_cases As Bs A k) [
              | inl ka ↦ (a.1.1 u lu).0 (left_in a.0 b.0 u iu) A ka
              | inr kb ↦ (b.1.1 u lu).0 (right_in a.0 b.0 u iu) A kb
            ]),
            (λ g. both_in a.0 b.0 u ((a.1.1 u lu).1 (λ A k. g A (Contains-append_left As Bs A k)))
                ((b.1.1 u lu).1 (λ A k. g A (Contains-append_right As Bs A k)))),
          ),
        ),
      );
}
