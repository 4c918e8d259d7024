-- Cones of patterns by rows: their meets are faces of both, and their faces are the closed cones of patterns.
use Rattle.std.proofs.Common.{◌≡◌, ℕ, zero, suc, List, [], ◌∷◌, length, ℤ, pos, ◌+ℤ◌, ◌-ℤ◌, ◌*ℤ◌, arith, sym, refl, ap, ◌∙◌, subst, Contains, ◌⊎◌, inl, inr}
use Rattle.std.proofs.lemmas.Int.{ints}
use Rattle.std.proofs.lemmas.List.Elements.{All-contains}
use Rattle.gf_int_theory.proofs.RingLaws.{same, dv, ◌⊗◌, ◌⊕◌, ◌⊖◌}
use Rattle.gf_int_theory.proofs.SignLaws.{equal_or_not}
use Rattle.gf_int_theory.proofs.ListLaws.{Contains-here, all_by}
use Rattle.gf_vec.specs.Vector.{dot}
use Rattle.gf_duality_theory.specs.Faces.{Rows, IsInCone, part, IsFaceOf}
use Rattle.gf_duality_theory.proofs.ListLaws.{none_in, in_tail, in_cons}
use Rattle.gf_fans_theory.specs.Fans.{meet, MeetInFaces}
use Rattle.gf_fans_theory.proofs.Meeting.{left_in, right_in}
use Rattle.gf_fans_theory.proofs.FanLaws.{both_in, part_in, of_part, face_same, meet_turned}
use Rattle.gf_patterns_theory.specs.Interiors.{IsRelativeInterior}
use Rattle.gf_patterns_theory.specs.Patterns.{IsHighest, HasPattern, ContainsPattern, IsClosedCone}
use Rattle.gf_patterns_theory.specs.PatternRows.{vector_difference}
use Rattle.gf_patterns_theory.proofs.MeetLaws.{flat_in, same_refl}
use Rattle.gf_patterns_theory.proofs.PatternLaws.{as_high, level, relative_keeps}

pub minus_long : (n : ℕ) (a g : List ℤ) → length a ≡ n → length g ≡ n → length (vector_difference a g) ≡ n
minus_long n [] g la lg = la
minus_long zero (x ∷ a) g la lg = absurd (omega (arith, la))
minus_long (suc n) (x ∷ a) [] la lg = absurd (omega (arith, lg))
minus_long (suc n) (x ∷ a) (y ∷ g) la lg = ap suc (minus_long n a g (omega (arith, la)) (omega (arith, lg)))

pub dot_minus : (a g u : List ℤ) → length a ≡ length g → dot (vector_difference a g) u ≡ dot a u -ℤ dot g u
dot_minus [] [] u l = refl
dot_minus [] (y ∷ g) u l = absurd (omega (arith, l))
dot_minus (x ∷ a) [] u l = absurd (omega (arith, l))
dot_minus (x ∷ a) (y ∷ g) [] l = refl
dot_minus (x ∷ a) (y ∷ g) (z ∷ u) l =
    ap (λ t. (x -ℤ y) *ℤ z +ℤ t) (dot_minus a g u (omega (arith, l)))
    ∙ same ((dv x ⊖ dv y) ⊗ dv z ⊕ (dv (dot a u) ⊖ dv (dot g u))) ((dv x ⊗ dv z ⊕ dv (dot a u)) ⊖ (dv y ⊗ dv z ⊕ dv (dot g u))) (omega arith)

-- the rows of c give the vectors whose pattern has all of S: differences of one member and other points
pub record IsRowsOf (n : ℕ) (A S : List (List ℤ)) (a : List ℤ) (c : Rows) : Type 0 where
  pub first : Contains S a
  pub inside : (s : List ℤ) → Contains S s → Contains A s
  pub wide : (b : List ℤ) → Contains A b → length b ≡ n
  pub same_as : (u : List ℤ) → length u ≡ n → (IsInCone c u → HasPattern A S u) × (HasPattern A S u → IsInCone c u)
  pub each : (h : List ℤ) → Contains c.inequalities h → (g : List ℤ) × (Contains A g × (h ≡ vector_difference a g))
  pub every : (g : List ℤ) → Contains A g → Contains S g ⊎ Contains c.inequalities (vector_difference a g)

-- what the row of a point gives
pub row_value : (n : ℕ) (A S : List (List ℤ)) (a : List ℤ) (c : Rows) (g u : List ℤ) → IsRowsOf n A S a c → Contains A g →
    dot (vector_difference a g) u ≡ dot a u -ℤ dot g u
row_value n A S a c g u r k = dot_minus a g u (r.wide a (r.inside a r.first) ∙ sym (r.wide g k))

-- each member of S is highest on the cone
pub top : (n : ℕ) (A S : List (List ℤ)) (a : List ℤ) (c : Rows) (s u : List ℤ) → IsRowsOf n A S a c → Contains S s → length u ≡ n → IsInCone c u →
    IsHighest A u s
top n A S a c s u r k lu iu = record { listed = r.inside s k; highest = λ b cb. (r.same_as u lu).0 iu s b k cb }

-- the rows of some points that are not members
record IsRowsAt (A S : List (List ℤ)) (a : List ℤ) (c : Rows) (P : List ℤ → Type 0) (T : List (List ℤ)) : Type 0 where
  rows : List (List ℤ)
  listed : (h : List ℤ) → Contains rows h → Contains c.inequalities h
  of : (h : List ℤ) → Contains rows h → (t : List ℤ) × (Contains T t × P t × (h ≡ vector_difference a t))
  all : (t : List ℤ) → Contains T t → P t → Contains S t ⊎ Contains rows (vector_difference a t)

rows_at : (A S : List (List ℤ)) (a : List ℤ) (c : Rows) (P : List ℤ → Type 0) (T : List (List ℤ)) → ((t : List ℤ) → Contains T t → P t ⊎ (P t → ⊥)) →
    ((t : List ℤ) → Contains T t → Contains S t ⊎ Contains c.inequalities (vector_difference a t)) → IsRowsAt A S a c P T
rows_at A S a c P [] dec f = record { rows = []; listed = λ h k. absurd (none_in h k); of = λ h k. absurd (none_in h k); all = λ t k p. absurd (none_in t k) }
rows_at A S a c P (t ∷ T) dec f =
    let r = rows_at A S a c P T (λ x k. dec x (in_tail t T x k)) (λ x k. f x (in_tail t T x k)) in
    let skip : (P t → Contains S t) → IsRowsAt A S a c P (t ∷ T) = λ g. record {
      rows = r.rows;
      listed = r.listed;
      of = λ h k. let o = r.of h k in (o.0, (in_tail t T o.0 o.1.0, o.1.1, o.1.2));
      all = λ x k p. elim (in_cons t T x k) [ inl e ↦ inl (subst (Contains S) (sym e) (g (subst P e p))) | inr i ↦ r.all x i p ];
    } in
    elim (dec t (Contains-here t T)) [
      | inr n ↦ skip (λ p. absurd (n p))
      | inl given ↦ elim (f t (Contains-here t T)) [
        | inl s ↦ skip (λ p. s)
        | inr i ↦ record {
          rows = vector_difference a t ∷ r.rows;
          listed = λ h k. elim (in_cons (vector_difference a t) r.rows h k) [ inl e ↦ subst (Contains c.inequalities) (sym e) i | inr j ↦ r.listed h j ];
          of = λ h k. elim (in_cons (vector_difference a t) r.rows h k) [
            | inl e ↦ (t, (Contains-here t T, given, e))
            | inr j ↦ let o = r.of h j in (o.0, (in_tail t T o.0 o.1.0, o.1.1, o.1.2))
          ];
          all = λ x k p. elim (in_cons t T x k) [
            | inl e ↦ inr (subst (λ z. Contains (vector_difference a t ∷ r.rows) (vector_difference a z)) (sym e)
                (Contains-here (vector_difference a t) r.rows))
            | inr j ↦ elim (r.all x j p) [ inl u ↦ inl u | inr u ↦ inr (in_tail (vector_difference a t) r.rows (vector_difference a x) u) ]
          ];
        }
      ]
    ]

-- the meet of the cones of S and T is a face of that of S
pub rows_face : (n : ℕ) (A S T : List (List ℤ)) (a b : List ℤ) (c d : Rows) → IsRowsOf n A S a c → IsRowsOf n A T b d → IsFaceOf n (meet c d) c
rows_face n A S T a b c d p q =
    let z = rows_at A S a c (λ t. Unit {0}) T (λ t k. inl tt) (λ t k. p.every t (q.inside t k)) in (
      z.rows,
      (
        all_by (Contains c.inequalities) z.rows z.listed,
        λ u lu. (
          (λ i.
              let iu = left_in c d u i in let ju = right_in c d u i in
              part_in c z.rows u iu (λ h k.
              let o = z.of h k in let t : List ℤ = o.0 in
              let e = row_value n A S a c t u p (q.inside t o.1.0) in
              let one = (p.same_as u lu).0 iu a t p.first (q.inside t o.1.0) in
              let two = (q.same_as u lu).0 ju t a o.1.0 (p.inside a p.first) in
              ap (λ y. dot y u) o.1.2 ∙ omega (arith, ints, e, one, two))),
          (λ i.
              let iu = of_part c z.rows u i in
              let has = (p.same_as u lu).0 iu in
              both_in c d u iu ((q.same_as u lu).1 (λ t g ct cg.
              let low = has a g p.first cg in
              elim (z.all t ct tt) [
                | inl s ↦ has t g s cg
                | inr y ↦ let e = row_value n A S a c t u p (q.inside t ct) in let zero_t =
                    flat_in c z.rows u i (vector_difference a t) y in omega (arith, ints, low, e, zero_t)
              ]))),
        ),
      ),
    )

pub rows_meet : (n : ℕ) (A S T : List (List ℤ)) (a b : List ℤ) (c d : Rows) → IsRowsOf n A S a c → IsRowsOf n A T b d → MeetInFaces n c d
rows_meet n A S T a b c d p q = (rows_face n A S T a b c d p q, face_same n (meet d c) (meet c d) d (meet_turned n d c) (rows_face n A T S b a d c q p))

pub one_list : (A B : List (List ℤ)) → Contains (A ∷ []) B → B ≡ A
one_list A B k = elim (in_cons A [] B k) [ inl e ↦ e | inr i ↦ absurd (none_in B i) ]

-- what keeps the pattern of w is in c, and zero where w is
kept_in : (n : ℕ) (A S : List (List ℤ)) (a w u : List ℤ) (c : Rows) → IsRowsOf n A S a c → length u ≡ n → ((s : List ℤ) → Contains S s → IsHighest A w s) →
    ContainsPattern A w u → IsInCone c u
kept_in n A S a w u c r lu hw k = (r.same_as u lu).1 (λ s b cs. (k s (hw s cs)).highest b)

kept_zero : (n : ℕ) (A S : List (List ℤ)) (a w u g : List ℤ) (c : Rows) → IsRowsOf n A S a c → IsHighest A w a → Contains A g → dot g w ≡ dot a w →
    ContainsPattern A w u → dot (vector_difference a g) u ≡ pos 0
kept_zero n A S a w u g c r hw cg e k =
    let v = row_value n A S a c g u r cg in
    let l = level A u a g (k a hw) (k g (as_high A w a g hw cg e)) in
    omega (arith, ints, v, l)

-- a face of the cone is the closed cone of each vector of its relative interior
pub face_closed : (n : ℕ) (A S : List (List ℤ)) (a w : List ℤ) (c f : Rows) → IsRowsOf n A S a c → IsFaceOf n f c → IsRelativeInterior n f w →
    IsClosedCone n (A ∷ []) w f
face_closed n A S a w c f r (zs, (listed, e)) i u lu =
    let of_c : (x : List ℤ) → length x ≡ n → IsInCone f x → IsInCone c x = λ x lx ix. of_part c zs x ((e x lx).0 ix) in
    let lw : length w ≡ n = i.width in
    let cw : IsInCone c w = of_c w lw i.inside in (
      (λ iu B k. subst (λ z. ContainsPattern z w u) (sym (one_list A B k))
          (relative_keeps n A f a w u (λ x lx ix. top n A S a c a x r r.first lx (of_c x lx ix)) i lu iu)),
      (λ g.
          let k = g A (Contains-here A []) in
          (e u lu).1 (part_in c zs u (kept_in n A S a w u c r lu (λ s cs. top n A S a c s w r cs lw cw) k) (λ h ch.
          let o = r.each h (All-contains (Contains c.inequalities) zs h listed ch) in
          let v = row_value n A S a c o.0 w r o.1.0 in
          let t : dot (vector_difference a o.0) w ≡ pos 0 = ap (λ y. dot y w) (sym o.1.1) ∙ flat_in c zs w ((e w lw).0 i.inside) h ch in
          ap (λ y. dot y u) o.1.1 ∙ kept_zero n A S a w u o.0 c r (top n A S a c a w r r.first lw cw) o.1.0 (omega (arith, ints, v, t)) k))),
    )

-- the closed cone of a pattern with all of S is a face of the cone of S
pub closed_face : (n : ℕ) (A S : List (List ℤ)) (a w : List ℤ) (c : Rows) → IsRowsOf n A S a c → ((s : List ℤ) → Contains S s → IsHighest A w s) →
    (f : Rows) × (IsFaceOf n f c × IsClosedCone n (A ∷ []) w f)
closed_face n A S a w c r hw =
    let z = rows_at A S a c (λ t. dot t w ≡ dot a w) A (λ t k. equal_or_not (dot t w) (dot a w)) r.every in
    let f : Rows = part c z.rows in (
      f,
      (
        (z.rows, (all_by (Contains c.inequalities) z.rows z.listed, same_refl n f)),
        λ u lu. (
          (λ iu B k. subst (λ y. ContainsPattern y w u) (sym (one_list A B k)) (λ s hs.
              let cu = of_part c z.rows u iu in
              elim (z.all s hs.listed (level A w a s (hw a r.first) hs)) [
                | inl cs ↦ top n A S a c s u r cs lu cu
                | inr y ↦ let v = row_value n A S a c s u r hs.listed in let t =
                    flat_in c z.rows u iu (vector_difference a s) y in as_high A u a s (top n A S a c a u r r.first lu cu) hs.listed (omega (arith, ints, v, t))
              ])),
          (λ g.
              let k = g A (Contains-here A []) in
              part_in c z.rows u (kept_in n A S a w u c r lu hw k) (λ h ch.
              let o = z.of h ch in ap (λ y. dot y u) o.1.2 ∙ kept_zero n A S a w u o.0 c r (hw a r.first) o.1.0 o.1.1 k)),
        ),
      ),
    )
