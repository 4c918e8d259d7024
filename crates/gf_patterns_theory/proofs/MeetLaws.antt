-- The faces of a meet of two cones are the meets of their faces. No rays, and no arithmetic.
use Rattle.std.proofs.Common.{◌≡◌, ℕ, List, [], ◌∷◌, ◌++◌, ℤ, pos, sym, subst, Contains, ◌⊎◌, inl, inr}
use Rattle.std.proofs.lemmas.List.Elements.{All-contains, Contains-append_left, Contains-append_right, Contains-append_cases}
use Rattle.gf_int_theory.proofs.ListLaws.{Contains-here, all_by}
use Rattle.gf_vec.specs.Vector.{dot}
use Rattle.gf_duality_theory.specs.Faces.{Rows, IsInCone, SameCone, part, IsFaceOf}
use Rattle.gf_duality_theory.proofs.ListLaws.{none_in, in_tail, in_cons}
use Rattle.gf_fans_theory.specs.Fans.{meet, MeetInFaces}
use Rattle.gf_fans_theory.proofs.Meeting.{left_in, right_in}
use Rattle.gf_fans_theory.proofs.FanLaws.{both_in, part_in, of_part, part_zero, own_face, face_same}

-- rows that are zero on a part of a cone
pub flat_in : (c : Rows) (flat : List (List ℤ)) (x : List ℤ) → IsInCone (part c flat) x → (t : List ℤ) → Contains flat t → dot t x ≡ pos 0
flat_in c flat x s t k = part_zero c flat x t s k

-- ---- the same cone

pub same_refl : (n : ℕ) (c : Rows) → SameCone n c c
same_refl n c x l = (λ s. s, λ s. s)

pub same_trans : (n : ℕ) (c d e : Rows) → SameCone n c d → SameCone n d e → SameCone n c e
same_trans n c d e p q x l = (λ s. (q x l).0 ((p x l).0 s), λ s. (p x l).1 ((q x l).1 s))

-- the meet of two meets, with the middle cones exchanged
pub meet_middle : (n : ℕ) (a b c d : Rows) → SameCone n (meet (meet a b) (meet c d)) (meet (meet a c) (meet b d))
meet_middle n a b c d x l =
    let turn : (p q r s : Rows) → IsInCone (meet (meet p q) (meet r s)) x → IsInCone (meet (meet p r) (meet q s)) x = λ p q r s i.
    let u = left_in (meet p q) (meet r s) x i in let v = right_in (meet p q) (meet r s) x i in
    both_in (meet p r) (meet q s) x (both_in p r x (left_in p q x u) (left_in r s x v)) (both_in q s x (right_in p q x u) (right_in r s x v)) in
    (turn a b c d, turn a c b d)

-- ---- faces

-- the meet of a face of c and a face of d is a face of their meet
pub face_meet : (n : ℕ) (f g c d : Rows) → IsFaceOf n f c → IsFaceOf n g d → IsFaceOf n (meet f g) (meet c d)
face_meet n f g c d a b =
    let zs : List (List ℤ) = a.0 in let ws : List (List ℤ) = b.0 in (
      zs ++ ws,
      (
        all_by (Contains (meet c d).inequalities) (zs ++ ws) (λ h k. elim (Contains-append_cases zs ws h k) [
          | inl i ↦ Contains-append_left c.inequalities d.inequalities h (All-contains (Contains c.inequalities) zs h a.1.0 i)
          | inr i ↦ Contains-append_right c.inequalities d.inequalities h (All-contains (Contains d.inequalities) ws h b.1.0 i)
        ]),
        λ x l. (
          (λ s.
              let u = (a.1.1 x l).0 (left_in f g x s) in let v = (b.1.1 x l).0 (right_in f g x s) in
              part_in (meet c d) (zs ++ ws) x (both_in c d x (of_part c zs x u) (of_part d ws x v))
              (λ h k. elim (Contains-append_cases zs ws h k) [ inl i ↦ flat_in c zs x u h i | inr i ↦ flat_in d ws x v h i ])),
          (λ s.
              let m = of_part (meet c d) (zs ++ ws) x s in let z = flat_in (meet c d) (zs ++ ws) x s in
              both_in f g x ((a.1.1 x l).1 (part_in c zs x (left_in c d x m) (λ h k. z h (Contains-append_left zs ws h k))))
              ((b.1.1 x l).1 (part_in d ws x (right_in c d x m) (λ h k. z h (Contains-append_right zs ws h k))))),
        ),
      ),
    )

-- rows of two lists, each by the list that has it
pub record IsParted (left_rows right_rows rows : List (List ℤ)) : Type 0 where
  pub left : List (List ℤ)
  pub right : List (List ℤ)
  pub of_left : (t : List ℤ) → Contains left t → Contains left_rows t × Contains rows t
  pub of_right : (t : List ℤ) → Contains right t → Contains right_rows t × Contains rows t
  pub all : (t : List ℤ) → Contains rows t → Contains left t ⊎ Contains right t

parted : (left_rows right_rows rows : List (List ℤ)) → ((t : List ℤ) → Contains rows t → Contains (left_rows ++ right_rows) t) →
    IsParted left_rows right_rows rows
parted left_rows right_rows [] f = record {
  left = [];
  right = [];
  of_left = λ t k. absurd (none_in t k);
  of_right = λ t k. absurd (none_in t k);
  all = λ t k. absurd (none_in t k);
}
parted left_rows right_rows (r ∷ rows) f =
    let p = parted left_rows right_rows rows (λ t k. f t (in_tail r rows t k)) in
    elim (Contains-append_cases left_rows right_rows r (f r (Contains-here r rows))) [
      | inl a ↦ record {
        left = r ∷ p.left;
        right = p.right;
        of_left = λ t k. elim (in_cons r p.left t k) [
          | inl e ↦ (subst (Contains left_rows) (sym e) a, subst (Contains (r ∷ rows)) (sym e) (Contains-here r rows))
          | inr i ↦ ((p.of_left t i).0, in_tail r rows t (p.of_left t i).1)
        ];
        of_right = λ t k. ((p.of_right t k).0, in_tail r rows t (p.of_right t k).1);
        all = λ t k. elim (in_cons r rows t k) [
          | inl e ↦ inl (subst (Contains (r ∷ p.left)) (sym e) (Contains-here r p.left))
          | inr i ↦ elim (p.all t i) [ inl u ↦ inl (in_tail r p.left t u) | inr u ↦ inr u ]
        ];
      }
      | inr b ↦ record {
        left = p.left;
        right = r ∷ p.right;
        of_left = λ t k. ((p.of_left t k).0, in_tail r rows t (p.of_left t k).1);
        of_right = λ t k. elim (in_cons r p.right t k) [
          | inl e ↦ (subst (Contains right_rows) (sym e) b, subst (Contains (r ∷ rows)) (sym e) (Contains-here r rows))
          | inr i ↦ ((p.of_right t i).0, in_tail r rows t (p.of_right t i).1)
        ];
        all = λ t k. elim (in_cons r rows t k) [
          | inl e ↦ inr (subst (Contains (r ∷ p.right)) (sym e) (Contains-here r p.right))
          | inr i ↦ elim (p.all t i) [ inl u ↦ inl u | inr u ↦ inr (in_tail r p.right t u) ]
        ];
      }
    ]

-- a face of a meet, as the meet of faces
pub record IsMeetOfTwo (n : ℕ) (c d f : Rows) : Type 0 where
  pub first : Rows
  pub second : Rows
  pub of_first : IsFaceOf n first c
  pub of_second : IsFaceOf n second d
  pub same : SameCone n f (meet first second)

pub face_of_meet : (n : ℕ) (c d f : Rows) → IsFaceOf n f (meet c d) → IsMeetOfTwo n c d f
face_of_meet n c d f k =
    let zs : List (List ℤ) = k.0 in
    let p = parted c.inequalities d.inequalities zs (λ t i. All-contains (Contains (meet c d).inequalities) zs t k.1.0 i) in
    record {
      first = part c p.left;
      second = part d p.right;
      of_first = (p.left, (all_by (Contains c.inequalities) p.left (λ t i. (p.of_left t i).0), same_refl n (part c p.left)));
      of_second = (p.right, (all_by (Contains d.inequalities) p.right (λ t i. (p.of_right t i).0), same_refl n (part d p.right)));
      same = λ x l. (
        (λ s.
            let u = (k.1.1 x l).0 s in let m = of_part (meet c d) zs x u in let z = flat_in (meet c d) zs x u in
            both_in (part c p.left) (part d p.right) x (part_in c p.left x (left_in c d x m) (λ t i. z t (p.of_left t i).1))
            (part_in d p.right x (right_in c d x m) (λ t i. z t (p.of_right t i).1))),
        (λ s.
            let u = left_in (part c p.left) (part d p.right) x s in let v = right_in (part c p.left) (part d p.right) x s in
            (k.1.1 x l).1 (part_in (meet c d) zs x (both_in c d x (of_part c p.left x u) (of_part d p.right x v))
            (λ t i. elim (p.all t i) [ inl a ↦ flat_in c p.left x u t a | inr b ↦ flat_in d p.right x v t b ]))),
      );
    }

-- ---- cones that meet in faces

pub meets_self : (n : ℕ) (c : Rows) → MeetInFaces n c c
meets_self n c =
    let e : SameCone n c (meet c c) = λ x l. (λ s. both_in c c x s s, λ s. left_in c c x s) in
    let f : IsFaceOf n (meet c c) c = face_same n c (meet c c) c e (own_face n c) in (f, f)

-- where c, c' meet in faces, and d, d', so do the meets of c, d and of c', d'
pub meets_meet : (n : ℕ) (c c' d d' : Rows) → MeetInFaces n c c' → MeetInFaces n d d' → MeetInFaces n (meet c d) (meet c' d')
meets_meet n c c' d d' p q =
    let e : SameCone n (meet (meet c c') (meet d d')) (meet (meet c d) (meet c' d')) = meet_middle n c c' d d' in (
      face_same n (meet (meet c c') (meet d d')) (meet (meet c d) (meet c' d')) (meet c d) e (face_meet n (meet c c') (meet d d') c d p.0 q.0),
      face_same n (meet (meet c c') (meet d d')) (meet (meet c d) (meet c' d')) (meet c' d') e (face_meet n (meet c c') (meet d d') c' d' p.1 q.1),
    )
