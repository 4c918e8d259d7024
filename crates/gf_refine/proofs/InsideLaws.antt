-- Cones inside one another by their rays, and meets of them.
use Rattle.std.proofs.Common.{◌≡◌, ℕ, ◌+◌, ◌<◌, ◌≤ℤ◌, List, [], ◌∷◌, ◌++◌, length, take, get_or, ℤ, pos, sym, ap, ◌∙◌, subst, inl, inr, All}
use Rattle.std.proofs.lemmas.List.{take_more}
use Rattle.std.proofs.lemmas.List.Elements.{All-contains}
use Rattle.gf_int_theory.proofs.ListLaws.{Contains-last, all_by}
use Rattle.gf_vec.specs.Vector.{dot}
use Rattle.gf_duality_theory.specs.Faces.{Rows, IsFaceOf}
use Rattle.gf_duality_theory.specs.Rays.{IsRays}
use Rattle.gf_duality_theory.proofs.Determined.{described_of}
use Rattle.gf_duality_theory.proofs.ListLaws.{none_in}
use Rattle.gf_duality_theory.proofs.Made.{Made-dot, Made-dot_zero}
use Rattle.gf_fans_theory.specs.Fans.{meet, MeetInFaces}
use Rattle.gf_fans_theory.proofs.FanLaws.{is_in, up_in, zero_in, both_in, face_same}
use Rattle.gf_fans_theory.proofs.Meeting.{left_in, right_in}
use Rattle.gf_rays.specs.Cones.{RowsAndRays, rows_of}
use Rattle.gf_refine.specs.Inside.{LiesInside, AreUpOn, AreZeroOn}

-- ---- by rays

pub rays_inside : (n : ℕ) (c : RowsAndRays) (d : Rows) → IsRays n c.inequalities c.equations c.lineality c.rays → AreUpOn d.inequalities c.rays c.lineality →
    AreZeroOn d.equations c.rays c.lineality → LiesInside n (rows_of c) d
rays_inside n c d r u z v l i =
    let w = (described_of n c.inequalities c.equations c.lineality c.rays r).complete v l (λ h k. up_in (rows_of c) v h i k)
    (λ e k. zero_in (rows_of c) v e i k) in
    is_in d v (λ h k. Made-dot n c.rays c.lineality h v (λ x j. u.up h x k j) (λ x j. u.flat h x k j) w)
    (λ e k. Made-dot_zero n c.rays c.lineality e v (λ x j. z.rays_flat e x k j) (λ x j. z.flat e x k j) w)

pub up_none : (rays lin : List (List ℤ)) → AreUpOn [] rays lin
up_none rays lin = record { up = λ h x c. absurd (none_in h c); flat = λ h x c. absurd (none_in h c) }

pub up_more : (rows rays lin : List (List ℤ)) (h : List ℤ) (k : ℕ) → k < length rows → h ≡ get_or rows k h → All (λ x. pos 0 ≤ℤ dot h x) rays →
    All (λ x. dot h x ≡ pos 0) lin → AreUpOn (take k rows) rays lin → AreUpOn (take (k + 1) rows) rays lin
up_more rows rays lin h k l e u f a =
    let t : take (k + 1) rows ≡ take k rows ++ h ∷ [] = take_more rows k h l ∙ ap (λ z. take k rows ++ z ∷ []) (sym e) in
    subst (λ z. AreUpOn z rays lin) (sym t) (record {
      up = λ g x c j. elim (Contains-last (take k rows) h g c) [
        | inl i ↦ a.up g x i j
        | inr q ↦ subst (λ z. pos 0 ≤ℤ dot z x) (sym q) (All-contains (λ x. pos 0 ≤ℤ dot h x) rays x u j)
      ];
      flat = λ g x c j. elim (Contains-last (take k rows) h g c) [
        | inl i ↦ a.flat g x i j
        | inr q ↦ subst (λ z. dot z x ≡ pos 0) (sym q) (All-contains (λ x. dot h x ≡ pos 0) lin x f j)
      ];
    })

pub zero_none : (rays lin : List (List ℤ)) → AreZeroOn [] rays lin
zero_none rays lin = record { rays_flat = λ h x c. absurd (none_in h c); flat = λ h x c. absurd (none_in h c) }

pub zero_more : (rows rays lin : List (List ℤ)) (h : List ℤ) (k : ℕ) → k < length rows → h ≡ get_or rows k h → All (λ x. dot h x ≡ pos 0) rays →
    All (λ x. dot h x ≡ pos 0) lin → AreZeroOn (take k rows) rays lin → AreZeroOn (take (k + 1) rows) rays lin
zero_more rows rays lin h k l e u f a =
    let t : take (k + 1) rows ≡ take k rows ++ h ∷ [] = take_more rows k h l ∙ ap (λ z. take k rows ++ z ∷ []) (sym e) in
    subst (λ z. AreZeroOn z rays lin) (sym t) (record {
      rays_flat = λ g x c j. elim (Contains-last (take k rows) h g c) [
        | inl i ↦ a.rays_flat g x i j
        | inr q ↦ subst (λ z. dot z x ≡ pos 0) (sym q) (All-contains (λ x. dot h x ≡ pos 0) rays x u j)
      ];
      flat = λ g x c j. elim (Contains-last (take k rows) h g c) [
        | inl i ↦ a.flat g x i j
        | inr q ↦ subst (λ z. dot z x ≡ pos 0) (sym q) (All-contains (λ x. dot h x ≡ pos 0) lin x f j)
      ];
    })

-- what holds of all so far, one further
pub all_more : (P : List ℤ → Type 0) (xs : List (List ℤ)) (x : List ℤ) (k : ℕ) → k < length xs → x ≡ get_or xs k x → P x → All P (take k xs) →
    All P (take (k + 1) xs)
all_more P xs x k l e p a = subst (All P) (sym (take_more xs k x l ∙ ap (λ z. take k xs ++ z ∷ []) (sym e)))
    (all_by P (take k xs ++ x ∷ []) (λ y c. elim (Contains-last (take k xs) x y c) [
      | inl i ↦ All-contains P (take k xs) y a i
      | inr q ↦ subst P (sym q) p
    ]))

pub up_as : {rows others rays vectors lin lines : List (List ℤ)} → rows ≡ others → rays ≡ vectors → lin ≡ lines → AreUpOn rows rays lin →
    AreUpOn others vectors lines
up_as {rows} {others} {rays} {vectors} {lin} {lines} e f g u =
    subst (AreUpOn others vectors) g (subst (λ z. AreUpOn others z lin) f (subst (λ z. AreUpOn z rays lin) e u))

pub zero_as : {rows others rays vectors lin lines : List (List ℤ)} → rows ≡ others → rays ≡ vectors → lin ≡ lines → AreZeroOn rows rays lin →
    AreZeroOn others vectors lines
zero_as {rows} {others} {rays} {vectors} {lin} {lines} e f g u =
    subst (AreZeroOn others vectors) g (subst (λ z. AreZeroOn others z lin) f (subst (λ z. AreZeroOn z rays lin) e u))

pub row_long : (n k : ℕ) (rows : List (List ℤ)) (h : List ℤ) → k < length rows → h ≡ get_or rows k h → All (λ t. length t ≡ n) rows → length h ≡ n
row_long n k rows h l e w = ap length e ∙ w k h l

-- ---- meets inside one another

-- a meet inside another one is a face of it, where they meet in faces
pub inside_face_of : (n : ℕ) (p q : Rows) → LiesInside n p q → MeetInFaces n p q → IsFaceOf n p q
inside_face_of n p q i m = face_same n (meet p q) p q (λ v l. (λ s. left_in p q v s, λ s. both_in p q v s (i v l s))) m.1

-- what is in both is in a cone that holds the one, and in the other
pub second_wider : (n : ℕ) (c d b : Rows) → LiesInside n c b → LiesInside n (meet c d) (meet c b)
second_wider n c d b i v l s = both_in c b v (left_in c d v s) (i v l (left_in c d v s))

pub first_wider : (n : ℕ) (c d a : Rows) → LiesInside n d a → LiesInside n (meet c d) (meet a d)
first_wider n c d a i v l s = both_in a d v (i v l (right_in c d v s)) (right_in c d v s)
