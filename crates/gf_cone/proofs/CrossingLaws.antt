-- Which normals a flip may cross, shown or refuted without the system.
-- To cite: solution_of_shown, beside_positive, solution_of_parts, interior_of_parts, not_crossable_sum, not_crossable_above, shown_next, sum_at, raised_at,
-- above_at, sum_by_entries, decided_flip, decided_crossing, negative_told, not_negative_told, small_read, width_read.
use Rattle.std.proofs.Common.{◌≡◌, ℕ, zero, suc, ◌<◌, List, [], ◌∷◌, ◌++◌, length, get_or, Contains, All, ℤ, pos, ◌+◌, ◌≤◌, ◌+ℤ◌, ◌*ℤ◌, ◌<ℤ◌, ◌≤ℤ◌, arith, refl}
use Rattle.std.proofs.Common.{sym, ap, ◌∙◌, subst, inl, inr, eqb, true, false, length-append}
use Rattle.std.proofs.lemmas.Int.{ints}
use Rattle.std.specs.Prelude.{◌↔◌, Bool, IsTrue, Option, Some, None, Result, Ok, Err, IfOk, IfSome, IsNone}
use Rattle.std.specs.declared.cmp.Ordering.{Ordering}
use Rattle.std.specs.declared.cmp.Ordering.TheVariants.{Less}
use Rattle.std.proofs.lemmas.Bool.{cases_lt, eq-eqb, ne_eqb, false≢true}
use Rattle.gf_facets_theory.specs.LexPositive.{IsNegative}
use Rattle.std.proofs.lemmas.List.{get_or_default, get_or-append-add}
use Rattle.std.proofs.Math.Seq.{get_or-append_seam}
use Rattle.std.proofs.Math.ListN.{get_or-append}
use Rattle.std.proofs.lemmas.List.Elements.{All-cons, All-nil, All-append, All-contains, Contains-append_right}
use Rattle.gf_int_theory.proofs.SignLaws.{0≤-*ℤ, 0<-*ℤ}
use Rattle.gf_int_theory.proofs.ListLaws.{Contains-here, all_by}
use Rattle.gf_vec.specs.Vector.{dot, vector_sum, zeros}
use Rattle.gf_vec.proofs.VectorLaws.{dot-plus}
use Rattle.gf_gordan.specs.Alternative.{AreRows, IsSolution}
use Rattle.gf_facets_theory.proofs.ListLaws.{Contains-there}
use Rattle.gf_facets_theory.specs.Normals.{others_of}
use Rattle.gf_facets_theory.specs.Systems.{unit, units}
use Rattle.gf_facets_theory.proofs.UnitLaws.{length-unit, positive_by_units, units_on_positive}
use Rattle.gf_cone.specs.Small.{IsSmall}
use Rattle.gf_cone.specs.Cones.{ConeRows, all_rows, normal_at, other_rows, HasUnits}
use Rattle.gf_cone.specs.Crossing.{IsShownBy, IsCrossable, IsFlipDecided, IsCrossingDecided}
use Rattle.gf_cone.proofs.AnswerLaws.{others-append, crossable_flippable, kept_in_all, row_read, length-units}

-- ---- the others of one, by indices

others_by : (P : List ℤ → Type 0) (vs : List (List ℤ)) (i : ℕ) → i < length vs → ((k : ℕ) → k < length vs → (k ≡ i → ⊥) → P (get_or vs k [])) →
    All P (others_of i vs)
others_by P [] i l h = absurd (omega (arith, l))
others_by P (x ∷ vs) zero l h = λ k d m. subst P (get_or_default vs k [] d m) (h (suc k) (omega (arith, m)) (λ e. omega (arith, e)))
others_by P (x ∷ vs) (suc i) l h = All-cons P x (others_of i vs) (h zero (omega arith) (λ e. omega (arith, e))) (others_by P vs i
    (omega (arith, l)) (λ k m n. h (suc k) (omega (arith, m)) (λ e. n (omega (arith, e)))))

others_at : (vs : List (List ℤ)) (i j : ℕ) → i < length vs → j < length vs → (j ≡ i → ⊥) → Contains (others_of i vs) (get_or vs j [])
others_at [] i j l m n = absurd (omega (arith, l))
others_at (x ∷ vs) zero zero l m n = absurd (n refl)
others_at (x ∷ vs) zero (suc j) l m n = (j, omega (arith, m), get_or_default vs j _ [] (omega (arith, m)))
others_at (x ∷ vs) (suc i) zero l m n = Contains-here x (others_of i vs)
others_at (x ∷ vs) (suc i) (suc j) l m n =
    Contains-there x (get_or vs j []) (others_of i vs) (others_at vs i j (omega (arith, l)) (omega (arith, m)) (λ e. n (ap suc e)))

pub in_all : (c : ConeRows) (i : ℕ) → i < length c.normals → i < length (all_rows c)
in_all c i l = front c.normals c.beside i l
  where
    front : (xs ys : List (List ℤ)) (i : ℕ) → i < length xs → i < length (xs ++ ys)
    front [] ys i l = absurd (omega (arith, l))
    front (x ∷ xs) ys zero l = omega arith
    front (x ∷ xs) ys (suc i) l = omega (arith, front xs ys i (omega (arith, l)))

read_all : (c : ConeRows) (i : ℕ) → i < length c.normals → get_or (all_rows c) i [] ≡ normal_at c i
read_all c i l = get_or-append c.normals c.beside [] i l

-- ---- a vector that shows that a flip may cross

pub solution_of_shown : (c : ConeRows) (i : ℕ) (w : List ℤ) → i < length c.normals → length w ≡ c.variables →
    ((k : ℕ) → k < length (all_rows c) → IsShownBy (all_rows c) i w k) → IsSolution c.variables (other_rows c i) (normal_at c i ∷ []) w
solution_of_shown c i w l e h = record {
  width = e;
  positive = subst (All (λ t. pos 0 <ℤ dot t w)) (others-append i c.normals c.beside l) (others_by (λ t. pos 0 <ℤ dot t w) (all_rows c) i (in_all c i l)
      (λ k m n. (h k m).positive n));
  zero = All-cons (λ t. dot t w ≡ pos 0) (normal_at c i) [] (subst (λ (t : List ℤ). dot t w ≡ pos 0) (read_all c i l) ((h i (in_all c i l)).zero refl))
      (All-nil (λ t. dot t w ≡ pos 0));
}

-- the rows of a region and the unit vectors are positive on a vector
pub beside_positive : (n : ℕ) (beside rows : List (List ℤ)) (w : List ℤ) → beside ≡ rows ++ units n n → length w ≡ n → All (λ x. pos 0 <ℤ x) w →
    All (λ t. pos 0 <ℤ dot t w) rows → All (λ t. pos 0 <ℤ dot t w) beside
beside_positive n beside rows w e l p h = subst (All (λ t. pos 0 <ℤ dot t w)) (sym e) (All-append (λ t. pos 0 <ℤ dot t w) rows (units n n) h
    (all_by (λ t. pos 0 <ℤ dot t w) (units n n) (units_on_positive n w l p)))

-- so are the normals but for one, and that is zero
pub solution_of_parts : (c : ConeRows) (i : ℕ) (w : List ℤ) (normals : List (List ℤ)) → normals ≡ c.normals → i < length c.normals → length w ≡ c.variables →
    All (λ t. pos 0 <ℤ dot t w) c.beside → ((k : ℕ) → k < length normals → IsShownBy normals i w k) →
    IsSolution c.variables (other_rows c i) (normal_at c i ∷ []) w
solution_of_parts c i w normals q l e b h = record {
  width = e;
  positive = All-append (λ t. pos 0 <ℤ dot t w) (others_of i c.normals) c.beside (others_by (λ t. pos 0 <ℤ dot t w) c.normals i l (λ k m n. (s k m).positive n))
      b;
  zero = All-cons (λ t. dot t w ≡ pos 0) (normal_at c i) [] ((s i l).zero refl) (All-nil (λ t. dot t w ≡ pos 0));
}
  where
    s : (k : ℕ) → k < length c.normals → IsShownBy c.normals i w k
    s = subst (λ (z : List (List ℤ)). (k : ℕ) → k < length z → IsShownBy z i w k) q h

-- or all of them
pub interior_of_parts : (c : ConeRows) (w : List ℤ) (normals : List (List ℤ)) → normals ≡ c.normals → length w ≡ c.variables →
    All (λ t. pos 0 <ℤ dot t w) c.beside → All (λ t. pos 0 <ℤ dot t w) normals → IsSolution c.variables (all_rows c) [] w
interior_of_parts c w normals q e b h = record {
  width = e;
  positive = All-append (λ t. pos 0 <ℤ dot t w) c.normals c.beside (subst (All (λ t. pos 0 <ℤ dot t w)) q h) b;
  zero = All-nil (λ t. dot t w ≡ pos 0);
}

-- ---- normals that no flip crosses

-- another row is positive on a solution
pub other_positive : (c : ConeRows) (i j : ℕ) (w : List ℤ) → i < length c.normals → j < length (all_rows c) → (j ≡ i → ⊥) →
    IsSolution c.variables (other_rows c i) (normal_at c i ∷ []) w → pos 0 <ℤ dot (get_or (all_rows c) j []) w
other_positive c i j w l m n s = All-contains (λ t. pos 0 <ℤ dot t w) (other_rows c i) (get_or (all_rows c) j []) s.positive
    (subst (λ (z : List (List ℤ)). Contains z (get_or (all_rows c) j [])) (others-append i c.normals c.beside l)
    (others_at (all_rows c) i j (in_all c i l) m n))

pub normal_zero : (c : ConeRows) (i : ℕ) (w : List ℤ) → IsSolution c.variables (other_rows c i) (normal_at c i ∷ []) w → dot (normal_at c i) w ≡ pos 0
normal_zero c i w s = s.zero 0 [] (omega arith)

-- a sum of two others
pub not_crossable_sum : (c : ConeRows) (i j k : ℕ) → i < length c.normals → j < length (all_rows c) → k < length (all_rows c) → (j ≡ i → ⊥) → (k ≡ i → ⊥) →
    length (get_or (all_rows c) j []) ≡ length (get_or (all_rows c) k []) →
    normal_at c i ≡ vector_sum (get_or (all_rows c) j []) (get_or (all_rows c) k []) → IsCrossable c i → ⊥
not_crossable_sum c i j k l lj lk nj nk e sum s =
    let pj : pos 0 <ℤ dot (get_or (all_rows c) j []) s.0 = other_positive c i j s.0 l lj nj s.1 in
    let pk : pos 0 <ℤ dot (get_or (all_rows c) k []) s.0 = other_positive c i k s.0 l lk nk s.1 in
    let z : dot (normal_at c i) s.0 ≡ pos 0 = normal_zero c i s.0 s.1 in
    let d : dot (normal_at c i) s.0 ≡ dot (get_or (all_rows c) j []) s.0 +ℤ dot (get_or (all_rows c) k []) s.0 =
    ap (λ (t : List ℤ). dot t s.0) sum ∙ dot-plus (get_or (all_rows c) j []) (get_or (all_rows c) k []) s.0 e in
    absurd (omega (arith, ints, pj, pk, z, d))

pub sum_by_entries : (a b c : List ℤ) → length b ≡ length a → length c ≡ length a →
    ((i : ℕ) → i < length a → get_or a i (pos 0) ≡ get_or b i (pos 0) +ℤ get_or c i (pos 0)) → a ≡ vector_sum b c
sum_by_entries [] [] c l m h = refl
sum_by_entries [] (y ∷ b) c l m h = absurd (omega (arith, l))
sum_by_entries (x ∷ a) [] c l m h = absurd (omega (arith, l))
sum_by_entries (x ∷ a) (y ∷ b) [] l m h = absurd (omega (arith, m))
sum_by_entries (x ∷ a) (y ∷ b) (z ∷ c) l m h =
    ap (λ t. t ∷ a) (h zero (omega arith)) ∙ ap (λ (t : List ℤ). (y +ℤ z) ∷ t) (sum_by_entries a b c (omega (arith, l)) (omega (arith, m)) (λ i k.
    h (suc i) (omega (arith, k))))

-- no entry negative
dot_low : (a w : List ℤ) → All (λ x. pos 0 ≤ℤ x) a → All (λ x. pos 0 <ℤ x) w → pos 0 ≤ℤ dot a w
dot_low [] w h p = omega (arith, ints)
dot_low (x ∷ a) [] h p = omega (arith, ints)
dot_low (x ∷ a) (y ∷ w) h p =
    let py : pos 0 <ℤ y = p zero (pos 0) (omega arith) in
    let px : pos 0 ≤ℤ (x *ℤ y) = 0≤-*ℤ x y (h zero (pos 0) (omega arith)) (omega (arith, ints, py)) in
    let r : pos 0 ≤ℤ dot a w = dot_low a w (λ k d m. h (suc k) d (omega (arith, m))) (λ k d m. p (suc k) d (omega (arith, m))) in
    omega (arith, ints, px, r)

dot_above : (a w : List ℤ) (i : ℕ) → length a ≡ length w → All (λ x. pos 0 ≤ℤ x) a → All (λ x. pos 0 <ℤ x) w → i < length a → pos 0 <ℤ get_or a i (pos 0) →
    pos 0 <ℤ dot a w
dot_above [] w i e h p l q = absurd (omega (arith, l))
dot_above (x ∷ a) [] i e h p l q = absurd (omega (arith, e))
dot_above (x ∷ a) (y ∷ w) zero e h p l q =
    let px : pos 0 <ℤ (x *ℤ y) = 0<-*ℤ x y q (p zero (pos 0) (omega arith)) in
    let r : pos 0 ≤ℤ dot a w = dot_low a w (λ k d m. h (suc k) d (omega (arith, m))) (λ k d m. p (suc k) d (omega (arith, m))) in
    omega (arith, ints, px, r)
dot_above (x ∷ a) (y ∷ w) (suc i) e h p l q =
    let py : pos 0 <ℤ y = p zero (pos 0) (omega arith) in
    let px : pos 0 ≤ℤ (x *ℤ y) = 0≤-*ℤ x y (h zero (pos 0) (omega arith)) (omega (arith, ints, py)) in
    let r : pos 0 <ℤ dot a w =
    dot_above a w i (omega (arith, e)) (λ k d m. h (suc k) d (omega (arith, m))) (λ k d m. p (suc k) d (omega (arith, m))) (omega (arith, l)) q in
    omega (arith, ints, px, r)

-- a solution is positive
solution_positive : (c : ConeRows) (i : ℕ) (w : List ℤ) → HasUnits c → IsSolution c.variables (other_rows c i) (normal_at c i ∷ []) w → All (λ x. pos 0 <ℤ x) w
solution_positive c i w u s = positive_by_units c.variables w s.width (λ t m. All-contains (λ t. pos 0 <ℤ dot t w) (other_rows c i) t s.positive
    (Contains-append_right (others_of i c.normals) c.beside t (u t m)))

-- a sum of unit vectors
pub not_crossable_above : (c : ConeRows) (i j : ℕ) (a : List ℤ) → HasUnits c → a ≡ normal_at c i → length (normal_at c i) ≡ c.variables →
    All (λ x. pos 0 ≤ℤ x) a → j < length a → pos 0 <ℤ get_or a j (pos 0) → IsCrossable c i → ⊥
not_crossable_above c i j a u e l h m p s =
    let z : dot (normal_at c i) s.0 ≡ pos 0 = normal_zero c i s.0 s.1 in
    let d : pos 0 <ℤ dot a s.0 = dot_above a s.0 j (ap (λ (t : List ℤ). length t) e ∙ l ∙ sym s.1.width) h (solution_positive c i s.0 u s.1) m p in
    absurd (omega (arith, ints, z, subst (λ (t : List ℤ). pos 0 <ℤ dot t s.0) e d))

-- ---- as a program asks

-- one vector more is as asked
pub shown_next : (vectors : List (List ℤ)) (index k : ℕ) (w v : List ℤ) → k < length vectors → v ≡ get_or vectors k v →
    (eqb k index ≡ true → dot v w ≡ pos 0) → (eqb k index ≡ false → pos 0 <ℤ dot v w) → IsShownBy vectors index w k
shown_next vectors index k w v l e z p =
    let r : v ≡ get_or vectors k [] = e ∙ get_or_default vectors k v [] l in
    record {
      zero = λ q. subst (λ (t : List ℤ). dot t w ≡ pos 0) r (z (eq-eqb k index q));
      positive = λ n. subst (λ (t : List ℤ). pos 0 <ℤ dot t w) r (p (ne_eqb k index n));
    }

-- where vectors are kept and the unit vectors stand behind them: two kept ones make the normal
pub sum_at : (c : ConeRows) (kept behind : List (List ℤ)) (i j k : ℕ) (a b d : List ℤ) → all_rows c ≡ kept ++ behind → AreRows c.variables kept →
    i < length c.normals → j < length kept → k < length kept → (j ≡ i → ⊥) → (k ≡ i → ⊥) → a ≡ normal_at c i → b ≡ get_or kept j b → d ≡ get_or kept k d →
    a ≡ vector_sum b d → IsCrossable c i → ⊥
sum_at c kept behind i j k a b d e wide l lj lk nj nk qa rb rd s x =
    let jl : j < length (all_rows c) = subst (λ (z : List (List ℤ)). j < length z) (sym e) (omega (arith, lj, length-append kept behind)) in
    let kl : k < length (all_rows c) = subst (λ (z : List (List ℤ)). k < length z) (sym e) (omega (arith, lk, length-append kept behind)) in
    let qb : b ≡ get_or (all_rows c) j [] = kept_in_all c kept behind j b e lj rb ∙ get_or_default (all_rows c) j b [] jl in
    let qd : d ≡ get_or (all_rows c) k [] = kept_in_all c kept behind k d e lk rd ∙ get_or_default (all_rows c) k d [] kl in
    let wb : length b ≡ c.variables = subst (λ (z : List ℤ). length z ≡ c.variables) (sym rb) (wide j b lj) in
    let wd : length d ≡ c.variables = subst (λ (z : List ℤ). length z ≡ c.variables) (sym rd) (wide k d lk) in
    not_crossable_sum c i j k l jl kl nj nk (sym (ap (λ (z : List ℤ). length z) qb) ∙ wb ∙ sym wd ∙ ap (λ (z : List ℤ). length z) qd)
    (sym qa ∙ s ∙ ap (λ (z : List ℤ). vector_sum z d) qb ∙ ap (λ (z : List ℤ). vector_sum (get_or (all_rows c) j []) z) qd) x

-- a unit vector at its index behind them
pub unit_in_all : (n i : ℕ) (kept : List (List ℤ)) → i < n → get_or (kept ++ units n n) (length kept + i) [] ≡ unit n i
unit_in_all n i kept l = get_or-append-add kept (units n n) i [] ∙ at n l
  where
    at : (k : ℕ) → i < k → get_or (units n k) i [] ≡ unit n i
    at zero m = absurd (omega (arith, m))
    at (suc k) m = elim (cases_lt i k) [
      | inl s ↦ get_or-append (units n k) (unit n k ∷ []) [] i (omega (arith, s, length-units n k)) ∙ at k s
      | inr g ↦ (
          let e : i ≡ k = omega (arith, m, g) in
          let f : i ≡ length (units n k) = omega (arith, e, length-units n k) in
          ap (λ (z : ℕ). get_or (units n k ++ unit n k ∷ []) z []) f ∙ get_or-append_seam (units n k) (unit n k) [] [] ∙ ap (unit n) (sym e)
          )
    ]

-- a kept one and a unit vector make the normal
pub raised_at : (c : ConeRows) (kept : List (List ℤ)) (i j u m : ℕ) (a b : List ℤ) → all_rows c ≡ kept ++ units c.variables c.variables →
    AreRows c.variables kept → length c.normals ≤ length kept → i < length c.normals → j < length kept → u < c.variables → (j ≡ i → ⊥) → m ≡ c.variables →
    a ≡ normal_at c i → b ≡ get_or kept j b → a ≡ vector_sum b (unit m u) → IsCrossable c i → ⊥
raised_at c kept i j u m a b e wide front l lj lu nj em qa rb s x =
    let jl : j < length (all_rows c) =
    subst (λ (z : List (List ℤ)). j < length z) (sym e) (omega (arith, lj, length-append kept (units c.variables c.variables))) in
    let ul : length kept + u < length (all_rows c) = subst (λ (z : List (List ℤ)). length kept + u < length z) (sym e)
    (omega (arith, lu, length-append kept (units c.variables c.variables), length-units c.variables c.variables)) in
    let qb : b ≡ get_or (all_rows c) j [] = kept_in_all c kept (units c.variables c.variables) j b e lj rb ∙ get_or_default (all_rows c) j b [] jl in
    let qu : unit m u ≡ get_or (all_rows c) (length kept + u) [] =
    ap (λ (z : ℕ). unit z u) em ∙ sym (unit_in_all c.variables u kept lu) ∙ ap (λ (z : List (List ℤ)). get_or z (length kept + u) []) (sym e) in
    let wb : length b ≡ c.variables = subst (λ (z : List ℤ). length z ≡ c.variables) (sym rb) (wide j b lj) in
    let wu : length (unit m u) ≡ c.variables = length-unit m u ∙ em in
    not_crossable_sum c i j (length kept + u) l jl ul nj (λ q. omega (arith, q, front, l)) (sym (ap (λ (z : List ℤ). length z) qb) ∙ wb ∙ sym wu ∙
    ap (λ (z : List ℤ). length z) qu)
    (sym qa ∙ s ∙ ap (λ (z : List ℤ). vector_sum z (unit m u)) qb ∙ ap (λ (z : List ℤ). vector_sum (get_or (all_rows c) j []) z) qu) x

-- the entries of a unit vector
zeros_entry : (n i : ℕ) → get_or (zeros n) i (pos 0) ≡ pos 0
zeros_entry zero i = refl
zeros_entry (suc n) zero = refl
zeros_entry (suc n) (suc i) = zeros_entry n i

pub unit_one : (n i k : ℕ) → k < n → k ≡ i → get_or (unit n i) k (pos 0) ≡ pos 1
unit_one zero i k l e = absurd (omega (arith, l))
unit_one (suc n) zero zero l e = refl
unit_one (suc n) zero (suc k) l e = absurd (omega (arith, e))
unit_one (suc n) (suc i) zero l e = absurd (omega (arith, e))
unit_one (suc n) (suc i) (suc k) l e = unit_one n i k (omega (arith, l)) (omega (arith, e))

pub unit_zero : (n i k : ℕ) → (k ≡ i → ⊥) → get_or (unit n i) k (pos 0) ≡ pos 0
unit_zero zero i k e = refl
unit_zero (suc n) zero zero e = absurd (e refl)
unit_zero (suc n) zero (suc k) e = zeros_entry n k
unit_zero (suc n) (suc i) zero e = refl
unit_zero (suc n) (suc i) (suc k) e = unit_zero n i k (λ q. e (ap suc q))

-- the normal at an index is above zero
pub above_at : (c : ConeRows) (kept : List (List ℤ)) (i j : ℕ) (a entries : List ℤ) → all_rows c ≡ kept ++ units c.variables c.variables →
    AreRows c.variables kept → length c.normals ≤ length kept → HasUnits c → i < length c.normals → a ≡ get_or kept i a → entries ≡ a →
    All (λ x. pos 0 ≤ℤ x) entries → j < length entries → pos 0 <ℤ get_or entries j (pos 0) → IsCrossable c i → ⊥
above_at c kept i j a entries e wide front u l ra re h m p x =
    let k : i < length kept = omega (arith, l, front) in
    let qa : a ≡ normal_at c i = row_read c kept (units c.variables c.variables) i a l e k ra in
    not_crossable_above c i j entries u (re ∙ qa) (ap (λ (t : List ℤ). length t) (sym qa ∙ ra) ∙ subst (λ (t : List ℤ). length t ≡ c.variables) refl
    (wide i a k)) h m p x

-- what is told of the system is told of the facet
pub decided_flip : (c : ConeRows) (i : ℕ) → i < length c.normals → (r : Bool) → (IsTrue r ↔ IsCrossable c i) → IsFlipDecided c i r
decided_flip c i l r h n k bs is =
    let e = crossable_flippable n k bs c i l is in
    (λ t. e.0 (h.0 t), λ f. h.1 (e.1 f))

-- the same of a vector that shows it, as it is looked for
pub decided_crossing : {E : Type 0} (c : ConeRows) (i : ℕ) → i < length c.normals → (r : Result (Option (List ℤ)) E) →
    IfOk r (λ o. IfSome o (IsSolution c.variables (other_rows c i) (normal_at c i ∷ []))) → IfOk r (λ o. IsNone o → IsCrossable c i → ⊥) →
    IfOk r (IsCrossingDecided c i)
decided_crossing c i l (Ok (Some w)) shown refuted = λ n k bs is. (crossable_flippable n k bs c i l is).0 (w, shown)
decided_crossing c i l (Ok None) shown refuted = λ n k bs is f. refuted refl ((crossable_flippable n k bs c i l is).1 f)
decided_crossing c i l (Err e) shown refuted = tt

-- the sign of the normal at an index
pub negative_told : (r : List ℤ) (c : ConeRows) (given : List (List ℤ)) (i : ℕ) (a : List ℤ) (o : Ordering) → given ≡ c.normals → i < length c.normals →
    a ≡ get_or given i a → (o ≡ Less) ↔ IsNegative r a → o ≡ Less → IsTrue true ↔ IsNegative r (normal_at c i)
negative_told r c given i a o e l ra t q =
    let qa : a ≡ normal_at c i = ra ∙ ap (λ (z : List (List ℤ)). get_or z i a) e ∙ get_or_default c.normals i a [] l in
    (λ _. subst (IsNegative r) qa (t.0 q), λ h. refl)

pub not_negative_told : (r : List ℤ) (c : ConeRows) (given : List (List ℤ)) (i : ℕ) (a : List ℤ) (o : Ordering) → given ≡ c.normals → i < length c.normals →
    a ≡ get_or given i a → (o ≡ Less) ↔ IsNegative r a → (o ≡ Less → ⊥) → IsTrue false ↔ IsNegative r (normal_at c i)
not_negative_told r c given i a o e l ra t q =
    let qa : a ≡ normal_at c i = ra ∙ ap (λ (z : List (List ℤ)). get_or z i a) e ∙ get_or_default c.normals i a [] l in
    (λ u. absurd (false≢true u), λ h. absurd (q (t.1 (subst (IsNegative r) (sym qa) h))))

-- the normal at an index is small
pub small_read : (c : ConeRows) (given : List (List ℤ)) (i : ℕ) (a : List ℤ) → given ≡ c.normals → All IsSmall given → i < length c.normals →
    a ≡ get_or given i a → IsSmall a
small_read c given i a e s l r = subst IsSmall (sym r) (s i a (subst (λ (z : List (List ℤ)). i < length z) (sym e) l))

-- and has the width of the cone
pub width_read : (c : ConeRows) (given : List (List ℤ)) (i : ℕ) (a : List ℤ) (n : ℕ) → given ≡ c.normals → AreRows c.variables given → i < length c.normals →
    a ≡ get_or given i a → n ≡ c.variables → length a ≡ n
width_read c given i a n e w l r q = subst (λ (z : List ℤ). length z ≡ n) (sym r) (w i a (subst (λ (z : List (List ℤ)). i < length z) (sym e) l) ∙ sym q)
