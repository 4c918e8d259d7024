-- Answers about a normal: what an answer tells of the cone.
-- To cite: others-append, flip_told, facet_told, crossable_flippable, cone_of, kept_of, kept_all, kept_front, kept_wide, kept_rows, positive_for,
-- answer_for, row_read, given_rows_are, given_rows_all, IfOk-weaker.
use Rattle.std.proofs.Common.{◌≡◌, ◌⊎◌, ℕ, zero, suc, ◌<◌, ◌≤◌, ◌↔◌, Result, Ok, Err, IfOk, take, drop, List, [], ◌∷◌, ◌++◌, length, get_or, Contains, All, ℤ}
use Rattle.std.proofs.Common.{pos, ◌<ℤ◌, unsigned_abs, arith, refl, sym, ap, ◌∙◌, subst, inl, inr, append_assoc, length-append}
use Rattle.std.proofs.lemmas.List.{get_or_default, take-append-drop}
use Rattle.std.proofs.Math.Seq.{take-append_seam, drop-append_seam}
use Rattle.std.proofs.Math.ListN.{get_or-append}
use Rattle.std.proofs.lemmas.List.Elements.{All-nil, All-cons, All-drop, All-contains, Contains-append_left, Contains-append_right, Contains-append_cases}
use Rattle.gf_int_theory.proofs.ListLaws.{all_by}
use Rattle.gf_vec.specs.Vector.{dot}
use Rattle.gf_gordan.specs.Alternative.{AreRows, IsSolution}
use Rattle.gf_poly.specs.Marking.{MarkedPolynomial}
use Rattle.gf_facets_theory.specs.Rows.{IsNormal}
use Rattle.gf_facets_theory.specs.Systems.{unit, units}
use Rattle.gf_facets_theory.specs.Normals.{AreNormals, others_of, flip_rows}
use Rattle.gf_facets_theory.specs.Combinations.{IsCombination}
use Rattle.gf_facets_theory.specs.Regions.{Region, IsInRegion}
use Rattle.gf_facets_theory.specs.Facets.{IsInOpenCone, IsInsideFacet, IsFlippable}
use Rattle.gf_facets_theory.proofs.ConeLaws.{normals_open}
use Rattle.gf_gordan.specs.Sizes.{HaveEntriesUpTo}
use Rattle.gf_facets_theory.specs.MarkedBases.{AreCanonical}
use Rattle.gf_facets_theory.proofs.NormalLaws.{normal-length}
use Rattle.gf_facets_theory.proofs.UnitLaws.{units_wide, units_on_positive, positive_by_units}
use Rattle.gf_facets_theory.proofs.FacetSystems.{IsFacetSystem, facet_system, flip_system, point_of_solution, solution_of_point, not_redundant}
use Rattle.gf_cone.specs.Small.{IsSmall}
use Rattle.gf_cone.specs.Keeping.{AreVectorsKept}
use Rattle.gf_cone.specs.Cones.{ConeRows, all_rows, normal_at, other_rows, IsConeOf, HasInterior}
use Rattle.gf_cone.specs.Crossing.{IsCrossable}
use Rattle.gf_cone.specs.Answers.{AnswersSystem, AnswersFlip, AnswersFacet, TellsFlip, TellsFacet, IsFlipTold, IsFacetAnswered}
use Rattle.gf_cone.specs.declared.answer.FacetAnswer.{FacetAnswer}
use Rattle.gf_cone.specs.declared.answer.FacetAnswer.TheVariants.{Facet, Redundant}
use Rattle.gf_cone.specs.declared.answer.FlipAnswer.{FlipAnswer}
use Rattle.gf_cone.specs.declared.answer.FlipAnswer.TheVariants.{Yes, No}

-- ---- vectors of the inside

-- a vector on which the rows and a are positive
abbrev pub IsPositiveOn : List (List ℤ) → List ℤ → Type 0
IsPositiveOn rows a = (w : List ℤ) × All (λ t. pos 0 <ℤ dot t w) rows × (pos 0 <ℤ dot a w)

-- ---- the others of one

pub others-append : (i : ℕ) (ns beside : List (List ℤ)) → i < length ns → others_of i (ns ++ beside) ≡ others_of i ns ++ beside
others-append i [] beside l = absurd (omega arith)
others-append zero (x ∷ ns) beside l = refl
others-append (suc i) (x ∷ ns) beside l = ap (λ (z : List (List ℤ)). x ∷ z) (others-append i ns beside (omega arith))

others_inside : (vs : List (List ℤ)) (i : ℕ) (t : List ℤ) → Contains (others_of i vs) t → Contains vs t
others_inside [] zero t c = c
others_inside [] (suc i) t c = c
others_inside (x ∷ vs) zero t c = let k = c in (suc k.0, omega (arith, k.1), k.2)
others_inside (x ∷ vs) (suc i) t (zero, l, e) = (zero, omega arith, e)
others_inside (x ∷ vs) (suc i) t (suc j, l, e) = let k = others_inside vs i t (j, omega (arith, l), e) in (suc k.0, omega (arith, k.1), k.2)

-- what holds of a system holds of one with as many columns, the same rows and the same normal
pub system_for : (P : ℕ → List (List ℤ) → List ℤ → Type 0) (n m : ℕ) (rows given : List (List ℤ)) (a b : List ℤ) → m ≡ n → given ≡ rows → b ≡ a → P m given b →
    P n rows a
system_for P n m rows given a b em er ea h = rw (← em, ← er, ← ea) h

-- what holds of all vectors holds of the others, and of the one
pub others_all_of : (P : List ℤ → Type 0) (vs : List (List ℤ)) (i : ℕ) → All P vs → All P (others_of i vs)
others_all_of P vs i h = all_by P (others_of i vs) (λ t c. All-contains P vs t h (others_inside vs i t c))

-- a vector of the interior is positive on the others and on the normal
pub interior_of_others : (c : ConeRows) (i : ℕ) → i < length c.normals → HasInterior c → IsPositiveOn (other_rows c i) (normal_at c i)
interior_of_others c i l h = (
  h.0,
  subst (All (λ t. pos 0 <ℤ dot t h.0)) (others-append i c.normals c.beside l) (others_all_of (λ t. pos 0 <ℤ dot t h.0) (all_rows c) i h.1.positive),
  All-contains (λ t. pos 0 <ℤ dot t h.0) (all_rows c) (normal_at c i) h.1.positive (Contains-append_left c.normals c.beside (normal_at c i)
      (i, l, get_or_default c.normals i _ [] l)),
)

pub interior_of_normals : (c : ConeRows) (i : ℕ) → i < length c.normals → HasInterior c → IsPositiveOn (others_of i c.normals) (normal_at c i)
interior_of_normals c i l h =
    let p = interior_of_others c i l h in (
      p.0,
      all_by (λ t. pos 0 <ℤ dot t p.0) (others_of i c.normals) (λ t k. All-contains (λ t. pos 0 <ℤ dot t p.0) (other_rows c i) t p.1
          (Contains-append_left (others_of i c.normals) c.beside t k)),
      p.2,
    )

-- ---- what an answer tells

module _ (n : ℕ) (k : Region) (bs : List MarkedPolynomial) (c : ConeRows) (i : ℕ) (l : i < length c.normals) (is : IsConeOf n k bs c) where
  rows_are : other_rows c i ≡ flip_rows n k c.normals i
  rows_are = ap (λ (z : List (List ℤ)). others_of i c.normals ++ z) is.beside ∙ sym (append_assoc (others_of i c.normals) k.rows (units n n))

  there : IsNormal bs (normal_at c i)
  there = is.normals.only (normal_at c i) (i, l, get_or_default c.normals i _ [] l)

  system : IsFacetSystem bs (normal_at c i) (k.rows ++ units n n) (other_rows c i)
  system = subst (IsFacetSystem bs (normal_at c i) (k.rows ++ units n n)) (sym rows_are) (flip_system n k bs c.normals i is.normals l)

  -- a solution is a vector of the region inside the facet
  pub flip_of_solution : (w : List ℤ) → IsSolution c.variables (other_rows c i) (normal_at c i ∷ []) w → IsInRegion n k w × IsInsideFacet bs (normal_at c i) w
  flip_of_solution w s = at (point_of_solution n bs (normal_at c i) w (k.rows ++ units n n) (other_rows c i) system there solution)
    where
      solution : IsSolution n (other_rows c i) (normal_at c i ∷ []) w
      solution = subst (λ (m : ℕ). IsSolution m (other_rows c i) (normal_at c i ∷ []) w) is.variables s

      at : IsInsideFacet bs (normal_at c i) w × All (λ t. pos 0 <ℤ dot t w) (k.rows ++ units n n) → IsInRegion n k w × IsInsideFacet bs (normal_at c i) w
      at p = (
        record {
          width = solution.width;
          positive = positive_by_units n w solution.width (λ t d. All-contains (λ t. pos 0 <ℤ dot t w) (k.rows ++ units n n) t p.1
              (Contains-append_right k.rows (units n n) t d));
          rows = all_by (λ t. pos 0 <ℤ dot t w) k.rows (λ t d. All-contains (λ t. pos 0 <ℤ dot t w) (k.rows ++ units n n) t p.1
              (Contains-append_left k.rows (units n n) t d));
        },
        p.0,
      )

  -- and the other way
  pub solution_of_flip : (f : IsFlippable n k bs (normal_at c i)) → IsSolution n (other_rows c i) (normal_at c i ∷ []) f.point
  solution_of_flip f = solution_of_point n bs (normal_at c i) f.point (k.rows ++ units n n) (other_rows c i) system f.region.width f.inside
      (all_by (λ t. pos 0 <ℤ dot t f.point) (k.rows ++ units n n) (λ t d. elim (Contains-append_cases k.rows (units n n) t d) [
        | inl e ↦ All-contains (λ t. pos 0 <ℤ dot t f.point) k.rows t f.region.rows e
        | inr e ↦ units_on_positive n f.point f.region.width f.region.positive t e
      ]))

  -- a flip may cross the facet exactly where the system has a solution
  pub crossable_flippable : IsCrossable c i ↔ IsFlippable n k bs (normal_at c i)
  crossable_flippable = (
    λ s. (let p = flip_of_solution s.0 s.1 in record { point = s.0; region = p.0; inside = p.1 }),
    λ f. (f.point, subst (λ (m : ℕ). IsSolution m (other_rows c i) (normal_at c i ∷ []) f.point) (sym is.variables) (solution_of_flip f)),
  )

  module _ (wide : AreRows c.variables (all_rows c)) where
    others_wide : AreRows n (other_rows c i)
    others_wide = subst (λ (m : ℕ). AreRows m (other_rows c i)) is.variables (subst (AreRows c.variables) (others-append i c.normals c.beside l)
        (others_all_of (λ t. length t ≡ c.variables) (all_rows c) i wide))

    pub flip_tells : HasInterior c → (answer : FlipAnswer) → AnswersFlip c i answer → TellsFlip n k bs (normal_at c i) answer
    flip_tells h (Yes w) s = flip_of_solution w s
    flip_tells h (No factor ms) s = λ f.
        let p = interior_of_others c i l h in
        not_redundant n (normal_at c i) f.point p.0 (other_rows c i) others_wide p.2 (solution_of_flip f) (
          factor,
          ms,
          subst (λ (m : ℕ). IsCombination m (other_rows c i) (normal_at c i) factor ms) is.variables s,
        )

    normals_wide : AreRows n (others_of i c.normals)
    normals_wide = all_by (λ t. length t ≡ n) (others_of i c.normals) (λ t d. All-contains (λ t. length t ≡ n) (other_rows c i) t others_wide
        (Contains-append_left (others_of i c.normals) c.beside t d))

    pub facet_tells : HasInterior c → (answer : FacetAnswer) → AnswersFacet c i answer → TellsFacet n bs (normal_at c i) answer
    facet_tells h (Facet w) s =
        let t = subst (λ (m : ℕ). IsSolution m (others_of i c.normals) (normal_at c i ∷ []) w) is.variables s in
        (t.width, (point_of_solution n bs (normal_at c i) w [] (others_of i c.normals) (facet_system bs c.normals i is.normals l) there t).0)
    facet_tells h (Redundant factor ms) s = λ f.
        let p = interior_of_normals c i l h in
        not_redundant n (normal_at c i) f.point p.0 (others_of i c.normals) normals_wide p.2
        (solution_of_point n bs (normal_at c i) f.point [] (others_of i c.normals) (facet_system bs c.normals i is.normals l) f.width f.inside
        (All-nil (λ t. pos 0 <ℤ dot t f.point)))
        (factor, ms, subst (λ (m : ℕ). IsCombination m (others_of i c.normals) (normal_at c i) factor ms) is.variables s)

pub flip_told : (c : ConeRows) (i : ℕ) → i < length c.normals → AreRows c.variables (all_rows c) → HasInterior c → (answer : FlipAnswer) →
    AnswersFlip c i answer → IsFlipTold c i answer
flip_told c i l wide h answer s n k bs is = flip_tells n k bs c i l is wide h answer s

pub facet_told : (c : ConeRows) (i : ℕ) → i < length c.normals → AreRows c.variables (all_rows c) → HasInterior c → (answer : FacetAnswer) →
    AnswersFacet c i answer → IsFacetAnswered c i answer
facet_told c i l wide h answer s n k bs is = facet_tells n k bs c i l is wide h answer s

-- ---- as a program asks

-- the cone that is made of a marked list
pub cone_of : (n m p : ℕ) (k : Region) (bs : List MarkedPolynomial) (ns vs : List (List ℤ)) → m ≡ n → p ≡ length ns → vs ≡ ns ++ k.rows → AreCanonical n bs →
    AreNormals bs ns → IsConeOf n k bs (record { variables = m; normals = take p vs; beside = drop p vs ++ units m m })
cone_of n m p k bs ns vs e f q c a = record {
  variables = e;
  canonical = c;
  normals = subst (AreNormals bs) (sym front) a;
  beside = ap (λ (z : List (List ℤ)). z ++ units m m) back ∙ ap (λ (j : ℕ). k.rows ++ units j j) e;
}
  where
    front : take p vs ≡ ns
    front = ap (λ (j : ℕ). take j vs) f ∙ ap (take (length ns)) q ∙ take-append_seam ns k.rows

    back : drop p vs ≡ k.rows
    back = ap (λ (j : ℕ). drop j vs) f ∙ ap (drop (length ns)) q ∙ drop-append_seam ns k.rows

pub kept_of : (n m p : ℕ) (rows : List (List ℤ)) (bs : List MarkedPolynomial) (ns vs : List (List ℤ)) → m ≡ n → p ≡ length ns → vs ≡ ns ++ rows →
    AreCanonical n bs → AreNormals bs ns → All IsSmall ns → AreRows n rows → AreVectorsKept m vs p
kept_of n m p rows bs ns vs e f q k a s wide = record {
  inside = subst (λ (z : List (List ℤ)). p ≤ length z) (sym q) (omega (arith, f, length-append ns rows));
  widths = subst (AreRows m) (sym q) (all_by (λ t. length t ≡ m) (ns ++ rows) (λ t c. elim (Contains-append_cases ns rows t c) [
    | inl h ↦ normal-length n bs t k (a.only t h) ∙ sym e
    | inr h ↦ All-contains (λ z. length z ≡ n) rows t wide h ∙ sym e
  ]));
  small = subst (All IsSmall) (sym (ap (λ (j : ℕ). take j vs) f ∙ ap (take (length ns)) q ∙ take-append_seam ns rows)) s;
}

pub length-units : (n m : ℕ) → length (units n m) ≡ m
length-units n zero = refl
length-units n (suc m) = length-append (units n m) (unit n m ∷ []) ∙ (let r = length-units n m in omega (arith, r))

-- vectors of a width, and then the unit vectors
pub units_behind_wide : (n : ℕ) (vs : List (List ℤ)) → AreRows n vs → AreRows n (vs ++ units n n)
units_behind_wide n vs h = all_by (λ t. length t ≡ n) (vs ++ units n n) (λ t c. elim (Contains-append_cases vs (units n n) t c) [
  | inl d ↦ All-contains (λ z. length z ≡ n) vs t h d
  | inr d ↦ units_wide n n t d
])

-- with the unit vectors beside
pub kept_units : (c : ConeRows) (m p : ℕ) (vs : List (List ℤ)) → c ≡ record { variables = m; normals = take p vs; beside = drop p vs ++ units m m } →
    (t : List ℤ) → Contains (units c.variables c.variables) t → Contains c.beside t
kept_units c m p vs e =
    let P : ConeRows → Type 0 = λ z. (t : List ℤ) → Contains (units z.variables z.variables) t → Contains z.beside t in
    subst P (sym e) (λ t h. Contains-append_right (drop p vs) (units m m) t h)

-- what is kept, and then the unit vectors, are all rows
pub kept_all : (c : ConeRows) (m p : ℕ) (vs : List (List ℤ)) → c ≡ record { variables = m; normals = take p vs; beside = drop p vs ++ units m m } →
    all_rows c ≡ vs ++ units c.variables c.variables
kept_all c m p vs e =
    let P : ConeRows → Type 0 = λ z. all_rows z ≡ vs ++ units z.variables z.variables in
    subst P (sym e) (sym (append_assoc (take p vs) (drop p vs) (units m m)) ∙ ap (λ (z : List (List ℤ)). z ++ units m m) (take-append-drop p vs))

-- the normals are the first of them
pub kept_front : (c : ConeRows) (m p : ℕ) (vs : List (List ℤ)) → c ≡ record { variables = m; normals = take p vs; beside = drop p vs ++ units m m } →
    length c.normals ≤ length vs
kept_front c m p vs e =
    let P : ConeRows → Type 0 = λ z. length z.normals ≤ length vs in
    subst P (sym e) (subst (λ (z : List (List ℤ)). length (take p vs) ≤ length z) (take-append-drop p vs)
    (omega (arith, length-append (take p vs) (drop p vs))))

-- all of them have the width of the cone
pub kept_wide : (c : ConeRows) (m p : ℕ) (vs : List (List ℤ)) → c ≡ record { variables = m; normals = take p vs; beside = drop p vs ++ units m m } →
    AreVectorsKept m vs p → AreRows c.variables (all_rows c)
kept_wide c m p vs e k = subst (AreRows c.variables) (sym (kept_all c m p vs e))
    (units_behind_wide c.variables vs (subst (λ (j : ℕ). AreRows j vs) (sym (ap (λ (z : ConeRows). z.variables) e)) k.widths))

-- the rows of the region that are kept
pub kept_rows : (c : ConeRows) (m p : ℕ) (vs given : List (List ℤ)) → c ≡ record { variables = m; normals = take p vs; beside = drop p vs ++ units m m } →
    given ≡ drop p vs → c.beside ≡ given ++ units c.variables c.variables
kept_rows c m p vs given e g =
    let P : ConeRows → Type 0 = λ z. z.beside ≡ given ++ units z.variables z.variables in
    subst P (sym e) (ap (λ (z : List (List ℤ)). z ++ units m m) (sym g))

pub kept_rows_wide : (c : ConeRows) (m p : ℕ) (vs given : List (List ℤ)) → c ≡ record { variables = m; normals = take p vs; beside = drop p vs ++ units m m } →
    AreVectorsKept m vs p → given ≡ drop p vs → AreRows c.variables given
kept_rows_wide c m p vs given e k g =
    let P : ConeRows → Type 0 = λ z. AreRows z.variables given in
    subst P (sym e) (subst (AreRows m) (sym g) (All-drop (λ (t : List ℤ). length t ≡ m) p vs k.widths))

pub positive_for : (rows given : List (List ℤ)) (a b : List ℤ) → given ≡ rows → b ≡ a → IsPositiveOn rows a → IsPositiveOn given b
positive_for rows given a b e f h = subst (λ (z : List (List ℤ)). IsPositiveOn z b) (sym e) (subst (IsPositiveOn rows) (sym f) h)

pub answer_for : (n m : ℕ) (rows given : List (List ℤ)) (a b : List ℤ) (answer : FlipAnswer) → m ≡ n → given ≡ rows → b ≡ a → AnswersSystem m given b answer →
    AnswersSystem n rows a answer
answer_for n m rows given a b answer q e f h =
    subst (λ (j : ℕ). AnswersSystem j rows a answer) q (subst (λ (z : List (List ℤ)). AnswersSystem m z a answer) e
    (subst (λ (z : List ℤ). AnswersSystem m given z answer) f h))

-- what follows of each value
pub IfOk-weaker : {A E : Type 0} (P Q : A → Type 0) (r : Result A E) → ((x : A) → P x → Q x) → IfOk r P → IfOk r Q
IfOk-weaker P Q (Ok x) w h = w x h
IfOk-weaker P Q (Err e) w h = tt

-- the one multiplier of the equation
pub one_equation : (es entries : List ℤ) → length es ≡ 1 → entries ≡ es → es ≡ get_or entries 0 (pos 0) ∷ []
one_equation [] entries l e = absurd (omega (arith, l))
one_equation (x ∷ []) entries l e = subst (λ (z : List ℤ). (x ∷ []) ≡ get_or z 0 (pos 0) ∷ []) (sym e) refl
one_equation (x ∷ (y ∷ es)) entries l e = absurd (omega (arith, l))

-- the normal that is read at its index
pub normal_read : (ns given : List (List ℤ)) (i : ℕ) (a : List ℤ) → i < length ns → given ≡ ns → a ≡ get_or given i a → a ≡ get_or ns i []
normal_read ns given i a l e f = f ∙ ap (λ (z : List (List ℤ)). get_or z i a) e ∙ get_or_default ns i a [] l

-- where vectors are kept, and the unit vectors stand behind them: a vector at an index of the kept ones is the row there
pub kept_in_all : (c : ConeRows) (kept behind : List (List ℤ)) (i : ℕ) (a : List ℤ) → all_rows c ≡ kept ++ behind → i < length kept → a ≡ get_or kept i a →
    a ≡ get_or (all_rows c) i a
kept_in_all c kept behind i a e l f = f ∙ sym (get_or-append kept behind a i l) ∙ ap (λ (z : List (List ℤ)). get_or z i a) (sym e)

pub row_read : (c : ConeRows) (kept behind : List (List ℤ)) (i : ℕ) (a : List ℤ) → i < length c.normals → all_rows c ≡ kept ++ behind → i < length kept →
    a ≡ get_or kept i a → a ≡ normal_at c i
row_read c kept behind i a l e m f = kept_in_all c kept behind i a e m f ∙ get_or-append c.normals c.beside a i l ∙ get_or_default c.normals i a [] l

-- the rows of the system of a normal
pub given_rows_are : (c : ConeRows) (i m : ℕ) (kept given rows list : List (List ℤ)) → given ≡ rows → rows ≡ list ++ units m m → list ≡ others_of i kept →
    all_rows c ≡ kept ++ units c.variables c.variables → m ≡ c.variables → i < length c.normals → i < length kept → given ≡ other_rows c i
given_rows_are c i m kept given rows list e f g h v l k =
    e ∙ f ∙ ap (λ (j : ℕ). list ++ units j j) v ∙ ap (λ (z : List (List ℤ)). z ++ units c.variables c.variables) g ∙
    sym (others-append i kept (units c.variables c.variables) k) ∙ ap (others_of i) (sym h) ∙ others-append i c.normals c.beside l

-- what holds of all rows holds of those of the system
pub given_rows_all : (P : List ℤ → Type 0) (c : ConeRows) (i : ℕ) (given : List (List ℤ)) → i < length c.normals → given ≡ other_rows c i → All P (all_rows c) →
    All P given
given_rows_all P c i given l e h = subst (All P) (others-append i c.normals c.beside l ∙ sym e) (others_all_of P (all_rows c) i h)

-- ---- cones of bases have an interior

-- a vector of the region that sets each mark above the rest is positive on all rows
pub interior_of_weight : (n : ℕ) (k : Region) (bs : List MarkedPolynomial) (c : ConeRows) (w : List ℤ) → IsConeOf n k bs c → IsInRegion n k w →
    IsInOpenCone w bs → HasInterior c
interior_of_weight n k bs c w is r o = (
  w,
  record {
    width = r.width ∙ sym is.variables;
    positive = all_by (λ t. pos 0 <ℤ dot t w) (all_rows c) (λ t d. first t (Contains-append_cases c.normals c.beside t d));
    zero = All-nil (λ t. dot t w ≡ pos 0);
  },
)
  where
    second : (t : List ℤ) → Contains k.rows t ⊎ Contains (units n n) t → pos 0 <ℤ dot t w
    second t (inl d) = All-contains (λ t. pos 0 <ℤ dot t w) k.rows t r.rows d
    second t (inr d) = units_on_positive n w r.width r.positive t d

    first : (t : List ℤ) → Contains c.normals t ⊎ Contains c.beside t → pos 0 <ℤ dot t w
    first t (inl d) = normals_open n bs w is.canonical o t (is.normals.only t d)
    first t (inr d) = second t (Contains-append_cases k.rows (units n n) t (subst (λ (z : List (List ℤ)). Contains z t) is.beside d))

-- ---- small systems

pub small_others : (b i : ℕ) (vs : List (List ℤ)) → HaveEntriesUpTo b vs → HaveEntriesUpTo b (others_of i vs)
small_others b i vs h = others_all_of (All (λ x. unsigned_abs x ≤ b)) vs i h

pub small_one : (b : ℕ) (a : List ℤ) → All (λ x. unsigned_abs x ≤ b) a → HaveEntriesUpTo b (a ∷ [])
small_one b a h = All-cons (All (λ x. unsigned_abs x ≤ b)) a [] h (All-nil (All (λ x. unsigned_abs x ≤ b)))

pub small_at : (b : ℕ) (vs given : List (List ℤ)) (i : ℕ) (a : List ℤ) → given ≡ vs → i < length vs → a ≡ get_or given i a → HaveEntriesUpTo b vs →
    HaveEntriesUpTo b (a ∷ [])
small_at b vs given i a e l r h = small_one b a (subst (All (λ x. unsigned_abs x ≤ b)) (sym (r ∙ ap (λ (z : List (List ℤ)). get_or z i a) e)) (h i a l))
