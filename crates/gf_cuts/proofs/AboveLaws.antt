-- Rows that say that one point is above others.
use Rattle.std.proofs.Common.{◌≡◌, ◌↔◌, ℕ, ◌+◌, ◌<◌, List, [], ◌∷◌, ◌++◌, length, take, get_or, ℤ, pos, negsuc, ◌+ℤ◌, ◌-ℤ◌, ◌*ℤ◌, ◌≤ℤ◌}
use Rattle.std.proofs.Common.{arith, sym, refl, ap, ◌∙◌, subst, Contains, inl, inr}
use Rattle.std.proofs.lemmas.Int.{ints}
use Rattle.std.proofs.lemmas.List.{take_more, get_or_default}
use Rattle.std.proofs.lemmas.List.Elements.{All-push, Contains-append_left, Contains-append_right, Contains-append_cases, Contains-push, Contains-get_or}
use Rattle.gf_int_theory.proofs.ListLaws.{Contains-last, all_by}
use Rattle.gf_vec.specs.Vector.{dot, vector_sum, opposite}
use Rattle.gf_gordan.specs.Alternative.{AreRows}
use Rattle.gf_duality_theory.specs.Faces.{Rows, IsInCone}
use Rattle.gf_duality_theory.proofs.ListLaws.{none_in, first_in}
use Rattle.gf_fans_theory.proofs.FanLaws.{is_in, up_in, zero_in}
use Rattle.gf_patterns_theory.specs.PatternRows.{vector_difference, point_at}
use Rattle.gf_patterns_theory.proofs.RowLaws.{dot_minus, minus_long}
use Rattle.gf_levels_theory.specs.Parts.{IsAbove, IsPartOver}
use Rattle.gf_cuts.specs.Drawn.{IsDifferenceOf}
use Rattle.gf_cuts.specs.Heights.{AreRowsOver}

-- ---- differences

less_entry : (x y : ℤ) → x +ℤ negsuc 0 *ℤ y ≡ x -ℤ y
less_entry x y = omega (arith, ints)

pub sum_turned : (xs ys : List ℤ) → vector_sum xs (opposite ys) ≡ vector_difference xs ys
sum_turned [] ys = refl
sum_turned (x ∷ xs) [] = refl
sum_turned (x ∷ xs) (y ∷ ys) = ap (λ z. z ∷ vector_sum xs (opposite ys)) (less_entry x y) ∙ ap (λ z. (x -ℤ y) ∷ z) (sum_turned xs ys)

-- h is the difference of a and b
pub record IsDifference (a b h : List ℤ) : Type 0 where
  pub is : h ≡ vector_difference a b
  pub long : length h ≡ length a
  pub value : (v : List ℤ) → dot h v ≡ dot a v -ℤ dot b v

pub is_difference : (a b h : List ℤ) → length a ≡ length b → h ≡ vector_difference a b → IsDifference a b h
is_difference a b h l e = record {
  is = e;
  long = ap length e ∙ minus_long (length a) a b refl (sym l);
  value = λ v. ap (λ z. dot z v) e ∙ dot_minus a b v l;
}

-- points as they are read
pub read_at : (A : List (List ℤ)) (x : ℕ) (a : List ℤ) → x < length A → a ≡ get_or A x a → a ≡ point_at A x
read_at A x a l e = e ∙ get_or_default A x a [] l

pub one_width : (n : ℕ) (A : List (List ℤ)) (x y : ℕ) (a b : List ℤ) → AreRows n A → x < length A → y < length A → a ≡ get_or A x a → b ≡ get_or A y b →
    length a ≡ length b
one_width n A x y a b w lx ly e f = ap length e ∙ w x a lx ∙ sym (ap length f ∙ w y b ly)

pub difference_at : (n : ℕ) (A : List (List ℤ)) (x y : ℕ) (a b h : List ℤ) → AreRows n A → x < length A → y < length A → a ≡ get_or A x a →
    b ≡ get_or A y b → h ≡ vector_difference a b → IsDifference (point_at A x) (point_at A y) h
difference_at n A x y a b h w lx ly e f q = subst (λ z. IsDifference z (point_at A y) h) (read_at A x a lx e)
    (subst (λ z. IsDifference a z h) (read_at A y b ly f) (is_difference a b h (one_width n A x y a b w lx ly e f) q))

pub point_difference : (n : ℕ) (A : List (List ℤ)) (x y : ℕ) → AreRows n A → x < length A → y < length A →
    IsDifference (point_at A x) (point_at A y) (vector_difference (point_at A x) (point_at A y))
point_difference n A x y w lx ly =
    is_difference (point_at A x) (point_at A y) (vector_difference (point_at A x) (point_at A y)) (w x [] lx ∙ sym (w y [] ly)) refl

-- of two of the points
pub drawn_at : (A : List (List ℤ)) (x y : ℕ) (h : List ℤ) → x < length A → y < length A → IsDifference (point_at A x) (point_at A y) h → IsDifferenceOf A h
drawn_at A x y h lx ly d = record {
  high = point_at A x;
  low = point_at A y;
  of_high = Contains-get_or A x [] lx;
  of_low = Contains-get_or A y [] ly;
  is = d.is;
}

-- the difference as the only row
pub only_row : (A : List (List ℤ)) (x y : ℕ) (a b h : List ℤ) (out new : List (List ℤ)) → x < length A → y < length A → a ≡ get_or A x a →
    b ≡ get_or A y b → h ≡ vector_difference a b → out ≡ [] → new ≡ out ++ h ∷ [] → new ≡ vector_difference (point_at A x) (point_at A y) ∷ []
only_row A x y a b h out new lx ly e f q none n =
    n ∙ ap (λ (z : List (List ℤ)). z ++ h ∷ []) none
    ∙ ap (λ (z : List ℤ). z ∷ []) (q ∙ ap (λ z. vector_difference z b) (read_at A x a lx e) ∙ ap (vector_difference (point_at A x)) (read_at A y b ly f))

-- ---- rows over others

pub over_none : (A : List (List ℤ)) (top : ℕ) → AreRowsOver A top [] []
over_none A top = record {
  wide = λ n w. all_by (λ t. length t ≡ n) [] (λ t k. absurd (none_in t k));
  drawn = λ h k. absurd (none_in h k);
  says = λ v. ((λ f x k. absurd (none_in x k)), (λ f h k. absurd (none_in h k)));
}

next_index : (indices : List ℕ) (x k : ℕ) → k < length indices → x ≡ get_or indices k 0 → take (k + 1) indices ≡ take k indices ++ x ∷ []
next_index indices x k l e = take_more indices k 0 l ∙ ap (λ z. take k indices ++ z ∷ []) (sym e)

not_above : (x : ℤ) → x ≤ℤ x
not_above x = omega (arith, ints)

pub over_left : (A : List (List ℤ)) (top : ℕ) (indices : List ℕ) (rows : List (List ℤ)) (x k : ℕ) → k < length indices → x ≡ get_or indices k 0 → x ≡ top →
    AreRowsOver A top (take k indices) rows → AreRowsOver A top (take (k + 1) indices) rows
over_left A top indices rows x k l e q r = subst (λ z. AreRowsOver A top z rows) (sym (next_index indices x k l e)) (record {
  wide = r.wide;
  drawn = r.drawn;
  says = λ v. (
    (λ f y i. elim (Contains-last (take k indices) x y i) [
      | inl j ↦ (r.says v).0 f y j
      | inr s ↦ subst (λ z. dot (point_at A z) v ≤ℤ dot (point_at A top) v) (sym (s ∙ q)) (not_above (dot (point_at A top) v))
    ]),
    (λ f. (r.says v).1 (λ y j. f y (first_in (take k indices) x y j))),
  );
})

up_below : (a b h : ℤ) → h ≡ a -ℤ b → pos 0 ≤ℤ h → b ≤ℤ a
up_below a b h e u = omega (arith, ints, e, u)

below_up : (a b h : ℤ) → h ≡ a -ℤ b → b ≤ℤ a → pos 0 ≤ℤ h
below_up a b h e u = omega (arith, ints, e, u)

pub over_more : (A : List (List ℤ)) (top : ℕ) (indices : List ℕ) (rows new : List (List ℤ)) (h : List ℤ) (x k : ℕ) → top < length A → x < length A →
    k < length indices → x ≡ get_or indices k 0 → IsDifference (point_at A top) (point_at A x) h → new ≡ rows ++ h ∷ [] →
    AreRowsOver A top (take k indices) rows → AreRowsOver A top (take (k + 1) indices) new
over_more A top indices rows new h x k lt lx l e d n r =
    subst (λ z. AreRowsOver A top (take (k + 1) indices) z) (sym n) (subst (λ z. AreRowsOver A top z (rows ++ h ∷ []))
    (sym (next_index indices x k l e)) (record {
      wide = λ m w. All-push (λ t. length t ≡ m) rows h (r.wide m w) (d.long ∙ w top [] lt);
      drawn = λ g i. elim (Contains-last rows h g i) [ inl j ↦ r.drawn g j | inr s ↦ subst (IsDifferenceOf A) (sym s) (drawn_at A top x h lt lx d) ];
      says = λ v. (
        (λ f y i. elim (Contains-last (take k indices) x y i) [
          | inl j ↦ (r.says v).0 (λ g kg. f g (first_in rows h g kg)) y j
          | inr s ↦ subst (λ z. dot (point_at A z) v ≤ℤ dot (point_at A top) v) (sym s)
              (up_below (dot (point_at A top) v) (dot (point_at A x) v) (dot h v) (d.value v) (f h (Contains-push rows h)))
        ]),
        (λ f g i. elim (Contains-last rows h g i) [
          | inl j ↦ (r.says v).1 (λ y z. f y (first_in (take k indices) x y z)) g j
          | inr s ↦ subst (λ (z : List ℤ). pos 0 ≤ℤ dot z v) (sym s)
              (below_up (dot (point_at A top) v) (dot (point_at A x) v) (dot h v) (d.value v) (f x (Contains-push (take k indices) x)))
        ]),
      );
    }))

-- ---- a cone with more inequalities

more_in : (c p : Rows) (rows : List (List ℤ)) (v : List ℤ) → p.inequalities ≡ c.inequalities ++ rows → p.equations ≡ c.equations →
    IsInCone c v → ((h : List ℤ) → Contains rows h → pos 0 ≤ℤ dot h v) → IsInCone p v
more_in c p rows v e f i g = is_in p v
    (λ h k. elim (Contains-append_cases c.inequalities rows h (subst (λ (z : List (List ℤ)). Contains z h) e k)) [ inl j ↦ up_in c v h i j | inr j ↦ g h j ])
    (λ h k. zero_in c v h i (subst (λ (z : List (List ℤ)). Contains z h) f k))

of_more_rows : (c p : Rows) (rows : List (List ℤ)) (v : List ℤ) → p.inequalities ≡ c.inequalities ++ rows → p.equations ≡ c.equations →
    IsInCone p v → IsInCone c v × ((h : List ℤ) → Contains rows h → pos 0 ≤ℤ dot h v)
of_more_rows c p rows v e f i = (
  is_in c v (λ h k. up_in p v h i (subst (λ (z : List (List ℤ)). Contains z h) (sym e) (Contains-append_left c.inequalities rows h k)))
      (λ h k. zero_in p v h i (subst (λ (z : List (List ℤ)). Contains z h) (sym f) k)),
  λ h k. up_in p v h i (subst (λ (z : List (List ℤ)). Contains z h) (sym e) (Contains-append_right c.inequalities rows h k)),
)

pub part_by : (n : ℕ) (A : List (List ℤ)) (top : ℕ) (indices : List ℕ) (c p : Rows) (rows given : List (List ℤ)) →
    ((v : List ℤ) → ((h : List ℤ) → Contains rows h → pos 0 ≤ℤ dot h v) ↔ IsAbove A top indices v) → given ≡ rows →
    p.inequalities ≡ c.inequalities ++ given → p.equations ≡ c.equations → IsPartOver n A top indices c p
part_by n A top indices c p rows given says s e f v lv =
    let q : p.inequalities ≡ c.inequalities ++ rows = e ∙ ap (λ z. c.inequalities ++ z) s in (
      (λ i. let r = of_more_rows c p rows v q f i in (r.0, (says v).0 r.1)),
      (λ i. more_in c p rows v q f i.0 ((says v).1 i.1)),
    )
