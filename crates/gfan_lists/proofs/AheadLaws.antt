-- The bases that are taken out of a list before those in front of them are written.
-- To cite: kept_here, next_kept, way_kept, end_kept, one_ahead, ahead_push, ahead_left, ahead_ideal, ahead_variables, ahead_worked, ahead_fewer,
-- popped_ahead, popped_fewer. The rest are steps.
use Rattle.std.specs.Prelude.{◌≡◌, ℕ, suc, ◌+◌, ◌-◌, ◌<◌, ◌≤◌, Bool, false, List, [], ◌∷◌, ◌++◌, length}
use Rattle.std.specs.Prelude.{Option, None, Some, IfSome, MatchOption, option_to_list}
use Rattle.std.specs.List.{All}
use Rattle.std.proofs.Common.{arith, refl, sym, ap, ap₂, ◌∙◌, subst}
use Rattle.std.proofs.lemmas.List.Elements.{All-nil, All-cons}
use Rattle.gf_poly.specs.Polynomial.{Terms}
use Rattle.gf_poly.specs.Marking.{MarkedPolynomials}
use Rattle.gf_facets_theory.specs.Regions.{Region}
use Rattle.gf_reverse_theory.specs.Upward.{Fan, IsNode, IsNodeIn, fan_of}
use Rattle.gf_reverse_theory.proofs.TreeLaws.{count}
use Rattle.gf_tree.specs.Ideals.{ideal_within}
use Rattle.gf_subtree.specs.Rows.{Row, AreLeftIn, ideal_in, row_left_at_most}
use Rattle.gf_subtree.specs.Answers.{IsSameList, IsNextRow, IsRowEnd, IsRowKept}
use Rattle.gfan_lists.specs.declared.ahead.Taken.{Taken}
use Rattle.gfan_lists.specs.declared.bases.ListOptions.{ListOptions}
use Rattle.gfan_lists.specs.declared.bases.Room.{Room}
use Rattle.gfan_lists.specs.BasesWriting.{IsUnderWay}
use Rattle.gfan_lists.specs.Ahead.{HasVariables, IsWorkedOut, IsWorkedFrom, AreWorkedOutAt, AreAhead, IsNextTaken}

-- ---- rows

-- a row keeps what it has
pub kept_here : (row : Row) → IsRowKept row row
kept_here row = record { same = record { workers = refl; pairs = refl; region = refl; start = refl }; given = refl; left = λ nodes l. l }

same_ideal : (old new : Row) → IsSameList old new → ideal_in new ≡ ideal_in old
same_ideal old new same = ap₂ (λ (k : Region) (v : MarkedPolynomials). fan_of k v) same.region same.start

kept_count : (old new : Row) → IsRowKept old new → row_left_at_most new ≡ row_left_at_most old
kept_count old new kept = ap₂ (λ (k : Region) (v : MarkedPolynomials). count k v - new.given) kept.same.region kept.same.start ∙ ap
    (λ g. count old.region old.start - g) kept.given

-- the next basis of a row that kept what another has is the next one of that
pub next_kept : (row old new : Row) (b : MarkedPolynomials) → IsRowKept row old → IsNextRow old new b → IsNextRow row new b
next_kept row old new b kept step = record {
  same = record {
    workers = step.same.workers ∙ kept.same.workers;
    pairs = step.same.pairs ∙ kept.same.pairs;
    region = step.same.region ∙ kept.same.region;
    start = step.same.start ∙ kept.same.start;
  };
  given = step.given ∙ ap (λ g. g + 1) kept.given;
  basis = subst (λ (F : Fan). IsNodeIn F b) (same_ideal row old kept.same) step.basis;
  own = subst (λ (k : Region). IsNode k b) kept.same.region step.own;
  fewer = subst (λ m. suc (row_left_at_most new) ≤ m) (kept_count row old kept) step.fewer;
  first = λ nodes l. step.first nodes (kept.left nodes l);
}

-- and the list goes on from there
pub way_kept : (before : List MarkedPolynomials) (o : ListOptions) (ring : List (List ℕ)) (k : Region) (fs : List Terms) (room : Room) (is_first : Bool)
    (held holds : Option (List ℕ)) (row left : Row) → IsRowKept row left →
    IsUnderWay before o ring k fs row room is_first held holds → IsUnderWay before o ring k fs left room is_first held holds
way_kept before o ring k fs room is_first held holds row left kept way = record {
  written = way.written;
  rest = way.rest;
  are_all = way.are_all;
  left = kept.left way.rest way.left;
  basis = subst (IsNodeIn (ideal_within (length ring) fs k)) (sym kept.same.start) way.basis;
  pairs = kept.same.pairs ∙ way.pairs;
  region = kept.same.region ∙ way.region;
  fits = way.fits;
  items = way.items;
  are_items = way.are_items;
  first = way.first;
  gained = way.gained;
}

-- a row that has nothing left keeps that
pub end_kept : (old new : Row) → IsRowEnd old new → IsRowKept old new
end_kept old new end = record { same = end.same; given = end.given; left = λ nodes l. subst (AreLeftIn new) (sym (end.none nodes l)) end.over }

-- ---- bases that were taken

module _ (certified : Bool) (ring : List (List ℕ)) (k : Region) where
  -- one basis is taken
  pub one_ahead : (is_first : Bool) (row old new : Row) (x : Taken) → IsRowKept row old → IsNextRow old new x.basis → x.is_first ≡ is_first →
      IsWorkedOut certified ring k x → AreAhead certified ring k is_first (x ∷ []) row new
  one_ahead is_first row old new x kept step first worked = (new, next_kept row old new x.basis kept step, first, worked, kept_here new)

  push_behind : (xs : List Taken) (row old new : Row) (y : Taken) → AreAhead certified ring k false xs row old → IsNextRow old new y.basis →
      y.is_first ≡ false → IsWorkedOut certified ring k y → AreAhead certified ring k false (xs ++ y ∷ []) row new
  push_behind [] row old new y kept step first worked = (new, next_kept row old new y.basis kept step, first, worked, kept_here new)
  push_behind (x ∷ xs) row old new y h step first worked = (h.0, h.1, h.2, h.3, push_behind xs h.0 old new y h.4 step first worked)

  -- one more is taken
  pub ahead_push : (is_first : Bool) (xs : List Taken) (row old new : Row) (y : Taken) → 0 < length xs → AreAhead certified ring k is_first xs row old →
      IsNextRow old new y.basis → y.is_first ≡ false → IsWorkedOut certified ring k y → AreAhead certified ring k is_first (xs ++ y ∷ []) row new
  ahead_push is_first [] row old new y some h step first worked = absurd (omega (arith, some))
  ahead_push is_first (x ∷ xs) row old new y some h step first worked = (h.0, h.1, h.2, h.3, push_behind xs h.0 old new y h.4 step first worked)

  -- the row that is left keeps what it has
  pub ahead_left : (is_first : Bool) (xs : List Taken) (row old new : Row) → IsRowKept old new → AreAhead certified ring k is_first xs row old →
      AreAhead certified ring k is_first xs row new
  ahead_left is_first [] row old new kept h = record {
    same = record {
      workers = kept.same.workers ∙ h.same.workers;
      pairs = kept.same.pairs ∙ h.same.pairs;
      region = kept.same.region ∙ h.same.region;
      start = kept.same.start ∙ h.same.start;
    };
    given = kept.given ∙ h.given;
    left = λ nodes l. kept.left nodes (h.left nodes l);
  }
  ahead_left is_first (x ∷ xs) row old new kept h = (h.0, h.1, h.2, h.3, ahead_left false xs h.0 old new kept h.4)

  -- the ideal stays
  pub ahead_ideal : (is_first : Bool) (xs : List Taken) (row left : Row) → AreAhead certified ring k is_first xs row left → ideal_in left ≡ ideal_in row
  ahead_ideal is_first [] row left h = same_ideal row left h.same
  ahead_ideal is_first (x ∷ xs) row left h = ahead_ideal false xs h.0 left h.4 ∙ same_ideal row h.0 h.1.same

  -- all are of the variables of the ideal
  pub ahead_variables : (n : ℕ) (is_first : Bool) (xs : List Taken) (row left : Row) → ((v : MarkedPolynomials) → IsNodeIn (ideal_in row) v →
      v.variables ≡ n) → AreAhead certified ring k is_first xs row left → All (HasVariables n) xs
  ahead_variables n is_first [] row left has h = All-nil (HasVariables n)
  ahead_variables n is_first (x ∷ xs) row left has h =
      All-cons (HasVariables n) x xs (has x.basis h.1.basis) (ahead_variables n false xs h.0 left (λ v node. has v (subst (λ (F : Fan). IsNodeIn F v)
      (same_ideal row h.0 h.1.same) node)) h.4)

  -- their pieces are worked out
  pub ahead_worked : (is_first : Bool) (xs ys : List Taken) (row left : Row) → AreWorkedOutAt certified ring k xs ys →
      AreAhead certified ring k is_first xs row left → AreAhead certified ring k is_first ys row left
  ahead_worked is_first [] [] row left w h = h
  ahead_worked is_first [] (y ∷ ys) row left w h = (let e : suc (length ys) ≡ 0 = w.same_length in absurd (omega (arith, e)))
  ahead_worked is_first (x ∷ xs) [] row left w h = (let e : 0 ≡ suc (length xs) = w.same_length in absurd (omega (arith, e)))
  ahead_worked is_first (x ∷ xs) (y ∷ ys) row left w h =
      let one : IsWorkedFrom certified ring k x y = w.each 0 x (omega arith) in
      let e : suc (length ys) ≡ suc (length xs) = w.same_length in
      let rest : AreWorkedOutAt certified ring k xs ys = record {
        same_length = omega (arith, e);
        each = λ i d inside. w.each (suc i) d (omega
            (arith, inside));
      } in
      (h.0, subst (IsNextRow row h.0) (sym one.basis) h.1, one.is_first ∙ h.2, one.worked, ahead_worked false xs ys h.0 left rest h.4)

  -- each leaves fewer
  pub ahead_fewer : (is_first : Bool) (xs : List Taken) (row left : Row) → AreAhead certified ring k is_first xs row left →
      row_left_at_most left + length xs ≤ row_left_at_most row
  ahead_fewer is_first [] row left h = (let e = kept_count row left h in omega (arith, e))
  ahead_fewer is_first (x ∷ xs) row left h = (let rest = ahead_fewer false xs h.0 left h.4 in let one = h.1.fewer in omega (arith, rest, one))

  -- the first of those that were taken is the next basis
  pub popped_ahead : (is_first : Bool) (all : List Taken) (o : Option Taken) (xs : List Taken) (row old left : Row) (n m : ℕ) → 0 < n →
      MatchOption o ((n ≡ 0) × (m ≡ 0)) (λ _. m + 1 ≡ n) → all ≡ option_to_list o ++ xs → AreAhead certified ring k is_first all row left →
      IsNextTaken certified ring k is_first row old o xs left
  popped_ahead is_first all None xs row old left n m some cases e h = absurd (omega (arith, some, cases.0))
  popped_ahead is_first all (Some x) xs row old left n m some cases e h = subst (λ ys. AreAhead certified ring k is_first ys row left) e h

  -- and it leaves fewer
  pub popped_fewer : (is_first : Bool) (all : List Taken) (o : Option Taken) (xs : List Taken) (row left : Row) (m : ℕ) → all ≡ option_to_list o ++ xs →
      AreAhead certified ring k is_first all row left → IfSome o (λ _. row_left_at_most left + length xs < row_left_at_most row + m)
  popped_fewer is_first all None xs row left m e h = tt
  popped_fewer is_first all (Some x) xs row left m e h =
      let fewer = ahead_fewer is_first all row left h in
      let long : length all ≡ suc (length xs) = ap (λ (ys : List Taken). length ys) e in
      omega (arith, fewer, long)
