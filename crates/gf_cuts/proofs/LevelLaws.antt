-- The parts of one cone in one list, and the levels of several cones.
use Rattle.std.proofs.Common.{◌≡◌, ℕ, ◌+◌, ◌<◌, List, [], ◌∷◌, ◌++◌, length, map, take, get_or, ℤ, ◌≤ℤ◌, arith, sym, refl, ap, ◌∙◌, subst}
use Rattle.std.proofs.Common.{All, inl, inr}
use Rattle.std.proofs.lemmas.Int.{ints}
use Rattle.std.proofs.lemmas.List.{map-append, take_more}
use Rattle.std.proofs.lemmas.List.Elements.{All-contains, Contains-append_cases}
use Rattle.gf_int_theory.proofs.ListLaws.{all_by}
use Rattle.gf_vec.specs.Vector.{dot}
use Rattle.gf_gordan.specs.Alternative.{AreRows}
use Rattle.gf_duality_theory.specs.Faces.{Rows}
use Rattle.gf_duality_theory.proofs.ListLaws.{none_in, in_cons}
use Rattle.gf_patterns_theory.specs.PatternRows.{point_at}
use Rattle.gf_patterns_theory.proofs.MeetLaws.{same_refl}
use Rattle.gf_rays.specs.Cones.{RowsAndRays, rows_of}
use Rattle.gf_levels_theory.specs.declared.members.Members.{Members}
use Rattle.gf_levels_theory.specs.declared.members.Members.TheVariants.{One}
use Rattle.gf_levels_theory.specs.Levels.{IsLevel}
use Rattle.gf_levels_theory.specs.Parts.{IsTopOn, AreTops, IsPartOver, AreTopParts, AreOfTop, AreOfTops}
use Rattle.gf_levels_theory.proofs.PartLaws.{top_on, of_none, of_more, parts_level}
use Rattle.gf_levels_theory.proofs.LevelLaws.{level_join}

-- ---- the parts of one cone

no_higher : (x : ℤ) → x ≤ℤ x
no_higher x = omega (arith, ints)

-- where no point is above the one at an index, the part of the cone on which that holds is the cone
pub over_itself : (n : ℕ) (A : List (List ℤ)) (t : ℕ) (c : Rows) → IsPartOver n A t (t ∷ []) c c
over_itself n A t c v lv = (
  (λ s. (
    s,
    λ x k. elim (in_cons t [] x k) [
      | inl e ↦ subst (λ z. dot (point_at A z) v ≤ℤ dot (point_at A t) v) (sym e) (no_higher (dot (point_at A t) v))
      | inr o ↦ absurd (none_in x o)
    ],
  )),
  λ s. s.0,
)

one_only : (tops : List ℕ) → length tops ≡ 1 → tops ≡ get_or tops 0 0 ∷ []
one_only [] e = absurd (omega (arith, e))
one_only (t ∷ []) e = refl
one_only (t ∷ s ∷ tops) e = absurd (omega (arith, e))

pub only_top : (tops : List ℕ) (t : ℕ) → length tops ≡ 1 → t ≡ get_or tops 0 0 → tops ≡ t ∷ []
only_top tops t e q = one_only tops e ∙ ap (λ z. z ∷ []) (sym q)

pub highest_alone : (n : ℕ) (A : List (List ℤ)) (t : ℕ) (tops : List ℕ) (c : Rows) → tops ≡ t ∷ [] → AreTops n A c tops → IsTopOn n A t c
highest_alone n A t tops c e a = top_on n A t (t ∷ []) c c (subst (AreTops n A c) e a) (over_itself n A t c)

pub level_alone : (members : Members) (n : ℕ) (A : List (List ℤ)) (t : ℕ) (tops : List ℕ) (c : Rows) (out : List Rows) → AreRows n A → tops ≡ t ∷ [] →
    AreTops n A c tops → All (λ x. x < length A) tops → AreTopParts members n A t c out → IsLevel members n A (c ∷ []) out
level_alone members n A t tops c out w e a inside p =
    let of_t : AreOfTop members n A c (t ∷ []) t out = record { part = c; over = over_itself n A t c; parts = p } in
    parts_level members n A c out (t ∷ []) w (subst (AreTops n A c) e a) (subst (All (λ x. x < length A)) e inside)
    (of_more members n A c (t ∷ []) [] t [] out of_t (of_none members n A c (t ∷ [])))

pub parts_alone : (n : ℕ) (A : List (List ℤ)) (t : ℕ) (c : RowsAndRays) (out : List RowsAndRays) → out ≡ c ∷ [] →
    AreTopParts One n A t (rows_of c) (map rows_of out)
parts_alone n A t c out e = (rows_of c, (ap (map rows_of) e, same_refl n (rows_of c)))

-- those of a point at one index more
pub of_next : (members : Members) (n : ℕ) (A : List (List ℤ)) (c : Rows) (tops : List ℕ) (t k : ℕ) (out parts new : List RowsAndRays) → k < length tops →
    t ≡ get_or tops k 0 → new ≡ out ++ parts → AreOfTop members n A c tops t (map rows_of parts) →
    AreOfTops members n A c tops (take k tops) (map rows_of out) → AreOfTops members n A c tops (take (k + 1) tops) (map rows_of new)
of_next members n A c tops t k out parts new l e q p a =
    subst (λ z. AreOfTops members n A c tops z (map rows_of new)) (sym (take_more tops k 0 l ∙ ap (λ z. take k tops ++ z ∷ []) (sym e)))
    (subst (AreOfTops members n A c tops (take k tops ++ t ∷ [])) (sym (ap (map rows_of) q ∙ map-append rows_of out parts))
    (of_more members n A c tops (take k tops) t (map rows_of out) (map rows_of parts) p a))

-- ---- levels

pub level_none : (members : Members) (n : ℕ) (A : List (List ℤ)) → IsLevel members n A [] []
level_none members n A = record { each = λ p k. absurd (none_in p k); every = λ c d k is. absurd (none_in c k) }

-- one cone more
pub level_next : (members : Members) (n : ℕ) (A : List (List ℤ)) (cs : List RowsAndRays) (c : RowsAndRays) (out parts new : List RowsAndRays) →
    IsLevel members n A (rows_of c ∷ []) (map rows_of parts) → new ≡ out ++ parts → IsLevel members n A (map rows_of cs) (map rows_of out) →
    IsLevel members n A (map rows_of (cs ++ c ∷ [])) (map rows_of new)
level_next members n A cs c out parts new p e a =
    subst (λ z. IsLevel members n A z (map rows_of new)) (sym (map-append rows_of cs (c ∷ [])))
    (subst (IsLevel members n A (map rows_of cs ++ rows_of c ∷ [])) (sym (ap (map rows_of) e ∙ map-append rows_of out parts))
    (level_join members n A (map rows_of cs) (rows_of c ∷ []) (map rows_of out) (map rows_of parts) a p))

pub all_joined : (n : ℕ) (out parts new : List RowsAndRays) → new ≡ out ++ parts → All (λ (c : RowsAndRays). c.ambient ≡ n) out →
    All (λ (c : RowsAndRays). c.ambient ≡ n) parts → All (λ (c : RowsAndRays). c.ambient ≡ n) new
all_joined n out parts new e a b = subst (All (λ (c : RowsAndRays). c.ambient ≡ n)) (sym e) (all_by (λ (c : RowsAndRays). c.ambient ≡ n) (out ++ parts) (λ c k.
    elim (Contains-append_cases out parts c k) [
      | inl i ↦ All-contains (λ (c : RowsAndRays). c.ambient ≡ n) out c a i
      | inr i ↦ All-contains (λ (c : RowsAndRays). c.ambient ≡ n) parts c b i
    ]))
