-- Vectors that passed at a basis. To cite: among, one_more, of_none, passed_none, passed_on, still_known, found_passes, passed_more, known_in_part,
-- passed_by_part.
use Rattle.std.proofs.Common.{◌≡◌, ◌∙◌, ◌⊎◌, if◌then◌else◌, ℕ, Bool, true, false, List, [], ◌∷◌, ◌++◌, ℤ, All, Contains, length, refl, sym, ap, subst, inl, inr}
use Rattle.std.specs.Bool.{Decides}
use Rattle.std.specs.List.{list_any}
use Rattle.std.specs.Ordering.{int_eq}
use Rattle.std.specs.Cmp.Lexicographic.{pointwise}
use Rattle.std.proofs.lemmas.Bool.Decides.{Decides-int_eq}
use Rattle.std.proofs.lemmas.Slice.Eq.{slice_eq-Decides}
use Rattle.std.proofs.lemmas.List.Elements.{All-contains, Contains-append_right}
use Rattle.indexmap.specs.IndexSet.{insert_key}
use Rattle.indexmap.proofs.CallerLemmas.{Contains-list_any}
use Rattle.gf_int_theory.proofs.ListLaws.{Contains-last}
use Rattle.gf_poly.specs.Marking.{MarkedPolynomial}
use Rattle.gf_duality_theory.specs.Faces.{Rows, IsInCone, IsInterior, part, cone_of}
use Rattle.gf_duality_theory.proofs.ListLaws.{none_in}
use Rattle.gf_duality_theory.proofs.Interior.{interior}
use Rattle.gf_fans_theory.specs.FaceLists.{numbered}
use Rattle.gf_fans_theory.proofs.FanLaws.{is_in, up_in, of_part}
use Rattle.gf_rays.specs.Cones.{RowsAndRays, rows_of}
use Rattle.gf_rays.specs.Faces.{AreFaces, IsPartBy}
use Rattle.gf_rays.specs.declared.faces.Face.{Face}
use Rattle.gf_initial_monomials.specs.Outcomes.{HasNoMonomialAt, TellsMonomial, PassesAt, vector_of}
use Rattle.gf_initial_monomials.specs.Cuts.{with_rows, IsPartAs}
use Rattle.gf_initial_monomials.specs.Passing.{AreKnownIn, HasPassedIn, ArePassedIn}

-- ---- the set of vectors

same_vectors : (x y : List ℤ) → Decides (pointwise int_eq x y) (x ≡ y)
same_vectors x y = slice_eq-Decides Decides-int_eq x y _ refl

-- what is found is there
pub among : (vs : List (List ℤ)) (v : List ℤ) → list_any (pointwise int_eq v) vs ≡ true → Contains vs v
among vs v e = Contains-list_any (pointwise int_eq) (λ x y g. (same_vectors x y).0 g) vs v e

added : (b : Bool) (vs : List (List ℤ)) (v u : List ℤ) → Contains (if b then vs else vs ++ v ∷ []) u → Contains vs u ⊎ (u ≡ v)
added true vs v u c = inl c
added false vs v u c = Contains-last vs v u c

-- one vector more
pub one_more : (vs next : List (List ℤ)) (v u : List ℤ) → next ≡ insert_key (pointwise int_eq) vs v → Contains next u → Contains vs u ⊎ (u ≡ v)
one_more vs next v u e c = added (list_any (pointwise int_eq v) vs) vs v u (subst (λ (z : List (List ℤ)). Contains z u) e c)

-- no vector is in the empty list
pub of_none : (vs next : List (List ℤ)) (u : List ℤ) → next ≡ [] → Contains next u → Contains vs u
of_none vs next u e c = absurd (none_in u (subst (λ (z : List (List ℤ)). Contains z u) e c))

-- ---- in a cone

pub passed_none : (n : ℕ) (bs : List MarkedPolynomial) (c : Rows) (vs : List (List ℤ)) → ArePassedIn n bs c vs vs
passed_none n bs c vs v k = inl k

pub passed_on : (n : ℕ) (bs : List MarkedPolynomial) (c : Rows) (old now next : List (List ℤ)) → ArePassedIn n bs c old now → ArePassedIn n bs c now next →
    ArePassedIn n bs c old next
passed_on n bs c old now next p q v k = elim (q v k) [ inl m ↦ p v m | inr h ↦ inr h ]

-- what passed is known
pub still_known : (n : ℕ) (bs : List MarkedPolynomial) (c : Rows) (old now : List (List ℤ)) → AreKnownIn n bs c old → ArePassedIn n bs c old now →
    AreKnownIn n bs c now
still_known n bs c old now known p v k l i = elim (p v k) [ inl o ↦ known v o l i | inr h ↦ h.none ]

-- ---- at a face

-- the vector of a face is in the cone
face_in : (c : RowsAndRays) (faces : List Face) (f : Face) → AreFaces c faces → Contains faces f →
    (length (vector_of c f) ≡ c.ambient) × IsInCone (rows_of c) (vector_of c f)
face_in c faces f a k =
    let p = All-contains (λ (g : Face). (zero : List (List ℤ)) × (All (Contains c.inequalities) zero × IsPartBy c zero g)) faces f a.each k in
    let i : IsInterior c.ambient (part (rows_of c) p.0) (vector_of c f) =
    interior c.ambient (part (rows_of c) p.0) c.lineality (numbered c.rays f.rays) p.1.1.are_rays in
    (i.width, of_part (rows_of c) p.0 (vector_of c f) i.inside)

-- a face whose vector is known passes
pub found_passes : (n : ℕ) (bs : List MarkedPolynomial) (c : RowsAndRays) (faces : List Face) (f : Face) (v : List ℤ) (vs : List (List ℤ)) → c.ambient ≡ n →
    AreFaces c faces → Contains faces f → v ≡ vector_of c f → AreKnownIn n bs (rows_of c) vs → Contains vs v → PassesAt bs c f
found_passes n bs c faces f v vs e a k q known h =
    let i = face_in c faces f a k in
    subst (λ m. HasNoMonomialAt m bs (vector_of c f)) (sym e) (known (vector_of c f) (subst (Contains vs) q h) (i.0 ∙ e) i.1)

-- the vector of a face that passes joins the others
pub passed_more : (n : ℕ) (bs : List MarkedPolynomial) (c : RowsAndRays) (faces : List Face) (f : Face) (v : List ℤ) (b : Bool) (old now next : List (List ℤ)) →
    c.ambient ≡ n → AreFaces c faces → Contains faces f → v ≡ vector_of c f → b ≡ false → TellsMonomial n bs v b →
    ((u : List ℤ) → Contains next u → Contains now u ⊎ (u ≡ v)) → ArePassedIn n bs (rows_of c) old now → ArePassedIn n bs (rows_of c) old next
passed_more n bs c faces f v b old now next e a k q t tells more p u m = elim (more u m) [
  | inl o ↦ p u o
  | inr s ↦ inr (subst (HasPassedIn n bs (rows_of c)) (sym s) here)
]
  where
    here : HasPassedIn n bs (rows_of c) v
    here =
        let i = face_in c faces f a k in
        record {
          long = ap (λ (z : List ℤ). length z) q ∙ i.0 ∙ e;
          inside = subst (IsInCone (rows_of c)) (sym q) i.1;
          none = subst (TellsMonomial n bs v) t tells;
        }

-- ---- in the part of a cone on which none of some rows is negative

in_rows : (c : Rows) (n : ℕ) (rows : List (List ℤ)) (d : RowsAndRays) (v : List ℤ) → IsPartAs c n rows d → length v ≡ n → IsInCone (rows_of d) v →
    IsInCone (cone_of rows) v
in_rows c n rows d v k l i =
    is_in (cone_of rows) v (λ h m. up_in (with_rows c rows) v h ((k.same v l).0 i) (Contains-append_right c.inequalities rows h m))
    (λ e m. absurd (none_in e m))

pub known_in_part : (n : ℕ) (bs : List MarkedPolynomial) (c : Rows) (rows : List (List ℤ)) (d : RowsAndRays) (vs : List (List ℤ)) → IsPartAs c n rows d →
    AreKnownIn n bs (cone_of rows) vs → AreKnownIn n bs (rows_of d) vs
known_in_part n bs c rows d vs k known v m l i = known v m l (in_rows c n rows d v k l i)

pub passed_by_part : (n : ℕ) (bs : List MarkedPolynomial) (c : Rows) (rows : List (List ℤ)) (d : RowsAndRays) (old new : List (List ℤ)) → IsPartAs c n rows d →
    ArePassedIn n bs (rows_of d) old new → ArePassedIn n bs (cone_of rows) old new
passed_by_part n bs c rows d old new k p v m = elim (p v m) [
  | inl o ↦ inl o
  | inr h ↦ inr (record { long = h.long; inside = in_rows c n rows d v k h.long h.inside; none = h.none })
]
