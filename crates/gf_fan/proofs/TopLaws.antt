-- A cone is maximal unless one of those that the fan is of has all its rays and more.
use Rattle.std.proofs.Common.{◌≡◌, ℕ, ◌+◌, ◌<◌, List, [], ◌∷◌, ◌++◌, length, take, get_or, ℤ, All, AllPairs, Contains, refl, sym, ap, ◌∙◌, subst, inl, inr}
use Rattle.std.proofs.Common.{arith, slice_get, Some, Bool, true, nat_eq}
use Rattle.std.specs.List.{list_any}
use Rattle.std.specs.Ordering.{int_cmp, nat_cmp}
use Rattle.std.specs.Cmp.Lexicographic.{slice_cmp, pointwise}
use Rattle.std.specs.declared.cmp.Ordering.TheVariants.{Less}
use Rattle.std.proofs.lemmas.Bool.{cases_eq}
use Rattle.std.proofs.lemmas.Option.{same_Some}
use Rattle.std.proofs.lemmas.List.{get_or_default, get_or-map, take_more}
use Rattle.std.proofs.lemmas.List.Elements.{All-contains, Contains-get_or}
use Rattle.std.proofs.lemmas.List.Folds.{list_any_at}
use Rattle.indexmap.specs.IndexSet.{insert_key}
use Rattle.indexmap.proofs.CallerLemmas.{Contains-list_any, Contains-insert_key}
use Rattle.gf_int_theory.proofs.ListLaws.{Contains-last, all_by}
use Rattle.gf_duality_theory.specs.Faces.{Rows, SameCone, part}
use Rattle.gf_duality_theory.specs.Rays.{IsRays}
use Rattle.gf_duality_theory.proofs.Determined.{rays_determined}
use Rattle.gf_duality_theory.proofs.ListLaws.{none_in, index, less, at, more}
use Rattle.gf_fans_theory.specs.FaceLists.{IsFaceBy, AreNumbers, numbered}
use Rattle.gf_fans_theory.proofs.FanLaws.{face_has, part_in, of_part}
use Rattle.gf_fans_theory.proofs.Ordered.{within_all, same_numbers, decide_same}
use Rattle.gf_fans_theory.proofs.PartNumbers.{in_map, of_map, at_number, number_in}
use Rattle.gf_rays.specs.Cones.{RowsAndRays, rows_of}
use Rattle.gf_fan.specs.declared.cones.FanCone.{FanCone}
use Rattle.gf_fan.specs.FanLists.{rank_of, numbers_of}
use Rattle.gf_fan.specs.FansOfCones.{IsCommonLineality, AreCommonRays, IsFanCone, AreAllFaces, IsMaximalAt}
use Rattle.gf_fan.specs.Parts.{HaveTheirRays}
use Rattle.gf_fan.specs.Tops.{IsTop, AreTopsBefore, AreTopsOf}
use Rattle.gf_fan.proofs.FanConeLaws.{own_rays, own_face, one_dimension}
use Rattle.gf_fan.proofs.MaximalLaws.{numbers_long}
use Rattle.gf_fan.proofs.NumberLaws.{at_get, numbers_ascend, kept_by, cases_by}
use Rattle.gf_fan.proofs.UnderMaximal.{lists_less_never}

-- ---- among lists

-- unless one of those has all its numbers and more
pub maximal_by_tops : (lists tops : List (List ℕ)) (i : ℕ) → AreTopsOf lists tops → i < length lists →
    ((t : List ℕ) → Contains tops t → (length t ≡ length (get_or lists i []) → ⊥) → All (Contains t) (get_or lists i []) → ⊥) → IsMaximalAt lists i
maximal_by_tops lists tops i a hi none = record {
  inside = hi;
  alone = λ j hj d w.
      let xs : List ℕ = get_or lists i [] in let ys : List ℕ = get_or lists j [] in
      let cx : Contains lists xs = Contains-get_or lists i [] hi in let cy : Contains lists ys = Contains-get_or lists j [] hj in
      let o = a.over ys cy in let t : List ℕ = o.0 in
      let xy : (x : ℕ) → Contains xs x → Contains ys x = λ x c. All-contains (Contains ys) xs x w c in
      let yt : (y : ℕ) → Contains ys y → Contains t y = λ y c. All-contains (Contains t) ys y o.1.1 c in
      elim (cases_eq (length t) (length xs)) [
        | inr n ↦ none t o.1.0 n (all_by (Contains t) xs (λ x c. yt x (xy x c)))
        | inl e ↦
            let tx = within_all xs t (a.ascending xs cx) (a.ascending t (a.listed t o.1.0)) (λ x c. yt x (xy x c)) (omega (arith, e)) in
            let same : xs ≡ ys = same_numbers xs ys (a.ascending xs cx) (a.ascending ys cy) xy (λ y c. tx y (yt y c)) in
            elim (index i j) [
              | at q ↦ d (sym q)
              | more h ↦ a.once i j [] h hj same
              | less h ↦ a.once j i [] h hi (sym same)
            ]
      ];
}

pub not_maximal : (lists tops : List (List ℕ)) (i : ℕ) (t : List ℕ) → AreTopsOf lists tops → Contains tops t → (length t ≡ length (get_or lists i []) → ⊥) →
    All (Contains t) (get_or lists i []) → IsMaximalAt lists i → ⊥
not_maximal lists tops i t a c d w m =
    let k = a.listed t c in
    let e : get_or lists k.0 [] ≡ t = get_or_default lists k.0 [] t k.1 ∙ k.2 in
    m.alone k.0 k.1 (λ q. d (ap (λ (z : List ℕ). length z) (sym e) ∙ ap (λ j. length (get_or lists j [])) q))
    (subst (λ (z : List ℕ). All (Contains z) (get_or lists i [])) (sym e) w)

-- it is one of those
pub maximal_is_top : (lists tops : List (List ℕ)) (i : ℕ) → AreTopsOf lists tops → IsMaximalAt lists i → Contains tops (get_or lists i [])
maximal_is_top lists tops i a m =
    let xs : List ℕ = get_or lists i [] in
    let cx : Contains lists xs = Contains-get_or lists i [] m.inside in
    let o = a.over xs cx in let t : List ℕ = o.0 in
    let up : AllPairs (λ j k. j < k) t = a.ascending t (a.listed t o.1.0) in
    let xt : (x : ℕ) → Contains xs x → Contains t x = λ x c. All-contains (Contains t) xs x o.1.1 c in
    elim (cases_eq (length t) (length xs)) [
      | inr n ↦ absurd (not_maximal lists tops i t a o.1.0 n o.1.1 m)
      | inl e ↦
          let same : xs ≡ t = same_numbers xs t (a.ascending xs cx) up xt (within_all xs t (a.ascending xs cx) up xt (omega (arith, e))) in
          subst (Contains tops) (sym same) o.1.0
    ]

-- whether a list is one of those
pub listed_by : (lists : List (List ℕ)) (own : List ℕ) → list_any (pointwise nat_eq own) lists ≡ true → Contains lists own
listed_by lists own e = Contains-list_any (pointwise nat_eq) (λ x y g. (decide_same x y).0 g) lists own e

pub found_by : (lists : List (List ℕ)) (own : List ℕ) → Contains lists own → list_any (pointwise nat_eq own) lists ≡ true
found_by lists own c = list_any_at (pointwise nat_eq own) lists c.0 own c.1 ((decide_same own (get_or lists c.0 own)).1 (sym c.2))

-- one list further
pub none_further : (own : List ℕ) (tops : List (List ℕ)) (k : ℕ) (t : List ℕ) → k < length tops → t ≡ get_or tops k t →
    ((length t ≡ length own → ⊥) → All (Contains t) own → ⊥) → ((s : List ℕ) → Contains (take k tops) s → (length s ≡ length own → ⊥) → All (Contains s) own →
    ⊥) → (s : List ℕ) → Contains (take (k + 1) tops) s → (length s ≡ length own → ⊥) → All (Contains s) own → ⊥
none_further own tops k t h e n f s c = elim (Contains-last (take k tops) t s
    (subst (λ (z : List (List ℕ)). Contains z s) (take_more tops k t h ∙ ap (λ (z : List ℕ). take k tops ++ z ∷ []) (sym e)) c)) [
      | inl b ↦ f s b
      | inr q ↦ λ d w. n (λ z. d (ap (λ (x : List ℕ). length x) q ∙ z)) (subst (λ (z : List ℕ). All (Contains z) own) q w)
    ]

-- ---- the numbers of the rays of cones

pub tops_more : (cones : List RowsAndRays) (rays : List (List ℤ)) (i : ℕ) (c : RowsAndRays) (t : List ℕ) (out new : List (List ℕ)) → i < length cones →
    c ≡ get_or cones i c → new ≡ insert_key (pointwise nat_eq) out t → IsTop rays c t → AreTopsBefore cones rays i out → AreTopsBefore cones rays (i + 1) new
tops_more cones rays i c t out new h e en top s =
    let b : Bool = list_any (pointwise nat_eq t) out in
    subst (AreTopsBefore cones rays (i + 1)) (sym en) (record {
      each = λ x k. elim (cases_by b out t x k) [ inl d ↦ s.each x d | inr q ↦ (c, ((i, h, sym e), subst (IsTop rays c) (sym q) top)) ];
      every = λ j d hj there. elim (cases_eq j i) [
        | inr n ↦ let w = s.every j d (omega (arith, hj, n)) there in (w.0, (kept_by b out t w.0 w.1.0, w.1.1))
        | inl q ↦
            let same : Some d ≡ Some c = sym there ∙ ap (slice_get cones) q ∙ at_get cones i c h e in (
              t,
              (
                Contains-insert_key (pointwise nat_eq) (λ x y g. (decide_same x y).0 g) out t,
                subst (λ (z : RowsAndRays). IsTop rays z t) (sym (same_Some d c same)) top,
              ),
            )
      ];
    })

-- ---- of a fan

module _ (n : ℕ) (cones : List RowsAndRays) (lin rays : List (List ℤ)) (members : List FanCone) (own : HaveTheirRays n cones)
    (lines : IsCommonLineality cones lin) (common : AreCommonRays cones rays) (faces : AreAllFaces n cones lin rays members) where
  rays_of_given : (c : RowsAndRays) → Contains cones c → IsRays n c.inequalities c.equations lin c.rays
  rays_of_given c k = subst (λ l. IsRays n c.inequalities c.equations l c.rays) (lines.each c k) (own c k)

  numbers_of_top : (c : RowsAndRays) (t : List ℕ) → Contains cones c → IsTop rays c t → AreNumbers rays t
  numbers_of_top c t k top = numbers_ascend rays t common.ascending top.0 (subst (λ (z : List (List ℤ)). AllPairs (λ x y. slice_cmp int_cmp x y ≡ Less) z)
      (sym top.1) (own c k).ascending)

  -- numbers of the same vectors
  numbers_within : (xs ys : List ℕ) → AreNumbers rays xs → AreNumbers rays ys → ((v : List ℤ) → Contains (numbered rays xs) v → Contains (numbered rays ys) v) →
      (i : ℕ) → Contains xs i → Contains ys i
  numbers_within xs ys a b f i c = number_in rays ys i common.ascending b (All-contains (λ j. j < length rays) xs i a.inside c)
      (f (get_or rays i []) (at_number rays xs i c))

  top_listed : (c : RowsAndRays) (t : List ℕ) → Contains cones c → IsTop rays c t → Contains (numbers_of members) t
  top_listed c t k top =
      let a = faces.every c [] k (all_by (Contains c.inequalities) [] (λ x i. absurd (none_in x i))) in
      let m : FanCone = a.1 in
      let face : IsFaceBy n (rows_of c) lin rays [] m.numbers m.dim = a.4 in
      let whole : SameCone n (part (rows_of c) []) (rows_of c) =
      λ v lv. (λ i. of_part (rows_of c) [] v i, λ i. part_in (rows_of c) [] v i (λ x j. absurd (none_in x j))) in
      let e : numbered rays m.numbers ≡ c.rays =
      (rays_determined n (part (rows_of c) []) (rows_of c) lin (numbered rays m.numbers) lin c.rays whole face.are_rays (rays_of_given c k)).1 in
      let nt = numbers_of_top c t k top in
      let same : m.numbers ≡ t = same_numbers m.numbers t face.listed.ascending nt.ascending
      (numbers_within m.numbers t face.listed nt (λ v i. subst (λ (z : List (List ℤ)). Contains z v) (e ∙ sym top.1) i))
      (numbers_within t m.numbers nt face.listed (λ v i. subst (λ (z : List (List ℤ)). Contains z v) (top.1 ∙ sym e) i)) in
      subst (Contains (numbers_of members)) same (in_map (λ (x : FanCone). x.numbers) members m (a.0, a.2, a.3))

  over_cone : (k : FanCone) (c : RowsAndRays) (t : List ℕ) → (a : IsFanCone n cones lin rays k) → a.origin ≡ c → IsTop rays c t → Contains cones c →
      All (Contains t) k.numbers
  over_cone k c t a eo top kc =
      let o : RowsAndRays = a.origin in
      let d : Rows = rows_of o in
      let g = face_has n (rows_of k.cone) d lin o.rays (rays_of_given o a.listed) (own_face n cones lin rays k a) in
      let e : g.0 ≡ numbered rays k.numbers = (rays_determined n (rows_of k.cone) (rows_of k.cone) lin g.0 lin (numbered rays k.numbers)
      (λ v lv. (λ i. i, λ i. i)) g.1.1 (own_rays n cones lin rays k a)).1 in
      all_by (Contains t) k.numbers (numbers_within k.numbers t a.face.listed (numbers_of_top c t kc top) (λ v i.
      subst (λ (z : List (List ℤ)). Contains z v) (ap (λ (z : RowsAndRays). z.rays) eo ∙ sym top.1)
      (g.1.0.each v (subst (λ (z : List (List ℤ)). Contains z v) (sym e) i)).0))

  pub tops_of : (tops : List (List ℕ)) → AreTopsBefore cones rays (length cones) tops → AreTopsOf (numbers_of members) tops
  tops_of tops s = record {
    listed = λ t c. let w = s.each t c in top_listed w.0 t w.1.0 w.1.1;
    over = λ x c.
        let m = of_map (λ (z : FanCone). z.numbers) members x c in
        let a = faces.each m.0 m.1.0 in let o = a.listed in
        let w = s.every o.0 a.origin o.1 (at_get cones o.0 a.origin o.1 (sym o.2)) in
        (w.0, (w.1.0, subst (All (Contains w.0)) m.1.1 (over_cone m.0 a.origin w.0 a refl w.1.1 a.listed)));
    ascending = λ x c. let m = of_map (λ (z : FanCone). z.numbers) members x c in
        subst (AllPairs (λ i j. i < j)) m.1.1 (faces.each m.0 m.1.0).face.listed.ascending;
    once = λ i j d h l e.
        let long = numbers_long members in
        let hj : j < length members = omega (arith, l, long) in let hi : i < length members = omega (arith, h, hj) in
        let x : FanCone = (some members j hj) in
        let p : FanCone = get_or members i x in let q : FanCone = get_or members j x in
        let a = faces.each p (Contains-get_or members i x hi) in let b = faces.each q (Contains-get_or members j x hj) in
        let same : p.numbers ≡ q.numbers = sym (get_or-map (λ (z : FanCone). z.numbers) members i x d hi) ∙ e ∙ get_or-map (λ (z : FanCone). z.numbers)
        members j x d hj in
        let r : rank_of p ≡ rank_of q = one_dimension n cones lin rays p q a b.face.spans same in
        let t : slice_cmp nat_cmp (rank_of p) (rank_of p) ≡ Less = subst (λ z. slice_cmp nat_cmp (rank_of p) z ≡ Less) (sym r) (faces.ordered i j x h hj) in
        lists_less_never (rank_of p) (rank_of p) t t;
  }
    where
      some : {X : Type 0} (xs : List X) (i : ℕ) → i < length xs → X
      some [] i h = absurd (omega (arith, h))
      some (x ∷ xs) i h = x
