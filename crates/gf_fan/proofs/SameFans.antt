-- Fans that have the same cones have the same lists.
use Rattle.std.proofs.Common.{◌≡◌, ℕ, ◌<◌, List, [], ◌∷◌, ◌++◌, length, map, get_or, ℤ, AllPairs, Contains, arith, refl, sym, ap, ◌∙◌, subst, append-nil}
use Rattle.std.specs.Ordering.{int_cmp, nat_cmp}
use Rattle.std.specs.Cmp.Lexicographic.{slice_cmp}
use Rattle.std.specs.declared.cmp.Ordering.TheVariants.{Less}
use Rattle.std.proofs.lemmas.List.{get_or-map, length-map}
use Rattle.std.proofs.lemmas.List.Elements.{All-contains, Contains-get_or}
use Rattle.gf_int_theory.proofs.ListLaws.{Contains-here, all_by}
use Rattle.gf_duality_theory.specs.Generators.{Made}
use Rattle.gf_duality_theory.specs.Rays.{IsRays}
use Rattle.gf_duality_theory.specs.Faces.{SameCone}
use Rattle.gf_duality_theory.proofs.ListLaws.{none_in}
use Rattle.gf_duality_theory.proofs.Generated.{made-generated, generated-made}
use Rattle.gf_duality_theory.proofs.Echelon.{own_member}
use Rattle.gf_duality_theory.proofs.EchelonUnique.{same_ordered, no_widths, one_basis}
use Rattle.gf_duality_theory.proofs.Determined.{rays_determined, less_never}
use Rattle.gf_fans_theory.specs.Dimension.{HasDimension}
use Rattle.gf_fans_theory.specs.FaceLists.{AreNumbers, numbered}
use Rattle.gf_fans_theory.proofs.FanLaws.{same_turned}
use Rattle.gf_fans_theory.proofs.Ordered.{same_numbers}
use Rattle.gf_fans_theory.proofs.PartNumbers.{in_map, of_map, at_number, of_number, number_in}
use Rattle.gf_rays.specs.Cones.{RowsAndRays, rows_of}
use Rattle.gf_fan.specs.declared.cones.FanCone.{FanCone}
use Rattle.gf_fan.specs.Complement.{IsComplementBasis}
use Rattle.gf_fan.specs.FanLists.{FanLists, rank_of, numbers_of}
use Rattle.gf_fan.specs.FansOfCones.{IsFanOf, AreMaximal}
use Rattle.gf_fan.specs.SameCones.{HaveSameLists}
use Rattle.gf_fan.specs.Laws.{FansAreTheirCones}
use Rattle.gf_fan.proofs.FanConeLaws.{own_rays, one_dimension}
use Rattle.gf_fan.proofs.UnderMaximal.{lists_less_never}

-- ---- lists

-- the ranks of cones that stand by them ascend
ranks_ascend : (cones : List FanCone) → AllPairs (λ (k l : FanCone). slice_cmp nat_cmp (rank_of k) (rank_of l) ≡ Less) cones →
    AllPairs (λ x y. slice_cmp nat_cmp x y ≡ Less) (map rank_of cones)
ranks_ascend [] a i j d h l = absurd (omega (arith, l))
ranks_ascend (c ∷ cs) a i j d h l =
    let long = length-map (c ∷ cs) rank_of in
    let hj : j < length (c ∷ cs) = omega (arith, l, long) in
    subst (λ z. slice_cmp nat_cmp z (get_or (map rank_of (c ∷ cs)) j d) ≡ Less) (sym (get_or-map rank_of (c ∷ cs) i c d (omega (arith, h, hj))))
    (subst (λ z. slice_cmp nat_cmp (rank_of (get_or (c ∷ cs) i c)) z ≡ Less) (sym (get_or-map rank_of (c ∷ cs) j c d hj)) (a i j c h hj))

-- the numbers in a rank
behind : List ℕ → List ℕ
behind [] = []
behind (x ∷ xs) = xs

numbers_behind : (cones : List FanCone) → map behind (map rank_of cones) ≡ numbers_of cones
unfolding behind
numbers_behind [] = refl
numbers_behind (c ∷ cs) = ap (λ l. c.numbers ∷ l) (numbers_behind cs)

same_maximal : (xs ys : List (List ℕ)) (p q : List ℕ) → ys ≡ xs → AreMaximal xs p → AreMaximal ys q → q ≡ p
same_maximal xs ys p q e a b =
    let c : AreMaximal xs q = subst (λ z. AreMaximal z q) e b in
    same_numbers q p c.ascending a.ascending (λ i k. a.every i (c.each i k)) (λ i k. c.every i (a.each i k))

-- rays with numbers are rays
number_listed : (rays : List (List ℤ)) (numbers : List ℕ) (v : List ℤ) → AreNumbers rays numbers → Contains (numbered rays numbers) v → Contains rays v
number_listed rays numbers v a c =
    let m = of_number rays numbers v c in
    let h : m.0 < length rays = All-contains (λ i. i < length rays) numbers m.0 a.inside m.1.0 in
    subst (Contains rays) m.1.1 (Contains-get_or rays m.0 [] h)

-- numbers of the same vectors
same_numbered : (rays : List (List ℤ)) (xs ys : List ℕ) → AllPairs (λ x y. slice_cmp int_cmp x y ≡ Less) rays → AreNumbers rays xs → AreNumbers rays ys →
    numbered rays xs ≡ numbered rays ys → xs ≡ ys
same_numbered rays xs ys a p q e = same_numbers xs ys p.ascending q.ascending
    (λ i c. number_in rays ys i a q (All-contains (λ j. j < length rays) xs i p.inside c)
    (subst (λ l. Contains l (get_or rays i [])) e (at_number rays xs i c)))
    (λ i c. number_in rays xs i a p (All-contains (λ j. j < length rays) ys i q.inside c) (subst (λ l. Contains l (get_or rays i [])) (sym e)
    (at_number rays ys i c)))

none_given : {X : Type 0} (xs : List X) → ((x : X) → Contains xs x → ⊥) → xs ≡ []
none_given [] f = refl
none_given (x ∷ xs) f = absurd (f x (Contains-here x xs))

-- one basis of what is orthogonal
one_complement : (n : ℕ) (lin lines xs ys : List (List ℤ)) → lines ≡ lin → IsComplementBasis n lin xs → IsComplementBasis n lines ys → ys ≡ xs
one_complement n lin lines xs ys e a b = one_basis n ys xs c.width a.width c.echelon a.echelon (within ys xs c a) (within xs ys a c)
  where
    c : IsComplementBasis n lin ys
    c = subst (λ z. IsComplementBasis n z ys) e b

    within : (us vs : List (List ℤ)) → IsComplementBasis n lin us → IsComplementBasis n lin vs → (v : List ℤ) → Contains us v → Made n [] vs v
    within us vs p q v k =
        let lv : length v ≡ n = All-contains (λ t. length t ≡ n) us v p.width k in
        generated-made n [] vs v (no_widths n) q.width ((q.spans v lv).0
        ((p.spans v lv).1 (made-generated n [] us v (no_widths n) p.width (own_member n us v lv k))))

-- ---- one way

-- each cone of f is one of g
abbrev AreAmong : ℕ → FanLists → FanLists → Type 0
AreAmong n f g = (k : FanCone) → Contains f.cones k → (l : FanCone) × (Contains g.cones l × SameCone n (rows_of k.cone) (rows_of l.cone))

-- a cone that a fan is of is one of its cones
given_cone : (n : ℕ) (given : List RowsAndRays) (f : FanLists) (c : RowsAndRays) → IsFanOf n given f → Contains given c →
    (k : FanCone) × (Contains f.cones k × (c.rays ≡ numbered f.rays k.numbers))
given_cone n given f c s i =
    let a = s.cones.every c [] i (all_by (Contains c.inequalities) [] (λ t k. absurd (none_in t k))) in
    let k : FanCone = a.1 in let some : List (List ℤ) = numbered f.rays k.numbers in
    let r : IsRays n c.inequalities c.equations f.lineality some =
    subst (λ z. IsRays n c.inequalities z f.lineality some) (append-nil c.equations) a.4.are_rays in
    (k, ((a.0, a.2, a.3), (rays_determined n (rows_of c) (rows_of c) c.lineality c.rays f.lineality some (λ v l. (λ x. x, λ x. x)) (s.own c i) r).1))

module _ (n : ℕ) (ps qs : List RowsAndRays) (f g : FanLists) (s : IsFanOf n ps f) (t : IsFanOf n qs g) where
  -- the lineality basis and the rays of a cone
  parts_of : (k l : FanCone) → Contains f.cones k → Contains g.cones l → SameCone n (rows_of k.cone) (rows_of l.cone) →
      (f.lineality ≡ g.lineality) × (numbered f.rays k.numbers ≡ numbered g.rays l.numbers)
  parts_of k l ck cl w = rays_determined n (rows_of k.cone) (rows_of l.cone) f.lineality (numbered f.rays k.numbers) g.lineality (numbered g.rays l.numbers) w
      (own_rays n ps f.lineality f.rays k (s.cones.each k ck)) (own_rays n qs g.lineality g.rays l (t.cones.each l cl))

  rays_among : AreAmong n f g → (r : List ℤ) → Contains f.rays r → Contains g.rays r
  rays_among w r c =
      let x = s.rays.each r c in
      let k = given_cone n ps f x.0 s x.1.0 in
      let l = w k.0 k.1.0 in
      let e = (parts_of k.0 l.0 k.1.0 l.1.0 l.1.1).1 in
      number_listed g.rays l.0.numbers r (t.cones.each l.0 l.1.0).face.listed (subst (λ z. Contains z r) (k.1.1 ∙ e) x.1.1)

  none_among : AreAmong n g f → f.cones ≡ [] → qs ≡ []
  none_among w e = none_given qs (λ d i. (
      let l = given_cone n qs g d t i in
      let k = w l.0 l.1.0 in
      none_in k.0 (subst (λ z. Contains z k.0) e k.1.0)))

  same_lineality : AreAmong n f g → AreAmong n g f → (own : f.cones ≡ [] → ps ≡ []) → (ks : List FanCone) → f.cones ≡ ks → f.lineality ≡ g.lineality
  same_lineality w u own [] e = s.lineality.none (own e) ∙ sym (t.lineality.none (none_among u e))
  same_lineality w u own (k ∷ ks) e =
      let c : Contains f.cones k = subst (λ z. Contains z k) (sym e) (Contains-here k ks) in
      let l = w k c in
      (parts_of k l.0 c l.1.0 l.1.1).0

  -- where it stands
  same_rank : f.lineality ≡ g.lineality → f.rays ≡ g.rays → (k l : FanCone) → Contains f.cones k → Contains g.cones l →
      SameCone n (rows_of k.cone) (rows_of l.cone) → rank_of k ≡ rank_of l
  same_rank el er k l ck cl w =
      let a = s.cones.each k ck in let b = t.cones.each l cl in
      let listed : AreNumbers f.rays l.numbers = subst (λ z. AreNumbers z l.numbers) (sym er) b.face.listed in
      let spans : HasDimension n (numbered f.rays l.numbers ++ f.lineality) l.dim = subst (λ z. HasDimension n (numbered f.rays l.numbers ++ z) l.dim) (sym el)
      (subst (λ z. HasDimension n (numbered z l.numbers ++ g.lineality) l.dim) (sym er) b.face.spans) in
      let e : numbered f.rays k.numbers ≡ numbered f.rays l.numbers =
      subst (λ z. numbered f.rays k.numbers ≡ numbered z l.numbers) (sym er) (parts_of k l ck cl w).1 in
      one_dimension n ps f.lineality f.rays k l a spans (same_numbered f.rays k.numbers l.numbers s.rays.ascending a.face.listed listed e)

  ranks_among : f.lineality ≡ g.lineality → f.rays ≡ g.rays → AreAmong n f g → (x : List ℕ) → Contains (map rank_of f.cones) x →
      Contains (map rank_of g.cones) x
  ranks_among el er w x c =
      let k = of_map rank_of f.cones x c in
      let l = w k.0 k.1.0 in
      subst (Contains (map rank_of g.cones)) (sym (same_rank el er k.0 l.0 k.1.0 l.1.0 l.1.1) ∙ k.1.1) (in_map rank_of g.cones l.0 l.1.0)

-- ---- both ways

turned : (n : ℕ) (f g : FanLists) → ((k : FanCone) → Contains g.cones k → (l : FanCone) × (Contains f.cones l × SameCone n (rows_of l.cone) (rows_of k.cone))) →
    AreAmong n g f
turned n f g w k c = let l = w k c in (l.0, (l.1.0, same_turned n (rows_of l.0.cone) (rows_of k.cone) l.1.1))

lists_of : (n : ℕ) (ps qs : List RowsAndRays) (f g : FanLists) → IsFanOf n ps f → IsFanOf n qs g → AreAmong n f g → AreAmong n g f → HaveSameLists f g
lists_of n ps qs f g s t w u =
    let own : f.cones ≡ [] → ps ≡ [] = λ e. none_given ps (λ c i. (let k = given_cone n ps f c s i in none_in k.0 (subst (λ z. Contains z k.0) e k.1.0))) in
    let el : f.lineality ≡ g.lineality = same_lineality n ps qs f g s t w u own f.cones refl in
    let er : f.rays ≡ g.rays = same_ordered (λ x y. slice_cmp int_cmp x y ≡ Less) f.rays g.rays (λ x y cx cy a b. less_never x y a b)
    s.rays.ascending t.rays.ascending (rays_among n ps qs f g s t w) (rays_among n qs ps g f t s u) in
    let ranks : map rank_of g.cones ≡ map rank_of f.cones = same_ordered (λ x y. slice_cmp nat_cmp x y ≡ Less) (map rank_of g.cones) (map rank_of f.cones)
    (λ x y cx cy a b. lists_less_never x y a b)
    (ranks_ascend g.cones t.cones.ordered) (ranks_ascend f.cones s.cones.ordered) (ranks_among n qs ps g f t s (sym el) (sym er) u)
    (ranks_among n ps qs f g s t el er w) in
    let numbers : numbers_of g.cones ≡ numbers_of f.cones = sym (numbers_behind g.cones) ∙ ap (map behind) ranks ∙ numbers_behind f.cones in
    record {
      ambient = t.ambient ∙ sym s.ambient;
      lineality = sym el;
      orthogonal = one_complement n f.lineality g.lineality f.orthogonal g.orthogonal (sym el) s.orthogonal t.orthogonal;
      rays = sym er;
      cones = ranks;
      maximal = same_maximal (numbers_of f.cones) (numbers_of g.cones) f.maximal g.maximal numbers s.maximal t.maximal;
    }

pub fans_are_their_cones : FansAreTheirCones
fans_are_their_cones = λ f g s t w. lists_of f.ambient s.0 t.0 f g s.1 (subst (λ z. IsFanOf z t.0 g) w.ambient t.1) w.every (turned f.ambient f g w.each)
