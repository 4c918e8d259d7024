-- What is written of a fan is a file whose cones can be built, and is within the limits of fan files.
-- To cite: ray_outside, of_places, sum_inside, sum_inside_read, fan_interiors, fan_sums, written_fans_are_sound, written_cones_are_read, cones_writable,
-- fan_ray_rows, fan_lineality, fan_orthogonal, writable_along, fan_writable. The rest are steps.
use Rattle.std.proofs.Common.{◌≡◌, ℕ, zero, suc, ◌<◌, ◌≤◌, List, [], ◌∷◌, ◌++◌, length, map, get_or, slice_get, remove, Option, None, Some, All, Contains, ℤ}
use Rattle.std.proofs.Common.{refl, sym, ap, ◌∙◌, subst, inl, inr, arith}
use Rattle.std.specs.List.{AllZip}
use Rattle.std.proofs.lemmas.List.{get_or_default, length-map}
use Rattle.std.proofs.lemmas.List.Elements.{All-contains}
use Rattle.std.proofs.lemmas.Option.{slice_get_within, get_or_from_slice_get}
use Rattle.gf_int_theory.proofs.ListLaws.{all_by, Contains-here}
use Rattle.gf_gordan.specs.Alternative.{AreRows}
use Rattle.gf_duality_theory.specs.Rays.{IsRays, Generated}
use Rattle.gf_duality_theory.proofs.ListLaws.{in_tail, in_cons, none_in, of_rest}
use Rattle.gf_duality_theory.proofs.Made.{span-made}
use Rattle.gf_duality_theory.proofs.Generated.{made-generated, generated-made}
use Rattle.gf_duality_theory.proofs.EchelonUnique.{no_widths}
use Rattle.gf_duality_theory.specs.Faces.{SameCone, IsInterior, sum_of}
use Rattle.gf_duality_theory.proofs.Interior.{interior}
use Rattle.gf_duality_theory.proofs.Determined.{rays_determined}
use Rattle.gf_fans_theory.specs.FaceLists.{numbered}
use Rattle.gf_fans_theory.proofs.PartNumbers.{in_map, of_map}
use Rattle.gf_rays.specs.Cones.{RowsAndRays, rows_of}
use Rattle.gf_fan.specs.declared.cones.FanCone.{FanCone}
use Rattle.gf_fan.specs.FanLists.{FanLists}
use Rattle.gf_fan.specs.Parts.{HaveTheirRays}
use Rattle.gf_fan.specs.FansOfCones.{IsFanOf, IsFan, IsCommonLineality}
use Rattle.gf_fan.proofs.FanConeLaws.{own_rays}
use Rattle.gf_text.specs.declared.TheConstants.{MOST_VARIABLES}
use Rattle.gf_fan_files.specs.declared.parts.ListedCone.{ListedCone}
use Rattle.gf_fan_files.specs.ConeText.{most_number}
use Rattle.gf_fan_files.specs.Files.{IsOutside, AreBelow}
use Rattle.gf_fan_files.specs.FansAgain.{AreWritable, IsWritableCone, IsWritable, file_of}
use Rattle.gf_fan_files.specs.FanTexts.{listed_cone, listed_cones, one_listed, listed_at, interiors_of, parts_of_fan, AreSumsWithin}
use Rattle.gf_fan_files.specs.FilesFans.{IsGeneratedCone}
use Rattle.gf_fan_files.specs.WrittenFans.{WrittenFansAreSound, IsConeAt, WrittenConesAreRead}

-- ---- rays and the lineality space

rest_rows : (n : ℕ) (rays : List (List ℤ)) (i : ℕ) → i < length rays → AreRows n rays → AreRows n (remove rays i)
rest_rows n rays i l w = all_by (λ (t : List ℤ). length t ≡ n) (remove rays i) (λ x c. All-contains (λ (t : List ℤ). length t ≡ n) rays x w
    (of_rest rays i x l c))

-- a ray is not in the lineality space
pub ray_outside : (n : ℕ) (hs es lin rays : List (List ℤ)) (r : List ℤ) → IsRays n hs es lin rays → Contains rays r → IsOutside n lin r
ray_outside n hs es lin rays r s c g =
    let rest = rest_rows n rays c.0 c.1 s.rays_width in
    let made = span-made n (remove rays c.0) lin r (generated-made n [] lin r (no_widths n) s.lin_width g) in
    let other : Generated n (remove rays c.0) lin r = made-generated n (remove rays c.0) lin r rest s.lin_width made in
    s.minimal c.0 c.1 (subst (Generated n (remove rays c.0) lin) (sym c.2 ∙ get_or_default rays c.0 r [] c.1) other)

lineality_rows : (n : ℕ) (given : List RowsAndRays) (lin : List (List ℤ)) → HaveTheirRays n given → IsCommonLineality given lin → AreRows n lin
lineality_rows n [] lin h c = subst (AreRows n) (sym (c.none refl)) (no_widths n)
lineality_rows n (x ∷ given) lin h c = subst (AreRows n) (c.each x (Contains-here x given)) (h x (Contains-here x given)).lin_width

module _ (n : ℕ) (given : List RowsAndRays) (f : FanLists) (s : IsFanOf n given f) where
  fan_rays : AreRows n f.rays
  fan_rays = all_by (λ (t : List ℤ). length t ≡ n) f.rays (λ r k. (
      let c = s.rays.each r k in
      All-contains (λ (t : List ℤ). length t ≡ n) c.0.rays r (s.own c.0 c.1.0).rays_width c.1.1))

  fan_outside : All (IsOutside n f.lineality) f.rays
  fan_outside = all_by (IsOutside n f.lineality) f.rays (λ r k. (
      let c = s.rays.each r k in
      subst (λ l. IsOutside n l r) (s.lineality.each c.0 c.1.0) (ray_outside n c.0.inequalities c.0.equations c.0.lineality c.0.rays r (s.own c.0 c.1.0)
      c.1.1)))

-- the cone of these rays of a fan
abbrev IsGenerated : ℕ → FanLists → List ℕ → RowsAndRays → Type 0
IsGenerated n f numbers c = IsGeneratedCone n (numbered f.rays numbers) f.lineality c

-- ---- numbers

-- the cones at some places are some of the cones
pub of_places : (cones : List FanCone) (places : List ℕ) (c : ListedCone) → Contains (listed_at cones places) c →
    (k : FanCone) × (Contains cones k × (listed_cone k ≡ c))
of_places cones [] c k = absurd (none_in c k)
of_places cones (i ∷ places) c k = at (slice_get cones i) refl k (of_places cones places c)
  where
    at : (o : Option FanCone) → slice_get cones i ≡ o → Contains (one_listed o ++ listed_at cones places) c →
        (Contains (listed_at cones places) c → (x : FanCone) × (Contains cones x × (listed_cone x ≡ c))) →
        (x : FanCone) × (Contains cones x × (listed_cone x ≡ c))
    at None e m later = later m
    at (Some x) e m later = elim (in_cons (listed_cone x) (listed_at cones places) c m) [
      | inl is ↦ (x, ((i, slice_get_within cones i x e, get_or_from_slice_get cones i x x e), sym is))
      | inr rest ↦ later rest
    ]

numbers_below : (n : ℕ) (given : List RowsAndRays) (f : FanLists) → IsFanOf n given f → All (AreBelow (length f.rays)) (file_of (parts_of_fan f)).cones
numbers_below n given f s = all_by (AreBelow (length f.rays)) (file_of (parts_of_fan f)).cones (λ ns c.
    let m = of_map (λ (k : ListedCone). k.rays) (listed_at f.cones f.maximal) ns c in
    let k = of_places f.cones f.maximal m.0 m.1.0 in
    let same : k.0.numbers ≡ ns = ap (λ (x : ListedCone). x.rays) k.1.1 ∙ m.1.1 in
    subst (AreBelow (length f.rays)) same (s.cones.each k.0 k.1.0).face.listed.inside)

-- ---- the sums of the rays of the maximal cones

module _ (n : ℕ) (given : List RowsAndRays) (f : FanLists) (s : IsFanOf n given f) where
  -- each lies inside its cone
  pub sum_inside : (k : FanCone) → Contains f.cones k → IsInterior n (rows_of k.cone) (sum_of n (numbered f.rays k.numbers))
  sum_inside k i = interior n (rows_of k.cone) f.lineality (numbered f.rays k.numbers) (own_rays n given f.lineality f.rays k (s.cones.each k i))

  sum_rows : AreRows n (interiors_of n f.rays (listed_at f.cones f.maximal))
  sum_rows = all_by (λ (t : List ℤ). length t ≡ n) (interiors_of n f.rays (listed_at f.cones f.maximal)) (λ t c.
      let m = of_map (λ (x : ListedCone). sum_of n (numbered f.rays x.rays)) (listed_at f.cones f.maximal) t c in
      let k = of_places f.cones f.maximal m.0 m.1.0 in
      let same : k.0.numbers ≡ m.0.rays = ap (λ (x : ListedCone). x.rays) k.1.1 in
      ap length (sym m.1.1) ∙ subst (λ (ns : List ℕ). length (sum_of n (numbered f.rays ns)) ≡ n) same (sum_inside k.0 k.1.0).width)

pub fan_interiors : (f : FanLists) (n : ℕ) (rows : List (List ℤ)) → IsFan f → n ≡ f.ambient →
    rows ≡ interiors_of f.ambient f.rays (listed_at f.cones f.maximal) → AreRows n rows
fan_interiors f n rows h e q = subst (λ m. AreRows m rows) (sym e) (subst (AreRows f.ambient) (sym q) (sum_rows f.ambient h.0 f h.1))

pub fan_sums : (f : FanLists) → IsFan f → AreSumsWithin f → AreWritable f.ambient (parts_of_fan f).interiors
fan_sums f h w = record { width = sum_rows f.ambient h.0 f h.1; entries = w }

pub written_fans_are_sound : WrittenFansAreSound
written_fans_are_sound = λ n given f p s.
    let m = sym s.ambient in
    record {
      positive = subst (λ k. 0 < k) m p;
      rays = subst (λ k. AreRows k f.rays) m (fan_rays n given f s);
      lineality = subst (λ k. AreRows k f.lineality) m (lineality_rows n given f.lineality s.own s.lineality);
      interiors = subst (λ k. AreRows k (interiors_of k f.rays (listed_at f.cones f.maximal))) m (sum_rows n given f s);
      outside = subst (λ k. All (IsOutside k f.lineality) f.rays) m (fan_outside n given f s);
      below = numbers_below n given f s;
    }

-- ---- the cones are those that were written

-- a cone of a fan is what its rays and the lineality space generate
cone_same : (n : ℕ) (given : List RowsAndRays) (f : FanLists) (k : FanCone) (c : RowsAndRays) → IsFanOf n given f → Contains f.cones k →
    IsGeneratedCone n (numbered f.rays k.numbers) f.lineality c → SameCone n (rows_of c) (rows_of k.cone)
cone_same n given f k c s i g =
    let a = s.cones.each k i in
    let own : IsRays n k.cone.inequalities k.cone.equations f.lineality (numbered f.rays k.numbers) =
    subst (λ z. IsRays n z k.cone.equations f.lineality (numbered f.rays k.numbers)) (sym a.inequalities)
    (subst (λ z. IsRays n a.origin.inequalities z f.lineality (numbered f.rays k.numbers)) (sym a.equations) a.face.are_rays) in
    λ v l. (λ x. (own.generates v l).1 ((g.generated v l).0 x), λ y. (g.generated v l).1 ((own.generates v l).0 y))

-- the sum of its rays lies inside the cone that they and the lineality space generate
pub sum_inside_read : (n : ℕ) (given : List RowsAndRays) (f : FanLists) (k : FanCone) (c : RowsAndRays) → IsFanOf n given f → Contains f.cones k →
    IsGeneratedCone n (numbered f.rays k.numbers) f.lineality c → IsInterior n (rows_of c) (sum_of n (numbered f.rays k.numbers))
sum_inside_read n given f k c s i g =
    let same = cone_same n given f k c s i g in
    let rays = rays_determined n (rows_of c) (rows_of k.cone) c.lineality c.rays f.lineality (numbered f.rays k.numbers) same g.are_rays
    (own_rays n given f.lineality f.rays k (s.cones.each k i)) in
    subst (λ (xs : List (List ℤ)). IsInterior n (rows_of c) (sum_of n xs)) rays.1 (interior n (rows_of c) c.lineality c.rays g.are_rays)

none_past : {X : Type 0} (xs : List X) (i : ℕ) → slice_get xs i ≡ None → length xs ≤ i
none_past [] i e = omega arith
none_past (x ∷ xs) zero e = cc
none_past (x ∷ xs) (suc i) e = let h = none_past xs i e in omega (arith, h)

cones_at : (n : ℕ) (given : List RowsAndRays) (f : FanLists) (places : List ℕ) (cs : List RowsAndRays) → IsFanOf n given f →
    ((i : ℕ) → Contains places i → i < length f.cones) → AllZip (IsGenerated n f) (map (λ (c : ListedCone). c.rays) (listed_at f.cones places)) cs →
    AllZip (IsConeAt n f.cones) places cs
cones_at n given f [] cs s w a = by cs a
  where
    by : (ds : List RowsAndRays) → AllZip (IsGenerated n f) [] ds → AllZip (IsConeAt n f.cones) [] ds
    by [] b = tt
    by (d ∷ ds) b = absurd b
cones_at n given f (i ∷ places) cs s w a = at (slice_get f.cones i) refl cs a (λ ds b. cones_at n given f places ds s (λ j c. w j (in_tail i places j c)) b)
  where
    at : (o : Option FanCone) → slice_get f.cones i ≡ o → (ds : List RowsAndRays) →
        AllZip (IsGenerated n f) (map (λ (c : ListedCone). c.rays) (one_listed o ++ listed_at f.cones places)) ds →
        ((es : List RowsAndRays) → AllZip (IsGenerated n f) (map (λ (c : ListedCone). c.rays) (listed_at f.cones places)) es →
        AllZip (IsConeAt n f.cones) places es) → AllZip (IsConeAt n f.cones) (i ∷ places) ds
    at None e ds b later = absurd (let x = none_past f.cones i e in let y = w i (Contains-here i places) in omega (arith, x, y))
    at (Some k) e [] b later = absurd b
    at (Some k) e (d ∷ ds) b later = (
      record {
        cone = k;
        at = e;
        same = cone_same n given f k d s (i, slice_get_within f.cones i k e, get_or_from_slice_get f.cones i k k e) b.0;
      },
      later ds b.1,
    )

pub written_cones_are_read : WrittenConesAreRead
written_cones_are_read = λ n given cones f s a. cones_at n given f f.maximal cones s
    (λ i c. subst (λ m. i < m) (length-map f.cones (λ (x : FanCone). x.numbers)) (s.maximal.each i c).inside)
    (subst (λ m. AllZip (IsGenerated m f) (file_of (parts_of_fan f)).cones cones) s.ambient a)

-- ---- within the limits of fan files

-- all cones so far, one further
pub cones_writable : (cones : List FanCone) → ((i : ℕ) (d : FanCone) → i < length cones → IsWritableCone (listed_cone (get_or cones i d))) →
    All IsWritableCone (listed_cones cones)
cones_writable cones h = all_by IsWritableCone (listed_cones cones) (λ c k.
    let m = of_map (λ (x : FanCone). listed_cone x) cones c k in
    subst IsWritableCone m.1.1 (All-contains (λ (x : FanCone). IsWritableCone (listed_cone x)) cones m.0 h m.1.0))

-- so are those at some places
listed_writable : (cones : List FanCone) (places : List ℕ) → All IsWritableCone (listed_cones cones) → All IsWritableCone (listed_at cones places)
listed_writable cones places h = all_by IsWritableCone (listed_at cones places) (λ c k.
    let m = of_places cones places c k in
    subst IsWritableCone m.1.1 (All-contains IsWritableCone (listed_cones cones) (listed_cone m.0) h (in_map (λ (x : FanCone). listed_cone x) cones m.0 m.1.0)))

pub fan_ray_rows : (f : FanLists) (n : ℕ) (rows : List (List ℤ)) → IsFan f → n ≡ f.ambient → rows ≡ f.rays → AreRows n rows
fan_ray_rows f n rows h e q = subst (λ m. AreRows m rows) (sym e) (subst (AreRows f.ambient) (sym q) (fan_rays f.ambient h.0 f h.1))

pub fan_lineality : (f : FanLists) (n : ℕ) (rows : List (List ℤ)) → IsFan f → n ≡ f.ambient → rows ≡ f.lineality → AreRows n rows
fan_lineality f n rows h e q =
    subst (λ m. AreRows m rows) (sym e) (subst (AreRows f.ambient) (sym q) (lineality_rows f.ambient h.0 f.lineality h.1.own h.1.lineality))

pub fan_orthogonal : (f : FanLists) (n : ℕ) (rows : List (List ℤ)) → IsFan f → n ≡ f.ambient → rows ≡ f.orthogonal → AreRows n rows
fan_orthogonal f n rows h e q = subst (λ m. AreRows m rows) (sym e) (subst (AreRows f.ambient) (sym q) h.1.orthogonal.width)

pub writable_along : (n m : ℕ) (rows others : List (List ℤ)) → n ≡ m → rows ≡ others → AreWritable n rows → AreWritable m others
writable_along n m rows others e q w = subst (λ k. AreWritable k others) e (subst (AreWritable n) q w)

pub fan_writable : (f : FanLists) (cones : List FanCone) (rays lineality : List (List ℤ)) → 0 < f.ambient → f.ambient ≤ MOST_VARIABLES →
    AreWritable f.ambient f.rays → AreWritable f.ambient f.lineality → AreWritable f.ambient f.orthogonal → AreWritable f.ambient (parts_of_fan f).interiors →
    cones ≡ f.cones → All IsWritableCone (listed_cones cones) → length cones ≤ most_number → rays ≡ f.rays → length rays ≤ most_number →
    lineality ≡ f.lineality → length lineality ≤ most_number → IsWritable (parts_of_fan f)
fan_writable f cones rays lineality p a r l o w e each k q m s t =
    let all : All IsWritableCone (listed_cones f.cones) = subst (λ (ks : List FanCone). All IsWritableCone (listed_cones ks)) e each in
    record {
      positive = p;
      ambient = a;
      rays = r;
      lineality = l;
      orthogonal = o;
      interiors = w;
      cones = all;
      maximal = listed_writable f.cones f.maximal all;
      rays_count = subst (λ xs. length xs ≤ most_number) q m;
      lineality_count = subst (λ xs. length xs ≤ most_number) s t;
      cones_count = subst (λ i. i ≤ most_number) (sym (length-map f.cones (λ (x : FanCone). listed_cone x)))
          (subst (λ (ks : List FanCone). length ks ≤ most_number) e k);
    }
