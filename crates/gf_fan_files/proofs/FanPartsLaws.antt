-- What is written of a fan is read off it.
-- To cite: listed_more, interiors_more, writing_step, interior_value, maximal_inside, maximal_read, parts_same. The rest are steps.
use Rattle.std.specs.Prelude.{◌≡◌, ℕ, ◌+◌, ◌<◌, List, [], ◌∷◌, ◌++◌, length, take, get_or, slice_get, slice_index_or, All, Contains, ℤ, Option, Some}
use Rattle.std.proofs.Common.{refl, sym, ap, ◌∙◌, subst, inl, inr}
use Rattle.std.proofs.lemmas.List.{take_more, get_or_default, length-map, map-append}
use Rattle.std.proofs.lemmas.List.Elements.{Contains-append_right}
use Rattle.std.proofs.lemmas.Grind.{flat_map-append}
use Rattle.std.proofs.lemmas.Option.{slice_get_read}
use Rattle.gf_int_theory.proofs.ListLaws.{Contains-here}
use Rattle.gf_vec.specs.declared.error.VecError.{VecError}
use Rattle.gf_vec.specs.declared.error.VecError.TheVariants as vec_errors
use Rattle.gf_vec.specs.Vector.{zeros}
use Rattle.gf_vec.specs.Steps.{IsFirstWide, IfWide}
use Rattle.gf_duality_theory.specs.Faces.{sum_of}
use Rattle.gf_duality_theory.proofs.ListLaws.{in_cons, none_in}
use Rattle.gf_fans_theory.specs.FaceLists.{numbered}
use Rattle.gf_rays.specs.Sums.{adding_steps}
use Rattle.gf_fan.specs.declared.cones.FanCone.{FanCone}
use Rattle.gf_fan.specs.FanLists.{FanLists}
use Rattle.gf_fan.specs.FansOfCones.{IsFan}
use Rattle.gf_fan.specs.MaximalCones.{no_cone, maximal_of}
use Rattle.gf_fan.proofs.WholeLaws.{maximal_at}
use Rattle.gf_fan_files.specs.declared.parts.ListedCone.{ListedCone}
use Rattle.gf_fan_files.specs.FanWords.{FanWords}
use Rattle.gf_fan_files.specs.FanTexts.{listed_cone, listed_cones, one_listed, listed_at, interiors_of, parts_of_fan, IsWritingStep}

-- one place further
pub listed_more : (cones : List FanCone) (places : List ℕ) (i : ℕ) (k : FanCone) (l : ListedCone) (out new : List ListedCone) → i < length places →
    get_or places i 0 < length cones → k ≡ get_or cones (get_or places i 0) k → l ≡ listed_cone k → new ≡ out ++ l ∷ [] →
    out ≡ listed_at cones (take i places) → new ≡ listed_at cones (take (i + 1) places)
listed_more cones places i k l out new h w is e q o =
    let p = get_or places i 0 in
    let here : slice_get cones p ≡ Some k = slice_get_read cones (length cones) p k refl w is in
    let more : listed_at cones (take (i + 1) places) ≡ listed_at cones (take i places) ++ listed_at cones (p ∷ []) =
    ap (listed_at cones) (take_more places i 0 h) ∙ flat_map-append (λ j. one_listed (slice_get cones j)) (take i places) (p ∷ []) in
    let one : listed_at cones (p ∷ []) ≡ listed_cone k ∷ [] = ap (λ (c : Option FanCone). one_listed c ++ []) here in
    q ∙ ap (λ (x : List ListedCone). x ++ l ∷ []) o ∙ ap (λ (x : ListedCone). listed_at cones (take i places) ++ x ∷ []) e
    ∙ sym (more ∙ ap (λ (x : List ListedCone). listed_at cones (take i places) ++ x) one)

-- and of the sums of their rays
pub interiors_more : (n : ℕ) (rays : List (List ℤ)) (cones : List FanCone) (places : List ℕ) (i : ℕ) (k : FanCone) (v : List ℤ) (out new : List (List ℤ)) →
    i < length places → get_or places i 0 < length cones → k ≡ get_or cones (get_or places i 0) k → v ≡ sum_of n (numbered rays k.numbers) → new ≡ out ++ v ∷ []
    → out ≡ interiors_of n rays (listed_at cones (take i places)) → new ≡ interiors_of n rays (listed_at cones (take (i + 1) places))
interiors_more n rays cones places i k v out new h w is e q o =
    let value : ListedCone → List ℤ = λ c. sum_of n (numbered rays c.rays) in
    let before = listed_at cones (take i places) in
    let more : before ++ listed_cone k ∷ [] ≡ listed_at cones (take (i + 1) places) =
    listed_more cones places i k (listed_cone k) before (before ++ listed_cone k ∷ []) h w is refl refl refl in
    q ∙ ap (λ (x : List (List ℤ)). x ++ v ∷ []) o ∙ ap (λ (x : List ℤ). interiors_of n rays before ++ x ∷ []) e
    ∙ sym (map-append value before (listed_cone k ∷ [])) ∙ ap (λ (x : List ListedCone). interiors_of n rays x) more

-- a cone at one of these places is one of those that are listed
in_listed : (cones : List FanCone) (places : List ℕ) (p : ℕ) (k : FanCone) → Contains places p → slice_get cones p ≡ Some k →
    Contains (listed_at cones places) (listed_cone k)
in_listed cones [] p k c e = absurd (none_in p c)
in_listed cones (q ∷ places) p k c e = elim (in_cons q places p c) [
  | inl same ↦
      let here : slice_get cones q ≡ Some k = ap (slice_get cones) (sym same) ∙ e in
      subst (λ (o : Option FanCone). Contains (one_listed o ++ listed_at cones places) (listed_cone k)) (sym here)
      (Contains-here (listed_cone k) (listed_at cones places))
  | inr later ↦ Contains-append_right (one_listed (slice_get cones q)) (listed_at cones places) (listed_cone k) (in_listed cones places p k later e)
]

-- why the sum of the rays of one isn't worked out
pub writing_step : (f : FanLists) (places : List ℕ) (cones : List FanCone) (i : ℕ) (k : FanCone) (e : VecError) → IsFan f → places ≡ f.maximal →
    cones ≡ f.cones → i < length places → get_or places i 0 < length cones → k ≡ get_or cones (get_or places i 0) k
    → IfWide (λ w. IsFirstWide w (adding_steps (zeros k.cone.ambient) k.cone.rays)) e → IfWide (IsWritingStep f) e
writing_step f places cones i k vec_errors.Memory h p c l w is step = tt
writing_step f places cones i k (vec_errors.Wide x) h p c l w is step =
    let place : ℕ = get_or places i 0 in
    let at : slice_get cones place ≡ Some k = slice_get_read cones (length cones) place k refl w is in
    let there : Contains f.cones k = subst (λ (ks : List FanCone). Contains ks k) c (place, w, sym is) in
    let own = h.1.cones.each k there in
    let listed : Contains (listed_at f.cones f.maximal) (listed_cone k) = subst (λ (ks : List FanCone). Contains (listed_at ks f.maximal) (listed_cone k)) c
    (subst (λ (ps : List ℕ). Contains (listed_at cones ps) (listed_cone k)) p
    (in_listed cones places place k (i, l, get_or_default places i place 0 l) at)) in (
      listed_cone k,
      (
        listed,
        subst (λ (xs : List (List ℤ)). IsFirstWide x (adding_steps (zeros f.ambient) xs)) own.rays_of
            (subst (λ n. IsFirstWide x (adding_steps (zeros n) k.cone.rays)) own.ambient step),
      ),
    )

-- what is worked out
pub interior_value : (f : FanLists) (cones : List FanCone) (place : ℕ) (k : FanCone) (v : List ℤ) → IsFan f → cones ≡ f.cones → place < length cones →
    k ≡ get_or cones place k → v ≡ sum_of k.cone.ambient k.cone.rays → v ≡ sum_of f.ambient (numbered f.rays k.numbers)
interior_value f cones place k v h c w is e =
    let there : Contains f.cones k = subst (λ (ks : List FanCone). Contains ks k) c (place, w, sym is) in
    let own = h.1.cones.each k there in
    e ∙ ap (λ n. sum_of n k.cone.rays) own.ambient ∙ ap (λ (xs : List (List ℤ)). sum_of f.ambient xs) own.rays_of

-- the places of the maximal cones are places of cones
pub maximal_inside : (f : FanLists) (places : List ℕ) (cones : List FanCone) → IsFan f → places ≡ f.maximal → cones ≡ f.cones →
    All (λ i. i < length cones) places
maximal_inside f places cones h p c =
    subst (λ (ks : List FanCone). All (λ i. i < length ks) places) (sym c) (subst (λ (ps : List ℕ). All (λ i. i < length f.cones) ps) (sym p) inside)
  where
    inside : All (λ i. i < length f.cones) f.maximal
    inside = λ k d l.
        let i = slice_index_or f.maximal k d in
        let m = h.1.maximal.each i (k, l, get_or_default f.maximal k i d l) in
        subst (λ n. i < n) (length-map f.cones (λ (x : FanCone). x.numbers)) m.inside

-- the maximal cone with a number stands there
pub maximal_read : (f : FanLists) (places : List ℕ) (i : ℕ) → places ≡ f.maximal → i < length places → get_or places i 0 < length f.cones →
    get_or (maximal_of f) i no_cone ≡ get_or f.cones (get_or places i 0) (get_or (maximal_of f) i no_cone)
maximal_read f places i p h inside =
    maximal_at f i (subst (λ (z : List ℕ). i < length z) p h) ∙ ap (λ (z : List ℕ). get_or f.cones (get_or z i 0) no_cone) (sym p) ∙
    get_or_default f.cones (get_or places i 0) no_cone (get_or (maximal_of f) i no_cone) inside

-- its parts
abbrev pub words_from : ℕ → List (List ℤ) → List (List ℤ) → List (List ℤ) → List ListedCone → List ListedCone → List (List ℤ) → FanWords
words_from n rays lineality orthogonal cones maximal interiors = record {
  ambient = n;
  rays = rays;
  lineality = lineality;
  orthogonal = orthogonal;
  cones = cones;
  maximal = maximal;
  interiors = interiors;
}

pub parts_same : (f : FanLists) (n : ℕ) (rays lineality orthogonal : List (List ℤ)) (cones maximal : List ListedCone) (interiors : List (List ℤ)) →
    n ≡ f.ambient → rays ≡ f.rays → lineality ≡ f.lineality → orthogonal ≡ f.orthogonal → cones ≡ listed_cones f.cones → maximal ≡ listed_at f.cones f.maximal →
    interiors ≡ interiors_of f.ambient f.rays (listed_at f.cones f.maximal)
    → words_from n rays lineality orthogonal cones maximal interiors ≡ parts_of_fan f
parts_same f n rays lineality orthogonal cones maximal interiors a r l o c m s = λ i. record {
  ambient = a i;
  rays = r i;
  lineality = l i;
  orthogonal = o i;
  cones = c i;
  maximal = m i;
  interiors = s i;
}
