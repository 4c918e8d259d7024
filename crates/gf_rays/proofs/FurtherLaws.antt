-- A double description taken further from the rays of a cone.
use Rattle.std.proofs.Common.{◌≡◌, ℕ, suc, ◌+◌, ◌<◌, ◌≤◌, List, [], ◌∷◌, ◌++◌, length, take, drop, get_or, ℤ, Contains, arith, refl, sym, ap, ◌∙◌, subst, inl}
use Rattle.std.proofs.Common.{inr, append-nil, length-append}
use Rattle.std.proofs.lemmas.List.{take_at, take_more, take_all, drop_at, append_assoc, length-take-le}
use Rattle.std.proofs.lemmas.List.Elements.{All-append, All-contains}
use Rattle.gf_int_theory.specs.Content.{IsPrimitive}
use Rattle.gf_gordan.specs.Alternative.{AreRows}
use Rattle.gf_gordan.specs.declared.error.ConeOverflow.{ConeOverflow}
use Rattle.gf_duality_theory.specs.Generators.{IsDescribed}
use Rattle.gf_duality_theory.specs.Rays.{IsRays}
use Rattle.gf_duality_theory.proofs.Determined.{described_of}
use Rattle.gf_rays.specs.declared.ray.Ray.{Ray}
use Rattle.gf_rays.specs.Cones.{RowsAndRays, IsComplete}
use Rattle.gf_rays.specs.Further.{IsTaken, IsFurtherState, begun, taken, IsFurtherRowStep, IsEndStep, AreMarkedRays, IsFurtherStep, taking, ending}
use Rattle.gf_rays.specs.Leveling.{IsRowStep}
use Rattle.gf_rays.specs.States.{IsConeState}
use Rattle.gf_rays.proofs.ReachedLaws.{taken_state}
use Rattle.gf_rays.proofs.StraightLaws.{parts_at}

-- what holds of rows holds of the same rows
pub moved : (P : ℕ → List (List ℤ) → List (List ℤ) → Type 0) {n m : ℕ} {hs hs2 es es2 : List (List ℤ)} → n ≡ m → hs ≡ hs2 → es ≡ es2 → P n hs es → P m hs2 es2
moved P {n} {m} {hs} {hs2} {es} {es2} en eh ee p = subst (λ z. P m hs2 z) ee (subst (λ z. P m z es) eh (subst (λ z. P z hs es) en p))

-- what is kept of a cone is a state
pub state_of : (c : RowsAndRays) (marked_rays : List Ray) → IsRays c.ambient c.inequalities c.equations c.lineality c.rays → AreMarkedRays c marked_rays →
    IsConeState c.ambient c.inequalities c.equations c.lineality marked_rays
state_of c marked_rays r h = record {
  described = subst (IsDescribed c.ambient c.inequalities c.equations c.lineality) h.vectors
      (described_of c.ambient c.inequalities c.equations c.lineality c.rays r);
  marked = h.marked;
  primitive = λ x k. elim k [
    | inl i ↦ All-contains IsPrimitive c.lineality x r.echelon.primitive i
    | inr i ↦ All-contains IsPrimitive c.rays x r.primitive (subst (λ (l : List (List ℤ)). Contains l x) (sym h.vectors) i)
  ];
}

-- what is kept of a cone, as that with which a double description begins
marked_of : (c : RowsAndRays) (marked_rays : List Ray) → IsComplete c marked_rays → AreMarkedRays c marked_rays
marked_of c marked_rays h = record { vectors = h.vectors; marked = h.marked }

-- that of the first rows of a list
pub start_of : (c : RowsAndRays) (marked_rays rays : List Ray) (more rows lin : List (List ℤ)) (m : ℕ) → IsComplete c marked_rays →
    rows ≡ c.inequalities ++ more → lin ≡ c.lineality → rays ≡ marked_rays → m ≡ length c.inequalities →
    IsConeState c.ambient (take m rows) c.equations lin rays
start_of c marked_rays rays more rows lin m h er el ey em =
    let e : take m rows ≡ c.inequalities = ap (take m) er ∙ take_at c.inequalities more m (sym em) in
    subst (λ z. IsConeState c.ambient z c.equations lin rays) (sym e) (subst (λ z. IsConeState c.ambient c.inequalities c.equations z rays) (sym el)
    (subst (λ (z : List Ray). IsConeState c.ambient c.inequalities c.equations c.lineality z) (sym ey)
    (state_of c marked_rays h.are_rays (marked_of c marked_rays h))))

pub wide_with : (c : RowsAndRays) (marked_rays : List Ray) (more rows : List (List ℤ)) → IsComplete c marked_rays → AreRows c.ambient more →
    rows ≡ c.inequalities ++ more → AreRows c.ambient rows
wide_with c marked_rays more rows h w e = subst (AreRows c.ambient) (sym e) (All-append (λ t. length t ≡ c.ambient) c.inequalities more h.inequalities_width w)

pub step_state : (m n k : ℕ) (rows es lin : List (List ℤ)) (rays : List Ray) (h : List ℤ) → k < length rows → h ≡ get_or rows k h → AreRows n rows →
    m ≡ length h → IsConeState n (take k rows) es lin rays → IsConeState m (take k rows) es lin rays
step_state m n k rows es lin rays h l e w em s = subst (λ z. IsConeState z (take k rows) es lin rays) (sym (em ∙ ap (λ (t : List ℤ). length t) e ∙ w k h l)) s

pub state_more : (n k : ℕ) (rows es lin : List (List ℤ)) (rays : List Ray) (h : List ℤ) → k < length rows → h ≡ get_or rows k h → AreRows n rows →
    IsConeState (length h) (take k rows ++ h ∷ []) es lin rays → IsConeState n (take (k + 1) rows) es lin rays
state_more n k rows es lin rays h l e w s =
    let lh : length h ≡ n = ap (λ (t : List ℤ). length t) e ∙ w k h l in
    let et : take (k + 1) rows ≡ take k rows ++ h ∷ [] = take_more rows k h l ∙ ap (λ (x : List ℤ). take k rows ++ x ∷ []) (sym e) in
    subst (λ (z : List (List ℤ)). IsConeState n z es lin rays) (sym et) (subst (λ (m : ℕ). IsConeState m (take k rows ++ h ∷ []) es lin rays) lh s)

-- the inequalities behind the first so many, as far as they are taken in
pub record FurtherSoFar (count : ℕ) (rows basis : List (List ℤ)) (start : List Ray) (k : ℕ) (lin : List (List ℤ)) (rays : List Ray) : Type 0 where
  pub more : List (List ℤ)
  pub parts : take k rows ≡ take count rows ++ more
  pub reached : IsFurtherState count basis start more lin rays

pub further_begun : (count : ℕ) (rows basis : List (List ℤ)) (start : List Ray) → FurtherSoFar count rows basis start count basis start
further_begun count rows basis start = record { more = []; parts = sym (append-nil (take count rows)); reached = begun }

-- where the row at k is the next one
further_index : (count k : ℕ) (rows more : List (List ℤ)) → count ≤ length rows → k < length rows → take k rows ≡ take count rows ++ more →
    count + length more ≡ k
further_index count k rows more hc hk e = omega (
  arith,
  ap length e,
  length-take-le k rows (omega (arith, hk)),
  length-take-le count rows hc,
  length-append (take count rows) more,
)

pub further_more : (count k : ℕ) (rows basis lin lines : List (List ℤ)) (start rays next : List Ray) (h : List ℤ) → count ≤ length rows → k < length rows →
    h ≡ get_or rows k h → IsTaken h (length (take k rows)) lin rays lines next → FurtherSoFar count rows basis start k lin rays →
    FurtherSoFar count rows basis start (k + 1) lines next
further_more count k rows basis lin lines start rays next h hc hk e t f = record {
  more = f.more ++ h ∷ [];
  parts = take_more rows k h hk ∙ ap (λ (x : List ℤ). take k rows ++ x ∷ []) (sym e) ∙ ap (λ (z : List (List ℤ)). z ++ h ∷ []) f.parts ∙
      append_assoc (take count rows) f.more (h ∷ []);
  reached = taken f.more lin lines rays next h (f.more ++ h ∷ []) refl
      (subst (λ m. IsTaken h m lin rays lines next) (length-take-le k rows (omega (arith, hk)) ∙ sym (further_index count k rows f.more hc hk f.parts)) t)
      f.reached;
}

-- all of them
pub further_all : (count k : ℕ) (rows basis lin : List (List ℤ)) (start rays : List Ray) → count ≤ length rows → length rows ≤ k →
    FurtherSoFar count rows basis start k lin rays → IsFurtherState count basis start (drop count rows) lin rays
further_all count k rows basis lin start rays hc hk f =
    let e : drop count rows ≡ f.more = ap (drop count) (sym (take_all k rows hk) ∙ f.parts) ∙ drop_at (take count rows) f.more count
    (length-take-le count rows hc) in
    subst (λ (z : List (List ℤ)). IsFurtherState count basis start z lin rays) (sym e) f.reached

-- an operation of taking in the row at k
pub further_row_step : (count k : ℕ) (rows basis lin : List (List ℤ)) (start rays : List Ray) (h : List ℤ) (s : ConeOverflow) → count ≤ length rows →
    k < length rows → h ≡ get_or rows k h → FurtherSoFar count rows basis start k lin rays → IsRowStep k h lin rays s →
    IsFurtherRowStep count basis start (drop count rows) s
further_row_step count k rows basis lin start rays h s hc hk e f d = record {
  before = f.more;
  after = drop (suc k) rows;
  lineality = lin;
  rays = rays;
  h = h;
  parts = ap (drop count) (parts_at rows k h hk e ∙ ap (λ (z : List (List ℤ)). z ++ h ∷ drop (suc k) rows) f.parts ∙ append_assoc (take count rows) f.more
      (h ∷ drop (suc k) rows)) ∙ drop_at (take count rows) (f.more ++ h ∷ drop (suc k) rows) count (length-take-le count rows hc);
  reached = f.reached;
  step = subst (λ m. IsRowStep m h lin rays s) (sym (further_index count k rows f.more hc hk f.parts)) d;
}

-- an operation of taking in one of the inequalities behind those of a cone
pub taking_step : (c : RowsAndRays) (marked_rays rays : List Ray) (more rows lin : List (List ℤ)) (m : ℕ) (s : ConeOverflow) → IsComplete c marked_rays →
    rows ≡ c.inequalities ++ more → lin ≡ c.lineality → rays ≡ marked_rays → m ≡ length c.inequalities → IsFurtherRowStep m lin rays (drop m rows) s →
    IsFurtherStep c more s
taking_step c marked_rays rays more rows lin m s h er el ey em k =
    let e : drop m rows ≡ more = ap (drop m) er ∙ drop_at c.inequalities more m (sym em) in
    let a : IsFurtherRowStep m c.lineality marked_rays more s = subst (λ z. IsFurtherRowStep m c.lineality marked_rays z s) e
    (subst (λ z. IsFurtherRowStep m c.lineality z (drop m rows) s) ey (subst (λ z. IsFurtherRowStep m z rays (drop m rows) s) el k)) in
    taking marked_rays (marked_of c marked_rays h) (subst (λ z. IsFurtherRowStep z c.lineality marked_rays more s) em a)

-- an operation at the end
pub ending_step : (c : RowsAndRays) (marked_rays rays : List Ray) (more rows lin lines : List (List ℤ)) (next : List Ray) (m n : ℕ) (hs es : List (List ℤ))
    (s : ConeOverflow) → IsComplete c marked_rays → rows ≡ c.inequalities ++ more → lin ≡ c.lineality → rays ≡ marked_rays → m ≡ length c.inequalities →
    n ≡ c.ambient → hs ≡ c.inequalities ++ more → es ≡ c.equations → IsFurtherState m lin rays (drop m rows) lines next → IsEndStep n hs es lines next s →
    IsFurtherStep c more s
ending_step c marked_rays rays more rows lin lines next m n hs es s h er el ey em en eh ee f k =
    let e : drop m rows ≡ more = ap (drop m) er ∙ drop_at c.inequalities more m (sym em) in
    let a : IsFurtherState m c.lineality marked_rays more lines next = subst (λ z. IsFurtherState m c.lineality marked_rays z lines next) e
    (subst (λ z. IsFurtherState m c.lineality z (drop m rows) lines next) ey (subst (λ z. IsFurtherState m z rays (drop m rows) lines next) el f)) in
    ending marked_rays next lines (marked_of c marked_rays h) (subst (λ z. IsFurtherState z c.lineality marked_rays more lines next) em a)
    (moved (λ z xs ys. IsEndStep z xs ys lines next s) en eh ee k)

-- the states that are reached are states of the part
pub further_state : (n count : ℕ) (hs es basis : List (List ℤ)) (start : List Ray) (more lin : List (List ℤ)) (rays : List Ray) → count ≡ length hs →
    IsConeState n hs es basis start → IsFurtherState count basis start more lin rays → IsConeState n (hs ++ more) es lin rays
further_state n count hs es basis start more lin rays e s begun = subst (λ z. IsConeState n z es basis start) (sym (append-nil hs)) s
further_state n count hs es basis start more lin rays e s (taken before old lines others next h whole ew t r) =
    let q = further_state n count hs es basis start before old others e s r in
    let l : count + length before ≡ length (hs ++ before) = omega (arith, e, length-append hs before) in
    subst (λ z. IsConeState n z es lines next) (append_assoc hs before (h ∷ []) ∙ ap (λ (z : List (List ℤ)). hs ++ z) (sym ew))
    (taken_state n (hs ++ before) es old lines others next h (subst (λ m. IsTaken h m old others lines next) l t) q)
