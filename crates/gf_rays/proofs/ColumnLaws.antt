-- Which rays have a flag: columns that loops write, and rays inside another one by them.
use Rattle.std.proofs.Common.{◌≡◌, ℕ, zero, suc, refl, ◌+◌, ◌<◌, List, [], ◌∷◌, ◌++◌, length, arith, sym, ap, ◌∙◌, subst, inl, inr, get_or, Bool, true, false}
use Rattle.std.proofs.Common.{length-append, replicate, Contains, remove}
use Rattle.std.proofs.lemmas.List.{get_or_default, get_or_append_left}
use Rattle.std.proofs.Math.Seq.{get_or-append_seam}
use Rattle.std.proofs.lemmas.Bool.{cases_eq, and_from}
use Rattle.std.proofs.lemmas.List.Elements.{All-contains}
use Rattle.gf_int_theory.proofs.ListLaws.{all_by}
use Rattle.gf_duality_theory.proofs.IndicesLaws.{All-rest}
use Rattle.gf_rays.specs.declared.ray.Ray.{Ray}
use Rattle.gf_rays.specs.Flags.{flag_at, common, IsBelow}
use Rattle.gf_rays.specs.FlagFaces.{AreFlagsAt}
use Rattle.gf_rays.specs.Columns.{IsColumn, AreColumns}
use Rattle.gf_rays.specs.MarkedRays.{AreFlagged, IsInside, IsPruned, done, taken}
use Rattle.gf_rays.proofs.FlagLaws.{common_get, common_long}
use Rattle.gf_rays.proofs.PruneLaws.{of_pruned, below_by}

-- ---- columns

-- the column of the flag at k so far
pub record ColumnSoFar (k : ℕ) (rays : List Ray) (i : ℕ) (column : List Bool) : Type 0 where
  pub long : length column ≡ i
  pub each : (j : ℕ) (d : Ray) → j < i → flag_at column j ≡ flag_at (get_or rays j d).zero k

pub column_none : (k : ℕ) (rays : List Ray) (column : List Bool) → column ≡ [] → ColumnSoFar k rays 0 column
column_none k rays column e = record { long = ap length e; each = λ j d h. absurd (omega (arith, h)) }

pub column_more : (k : ℕ) (rays : List Ray) (i : ℕ) (r : Ray) (flag : Bool) (old new : List Bool) → i < length rays → r ≡ get_or rays i r →
    flag ≡ flag_at r.zero k → new ≡ old ++ flag ∷ [] → ColumnSoFar k rays i old → ColumnSoFar k rays (i + 1) new
column_more k rays i r flag old new h e ef en s =
    let l = s.long in
    subst (ColumnSoFar k rays (i + 1)) (sym en) (record {
      long = length-append old (flag ∷ []) ∙ omega (arith, l);
      each = λ j d hj. elim (cases_eq j i) [
        | inl g ↦
            let here : flag_at (old ++ flag ∷ []) j ≡ flag = ap (λ m. flag_at (old ++ flag ∷ []) m) (g ∙ sym l) ∙ get_or-append_seam old flag [] false in
            let ray : r ≡ get_or rays j d = e ∙ get_or_default rays i r d h ∙ ap (λ m. get_or rays m d) (sym g) in
            here ∙ ef ∙ ap (λ (t : Ray). flag_at t.zero k) ray
        | inr g ↦ get_or_append_left old (flag ∷ []) false j (omega (arith, l, g, hj)) ∙ s.each j d (omega (arith, g, hj))
      ];
    })

pub column_all : (k : ℕ) (rays : List Ray) (i : ℕ) (column : List Bool) → i ≡ length rays → ColumnSoFar k rays i column → IsColumn k rays column
column_all k rays i column e s = record { long = s.long ∙ e; each = λ j d h. s.each j d (omega (arith, e, h)) }

-- the columns so far
pub record ColumnsSoFar (k : ℕ) (rays : List Ray) (out : List (List Bool)) : Type 0 where
  pub long : length out ≡ k
  pub each : (j : ℕ) (d : List Bool) → j < k → IsColumn j rays (get_or out j d)

pub columns_none : (rays : List Ray) (out : List (List Bool)) → out ≡ [] → ColumnsSoFar 0 rays out
columns_none rays out e = record { long = ap length e; each = λ j d h. absurd (omega (arith, h)) }

pub columns_more : (k : ℕ) (rays : List Ray) (out new : List (List Bool)) (column : List Bool) → IsColumn k rays column → new ≡ out ++ column ∷ [] →
    ColumnsSoFar k rays out → ColumnsSoFar (k + 1) rays new
columns_more k rays out new column f en s =
    let l = s.long in
    subst (ColumnsSoFar (k + 1) rays) (sym en) (record {
      long = length-append out (column ∷ []) ∙ omega (arith, l);
      each = λ j d h. elim (cases_eq j k) [
        | inl g ↦
            let here : get_or (out ++ column ∷ []) j d ≡ column = ap (λ m. get_or (out ++ column ∷ []) m d) (g ∙ sym l) ∙ get_or-append_seam out column [] d in
            subst (IsColumn j rays) (sym here) (subst (λ m. IsColumn m rays column) (sym g) f)
        | inr g ↦ subst (IsColumn j rays) (sym (get_or_append_left out (column ∷ []) d j (omega (arith, l, g, h)))) (s.each j d (omega (arith, g, h)))
      ];
    })

pub columns_all : (k m : ℕ) (rays : List Ray) (out : List (List Bool)) → k ≡ m → ColumnsSoFar k rays out → AreColumns m rays out
columns_all k m rays out e s = record { long = s.long ∙ e; each = λ j d h. s.each j d (omega (arith, e, h)) }

-- ---- rays inside another one

-- the rays that may have all flags of the one at i, as far as the first k of them were looked at
pub record LeftSoFar (rays : List Ray) (i : ℕ) (left : List Bool) : Type 0 where
  pub long : length left ≡ length rays
  pub kept : (j : ℕ) (d : Ray) → j < length rays → IsBelow (get_or rays i d).zero (get_or rays j d).zero → flag_at left j ≡ true

all_set : (n j : ℕ) → j < n → flag_at (replicate n true) j ≡ true
all_set zero j h = absurd (omega (arith, h))
all_set (suc n) zero h = refl
all_set (suc n) (suc j) h = all_set n j (omega arith)

set_long : (n : ℕ) → length (replicate n true) ≡ n
set_long zero = refl
set_long (suc n) = ap suc (set_long n)

pub left_all : (rays : List Ray) (i : ℕ) (left : List Bool) → left ≡ replicate (length rays) true → LeftSoFar rays i left
left_all rays i left e = record {
  long = ap length e ∙ set_long (length rays);
  kept = λ j d h b. ap (λ (l : List Bool). flag_at l j) e ∙ all_set (length rays) j h;
}

-- a flag that the ray has
pub left_more : (rays : List Ray) (i k : ℕ) (r : Ray) (column left new : List Bool) → i < length rays → r ≡ get_or rays i r → k < length r.zero →
    flag_at r.zero k ≡ true → IsColumn k rays column → new ≡ common left column → LeftSoFar rays i left → LeftSoFar rays i new
left_more rays i k r column left new hi er hk t f en s =
    let ll = s.long in let lc = f.long in
    subst (LeftSoFar rays i) (sym en) (record {
      long = common_long left column (ll ∙ sym lc) ∙ ll;
      kept = λ j d h b.
          let own : r ≡ get_or rays i d = er ∙ get_or_default rays i r d hi in
          let here : flag_at (get_or rays j d).zero k ≡ true =
          b k (subst (λ (x : Ray). k < length x.zero) own hk) (subst (λ (x : Ray). flag_at x.zero k ≡ true) own t) in
          common_get left column j (omega (arith, ll, h)) (ll ∙ sym lc) ∙ and_from (flag_at left j) (flag_at column j) (s.kept j d h b) (f.each j d h ∙ here);
    })

only_number : (x y : ℕ) → Contains (x ∷ []) y → y ≡ x
only_number x y (zero, h, e) = sym e
only_number x y (suc k, h, e) = absurd (omega (arith, h))

-- at the end a ray that the one at i is inside has its flag, and isn't the one at i
pub left_inside : (rays : List Ray) (i : ℕ) (r : Ray) (left own : List Bool) → LeftSoFar rays i left → AreFlagsAt (length rays) (i ∷ []) own →
    IsBelow left own → IsInside rays i → ⊥
left_inside rays i r left own s a b g =
    let l = s.long in
    let t : flag_at own g.j ≡ true = b g.j (omega (arith, l, g.inside)) (s.kept g.j r g.inside (g.below r)) in
    let c : Contains (i ∷ []) g.j = (a.each g.j g.inside).0 t in
    g.other (sym (only_number i g.j c))

-- ---- rays taken away

pub inside_by : (rs : List Ray) (i j : ℕ) (x y : Ray) → i < length rs → j < length rs → (i ≡ j → ⊥) →
    IsBelow (get_or rs i x).zero (get_or rs j y).zero → IsInside rs i
inside_by rs i j x y hi hj ne b = record {
  j = j;
  inside = hj;
  other = ne;
  below = λ d. below_by (get_or rs i x) (get_or rs j y) (get_or rs i d) (get_or rs j d) (get_or_default rs i x d hi) (get_or_default rs j y d hj) b;
}

pub pruned_then : (rays mid out : List Ray) → IsPruned rays mid → IsPruned mid out → IsPruned rays out
pruned_then rays mid out p (done rs) = p
pruned_then rays mid out p (taken rs next left i q hi g e) = taken rays next left i (pruned_then rays rs next p q) hi g e

pub pruned_flagged : (m : ℕ) (rays out : List Ray) → IsPruned rays out → AreFlagged m rays → AreFlagged m out
pruned_flagged m rays out p w =
    all_by (λ (r : Ray). length r.zero ≡ m) out (λ y c. All-contains (λ (r : Ray). length r.zero ≡ m) rays y w (of_pruned rays out y p c))

there : (index : ℕ) (read rs : List Ray) → read ≡ rs → (index < length read) × IsInside read index → index < length rs
there index read rs e g = subst (λ (t : List Ray). index < length t) e g.0

pub there_len : (index len : ℕ) (read rs : List Ray) → read ≡ rs → len ≡ length rs → (index < length read) × IsInside read index → index < len
there_len index len read rs e l g = subst (λ (k : ℕ). index < k) (sym l) (there index read rs e g)

-- one more ray taken away, as the slice of the rays tells
pub thinned_more : (rays rs out read : List Ray) (index : ℕ) → IsPruned rays rs → ((m : ℕ) × AreFlagged m rs) → read ≡ rs →
    (index < length read) × IsInside read index → out ≡ remove rs index → IsPruned rays out × ((m : ℕ) × AreFlagged m out)
thinned_more rays rs out read index p m e g o =
    let h : index < length rs = there index read rs e g in
    let s : IsInside rs index = subst (λ (t : List Ray). IsInside t index) e g.1 in (
      taken rays rs out index p h s o,
      (m.0, subst (AreFlagged m.0) (sym o) (All-rest (λ (r : Ray). length r.zero ≡ m.0) rs index h m.1)),
    )
