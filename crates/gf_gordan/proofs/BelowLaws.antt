-- The recursion below the last equation: what the system by its pivot leaves, and what is found there.
use Rattle.std.proofs.Common.{◌≡◌, ℕ, ◌+◌, ◌-◌, List, [], ◌∷◌, ◌++◌, length, ℤ, pos, ◌<ℤ◌, arith, sym, ap, ◌∙◌, subst, take, drop, All, length-append}
use Rattle.std.proofs.lemmas.List.Elements.{recursion_from_All, All-from_recursion}
use Rattle.gf_gordan.specs.declared.error.ConeOverflow.{ConeOverflow}
use Rattle.gf_gordan.specs.declared.system.System.{System}
use Rattle.gf_gordan.specs.Alternative.{AreRows}
use Rattle.gf_gordan.specs.Elimination.{IsPivot, lifted, IsCarried}
use Rattle.gf_gordan.specs.Steps.{IsLifting, IsCarrying}
use Rattle.gf_gordan.specs.Systems.{IsSystem}
use Rattle.gf_gordan.specs.Equations.{IsSplitBy, IsPointOn, IsMultipliersOn, IsStepOn}
use Rattle.gf_gordan.proofs.MultiplierLaws.{contents-positive}
use Rattle.gf_gordan.proofs.EquationSound.{IsPointOn-solves, IsMultipliersOn-refutes}
use Rattle.gf_gordan.proofs.SystemLaws.{same_carried, same_carrying, same_lifting, length-system, length-contents, length-column}
use Rattle.gf_gordan.proofs.EquationLaws.{On, On-len, On-shorter, On-split, On-below, On-raised, On-carried, On-step_below, On-lifting, On-carrying}

-- the last equation with its pivot, and the two parts of the vectors of the system by it
pub record Below (n : ℕ) (rows whole es : List (List ℤ)) (e : List ℤ) (j : ℕ) (s : System) (by_rows by_es : List (List ℤ)) : Type 0 where
  pub on : On n rows whole es e
  pub pivot : IsPivot e j
  pub system : IsSystem e j (rows ++ es) s
  pub split : IsSplitBy e j rows es s.contents.items by_rows by_es

pub on_last : (n : ℕ) (rows whole : List (List ℤ)) {es : List (List ℤ)} {e : List ℤ} → AreRows n rows → AreRows n whole → whole ≡ es ++ e ∷ [] →
    On n rows whole es e
on_last n rows whole r w s = record { rows_width = r; whole_width = w; split = s }

-- its parts are those of the vectors, split behind the rows
pub below_last : (n : ℕ) (rows whole : List (List ℤ)) {es : List (List ℤ)} {e lent : List ℤ} {j : ℕ} {s : System} {vectors by_rows by_es : List (List ℤ)} →
    AreRows n rows → AreRows n whole → whole ≡ es ++ e ∷ [] → lent ≡ e → IsPivot lent j → IsSystem e j (rows ++ es) s → vectors ≡ s.vectors.items →
    by_rows ≡ take (length rows) vectors → by_es ≡ drop (length rows) vectors → Below n rows whole es e j s by_rows by_es
below_last n rows whole {es} {e} {lent} {j} {s} {vectors} {by_rows} {by_es} r w split le p k ev er ee =
    let o : On n rows whole es e = on_last n rows whole r w split in
    let a : by_rows ≡ take (length rows) s.vectors.items = er ∙ ap (take (length rows)) ev in
    let b : by_es ≡ drop (length rows) s.vectors.items = ee ∙ ap (drop (length rows)) ev in
    record {
      on = o;
      pivot = subst (λ x. IsPivot x j) le p;
      system = k;
      split = rw (a, b) (On-split n rows whole es e j s.contents.items s.vectors.items o k.each);
    }

-- they have a column less
pub below_rows : {n : ℕ} {rows whole es : List (List ℤ)} {e : List ℤ} {j : ℕ} {s : System} {by_rows by_es : List (List ℤ)} →
    Below n rows whole es e j s by_rows by_es → AreRows (n - 1) by_rows × AreRows (n - 1) by_es
below_rows b = On-below _ _ _ _ _ _ _ _ _ b.on b.pivot b.split

-- and there is an equation less
pub below_fewer : {n : ℕ} {rows whole es : List (List ℤ)} {e : List ℤ} {j : ℕ} {s : System} {by_rows by_es : List (List ℤ)} →
    Below n rows whole es e j s by_rows by_es → length whole ≡ length by_es + 1
below_fewer {n} {rows} {whole} {es} {e} {j} {s} {by_rows} {by_es} b =
    omega (
      arith,
      On-shorter n rows whole es e b.on,
      length-system e j (rows ++ es) s.contents.items (by_rows ++ by_es) b.split.system,
      length-append rows es,
      length-append by_rows by_es,
      b.split.as_many,
    )

-- ---- a point below

pub below_width : {n : ℕ} {rows whole es : List (List ℤ)} {e : List ℤ} {j : ℕ} {s : System} {by_rows by_es : List (List ℤ)} {v : List ℤ} →
    Below n rows whole es e j s by_rows by_es → IsPointOn (n - 1) by_rows by_es v → length v + 1 ≡ length e
below_width {n} {rows} {whole} {es} {e} {by_rows = by_rows} {by_es = by_es} {v = v} b q =
    let w = below_rows b in
    let l = (IsPointOn-solves (n - 1) by_rows by_es v (recursion_from_All (λ t. length t ≡ n - 1) by_rows w.0)
    (recursion_from_All (λ t. length t ≡ n - 1) by_es w.1) q).width in
    omega (arith, l, On-len n rows whole es e b.on, b.pivot.inside)

pub below_raised : {n : ℕ} {rows whole es : List (List ℤ)} {e : List ℤ} {j : ℕ} {s : System} {by_rows by_es : List (List ℤ)} {v u : List ℤ} →
    Below n rows whole es e j s by_rows by_es → IsPointOn (n - 1) by_rows by_es v → u ≡ lifted e j v → IsPointOn n rows whole u
below_raised b q d = On-raised _ _ _ _ _ _ _ _ _ _ _ b.on b.pivot b.split q d

pub below_lifting : {all n : ℕ} {rows whole es : List (List ℤ)} {e lent : List ℤ} {j : ℕ} {s : System} {by_rows by_es : List (List ℤ)} {v : List ℤ}
    {o : ConeOverflow} → Below n rows whole es e j s by_rows by_es → IsPointOn (n - 1) by_rows by_es v → lent ≡ e →
    IsLifting (length rows + length es) lent j v o → IsStepOn all n rows whole o
below_lifting {o = o} b q le h = On-lifting _ _ _ _ _ _ _ _ _ _ _ o b.on b.pivot b.split q (same_lifting _ _ _ _ _ o le h)

-- ---- a step below

pub below_step : {all n : ℕ} {rows whole es : List (List ℤ)} {e : List ℤ} {j : ℕ} {s : System} {by_rows by_es : List (List ℤ)} {o : ConeOverflow} →
    Below n rows whole es e j s by_rows by_es → IsStepOn all (n - 1) by_rows by_es o → IsStepOn all n rows whole o
below_step {o = o} b h = On-step_below _ _ _ _ _ _ _ _ _ _ o b.on b.pivot b.split h

-- ---- multipliers below

-- they are as many as the contents, and as the entries of the column
pub below_many : {n : ℕ} {rows whole es : List (List ℤ)} {e : List ℤ} {j : ℕ} {s : System} {by_rows by_es : List (List ℤ)} {ms : List ℤ} →
    Below n rows whole es e j s by_rows by_es → IsMultipliersOn (n - 1) by_rows by_es ms →
    (length s.contents.items ≡ length ms) × (length s.column.items ≡ length ms)
below_many {n} {rows} {whole} {es} {e} {j} {s} {by_rows} {by_es} {ms} b m =
    let w = below_rows b in
    let l = (IsMultipliersOn-refutes (n - 1) by_rows by_es ms (recursion_from_All (λ t. length t ≡ n - 1) by_rows w.0)
    (recursion_from_All (λ t. length t ≡ n - 1) by_es w.1) m).len in
    let k : length ms ≡ length (rows ++ es) = l ∙ length-system e j (rows ++ es) s.contents.items (by_rows ++ by_es) b.split.system in
    (length-contents e j (rows ++ es) s.contents.items s.vectors.items b.system.each ∙ sym k, ap length b.system.column ∙ length-column j (rows ++ es) ∙ sym k)

pub below_positive : {n : ℕ} {rows whole es : List (List ℤ)} {e : List ℤ} {j : ℕ} {s : System} {by_rows by_es : List (List ℤ)} →
    Below n rows whole es e j s by_rows by_es → All (λ c. pos 0 <ℤ c) s.contents.items
below_positive b = All-from_recursion (λ y. pos 0 <ℤ y) _ (contents-positive _ _ _ _ _ b.system.each)

pub below_carried : {n : ℕ} {rows whole es : List (List ℤ)} {e lent : List ℤ} {j : ℕ} {s : System} {by_rows by_es : List (List ℤ)} {ms given out : List ℤ} →
    Below n rows whole es e j s by_rows by_es → IsMultipliersOn (n - 1) by_rows by_es ms → lent ≡ e → given ≡ ms →
    IsCarried lent j s.column.items s.contents.items given out → IsMultipliersOn n rows whole out
below_carried b m le eg h = On-carried _ _ _ _ _ _ _ _ _ _ _ b.on b.pivot b.split m (same_carried _ _ _ _ _ _ _ _ _ le b.system.column eg h)

pub below_carrying : {all n : ℕ} {rows whole es : List (List ℤ)} {e lent : List ℤ} {j : ℕ} {s : System} {by_rows by_es : List (List ℤ)} {ms given : List ℤ}
    {o : ConeOverflow} → Below n rows whole es e j s by_rows by_es → IsMultipliersOn (n - 1) by_rows by_es ms → lent ≡ e → given ≡ ms →
    IsCarrying all (length rows + length es) lent j s.column.items s.contents.items given o → IsStepOn all n rows whole o
below_carrying {o = o} b m le eg h = On-carrying _ _ _ _ _ _ _ _ _ _ _ o b.on b.pivot b.split m (same_carrying _ _ _ _ _ _ _ _ _ _ o le b.system.column eg h)
