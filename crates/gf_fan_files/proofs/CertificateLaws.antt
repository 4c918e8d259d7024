-- Which vectors lie inside a cone, and what a loop over rows and cones has tested.
-- To cite: proper_cones, row_refutes, inside_at, outside_at, wide_at, ambient_at, more_inside. The rest are steps.
use Rattle.std.proofs.Common.{◌≡◌, ◌⊎◌, ◌↔◌, ℕ, ◌+◌, ◌<◌, Bool, false, IsTrue, List, length, get_or, ℤ, pos, ◌<ℤ◌, All, Contains, sym, ap, ◌∙◌, subst, inl, inr}
use Rattle.std.proofs.Common.{arith}
use Rattle.std.proofs.lemmas.Bool.{cases_lt}
use Rattle.std.proofs.lemmas.List.{get_or_default}
use Rattle.std.proofs.lemmas.List.Elements.{All-contains}
use Rattle.gf_int_theory.proofs.ListLaws.{all_by}
use Rattle.gf_vec.specs.declared.error.WideVector.{WideVector}
use Rattle.gf_vec.specs.Vector.{dot}
use Rattle.gf_vec.proofs.VectorLaws.{dot_comm}
use Rattle.gf_gordan.specs.Alternative.{AreRows}
use Rattle.gf_duality_theory.specs.Rays.{IsZeroOn}
use Rattle.gf_duality_theory.specs.Faces.{IsInterior}
use Rattle.gf_duality_theory.specs.Generators.{ray}
use Rattle.gf_duality_theory.proofs.Generated.{made-generated}
use Rattle.gf_duality_theory.proofs.ListLaws.{zip_from}
use Rattle.gf_fans_theory.specs.FaceLists.{numbered}
use Rattle.gf_rays.specs.Cones.{RowsAndRays, rows_of}
use Rattle.gf_fan_files.specs.declared.file.FanFile.{FanFile}
use Rattle.gf_fan_files.specs.Files.{IsSoundFile, AreBelow}
use Rattle.gf_fan_files.specs.Certificates.{IsInsideAt, IsInsideStep}
use Rattle.gf_fan_files.specs.FilesFans.{IsGeneratedCone, IsConeOfFile, AreConesOfFile}
use Rattle.gf_fan_files.proofs.FilesFansLaws.{numbered_rows}
use Rattle.gf_fan_files.proofs.WrittenFansLaws.{ray_outside}

-- ---- none of the inequalities that a generated cone has is zero on the whole cone

-- no inequality is zero on all of a cone
abbrev pub IsProper : RowsAndRays → Type 0
IsProper c = (h : List ℤ) → Contains c.inequalities h → IsZeroOn c.ambient c.inequalities c.equations h → ⊥

-- it is a ray of the dual cone, and would lie in the lineality space of that
generated_proper : (n : ℕ) (rays lin : List (List ℤ)) (c : RowsAndRays) → AreRows n rays → AreRows n lin → IsGeneratedCone n rays lin c → IsProper c
generated_proper n rays lin c wr wl g h k zero =
    let long : length h ≡ n = All-contains (λ (t : List ℤ). length t ≡ n) c.inequalities h g.rows.rays_width k in
    let dual = (g.rows.generates h long).1 (made-generated n c.inequalities c.equations h g.rows.rays_width g.rows.lin_width
    (ray n c.inequalities c.equations h long k)) in
    let flat : All (λ r. dot r h ≡ pos 0) rays = all_by (λ r. dot r h ≡ pos 0) rays (λ r m.
    let lr : length r ≡ n = All-contains (λ (t : List ℤ). length t ≡ n) rays r wr m in
    let inside = (g.generated r lr).1 (made-generated n rays lin r wr wl (ray n rays lin r lr m)) in
    dot_comm r h ∙ zero r (lr ∙ sym g.ambient) inside) in
    ray_outside n rays lin c.equations c.inequalities h g.rows k ((g.rows.spans h long).0 (record { flat = flat; zero = dual.zero }))

pub proper_cones : (f : FanFile) (cones : List RowsAndRays) → IsSoundFile f → AreConesOfFile f cones → All IsProper cones
proper_cones f cones s a = all_by IsProper cones (λ c k.
    let x = zip_from (IsConeOfFile f) f.cones cones c a k in
    generated_proper f.ambient (numbered f.rays x.0) f.lineality c
    (numbered_rows f.ambient f.rays x.0 s.rays (All-contains (AreBelow (length f.rays)) f.cones x.0 s.below x.1.0)) s.lineality x.1.1)

-- ---- inside a cone

all_inside : (c : RowsAndRays) (v : List ℤ) → IsProper c → IsInterior c.ambient (rows_of c) v → All (λ h. pos 0 <ℤ dot h v) c.inequalities
all_inside c v proper i = all_by (λ h. pos 0 <ℤ dot h v) c.inequalities
    (λ h k. elim (All-contains (λ h. (pos 0 <ℤ dot h v) ⊎ IsZeroOn c.ambient c.inequalities c.equations h) c.inequalities h i.positive k) [
      | inl p ↦ p
      | inr z ↦
          absurd (proper h k z)
    ])

-- an inequality that isn't positive there shows that it isn't
pub row_refutes : (c : RowsAndRays) (v : List ℤ) (all : Bool) → IsProper c → IsTrue all ↔ All (λ h. pos 0 <ℤ dot h v) c.inequalities → all ≡ false →
    IsTrue false ↔ IsInterior c.ambient (rows_of c) v
row_refutes c v all proper positive fails = (λ t. absurd (cc), λ i. sym fails ∙ positive.1 (all_inside c v proper i))

-- ---- rows and cones at a place

cone_at : (cones : List RowsAndRays) (place : ℕ) (c d : RowsAndRays) → c ≡ get_or cones place c → place < length cones → get_or cones place d ≡ c
cone_at cones place c d is l = get_or_default cones place d c l ∙ sym is

row_at : (rows : List (List ℤ)) (place : ℕ) (r d : List ℤ) → r ≡ get_or rows place r → place < length rows → get_or rows place d ≡ r
row_at rows place r d is l = get_or_default rows place d r l ∙ sym is

module _ (n : ℕ) (cones : List RowsAndRays) (rows : List (List ℤ)) (place : ℕ) (c : RowsAndRays) (r : List ℤ) (at_cones : c ≡ get_or cones place c)
    (at_rows : r ≡ get_or rows place r) (of_cones : place < length cones) (of_rows : place < length rows) where
  pub inside_at : c.ambient ≡ n → IsInterior c.ambient (rows_of c) r → IsInsideAt n cones rows place
  inside_at e i = λ d s. subst (λ (x : RowsAndRays). IsInterior n (rows_of x) (get_or rows place s)) (sym (cone_at cones place c d at_cones of_cones))
      (subst (λ (x : List ℤ). IsInterior n (rows_of c) x) (sym (row_at rows place r s at_rows of_rows)) (subst (λ m. IsInterior m (rows_of c) r) e i))

  pub outside_at : c.ambient ≡ n → (IsInterior c.ambient (rows_of c) r → ⊥) → IsInsideAt n cones rows place → ⊥
  outside_at e fails i = fails (subst (λ m. IsInterior m (rows_of c) r) (sym e) (subst (λ (x : List ℤ). IsInterior n (rows_of c) x) (sym at_rows)
      (subst (λ (x : RowsAndRays). IsInterior n (rows_of x) (get_or rows place r)) (sym at_cones) (i c r))))

  pub wide_at : (w : WideVector) → IsInsideStep c r w → (d : RowsAndRays) (s : List ℤ) → IsInsideStep (get_or cones place d) (get_or rows place s) w
  wide_at w h d s = subst (λ (x : RowsAndRays). IsInsideStep x (get_or rows place s) w) (sym (cone_at cones place c d at_cones of_cones))
      (subst (λ (x : List ℤ). IsInsideStep c x w) (sym (row_at rows place r s at_rows of_rows)) h)

  pub ambient_at : All (λ (x : RowsAndRays). x.ambient ≡ n) cones → c.ambient ≡ n
  ambient_at a = ap (λ (x : RowsAndRays). x.ambient) at_cones ∙ a place c of_cones

  -- one row further
  pub more_inside : ((k : ℕ) → k < place → IsInsideAt n cones rows k) → IsInsideAt n cones rows place → (k : ℕ) → k < place + 1 → IsInsideAt n cones rows k
  more_inside before here k l = elim (cases_lt k place) [
    | inl b ↦ before k b
    | inr a ↦ (let e : place ≡ k = omega arith in subst (IsInsideAt n cones rows) e here)
  ]
