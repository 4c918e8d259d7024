-- Faces don't depend on the rows of a cone, and faces of faces are faces.
use Rattle.std.proofs.Common.{◌≡◌, ℕ, List, length, ℤ, pos, arith, Contains}
use Rattle.std.proofs.lemmas.Int.{ints}
use Rattle.std.proofs.lemmas.List.Elements.{All-contains}
use Rattle.gf_int_theory.proofs.SignLaws.{sign_of, negative, none, positive, zero_product}
use Rattle.gf_int_theory.proofs.ListLaws.{all_by}
use Rattle.gf_vec.specs.Vector.{dot}
use Rattle.gf_duality_theory.specs.Faces.{Rows, IsInCone, SameCone, IsFaceOf}
use Rattle.gf_fans_theory.proofs.Meeting.{zero_rows}
use Rattle.gf_fans_theory.proofs.FanLaws.{is_in, up_in, zero_in, part_in, of_part, face_in}
use Rattle.gf_patterns_theory.specs.Interiors.{beyond, IsRelativeInterior}
use Rattle.gf_patterns_theory.proofs.MeetLaws.{flat_in}
use Rattle.gf_patterns_theory.proofs.InteriorLaws.{beyond_vec, dot_beyond, bound_of, times_up}

-- where a vector and what a multiple of w lacks of it are in the cone, rows that are zero on w are zero on it
zero_part : (n : ℕ) (c : Rows) (t w x : List ℤ) (k : ℤ) → length w ≡ n → length x ≡ n → Contains c.inequalities t → dot t w ≡ pos 0 → IsInCone c x →
    IsInCone c (beyond k w x) → dot t x ≡ pos 0
zero_part n c t w x k lw lx ct z ix ip =
    let a = up_in c x t ix ct in let b = up_in c (beyond k w x) t ip ct in let e = dot_beyond n k t w x lw lx in let m = zero_product k (dot t w) z in
    omega (arith, ints, a, b, e, m)

-- a part of a cone that has a vector with each multiple that it is a summand of is a face
pub face_by : (n : ℕ) (c f : Rows) (w : List ℤ) → IsRelativeInterior n f w → ((x : List ℤ) → length x ≡ n → IsInCone f x → IsInCone c x) →
    ((x : List ℤ) (k : ℤ) → length x ≡ n → IsInCone c x → IsInCone c (beyond k w x) → IsInCone f x) → IsFaceOf n f c
face_by n c f w i of summand =
    let z = zero_rows c.inequalities w in let lw = i.width in let cw = of w lw i.inside in (
      z.rows,
      (
        all_by (Contains c.inequalities) z.rows z.listed,
        λ x lx. (
          (λ ix.
              let r = i.past x lx ix in
              part_in c z.rows x (of x lx ix) (λ t k. zero_part n c t w x r.0 lw lx (z.listed t k) (z.zero t k) (of x lx ix)
              (of (beyond r.0 w x) (beyond_vec r.0 w x lw lx).long r.1))),
          (λ ix.
              let cx = of_part c z.rows x ix in let b = bound_of c.inequalities x in let k : ℤ = b.bound in
              summand x k lx cx (is_in c (beyond k w x)
              (λ t ct.
              let e = dot_beyond n k t w x lw lx in
              elim (sign_of (dot t w)) [
                | positive g ↦ let a = b.above t ct in let m = times_up k (dot t w) b.up g in omega (arith, ints, e, a, m)
                | none g ↦ let a = flat_in c z.rows x ix t (z.all t ct g) in let m = zero_product k (dot t w) g in omega (arith, ints, e, a, m)
                | negative g ↦ let a = up_in c w t cw ct in absurd (omega (arith, ints, a, g))
              ])
              (λ t ct. let e = dot_beyond n k t w x lw lx in let m = zero_product k (dot t w) (zero_in c w t cw ct) in let a = zero_in c x t cx ct in
              omega (arith, ints, e, m, a)))),
        ),
      ),
    )

-- a summand of a vector of a face is in the face
pub face_summand : (n : ℕ) (c f : Rows) (w x : List ℤ) (k : ℤ) → IsFaceOf n f c → length w ≡ n → length x ≡ n → IsInCone f w → IsInCone c x →
    IsInCone c (beyond k w x) → IsInCone f x × IsInCone f (beyond k w x)
face_summand n c f w x k (zs, (listed, e)) lw lx iw cx cp =
    let zw = flat_in c zs w ((e w lw).0 iw) in
    let zx : (t : List ℤ) → Contains zs t → dot t x ≡ pos 0 =
    λ t i. zero_part n c t w x k lw lx (All-contains (Contains c.inequalities) zs t listed i) (zw t i) cx cp in (
      (e x lx).1 (part_in c zs x cx zx),
      (e (beyond k w x) (beyond_vec k w x lw lx).long).1 (part_in c zs (beyond k w x) cp (λ t i. let a = dot_beyond n k t w x lw lx in let m =
          zero_product k (dot t w) (zw t i) in let b = zx t i in omega (arith, ints, a, m, b))),
    )

-- faces don't depend on the rows
pub face_of_same : (n : ℕ) (c d f : Rows) (w : List ℤ) → SameCone n c d → IsRelativeInterior n f w → IsFaceOf n f c → IsFaceOf n f d
face_of_same n c d f w e i k = face_by n d f w i (λ x lx ix. (e x lx).0 (face_in n f c x k lx ix))
    (λ x m lx dx dp. (face_summand n c f w x m k i.width lx i.inside ((e x lx).1 dx) ((e (beyond m w x) (beyond_vec m w x i.width lx).long).1 dp)).0)

-- a face of a face is a face
pub face_of_face : (n : ℕ) (c d f : Rows) (w : List ℤ) → IsRelativeInterior n f w → IsFaceOf n d c → IsFaceOf n f d → IsFaceOf n f c
face_of_face n c d f w i k l = face_by n c f w i (λ x lx ix. face_in n d c x k lx (face_in n f d x l lx ix))
    (λ x m lx cx cp. let s = face_summand n c d w x m k i.width lx (face_in n f d w l i.width i.inside) cx cp in
    (face_summand n d f w x m l i.width lx i.inside s.0 s.1).0)
