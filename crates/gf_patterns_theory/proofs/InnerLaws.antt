-- Every cone has a vector that is interior by its rows: by Gordan's alternative, one row after another is found to be zero on the cone.
use Rattle.std.proofs.Common.{◌≡◌, ℕ, zero, suc, ◌+◌, ◌≤◌, List, [], ◌∷◌, length, ℤ, pos, ◌*ℤ◌, ◌<ℤ◌, ◌≤ℤ◌, arith, sym, ap, ◌∙◌, subst, Contains, ◌⊎◌, inl, inr}
use Rattle.std.proofs.lemmas.Int.{ints}
use Rattle.std.proofs.lemmas.List.Elements.{All-contains, recursion_from_All}
use Rattle.gf_int_theory.proofs.SignLaws.{0≤-*ℤ, 0<-*ℤ, sign_of, negative, none, positive}
use Rattle.gf_int_theory.proofs.ListLaws.{Contains-here, all_by}
use Rattle.gf_vec.specs.Vector.{dot, vector_sum, combined, values, SomePositive}
use Rattle.gf_vec.proofs.VectorLaws.{dot-zero_values, dot-combined, dot-plus, dot-zeros, length-combined}
use Rattle.gf_gordan.specs.Alternative.{AreRows, GordansAlternative}
use Rattle.gf_duality_theory.specs.Faces.{Rows, IsInCone, IsInterior}
use Rattle.gf_duality_theory.proofs.ListLaws.{in_tail, in_cons}
use Rattle.gf_fans_theory.proofs.FanLaws.{is_in, up_in, zero_in}

-- each row of P is not negative on v
abbrev pub AreUp : List (List ℤ) → List ℤ → Type 0
AreUp P v = (t : List ℤ) → Contains P t → pos 0 ≤ℤ dot t v

up_tail : (t : List ℤ) (P : List (List ℤ)) (v : List ℤ) → AreUp (t ∷ P) v → AreUp P v
up_tail t P v f x k = f x (in_tail t P x k)

sum_up : (ms : List ℤ) (P : List (List ℤ)) (v : List ℤ) → ((m : ℤ) → Contains ms m → pos 0 ≤ℤ m) → AreUp P v → pos 0 ≤ℤ dot ms (values P v)
sum_up [] P v a f = omega (arith, ints)
sum_up (m ∷ ms) [] v a f = omega (arith, ints)
sum_up (m ∷ ms) (t ∷ P) v a f =
    let p : pos 0 ≤ℤ (m *ℤ dot t v) = 0≤-*ℤ m (dot t v) (a m (Contains-here m ms)) (f t (Contains-here t P)) in
    let q = sum_up ms P v (λ x k. a x (in_tail m ms x k)) (up_tail t P v f) in omega (arith, ints, p, q)

-- a row with a positive multiplier, and the others: it is zero where the sum is
record IsUsed (ms : List ℤ) (P : List (List ℤ)) : Type 0 where
  row : List ℤ
  rest : List (List ℤ)
  listed : Contains P row
  cover : (t : List ℤ) → Contains P t → (t ≡ row) ⊎ Contains rest t
  from : (t : List ℤ) → Contains rest t → Contains P t
  shorter : length rest + 1 ≡ length P
  zero_there : (v : List ℤ) → AreUp P v → dot ms (values P v) ≤ℤ pos 0 → dot row v ≡ pos 0

used : (ms : List ℤ) (P : List (List ℤ)) → length ms ≡ length P → ((m : ℤ) → Contains ms m → pos 0 ≤ℤ m) → SomePositive ms → IsUsed ms P
used [] P e a s = absurd s
used (m ∷ ms) [] e a s = absurd (omega (arith, e))
used (m ∷ ms) (t ∷ P) e a (inl s) = record {
  row = t;
  rest = P;
  listed = Contains-here t P;
  cover = λ x k. in_cons t P x k;
  from = λ x k. in_tail t P x k;
  shorter = omega arith;
  zero_there = λ v f z.
      let q = sum_up ms P v (λ x k. a x (in_tail m ms x k)) (up_tail t P v f) in let u = f t (Contains-here t P) in
      elim (sign_of (dot t v)) [
        | none g ↦ g
        | negative g ↦ absurd (omega (arith, ints, g, u))
        | positive g ↦ let p : pos 0 <ℤ (m *ℤ dot t v) = 0<-*ℤ m (dot t v) s g in absurd (omega (arith, ints, p, q, z))
      ];
}
used (m ∷ ms) (t ∷ P) e a (inr s) =
    let r = used ms P (omega (arith, e)) (λ x k. a x (in_tail m ms x k)) s in record {
      row = r.row;
      rest = t ∷ r.rest;
      listed = in_tail t P r.row r.listed;
      cover = λ x k. elim (in_cons t P x k) [
        | inl q ↦ inr (subst (Contains (t ∷ r.rest)) (sym q) (Contains-here t r.rest))
        | inr i ↦ elim (r.cover x i) [ inl q ↦ inl q | inr j ↦ inr (in_tail t r.rest x j) ]
      ];
      from = λ x k. elim (in_cons t r.rest x k) [ inl q ↦ subst (Contains (t ∷ P)) (sym q) (Contains-here t P) | inr i ↦ in_tail t P x (r.from x i) ];
      shorter = let l = r.shorter in omega (arith, l);
      zero_there = λ v f z. r.zero_there v (up_tail t P v f) (let p : pos 0 ≤ℤ (m *ℤ dot t v) = 0≤-*ℤ m (dot t v) (a m (Contains-here m ms))
          (f t (Contains-here t P)) in omega (arith, ints, p, z));
    }

-- P the rows that may be positive, Z those that are zero on the cone
record IsTried (n : ℕ) (c : Rows) (P Z : List (List ℤ)) : Type 0 where
  wide_p : AreRows n P
  wide_z : AreRows n Z
  of_c : (t : List ℤ) → Contains P t → Contains c.inequalities t
  all : (t : List ℤ) → Contains c.inequalities t → Contains P t ⊎ Contains Z t
  eqs : (t : List ℤ) → Contains c.equations t → Contains Z t
  flat : (t v : List ℤ) → Contains Z t → length v ≡ n → IsInCone c v → dot t v ≡ pos 0

-- a row of P less
record IsShorter (n : ℕ) (c : Rows) (P : List (List ℤ)) : Type 0 where
  next : List (List ℤ)
  zeros_next : List (List ℤ)
  tried : IsTried n c next zeros_next
  shorter : length next + 1 ≡ length P

try_rows : (n : ℕ) (c : Rows) (P Z : List (List ℤ)) → GordansAlternative → IsTried n c P Z → ((v : List ℤ) × IsInterior n c v) ⊎ IsShorter n c P
try_rows n c P Z g q = elim (g.one n P Z q.wide_p q.wide_z) [
  | inl s ↦
      let v : List ℤ = s.0 in
      let up : (t : List ℤ) → Contains P t → pos 0 <ℤ dot t v = λ t i. All-contains (λ t. pos 0 <ℤ dot t v) P t s.1.positive i in
      let zero_z : (t : List ℤ) → Contains Z t → dot t v ≡ pos 0 = λ t i. All-contains (λ t. dot t v ≡ pos 0) Z t s.1.zero i in inl (
        v,
        record {
          width = s.1.width;
          inside = is_in c v (λ h ch. elim (q.all h ch) [
            | inl i ↦ let u = up h i in omega (arith, ints, u)
            | inr i ↦ let u = zero_z h i in omega (arith, ints, u)
          ]) (λ h ch. zero_z h (q.eqs h ch));
          positive = all_by (λ h. (pos 0 <ℤ dot h v) ⊎ ((x : List ℤ) → length x ≡ n → IsInCone c x → dot h x ≡ pos 0)) c.inequalities
              (λ h ch. elim (q.all h ch) [ inl i ↦ inl (up h i) | inr i ↦ inr (λ x lx ix. q.flat h x i lx ix) ]);
        },
      )
  | inr r ↦
      let ms : List ℤ = r.0 in let es : List ℤ = r.1 in let f = r.2 in
      let u = used ms P f.rows_len (λ m i. All-contains (λ m. pos 0 ≤ℤ m) ms m f.not_negative i) f.not_all_zero in
      let wide : (t : List ℤ) → Contains P t → length t ≡ n = λ t i. All-contains (λ t. length t ≡ n) P t q.wide_p i in
      let row_flat : (v : List ℤ) → length v ≡ n → IsInCone c v → dot u.row v ≡ pos 0 = λ v lv iv.
      let rp = recursion_from_All (λ t. length t ≡ n) P q.wide_p in let rz = recursion_from_All (λ t. length t ≡ n) Z q.wide_z in
      let sum : dot (vector_sum (combined n ms P) (combined n es Z)) v ≡ pos 0 = ap (λ z. dot z v) f.zero_sum ∙ dot-zeros n v in
      let parts = dot-plus (combined n ms P) (combined n es Z) v (length-combined n ms P rp ∙ sym (length-combined n es Z rz)) in
      let p = dot-combined n ms P v rp in let o = dot-combined n es Z v rz in
      let z = dot-zero_values es Z v (recursion_from_All (λ t. dot t v ≡ pos 0) Z (all_by (λ t. dot t v ≡ pos 0) Z (λ t i. q.flat t v i lv iv))) in
      u.zero_there v (λ t i. up_in c v t iv (q.of_c t i)) (omega (arith, ints, sum, parts, p, o, z)) in
      inr (record {
        next = u.rest;
        zeros_next = u.row ∷ Z;
        shorter = u.shorter;
        tried = record {
          wide_p = all_by (λ t. length t ≡ n) u.rest (λ t i. wide t (u.from t i));
          wide_z = all_by (λ t. length t ≡ n) (u.row ∷ Z) (λ t i. elim (in_cons u.row Z t i) [
            | inl e ↦ ap length e ∙ wide u.row u.listed
            | inr j ↦ All-contains (λ t. length t ≡ n) Z t q.wide_z j
          ]);
          of_c = λ t i. q.of_c t (u.from t i);
          all = λ t i. elim (q.all t i) [
            | inr a ↦ inr (in_tail u.row Z t a)
            | inl a ↦ elim (u.cover t a) [ inl e ↦ inr (subst (Contains (u.row ∷ Z)) (sym e) (Contains-here u.row Z)) | inr b ↦ inl b ]
          ];
          eqs = λ t i. in_tail u.row Z t (q.eqs t i);
          flat = λ t v i lv iv. elim (in_cons u.row Z t i) [ inl e ↦ ap (λ z. dot z v) e ∙ row_flat v lv iv | inr a ↦ q.flat t v a lv iv ];
        };
      })
]

inner_by : (k n : ℕ) (c : Rows) (P Z : List (List ℤ)) → GordansAlternative → length P ≤ k → IsTried n c P Z → (v : List ℤ) × IsInterior n c v
inner_by zero n c P Z g l q = elim (try_rows n c P Z g q) [ inl r ↦ r | inr s ↦ let e = s.shorter in absurd (omega (arith, e, l)) ]
inner_by (suc k) n c P Z g l q = elim (try_rows n c P Z g q) [
  | inl r ↦ r
  | inr s ↦ inner_by k n c s.next s.zeros_next g (let e = s.shorter in omega (arith, e, l)) s.tried
]

-- each cone has an interior vector
pub inner : (n : ℕ) (c : Rows) → GordansAlternative → AreRows n c.inequalities → AreRows n c.equations → (v : List ℤ) × IsInterior n c v
inner n c g w z = inner_by (length c.inequalities) n c c.inequalities c.equations g (omega arith) (record {
  wide_p = w;
  wide_z = z;
  of_c = λ t i. i;
  all = λ t i. inl i;
  eqs = λ t i. i;
  flat = λ t v i lv iv. zero_in c v t iv i;
})
