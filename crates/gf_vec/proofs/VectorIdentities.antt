-- Identities of whole vectors: each side is written with combinators, and arithmetic compares what they give on every vector.
use Rattle.std.proofs.Common.{◌≡◌, ℕ, ◌+◌, List, length, ℤ, sym, ◌∙◌, subst}
use borrow.Author.Differences.{up, down}
use Rattle.gf_int_theory.specs.Content.{scaled}
use Rattle.gf_vec.specs.Vector.{dot, vector_sum, zeros}
use Rattle.gf_int_theory.proofs.RingLaws.{Diff, same, dv, dn, ◌⊕◌, ◌⊗◌}
use Rattle.gf_vec.proofs.VectorLaws.{dot_comm, dot-plus, dot-times, dot-zeros, length-zeros, length-plus, length-times}
use Rattle.gf_vec.proofs.DotLaws.{vector_ext}

-- a vector of n entries, and what it gives on each vector
pub record Vec (n : ℕ) (v : List ℤ) : Type 0 where
  pub long : length v ≡ n
  pub on : (w : List ℤ) → Diff (dot v w)

abbrev pub moved : {a b : ℤ} → a ≡ b → Diff a → Diff b
moved {a} {b} e x = record { more = x.more; less = x.less; is = subst (λ z. up z + x.less ≡ down z + x.more) e x.is }

abbrev pub vv : {n : ℕ} (v : List ℤ) → length v ≡ n → Vec n v
vv v l = record { long = l; on = λ w. dv (dot v w) }

abbrev pub vz : (n : ℕ) → Vec n (zeros n)
vz n = record { long = length-zeros n; on = λ w. moved (sym (dot-zeros n w)) (dn 0) }

infixl 6 ◌⊞◌
infixl 7 ◌⊡◌
abbrev pub ◌⊞◌ : {n : ℕ} {u v : List ℤ} → Vec n u → Vec n v → Vec n (vector_sum u v)
◌⊞◌ {n} {u} {v} x y = record {
  long = length-plus u v (x.long ∙ sym y.long) ∙ x.long;
  on = λ w. moved (sym (dot-plus u v w (x.long ∙ sym y.long))) (x.on w ⊕ y.on w);
}

abbrev pub ◌⊡◌ : {n : ℕ} {k : ℤ} {v : List ℤ} → Diff k → Vec n v → Vec n (scaled k v)
◌⊡◌ {n} {k} {v} d x = record {
  long = length-times k v ∙ x.long;
  on = λ w. moved (sym (dot-times k v w)) (d ⊗ x.on w);
}

-- what h gives on it
abbrev pub by : {n : ℕ} {v : List ℤ} → (h : List ℤ) → Vec n v → Diff (dot h v)
by {n} {v} h x = moved (dot_comm v h) (x.on h)

-- two vectors are one where what they give is
pub vsame : {n : ℕ} {u v : List ℤ} (x : Vec n u) (y : Vec n v) → ((w : List ℤ) → (x.on w).more + (y.on w).less ≡ (y.on w).more + (x.on w).less) → u ≡ v
vsame {n} {u} {v} x y h = vector_ext u v (x.long ∙ sym y.long) (λ w. same (x.on w) (y.on w) (h w))

-- a linear map of vectors with n entries
pub record IsLinear (n : ℕ) (f : List ℤ → List ℤ) : Type 0 where
  pub of_zeros : f (zeros n) ≡ zeros n
  pub of_plus : (u v : List ℤ) → length u ≡ n → length v ≡ n → f (vector_sum u v) ≡ vector_sum (f u) (f v)
  pub of_times : (a : ℤ) (u : List ℤ) → length u ≡ n → f (scaled a u) ≡ scaled a (f u)
