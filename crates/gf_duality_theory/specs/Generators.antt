-- What rays and lineality vectors generate, as a relation, and what holds of them after each row.
use Rattle.std.specs.Prelude.{◌≡◌, ℕ, zero, suc, List, [], ◌∷◌, map, ℤ, pos, ◌<ℤ◌, ◌≤ℤ◌, length, Contains}
use Rattle.gf_int_theory.specs.Content.{scaled}
use Rattle.gf_vec.specs.Vector.{dot, vector_sum, zeros}

-- a positive multiple is a combination of the rays, none negative, and of the lineality vectors
pub data Made : ℕ → List (List ℤ) → List (List ℤ) → List ℤ → Type 0 where
  nothing : (n : ℕ) (rays lin : List (List ℤ)) → Made n rays lin (zeros n)
  ray : (n : ℕ) (rays lin : List (List ℤ)) (v : List ℤ) → length v ≡ n → Contains rays v → Made n rays lin v
  line : (n : ℕ) (rays lin : List (List ℤ)) (a : ℤ) (v w : List ℤ) → length v ≡ n → Contains lin v → w ≡ scaled a v → Made n rays lin w
  summed : (n : ℕ) (rays lin : List (List ℤ)) (u v w : List ℤ) → w ≡ vector_sum u v → Made n rays lin u → Made n rays lin v → Made n rays lin w
  multiplied : (n : ℕ) (rays lin : List (List ℤ)) (a : ℤ) (u w : List ℤ) → pos 0 ≤ℤ a → w ≡ scaled a u → Made n rays lin u → Made n rays lin w
  divided : (n : ℕ) (rays lin : List (List ℤ)) (a : ℤ) (u w : List ℤ) → pos 0 <ℤ a → scaled a u ≡ w → Made n rays lin w → Made n rays lin u

-- rows that are not negative on the rays, and zero on the lineality vectors
pub record AreValid (hs rays lin : List (List ℤ)) : Type 0 where
  pub up : (h x : List ℤ) → Contains hs h → Contains rays x → pos 0 ≤ℤ dot h x
  pub flat : (h x : List ℤ) → Contains hs h → Contains lin x → dot h x ≡ pos 0

-- lineality vectors and rays that generate a cone, no ray lineal
pub record IsDescribed (n : ℕ) (hs es lin rays : List (List ℤ)) : Type 0 where
  pub lin_width : (x : List ℤ) → Contains lin x → length x ≡ n
  pub rays_width : (x : List ℤ) → Contains rays x → length x ≡ n
  pub valid : AreValid hs rays lin
  pub solves : (e x : List ℤ) → Contains es e → Contains rays x → dot e x ≡ pos 0
  pub lin_solves : (e x : List ℤ) → Contains es e → Contains lin x → dot e x ≡ pos 0
  pub complete : (v : List ℤ) → length v ≡ n → ((h : List ℤ) → Contains hs h → pos 0 ≤ℤ dot h v) → ((e : List ℤ) → Contains es e → dot e v ≡ pos 0) →
      Made n rays lin v
  pub pointed : (x : List ℤ) → Contains rays x → (h : List ℤ) × (Contains hs h × (pos 0 <ℤ dot h x))

-- the unit vectors
abbrev pub unit_vectors : ℕ → List (List ℤ)
unit_vectors zero = []
unit_vectors (suc n) = (pos 1 ∷ zeros n) ∷ map (λ v. pos 0 ∷ v) (unit_vectors n)
