-- What rays and lineality vectors generate, as a relation, and what is kept along it.
use Rattle.gf_duality_theory.proofs.ListLaws.{none_in}
use Rattle.gf_duality_theory.specs.Generators.{Made, nothing, ray, line, summed, multiplied, divided}
use Rattle.std.proofs.Common.{◌≡◌, ℕ, List, [], length, ℤ, pos, ◌*ℤ◌, ◌≤ℤ◌, arith, sym, refl, ap, ◌∙◌, subst, Contains}
use Rattle.std.proofs.lemmas.Int.{ints}
use Rattle.gf_int_theory.specs.Content.{scaled}
use Rattle.gf_vec.specs.Vector.{dot, zeros}
use Rattle.gf_int_theory.proofs.RingLaws.{dv, ◌⊗◌}
use Rattle.gf_int_theory.proofs.SignLaws.{0≤-*ℤ, 0≤-cancel, zero-cancel}
use Rattle.gf_vec.proofs.VectorLaws.{dot_comm, dot-zeros, length-zeros, length-plus, length-times}
use Rattle.gf_vec.proofs.DotLaws.{dot-plus_right, dot-times_right}
use Rattle.gf_vec.proofs.VectorIdentities.{vv, vz, ◌⊞◌, ◌⊡◌, vsame, IsLinear}

pub Made-length : (n : ℕ) (rays lin : List (List ℤ)) (v : List ℤ) → Made n rays lin v → length v ≡ n
Made-length n rays lin v (nothing m rs ls) = length-zeros m
Made-length n rays lin v (ray m rs ls w l k) = l
Made-length n rays lin v (line m rs ls a u w l k e) = ap length e ∙ length-times a u ∙ l
Made-length n rays lin v (summed m rs ls x y w e p q) = ap length e ∙ length-plus x y (Made-length m rs ls x p ∙ sym (Made-length m rs ls y q)) ∙
    Made-length m rs ls x p
Made-length n rays lin v (multiplied m rs ls a x w k e p) = ap length e ∙ length-times a x ∙ Made-length m rs ls x p
Made-length n rays lin v (divided m rs ls a x w k e p) = sym (length-times a x) ∙ ap length e ∙ Made-length m rs ls w p

pub divided_length : (n : ℕ) (rays lin : List (List ℤ)) (a : ℤ) (u w : List ℤ) → scaled a u ≡ w → Made n rays lin w → length u ≡ n
divided_length n rays lin a u w e p = sym (length-times a u) ∙ ap length e ∙ Made-length n rays lin w p

-- a linear map carries what is made into where it carries the generators
pub Made-mapped : (n : ℕ) (rays lin next lines : List (List ℤ)) (f : List ℤ → List ℤ) (v : List ℤ) → IsLinear n f →
    ((x : List ℤ) → length x ≡ n → Contains rays x → Made n next lines (f x)) →
    ((a : ℤ) (x : List ℤ) → length x ≡ n → Contains lin x → Made n next lines (scaled a (f x))) →
    Made n rays lin v → Made n next lines (f v)
Made-mapped n rays lin next lines f v i g h (nothing m rs ls) = subst (Made m next lines) (sym i.of_zeros) (nothing m next lines)
Made-mapped n rays lin next lines f v i g h (ray m rs ls w l k) = g w l k
Made-mapped n rays lin next lines f v i g h (line m rs ls a u w l k e) = subst (Made m next lines) (sym (ap f e ∙ i.of_times a u l)) (h a u l k)
Made-mapped n rays lin next lines f v i g h (summed m rs ls x y w e p q) =
    summed m next lines (f x) (f y) (f w) (ap f e ∙ i.of_plus x y (Made-length m rs ls x p) (Made-length m rs ls y q))
    (Made-mapped m rs ls next lines f x i g h p) (Made-mapped m rs ls next lines f y i g h q)
Made-mapped n rays lin next lines f v i g h (multiplied m rs ls a x w k e p) =
    multiplied m next lines a (f x) (f w) k (ap f e ∙ i.of_times a x (Made-length m rs ls x p)) (Made-mapped m rs ls next lines f x i g h p)
Made-mapped n rays lin next lines f v i g h (divided m rs ls a x w k e p) =
    divided m next lines a (f x) (f w) k (sym (i.of_times a x (divided_length m rs ls a x w e p)) ∙ ap f e) (Made-mapped m rs ls next lines f w i g h p)

identity_linear : (n : ℕ) → IsLinear n (λ x. x)
identity_linear n = record { of_zeros = refl; of_plus = λ u v a b. refl; of_times = λ a u l. refl }

-- what is made by generators that are made
pub Made-into : (n : ℕ) (rays lin next lines : List (List ℤ)) (v : List ℤ) →
    ((x : List ℤ) → length x ≡ n → Contains rays x → Made n next lines x) →
    ((a : ℤ) (x : List ℤ) → length x ≡ n → Contains lin x → Made n next lines (scaled a x)) →
    Made n rays lin v → Made n next lines v
Made-into n rays lin next lines v g h p = Made-mapped n rays lin next lines (λ x. x) v (identity_linear n) g h p

times_linear : (n : ℕ) (a : ℤ) → IsLinear n (scaled a)
times_linear n a = record {
  of_zeros = vsame (dv a ⊡ vz n) (vz n) (λ w. omega arith);
  of_plus = λ u v k l. vsame (dv a ⊡ (vv u k ⊞ vv v l)) (dv a ⊡ vv u k ⊞ dv a ⊡ vv v l) (λ w. omega arith);
  of_times = λ b u l. vsame (dv a ⊡ (dv b ⊡ vv u l)) (dv b ⊡ (dv a ⊡ vv u l)) (λ w. omega arith);
}

-- any multiple of what lineality vectors alone make
pub span-times : (n : ℕ) (lin : List (List ℤ)) (a : ℤ) (v : List ℤ) → Made n [] lin v → Made n [] lin (scaled a v)
span-times n lin a v p = Made-mapped n [] lin [] lin (scaled a) v (times_linear n a)
    (λ x l c. absurd (none_in x c))
    (λ b x l c. line n [] lin (b *ℤ a) x (scaled b (scaled a x)) l c (vsame (dv b ⊡ (dv a ⊡ vv x l)) (dv b ⊗ dv a ⊡ vv x l) (λ w. omega arith))) p

pub span-made : (n : ℕ) (rays lin : List (List ℤ)) (v : List ℤ) → Made n [] lin v → Made n rays lin v
span-made n rays lin v p = Made-into n [] lin rays lin v (λ x l c. absurd (none_in x c)) (λ a x l c. line n rays lin a x (scaled a x) l c refl) p

-- signs are kept
pub Made-dot : (n : ℕ) (rays lin : List (List ℤ)) (h v : List ℤ) → ((x : List ℤ) → Contains rays x → pos 0 ≤ℤ dot h x) →
    ((x : List ℤ) → Contains lin x → dot h x ≡ pos 0) → Made n rays lin v → pos 0 ≤ℤ dot h v
Made-dot n rays lin h v f g (nothing m rs ls) = rw (dot_comm h (zeros m), dot-zeros m h) (omega (arith, ints))
Made-dot n rays lin h v f g (ray m rs ls w l k) = f w k
Made-dot n rays lin h v f g (line m rs ls a u w l k e) = rw (e, dot-times_right a h u, g u k) (omega (arith, ints))
Made-dot n rays lin h v f g (summed m rs ls x y w e p q) =
    let a : pos 0 ≤ℤ dot h x = Made-dot m rs ls h x f g p in let b : pos 0 ≤ℤ dot h y = Made-dot m rs ls h y f g q in
    rw (e, dot-plus_right h x y (Made-length m rs ls x p ∙ sym (Made-length m rs ls y q))) (omega (arith, ints))
Made-dot n rays lin h v f g (multiplied m rs ls a x w k e p) = rw (e, dot-times_right a h x) (0≤-*ℤ a (dot h x) k (Made-dot m rs ls h x f g p))
Made-dot n rays lin h v f g (divided m rs ls a x w k e p) =
    0≤-cancel a (dot h x) k (subst (λ z. pos 0 ≤ℤ z) (ap (dot h) (sym e) ∙ dot-times_right a h x) (Made-dot m rs ls h w f g p))

pub Made-dot_zero : (n : ℕ) (rays lin : List (List ℤ)) (h v : List ℤ) → ((x : List ℤ) → Contains rays x → dot h x ≡ pos 0) →
    ((x : List ℤ) → Contains lin x → dot h x ≡ pos 0) → Made n rays lin v → dot h v ≡ pos 0
Made-dot_zero n rays lin h v f g (nothing m rs ls) = dot_comm h (zeros m) ∙ dot-zeros m h
Made-dot_zero n rays lin h v f g (ray m rs ls w l k) = f w k
Made-dot_zero n rays lin h v f g (line m rs ls a u w l k e) = rw (e, dot-times_right a h u, g u k) (omega (arith, ints))
Made-dot_zero n rays lin h v f g (summed m rs ls x y w e p q) =
    rw (e, dot-plus_right h x y (Made-length m rs ls x p ∙ sym (Made-length m rs ls y q)), Made-dot_zero m rs ls h x f g p, Made-dot_zero m rs ls h y f g q)
    (omega (arith, ints))
Made-dot_zero n rays lin h v f g (multiplied m rs ls a x w k e p) = rw (e, dot-times_right a h x, Made-dot_zero m rs ls h x f g p) (omega (arith, ints))
Made-dot_zero n rays lin h v f g (divided m rs ls a x w k e p) =
    zero-cancel a (dot h x) k (sym (dot-times_right a h x) ∙ ap (dot h) e ∙ Made-dot_zero m rs ls h w f g p)
