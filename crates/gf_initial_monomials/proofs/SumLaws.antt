-- Sums of the rays with some numbers, one number further. To cite: SumSoFar, sum_none, sum_more, sum_all, sum_wide.
use Rattle.std.proofs.Common.{◌≡◌, ℕ, zero, suc, ◌+◌, ◌<◌, ◌≤◌, List, [], ◌∷◌, ◌++◌, length, ℤ, arith, refl, sym, ap, ◌∙◌, subst, take, drop, get_or, Contains}
use Rattle.std.proofs.lemmas.List.{take_more, take_all, get_or_default}
use Rattle.std.proofs.lemmas.List.Elements.{All-contains}
use Rattle.gf_int_theory.proofs.ListLaws.{all_by}
use Rattle.gf_vec.specs.declared.error.WideVector.{WideVector}
use Rattle.gf_vec.specs.Vector.{vector_sum, zeros}
use Rattle.gf_vec.specs.Steps.{sum_steps, NoneWide, IsFirstWide}
use Rattle.gf_vec.proofs.VectorLaws.{length-plus}
use Rattle.gf_vec.proofs.VectorIdentities.{vz}
use Rattle.gf_gordan.specs.Alternative.{AreRows}
use Rattle.gf_duality_theory.specs.Faces.{sum_of}
use Rattle.gf_fans_theory.specs.FaceLists.{numbered}
use Rattle.gf_fans_theory.proofs.PartNumbers.{of_number}
use Rattle.gf_rays.specs.Sums.{adding_steps}
use Rattle.gf_rays.proofs.SumLaws.{added, added_push, sum_added, none_push, first_at}
use Rattle.gf_rays.proofs.PickedLaws.{numbered_snoc}

-- ---- by numbers

numbered_append : (vs : List (List ℤ)) (xs ys : List ℕ) → numbered vs (xs ++ ys) ≡ numbered vs xs ++ numbered vs ys
numbered_append vs [] ys = refl
numbered_append vs (x ∷ xs) ys = ap (λ (z : List (List ℤ)). get_or vs x [] ∷ z) (numbered_append vs xs ys)

parted : (xs : List ℕ) (k : ℕ) → k < length xs → xs ≡ take k xs ++ get_or xs k 0 ∷ drop (suc k) xs
parted [] k l = absurd (omega arith)
parted (x ∷ xs) zero l = refl
parted (x ∷ xs) (suc k) l = ap (λ (z : List ℕ). x ∷ z) (parted xs k (omega arith))

-- what has been added so far
pub record SumSoFar (n : ℕ) (rays : List (List ℤ)) (numbers : List ℕ) (k : ℕ) (s : List ℤ) : Type 0 where
  pub value : s ≡ added (zeros n) (numbered rays (take k numbers))
  pub long : length s ≡ n
  pub none : NoneWide (adding_steps (zeros n) (numbered rays (take k numbers)))

pub sum_none : (n : ℕ) (rays : List (List ℤ)) (numbers : List ℕ) (s : List ℤ) → s ≡ zeros n → SumSoFar n rays numbers 0 s
sum_none n rays numbers s e = record { value = e; long = ap (λ (t : List ℤ). length t) e ∙ (vz n).long; none = tt }

pub ray_long : (n : ℕ) (rays : List (List ℤ)) (i : ℕ) (x : List ℤ) → AreRows n rays → i < length rays → x ≡ get_or rays i x → length x ≡ n
ray_long n rays i x w l e = All-contains (λ (t : List ℤ). length t ≡ n) rays x w (i, l, sym e)

pub sum_more : (n : ℕ) (rays : List (List ℤ)) (numbers : List ℕ) (k : ℕ) (s x next : List ℤ) → k < length numbers → get_or numbers k 0 < length rays →
    x ≡ get_or rays (get_or numbers k 0) x → length x ≡ n → next ≡ vector_sum s x → NoneWide (sum_steps s x) → SumSoFar n rays numbers k s →
    SumSoFar n rays numbers (k + 1) next
sum_more n rays numbers k s x next lk li e lx en f g =
    let here : get_or rays (get_or numbers k 0) [] ≡ x = get_or_default rays (get_or numbers k 0) [] x li ∙ sym e in
    let q : numbered rays (take (k + 1) numbers) ≡ numbered rays (take k numbers) ++ x ∷ [] =
    ap (numbered rays) (take_more numbers k 0 lk) ∙ numbered_snoc rays (take k numbers) (get_or numbers k 0) ∙
    ap (λ (t : List ℤ). numbered rays (take k numbers) ++ t ∷ []) here in
    record {
      value = en ∙ ap (λ (t : List ℤ). vector_sum t x) g.value ∙ sym (added_push (zeros n) (numbered rays (take k numbers)) x) ∙ ap (added (zeros n)) (sym q);
      long = ap (λ (t : List ℤ). length t) en ∙ length-plus s x (g.long ∙ sym lx) ∙ g.long;
      none = subst (λ (l : List (List ℤ)). NoneWide (adding_steps (zeros n) l)) (sym q) (none_push (zeros n) (numbered rays (take k numbers)) x g.none
          (subst (λ (t : List ℤ). NoneWide (sum_steps t x)) g.value f));
    }

pub sum_all : (n : ℕ) (rays : List (List ℤ)) (numbers : List ℕ) (k : ℕ) (s : List ℤ) → AreRows n rays → ((i : ℕ) → Contains numbers i → i < length rays) →
    length numbers ≤ k → SumSoFar n rays numbers k s → s ≡ sum_of n (numbered rays numbers)
sum_all n rays numbers k s w inside l g = g.value ∙ ap (λ (z : List ℕ). added (zeros n) (numbered rays z)) (take_all k numbers l) ∙ sum_added n
    (numbered rays numbers) (all_by (λ (t : List ℤ). length t ≡ n) (numbered rays numbers) long)
  where
    long : (x : List ℤ) → Contains (numbered rays numbers) x → length x ≡ n
    long x c = let p = of_number rays numbers x c in ray_long n rays p.0 x w (inside p.0 p.1.0) (sym p.1.1 ∙ get_or_default rays p.0 [] x (inside p.0 p.1.0))

pub sum_wide : (n : ℕ) (rays : List (List ℤ)) (numbers : List ℕ) (k : ℕ) (s x : List ℤ) (e : WideVector) → k < length numbers →
    get_or numbers k 0 < length rays → x ≡ get_or rays (get_or numbers k 0) x → IsFirstWide e (sum_steps s x) → SumSoFar n rays numbers k s →
    IsFirstWide e (adding_steps (zeros n) (numbered rays numbers))
sum_wide n rays numbers k s x e lk li q f g =
    let here : get_or rays (get_or numbers k 0) [] ≡ x = get_or_default rays (get_or numbers k 0) [] x li ∙ sym q in
    let all : numbered rays numbers ≡ numbered rays (take k numbers) ++ x ∷ numbered rays (drop (suc k) numbers) =
    ap (numbered rays) (parted numbers k lk) ∙ numbered_append rays (take k numbers) (get_or numbers k 0 ∷ drop (suc k) numbers) ∙
    ap (λ (t : List ℤ). numbered rays (take k numbers) ++ t ∷ numbered rays (drop (suc k) numbers)) here in
    subst (λ (l : List (List ℤ)). IsFirstWide e (adding_steps (zeros n) l)) (sym all) (first_at (zeros n) (numbered rays (take k numbers)) x
    (numbered rays (drop (suc k) numbers)) e g.none (subst (λ (t : List ℤ). IsFirstWide e (sum_steps t x)) g.value f))
