-- A system whose rows a linear map takes to lex-positive vectors, and its equations to zero, has a solution.
-- To cite: solvable_by_lex.
use Rattle.std.proofs.Common.{◌≡◌, ℕ, List, [], ◌∷◌, length, ℤ, pos, ◌≤ℤ◌, sym, refl, ap, ap₂, ◌∙◌, inl, inr, subst, map, All}
use Rattle.std.proofs.lemmas.List.Elements.{recursion_from_All}
use Rattle.std.specs.List.{AllByRecursion}
use Rattle.gf_int_theory.specs.Content.{scaled}
use Rattle.gf_vec.specs.Vector.{vector_sum, zeros, combined}
use Rattle.gf_vec.proofs.VectorLaws.{length-times, length-zeros, length-combined, plus-zeros}
use Rattle.gf_gordan.specs.Alternative.{AreRows, IsSolvable, IsFarkas}
use Rattle.gf_gordan.proofs.ExistenceLaws.{alternative}
use Rattle.gf_facets_theory.specs.LexPositive.{IsLexPositive}
use Rattle.gf_facets_theory.specs.LinearMaps.{IsLinear}
use Rattle.gf_facets_theory.proofs.VectorLaws.{times-zeros}
use Rattle.gf_facets_theory.proofs.LexPositiveLaws.{lex-zeros, lex-combined}
use Rattle.std.proofs.lemmas.List.{length-map}

-- the image of a combination is that of the images
image-combined : (n m : ℕ) (image : List ℤ → List ℤ) → IsLinear n m image → (ms : List ℤ) (rows : List (List ℤ)) → AllByRecursion (λ t. length t ≡ n) rows →
    image (combined n ms rows) ≡ combined m ms (map image rows)
image-combined n m image l [] rows w = l.zero
image-combined n m image l (k ∷ ms) [] w = l.zero
image-combined n m image l (k ∷ ms) (t ∷ ts) w =
    l.sum (scaled k t) (combined n ms ts) (length-times k t ∙ w.0) (length-combined n ms ts w.1)
    ∙ ap₂ vector_sum (l.multiple k t w.0) (image-combined n m image l ms ts w.1)

images_wide : (n m : ℕ) (image : List ℤ → List ℤ) → IsLinear n m image → (rows : List (List ℤ)) → AllByRecursion (λ t. length t ≡ n) rows →
    AllByRecursion (λ t. length t ≡ m) (map image rows)
images_wide n m image l [] w = tt
images_wide n m image l (t ∷ ts) w = (l.width t w.0, images_wide n m image l ts w.1)

images_lex : (image : List ℤ → List ℤ) (rows : List (List ℤ)) → AllByRecursion (λ t. IsLexPositive (image t)) rows →
    AllByRecursion IsLexPositive (map image rows)
images_lex image [] h = tt
images_lex image (t ∷ ts) h = (h.0, images_lex image ts h.1)

-- a combination of zeros
zero_images : (m : ℕ) (image : List ℤ → List ℤ) (es : List ℤ) (rows : List (List ℤ)) → AllByRecursion (λ t. image t ≡ zeros m) rows →
    combined m es (map image rows) ≡ zeros m
zero_images m image [] rows h = refl
zero_images m image (e ∷ es) [] h = refl
zero_images m image (e ∷ es) (t ∷ ts) h =
    ap₂ vector_sum (ap (scaled e) h.0 ∙ times-zeros e m) (zero_images m image es ts h.1) ∙ plus-zeros m (zeros m) (length-zeros m)

pub solvable_by_lex : (n m : ℕ) (image : List ℤ → List ℤ) (rows es : List (List ℤ)) → IsLinear n m image → AreRows n rows → AreRows n es →
    All (λ t. IsLexPositive (image t)) rows → All (λ t. image t ≡ zeros m) es → IsSolvable n rows es
solvable_by_lex n m image rows es l wr we h k = elim (alternative.one n rows es wr we) [
  | inl s ↦ s
  | inr f ↦ absurd (clash f.0 f.1 f.2)
]
  where
    clash : (ms vs : List ℤ) → IsFarkas n rows es ms vs → ⊥
    clash ms vs f =
        let rr = recursion_from_All (λ t. length t ≡ n) rows wr in
        let er = recursion_from_All (λ t. length t ≡ n) es we in
        let a = combined n ms rows in
        let b = combined n vs es in
        let ia : image a ≡ combined m ms (map image rows) = image-combined n m image l ms rows rr in
        let ib : image b ≡ zeros m = image-combined n m image l vs es er ∙ zero_images m image vs es (recursion_from_All (λ t. image t ≡ zeros m) es k) in
        let whole : image a ≡ zeros m =
        sym (ap (vector_sum (image a)) ib ∙ plus-zeros m (image a) (l.width a (length-combined n ms rows rr))) ∙
        sym (l.sum a b (length-combined n ms rows rr) (length-combined n vs es er)) ∙ ap image f.zero_sum ∙ l.zero in
        elim (lex-combined m ms (map image rows) (f.rows_len ∙ sym (length-map rows image)) (images_wide n m image l rows rr)
        (recursion_from_All (λ v. pos 0 ≤ℤ v) ms f.not_negative) (images_lex image rows (recursion_from_All (λ t. IsLexPositive (image t)) rows h))) [
          | inl p ↦ lex-zeros m (subst IsLexPositive (sym ia ∙ whole) p)
          | inr q ↦ q.1 f.not_all_zero
        ]
