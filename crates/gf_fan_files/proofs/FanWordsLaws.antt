-- Steps of writing a fan: numbers of cones, lines, and sections one after another.
-- To cite: f_vector_of, counts_more, rows_text, none_yet, one_more, both_parts, three_parts. The rest are steps.
use Rattle.std.proofs.Common.{ap₂, ◌≤◌, ◌≡◌, ◌<◌, ℕ, ◌+◌, ◌-◌, List, [], ◌∷◌, ◌++◌, length, map, flat_map, refl, sym, ap, ◌∙◌, append_assoc, append-nil, arith}
use Rattle.std.proofs.Common.{ℤ}
use Rattle.std.specs.List.{range_with_len}
use Rattle.std.proofs.lemmas.List.FromFn.{map-range_with_len_more}
use Rattle.gf_fan_files.specs.declared.parts.ListedCone.{ListedCone}
use Rattle.gf_fan_files.specs.FanWords.{greatest_dim, count_of, f_vector, spaced_entries, lines_text, TextSection, section_text, sections_text}

-- the numbers of cones of each dimension, where there are cones
pub f_vector_of : (low : ℕ) (cs : List ListedCone) → 0 < length cs → f_vector low cs ≡ map (count_of cs) (range_with_len low (greatest_dim cs + 1 - low))
f_vector_of low [] h = absurd (omega arith)
f_vector_of low (c ∷ cs) h = refl

-- numbers of one dimension after another, and one more
pub counts_more : (f : ℕ → ℕ) (low dim n : ℕ) (old new : List ℕ) → low ≤ dim → old ≡ map f (range_with_len low (dim - low)) → n ≡ f dim → new ≡ old ++ n ∷ [] →
    new ≡ map f (range_with_len low (dim + 1 - low))
counts_more f low dim n old new from before here is =
    let next : dim + 1 - low ≡ (dim - low) + 1 = omega (arith, from) in
    let place : low + (dim - low) ≡ dim = omega (arith, from) in
    is ∙ ap₂ (λ (xs : List ℕ) (m : ℕ). xs ++ m ∷ []) before here ∙ sym (map-range_with_len_more f low (dim - low) dim place) ∙
    ap (λ k. map f (range_with_len low k)) (sym next)

-- rows, each with the end of its line
pub rows_text : (rs : List (List ℤ)) → flat_map (λ r. spaced_entries r ++ 10 ∷ []) rs ≡ lines_text (map (λ r. spaced_entries r) rs)
rows_text [] = refl
rows_text (r ∷ rs) = ap (λ l. (spaced_entries r ++ 10 ∷ []) ++ l) (rows_text rs)

pub sections-++ : (ss ts : List TextSection) → sections_text (ss ++ ts) ≡ sections_text ss ++ sections_text ts
sections-++ [] ts = refl
sections-++ (s ∷ ss) ts = ap (λ l. section_text s ++ l) (sections-++ ss ts) ∙ sym (append_assoc (section_text s) (sections_text ss) (sections_text ts))

-- nothing was added
pub none_yet : (front : List ℕ) → front ≡ front ++ sections_text []
none_yet front = sym (append-nil front)

-- behind these sections, one more
pub one_more : (front now next : List ℕ) (ss : List TextSection) (s : TextSection) → now ≡ front ++ sections_text ss → next ≡ now ++ section_text s →
    next ≡ front ++ sections_text (ss ++ s ∷ [])
one_more front now next ss s e f =
    f ∙ ap (λ l. l ++ section_text s) e ∙ append_assoc front (sections_text ss) (section_text s)
    ∙ ap (λ l. front ++ l) (ap (λ l. sections_text ss ++ l) (sym (append-nil (section_text s))) ∙ sym (sections-++ ss (s ∷ [])))

-- two parts of them, one behind the other
pub both_parts : (now next : List ℕ) (ss ts : List TextSection) → now ≡ sections_text ss → next ≡ now ++ sections_text ts → next ≡ sections_text (ss ++ ts)
both_parts now next ss ts e f = f ∙ ap (λ l. l ++ sections_text ts) e ∙ sym (sections-++ ss ts)

-- ---- appended texts

pub three_parts : (front b p r one two three : List ℕ) → one ≡ front ++ b → two ≡ one ++ p → three ≡ two ++ r → three ≡ front ++ (b ++ (p ++ r))
three_parts front b p r one two three e f g =
    g ∙ ap (λ l. l ++ r) (f ∙ ap (λ l. l ++ p) e) ∙ append_assoc (front ++ b) p r ∙ append_assoc front b (p ++ r)
