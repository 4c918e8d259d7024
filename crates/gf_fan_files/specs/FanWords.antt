-- The text of a fan: its sections in order, each with its name in a line, its lines, and an empty line.
-- Laws: proofs/AgainLaws.antt.
use Rattle.std.specs.Prelude.{ℕ, ◌+◌, ◌-◌, ◌==◌, Bool, true, false, List, [], ◌∷◌, ◌++◌, length, map, flat_map, fold, max, count_by, decimal, codes, Option}
use Rattle.std.specs.Prelude.{Some, None, if◌then◌else◌, ℤ}
use Rattle.std.specs.List.{list_all, range_with_len}
use Rattle.gf_text.specs.VectorText.{entry_text}
use Rattle.gf_fan_files.specs.declared.parts.ListedCone.{ListedCone}
use Rattle.gf_fan_files.specs.FanText.{file_version, ambient_dim, rays_name, lineality_space, maximal_cones, maximal_interiors}

-- What is written of a fan: the ambient dimension, the rays, a basis of the lineality space and one of its orthogonal
-- complement, all cones, the maximal ones, and a vector for each of these.
pub record FanWords : Type 0 where
  pub ambient : ℕ
  pub rays : List (List ℤ)
  pub lineality : List (List ℤ)
  pub orthogonal : List (List ℤ)
  pub cones : List ListedCone
  pub maximal : List ListedCone
  pub interiors : List (List ℤ)

-- ---- numbers

-- the greatest dimension of a cone
abbrev pub greatest_dim : List ListedCone → ℕ
greatest_dim cs = fold (λ d (c : ListedCone). max d c.dim) 0 cs

-- how many cones have this dimension
abbrev pub count_of : List ListedCone → ℕ → ℕ
count_of cs d = count_by (λ (c : ListedCone). c.dim == d) cs

-- how many cones have each dimension from this one to the greatest
abbrev pub f_vector : ℕ → List ListedCone → List ℕ
f_vector low [] = []
f_vector low (c ∷ cs) = map (count_of (c ∷ cs)) (range_with_len low (greatest_dim (c ∷ cs) + 1 - low))

-- each cone has as many rays as its dimension is above this one
abbrev pub is_simplicial : ℕ → List ListedCone → Bool
is_simplicial low cs = list_all (λ (c : ListedCone). (length c.rays + low) == c.dim) cs

-- the cones have one dimension
abbrev pub is_pure : List ListedCone → Bool
is_pure [] = true
is_pure (c ∷ cs) = list_all (λ (e : ListedCone). e.dim == c.dim) cs

-- ---- lines

-- entries with a space between them
abbrev pub spaced_entries : List ℤ → List ℕ
spaced_entries [] = []
spaced_entries (z ∷ zs) = entry_text z ++ flat_map (λ y. 32 ∷ entry_text y) zs

-- numbers with a space between them
abbrev pub spaced_numbers : List ℕ → List ℕ
spaced_numbers [] = []
spaced_numbers (n ∷ ns) = decimal n ++ flat_map (λ m. 32 ∷ decimal m) ns

-- a tab, # and a space, and a text
abbrev pub comment : List ℕ → List ℕ
comment bs = 9 ∷ 35 ∷ 32 ∷ bs

-- rays, each with its number behind it; the first has this number
abbrev pub ray_lines : ℕ → List (List ℤ) → List (List ℕ)
ray_lines i [] = []
ray_lines i (r ∷ rs) = (spaced_entries r ++ comment (decimal i)) ∷ ray_lines (i + 1) rs

-- one line of numbers, and none where there are none
abbrev pub number_lines : List ℕ → List (List ℕ)
number_lines [] = []
number_lines (n ∷ ns) = spaced_numbers (n ∷ ns) ∷ []

-- a cone: the numbers of its rays between braces
abbrev pub cone_text : List ℕ → List ℕ
cone_text ns = 123 ∷ (spaced_numbers ns ++ 125 ∷ [])

-- it has its dimension behind it
abbrev pub told_cone : ListedCone → List ℕ
told_cone c = cone_text c.rays ++ comment (codes "Dimension " ++ decimal c.dim)

-- a cone behind one of this dimension, if any: the first of its dimension tells it
abbrev pub cone_line : Option ℕ → ListedCone → List ℕ
cone_line None c = told_cone c
cone_line (Some d) c = if d == c.dim then cone_text c.rays else told_cone c

-- the lines of cones one behind another, where the dimension told before is this one
abbrev pub cone_lines : Option ℕ → List ListedCone → List (List ℕ)
cone_lines before [] = []
cone_lines before (c ∷ cs) = cone_line before c ∷ cone_lines (Some c.dim) cs

-- 1 for true, 0 for false
abbrev pub truth_line : Bool → List ℕ
truth_line true = 49 ∷ []
truth_line false = 48 ∷ []

-- the greatest dimension, and -1 where there is no cone
abbrev pub dim_line : List ListedCone → List ℕ
dim_line [] = 45 ∷ 49 ∷ []
dim_line (c ∷ cs) = decimal (greatest_dim (c ∷ cs))

-- ---- sections

-- a section that is written: its name and its lines
pub record TextSection : Type 0 where
  pub name : List ℕ
  pub lines : List (List ℕ)

-- the section of this name with these lines
abbrev pub section : List ℕ → List (List ℕ) → TextSection
section name lines = record { name = name; lines = lines }

-- the lines, each with its end
abbrev pub lines_text : List (List ℕ) → List ℕ
lines_text ls = flat_map (λ l. l ++ 10 ∷ []) ls

-- the name in a line, the lines, and an empty line
abbrev pub section_text : TextSection → List ℕ
section_text s = s.name ++ (10 ∷ (lines_text s.lines ++ 10 ∷ []))

-- the first eight sections: the version, the dimensions, the rays and the spaces
abbrev pub front_sections : FanWords → List TextSection
front_sections f = section file_version (decimal 2 ∷ [])
    ∷ section ambient_dim (decimal f.ambient ∷ [])
    ∷ section (codes "DIM") (dim_line f.cones ∷ [])
    ∷ section (codes "LINEALITY_DIM") (decimal (length f.lineality) ∷ [])
    ∷ section rays_name (ray_lines 0 f.rays)
    ∷ section (codes "N_RAYS") (decimal (length f.rays) ∷ [])
    ∷ section lineality_space (map (λ r. spaced_entries r) f.lineality)
    ∷ section (codes "ORTH_LINEALITY_SPACE") (map (λ r. spaced_entries r) f.orthogonal)
    ∷ []

-- the last six: what is told of the cones, the cones, and the vectors for the maximal ones
abbrev pub back_sections : FanWords → List TextSection
back_sections f = section (codes "F_VECTOR") (number_lines (f_vector (length f.lineality) f.cones))
    ∷ section (codes "SIMPLICIAL") (truth_line (is_simplicial (length f.lineality) f.maximal) ∷ [])
    ∷ section (codes "PURE") (truth_line (is_pure f.maximal) ∷ [])
    ∷ section (codes "CONES") (cone_lines None f.cones)
    ∷ section maximal_cones (cone_lines None f.maximal)
    ∷ section maximal_interiors (map (λ r. spaced_entries r) f.interiors)
    ∷ []

-- sections one behind another
abbrev pub sections_text : List TextSection → List ℕ
sections_text ss = flat_map section_text ss

-- the text of a fan
abbrev pub fan_text : FanWords → List ℕ
fan_text f = sections_text (front_sections f ++ back_sections f)
