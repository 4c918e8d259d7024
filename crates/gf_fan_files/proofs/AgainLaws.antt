-- What is written of a fan is read again.
-- To cite: fans_again. The rest are steps.
use Rattle.std.proofs.Common.{◌≡◌, ◌≤◌, ◌<◌, ℕ, ℤ, ◌+◌, ◌-◌, ◌==◌, Bool, true, false, List, [], ◌∷◌, ◌++◌, length, map, fold, max, take, codes, decimal, Option}
use Rattle.std.proofs.Common.{None, Some, refl, sym, ap, ◌∙◌, inr, subst, bytes_eq, nat_le, append-nil, get_or, arith, All, if◌then◌else◌}
use Rattle.std.specs.List.{AllByRecursion, range_with_len}
use Rattle.std.proofs.lemmas.List.Elements.{recursion_from_All}
use Rattle.std.proofs.lemmas.List.Sums.{count_by-le-length}
use Rattle.gf_text.specs.declared.TheConstants.{MOST_VARIABLES}
use Rattle.gf_text.specs.Machine.{Lexeme, texts}
use Rattle.gf_text.specs.Tokens.{is_number, decimal_value}
use Rattle.gf_text.specs.RingText.{has, is_name}
use Rattle.gf_text.proofs.SetTokensLaws.{le_test}
use Rattle.gf_fan_files.specs.declared.parts.ListedCone.{ListedCone}
use Rattle.gf_fan_files.specs.Lines.{Section, sections, before_comment, is_section_name, content_tokens, end_before}
use Rattle.gf_fan_files.specs.NumberText.{IsOneNumberText}
use Rattle.gf_fan_files.specs.ConeText.{most_number}
use Rattle.gf_fan_files.specs.FanText.{number_to, rows, cones, any, Content, the_number, the_rows, the_cones, passed, Table, Named, kind_in, is_second}
use Rattle.gf_fan_files.specs.FanText.{version_number, version_in, told_version, IsKnownVersion, fan_table, AreHeld, found, file_version, ambient_dim}
use Rattle.gf_fan_files.specs.FanText.{rays_name, lineality_space, maximal_cones, maximal_interiors, IsContentText}
use Rattle.gf_fan_files.specs.FanWords.{FanWords, section, greatest_dim, count_of, f_vector, is_simplicial, is_pure, spaced_entries, comment, ray_lines}
use Rattle.gf_fan_files.specs.FanWords.{number_lines, cone_text, told_cone, cone_line, cone_lines, truth_line, dim_line, front_sections, back_sections}
use Rattle.gf_fan_files.specs.FanWords.{fan_text}
use Rattle.gf_fan_files.specs.FansAgain.{AreWritable, IsWritableCone, IsWritable, file_of, FansAreReadAgain}
use Rattle.gf_fan_files.specs.Files.{AreInteriorsOf, IsFileOf}
use Rattle.gf_fan_files.proofs.WrittenLaws.{no_byte, IsContentLine, AreContentLines, ArePlain, contents, IsSaid, AreSaid, written_again}
use Rattle.gf_fan_files.proofs.PrintedRowsLaws.{no_tail, comment_tail, IsSmall, AreSmall, IsRowLine, AreRowLines, row_as_line, rows_hold, rows_content}
use Rattle.gf_fan_files.proofs.PrintedRowsLaws.{rows_plain, first_digit}
use Rattle.gf_fan_files.proofs.PrintedConesLaws.{IsNumber, AreNumbers, number_is, number_no, number_holds, IsConeLine, AreConeLines, cone_as_line, cones_hold}
use Rattle.gf_fan_files.proofs.PrintedConesLaws.{cones_content, cones_plain, numbers_content, numbers_no}

-- ---- limits, one after another

-- at least one entry, and each is within its limit
abbrev IsGood : List ℤ → Type 0
IsGood r = (0 < length r) × AreSmall r

good_rows : (n : ℕ) (rs : List (List ℤ)) → 0 < n → AreWritable n rs → AllByRecursion (λ r. IsGood r) rs
good_rows n rs some h = recursion_from_All (λ r. IsGood r) rs (λ k d below.
    let width : length (get_or rs k d) ≡ n = h.width k d below in
    (omega (arith, width, some), recursion_from_All (λ z. IsSmall z) (get_or rs k d) (h.entries k d below)))

-- a cone's dimension and numbers
abbrev IsGoodCone : ListedCone → Type 0
IsGoodCone c = IsNumber c.dim × AreNumbers c.rays

good_cones : (cs : List ListedCone) → All IsWritableCone cs → AllByRecursion (λ c. IsGoodCone c) cs
good_cones cs h = recursion_from_All (λ c. IsGoodCone c) cs (λ k d below. let w = h k d below in
    (w.dim, recursion_from_All (λ n. IsNumber n) (get_or cs k d).rays w.rays))

greatest_from : (d : ℕ) (cs : List ListedCone) → IsNumber d → AllByRecursion (λ c. IsGoodCone c) cs → IsNumber (fold (λ e (c : ListedCone). max e c.dim) d cs)
greatest_from d [] small h = small
greatest_from d (c ∷ cs) small h = greatest_from (max d c.dim) cs (let here = h.0.0 in omega (arith, small, here)) h.1

counts_within : (cs : List ListedCone) (ds : List ℕ) → IsNumber (length cs) → AreNumbers (map (count_of cs) ds)
counts_within cs [] few = tt
counts_within cs (d ∷ ds) few = (omega (arith, few, count_by-le-length (λ (c : ListedCone). c.dim == d) cs), counts_within cs ds few)

vector_within : (low : ℕ) (cs : List ListedCone) → IsNumber (length cs) → AreNumbers (f_vector low cs)
vector_within low [] few = tt
vector_within low (c ∷ cs) few = counts_within (c ∷ cs) (range_with_len low (greatest_dim (c ∷ cs) + 1 - low)) few

-- ---- lines

row_lines : (rs : List (List ℤ)) → AllByRecursion (λ r. IsGood r) rs → AreRowLines (map (λ r. spaced_entries r) rs) rs
row_lines [] h = tt
row_lines ([] ∷ rs) h = absurd (let some = h.0.0 in omega (arith, some))
row_lines ((z ∷ zs) ∷ rs) h = (subst (λ l. IsRowLine l (z ∷ zs)) (append-nil (spaced_entries (z ∷ zs))) (row_as_line z zs [] h.0.1 no_tail), row_lines rs h.1)

rays_lines : (i : ℕ) (rs : List (List ℤ)) → i + length rs ≤ most_number → AllByRecursion (λ r. IsGood r) rs → AreRowLines (ray_lines i rs) rs
rays_lines i [] few h = tt
rays_lines i ([] ∷ rs) few h = absurd (let some = h.0.0 in omega (arith, some))
rays_lines i ((z ∷ zs) ∷ rs) few h = (
  row_as_line z zs (comment (decimal i)) h.0.1 (comment_tail (decimal i) (number_no 10 i (omega arith) refl)),
  rays_lines (i + 1) rs (omega arith) h.1,
)

bare_cone : (c : ListedCone) → IsGoodCone c → IsConeLine (cone_text c.rays) c.rays
bare_cone c h = subst (λ l. IsConeLine l c.rays) (append-nil (cone_text c.rays)) (cone_as_line c.rays [] h.1 no_tail)

told_as_line : (c : ListedCone) → IsGoodCone c → IsConeLine (told_cone c) c.rays
told_as_line c h = cone_as_line c.rays (comment (codes "Dimension " ++ decimal c.dim)) h.1 (comment_tail (codes "Dimension " ++ decimal c.dim)
    (number_no 10 c.dim h.0 refl))

one_line : (before : Option ℕ) (c : ListedCone) → IsGoodCone c → IsConeLine (cone_line before c) c.rays
one_line None c h = told_as_line c h
one_line (Some d) c h = by (d == c.dim)
  where
    by : (v : Bool) → IsConeLine (if v then cone_text c.rays else told_cone c) c.rays
    by true = bare_cone c h
    by false = told_as_line c h

lines_of : (before : Option ℕ) (cs : List ListedCone) → AllByRecursion (λ c. IsGoodCone c) cs →
    AreConeLines (cone_lines before cs) (map (λ (c : ListedCone). c.rays) cs)
lines_of before [] h = tt
lines_of before (c ∷ cs) h = (one_line before c h.0, lines_of (Some c.dim) cs h.1)

-- ---- sections

abbrev Lines : List (List ℕ) → Type 0
Lines ls = AreContentLines ls × ArePlain ls

-- the table of the version 2
abbrev second_table : Table
second_table = fan_table (Some 2)

-- a name of a section that wasn't there before
record IsNew (seen : List (List ℕ)) (n : List ℕ) : Type 0 where
  new : has seen n ≡ false
  name : is_section_name n ≡ true
  word : is_name n ≡ true
  bare : before_comment n ≡ n
  one_line : no_byte 10 n ≡ true

is_said : (seen : List (List ℕ)) (n : List ℕ) (ls : List (List ℕ)) (c : Content) → IsNew seen n → Lines ls →
    ((end at : ℕ) → IsContentText (kind_in second_table n) (texts (content_tokens end (contents at ls))) c)
    → IsSaid second_table seen (section n ls) c
is_said seen n ls c is lines holds = record {
  new = is.new;
  name = is.name;
  word = is.word;
  bare = is.bare;
  one_line = is.one_line;
  lines = lines.0;
  plain = lines.1;
  holds = holds;
}

decimal_lines : (n : ℕ) → IsNumber n → Lines (decimal n ∷ [])
decimal_lines n h = ((subst IsContentLine (append-nil (decimal n)) (first_digit (decimal n) [] (number_is n h).0), tt), (number_no 10 n h refl, tt))

dim_lines : (cs : List ListedCone) → AllByRecursion (λ c. IsGoodCone c) cs → Lines (dim_line cs ∷ [])
dim_lines [] h = ((record { first = 45; others = 49 ∷ []; shape = refl; visible = refl; small = refl; bare = refl }, tt), (refl, tt))
dim_lines (c ∷ cs) h = decimal_lines (greatest_dim (c ∷ cs)) (greatest_from 0 (c ∷ cs) (omega arith) h)

truth_lines : (v : Bool) → Lines (truth_line v ∷ [])
truth_lines true = ((record { first = 49; others = []; shape = refl; visible = refl; small = refl; bare = refl }, tt), (refl, tt))
truth_lines false = ((record { first = 48; others = []; shape = refl; visible = refl; small = refl; bare = refl }, tt), (refl, tt))

numbers_lines : (ns : List ℕ) → AreNumbers ns → Lines (number_lines ns)
numbers_lines [] h = (tt, tt)
numbers_lines (n ∷ ns) h = ((numbers_content n ns h, tt), (numbers_no 10 (n ∷ ns) h refl refl, tt))

lines_of_rows : (ls : List (List ℕ)) (rs : List (List ℤ)) → AreRowLines ls rs → Lines ls
lines_of_rows ls rs h = (rows_content ls rs h, rows_plain ls rs h)

lines_of_cones : (ls cs : List (List ℕ)) → AreConeLines ls cs → Lines ls
lines_of_cones ls cs h = (cones_content ls cs h, cones_plain ls cs h)

-- a section that isn't looked at
is_passed : (seen : List (List ℕ)) (n : List ℕ) (ls : List (List ℕ)) → IsNew seen n → kind_in second_table n ≡ any → Lines ls →
    IsSaid second_table seen (section n ls) passed
is_passed seen n ls is kind lines = is_said seen n ls passed is lines (λ end at. kind)

-- rows, lists, a number
are_rows : (seen : List (List ℕ)) (n : List ℕ) (ls : List (List ℕ)) (rs : List (List ℤ)) → IsNew seen n → kind_in second_table n ≡ rows → AreRowLines ls rs →
    IsSaid second_table seen (section n ls) (the_rows rs)
are_rows seen n ls rs is kind lines = is_said seen n ls (the_rows rs) is (lines_of_rows ls rs lines) (λ end at. (kind, rows_hold ls rs lines end at))

are_cones : (seen : List (List ℕ)) (n : List ℕ) (ls cs : List (List ℕ)) → IsNew seen n → kind_in second_table n ≡ cones → AreConeLines ls cs →
    IsSaid second_table seen (section n ls) (the_cones cs)
are_cones seen n ls cs is kind lines = is_said seen n ls (the_cones cs) is (lines_of_cones ls cs lines) (λ end at. (kind, cones_hold ls cs lines end at))

is_number_to : (seen : List (List ℕ)) (n : List ℕ) (limit k : ℕ) → IsNew seen n → kind_in second_table n ≡ number_to limit → IsNumber k → k ≤ limit →
    IsSaid second_table seen (section n (decimal k ∷ [])) (the_number k)
is_number_to seen n limit k is kind small below = is_said seen n (decimal k ∷ []) (the_number k) is (decimal_lines k small)
    (λ end at. (limit, kind, number_holds k small end at, le_test k limit below))

-- ---- the sections of a fan

new_name : (seen : List (List ℕ)) (n : List ℕ) → has seen n ≡ false → is_section_name n ≡ true → is_name n ≡ true → before_comment n ≡ n → no_byte 10 n ≡ true →
    IsNew seen n
new_name seen n new name word bare one_line = record { new = new; name = name; word = word; bare = bare; one_line = one_line }

-- the names of its sections, of which the first so many stand before another
abbrev names : ℕ → List (List ℕ)
names k = take k (file_version ∷ ambient_dim ∷ codes "DIM" ∷ codes "LINEALITY_DIM" ∷ rays_name ∷ codes "N_RAYS" ∷ lineality_space ∷
    codes "ORTH_LINEALITY_SPACE" ∷ codes "F_VECTOR" ∷ codes "SIMPLICIAL" ∷ codes "PURE" ∷ codes "CONES" ∷ maximal_cones ∷ maximal_interiors ∷ [])

-- ---- the version that is told

number_held : (xs : List Lexeme) (n : ℕ) → IsOneNumberText (texts xs) n → version_number xs ≡ n
number_held [] n (t, is, number) = cc
number_held (x ∷ xs) n (t, is, (digits, same, small)) =
    let first : x.text ≡ t = cc in
    let size : decimal_value x.text ≡ n = ap decimal_value first ∙ same in
    let number : is_number x.text ≡ true = ap is_number first ∙ digits in
    let within : nat_le (decimal_value x.text) most_number ≡ true = le_test (decimal_value x.text) most_number (omega arith) in
    rw (number, within) size

-- sections of which the first is the version 2
second_held : (end : ℕ) (ss : List Section) (rest : Named) → AreHeld second_table end [] ss ((file_version, the_number 2) ∷ rest) → version_in end ss ≡ Some 2
second_held end [] rest h = cc
second_held end (s ∷ ss) rest (new, name, content, later) =
    let named : bytes_eq file_version s.name ≡ true = ap (bytes_eq file_version) (sym name) in
    rw named (ap (λ n. Some n) (number_held (content_tokens (end_before end ss) s.content) 2 content.2))

module _ (f : FanWords) (h : IsWritable f) where
  -- what they say
  abbrev said_of : Named
  said_of = (file_version, the_number 2)
      ∷ (ambient_dim, the_number f.ambient)
      ∷ (codes "DIM", passed)
      ∷ (codes "LINEALITY_DIM", passed)
      ∷ (rays_name, the_rows f.rays)
      ∷ (codes "N_RAYS", passed)
      ∷ (lineality_space, the_rows f.lineality)
      ∷ (codes "ORTH_LINEALITY_SPACE", passed)
      ∷ (codes "F_VECTOR", passed)
      ∷ (codes "SIMPLICIAL", passed)
      ∷ (codes "PURE", passed)
      ∷ (codes "CONES", passed)
      ∷ (maximal_cones, the_cones (map (λ (c : ListedCone). c.rays) f.maximal))
      ∷ (maximal_interiors, the_rows f.interiors)
      ∷ []

  all_said : AreSaid second_table [] (front_sections f ++ back_sections f) said_of
  all_said =
      let low = length f.lineality in
      let rays = good_rows f.ambient f.rays h.positive h.rays in
      let lineality = row_lines f.lineality (good_rows f.ambient f.lineality h.positive h.lineality) in
      let orthogonal = row_lines f.orthogonal (good_rows f.ambient f.orthogonal h.positive h.orthogonal) in
      let interiors = row_lines f.interiors (good_rows f.ambient f.interiors h.positive h.interiors) in
      let every = good_cones f.cones h.cones in
      let count : length f.rays ≤ most_number = h.rays_count in
      let small : f.ambient ≤ MOST_VARIABLES = h.ambient in (
        refl,
        is_number_to [] file_version most_number 2 (new_name [] file_version refl refl refl refl refl) refl (omega arith) (omega arith),
        (
          refl,
          is_number_to (names 1) ambient_dim MOST_VARIABLES f.ambient (new_name (names 1) ambient_dim refl refl refl refl refl) refl
              (omega (arith, small)) small,
          (
            refl,
            is_passed (names 2) (codes "DIM") (dim_line f.cones ∷ []) (new_name (names 2) (codes "DIM") refl refl refl refl refl) refl
                (dim_lines f.cones every),
            (
              refl,
              is_passed (names 3) (codes "LINEALITY_DIM") (decimal low ∷ []) (new_name (names 3) (codes "LINEALITY_DIM") refl refl refl refl refl) refl
                  (decimal_lines low h.lineality_count),
              (
                refl,
                are_rows (names 4) rays_name (ray_lines 0 f.rays) f.rays (new_name (names 4) rays_name refl refl refl refl refl) refl
                    (rays_lines 0 f.rays (omega (arith, count)) rays),
                (
                  refl,
                  is_passed (names 5) (codes "N_RAYS") (decimal (length f.rays) ∷ []) (new_name (names 5) (codes "N_RAYS") refl refl refl refl refl) refl
                      (decimal_lines (length f.rays) count),
                  (
                    refl,
                    are_rows (names 6) lineality_space (map (λ r. spaced_entries r) f.lineality) f.lineality
                        (new_name (names 6) lineality_space refl refl refl refl refl) refl lineality,
                    (
                      refl,
                      is_passed (names 7) (codes "ORTH_LINEALITY_SPACE") (map (λ r. spaced_entries r) f.orthogonal)
                          (new_name (names 7) (codes "ORTH_LINEALITY_SPACE") refl refl refl refl refl) refl
                          (lines_of_rows (map (λ r. spaced_entries r) f.orthogonal) f.orthogonal orthogonal),
                      (
                        refl,
                        is_passed (names 8) (codes "F_VECTOR") (number_lines (f_vector low f.cones))
                            (new_name (names 8) (codes "F_VECTOR") refl refl refl refl refl) refl
                            (numbers_lines (f_vector low f.cones) (vector_within low f.cones h.cones_count)),
                        (
                          refl,
                          is_passed (names 9) (codes "SIMPLICIAL") (truth_line (is_simplicial low f.maximal) ∷ []) (new_name (names 9) (codes "SIMPLICIAL")
                              refl refl refl refl refl) refl (truth_lines (is_simplicial low f.maximal)),
                          (
                            refl,
                            is_passed (names 10) (codes "PURE") (truth_line (is_pure f.maximal) ∷ []) (new_name (names 10) (codes "PURE")
                                refl refl refl refl refl) refl (truth_lines (is_pure f.maximal)),
                            (
                              refl,
                              is_passed (names 11) (codes "CONES") (cone_lines None f.cones) (new_name (names 11) (codes "CONES") refl refl refl refl refl) refl
                                  (lines_of_cones (cone_lines None f.cones) (map (λ (c : ListedCone). c.rays) f.cones) (lines_of None f.cones every)),
                              (
                                refl,
                                are_cones (names 12) maximal_cones (cone_lines None f.maximal) (map (λ (c : ListedCone). c.rays) f.maximal)
                                    (new_name (names 12) maximal_cones refl refl refl refl refl) refl
                                    (lines_of None f.maximal (good_cones f.maximal h.maximal)),
                                (
                                  refl,
                                  are_rows (names 13) maximal_interiors (map (λ r. spaced_entries r) f.interiors) f.interiors
                                      (new_name (names 13) maximal_interiors refl refl refl refl refl) refl interiors,
                                  refl,
                                ),
                              ),
                            ),
                          ),
                        ),
                      ),
                    ),
                  ),
                ),
              ),
            ),
          ),
        ),
      )

  held : AreHeld second_table (length (fan_text f)) [] (sections (fan_text f)) said_of
  held = written_again second_table (front_sections f ++ back_sections f) said_of all_said

  told : told_version (fan_text f) ≡ Some 2
  told = second_held (length (fan_text f)) (sections (fan_text f)) _ held

  fan_again : IsFileOf (fan_text f) (file_of f)
  fan_again = record {
    all = said_of;
    held = subst (λ (v : Option ℕ). AreHeld (fan_table v) (length (fan_text f)) [] (sections (fan_text f)) said_of) (sym told) held;
    known = subst IsKnownVersion (sym told) (inr refl);
    ambient = refl;
    rays = refl;
    lineality = refl;
    cones = refl;
    interiors = subst (λ (v : Option ℕ). AreInteriorsOf (is_second v) (found maximal_interiors said_of) (Some f.interiors)) (sym told) (
      f.interiors,
      (refl, refl),
    );
  }

pub fans_again : FansAreReadAgain
fans_again f h = fan_again f h
