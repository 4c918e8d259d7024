use Rattle.std.proofs.Common.{◌≡◌, ◌∷◌, [], ◌++◌, codes, length, map, None, ap, ◌∙◌, List, ℕ, ℤ, Bool}
use Rattle.gf_fan_files.specs.FanText.{maximal_cones, maximal_interiors}
use Rattle.gf_fan_files.specs.FanWords.{section, spaced_entries, number_lines, f_vector, truth_line, is_simplicial, is_pure, cone_lines, TextSection}
use Rattle.gf_fan_files.specs.FanWords.{FanWords, section_text, back_sections, sections_text}
use Rattle.gf_fan_files.proofs.FanWordsLaws.{none_yet, one_more}
use Rattle.gf_fan_files.proofs.writer.push_back.Goals as goal

pub returns : goal.returns
returns c =
    let p : FanWords = record {
      ambient = c.parts.inside.ambient;
      rays = c.parts.inside.rays.now;
      lineality = c.parts.inside.lineality.now;
      orthogonal = c.parts.inside.orthogonal.now;
      cones = c.parts.inside.cones.now;
      maximal = c.parts.inside.maximal.now;
      interiors = c.parts.inside.interiors.now;
    } in
    let same : p ≡ c.args.parts.now = c.parts.view_is in
    let front = c.args.out.now.items in
    let low = length p.lineality in
    let a : TextSection = section (codes "F_VECTOR") (number_lines (f_vector low p.cones)) in
    let b : TextSection = section (codes "SIMPLICIAL") (truth_line (is_simplicial low p.maximal) ∷ []) in
    let d : TextSection = section (codes "PURE") (truth_line (is_pure p.maximal) ∷ []) in
    let e : TextSection = section (codes "CONES") (cone_lines None p.cones) in
    let f : TextSection = section maximal_cones (cone_lines None p.maximal) in
    let g : TextSection = section maximal_interiors (map (λ (r : List ℤ). spaced_entries r) p.interiors) in
    let at_a = one_more front front _ [] a (none_yet front) (c.in_ok-push_numbers_section.ensures ∙
    ap (λ (ns : List ℕ). front ++ section_text (section (codes "F_VECTOR") (number_lines ns))) (c.as_slice.ensures.value ∙ c.in_ok-counts.ensures)) in
    let at_b = one_more front _ _ (a ∷ []) b at_a (c.in_ok-push_truth_section.ensures ∙ ap (λ (v : Bool). c.push_numbers_section.new.out.items ++
    section_text (section (codes "SIMPLICIAL") (truth_line v ∷ []))) c.is_simplicial.ensures) in
    let at_d = one_more front _ _ (a ∷ b ∷ []) d at_b (c.in_ok-push_truth_section-2.ensures ∙ ap (λ (v : Bool). c.push_truth_section.new.out.items ++
    section_text (section (codes "PURE") (truth_line v ∷ []))) c.is_pure.ensures) in
    let at_e = one_more front _ _ (a ∷ b ∷ d ∷ []) e at_d c.in_ok-push_cones_section.ensures in
    let at_f = one_more front _ _ (a ∷ b ∷ d ∷ e ∷ []) f at_e c.in_ok-push_cones_section-2.ensures in
    one_more front _ _ (a ∷ b ∷ d ∷ e ∷ f ∷ []) g at_f c.in_ok-push_rows_section.ensures ∙ ap (λ (q : FanWords). front ++ sections_text (back_sections q)) same
