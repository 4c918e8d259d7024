use Rattle.std.proofs.Common.{◌≡◌, ◌∷◌, [], ◌++◌, ap, ◌∙◌, codes, decimal, length, map, List, ℤ}
use Rattle.gf_fan_files.specs.FanText.{file_version, ambient_dim, rays_name, lineality_space}
use Rattle.gf_fan_files.specs.FanWords.{section, spaced_entries, ray_lines, dim_line, TextSection, FanWords, front_sections, sections_text}
use Rattle.gf_fan_files.proofs.FanWordsLaws.{none_yet, one_more}
use Rattle.gf_fan_files.proofs.writer.push_front.Goals as goal

pub returns : goal.returns
returns c =
    let p : FanWords = record {
      ambient = c.parts.inside.ambient;
      rays = c.parts.inside.rays.now;
      lineality = c.parts.inside.lineality.now;
      orthogonal = c.parts.inside.orthogonal.now;
      cones = c.parts.inside.cones.now;
      maximal = c.parts.inside.maximal.now;
      interiors = c.parts.inside.interiors.now;
    } in
    let same : p ≡ c.args.parts.now = c.parts.view_is in
    let front = c.args.out.now.items in
    let v : TextSection = section file_version (decimal 2 ∷ []) in
    let a : TextSection = section ambient_dim (decimal p.ambient ∷ []) in
    let b : TextSection = section (codes "DIM") (dim_line p.cones ∷ []) in
    let d : TextSection = section (codes "LINEALITY_DIM") (decimal (length p.lineality) ∷ []) in
    let e : TextSection = section rays_name (ray_lines 0 p.rays) in
    let f : TextSection = section (codes "N_RAYS") (decimal (length p.rays) ∷ []) in
    let g : TextSection = section lineality_space (map (λ (r : List ℤ). spaced_entries r) p.lineality) in
    let h : TextSection = section (codes "ORTH_LINEALITY_SPACE") (map (λ (r : List ℤ). spaced_entries r) p.orthogonal) in
    let at_v = one_more front front _ [] v (none_yet front) c.in_ok-push_number_section.ensures in
    let at_a = one_more front _ _ (v ∷ []) a at_v c.in_ok-push_number_section-2.ensures in
    let at_b = one_more front _ _ (v ∷ a ∷ []) b at_a c.in_ok-push_dim_section.ensures in
    let at_d = one_more front _ _ (v ∷ a ∷ b ∷ []) d at_b c.in_ok-push_number_section-3.ensures in
    let at_e = one_more front _ _ (v ∷ a ∷ b ∷ d ∷ []) e at_d c.in_ok-push_rays_section.ensures in
    let at_f = one_more front _ _ (v ∷ a ∷ b ∷ d ∷ e ∷ []) f at_e c.in_ok-push_number_section-4.ensures in
    let at_g = one_more front _ _ (v ∷ a ∷ b ∷ d ∷ e ∷ f ∷ []) g at_f c.in_ok-push_rows_section.ensures in
    one_more front _ _ (v ∷ a ∷ b ∷ d ∷ e ∷ f ∷ g ∷ []) h at_g c.in_ok-push_rows_section-2.ensures ∙
    ap (λ (q : FanWords). front ++ sections_text (front_sections q)) same
