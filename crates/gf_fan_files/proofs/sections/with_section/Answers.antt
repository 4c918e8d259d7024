use Rattle.std.proofs.Common.{rules, ◌≡◌, ◌∙◌, true, false, length, refl, ap, bytes_eq}
use Rattle.gf_fan_files.specs.Lines.{content_from}
use Rattle.gf_fan_files.specs.FanText.{content_read, ambient_dim, rays_name, lineality_space, maximal_cones}
use Rattle.gf_fan_files.specs.Contents.{at_ambient, at_rays, at_lineality, at_cones}
use Rattle.gf_fan_files.proofs.SectionsLaws.{kind_ambient, kind_rays, kind_lineality, kind_cones}
use Rattle.gf_fan_files.proofs.sections.with_section.Goals as goal

pub returns-then-eq : goal.returns-then-eq
returns-then-eq c =
    let source = c.args.source.now in
    let is : bytes_eq ambient_dim c.args.name.now ≡ true = search rules in
    at_ambient c.in_ok-dimension.dimension is (ap (λ k. content_read (length source) k (content_from source c.args.from))
    (kind_ambient c.args.contents.version c.args.name.now is) ∙ c.in_ok-dimension.ensures) refl

pub returns-then-eq-2 : goal.returns-then-eq-2
returns-then-eq-2 c =
    let source = c.args.source.now in
    let no_ambient : bytes_eq ambient_dim c.args.name.now ≡ false = search rules in
    let is : bytes_eq rays_name c.args.name.now ≡ true = search rules in
    at_rays c.in_ok-rows.rows is (ap (λ k. content_read (length source) k (content_from source c.args.from))
    (kind_rays c.args.contents.version c.args.name.now no_ambient is) ∙ c.in_ok-rows.ensures) refl

pub returns-then-eq-3 : goal.returns-then-eq-3
returns-then-eq-3 c =
    let source = c.args.source.now in
    let no_ambient : bytes_eq ambient_dim c.args.name.now ≡ false = search rules in
    let no_rays : bytes_eq rays_name c.args.name.now ≡ false = search rules in
    let is : bytes_eq lineality_space c.args.name.now ≡ true = search rules in
    at_lineality c.in_ok-rows-2.rows is (ap (λ k. content_read (length source) k (content_from source c.args.from))
    (kind_lineality c.args.contents.version c.args.name.now no_ambient no_rays is) ∙ c.in_ok-rows-2.ensures) refl

pub returns-then-eq-4 : goal.returns-then-eq-4
returns-then-eq-4 c =
    let source = c.args.source.now in
    let no_ambient : bytes_eq ambient_dim c.args.name.now ≡ false = search rules in
    let no_rays : bytes_eq rays_name c.args.name.now ≡ false = search rules in
    let no_lineality : bytes_eq lineality_space c.args.name.now ≡ false = search rules in
    let is : bytes_eq maximal_cones c.args.name.now ≡ true = search rules in
    at_cones c.in_ok-lists.lists is (ap (λ k. content_read (length source) k (content_from source c.args.from))
    (kind_cones c.args.contents.version c.args.name.now no_ambient no_rays no_lineality is) ∙ c.in_ok-lists.ensures) refl
