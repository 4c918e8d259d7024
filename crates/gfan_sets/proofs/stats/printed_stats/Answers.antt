use Rattle.std.proofs.Common.{ℕ, List, ◌++◌, codes, ap, ◌∙◌}
use Rattle.gfan_common.specs.Printing.{count_line}
use Rattle.gfan_sets.proofs.ToolLaws.{seven_pieces}
use Rattle.gfan_sets.proofs.stats.printed_stats.Goals as goal

pub returns : goal.returns
returns c =
    seven_pieces (count_line (codes "Number of reduced Groebner bases: ") c.args.stats.now.bases)
    (count_line (codes "Number of variables: ") c.args.stats.now.variables)
    (count_line (codes "Dimension of homogeneity space: ") c.args.stats.now.homogeneity)
    (count_line (codes "Maximal total degree of a polynomial: ") c.args.stats.now.max_degree)
    (count_line (codes "Minimal total degree of a basis: ") c.args.stats.now.min_degree)
    (count_line (codes "Maximal number of polynomials in a basis: ") c.args.stats.now.max_polynomials)
    (count_line (codes "Maximal number of terms in a basis: ") c.args.stats.now.max_terms)
    c.push_line.new.text.items c.push_line-2.new.text.items c.push_line-3.new.text.items c.push_line-4.new.text.items c.push_line-5.new.text.items
    c.push_line-6.new.text.items c.push_line-7.new.text.items
    (c.in_ok-push_line.ensures ∙ ap (λ (t : List ℕ). t ++ count_line (codes "Number of reduced Groebner bases: ") c.from.result) c.new-text.ensures.items ∙
    ap (λ (n : ℕ). count_line (codes "Number of reduced Groebner bases: ") n) c.from.ensures)
    (c.in_ok-push_line-2.ensures ∙ ap (λ (n : ℕ). c.push_line.new.text.items ++ count_line (codes "Number of variables: ") n) c.from-2.ensures)
    (c.in_ok-push_line-3.ensures ∙ ap (λ (n : ℕ). c.push_line-2.new.text.items ++ count_line (codes "Dimension of homogeneity space: ") n) c.from-3.ensures)
    (c.in_ok-push_line-4.ensures ∙ ap (λ (n : ℕ). c.push_line-3.new.text.items ++ count_line (codes "Maximal total degree of a polynomial: ") n)
    c.from-4.ensures)
    (c.in_ok-push_line-5.ensures ∙ ap (λ (n : ℕ). c.push_line-4.new.text.items ++ count_line (codes "Minimal total degree of a basis: ") n) c.from-5.ensures)
    (c.in_ok-push_line-6.ensures ∙ ap (λ (n : ℕ). c.push_line-5.new.text.items ++ count_line (codes "Maximal number of polynomials in a basis: ") n)
    c.from-6.ensures)
    c.in_ok-push_line-7.ensures
