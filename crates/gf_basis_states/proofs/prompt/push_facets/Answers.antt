use Rattle.gf_basis_states.proofs.PromptLaws.{lines_more, lines_all}
use Rattle.gf_basis_states.proofs.prompt.push_facets.Goals as goal

pub facets-preserved : goal.facets-preserved
facets-preserved c =
    lines_more c.args.normals.now c.facets.i c.index-normals-i.result c.args.text.now.items c.facets.text.items c.push_facet.new.text.items c.facets-test.true
    c.index-normals-i.is c.facets.invariant c.in_ok-push_facet.ensures

pub returns : goal.returns
returns c = lines_all c.args.normals.now c.facets.i c.args.text.now.items c.facets.text.items c.facets-test.false c.facets.invariant
