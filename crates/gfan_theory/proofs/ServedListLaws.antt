-- What the answer of `_bases` for a source has: its list serves each weight and each term order, and its certificates hold.
-- To cite: lists_serve, certificates_hold.
use Rattle.std.specs.Prelude.{ℕ, List, [], length}
use Rattle.std.proofs.Common.{subst}
use Rattle.gf_poly.specs.Polynomial.{Terms}
use Rattle.gf_poly.specs.Marking.{MarkedPolynomials}
use Rattle.gf_ideal_theory.specs.Membership.{AreInVariables}
use Rattle.gf_facets_theory.specs.Regions.{all_positive}
use Rattle.gfan_lists.specs.Bases.{IsTextBehind}
use Rattle.gf_lists_theory.specs.BasesList.{AreAllBases}
use Rattle.gfan_theory.specs.CertifiedBases.{CertificatesHold}
use Rattle.gfan_theory.specs.ServedLists.{ServesWeights, WrittenListsServe}
use Rattle.gf_lists_theory.proofs.BasesListLaws.{weights_are_served}
use Rattle.gfan_theory.proofs.CertifiedListLaws.{certified_list}
use Rattle.gfan_theory.proofs.ListSourceLaws.{list_of_source}

list_serves : (n : ℕ) (fs : List Terms) (list : List MarkedPolynomials) → AreInVariables n fs → AreAllBases n fs list → ServesWeights n fs list
list_serves n fs list v all = record {
  exactly = λ x. weights_are_served.exactly n fs list x all;
  monomial = λ w. weights_are_served.monomial n fs list w v all;
  orders = λ less. weights_are_served.orders n fs list less v all;
  cones = λ w. weights_are_served.cones n fs list w v all;
}

pub lists_serve : WrittenListsServe
lists_serve from_basis o workers source text a =
    let s = list_of_source from_basis o workers source text a in
    record {
      ring = s.ring;
      ideal = s.ideal;
      read = s.read;
      list = s.is_list.list;
      are_all = s.is_list.are_all;
      items = s.is_list.items;
      are_items = s.is_list.are_items;
      is_text = s.is_list.is_text;
      serves = list_serves _ s.ideal s.is_list.list s.inside s.is_list.are_all;
    }

pub certificates_hold : CertificatesHold
certificates_hold = record {
  of_lists = certified_list;
  of_answers = λ from_basis o workers source text certified a.
      let s = list_of_source from_basis o workers source text a in (
        s.ring,
        s.ideal,
        s.read,
        certified_list o.limit s.ring s.ideal text s.inside (subst (λ c. IsTextBehind [] c o.limit s.ring (all_positive (length s.ring)) s.ideal text)
            certified s.is_list),
      );
}
