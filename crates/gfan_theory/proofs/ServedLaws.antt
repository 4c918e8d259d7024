-- The list of an answer serves each weight of its region.
-- To cite: answers_serve.
use Rattle.std.specs.Prelude.{ℕ, List, ◌++◌, length}
use Rattle.gf_poly.specs.Polynomial.{Terms}
use Rattle.gf_poly.specs.Marking.{MarkedPolynomials}
use Rattle.gf_ideal_theory.specs.Membership.{AreInVariables}
use Rattle.gf_facets_theory.specs.Regions.{Region, IsRegion}
use Rattle.gf_lists_theory.specs.BasesList.{AreAllBasesIn}
use Rattle.gf_lists_theory.proofs.BasesListLaws.{regions_are_served}
use Rattle.gfan_theory.specs.Answers.{IsListAnswer}
use Rattle.gfan_theory.specs.Served.{ServesRegion, AnswersServe}
use Rattle.gfan_theory.proofs.AnswerLaws.{answers_are_lists}

list_serves : (n : ℕ) (k : Region) (fs : List Terms) (list : List MarkedPolynomials) → AreInVariables n fs → IsRegion n k → AreAllBasesIn n k fs list →
    ServesRegion n k fs list
list_serves n k fs list v r all = record {
  exactly = λ x. regions_are_served.exactly n k fs list x all;
  monomial = λ w. regions_are_served.monomial n k fs list w v r all;
  cones = λ w. regions_are_served.cones n k fs list w v r all;
}

pub answers_serve : AnswersServe
answers_serve q input text a =
    let l : IsListAnswer q input text = answers_are_lists q input text a in
    record { answer = l; serves = list_serves (length l.ring) l.region l.ideal (l.early ++ l.list.list) l.said.inside l.said.is_region l.list.are_all }
