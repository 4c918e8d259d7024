-- Two answers for one ideal, one region and one basis to continue after are one text.
-- To cite: AnswerAt, answer_at, all_moved, all_texts, one_ideal. The rest are steps.
use Rattle.std.specs.Prelude.{◌≡◌, ℕ, Bool, List, ◌++◌, length}
use Rattle.std.proofs.Common.{sym, ap, ◌∙◌, subst}
use Rattle.gf_exponents_theory.specs.Exponents.{Exponents}
use Rattle.gf_exponents_theory.specs.Orders.{gains, lighter, IsWeightedBelow}
use Rattle.gf_poly.specs.Polynomial.{Terms}
use Rattle.gf_poly.specs.Marking.{MarkedPolynomial, MarkedPolynomials}
use Rattle.gf_ideal_theory.specs.Membership.{AreSameIdeal}
use Rattle.gf_ideal_theory.specs.Bases.{IsHeaviest, IsGreatest, IsReducedBy}
use Rattle.gf_facets_theory.specs.Regions.{Region}
use Rattle.gf_lists_theory.specs.BasesList.{IsGivenIn, AreAllBasesIn}
use Rattle.gfan_lists.specs.Bases.{AreItemTextsIn, IsTextBehind, list_text}
use Rattle.gf_lists_theory.proofs.OneListLaws.{one_list_in}
use Rattle.gfan_lists.proofs.CertificateLaws.{items_one}
use Rattle.gfan_theory.specs.ListSources.{HasPolynomials}
use Rattle.gfan_theory.specs.Answers.{Request, IsBasesAnswer, IsSaid, IsListAnswer}
use Rattle.gfan_theory.specs.OneText.{ReadTheSame, AllTextsAreOne, OneIdealHasOneText}
use Rattle.gfan_theory.proofs.AnswerLaws.{answers_are_lists, says_once, region_once, rest_once}

-- ---- an answer, with the ring and the polynomials that the input says

pub record AnswerAt (q : Request) (input text : List ℕ) (ring : List (List ℕ)) (fs : List Terms) : Type 0 where
  pub region : Region
  pub early : List MarkedPolynomials
  pub said : IsSaid q input ring fs region early
  pub list : IsTextBehind early q.options.certified q.options.limit ring region fs text

pub answer_at : (q : Request) (input text : List ℕ) (ring : List (List ℕ)) (fs : List Terms) → HasPolynomials q.from_basis input ring fs →
    IsBasesAnswer q input text → AnswerAt q input text ring fs
answer_at q input text ring fs p a =
    let l : IsListAnswer q input text = answers_are_lists q input text a in
    let same : (ring ≡ l.ring) × (fs ≡ l.ideal) = says_once q.from_basis input l.ring ring l.ideal fs l.said.read p in
    let here : AnswerAt q input text l.ring l.ideal = record { region = l.region; early = l.early; said = l.said; list = l.list } in
    subst (λ (gs : List Terms). AnswerAt q input text ring gs) (sym same.1)
    (subst (λ (names : List (List ℕ)). AnswerAt q input text names l.ideal) (sym same.0) here)

-- ---- lists depend on the ideal alone

reduced_moved : (n : ℕ) (fs gs : List Terms) (below : Exponents → Exponents → Type 0) (leads : Terms → Exponents → Type 0) (bs : List MarkedPolynomial) →
    AreSameIdeal n fs gs →
    IsReducedBy n fs below leads bs → IsReducedBy n gs below leads bs
reduced_moved n fs gs below leads bs s r = record {
  basis = record { members = λ c k. s.inside c.poly (r.basis.members c k); marked = r.basis.marked; initial = λ f m x l. r.basis.initial f (s.back f m) x l };
  tails = r.tails;
  heads = r.heads;
}

given_moved : (n : ℕ) (k : Region) (fs gs : List Terms) (x : MarkedPolynomials) → AreSameIdeal n fs gs → IsGivenIn n k fs x → IsGivenIn n k gs x
given_moved n k fs gs x s g = record {
  variables = g.variables;
  arranged = g.arranged;
  weight = g.weight;
  inside = g.inside;
  reduced = record {
    positive = g.reduced.positive;
    reduced = reduced_moved n fs gs (lighter (gains g.weight)) (IsHeaviest (gains g.weight)) x.items s g.reduced.reduced;
  };
}

pub all_moved : (n : ℕ) (k : Region) (fs gs : List Terms) (list : List MarkedPolynomials) → AreSameIdeal n fs gs → AreAllBasesIn n k fs list →
    AreAllBasesIn n k gs list
all_moved n k fs gs list s a = record {
  only = λ x j. given_moved n k fs gs x s (a.only x j);
  all = λ x g. a.all x (given_moved n k gs fs x (record { inside = s.back; back = s.inside }) g);
  once = a.once;
  root = a.root;
  listed = a.listed;
  by_root = reduced_moved n fs gs (IsWeightedBelow (gains k.root)) (IsGreatest (IsWeightedBelow (gains k.root))) a.root.items s a.by_root;
  is_root = a.is_root;
  paths = a.paths;
  lead = a.lead;
  rises = a.rises;
}

-- ---- one text

two_answers : (q r : Request) (input other text same : List ℕ) (ring : List (List ℕ)) (fs gs : List Terms) → ReadTheSame q r →
    AreSameIdeal (length ring) gs fs →
    AnswerAt q input text ring fs → AnswerAt r other same ring gs → text ≡ same
two_answers q r input other text same ring fs gs e s a b =
    a.list.is_text ∙ ap (list_text ring) items ∙ sym moved.is_text
  where
    n : ℕ
    n = length ring

    k : Region
    k = a.region

    regions : b.region ≡ k
    regions = region_once q.within r.within n k b.region e.within a.said.region b.said.region

    moved : IsTextBehind b.early r.options.certified r.options.limit ring k gs same
    moved = subst (λ (j : Region). IsTextBehind b.early r.options.certified r.options.limit ring j gs same) regions b.list

    theirs : AreAllBasesIn n k fs (b.early ++ moved.list)
    theirs = all_moved n k gs fs (b.early ++ moved.list) s moved.are_all

    said : IsSaid r other ring gs k b.early
    said = subst (λ (j : Region). IsSaid r other ring gs j b.early) regions b.said

    lists : a.list.list ≡ moved.list
    lists = rest_once q.after r.after ring k a.early b.early a.list.list moved.list e.after a.said.before said.before a.list.are_all.once
        (one_list_in n k fs (a.early ++ a.list.list) (b.early ++ moved.list) a.said.inside a.said.is_region a.list.are_all theirs)

    texts : AreItemTextsIn q.options.certified ring k a.list.list moved.items
    texts = subst (λ (l : List MarkedPolynomials). AreItemTextsIn q.options.certified ring k l moved.items) (sym lists)
        (subst (λ (c : Bool). AreItemTextsIn c ring k moved.list moved.items) e.certified moved.are_items)

    items : a.list.items ≡ moved.items
    items = items_one q.options.certified ring k a.list.list a.list.items moved.items a.list.are_items texts

pub one_ideal : OneIdealHasOneText
one_ideal q r input other text same e s a b =
    two_answers q r input other text same s.ring s.generators s.others e (record { inside = s.same.back; back = s.same.inside })
    (answer_at q input text s.ring s.generators s.read a) (answer_at r other same s.ring s.others s.also b)

pub all_texts : AllTextsAreOne
all_texts q r input text same e fb a b =
    let l : IsListAnswer q input text = answers_are_lists q input text a in
    one_ideal q r input input text same e (record {
      ring = l.ring;
      generators = l.ideal;
      others = l.ideal;
      read = l.said.read;
      also = subst (λ (c : Bool). HasPolynomials c input l.ring l.ideal) (sym fb) l.said.read;
      same = record { inside = λ f m. m; back = λ f m. m };
    }) a b
