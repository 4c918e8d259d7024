-- Levels of two lists, of the parts that hold the others, and as cuts by a list of cones.
use Rattle.std.proofs.Common.{ℕ, List, ◌++◌, ℤ, sym, subst, Contains, inl, inr}
use Rattle.std.proofs.lemmas.List.Elements.{Contains-append_left, Contains-append_right, Contains-append_cases}
use Rattle.gf_duality_theory.specs.Faces.{Rows}
use Rattle.gf_patterns_theory.specs.PatternRows.{AreSingleCones, ArePairCones}
use Rattle.gf_patterns_theory.specs.Cuts.{IsCut, AreCuts}
use Rattle.gf_levels_theory.specs.declared.members.Members.{Members}
use Rattle.gf_levels_theory.specs.declared.members.Members.TheVariants.{One, Two}
use Rattle.gf_levels_theory.specs.Levels.{IsConeOf, IsCutBy, IsLevel}
use Rattle.gf_levels_theory.specs.Generators.{AreOuter}

in_first : (members : Members) (n : ℕ) (A : List (List ℤ)) (cs ds : List Rows) (p : Rows) → IsCutBy members n A cs p → IsCutBy members n A (cs ++ ds) p
in_first members n A cs ds p c = record {
  first = c.first;
  second = c.second;
  of_first = Contains-append_left cs ds c.first c.of_first;
  of_second = c.of_second;
  same = c.same;
}

in_second : (members : Members) (n : ℕ) (A : List (List ℤ)) (cs ds : List Rows) (p : Rows) → IsCutBy members n A ds p → IsCutBy members n A (cs ++ ds) p
in_second members n A cs ds p c = record {
  first = c.first;
  second = c.second;
  of_first = Contains-append_right cs ds c.first c.of_first;
  of_second = c.of_second;
  same = c.same;
}

pub level_join : (members : Members) (n : ℕ) (A : List (List ℤ)) (cs ds ps qs : List Rows) → IsLevel members n A cs ps → IsLevel members n A ds qs →
    IsLevel members n A (cs ++ ds) (ps ++ qs)
level_join members n A cs ds ps qs a b = record {
  each = λ p k. elim (Contains-append_cases ps qs p k) [
    | inl i ↦ in_first members n A cs ds p (a.each p i)
    | inr i ↦ in_second members n A cs ds p (b.each p i)
  ];
  every = λ c d k is. elim (Contains-append_cases cs ds c k) [
    | inl i ↦ let r = a.every c d i is in (r.0, (Contains-append_left ps qs r.0 r.1.0, r.1.1))
    | inr i ↦ let r = b.every c d i is in (r.0, (Contains-append_right ps qs r.0 r.1.0, r.1.1))
  ];
}

pub outer_level : (members : Members) (n : ℕ) (A : List (List ℤ)) (cs ps kept : List Rows) → IsLevel members n A cs ps → AreOuter n ps kept →
    IsLevel members n A cs kept
outer_level members n A cs ps kept a o = record {
  each = λ p k. a.each p (o.each p k);
  every = λ c d k is.
      let r = a.every c d k is in
      let y = o.every r.0 r.1.0 in
      (y.0, (y.1.0, λ v lv i. y.1.1 v lv (r.1.1 v lv i)));
}

cut_with : (members : Members) (n : ℕ) (A : List (List ℤ)) (cs ds : List Rows) (p : Rows) → ((d : Rows) → IsConeOf members A d → Contains ds d) →
    IsCutBy members n A cs p → IsCut n cs ds p
cut_with members n A cs ds p f c = record {
  first = c.first;
  second = c.second;
  of_first = c.of_first;
  of_second = f c.second c.of_second;
  same = c.same;
}

pub single_cuts : (n : ℕ) (A : List (List ℤ)) (cs ds ps : List Rows) → AreSingleCones A ds → IsLevel One n A cs ps → AreCuts n cs ds ps
single_cuts n A cs ds ps s a = record {
  each = λ p k. cut_with One n A cs ds p (λ d is. subst (Contains ds) (sym is.rows) (s.every is.i is.inside)) (a.each p k);
  every = λ c d kc kd. let i = s.each d kd in a.every c d kc (record { i = i.0; inside = i.1.0; rows = i.1.1 });
}

pub pair_cuts : (n : ℕ) (A : List (List ℤ)) (cs ds ps : List Rows) → ArePairCones A ds → IsLevel Two n A cs ps → AreCuts n cs ds ps
pair_cuts n A cs ds ps s a = record {
  each = λ p k. cut_with Two n A cs ds p (λ d is. subst (Contains ds) (sym is.rows) (s.every is.i is.j is.ordered is.inside)) (a.each p k);
  every = λ c d kc kd. let i = s.each d kd in a.every c d kc (record { i = i.0; j = i.1; ordered = i.2.0; inside = i.2.1; rows = i.2.2 });
}
