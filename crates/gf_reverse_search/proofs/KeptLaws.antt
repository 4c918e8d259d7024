-- From the whole list below a top to what is left at any path: the paths that are left are kept, the others dropped.
-- To cite: decide_open, kept.
use Rattle.std.proofs.Common.{◌≤◌, List, [], ◌∷◌, ◌⊎◌, length, sym, inl, inr, subst, arith}
use Rattle.gf_reverse_search.specs.declared.mark.Mark.{Mark}
use Rattle.gf_reverse_search.specs.declared.mark.Mark.TheVariants.{Before, After, Listed, Finished}
use Rattle.gf_reverse_search.specs.Path.{IsStrictOrder}
use Rattle.gf_reverse_search.specs.Left.{IsBelowMark, IsOpen}
use Rattle.gf_reverse_search.specs.Listing.{Among, Rises, LeadTo, Lists}
use Rattle.gf_reverse_search.proofs.LeftLaws.{open_from_left, left_from_open}

module _ {L : Type 0} (lt : L → L → Type 0) (strict : IsStrictOrder lt) where
  not_before : (a b : L) → lt b a → lt a b → ⊥
  not_before a b h k = strict.irreflexive a (strict.transitive a b a k h)

  decide_label : (a b : L) → lt a b ⊎ (lt a b → ⊥)
  decide_label a b = elim (strict.total a b) [
    | inl h ↦ inl h
    | inr h ↦ elim h [ inl e ↦ inr (λ k. strict.irreflexive b (subst (λ x. lt x b) e k)) | inr k ↦ inr (not_before a b k) ]
  ]

  decide_below : (m : Mark L) (q : List L) → IsBelowMark lt m q ⊎ (IsBelowMark lt m q → ⊥)
  decide_below Before q = inl tt
  decide_below Listed [] = inr (λ h. h)
  decide_below Listed (c ∷ q) = inl tt
  decide_below (After a) [] = inr (λ h. h)
  decide_below (After a) (c ∷ q) = decide_label a c
  decide_below Finished q = inr (λ h. h)

  -- it can be told whether a path is left
  pub decide_open : (m : Mark L) (r q : List L) → IsOpen lt m r q ⊎ (IsOpen lt m r q → ⊥)
  decide_open m [] q = decide_below m q
  decide_open m (c ∷ r) [] = inr (λ h. h)
  decide_open m (c ∷ r) (b ∷ q) = elim (strict.total c b) [
    | inl h ↦ inl (inl h)
    | inr h ↦ elim h [
      | inl e ↦ elim (decide_open m r q) [
        | inl k ↦ inl (inr (e, k))
        | inr n ↦ inr (λ w. elim w [ inl k ↦ strict.irreflexive b (subst (λ x. lt x b) e k) | inr k ↦ n k.1 ])
      ]
      | inr g ↦ inr (λ w. elim w [ inl k ↦ not_before c b g k | inr k ↦ strict.irreflexive c (subst (λ x. lt x c) (sym k.0) g) ])
    ]
  ]

module _ {N L : Type 0} (lt : L → L → Type 0) (up : N → L → N → Type 0) (strict : IsStrictOrder lt) (top : N) (m : Mark L) (r : List L) where
  record Sifted (ps : List (List L)) (nodes : List N) : Type 0 where
    paths : List (List L)
    left : List N
    lead : LeadTo up top paths left
    rises : Rises lt paths
    covers : (q : List L) → Among ps q → IsOpen lt m r q → Among paths q
    only : (q : List L) → Among paths q → Among ps q × IsOpen lt m r q
    few : length left ≤ length nodes

  sift : (ps : List (List L)) (nodes : List N) → LeadTo up top ps nodes → Rises lt ps → Sifted ps nodes
  sift [] [] lead rises = record { paths = []; left = []; lead = tt; rises = tt; covers = λ q j k. j; only = λ q j. absurd j; few = omega arith }
  sift [] (y ∷ ys) lead rises = absurd lead
  sift (p ∷ ps) [] lead rises = absurd lead
  sift (p ∷ ps) (y ∷ ys) lead rises =
      let s = sift ps ys lead.1 rises.1 in
      elim (decide_open lt strict m r p) [
        | inl k ↦ record {
          paths = p ∷ s.paths;
          left = y ∷ s.left;
          lead = (lead.0, s.lead);
          rises = ((λ q j. rises.0 q (s.only q j).0), s.rises);
          covers = λ q j h. elim j [ inl e ↦ inl e | inr i ↦ inr (s.covers q i h) ];
          only = λ q j. elim j [ inl e ↦ (inl e, subst (IsOpen lt m r) e k) | inr i ↦ (inr (s.only q i).0, (s.only q i).1) ];
          few = (let f = s.few in omega arith);
        }
        | inr n ↦ record {
          paths = s.paths;
          left = s.left;
          lead = s.lead;
          rises = s.rises;
          covers = λ q j h. elim j [ inl e ↦ absurd (n (subst (IsOpen lt m r) (sym e) h)) | inr i ↦ s.covers q i h ];
          only = λ q j. (inr (s.only q j).0, (s.only q j).1);
          few = (let f = s.few in omega arith);
        }
      ]

  pub record Kept (whole : List N) : Type 0 where
    pub nodes : List N
    pub lists : Lists lt up top m r nodes
    pub few : length nodes ≤ length whole

  -- what is left of the whole list
  pub kept : (nodes : List N) → Lists lt up top Before [] nodes → Kept nodes
  kept nodes l =
      let s = sift l.paths nodes l.lead l.rises in
      record {
        nodes = s.left;
        lists = record {
          paths = s.paths;
          lead = s.lead;
          rises = s.rises;
          all = λ q path h. s.covers q (l.all q path (left_from_open lt strict Before [] q tt)) (open_from_left lt strict m r q h);
          only = λ q j. left_from_open lt strict m r q (s.only q j).1;
        };
        few = s.few;
      }
