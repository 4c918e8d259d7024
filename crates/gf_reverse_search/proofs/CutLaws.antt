-- What is left above a node is its subtree and then what is left once that is listed.
-- To cite: halves.
use Rattle.std.proofs.Common.{◌≡◌, List, [], ◌∷◌, ◌++◌, ◌⊎◌, refl, sym, ap, inl, inr, subst, ◌∙◌}
use Rattle.gf_reverse_search.specs.declared.mark.Mark.TheVariants.{Before, Listed, Finished}
use Rattle.gf_reverse_search.specs.Path.{IsStrictOrder, IsTree, Leads, Precedes, Begins}
use Rattle.gf_reverse_search.specs.Left.{IsOpen}
use Rattle.gf_reverse_search.specs.Listing.{Among, Rises, LeadTo, Lists}
use Rattle.gf_reverse_search.proofs.LeftLaws.{left_from_open}
use Rattle.gf_reverse_search.proofs.FrontLaws.{precedes_off}
use Rattle.std.proofs.lemmas.List.{append_cancel_left}

-- a way down in two parts
pub leads_on : {N L : Type 0} (up : N → L → N → Type 0) (s : N) (t z : List L) (x y : N) → Leads up s t x → Leads up x z y → Leads up s (t ++ z) y
leads_on up s [] z x y h k = subst (λ w. Leads up w z y) (sym h) k
leads_on up s (c ∷ t) z x y h k = (h.0, h.1, leads_on up h.0 t z x y h.2 k)

pub leads_rest : {N L : Type 0} (up : N → L → N → Type 0) → IsTree up → (s : N) (t z : List L) (x y : N) → Leads up s t x → Leads up s (t ++ z) y →
    Leads up x z y
leads_rest up tree s [] z x y h k = subst (λ w. Leads up w z y) h k
leads_rest up tree s (c ∷ t) z x y h k =
    let e : k.0 ≡ h.0 = tree.one_child k.0 h.0 s c k.1 h.1 in
    leads_rest up tree h.0 t z x y h.2 (subst (λ w. Leads up w (t ++ z) y) e k.2)

module _ {L : Type 0} (lt : L → L → Type 0) (strict : IsStrictOrder lt) where
  under_or_past : (t p : List L) → Precedes lt t p → Begins t p ⊎ IsOpen lt Finished t p
  under_or_past [] p h = inl (p, refl)
  under_or_past (c ∷ t) [] h = absurd h
  under_or_past (c ∷ t) (b ∷ p) (inl h) = inr (inl h)
  under_or_past (c ∷ t) (b ∷ p) (inr h) = elim (under_or_past t p h.1) [
    | inl k ↦ inl (k.0, let e : c ≡ b = h.0 in let f : p ≡ t ++ k.0 = k.1 in let g : (b ∷ p) ≡ c ∷ (t ++ k.0) = cc in g)
    | inr k ↦ inr (inr (h.0, k))
  ]

  past_on : (t p q : List L) → IsOpen lt Finished t p → Precedes lt p q → IsOpen lt Finished t q
  past_on [] p q h k = h
  past_on (c ∷ t) [] q h k = absurd h
  past_on (c ∷ t) (b ∷ p) [] h k = k
  past_on (c ∷ t) (b ∷ p) (d ∷ q) (inl h) (inl k) = inl (strict.transitive c b d h k)
  past_on (c ∷ t) (b ∷ p) (d ∷ q) (inl h) (inr k) = inl (subst (λ z. lt c z) k.0 h)
  past_on (c ∷ t) (b ∷ p) (d ∷ q) (inr h) (inl k) = inl (subst (λ z. lt z d) (sym h.0) k)
  past_on (c ∷ t) (b ∷ p) (d ∷ q) (inr h) (inr k) = inr (h.0 ∙ k.0, past_on t p q h.1 k.1)

  not_past : (t z : List L) → IsOpen lt Finished t (t ++ z) → ⊥
  not_past [] z h = h
  not_past (c ∷ t) z (inl h) = strict.irreflexive c h
  not_past (c ∷ t) z (inr h) = not_past t z h.1

  precedes_over : (t z : List L) → Precedes lt [] z → Precedes lt t (t ++ z)
  precedes_over [] z h = h
  precedes_over (c ∷ t) z h = inr (refl, precedes_over t z h)

  not_before : (t z : List L) → Precedes lt t (t ++ z) → Precedes lt [] z
  not_before [] z h = h
  not_before (c ∷ t) z (inl h) = absurd (strict.irreflexive c h)
  not_before (c ∷ t) z (inr h) = not_before t z h.1

record Cut {N L : Type 0} (lt : L → L → Type 0) (up : N → L → N → Type 0) (top x : N) (t : List L) (ps : List (List L)) (nodes : List N) : Type 0 where
  zs : List (List L)
  rest : List (List L)
  front : List N
  back : List N
  whole : nodes ≡ front ++ back
  lead_under : LeadTo up x zs front
  lead_past : LeadTo up top rest back
  rises_under : Rises lt zs
  rises_past : Rises lt rest
  covers : (q : List L) → Among ps q → ((z : List L) × (q ≡ t ++ z) × Among zs z) ⊎ Among rest q
  under : (z : List L) → Among zs z → Among ps (t ++ z)
  past : (q : List L) → Among rest q → Among ps q × IsOpen lt Finished t q

module _ {N L : Type 0} (lt : L → L → Type 0) (up : N → L → N → Type 0) (strict : IsStrictOrder lt) (tree : IsTree up) (top x : N) (t : List L)
    (way : Leads up top t x) where
  cut : (ps : List (List L)) (nodes : List N) → LeadTo up top ps nodes → Rises lt ps → ((q : List L) → Among ps q → Precedes lt t q) →
      Cut lt up top x t ps nodes
  cut [] [] lead rises above = record {
    zs = [];
    rest = [];
    front = [];
    back = [];
    whole = refl;
    lead_under = tt;
    lead_past = tt;
    rises_under = tt;
    rises_past = tt;
    covers = λ q j. absurd j;
    under = λ z j. absurd j;
    past = λ q j. absurd j;
  }
  cut [] (y ∷ ys) lead rises above = absurd lead
  cut (p ∷ ps) [] lead rises above = absurd lead
  cut (p ∷ ps) (y ∷ ys) lead rises above = elim (under_or_past lt strict t p (above p (inl refl))) [
    | inr beyond ↦ record {
      zs = [];
      rest = p ∷ ps;
      front = [];
      back = y ∷ ys;
      whole = refl;
      lead_under = tt;
      lead_past = lead;
      rises_under = tt;
      rises_past = rises;
      covers = λ q j. inr j;
      under = λ z j. absurd j;
      past = λ q j. (j, elim j [ inl e ↦ subst (IsOpen lt Finished t) e beyond | inr k ↦ past_on lt strict t p q beyond (rises.0 q k) ]);
    }
    | inl b ↦ (let c = cut ps ys lead.1 rises.1 (λ q j. above q (inr j)) in record {
      zs = b.0 ∷ c.zs;
      rest = c.rest;
      front = y ∷ c.front;
      back = c.back;
      whole = ap (λ w. y ∷ w) c.whole;
      lead_under = (leads_rest up tree top t b.0 x y way (subst (λ w. Leads up top w y) b.1 lead.0), c.lead_under);
      lead_past = c.lead_past;
      rises_under = (λ z j. precedes_off lt strict t b.0 z (subst (λ w. Precedes lt w (t ++ z)) b.1 (rises.0 (t ++ z) (c.under z j))), c.rises_under);
      rises_past = c.rises_past;
      covers = λ q j. elim j [
        | inl e ↦ inl (b.0, sym e ∙ b.1, inl refl)
        | inr k ↦ elim (c.covers q k) [ inl f ↦ inl (f.0, f.1, inr f.2) | inr f ↦ inr f ]
      ];
      under = λ z j. elim j [ inl e ↦ inl (b.1 ∙ ap (λ w. t ++ w) e) | inr k ↦ inr (c.under z k) ];
      past = λ q j. (inr (c.past q j).0, (c.past q j).1);
    })
  ]

  pub record Halves (nodes : List N) : Type 0 where
    pub front : List N
    pub back : List N
    pub whole : nodes ≡ front ++ back
    pub under : Lists lt up x Before [] (x ∷ front)
    pub past : Lists lt up top Finished t back

  pub halves : (nodes : List N) → Lists lt up top Listed t nodes → Halves nodes
  halves nodes l =
      let c = cut l.paths nodes l.lead l.rises l.only in
      record {
        front = c.front;
        back = c.back;
        whole = c.whole;
        under = record {
          paths = [] ∷ c.zs;
          lead = (refl, c.lead_under);
          rises = (λ z j. not_before lt strict t z (l.only (t ++ z) (c.under z j)), c.rises_under);
          all = λ z path left. elim left [
            | inl e ↦ inl e
            | inr k ↦ inr (elim (c.covers (t ++ z) (l.all (t ++ z) (path.0, leads_on up top t z x path.0 way path.1) (precedes_over lt strict t z k))) [
              | inl f ↦ subst (Among c.zs) (sym (append_cancel_left t z f.0 f.1)) f.2
              | inr f ↦ absurd (not_past lt strict t z (c.past (t ++ z) f).1)
            ])
          ];
          only = λ z j. elim j [ inl e ↦ inl e | inr k ↦ inr (not_before lt strict t z (l.only (t ++ z) (c.under z k))) ];
        };
        past = record {
          paths = c.rest;
          lead = c.lead_past;
          rises = c.rises_past;
          all = λ q path left. elim (c.covers q (l.all q path left.0)) [
            | inl f ↦ absurd (left.1 (f.0, f.1))
            | inr f ↦ f
          ];
          only = λ q j. left_from_open lt strict Finished t q (c.past q j).1;
        };
      }
