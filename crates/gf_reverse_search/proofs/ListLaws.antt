-- From what is left as a set of paths to what is left as a list of nodes.
-- To cite: gives, lists_of, leads_one, precedes_itself, precedes_trans.
use Rattle.std.proofs.Common.{length, arith, ◌≡◌, ℕ, List, [], ◌∷◌, refl, sym, ap, inl, inr, subst, ◌∙◌, Some, None, Option}
use Rattle.gf_reverse_search.specs.declared.mark.Mark.{Mark}
use Rattle.gf_reverse_search.specs.declared.mark.Mark.TheVariants.{Before}
use Rattle.gf_reverse_search.specs.Path.{IsStrictOrder, IsTree, Leads, IsPath, Precedes}
use Rattle.gf_reverse_search.specs.Left.{IsLeft}
use Rattle.gf_reverse_search.specs.Walk.{IsNext, IsDone, Answers, Steps}
use Rattle.gf_reverse_search.specs.Listing.{Among, Rises, LeadTo, Lists, Leaves, IsFirstOf}

-- a path leads to one node
pub leads_one : {N L : Type 0} (up : N → L → N → Type 0) (tree : IsTree up) (s : N) (q : List L) (x y : N) → Leads up s q x → Leads up s q y → x ≡ y
leads_one up tree s [] x y h k = sym h ∙ k
leads_one up tree s (c ∷ q) x y h k =
    let e : h.0 ≡ k.0 = tree.one_child h.0 k.0 s c h.1 k.1 in
    leads_one up tree k.0 q x y (subst (λ z. Leads up z q x) e h.2) k.2

module _ {L : Type 0} (lt : L → L → Type 0) (strict : IsStrictOrder lt) where
  pub precedes_itself : (p : List L) → Precedes lt p p → ⊥
  precedes_itself [] h = h
  precedes_itself (c ∷ p) (inl h) = strict.irreflexive c h
  precedes_itself (c ∷ p) (inr h) = precedes_itself p h.1

  pub precedes_trans : (p q r : List L) → Precedes lt p q → Precedes lt q r → Precedes lt p r
  precedes_trans [] [] r h k = absurd h
  precedes_trans [] (b ∷ q) [] h k = k
  precedes_trans [] (b ∷ q) (c ∷ r) h k = tt
  precedes_trans (a ∷ p) [] r h k = absurd h
  precedes_trans (a ∷ p) (b ∷ q) [] h k = k
  precedes_trans (a ∷ p) (b ∷ q) (c ∷ r) (inl h) (inl k) = inl (strict.transitive a b c h k)
  precedes_trans (a ∷ p) (b ∷ q) (c ∷ r) (inl h) (inr k) = inl (subst (λ z. lt a z) k.0 h)
  precedes_trans (a ∷ p) (b ∷ q) (c ∷ r) (inr h) (inl k) = inl (subst (λ z. lt z c) (sym h.0) k)
  precedes_trans (a ∷ p) (b ∷ q) (c ∷ r) (inr h) (inr k) = inr (h.0 ∙ k.0, precedes_trans p q r h.1 k.1)

module _ {N L : Type 0} (lt : L → L → Type 0) (up : N → L → N → Type 0) (strict : IsStrictOrder lt) (tree : IsTree up) (top : N) (m : Mark L) (r : List L) where
  next_at : (v : N) (new : Mark L) (here : N) (d : ℕ) → IsNext lt up top m r v new here d → (paths : List (List L)) (nodes : List N) →
      LeadTo up top paths nodes → Rises lt paths → ((q : List L) → IsPath up top q → IsLeft lt m r q → Among paths q) →
      ((q : List L) → Among paths q → IsLeft lt m r q) → IsFirstOf (Leaves lt up new here d) nodes (Some v)
  next_at v new here d n [] nodes lead rises all only = absurd (all n.path (here, n.at.leads) n.first.at_first)
  next_at v new here d n (p ∷ ps) [] lead rises all only = absurd lead
  next_at v new here d n (p ∷ ps) (x ∷ xs) lead rises all only =
      let t = n.path in
      let is_first : t ≡ p = elim (n.first.only p (x, lead.0) (only p (inl refl))) [
        | inl e ↦ e
        | inr k ↦ elim (all t (here, n.at.leads) n.first.at_first) [
          | inl e ↦ sym e
          | inr j ↦ absurd (precedes_itself lt strict t (precedes_trans lt strict t p t k (rises.0 t j)))
        ]
      ] in
      let e : x ≡ v = leads_one up tree top p x here lead.0 (subst (λ q. Leads up top q here) is_first n.at.leads) ∙ sym n.node in (
        xs,
        ap (λ y. y ∷ xs) e,
        record {
          top = top;
          path = t;
          at = n.at;
          lists = record {
            paths = ps;
            lead = lead.1;
            rises = rises.1;
            all = λ q path left. (
                let k : Precedes lt t q = subst (λ w. IsLeft lt w t q) n.listed left in
                elim (all q path (n.first.at_later q path k)) [
                  | inl f ↦ absurd (precedes_itself lt strict t (subst (λ w. Precedes lt t w) (sym (is_first ∙ f)) k))
                  | inr j ↦ j
                ]);
            only = λ q j. subst (λ w. IsLeft lt w t q) (sym n.listed) (subst (λ w. Precedes lt w q) (sym is_first) (rises.0 q j));
          };
        },
      )

  done_at : (new : Mark L) (here : N) (d : ℕ) → IsDone lt up top m r new here d → (paths : List (List L)) (nodes : List N) → LeadTo up top paths nodes →
      ((q : List L) → Among paths q → IsLeft lt m r q) → IsFirstOf (Leaves lt up new here d) nodes None
  done_at new here d n [] [] lead only = (
    refl,
    record {
      top = top;
      path = n.path;
      at = n.at;
      lists = record { paths = []; lead = tt; rises = tt; all = λ q path left. n.stays q path left; only = λ q j. absurd j };
    },
  )
  done_at new here d n [] (x ∷ xs) lead only = absurd lead
  done_at new here d n (p ∷ ps) [] lead only = absurd lead
  done_at new here d n (p ∷ ps) (x ∷ xs) lead only = absurd (n.none p (x, lead.0) (only p (inl refl)))

  answers_at : (new : Mark L) (here : N) (d : ℕ) (o : Option N) → Answers lt up top m r o new here d → (nodes : List N) → Lists lt up top m r nodes →
      IsFirstOf (Leaves lt up new here d) nodes o
  answers_at new here d None n nodes l = done_at new here d n l.paths nodes l.lead l.only
  answers_at new here d (Some v) n nodes l = next_at v new here d n l.paths nodes l.lead l.rises l.all l.only

-- a walker's step, said of lists
pub gives : {N L : Type 0} (lt : L → L → Type 0) (up : N → L → N → Type 0) → IsStrictOrder lt → IsTree up →
    (m0 : Mark L) (here0 : N) (d0 : ℕ) (m1 : Mark L) (here1 : N) (d1 : ℕ) (o : Option N) → Steps lt up m0 here0 d0 m1 here1 d1 o → (nodes : List N) →
    Leaves lt up m0 here0 d0 nodes → IsFirstOf (Leaves lt up m1 here1 d1) nodes o
gives lt up strict tree m0 here0 d0 m1 here1 d1 o steps nodes l =
    answers_at lt up strict tree l.top m0 l.path m1 here1 d1 o (steps l.top l.path l.at) nodes l.lists

-- what is left before a node is told by the node alone
pub lists_of : {N L : Type 0} (lt : L → L → Type 0) (up : N → L → N → Type 0) (strict : IsStrictOrder lt) (tree : IsTree up) (top : N) (nodes : List N) →
    Leaves lt up Before top 0 nodes → Lists lt up top Before [] nodes
lists_of lt up strict tree top nodes left =
    let e : left.path ≡ [] = none left.path left.at.long in
    let f : left.top ≡ top = (let w = subst (λ p. Leads up left.top p top) e left.at.leads in w) in
    subst (λ p. Lists lt up top Before p nodes) e (subst (λ t. Lists lt up t Before left.path nodes) f left.lists)
  where
    none : {L : Type 0} (p : List L) → length p ≡ 0 → p ≡ []
    none [] e = refl
    none (c ∷ p) e = absurd (omega arith)
