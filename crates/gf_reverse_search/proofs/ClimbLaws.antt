-- A climb keeps what is left.
-- To cite: Stands-start, Stands-up, Stands-child, Stands-end, last_step.
use Rattle.std.proofs.Common.{◌≡◌, ℕ, suc, ◌+◌, ◌<◌, List, [], ◌∷◌, ◌++◌, ◌↔◌, length, refl, sym, ap, subst, ◌∙◌, arith, Some, None, length-append}
use Rattle.gf_reverse_search.specs.declared.mark.Mark.{Mark}
use Rattle.gf_reverse_search.specs.declared.mark.Mark.TheVariants.{Before, After, Listed, Finished}
use Rattle.gf_reverse_search.specs.Path.{IsStrictOrder, IsTree, Leads, IsPath}
use Rattle.gf_reverse_search.specs.Left.{IsBelowMark, IsOpen}
use Rattle.gf_reverse_search.specs.Standing.{StandsBelow}
use Rattle.gf_reverse_search.specs.Walk.{HasNoChild, IsLeastChild, Finds}
use Rattle.gf_reverse_search.proofs.StepLaws.{Leads-snoc, up_cases, up_from, finished_open, none_cases, down_cases, down_from}

-- the last step of a way down
pub record LastStep {N L : Type 0} (up : N → L → N → Type 0) (s : N) (r : List L) (x : N) : Type 0 where
  pub path : List L
  pub label : L
  pub above : N
  pub leads : Leads up s path above
  pub step : up x label above
  pub whole : r ≡ path ++ label ∷ []

pub last_step : {N L : Type 0} (up : N → L → N → Type 0) (s : N) (c : L) (r : List L) (x : N) → Leads up s (c ∷ r) x → LastStep up s (c ∷ r) x
last_step up s c [] x way = record { path = []; label = c; above = s; leads = refl; step = subst (λ y. up y c s) way.2 way.1; whole = refl }
last_step up s c (b ∷ r) x way =
    let p = last_step up way.0 b r x way.2 in
    record {
      path = c ∷ p.path;
      label = p.label;
      above = p.above;
      leads = (way.0, way.1, p.leads);
      step = p.step;
      whole = (let e : (b ∷ r) ≡ p.path ++ p.label ∷ [] = p.whole in cc);
    }

-- the search for the next node has come from the path r to a node, and what is left is the same
pub record Stands {N L : Type 0} (lt : L → L → Type 0) (up : N → L → N → Type 0) (top : N) (m : Mark L) (r : List L) (node : N) (mark : Mark L) (depth : ℕ) :
    Type 0 where
  pub path : List L
  pub at : StandsBelow up top path node depth
  pub same : (q : List L) → IsPath up top q → (IsOpen lt m r q ↔ IsOpen lt mark path q)

pub Stands-start : {N L : Type 0} (lt : L → L → Type 0) (up : N → L → N → Type 0) (top : N) (m : Mark L) (r : List L) (node : N) (depth : ℕ) →
    StandsBelow up top r node depth → Stands lt up top m r node m depth
Stands-start lt up top m r node depth at = record { path = r; at = at; same = λ q p. ((λ h. h), (λ h. h)) }

module _ {N L : Type 0} (lt : L → L → Type 0) (up : N → L → N → Type 0) (strict : IsStrictOrder lt) (tree : IsTree up) (top : N) (m : Mark L) (r : List L) where
  pub Stands-up : (node : N) (mark : Mark L) (d e : ℕ) (c : L) (u : N) → Stands lt up top m r node mark d → (IsBelowMark lt mark [] → ⊥) →
      HasNoChild lt up node mark → up node c u → e + 1 ≡ d → Stands lt up top m r u (After c) e
  Stands-up node mark d e c u stands past none step less =
      elim stands.path as (λ p. p ≡ stands.path → Stands lt up top m r u (After c) e) [
        | [] ↦ λ is. absurd (let l : length stands.path ≡ d = stands.at.long in let k : length stands.path ≡ 0 = ap length (sym is) in omega arith)
        | b ∷ p ↦ λ is. (let s = last_step up top b p node (subst (λ x. Leads up top x node) (sym is) stands.at.leads) in
            let e1 : s.label ≡ c = tree.one_label node s.above u s.label c s.step step in
            let e2 : s.above ≡ u = tree.one_parent node s.above u s.label c s.step step in
            let w : stands.path ≡ s.path ++ c ∷ [] = sym is ∙ s.whole ∙ ap (λ x. s.path ++ x ∷ []) e1 in
            record {
              path = s.path;
              at = record {
                leads = subst (λ x. Leads up top s.path x) e2 s.leads;
                long = (let l : length stands.path ≡ d = stands.at.long in let k : length stands.path ≡ length s.path + 1 =
                    ap length w ∙ length-append s.path (c ∷ []) in omega arith);
              };
              same = λ q path. (
                (λ h. up_cases lt s.path c q (subst (λ x. IsOpen lt Finished x q) w
                    (none_cases lt up tree mark node past none top stands.path stands.at.leads q path ((stands.same q path).0 h)))),
                (λ h. (stands.same q path).1 (finished_open lt mark stands.path q (subst (λ x. IsOpen lt Finished x q) (sym w) (up_from lt s.path c q h)))),
              );
            })
      ] refl

  above_mark : (mark : Mark L) (c b : L) → IsBelowMark lt mark (c ∷ []) → lt c b → IsBelowMark lt mark (b ∷ [])
  above_mark Before c b h k = tt
  above_mark (After a) c b h k = strict.transitive a c b h k
  above_mark Listed c b h k = tt
  above_mark Finished c b h k = h

  pub Stands-child : (node : N) (mark : Mark L) (d e : ℕ) (v : N) → Stands lt up top m r node mark d → (IsBelowMark lt mark [] → ⊥) →
      IsLeastChild lt up node mark v → e ≡ d + 1 → Finds lt up top m r (Some (v, e))
  Stands-child node mark d e v stands past child more = (
    stands.path ++ child.label ∷ [],
    record {
      leads = Leads-snoc up top stands.path node child.label v stands.at.leads child.child;
      long = (let l : length stands.path ≡ d = stands.at.long in let k = length-append stands.path (child.label ∷ []) in omega arith);
    },
    λ q path. (
      (λ h. down_cases lt up tree mark node child.label past child.least top stands.path stands.at.leads q path ((stands.same q path).0 h)),
      (λ h. (stands.same q path).1 (down_from lt mark child.label child.past (λ b. above_mark mark child.label b child.past) stands.path q h)),
    ),
  )

  pub Stands-end : (node : N) (mark : Mark L) (d : ℕ) → Stands lt up top m r node mark d → (IsBelowMark lt mark [] → ⊥) → HasNoChild lt up node mark →
      ((c : L) (w : N) → up node c w → 0 < d → ⊥) → Finds lt up top m r None
  Stands-end node mark d stands past none end q path open_at =
      elim stands.path as (λ p. p ≡ stands.path → ⊥) [
        | [] ↦ λ is. subst (λ x. IsOpen lt Finished x q) (sym is) (none_cases lt up tree mark node past none top stands.path stands.at.leads q path
            ((stands.same q path).0 open_at))
        | b ∷ p ↦ λ is. (let s = last_step up top b p node (subst (λ x. Leads up top x node) (sym is) stands.at.leads) in
            end s.label s.above s.step (let l : length stands.path ≡ d = stands.at.long in let k : suc (length p) ≡ length stands.path = ap length is in
            omega arith))
      ] refl
