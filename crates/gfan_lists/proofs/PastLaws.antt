-- Two lists after one basis are one; and if a list continues after its limit, and no operation before that leaves its limits, the limit is told.
-- To cite: front_rest, one_list_text, past_refused, past_unanswered. The rest are steps.
use Rattle.std.specs.Prelude.{◌≡◌, ◌⊎◌, ℕ, ◌<◌, ◌≤◌, Bool, true, false, List, [], ◌∷◌, ◌++◌, length, Option, None, Some}
use Rattle.std.proofs.Common.{arith, sym, ap, ◌∙◌, subst, inl, inr, append_assoc, length-append}
use Rattle.gf_poly.specs.Polynomial.{Terms}
use Rattle.gf_poly.specs.Marking.{MarkedPolynomials}
use Rattle.gf_ideal_theory.specs.Membership.{AreInVariables}
use Rattle.gf_facets_theory.specs.Regions.{Region, IsRegion}
use Rattle.gf_front.specs.declared.refusal.Refusal.{Refusal}
use Rattle.gf_front.specs.declared.refusal.Refusal.TheVariants as refusals
use Rattle.gf_items.specs.Refusals.{of_text}
use Rattle.gf_items.specs.Checks.{AllHold}
use Rattle.gf_items.proofs.ReadingLaws.{said}
use Rattle.gf_items.proofs.CheckLaws.{first_apart}
use Rattle.gf_frame.specs.Loading.{Origin}
use Rattle.gf_frame.specs.Commands.{IsAnswered, IsUnanswered, IsRefusedOn}
use Rattle.gfan_lists.specs.declared.bases.ListOptions.{ListOptions}
use Rattle.gf_lists_theory.specs.BasesList.{AreAllBasesIn}
use Rattle.gfan_common.specs.Causes.{of_tree, of_weight_error}
use Rattle.gfan_lists.specs.Bases.{IsWithinLimit, IsGoingCauseBehind, AreItemTextsIn, IsTextBehind, list_text}
use Rattle.gfan_lists.specs.Within.{of_region}
use Rattle.gfan_lists.specs.Ways.{Ways}
use Rattle.gfan_lists.specs.ListCommand.{Behind, IsFront, ListValue, names_in, ideal_in, reading_list, checks_list, IsListAnswer, IsUnstarted}
use Rattle.gfan_lists.specs.ListCommand.{IsEarlyCause, IsListCause, IsListPast, AreTextsPast, list_command}
use Rattle.gf_lists_theory.proofs.OneListLaws.{one_list_in, behind_once}
use Rattle.gfan_lists.proofs.CertificateLaws.{items_one}
use Rattle.gfan_lists.proofs.AfterLaws.{cut_one, cut_region, taken_once}
use Rattle.gfan_lists.proofs.StartLaws.{past_limit}
use Rattle.gfan_lists.proofs.ListCommandLaws.{list_read, IsListSaid, said_list, said_kept, said_inside, names_apart, unstarted_within, checked_list}
use Rattle.gfan_lists.proofs.ListWritingLaws.{formed_list}

-- ---- after one basis there is one list

same_behind : (n : ℕ) (k : Region) (fs : List Terms) (front before rest list : List MarkedPolynomials) (b c : MarkedPolynomials) → AreInVariables n fs →
    IsRegion n k → b ≡ c → AreAllBasesIn n k fs ((front ++ b ∷ []) ++ rest) → AreAllBasesIn n k fs ((before ++ c ∷ []) ++ list) → rest ≡ list
same_behind n k fs front before rest list b c v g q all other =
    let one : AreAllBasesIn n k fs (front ++ b ∷ rest) = subst (AreAllBasesIn n k fs) (append_assoc front (b ∷ []) rest) all in
    let two : AreAllBasesIn n k fs (before ++ b ∷ list) = subst (AreAllBasesIn n k fs) (append_assoc before (b ∷ []) list)
    (subst (λ x. AreAllBasesIn n k fs ((before ++ x ∷ []) ++ list)) (sym q) other) in
    behind_once front before rest list b one.once (one_list_in n k fs (front ++ b ∷ rest) (before ++ b ∷ list) v g one two)

pub front_rest : (after_basis : Bool) (s : Behind after_basis) (n : ℕ) (k : Region) (fs : List Terms) (front before rest list : List MarkedPolynomials) →
    AreInVariables n fs → IsRegion n k → IsFront after_basis s k front → IsFront after_basis s k before → AreAllBasesIn n k fs (front ++ rest) →
    AreAllBasesIn n k fs (before ++ list) → rest ≡ list
front_rest false s n k fs front before rest list v g f h all other =
    one_list_in n k fs rest list v g (subst (λ (l : List MarkedPolynomials). AreAllBasesIn n k fs (l ++ rest)) f all)
    (subst (λ (l : List MarkedPolynomials). AreAllBasesIn n k fs (l ++ list)) h other)
front_rest true s n k fs front before rest list v g f h all other =
    same_behind n k fs f.1 h.1 rest list f.0 h.0 v g (taken_once k s.1 f.0 h.0 f.2 h.2)
    (subst (λ (l : List MarkedPolynomials). AreAllBasesIn n k fs (l ++ rest)) f.3 all)
    (subst (λ (l : List MarkedPolynomials). AreAllBasesIn n k fs (l ++ list)) h.3 other)

-- two answers for what is read, both with certificates or both without, are one text
answers_one : (ways : Ways) (o u : ListOptions) (texts : List (List ℕ)) (v : ListValue ways) (text same : List ℕ) →
    (reading_list ways).IsRead texts v → u.certified ≡ o.certified → IsListAnswer ways o v text →
    IsListAnswer ways u v same → text ≡ same
answers_one ways o u texts v text same read as_one x y =
    let ring = names_in ways v in
    let fs = ideal_in ways v in
    let said = said_list ways texts v read in
    let regions : y.0 ≡ x.0 = cut_one ways.in_region (length ring) v.0 y.0 x.0 y.1 x.1 in
    let theirs : IsTextBehind y.4.0 o.certified u.limit ring x.0 fs same =
    subst (λ (c : Bool). IsTextBehind y.4.0 c u.limit ring x.0 fs same) as_one
    (subst (λ (k : Region). IsTextBehind y.4.0 u.certified u.limit ring k fs same) regions y.4.2) in
    let lists : x.4.2.list ≡ theirs.list =
    front_rest ways.after_basis v.1.0 (length ring) x.0 fs x.4.0 y.4.0 x.4.2.list theirs.list (said_inside ways.from_basis said.source v.1.1 said.read)
    (cut_region ways.in_region (length ring) v.0 x.0 x.1) x.4.1 (subst (λ (k : Region). IsFront ways.after_basis v.1.0 k y.4.0) regions y.4.1) x.4.2.are_all
    theirs.are_all in
    let items = items_one o.certified ring x.0 x.4.2.list x.4.2.items theirs.items x.4.2.are_items
    (subst (λ (l : List MarkedPolynomials). AreItemTextsIn o.certified ring x.0 l theirs.items) (sym lists) theirs.are_items) in
    x.4.2.is_text ∙ ap (list_text ring) items ∙ sym theirs.is_text

-- two runs that write the whole list for the same texts have written the same text
pub one_list_text : (ways : Ways) (sources others : List Origin) (o u : ListOptions) (texts : List (List ℕ)) (text same : List ℕ) →
    u.certified ≡ o.certified → IsAnswered (list_command ways sources o) texts text → IsAnswered (list_command ways others u) texts same → text ≡ same
one_list_text ways sources others o u texts text same as_one a b =
    answers_one ways o u texts a.value text same a.read as_one a.answer.is_answer
    (subst (λ (z : ListValue ways). IsListAnswer ways u z same) ((list_read ways).once texts a.value b.value a.read b.read) b.answer.is_answer)

-- ---- refused at the limit, or for want of memory

abbrev pub IsAtLimitOrMemory : ℕ → Refusal → Type 0
IsAtLimitOrMemory most r = (r ≡ refusals.ListLimit most) ⊎ (r ≡ refusals.Memory)

one_limit : (limit : Option ℕ) (a b : ℕ) → limit ≡ Some a → limit ≡ Some b → a ≡ b
one_limit limit a b p q = cc

within_most : (limit : Option ℕ) (most : ℕ) (list : List MarkedPolynomials) → limit ≡ Some most → IsWithinLimit limit list → length list ≤ most
within_most None most list e w = cc
within_most (Some n) most list e w = let same : n ≡ most = cc in omega arith

module _ (ways : Ways) (o : ListOptions) (texts : List (List ℕ)) (v : ListValue ways) (read : (reading_list ways).IsRead texts v) (most : ℕ)
    (w : IsListPast ways o v most) where
  abbrev n : ℕ
  n = length (names_in ways v)

  abbrev fs : List Terms
  fs = ideal_in ways v

  said_all : IsListSaid ways.from_basis ways.after_basis v.1
  said_all = said_list ways texts v read

  rest_is : (front list : List MarkedPolynomials) → IsFront ways.after_basis v.1.0 w.region front → AreAllBasesIn n w.region fs (front ++ list) →
      w.going.past.list ≡ list
  rest_is front list t all =
      front_rest ways.after_basis v.1.0 n w.region fs w.front front w.going.past.list list (said_inside ways.from_basis said_all.source v.1.1 said_all.read)
      (cut_region ways.in_region n v.0 w.region w.is_region) w.is_front t w.going.past.are_all all

  going_past : (front : List MarkedPolynomials) (r : Refusal) → IsFront ways.after_basis v.1.0 w.region front → IsGoingCauseBehind front o n w.region fs r →
      IsAtLimitOrMemory most r
  going_past front r t (IsGoingCauseBehind.in_tree e h q) =
      inr (q ∙ ap of_tree (w.going.calls h.written h.rest e (rest_is front (h.written ++ h.rest) t h.are_all)
      (within_most o.limit most h.written w.going.past.is_limit h.few) h.early))
  going_past front r t (IsGoingCauseBehind.at_limit m h q) =
      inl (q ∙ ap (λ z. refusals.ListLimit z) (one_limit o.limit m most h.is_limit w.going.past.is_limit))
  going_past front r t (IsGoingCauseBehind.at_certificates c) =
      let few : length (c.written ++ c.basis ∷ []) ≤ most = within_most o.limit most (c.written ++ c.basis ∷ []) w.going.past.is_limit c.few in
      let short : length c.written < most = omega (arith, few, length-append c.written (c.basis ∷ [])) in
      inr (c.uncertified.2 ∙ ap of_weight_error (w.going.certificates c.written c.rest c.basis (rest_is front (c.written ++ c.basis ∷ c.rest) t c.are_all)
      short c.certified c.uncertified.0 c.uncertified.1))

  cause_past : (r : Refusal) → IsListCause ways o v r → IsAtLimitOrMemory most r
  cause_past r (IsListCause.early (IsEarlyCause.at_region c (x, (e, h, q)))) = inr (q ∙ ap of_region (w.limits c e h))
  cause_past r (IsListCause.early (IsEarlyCause.at_names k c i h)) = absurd (names_apart ways.after_basis v.1.0 (names_in ways v) r w.names h)
  cause_past r (IsListCause.early (IsEarlyCause.at_start k i e h)) =
      inr (unstarted_within ways w.region v.1.1 o.pairs (said_kept ways.from_basis said_all.source v.1.1 said_all.read) ways.after_basis v.1.0 r
      said_all.behind e w.start (subst (λ (z : Region). IsUnstarted ways o.pairs z v.1.1 v.1.0 r)
      (cut_one ways.in_region n v.0 k w.region i w.is_region) h))
  cause_past r (IsListCause.going k front i e g t h) =
      let same = cut_one ways.in_region n v.0 k w.region i w.is_region in
      going_past front r (subst (λ (z : Region). IsFront ways.after_basis v.1.0 z front) same t)
      (subst (λ (z : Region). IsGoingCauseBehind front o n z fs r) same h)

  no_answer : (text : List ℕ) → IsListAnswer ways o v text → ⊥
  no_answer text a =
      let same = cut_one ways.in_region n v.0 a.0 w.region a.1 w.is_region in
      let t = subst (λ (z : Region). IsFront ways.after_basis v.1.0 z a.4.0) same a.4.1 in
      let all = subst (λ (z : Region). AreAllBasesIn n z fs (a.4.0 ++ a.4.2.list)) same a.4.2.are_all in
      past_limit o.limit most w.going.past.list w.going.past.is_limit w.going.past.longer
      (subst (IsWithinLimit o.limit) (sym (rest_is a.4.0 a.4.2.list t all)) a.4.2.few)

module _ (ways : Ways) (sources : List Origin) (o : ListOptions) (texts : List (List ℕ)) (most : ℕ) (p : AreTextsPast ways o texts most) where
  once : (a : ListValue ways) → (reading_list ways).IsRead texts a → a ≡ p.0
  once a h = (list_read ways).once texts p.0 a p.1 h

  pub past_refused : (d : Refusal) → IsRefusedOn (list_command ways sources o) texts d → IsAtLimitOrMemory most d
  past_refused d (IsRefusedOn.in_text e h q) = elim (said e) [
    | inl m ↦ inr (q ∙ ap of_text m)
    | inr n ↦ absurd ((list_read ways).apart texts p.0 e p.1 h n)
  ]
  past_refused d (IsRefusedOn.behind_text a k (IsUnanswered.in_form f)) =
      absurd (first_apart (checks_list ways a) (checked_list ways a) d
      (subst (λ (z : ListValue ways). AllHold (checks_list ways z)) (sym (once a k)) (formed_list ways p.0 p.2.region p.2.is_region p.2.names)) f)
  past_refused d (IsRefusedOn.behind_text a k (IsUnanswered.in_work g x)) =
      cause_past ways o texts p.0 p.1 most p.2 d (subst (λ (z : ListValue ways). IsListCause ways o z d) (once a k) x)
  past_refused d (IsRefusedOn.behind_text a k (IsUnanswered.no_memory m)) = inr m
  past_refused d (IsRefusedOn.no_memory m) = inr m

  pub past_unanswered : (text : List ℕ) → IsAnswered (list_command ways sources o) texts text → ⊥
  past_unanswered text a = no_answer ways o texts p.0 p.1 most p.2 text
      (subst (λ (z : ListValue ways). IsListAnswer ways o z text) (once a.value a.read) a.answer.is_answer)
