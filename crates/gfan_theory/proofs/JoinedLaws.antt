-- A list that was cut and then continued is the list of one run.
-- To cite: cut_list, runs_are_joined. The rest are steps.
use Rattle.std.specs.Prelude.{◌≡◌, ◌≢◌, ℕ, Bool, true, false, List, [], ◌∷◌, ◌++◌, flat_map, length, map, Contains, None, Some}
use Rattle.std.proofs.Common.{refl, sym, ap, ap₂, ◌∙◌, subst, inl, append_assoc}
use Rattle.std.proofs.lemmas.Grind.{flat_map-append}
use Rattle.std.proofs.lemmas.List.Sorted.{Contains-permutation, IsPermutation-sym}
use Rattle.gf_exponents_theory.proofs.ExponentsLaws.{same-refl}
use Rattle.gf_poly.specs.Polynomial.{Terms}
use Rattle.gf_poly.specs.Marking.{MarkedPolynomial, MarkedPolynomials}
use Rattle.gf_text.specs.RingText.{IsRing, ring_text}
use Rattle.gf_text.specs.WrittenText.{AreKept}
use Rattle.gf_ideal_theory.specs.Bases.{AreArranged}
use Rattle.gf_ideal_theory.proofs.ArrangedLists.{arranged_equal}
use Rattle.gf_facets_theory.specs.Regions.{Region}
use Rattle.gf_reduced.specs.Forms.{monic_of}
use Rattle.gf_front.specs.declared.refusal.Refusal.{Refusal}
use Rattle.gf_items.specs.Items.{IsTextOf}
use Rattle.gf_items.specs.Sources.{ring_marked_set}
use Rattle.gfan_lists.specs.declared.bases.ListOptions.{ListOptions}
use Rattle.gf_lists_theory.specs.BasesList.{IsGivenIn}
use Rattle.gfan_lists.specs.Bases.{later_item_text, items_text, list_text, begun_text, AreItemTextsIn, IsTextBehind, IsBegunListBehind, IsBegunWhereBehind}
use Rattle.gfan_lists.specs.After.{IsBasisTaken}
use Rattle.gf_lists_theory.proofs.BasesListLaws.{among_left, among_right}
use Rattle.gfan_theory.proofs.PartsLaws.{parts_are_joined}
use Rattle.gfan_theory.specs.ListSources.{HasPolynomials}
use Rattle.gfan_theory.specs.Answers.{NamedFile, Request, IsBasesAnswer, AreBasesBefore, IsSaid}
use Rattle.gfan_theory.specs.Joined.{IsCutAnswer, basis_file, continued, without_limit, between, IsJoined, RunsAreJoined}
use Rattle.gfan_theory.proofs.AnswerLaws.{is_said, region_once, basis_once}
use Rattle.gfan_lists.specs.After.{names_given, generators_given}
use Rattle.gfan_theory.proofs.OneTextLaws.{AnswerAt, answer_at}
use Rattle.gfan_theory.proofs.BasisFileLaws.{read_again, monic_again}

-- ---- what a run that failed has written, and what the whole list would be

pub record CutList (q : Request) (input text : List ℕ) (refusal : Refusal) : Type 0 where
  pub ring : List (List ℕ)
  pub ideal : List Terms
  pub region : Region
  pub early : List MarkedPolynomials
  pub said : IsSaid q input ring ideal region early
  pub begun : IsBegunWhereBehind early q.options ring region ideal text refusal
  pub whole : (joined : List ℕ) → IsTextBehind early q.options.certified None ring region ideal joined → IsBasesAnswer (without_limit q) input joined

pub cut_list : (q : Request) (input text : List ℕ) (refusal : Refusal) → IsCutAnswer q input text refusal → CutList q input text refusal
cut_list q input text refusal a =
    let v = a.value in
    let x = a.begun in
    record {
      ring = names_given q.from_basis v.1.1;
      ideal = generators_given q.from_basis v.1.1;
      region = x.0;
      early = x.4.0;
      said = is_said q input v a.read x.0 x.4.0 x.1 x.2 x.4.1;
      begun = x.4.2;
      whole = λ joined t. record {
        value = v;
        read = a.read;
        answer = record { formed = a.formed; is_answer = (x.0, x.1, x.2, x.3, (x.4.0, x.4.1, t)) };
      };
    }

-- ---- its last basis

begun_list : (before : List MarkedPolynomials) (o : ListOptions) (ring : List (List ℕ)) (k : Region) (fs : List Terms) (text : List ℕ) (refusal : Refusal) →
    IsBegunWhereBehind before o ring k fs text refusal →
    (written : List MarkedPolynomials) × (rest : List MarkedPolynomials) × IsBegunListBehind before o.certified ring k fs written rest text
begun_list before o ring k fs text refusal h = (h.written, h.rest, h.begun)

last_of : (x : MarkedPolynomials) (xs : List MarkedPolynomials) → (front : List MarkedPolynomials) × (last : MarkedPolynomials) × (x ∷ xs ≡ front ++ last ∷ [])
last_of x [] = ([], x, refl)
last_of x (y ∷ ys) = let r = last_of y ys in (x ∷ r.0, r.1, ap (λ (l : List MarkedPolynomials). x ∷ l) r.2)

no_items : (certified : Bool) (ring : List (List ℕ)) (k : Region) (items : List (List ℕ)) (text : List ℕ) → AreItemTextsIn certified ring k [] items →
    text ≡ begun_text ring items → text ≡ []
no_items certified ring k [] text a e = e
no_items certified ring k (t ∷ ts) text a e = absurd a

ends : (before : List MarkedPolynomials) (certified : Bool) (ring : List (List ℕ)) (k : Region) (fs : List Terms) (written rest : List MarkedPolynomials)
    (text : List ℕ) →
    IsBegunListBehind before certified ring k fs written rest text → text ≢ [] →
    (front : List MarkedPolynomials) × (last : MarkedPolynomials) × IsBegunListBehind before certified ring k fs (front ++ last ∷ []) rest text
ends before certified ring k fs [] rest text b n = absurd (n (no_items certified ring k b.items text b.are_items b.is_text))
ends before certified ring k fs (x ∷ xs) rest text b n =
    let e = last_of x xs in
    (e.0, e.1, subst (λ (w : List MarkedPolynomials). IsBegunListBehind before certified ring k fs w rest text) e.2 b)

-- ---- two texts, joined

assoc_text : (a i b j e : List ℕ) → a ++ (123 ∷ ((i ++ (b ++ j)) ++ e)) ≡ (a ++ (123 ∷ i)) ++ (b ++ (j ++ e))
assoc_text a i b j e =
    ap (λ (l : List ℕ). a ++ (123 ∷ l)) (append_assoc i (b ++ j) e ∙ ap (λ (l : List ℕ). i ++ l) (append_assoc b j e))
    ∙ sym (append_assoc a (123 ∷ i) (b ++ (j ++ e)))

later_items : (us : List (List ℕ)) → flat_map later_item_text us ≡ between us ++ items_text us
later_items [] = refl
later_items (u ∷ us) = refl

items_joined : (t : List ℕ) (ts us : List (List ℕ)) → items_text ((t ∷ ts) ++ us) ≡ items_text (t ∷ ts) ++ (between us ++ items_text us)
items_joined t ts us =
    ap (λ (l : List ℕ). t ++ l) (flat_map-append later_item_text ts us ∙ ap (λ (l : List ℕ). flat_map later_item_text ts ++ l) (later_items us))
    ∙ sym (append_assoc t (flat_map later_item_text ts) (between us ++ items_text us))

text_joined : (ring items others : List (List ℕ)) (text : List ℕ) → text ≢ [] → text ≡ begun_text ring items →
    list_text ring (items ++ others) ≡ text ++ (between others ++ (items_text others ++ 125 ∷ 10 ∷ []))
text_joined ring [] others text n e = absurd (n e)
text_joined ring (t ∷ ts) others text n e =
    ap (λ (l : List ℕ). ring_text ring ++ (123 ∷ (l ++ 125 ∷ 10 ∷ []))) (items_joined t ts others)
    ∙ assoc_text (ring_text ring) (items_text (t ∷ ts)) (between others) (items_text others) (125 ∷ 10 ∷ [])
    ∙ ap (λ (l : List ℕ). l ++ (between others ++ (items_text others ++ 125 ∷ 10 ∷ []))) (sym e)

-- ---- the last basis is read again, and taken as it is

ring_said : (from_basis : Bool) (source : List ℕ) (ring : List (List ℕ)) (fs : List Terms) → HasPolynomials from_basis source ring fs → IsRing ring
ring_said false source ring fs p = p.1.read.one.ring
ring_said true source ring fs p = p.1.read.one.ring

-- a reduced basis in the ring is taken as itself
taken_itself : (n : ℕ) (k : Region) (fs : List Terms) (last basis : MarkedPolynomials) → IsGivenIn n k fs last →
    IsBasisTaken k (record { variables = n; items = last.items }) basis → basis ≡ last
taken_itself n k fs last basis g t = ap₂ (λ (m : ℕ) (bs : List MarkedPolynomial). record { variables = m; items = bs })
    (t.arranged.variables ∙ sym g.variables) same
  where
    first : AreArranged n basis.items
    first = subst (λ (m : ℕ). AreArranged m basis.items) t.arranged.variables t.basis.reduced.arranged

    monic : map monic_of last.items ≡ last.items
    monic = monic_again last.items (λ b c. (g.reduced.reduced.basis.marked b c).monic)

    same : basis.items ≡ last.items
    same = arranged_equal n basis.items last.items first g.arranged (record {
      there = λ x h. (
        x,
        subst (λ (bs : List MarkedPolynomial). Contains bs x) monic
            (Contains-permutation basis.items (map monic_of last.items) x (IsPermutation-sym (map monic_of last.items) basis.items t.arranged.members) h),
        record { head = same-refl x.head; poly = λ e. refl },
      );
      back = λ x h. (
        x,
        Contains-permutation (map monic_of last.items) basis.items x t.arranged.members
            (subst (λ (bs : List MarkedPolynomial). Contains bs x) (sym monic) h),
        record { head = same-refl x.head; poly = λ e. refl },
      );
    })

-- ---- the runs

record Parts (ring : List (List ℕ)) (k : Region) (fs : List Terms) (early : List MarkedPolynomials) (certified : Bool) (text behind : List ℕ) : Type 0 where
  pub joined : List ℕ
  pub is_joined : IsJoined ring text behind joined
  pub list : IsTextBehind early certified None ring k fs joined

module _ (q : Request) (input text : List ℕ) (ring : List (List ℕ)) (fs : List Terms) (k : Region) (early front rest : List MarkedPolynomials)
    (last : MarkedPolynomials)
    (some : text ≢ []) (said : IsSaid q input ring fs k early) (begun : IsBegunListBehind early q.options.certified ring k fs (front ++ last ∷ []) rest text)
    (file : NamedFile) (options : ListOptions) (workers : ℕ) (behind : List ℕ) (kept : AreKept (length ring) last.items)
    (bytes : file.bytes ≡ basis_file ring last)
    (alike : options.certified ≡ q.options.certified) (second : AnswerAt (continued q file options workers) input behind ring fs) where
  region : second.region ≡ k
  region = region_once q.within q.within (length ring) k second.region refl said.region second.said.region

  before : AreBasesBefore (Some file) ring k second.early
  before = subst (λ (j : Region). AreBasesBefore (Some file) ring j second.early) region second.said.before

  given : IsGivenIn (length ring) k fs last
  given = begun.are_all.only last (among_right early ((front ++ last ∷ []) ++ rest) last
      (among_left (front ++ last ∷ []) rest last (among_right front (last ∷ []) last (inl refl))))

  again : IsTextOf ring_marked_set file.bytes (ring, record { variables = length ring; items = last.items })
  again = subst (λ (source : List ℕ). IsTextOf ring_marked_set source (ring, record { variables = length ring; items = last.items })) (sym bytes)
      (read_again ring last (ring_said q.from_basis input ring fs said.read) kept)

  taken : before.1 ≡ last
  taken = taken_itself (length ring) k fs last before.1 given
      (subst (λ (s : MarkedPolynomials). IsBasisTaken k s before.1)
      (basis_once ring file.bytes (record { variables = length ring; items = last.items }) before.0 again before.3) before.4)

  early_is : second.early ≡ before.2 ++ last ∷ []
  early_is = before.5 ∙ ap (λ (b : MarkedPolynomials). before.2 ++ b ∷ []) taken

  second_list : IsTextBehind (before.2 ++ last ∷ []) q.options.certified options.limit ring k fs behind
  second_list =
      subst (λ (l : List MarkedPolynomials). IsTextBehind l q.options.certified options.limit ring k fs behind) early_is
      (subst (λ (c : Bool). IsTextBehind second.early c options.limit ring k fs behind) alike
      (subst (λ (j : Region). IsTextBehind second.early options.certified options.limit ring j fs behind) region second.list))

  parts : Parts ring k fs early q.options.certified text behind
  parts =
      let p = parts_are_joined q.options.certified options.limit ring k fs early front before.2 rest last text behind said.inside said.is_region begun
      second_list in
      record {
        joined = list_text ring (p.0 ++ p.1);
        is_joined = record { others = p.1; second = p.3; is_joined = text_joined ring p.0 p.1 text some p.2 };
        list = p.4;
      }

pub runs_are_joined : RunsAreJoined
runs_are_joined q input text refusal a some =
    let c : CutList q input text refusal = cut_list q input text refusal a in
    let b = begun_list c.early q.options c.ring c.region c.ideal text refusal c.begun in
    let e = ends c.early q.options.certified c.ring c.region c.ideal b.0 b.1 text b.2 some in (
      c.ring,
      e.1,
      record { ideal = c.ideal; region = c.region; early = c.early; said = c.said; front = e.0; rest = b.1; begun = e.2 },
      λ file options workers behind kept bytes alike answer.
          let p : Parts c.ring c.region c.ideal c.early q.options.certified text behind =
          parts q input text c.ring c.ideal c.region c.early e.0 b.1 e.1 some c.said e.2 file options workers behind kept bytes alike
          (answer_at (continued q file options workers) input behind c.ring c.ideal c.said.read answer) in
          (p.joined, p.is_joined, c.whole p.joined p.list),
    )
