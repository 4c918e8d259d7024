-- How the list of `_bases` begins, goes on, ends and is refused.
-- To cite: starts, goes_on, ends, stopped_tree, stopped_limit, stopped_piece, stopped_end, stopped_unended; first_goes_on, after_goes_on;
-- unnamed_write, unnamed_piece, unwritten_calm, piece_calm, generators_in. The rest are steps.
use Rattle.std.specs.Prelude.{◌≡◌, ℕ, zero, suc, ◌+◌, ◌<◌, Bool, true, false, List, [], ◌∷◌, ◌++◌, length, Option, None, Some}
use Rattle.std.specs.Io.KnownBytes.{Appends, Keeps}
use Rattle.std.specs.Global.{Global}
use Rattle.std.proofs.Common.{arith, refl, sym, ap, ◌∙◌, subst, inl, inr, append_assoc, append-nil, length-append}
use Rattle.std.proofs.lemmas.Bool.{cases_lt}
use Rattle.std.proofs.KnownBytes.{Appends-nil, Appends-trans, Appends-kept}
use Rattle.gf_outside.specs.Moved.{AppendsPrefix}
use Rattle.gf_poly.specs.Polynomial.{Terms}
use Rattle.gf_poly.specs.Marking.{MarkedPolynomials}
use Rattle.gf_text.specs.declared.written.Written.{Written}
use Rattle.gf_text.specs.Sets.{AreIn}
use Rattle.gf_ideal_theory.specs.Membership.{AreInVariables}
use Rattle.gf_buchberger.proofs.TaskLaws.{ring_variables}
use Rattle.gf_reverse_search.specs.Listing.{Among}
use Rattle.gf_reverse_search.specs.Whole.{IsFinite}
use Rattle.gf_facets_theory.specs.Regions.{Region}
use Rattle.gf_facets_theory.specs.LexPositive.{IsBefore}
use Rattle.gf_reverse_theory.specs.Upward.{IsNode, IsNodeIn, IsParent, fan_of}
use Rattle.gf_reverse_theory.proofs.TreeLaws.{SameFan, count, upward_finite, node_moved, own_fan, back_fan}
use Rattle.gf_reverse_theory.proofs.ListLaws.{own}
use Rattle.gf_tree.specs.TreeError.{TreeError}
use Rattle.gf_tree.specs.TreeError.TheVariants as tree_errors
use Rattle.gf_tree.specs.Ideals.{ideal_within}
use Rattle.gf_tree.specs.Parents.{IsRootFor}
use Rattle.gf_tree.specs.Steps.{IsResumed}
use Rattle.gf_tree.specs.Walks.{Walk, AreLeft}
use Rattle.gf_reverse_theory.proofs.LawsHold.{bases_make_a_tree}
use Rattle.gf_subtree.specs.Rows.{Row, ideal_in, AreLeftIn, first_row}
use Rattle.gf_subtree.specs.Answers.{IsNextRow, IsRowEnd, IsRefusedEarly, IsResumedAs}
use Rattle.gf_subtree.proofs.BasisRowLaws.{start_leaves, early_moved}
use Rattle.gf_weights.specs.declared.error.WeightError.{WeightError}
use Rattle.gf_weights.specs.declared.error.WeightError.TheVariants as weight_errors
use Rattle.gf_front.specs.declared.refusal.Refusal.{Refusal}
use Rattle.gf_front.specs.declared.refusal.Refusal.TheVariants as refusals
use Rattle.gfan_lists.specs.declared.bases.ListOptions.{ListOptions}
use Rattle.gfan_lists.specs.declared.bases.Room.{Room}
use Rattle.gfan_lists.specs.declared.bases.Room.TheVariants.{Endless, Limited}
use Rattle.gfan_common.specs.Forms.{generators_of}
use Rattle.gfan_common.specs.Causes.{of_weight_error, of_tree}
use Rattle.gf_lists_theory.specs.BasesList.{AreAllBasesIn}
use Rattle.gfan_lists.specs.Certificates.{IsItemTextIn, IsItemRefusalIn}
use Rattle.gfan_lists.specs.Bases.{AreItemTextsIn, IsWithinLimit, list_text, begun_text, IsFullTextBehind, IsStoppedAt}
use Rattle.gfan_lists.specs.Bases.{IsBegunWhereBehind}
use Rattle.gfan_lists.specs.BasesWriting.{basis_piece, IsBasisWritten, IsUnwritten, IsBasisUnwritten, HasRoomFor, IsOneLess, IsFull}
use Rattle.gf_lists_theory.specs.Starts.{StartsIn}
use Rattle.gfan_lists.specs.BasesWriting.{GoesOnBehind, IsListWrittenBehind, IsListBegunBehind, IsListStoppedBehind}
use Rattle.gfan_lists.specs.BasesWriting.{end_piece, is_none_of, IsUnderWay}
use Rattle.gfan_common.specs.Refused.{IsUnnamed, without_names}
use Rattle.gfan_common.proofs.WrittenSetLaws.{in_ring}
use Rattle.gfan_common.proofs.CauseLaws.{unnamed_weight}
use Rattle.gf_lists_theory.proofs.BasesListLaws.{among_left, among_right, root_marks, all_bases_in}
use Rattle.gfan_lists.proofs.CertificateLaws.{AllZip-append, items_exist}
use Rattle.gfan_lists.proofs.BasesTextLaws.{begun_next, whole_begun, prefix_on, prefix_piece, prefix_begun}

-- ---- room

pub room_next : (limit : Option ℕ) (room after : Room) (written : List MarkedPolynomials) (b : MarkedPolynomials) → HasRoomFor limit room written →
    IsOneLess room after → HasRoomFor limit after (written ++ b ∷ [])
room_next None Endless Endless written b h l = tt
room_next None Endless (Limited most left) written b h l = absurd l
room_next None (Limited most left) after written b h l = absurd h
room_next (Some limit) Endless after written b h l = absurd h
room_next (Some limit) (Limited most left) Endless written b h l = absurd l
room_next (Some limit) (Limited most left) (Limited same less) written b h l = (l.0 ∙ h.0, omega (arith, h.1, l.1, length-append written (b ∷ [])))

-- the limit is reached
pub record IsAtLimit (limit : Option ℕ) (written : List MarkedPolynomials) (r : Refusal) : Type 0 where
  pub most : ℕ
  pub told : r ≡ refusals.ListLimit most
  pub is_limit : limit ≡ Some most
  pub just : length written ≡ most

pub room_full : (limit : Option ℕ) (room : Room) (written : List MarkedPolynomials) (r : Refusal) → HasRoomFor limit room written → IsFull room r →
    IsAtLimit limit written r
room_full None Endless written r h f = absurd f
room_full None (Limited most left) written r h f = absurd h
room_full (Some limit) Endless written r h f = absurd h
room_full (Some limit) (Limited most left) written r h f = record { most = most; told = f.1; is_limit = ap Some (sym h.0); just = omega (arith, h.0, h.1, f.0) }

room_within : (limit : Option ℕ) (room : Room) (written : List MarkedPolynomials) → HasRoomFor limit room written → IsWithinLimit limit written
room_within None Endless written h = tt
room_within None (Limited most left) written h = absurd h
room_within (Some limit) Endless written h = absurd h
room_within (Some limit) (Limited most left) written h = omega (arith, h.1)

-- ---- the list under way

-- a list is longer than a number: so many of it, one more, and the rest
pub record IsCutBehind (xs : List MarkedPolynomials) (k : ℕ) : Type 0 where
  pub front : List MarkedPolynomials
  pub next : MarkedPolynomials
  pub rest : List MarkedPolynomials
  pub whole : xs ≡ front ++ next ∷ rest
  pub just : length front ≡ k

cut_behind : (xs : List MarkedPolynomials) (k : ℕ) → k < length xs → IsCutBehind xs k
cut_behind [] k l = absurd (omega arith)
cut_behind (x ∷ xs) zero l = record { front = []; next = x; rest = xs; whole = refl; just = refl }
cut_behind (x ∷ xs) (suc k) l =
    let c = cut_behind xs k (omega arith) in
    record { front = x ∷ c.front; next = c.next; rest = c.rest; whole = ap (λ l. x ∷ l) c.whole; just = ap suc c.just }

module _ (before : List MarkedPolynomials) (o : ListOptions) (ring : List (List ℕ)) (j : Region) (fs : List Terms) where
  -- before the first of them
  pub starts : (row : Row) (room : Room) (held : Option (List ℕ)) → GoesOnBehind before (length ring) j fs o.pairs row → HasRoomFor o.limit room [] →
      IsUnderWay before o ring j fs row room true held held
  starts row room held h f = record {
    written = [];
    rest = h.rest;
    are_all = h.are_all;
    left = h.left;
    basis = h.basis;
    pairs = h.pairs;
    region = h.region;
    fits = f;
    items = [];
    are_items = tt;
    first = refl;
    gained = Appends-nil held;
  }

  module _ (row : Row) (room : Room) (is_first : Bool) (held holds : Option (List ℕ)) (way : IsUnderWay before o ring j fs row room is_first held holds) where
    -- the ideal of the row is the one that is read
    same_fan : SameFan (ideal_in row) (ideal_within (length ring) fs j)
    same_fan = subst (λ (k : Region). SameFan (fan_of k row.start) (ideal_within (length ring) fs j)) (sym way.region)
        (back_fan (ideal_within (length ring) fs j) (fan_of j row.start) (own_fan (ideal_within (length ring) fs j) row.start way.basis))

    pub from_row : (x : MarkedPolynomials) → IsNodeIn (ideal_in row) x → IsNodeIn (ideal_within (length ring) fs j) x
    from_row x h = node_moved (ideal_in row) (ideal_within (length ring) fs j) x same_fan h

    -- a refusal of the waves comes of a call at a basis of that ideal, one that is written or the next one
    early_here : (e : TreeError) → ((nodes : List MarkedPolynomials) → AreLeftIn row nodes → IsRefusedEarly (ideal_in row) row.pairs nodes e) →
        IsRefusedEarly (ideal_within (length ring) fs j) o.pairs way.rest e
    early_here e h =
        subst (λ p. IsRefusedEarly (ideal_within (length ring) fs j) p way.rest e) way.pairs
        (early_moved (ideal_in row) (ideal_within (length ring) fs j) row.pairs way.rest e same_fan (h way.rest way.left))

    -- what is written until now stands where the list is refused behind it
    begun_now : (r : Refusal) → IsStoppedAt o (length ring) j fs way.written way.rest r → IsBegunWhereBehind before o ring j fs (begun_text ring way.items) r
    begun_now r h = record {
      written = way.written;
      rest = way.rest;
      begun = record { are_all = way.are_all; items = way.items; are_items = way.are_items; is_text = refl };
      few = room_within o.limit room way.written way.fits;
      cause = h;
    }

    stands : (r : Refusal) → IsStoppedAt o (length ring) j fs way.written way.rest r → IsListBegunBehind before o ring j fs held holds r
    stands r h = (begun_text ring way.items, begun_now r h, way.gained)

    -- where memory runs out while a piece is written, nothing of it is
    stands_kept : (then : Option (List ℕ)) → Keeps holds then → IsListBegunBehind before o ring j fs held then refusals.Memory
    stands_kept then k = (
      begun_text ring way.items,
      begun_now refusals.Memory (IsStoppedAt.no_memory refl),
      Appends-kept held holds then (begun_text ring way.items) way.gained k,
    )

    module _ (new : Row) (b : MarkedPolynomials) (step : IsNextRow row new b) where
      next : (rest : List MarkedPolynomials) × (way.rest ≡ b ∷ rest) × AreLeftIn new rest
      next = step.first way.rest way.left

      all_next : AreAllBasesIn (length ring) j fs (before ++ (way.written ++ b ∷ next.0))
      all_next = subst (λ l. AreAllBasesIn (length ring) j fs (before ++ (way.written ++ l))) next.1 way.are_all

      -- a basis is of the variables of the ring
      pub step_variables : b.variables ≡ length ring
      step_variables = (from_row b step.basis).variables

      -- what stands for it follows the others
      more_items : (t : List ℕ) (rest : List MarkedPolynomials) (ts : List (List ℕ)) → IsItemTextIn o.certified ring j b t →
          AreItemTextsIn o.certified ring j rest ts → AreItemTextsIn o.certified ring j (way.written ++ b ∷ rest) (way.items ++ t ∷ ts)
      more_items t rest ts i r = AllZip-append (IsItemTextIn o.certified ring j) way.written (b ∷ rest) way.items (t ∷ ts) way.are_items (i, r)

      all_with : AreAllBasesIn (length ring) j fs (before ++ ((way.written ++ b ∷ []) ++ next.0))
      all_with = subst (λ l. AreAllBasesIn (length ring) j fs (before ++ l)) (sym (append_assoc way.written (b ∷ []) next.0)) all_next

      -- one more basis is written
      pub goes_on : (after : Room) (then : Option (List ℕ)) → IsOneLess room after → IsBasisWritten o.certified ring j is_first b holds then →
          IsUnderWay before o ring j fs new after false held then
      goes_on after then less (piece, p, gained) = record {
        written = way.written ++ b ∷ [];
        rest = next.0;
        are_all = all_with;
        left = next.2;
        basis = subst (IsNodeIn (ideal_within (length ring) fs j)) (sym step.same.start) way.basis;
        pairs = step.same.pairs ∙ way.pairs;
        region = step.same.region ∙ way.region;
        fits = room_next o.limit room after way.written b way.fits less;
        items = way.items ++ p.item ∷ [];
        are_items = more_items p.item [] [] p.is_item tt;
        first = none way.items;
        gained = subst (Appends held then) (ap (λ f. begun_text ring way.items ++ basis_piece ring f p.item) way.first ∙ begun_next ring way.items p.item)
            (Appends-trans held holds then (begun_text ring way.items) (basis_piece ring is_first p.item) way.gained
            (subst (Appends holds then) p.is_piece gained));
      }
        where
          none : (ts : List (List ℕ)) → false ≡ is_none_of (ts ++ p.item ∷ [])
          none [] = refl
          none (t ∷ ts) = refl

      -- there is no room for it
      pub stopped_limit : (n m : ℕ) (r : Refusal) → IsFull room r → IsListStoppedBehind before o ring j fs held holds n m r
      stopped_limit n m r f = at (room_full o.limit room way.written r way.fits f)
        where
          at : IsAtLimit o.limit way.written r → IsListStoppedBehind before o ring j fs held holds n m r
          at l = subst (λ z. IsListStoppedBehind before o ring j fs held holds n m z) (sym l.told)
              (stands (refusals.ListLimit l.most) (IsStoppedAt.at_limit l.most b next.0 next.1 l.is_limit l.just refl))

      -- its piece isn't made: there is no memory, or its certificates are refused
      stopped_unmade : (after : Room) (n m : ℕ) (r : Refusal) → IsOneLess room after → IsItemRefusalIn o.certified j b r →
          IsListStoppedBehind before o ring j fs held holds n m r
      stopped_unmade after n m r less h = at o.certified r refl h
        where
          told : (e : WeightError) → IsStoppedAt o (length ring) j fs way.written way.rest (of_weight_error e) →
              IsListStoppedBehind before o ring j fs held holds n m (of_weight_error e)
          told (weight_errors.Cone x) c = stands (of_weight_error (weight_errors.Cone x)) c
          told (weight_errors.Wide x) c = stands (of_weight_error (weight_errors.Wide x)) c
          told weight_errors.Memory c = stands (of_weight_error weight_errors.Memory) c

          at : (k : Bool) (r : Refusal) → o.certified ≡ k → IsItemRefusalIn k j b r → IsListStoppedBehind before o ring j fs held holds n m r
          at false r e q = subst (IsListStoppedBehind before o ring j fs held holds n m) (sym q) (stands refusals.Memory (IsStoppedAt.no_memory refl))
          at true r e (w, u, q) = subst (IsListStoppedBehind before o ring j fs held holds n m) (sym q) (told w (IsStoppedAt.at_certificates b next.0 next.1 e
              (room_within o.limit after (way.written ++ b ∷ []) (room_next o.limit room after way.written b way.fits less)) (w, u, refl)))

      -- what stands for the bases behind it
      later : (ts : List (List ℕ)) × AreItemTextsIn o.certified ring j next.0 ts
      later = items_exist o.certified (length ring) ring j fs next.0
          (λ x k. all_next.only x (among_right before (way.written ++ b ∷ next.0) x (among_right way.written (b ∷ next.0) x (inr k))))

      -- a prefix of it is written: of the text of the whole list, where that isn't longer than the limit
      cut_whole : (then : Option (List ℕ)) (t : List ℕ) → IsItemTextIn o.certified ring j b t →
          AppendsPrefix holds then (basis_piece ring (is_none_of way.items) t) → IsWithinLimit o.limit (way.written ++ b ∷ next.0) →
          (text : List ℕ) × IsFullTextBehind before o ring j fs text × AppendsPrefix held then text
      cut_whole then t i p few = (
        list_text ring (way.items ++ t ∷ later.0),
        IsFullTextBehind.to_its_end (record {
          list = way.written ++ b ∷ next.0;
          are_all = all_next;
          few = few;
          items = way.items ++ t ∷ later.0;
          are_items = more_items t next.0 later.0 i later.1;
          is_text = refl;
        }),
        prefix_piece ring way.items later.0 t held holds then way.gained p,
      )

      -- or of its beginning with as many bases as the limit lets through
      cut_limited : (then : Option (List ℕ)) (t : List ℕ) (most k : ℕ) → IsItemTextIn o.certified ring j b t →
          AppendsPrefix holds then (basis_piece ring (is_none_of way.items) t) → o.limit ≡ Some most → length way.written + suc k ≡ most →
          IsCutBehind next.0 k → (text : List ℕ) × IsFullTextBehind before o ring j fs text × AppendsPrefix held then text
      cut_limited then t most k i p is_limit room c = (
        begun_text ring (way.items ++ t ∷ behind.0),
        IsFullTextBehind.to_the_limit most (record {
          is_limit = is_limit;
          written = way.written ++ b ∷ c.front;
          next = c.next;
          rest = c.rest;
          begun = record {
            are_all = subst (λ l. AreAllBasesIn (length ring) j fs (before ++ l)) (ap (λ l. way.written ++ b ∷ l) c.whole ∙
                sym (append_assoc way.written (b ∷ c.front) (c.next ∷ c.rest))) all_next;
            items = way.items ++ t ∷ behind.0;
            are_items = more_items t c.front behind.0 i behind.1;
            is_text = refl;
          };
          just = omega (arith, room, c.just, length-append way.written (b ∷ c.front));
        }),
        prefix_begun ring way.items behind.0 t held holds then way.gained p,
      )
        where
          behind : (ts : List (List ℕ)) × AreItemTextsIn o.certified ring j c.front ts
          behind = items_exist o.certified (length ring) ring j fs c.front
              (λ x k. all_next.only x (among_right before (way.written ++ b ∷ next.0) x
              (among_right way.written (b ∷ next.0) x (inr (subst (λ l. Among l x) (sym c.whole) (among_left c.front (c.next ∷ c.rest) x k))))))

      cut_prefix : (after : Room) (then : Option (List ℕ)) (t : List ℕ) → IsOneLess room after → IsItemTextIn o.certified ring j b t →
          AppendsPrefix holds then (basis_piece ring (is_none_of way.items) t) → (text : List ℕ) × IsFullTextBehind before o ring j fs text ×
          AppendsPrefix held then text
      cut_prefix after then t less i p = at o.limit refl room after way.fits less
        where
          at : (limit : Option ℕ) → o.limit ≡ limit → (room after : Room) → HasRoomFor limit room way.written → IsOneLess room after →
              (text : List ℕ) × IsFullTextBehind before o ring j fs text × AppendsPrefix held then text
          at None e room after h l = cut_whole then t i p (subst (λ x. IsWithinLimit x (way.written ++ b ∷ next.0)) (sym e) tt)
          at (Some most) e Endless after h l = absurd h
          at (Some most) e (Limited limit left) Endless h l = absurd l
          at (Some most) e (Limited limit left) (Limited same k) h l = elim (cases_lt k (length next.0)) [
            | inl more ↦ cut_limited then t most k i p e (omega (arith, h.1, l.1)) (cut_behind next.0 k more)
            | inr few ↦ cut_whole then t i p (subst (λ x. IsWithinLimit x (way.written ++ b ∷ next.0)) (sym e)
                (omega (arith, few, h.1, l.1, length-append way.written (b ∷ next.0))))
          ]

      -- its piece isn't made, or isn't written whole
      pub stopped_piece : (after : Room) (then : Option (List ℕ)) (n m : ℕ) (r : Refusal) → IsOneLess room after →
          IsBasisUnwritten o.certified ring j is_first b holds then n m r → IsListStoppedBehind before o ring j fs held then n m r
      stopped_piece after then n m r less (IsBasisUnwritten.unmade same calm h) =
          subst (λ z. IsListStoppedBehind before o ring j fs held z n m r) (sym same) (stopped_unmade after n m r less h)
      stopped_piece after then n m r less (IsBasisUnwritten.cut piece p u) = at r u
        where
          at : (r : Refusal) → IsUnwritten holds then n m piece r → IsListStoppedBehind before o ring j fs held then n m r
          at refusals.WriteFault u = (
            u.0,
            cut_prefix after then p.item less p.is_item (subst (λ f. AppendsPrefix holds then (basis_piece ring f p.item))
                way.first (subst (AppendsPrefix holds then) p.is_piece u.1)),
          )
          at refusals.Memory u = stands_kept then u.0
          at _ u = absurd u

    -- the next basis is refused
    pub stopped_tree : (n m : ℕ) (e : TreeError) → ((nodes : List MarkedPolynomials) → AreLeftIn row nodes → IsRefusedEarly (ideal_in row) row.pairs nodes e) →
        IsListStoppedBehind before o ring j fs held holds n m (of_tree e)
    stopped_tree n m e h = at e (IsStoppedAt.in_tree e (early_here e h) refl)
      where
        at : (e : TreeError) → IsStoppedAt o (length ring) j fs way.written way.rest (of_tree e) →
            IsListStoppedBehind before o ring j fs held holds n m (of_tree e)
        at (tree_errors.Overflow x) c = stands (of_tree (tree_errors.Overflow x)) c
        at (tree_errors.Exponent x) c = stands (of_tree (tree_errors.Exponent x)) c
        at (tree_errors.PairBudget basis unsettled) c = stands (of_tree (tree_errors.PairBudget basis unsettled)) c
        at (tree_errors.Cone x) c = stands (of_tree (tree_errors.Cone x)) c
        at tree_errors.Memory c = stands (of_tree tree_errors.Memory) c

    -- nothing is left: all bases are written
    module _ (new : Row) (end : IsRowEnd row new) where
      all_written : AreAllBasesIn (length ring) j fs (before ++ way.written)
      all_written = subst (λ l. AreAllBasesIn (length ring) j fs (before ++ l)) (ap (λ l. way.written ++ l) (end.none way.rest way.left) ∙
          append-nil way.written) way.are_all

      whole : list_text ring way.items ≡ begun_text ring way.items ++ end_piece ring is_first
      whole = at way.items ∙ ap (λ f. begun_text ring way.items ++ end_piece ring f) (sym way.first)
        where
          at : (ts : List (List ℕ)) → list_text ring ts ≡ begun_text ring ts ++ end_piece ring (is_none_of ts)
          at [] = refl
          at (t ∷ ts) = ap (λ l. list_text ring (t ∷ l)) (sym (append-nil ts)) ∙ whole_begun ring t ts []

      pub ends : (then : Option (List ℕ)) → Appends holds then (end_piece ring is_first) → IsListWrittenBehind before o ring j fs held then
      ends then closing = (
        list_text ring way.items,
        record {
          list = way.written;
          are_all = all_written;
          few = room_within o.limit room way.written way.fits;
          items = way.items;
          are_items = way.are_items;
          is_text = refl;
        },
        subst (Appends held then) (sym whole) (Appends-trans held holds then (begun_text ring way.items) (end_piece ring is_first) way.gained closing),
      )

      -- its end isn't written whole
      pub stopped_end : (then : Option (List ℕ)) (n m : ℕ) (r : Refusal) → IsUnwritten holds then n m (end_piece ring is_first) r →
          IsListStoppedBehind before o ring j fs held then n m r
      stopped_end then n m refusals.WriteFault u = (
        u.0,
        (
          list_text ring way.items,
          IsFullTextBehind.to_its_end (record {
            list = way.written;
            are_all = all_written;
            few = room_within o.limit room way.written way.fits;
            items = way.items;
            are_items = way.are_items;
            is_text = refl;
          }),
          prefix_on held holds then (begun_text ring way.items) (end_piece ring is_first) [] (list_text ring way.items) way.gained u.1
              (whole ∙ sym (append-nil (begun_text ring way.items ++ end_piece ring is_first))),
        ),
      )
      stopped_end then n m refusals.Memory u = stands_kept then u.0
      stopped_end then n m _ u = absurd u

      -- the piece isn't made
      pub stopped_unended : (n m : ℕ) (r : Refusal) → r ≡ refusals.Memory → IsListStoppedBehind before o ring j fs held holds n m r
      stopped_unended n m r e =
          subst (λ z. IsListStoppedBehind before o ring j fs held holds n m z) (sym e) (stands refusals.Memory (IsStoppedAt.no_memory refl))

-- ---- where a row goes on

-- below its root a list is behind none
pub first_goes_on : (n : ℕ) (k : Region) (fs : List Terms) (budget : ℕ) (alloc : Global) (workers : ℕ) (root : MarkedPolynomials) → StartsIn n k fs root →
    GoesOnBehind [] n k fs budget (first_row alloc root k workers budget)
first_goes_on n k fs budget alloc workers root first = record {
  rest = finite.nodes;
  are_all = all_bases_in n k fs root finite.nodes first finite.leaves;
  left = start_leaves alloc root k workers budget mine finite.nodes finite.leaves;
  basis = first.node;
  pairs = refl;
  region = refl;
}
  where
    mine : IsNode k root
    mine = own k (ideal_within n fs k) root refl first.node

    finite : IsFinite IsBefore (IsParent k) root (count k root)
    finite = upward_finite k root mine

-- behind a basis it is behind those up to that
pub after_goes_on : (n : ℕ) (k : Region) (fs : List Terms) (budget : ℕ) (b root : MarkedPolynomials) (walk : Walk) (number : ℕ) (row : Row) →
    StartsIn n k fs root → IsNodeIn (ideal_within n fs k) b → IsResumed k b budget walk → IsResumedAs walk number row →
    (front : List MarkedPolynomials) × GoesOnBehind (front ++ b ∷ []) n k fs budget row
after_goes_on n k fs budget b root walk number row first node resumed row_is = (
  goes.0,
  record {
    rest = goes.1;
    are_all = subst (AreAllBasesIn n k fs) (goes.2 ∙ sym (append_assoc goes.0 (b ∷ []) goes.1)) (all_bases_in n k fs root finite.nodes first finite.leaves);
    left = row_is.list goes.1 goes.3;
    basis = subst (IsNodeIn (ideal_within n fs k)) (sym (row_is.start ∙ resumed.here)) node;
    pairs = row_is.pairs ∙ resumed.pairs;
    region = row_is.region ∙ resumed.region;
  },
)
  where
    mine : IsNode k root
    mine = own k (ideal_within n fs k) root refl first.node

    finite : IsFinite IsBefore (IsParent k) root (count k root)
    finite = upward_finite k root mine

    is_root : IsRootFor k b root
    is_root = record {
      basis = node_moved (ideal_within n fs k) (fan_of k b) root (own_fan (ideal_within n fs k) b node) first.node;
      own = mine;
      is_root = (bases_make_a_tree.root k root mine).1 (root_marks n k fs root first mine);
      by_root = root_marks n k fs root first mine;
    }

    goes : (front : List MarkedPolynomials) × (rest : List MarkedPolynomials) × (finite.nodes ≡ front ++ b ∷ rest) × AreLeft walk rest
    goes = resumed.goes_on root is_root finite.nodes finite.leaves

-- ---- lines without a ring, and faults

pub unnamed_write : (held holds : Option (List ℕ)) (n m : ℕ) (piece : List ℕ) (r : Refusal) → IsUnwritten held holds n m piece r → IsUnnamed (without_names r)
unnamed_write held holds n m piece refusals.WriteFault u = record { ring = refl; named = λ lent is. tt }
unnamed_write held holds n m piece refusals.Memory u = record { ring = refl; named = λ lent is. tt }
unnamed_write held holds n m piece _ u = absurd u

unnamed_item : (certified : Bool) (j : Region) (b : MarkedPolynomials) (r : Refusal) → IsItemRefusalIn certified j b r → IsUnnamed (without_names r)
unnamed_item false j b r e = subst (λ z. IsUnnamed (without_names z)) (sym e) (record { ring = refl; named = λ lent is. tt })
unnamed_item true j b r (e, h, q) = subst (λ z. IsUnnamed (without_names z)) (sym q) (unnamed_weight e)

pub unnamed_piece : (certified : Bool) (ring : List (List ℕ)) (j : Region) (is_first : Bool) (b : MarkedPolynomials) (held holds : Option (List ℕ)) (n m : ℕ)
    (r : Refusal) → IsBasisUnwritten certified ring j is_first b held holds n m r → IsUnnamed (without_names r)
unnamed_piece certified ring j is_first b held holds n m r (IsBasisUnwritten.unmade same calm h) = unnamed_item certified j b r h
unnamed_piece certified ring j is_first b held holds n m r (IsBasisUnwritten.cut piece p u) = unnamed_write held holds n m piece r u

-- no fault is counted but that of a write
pub unwritten_calm : (held holds : Option (List ℕ)) (n m k : ℕ) (piece : List ℕ) (r : Refusal) → IsUnwritten held holds n m piece r → n ≡ k →
    (r ≡ refusals.WriteFault → ⊥) → m ≡ k
unwritten_calm held holds n m k piece refusals.WriteFault u e never = absurd (never refl)
unwritten_calm held holds n m k piece refusals.Memory u e never = u.1 ∙ e
unwritten_calm held holds n m k piece _ u e never = absurd u

pub piece_calm : (certified : Bool) (ring : List (List ℕ)) (j : Region) (is_first : Bool) (b : MarkedPolynomials) (held holds : Option (List ℕ)) (n m k : ℕ)
    (r : Refusal) → IsBasisUnwritten certified ring j is_first b held holds n m r → n ≡ k → (r ≡ refusals.WriteFault → ⊥) → m ≡ k
piece_calm certified ring j is_first b held holds n m k r (IsBasisUnwritten.unmade same calm h) e never = calm ∙ e
piece_calm certified ring j is_first b held holds n m k r (IsBasisUnwritten.cut piece p u) e never = unwritten_calm held holds n m k piece r u e never

-- ---- generators

pub generators_in : (n : ℕ) (set : List Written) → AreIn n set → AreInVariables n (generators_of set)
generators_in n set v = ring_variables n (generators_of set) (in_ring n set (generators_of set) v refl)
