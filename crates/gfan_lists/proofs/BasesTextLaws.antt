-- Pieces that follow one another are the text of the list.
-- To cite: begun_next, piece_more, whole_begun, prefix_on, prefix_piece, prefix_begun. The rest are steps.
use Rattle.std.specs.Prelude.{◌≡◌, ℕ, ◌+◌, ◌≤◌, Bool, true, false, List, [], ◌∷◌, ◌++◌, flat_map, length, take, Option}
use Rattle.std.specs.Io.KnownBytes.{Appends}
use Rattle.std.proofs.Common.{arith, refl, sym, ap, ◌∙◌, subst, append_assoc, append-nil, length-append}
use Rattle.std.proofs.KnownBytes.{Appends-trans}
use Rattle.std.proofs.Math.Seq.{take-append-add}
use Rattle.std.proofs.lemmas.List.{take-append-le, flat_map_more}
use Rattle.std.proofs.lemmas.Grind.{flat_map-append}
use Rattle.gf_outside.specs.Moved.{AppendsPrefix}
use Rattle.gf_text.specs.RingText.{ring_text}
use Rattle.gfan_lists.specs.Bases.{later_item_text, items_text, list_text, begun_text}
use Rattle.gfan_lists.specs.BasesWriting.{basis_piece, is_none_of}

-- ---- the text

-- what is written, and the piece of one more
pub begun_next : (ring items : List (List ℕ)) (t : List ℕ) →
    begun_text ring items ++ basis_piece ring (is_none_of items) t ≡ begun_text ring (items ++ t ∷ [])
begun_next ring [] t = ap (λ l. ring_text ring ++ 123 ∷ l) (sym (append-nil t))
begun_next ring (s ∷ ss) t =
    append_assoc (ring_text ring) (123 ∷ items_text (s ∷ ss)) (later_item_text t)
    ∙ ap (λ l. ring_text ring ++ 123 ∷ l) (flat_map_more later_item_text s ss t)

-- what is added to a piece is added to what stands for its basis
pub piece_more : (ring : List (List ℕ)) (is_first : Bool) (t u : List ℕ) → basis_piece ring is_first t ++ u ≡ basis_piece ring is_first (t ++ u)
piece_more ring true t u = append_assoc (ring_text ring) (123 ∷ t) u
piece_more ring false t u = refl

-- what comes after what is written
abbrev ending : List (List ℕ) → List ℕ
ending rest = flat_map later_item_text rest ++ 125 ∷ 10 ∷ []

pub whole_begun : (ring : List (List ℕ)) (t : List ℕ) (ts rest : List (List ℕ)) →
    list_text ring (t ∷ (ts ++ rest)) ≡ begun_text ring (t ∷ ts) ++ (flat_map later_item_text rest ++ 125 ∷ 10 ∷ [])
whole_begun ring t ts rest =
    ap (λ l. ring_text ring ++ (123 ∷ (t ++ l) ++ 125 ∷ 10 ∷ [])) (flat_map-append later_item_text ts rest)
    ∙ regroup (ring_text ring) t (flat_map later_item_text ts) (flat_map later_item_text rest) (125 ∷ 10 ∷ [])
  where
    regroup : (h i f g c : List ℕ) → h ++ (123 ∷ (i ++ (f ++ g)) ++ c) ≡ (h ++ 123 ∷ (i ++ f)) ++ (g ++ c)
    regroup h i f g c = simp append_assoc

-- ---- prefixes

-- what is added, and then a prefix of more, is a prefix of both and whatever follows
pub prefix_on : (a b c : Option (List ℕ)) (xs ys zs whole : List ℕ) → Appends a b xs → AppendsPrefix b c ys → whole ≡ (xs ++ ys) ++ zs → AppendsPrefix a c whole
prefix_on a b c xs ys zs whole p q e = (
  length xs + q.0,
  omega (arith, ap length e, length-append (xs ++ ys) zs, length-append xs ys, q.1),
  subst (Appends a c) (sym cut) (Appends-trans a b c xs (take q.0 ys) p q.2),
)
  where
    cut : take (length xs + q.0) whole ≡ xs ++ take q.0 ys
    cut =
        let fits : length xs + q.0 ≤ length (xs ++ ys) = omega (arith, length-append xs ys, q.1) in
        ap (take (length xs + q.0)) e ∙ take-append-le (length xs + q.0) (xs ++ ys) zs fits ∙ take-append-add xs ys q.0

-- a prefix of the piece of one more is a prefix of the whole text
pub prefix_piece : (ring items rest : List (List ℕ)) (t : List ℕ) (u v w : Option (List ℕ)) → Appends u v (begun_text ring items) →
    AppendsPrefix v w (basis_piece ring (is_none_of items) t) → AppendsPrefix u w (list_text ring (items ++ t ∷ rest))
prefix_piece ring items rest t u v w p q = prefix_on u v w (begun_text ring items) (basis_piece ring (is_none_of items) t) (ending rest)
    (list_text ring (items ++ t ∷ rest)) p q (whole items)
  where
    whole : (ss : List (List ℕ)) → list_text ring (ss ++ t ∷ rest) ≡ (begun_text ring ss ++ basis_piece ring (is_none_of ss) t) ++ ending rest
    whole [] = whole_begun ring t [] rest ∙ ap (λ l. l ++ ending rest) (sym (begun_next ring [] t))
    whole (s ∷ ss) =
        ap (λ l. list_text ring (s ∷ l)) (sym (append_assoc ss (t ∷ []) rest))
        ∙ whole_begun ring s (ss ++ t ∷ []) rest
        ∙ ap (λ l. l ++ ending rest) (sym (begun_next ring (s ∷ ss) t))

-- ---- prefixes of a beginning

begun_more : (ring : List (List ℕ)) (t : List ℕ) (ts rest : List (List ℕ)) →
    begun_text ring (t ∷ (ts ++ rest)) ≡ begun_text ring (t ∷ ts) ++ flat_map later_item_text rest
begun_more ring t ts rest =
    ap (λ l. ring_text ring ++ 123 ∷ (t ++ l)) (flat_map-append later_item_text ts rest)
    ∙ regroup (ring_text ring) t (flat_map later_item_text ts) (flat_map later_item_text rest)
  where
    regroup : (h i f g : List ℕ) → h ++ 123 ∷ (i ++ (f ++ g)) ≡ (h ++ 123 ∷ (i ++ f)) ++ g
    regroup h i f g = simp append_assoc

-- a prefix of the piece of one more is a prefix of what stands once others are written behind it
pub prefix_begun : (ring items rest : List (List ℕ)) (t : List ℕ) (u v w : Option (List ℕ)) → Appends u v (begun_text ring items) →
    AppendsPrefix v w (basis_piece ring (is_none_of items) t) → AppendsPrefix u w (begun_text ring (items ++ t ∷ rest))
prefix_begun ring items rest t u v w p q = prefix_on u v w (begun_text ring items) (basis_piece ring (is_none_of items) t) (flat_map later_item_text rest)
    (begun_text ring (items ++ t ∷ rest)) p q (whole items)
  where
    whole : (ss : List (List ℕ)) → begun_text ring (ss ++ t ∷ rest) ≡ (begun_text ring ss ++ basis_piece ring (is_none_of ss) t) ++
        flat_map later_item_text rest
    whole [] = begun_more ring t [] rest ∙ ap (λ l. l ++ flat_map later_item_text rest) (sym (begun_next ring [] t))
    whole (s ∷ ss) =
        ap (λ l. begun_text ring (s ∷ l)) (sym (append_assoc ss (t ∷ []) rest))
        ∙ begun_more ring s (ss ++ t ∷ []) rest
        ∙ ap (λ l. l ++ flat_map later_item_text rest) (sym (begun_next ring (s ∷ ss) t))
