-- The list of `_bases`: its text, what has been written of it when it is refused, and why it is refused.
use Rattle.std.specs.Prelude.{◌≡◌, ℕ, ◌<◌, ◌≤◌, Bool, true, List, [], ◌∷◌, ◌++◌, flat_map, length, Option, None, Some}
use Rattle.std.specs.List.{AllZip}
use Rattle.gf_exponents_theory.specs.SixOrders.{MonomialOrder}
use Rattle.gf_poly.specs.Polynomial.{Terms}
use Rattle.gf_poly.specs.Marking.{MarkedPolynomials}
use Rattle.gf_text.specs.RingText.{ring_text}
use Rattle.gf_buchberger.specs.declared.bases.BasisError.{BasisError}
use Rattle.gf_buchberger.specs.declared.queue.Strategy.TheVariants as strategies
use Rattle.gf_buchberger.specs.Ruled.{AreRuledRunsWithinLimits}
use Rattle.gf_buchberger.specs.Bases.{IsBasisRefusal, IsWantOfMemory}
use Rattle.gf_tree.specs.TreeError.{TreeError}
use Rattle.gf_facets_theory.specs.Regions.{Region}
use Rattle.gf_tree.specs.Ideals.{ideal_within}
use Rattle.gf_subtree.specs.Answers.{IsRefusedEarly}
use Rattle.gf_weights.specs.Refusals.{AreCertificatesFittingIn}
use Rattle.gf_front.specs.declared.refusal.Refusal.{Refusal}
use Rattle.gf_front.specs.declared.refusal.Refusal.TheVariants as refusals
use Rattle.gfan_lists.specs.declared.bases.ListOptions.{ListOptions}
use Rattle.gfan_common.specs.Causes.{of_basis, of_tree}
use Rattle.gf_lists_theory.specs.BasesList.{IsGivenIn, AreAllBasesIn}
use Rattle.gfan_lists.specs.Certificates.{IsItemTextIn, IsUncertifiedIn}

-- ---- the output

-- a line end, a comma, a line end, and the item of a basis
abbrev pub later_item_text : List ℕ → List ℕ
later_item_text t = 10 ∷ 44 ∷ 10 ∷ t

-- the items of bases, with a comma on a line of its own between them
abbrev pub items_text : List (List ℕ) → List ℕ
items_text [] = []
items_text (t ∷ ts) = t ++ flat_map later_item_text ts

-- the text of a list: the ring in a line, and the items in braces
abbrev pub list_text : List (List ℕ) → List (List ℕ) → List ℕ
list_text ring ts = ring_text ring ++ (123 ∷ (items_text ts ++ 125 ∷ 10 ∷ []))

-- the beginning of the text of a list, up to the last of these items; nothing if there are none
abbrev pub begun_text : List (List ℕ) → List (List ℕ) → List ℕ
begun_text ring [] = []
begun_text ring (t ∷ ts) = ring_text ring ++ 123 ∷ items_text (t ∷ ts)

-- the items of these bases in a region, with certificates or without
abbrev pub AreItemTextsIn : Bool → List (List ℕ) → Region → List MarkedPolynomials → List (List ℕ) → Type 0
AreItemTextsIn certified ring k bs ts = AllZip (IsItemTextIn certified ring k) bs ts

-- the list isn't longer than the limit, if there is one
abbrev pub IsWithinLimit : Option ℕ → List MarkedPolynomials → Type 0
IsWithinLimit None list = Unit {0}
IsWithinLimit (Some most) list = length list ≤ most

-- A list of all bases of an ideal in a region, or what follows some of its bases: these aren't written, and are the first argument.

-- the text is the ring in a line, and all bases of the ideal of fs in a region that follow these, with certificates or without; there are
-- no more than the limit
pub record IsTextBehind (before : List MarkedPolynomials) (certified : Bool) (limit : Option ℕ) (ring : List (List ℕ)) (k : Region) (fs : List Terms)
    (text : List ℕ) : Type 0 where
  pub list : List MarkedPolynomials
  pub are_all : AreAllBasesIn (length ring) k fs (before ++ list)
  pub few : IsWithinLimit limit list
  pub items : List (List ℕ)
  pub are_items : AreItemTextsIn certified ring k list items
  pub is_text : text ≡ list_text ring items

-- ---- the output before the list is refused

-- the text is the beginning of that text, up to the last of the bases that are written; the rest of the list follows them
pub record IsBegunListBehind (before : List MarkedPolynomials) (certified : Bool) (ring : List (List ℕ)) (k : Region) (fs : List Terms)
    (written rest : List MarkedPolynomials) (text : List ℕ) : Type 0 where
  pub are_all : AreAllBasesIn (length ring) k fs (before ++ (written ++ rest))
  pub items : List (List ℕ)
  pub are_items : AreItemTextsIn certified ring k written items
  pub is_text : text ≡ begun_text ring items

-- the text is the beginning of that text with exactly as many bases as the limit, and there is a further one in the list
pub record IsBegunToLimitBehind (before : List MarkedPolynomials) (o : ListOptions) (ring : List (List ℕ)) (k : Region) (fs : List Terms) (most : ℕ)
    (text : List ℕ) : Type 0 where
  pub is_limit : o.limit ≡ Some most
  pub written : List MarkedPolynomials
  pub next : MarkedPolynomials
  pub rest : List MarkedPolynomials
  pub begun : IsBegunListBehind before o.certified ring k fs written (next ∷ rest) text
  pub just : length written ≡ most

-- the text is all that is written if nothing stops the list: its text; or, if it continues after the limit, its beginning with exactly as
-- many bases as the limit
pub data IsFullTextBehind (before : List MarkedPolynomials) (o : ListOptions) (ring : List (List ℕ)) (k : Region) (fs : List Terms) (text : List ℕ) :
    Type 0 where
  to_its_end : IsTextBehind before o.certified o.limit ring k fs text → IsFullTextBehind before o ring k fs text
  to_the_limit : (most : ℕ) → IsBegunToLimitBehind before o ring k fs most text → IsFullTextBehind before o ring k fs text

-- ---- why it is refused

-- more bases than the limit follow these
pub record IsPastLimitBehind (before : List MarkedPolynomials) (limit : Option ℕ) (n : ℕ) (k : Region) (fs : List Terms) (most : ℕ) : Type 0 where
  pub is_limit : limit ≡ Some most
  pub list : List MarkedPolynomials
  pub are_all : AreAllBasesIn n k fs (before ++ list)
  pub longer : most < length list

-- a call of the search is refused at one of the bases that follow these, up to the limit, or at the next one
pub record IsSearchRefusedBehind (before : List MarkedPolynomials) (o : ListOptions) (n : ℕ) (k : Region) (fs : List Terms) (e : TreeError) : Type 0 where
  pub written : List MarkedPolynomials
  pub rest : List MarkedPolynomials
  pub are_all : AreAllBasesIn n k fs (before ++ (written ++ rest))
  pub few : IsWithinLimit o.limit written
  pub early : IsRefusedEarly (ideal_within n fs k) o.pairs rest e

-- there are certificates, and those of one of the bases that follow these, up to the limit, are refused
pub record AreCertificatesRefusedBehind (before : List MarkedPolynomials) (o : ListOptions) (n : ℕ) (k : Region) (fs : List Terms) (r : Refusal) : Type 0 where
  pub certified : o.certified ≡ true
  pub written : List MarkedPolynomials
  pub basis : MarkedPolynomials
  pub rest : List MarkedPolynomials
  pub are_all : AreAllBasesIn n k fs (before ++ (written ++ basis ∷ rest))
  pub few : IsWithinLimit o.limit (written ++ basis ∷ [])
  pub uncertified : IsUncertifiedIn k basis r

-- a call of the search is refused at a basis up to the limit or at the next one; or the list continues after its limit; or, if there are
-- certificates, those of a basis up to the limit are refused
pub data IsGoingCauseBehind (before : List MarkedPolynomials) (o : ListOptions) (n : ℕ) (k : Region) (fs : List Terms) (r : Refusal) : Type 0 where
  in_tree : (e : TreeError) → IsSearchRefusedBehind before o n k fs e → r ≡ of_tree e → IsGoingCauseBehind before o n k fs r
  at_limit : (most : ℕ) → IsPastLimitBehind before o.limit n k fs most → r ≡ refusals.ListLimit most → IsGoingCauseBehind before o n k fs r
  at_certificates : AreCertificatesRefusedBehind before o n k fs r → IsGoingCauseBehind before o n k fs r

-- ---- what stands before a refusal

-- why the list is refused where these bases are written and the rest isn't: a call of the search is refused at a basis that is written or at
-- the first of the rest; or as many as the limit are written, and there is a further one; or, if there are certificates, those of the first
-- of the rest are refused, and the limit lets this basis through; or memory runs out
pub data IsStoppedAt (o : ListOptions) (n : ℕ) (k : Region) (fs : List Terms) (written rest : List MarkedPolynomials) (r : Refusal) : Type 0 where
  in_tree : (e : TreeError) → IsRefusedEarly (ideal_within n fs k) o.pairs rest e → r ≡ of_tree e → IsStoppedAt o n k fs written rest r
  at_limit : (most : ℕ) (next : MarkedPolynomials) (others : List MarkedPolynomials) → rest ≡ next ∷ others → o.limit ≡ Some most → length written ≡ most →
      r ≡ refusals.ListLimit most → IsStoppedAt o n k fs written rest r
  at_certificates : (next : MarkedPolynomials) (others : List MarkedPolynomials) → rest ≡ next ∷ others → o.certified ≡ true →
      IsWithinLimit o.limit (written ++ next ∷ []) → IsUncertifiedIn k next r → IsStoppedAt o n k fs written rest r
  no_memory : r ≡ refusals.Memory → IsStoppedAt o n k fs written rest r

-- The text is what stands when the list is refused with r: its beginning up to the last of the bases that are written, no more than the
-- limit. The list is refused exactly there: the same bases are written, and the same rest isn't, in the text and in the cause
pub record IsBegunWhereBehind (before : List MarkedPolynomials) (o : ListOptions) (ring : List (List ℕ)) (k : Region) (fs : List Terms)
    (text : List ℕ) (r : Refusal) : Type 0 where
  pub written : List MarkedPolynomials
  pub rest : List MarkedPolynomials
  pub begun : IsBegunListBehind before o.certified ring k fs written rest text
  pub few : IsWithinLimit o.limit written
  pub cause : IsStoppedAt o (length ring) k fs written rest r

-- ---- with the first basis

-- why the basis of fs by the order, at which a list starts, isn't there: the operands of an operation of a run of Buchberger's algorithm, which don't fit;
-- or a spent budget; or want of memory, and where the run by the rule of the program stays within its limits, that alone
pub record IsFirstRefusal (order : MonomialOrder) (n : ℕ) (fs : List Terms) (pairs : ℕ) (e : BasisError) : Type 0 where
  pub cause : IsBasisRefusal order n fs pairs e
  pub by_rule : AreRuledRunsWithinLimits strategies.Degree order fs pairs → IsWantOfMemory e

-- why the basis by deglex isn't computed
abbrev pub IsRootRefusal : ℕ → List Terms → ℕ → Refusal → Type 0
IsRootRefusal n fs pairs r = (e : BasisError) × IsFirstRefusal MonomialOrder.deglex n fs pairs e × (r ≡ of_basis e)

-- if there are certificates, no operation of those of a basis of the ideal in a region leaves its limits
abbrev pub AreCertifiedWithinIn : ListOptions → ℕ → Region → List Terms → Type 0
AreCertifiedWithinIn o n k fs = o.certified ≡ true → (b : MarkedPolynomials) → IsGivenIn n k fs b → AreCertificatesFittingIn b.variables k b.items
