-- Parts of a list, each written behind the last basis of the one before, make up the list.
-- To cite: parts_are_joined.
use Rattle.std.specs.Prelude.{◌≡◌, List, [], ◌∷◌, ◌++◌, length}
use Rattle.std.proofs.Common.{refl, sym, ap, ◌∙◌, subst, append_assoc}
use Rattle.gf_poly.specs.Marking.{MarkedPolynomials}
use Rattle.gf_lists_theory.specs.BasesList.{AreAllBasesIn}
use Rattle.gf_lists_theory.proofs.OneListLaws.{one_list_in, behind_once}
use Rattle.gfan_lists.specs.Bases.{AreItemTextsIn}
use Rattle.gfan_lists.specs.Certificates.{IsItemTextIn}
use Rattle.gfan_lists.proofs.CertificateLaws.{AllZip-append}
use Rattle.gfan_theory.specs.Parts.{PartsAreJoined}

pub parts_are_joined : PartsAreJoined
parts_are_joined certified limit ring k fs early front before rest b text behind v r a t = (
  a.items,
  t.items,
  a.is_text,
  t.is_text,
  record {
    list = (front ++ b ∷ []) ++ rest;
    are_all = a.are_all;
    few = tt;
    items = a.items ++ t.items;
    are_items = AllZip-append (IsItemTextIn certified ring k) (front ++ b ∷ []) rest a.items t.items a.are_items
        (subst (λ l. AreItemTextsIn certified ring k l t.items) (sym same) t.are_items);
    is_text = refl;
  },
)
  where
    flat : early ++ ((front ++ b ∷ []) ++ rest) ≡ (early ++ front) ++ b ∷ rest
    flat = ap (λ l. early ++ l) (append_assoc front (b ∷ []) rest) ∙ sym (append_assoc early front (b ∷ rest))

    whole : AreAllBasesIn (length ring) k fs ((early ++ front) ++ b ∷ rest)
    whole = subst (AreAllBasesIn (length ring) k fs) flat a.are_all

    other : AreAllBasesIn (length ring) k fs (before ++ b ∷ t.list)
    other = subst (AreAllBasesIn (length ring) k fs) (append_assoc before (b ∷ []) t.list) t.are_all

    same : rest ≡ t.list
    same = behind_once (early ++ front) before rest t.list b whole.once (one_list_in (length ring) k fs ((early ++ front) ++ b ∷ rest) (before ++ b ∷ t.list) v
        r whole other)
