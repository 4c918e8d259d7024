-- What is known of cones before their pairs are looked at, for two of them.
use Rattle.std.proofs.Common.{◌≡◌, ℕ, ◌<◌, List, length, get_or, sym, ◌∙◌, subst}
use Rattle.std.proofs.lemmas.List.Elements.{All-contains}
use Rattle.gf_rays.specs.Cones.{RowsAndRays}
use Rattle.gf_fan.specs.declared.table.Table.{Table}
use Rattle.gf_fan.specs.Bits.{AreBitsOfCone}
use Rattle.gf_fan.specs.Words.{AreWordsOfCone}
use Rattle.gf_fan.specs.Tables.{IsTableOf, IsTableOfTwo}

pub table_of_two : (cones : List RowsAndRays) (t : Table) (i j : ℕ) (c d : RowsAndRays) → IsTableOf cones t → i < length cones → j < length cones →
    c ≡ get_or cones i c → d ≡ get_or cones j d → IsTableOfTwo c d t i j
table_of_two cones t i j c d a hi hj ec ed = record {
  one = λ o.
      let w = a.one o in
      let lc : c.lineality ≡ w.0 = All-contains (λ (c : RowsAndRays). c.lineality ≡ w.0) cones c w.1 (i, hi, sym ec) in
      let ld : d.lineality ≡ w.0 = All-contains (λ (c : RowsAndRays). c.lineality ≡ w.0) cones d w.1 (j, hj, sym ed) in lc ∙ sym ld;
  bits = record {
    rays = a.bits.rays;
    first = λ s h. subst (λ z. AreBitsOfCone a.bits.rays z (get_or t.bits.items i s)) (sym ec) (a.bits.each i c s h);
    second = λ s h. subst (λ z. AreBitsOfCone a.bits.rays z (get_or t.bits.items j s)) (sym ed) (a.bits.each j d s h);
  };
  words = record {
    rays = a.words.rays;
    wide = a.words.wide;
    first = λ s h. subst (λ z. AreWordsOfCone a.words.rays t.words.known.items z (get_or t.words.cones.items i s)) (sym ec) (a.words.each i c s h);
    second = λ s h. subst (λ z. AreWordsOfCone a.words.rays t.words.known.items z (get_or t.words.cones.items j s)) (sym ed) (a.words.each j d s h);
  };
}
