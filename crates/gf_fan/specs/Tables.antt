-- What is known of cones before their pairs are looked at.
use Rattle.std.specs.Prelude.{◌≡◌, ℕ, List, ℤ, All, IsTrue}
use Rattle.gf_rays.specs.Cones.{RowsAndRays}
use Rattle.gf_fan.specs.declared.table.Table.{Table}
use Rattle.gf_fan.specs.Bits.{AreBitsOfFirst, AreBitsOfTwo}
use Rattle.gf_fan.specs.Words.{AreWordsOfFirst, AreWordsOfTwo}

-- all have one lineality basis
abbrev pub AreOfOneBasis : List RowsAndRays → Type 0
AreOfOneBasis cones = (lineality : List (List ℤ)) × All (λ (c : RowsAndRays). c.lineality ≡ lineality) cones

-- what is known of them
pub record IsTableOf (cones : List RowsAndRays) (t : Table) : Type 0 where
  pub one : IsTrue t.one → AreOfOneBasis cones
  pub bits : AreBitsOfFirst cones t.bits.items
  pub words : AreWordsOfFirst cones t.words.known.items t.words.cones.items

-- of two of them, at two indices
pub record IsTableOfTwo (c d : RowsAndRays) (t : Table) (i j : ℕ) : Type 0 where
  pub one : IsTrue t.one → c.lineality ≡ d.lineality
  pub bits : AreBitsOfTwo c d t.bits.items i j
  pub words : AreWordsOfTwo c d t.words.known.items t.words.cones.items i j
