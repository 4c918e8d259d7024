-- What commands read if each polynomial is written as a monomial or as the difference of two, without numbers.
-- Laws: proofs/PlainLaws.antt.
use Rattle.std.specs.Prelude.{ℕ, Bool, true, false, List, [], ◌∷◌, Option, None, Some}
use Rattle.gf_poly.specs.Marking.{Each}
use Rattle.gf_text.specs.declared.tree.WrittenTerm.{WrittenTerm}
use Rattle.gf_text.specs.Machine.{Reads}
use Rattle.gf_text.specs.Tokens.{lexemes, ring_more}
use Rattle.gf_text.specs.Rings.{IsRingRead}
use Rattle.gf_text.specs.SetText.{IsSetText}
use Rattle.gf_text.specs.ListText.{IsListText}
use Rattle.gfan_fans.specs.Written.{ArePlainlyWritten}
use Rattle.gf_front.specs.declared.command_line.Job.{Job}
use Rattle.gf_front.specs.declared.command_line.Job.TheVariants as jobs
use Rattle.gf_front.specs.declared.plain.PlainCommand.{PlainCommand}
use Rattle.gf_front.specs.declared.plain.PlainCommand.TheVariants as plains
use Rattle.gf_items.specs.Items.{from}

-- the source begins with the text of a ring and of a set in it, each of whose polynomials is written as a monomial or a difference of two,
-- without numbers
pub record BeginsPlainly (source : List ℕ) : Type 0 where
  pub ring : List (List ℕ)
  pub behind : ℕ
  pub is_ring : IsRingRead (from source 0) behind ring
  pub said : List (List WrittenTerm)
  pub place : ℕ
  pub is_set : Reads (IsSetText ring) (lexemes (ring_more ring) source behind) said place
  pub plain : ArePlainlyWritten said

-- there is only one text, and it is such a source
abbrev pub IsPlainSource : List (List ℕ) → Type 0
IsPlainSource [] = ⊥
IsPlainSource (source ∷ []) = BeginsPlainly source
IsPlainSource (source ∷ (other ∷ others)) = ⊥

-- the text after that of the region, if there is a region, is the only one, and it is such a source
abbrev pub IsPlainList : Option (List ℕ) → List (List ℕ) → Type 0
IsPlainList None texts = IsPlainSource texts
IsPlainList (Some name) [] = ⊥
IsPlainList (Some name) (file ∷ texts) = IsPlainSource texts

-- the first text, that of the basis after which a list continues, is such a source, and so is the only text that follows
abbrev pub ArePlainBehind : List (List ℕ) → Type 0
ArePlainBehind [] = ⊥
ArePlainBehind (after ∷ texts) = BeginsPlainly after × IsPlainSource texts

-- the texts after that of the region, if there is a region, are two such sources
abbrev pub IsPlainAfter : Option (List ℕ) → List (List ℕ) → Type 0
IsPlainAfter None texts = ArePlainBehind texts
IsPlainAfter (Some name) [] = ⊥
IsPlainAfter (Some name) (file ∷ texts) = ArePlainBehind texts

-- the texts of a list are such sources, apart from that of the region: the input, and the basis after which the list continues if there is
-- one
abbrev pub IsPlainFrom : Option (List ℕ) → Option (List ℕ) → List (List ℕ) → Type 0
IsPlainFrom None within texts = IsPlainList within texts
IsPlainFrom (Some after) within texts = IsPlainAfter within texts

-- ---- other commands

-- there is one text, and it is such
abbrev pub IsOneText : (List ℕ → Type 0) → List (List ℕ) → Type 0
IsOneText Is [] = ⊥
IsOneText Is (source ∷ []) = Is source
IsOneText Is (source ∷ (other ∷ others)) = ⊥

-- the source begins with the text of a ring and those of two sets, and each of their polynomials is written so
pub record BeginsWithTwoPlainly (source : List ℕ) : Type 0 where
  pub first : BeginsPlainly source
  pub more : List (List WrittenTerm)
  pub end : ℕ
  pub is_second : Reads (IsSetText first.ring) (lexemes (ring_more first.ring) source first.place) more end
  pub plain : ArePlainlyWritten more

-- the source begins with the text of a ring and that of a list of sets, and each of their polynomials is written so
pub record BeginsWithPlainSets (source : List ℕ) : Type 0 where
  pub ring : List (List ℕ)
  pub behind : ℕ
  pub is_ring : IsRingRead (from source 0) behind ring
  pub said : List (List (List WrittenTerm))
  pub place : ℕ
  pub are_sets : Reads (IsListText (IsSetText ring)) (lexemes (ring_more ring) source behind) said place
  pub plain : Each ArePlainlyWritten said

-- the text of a set, or with `listed` that of a list of sets
abbrev pub IsPlainToWeigh : (listed : Bool) → List (List ℕ) → Type 0
IsPlainToWeigh false texts = IsPlainSource texts
IsPlainToWeigh true texts = IsOneText BeginsWithPlainSets texts

-- the text of a set; vectors, which have no coefficients, may be any
abbrev pub IsPlainCone : (vector_input : Bool) → List (List ℕ) → Type 0
IsPlainCone false texts = IsPlainSource texts
IsPlainCone true texts = Unit {0}

-- the command asks about a marked set, or about such a set and another one
abbrev pub AsksOfBinomials : PlainCommand → List (List ℕ) → Type 0
AsksOfBinomials plains.IsMarkedGroebnerBasis texts = IsPlainSource texts
AsksOfBinomials plains.DoesIdealContain texts = IsOneText BeginsWithTwoPlainly texts
AsksOfBinomials _ texts = ⊥

-- ---- the jobs

-- the job is one of these commands on such texts: `_buchberger`; `_bases`, from generators or from a basis, and with `--after` from such a
-- basis on; `_saturation`; `_weightvector`; `_groebnercone`; `_tropicalintersection`, also with `--basistest`; `_ismarkedgroebnerbasis`;
-- `_doesidealcontain`; or it is `_generated`, whose generators are such
abbrev pub IsOnBinomials : Job → List (List ℕ) → Type 0
IsOnBinomials (jobs.Buchberger o) texts = IsPlainSource texts
IsOnBinomials (jobs.Bases o) texts = IsPlainFrom o.after o.within texts
IsOnBinomials (jobs.Generated o) texts = Unit {0}
IsOnBinomials (jobs.Saturation o) texts = IsPlainSource texts
IsOnBinomials (jobs.WeightVector o) texts = IsPlainToWeigh o.listed texts
IsOnBinomials (jobs.GroebnerCone o) texts = IsPlainCone o.vector_input texts
IsOnBinomials (jobs.TropicalIntersection o) texts = IsPlainSource texts
IsOnBinomials (jobs.Plain c) texts = AsksOfBinomials c texts
IsOnBinomials _ texts = ⊥
