-- The jobs of `_bases`, what they read, and what an answer consists of. Laws: proofs/AnswerLaws.antt.
use Rattle.std.specs.Prelude.{◌≡◌, ℕ, Bool, List, [], ◌∷◌, ◌++◌, length, Option, None, Some, ℤ}
use Rattle.gf_poly.specs.Polynomial.{Terms}
use Rattle.gf_poly.specs.Marking.{MarkedPolynomials}
use Rattle.gf_ideal_theory.specs.Membership.{AreInVariables}
use Rattle.gf_facets_theory.specs.Regions.{Region, IsRegion, all_positive}
use Rattle.gf_weights.specs.Roots.{IsRegionOf}
use Rattle.gf_front.specs.declared.command_line.Job.{Job}
use Rattle.gf_front.specs.declared.command_line.Job.TheVariants as jobs
use Rattle.gf_items.specs.Items.{IsTextOf}
use Rattle.gf_items.specs.Sources.{vectors_alone, ring_marked_set}
use Rattle.gf_frame.specs.Commands.{IsAnswered}
use Rattle.gfan_lists.specs.declared.bases.ListOptions.{ListOptions}
use Rattle.gfan_lists.specs.Bases.{IsTextBehind}
use Rattle.gfan_lists.specs.After.{IsBasisTaken}
use Rattle.gfan_theory.specs.ListSources.{HasPolynomials}
use Rattle.gfan.specs.Commands.{command_of}

-- ---- jobs

-- a file: its name and its bytes
pub record NamedFile : Type 0 where
  pub name : List ℕ
  pub bytes : List ℕ

-- the name of a file, if one is given
abbrev pub name_of : Option NamedFile → Option (List ℕ)
name_of None = None
name_of (Some f) = Some f.name

-- its bytes
abbrev pub bytes_of : Option NamedFile → Option (List ℕ)
bytes_of None = None
bytes_of (Some f) = Some f.bytes

-- what a run of `_bases` is asked for: from a marked Gröbner basis (`-g`) or from generators; in the region of a file (`--within`) or for all positive weights;
-- after the basis of a file (`--after`) or from the first basis on; a limit, a budget of pairs, certificates; and a number of workers
pub record Request : Type 0 where
  pub from_basis : Bool
  pub within : Option NamedFile
  pub after : Option NamedFile
  pub options : ListOptions
  pub workers : ℕ

-- the job of this request
abbrev pub job_of : Request → Job
job_of q = jobs.Bases (record {
  from_basis = q.from_basis;
  limit = q.options.limit;
  pairs = q.options.pairs;
  certificates = q.options.certified;
  workers = q.workers;
  within = name_of q.within;
  after = name_of q.after;
})

-- the texts that it reads, in the order in which they are loaded: the file of the region, that of the basis, and the input
abbrev pub texts_of : Option NamedFile → Option NamedFile → List ℕ → List (List ℕ)
texts_of None None input = input ∷ []
texts_of (Some file) None input = file.bytes ∷ (input ∷ [])
texts_of None (Some basis) input = basis.bytes ∷ (input ∷ [])
texts_of (Some file) (Some basis) input = file.bytes ∷ (basis.bytes ∷ (input ∷ []))

-- the text is what a run with this request writes for this input when it exits with status 0
abbrev pub IsBasesAnswer : Request → List ℕ → List ℕ → Type 0
IsBasesAnswer q input text = IsAnswered (command_of (job_of q)) (texts_of q.within q.after input) text

-- ---- what the files say

-- the region in n variables: that of all positive weights, or that which the vectors of the file cut out
abbrev pub IsRegionSaid : Option NamedFile → ℕ → Region → Type 0
IsRegionSaid None n k = k ≡ all_positive n
IsRegionSaid (Some file) n k = (rows : List (List ℤ)) × IsTextOf vectors_alone file.bytes rows × IsRegionOf n rows k

-- the bases up to the one that the list continues after: none; or some, and last the one that the file says, in the same ring, made monic and arranged
abbrev pub AreBasesBefore : Option NamedFile → List (List ℕ) → Region → List MarkedPolynomials → Type 0
AreBasesBefore None ring k early = early ≡ []
AreBasesBefore (Some file) ring k early =
    (s : MarkedPolynomials) × (basis : MarkedPolynomials) × (front : List MarkedPolynomials) × IsTextOf ring_marked_set file.bytes
    (ring, s) × IsBasisTaken k s basis
    × (early ≡ front ++ basis ∷ [])

-- ---- what an answer is

-- the ring and the polynomials that the input says, the region, and the bases up to the one that the list continues after
pub record IsSaid (q : Request) (input : List ℕ) (ring : List (List ℕ)) (fs : List Terms) (k : Region) (early : List MarkedPolynomials) : Type 0 where
  pub read : HasPolynomials q.from_basis input ring fs
  pub inside : AreInVariables (length ring) fs
  pub region : IsRegionSaid q.within (length ring) k
  pub is_region : IsRegion (length ring) k
  pub before : AreBasesBefore q.after ring k early

-- the text is that of the list of all bases of the ideal in the region, but for those before it, which are no more than the limit
pub record IsListAnswer (q : Request) (input text : List ℕ) : Type 0 where
  pub ring : List (List ℕ)
  pub ideal : List Terms
  pub region : Region
  pub early : List MarkedPolynomials
  pub said : IsSaid q input ring ideal region early
  pub list : IsTextBehind early q.options.certified q.options.limit ring region ideal text

-- so it is with each answer
abbrev pub AnswersAreLists : Type 0
AnswersAreLists = (q : Request) (input text : List ℕ) → IsBasesAnswer q input text → IsListAnswer q input text
