-- A list that was cut and then continued. Laws: proofs/JoinedLaws.antt.
use Rattle.std.specs.Prelude.{◌≡◌, ◌≢◌, ℕ, List, [], ◌∷◌, ◌++◌, length, None, Some}
use Rattle.gf_poly.specs.Polynomial.{Terms}
use Rattle.gf_poly.specs.Marking.{MarkedPolynomials}
use Rattle.gf_text.specs.RingText.{ring_text}
use Rattle.gf_text.specs.PrintedSets.{basis_text}
use Rattle.gf_text.specs.WrittenText.{AreKept}
use Rattle.gf_facets_theory.specs.Regions.{Region}
use Rattle.gf_front.specs.declared.refusal.Refusal.{Refusal}
use Rattle.gf_frame.specs.Commands.{IsBegunFor}
use Rattle.gfan_lists.specs.declared.bases.ListOptions.{ListOptions}
use Rattle.gfan_lists.specs.Bases.{IsBegunListBehind, items_text}
use Rattle.gfan.specs.Commands.{command_of}
use Rattle.gfan_theory.specs.Answers.{NamedFile, Request, job_of, texts_of, IsBasesAnswer, IsSaid}

-- the text is what a run with this request has written for this input if it fails with this refusal
abbrev pub IsCutAnswer : Request → List ℕ → List ℕ → Refusal → Type 0
IsCutAnswer q input text refusal = IsBegunFor (command_of (job_of q)) (texts_of q.within q.after input) text refusal

-- the text ends with the text of the basis `last`
pub record EndsWith (q : Request) (input text : List ℕ) (ring : List (List ℕ)) (last : MarkedPolynomials) : Type 0 where
  pub ideal : List Terms
  pub region : Region
  pub early : List MarkedPolynomials
  pub said : IsSaid q input ring ideal region early
  pub front : List MarkedPolynomials
  pub rest : List MarkedPolynomials
  pub begun : IsBegunListBehind early q.options.certified ring region ideal (front ++ last ∷ []) rest text

-- the line of the ring, the basis as it is printed, and a line end
abbrev pub basis_file : List (List ℕ) → MarkedPolynomials → List ℕ
basis_file ring b = ring_text ring ++ (basis_text ring b.items ++ 10 ∷ [])

-- the same request after the basis of another file, or from the first basis on, with other options and another number of workers
abbrev pub continued : Request → NamedFile → ListOptions → ℕ → Request
continued q file options workers = record { from_basis = q.from_basis; within = q.within; after = Some file; options = options; workers = workers }

-- the same request without a limit
abbrev pub without_limit : Request → Request
without_limit q = record {
  from_basis = q.from_basis;
  within = q.within;
  after = q.after;
  options = record { limit = None; pairs = q.options.pairs; certified = q.options.certified };
  workers = q.workers;
}

-- what stands between two parts: a comma on a line of its own if the second part has a basis
abbrev pub between : List (List ℕ) → List ℕ
between [] = []
between (t ∷ ts) = 10 ∷ 44 ∷ 10 ∷ []

-- The two texts joined: the first, then, of the second, what follows the line of its ring and its opening brace, after a comma on a line of its own if
-- it has a basis.
pub record IsJoined (ring : List (List ℕ)) (text behind joined : List ℕ) : Type 0 where
  pub others : List (List ℕ)
  pub second : behind ≡ ring_text ring ++ (123 ∷ (items_text others ++ 125 ∷ 10 ∷ []))
  pub is_joined : joined ≡ text ++ (between others ++ (items_text others ++ 125 ∷ 10 ∷ []))

-- Where a run fails and has written something, that ends with the text of a basis. If the numbers of this basis are in the range of what is read, then
-- it is read again from its printed form; and if a run that continues after it, with certificates if and only if the first run had them, exits with
-- status 0, then the two texts, joined, are the answer of a run without a limit.
abbrev pub RunsAreJoined : Type 0
RunsAreJoined = (q : Request) (input text : List ℕ) (refusal : Refusal) → IsCutAnswer q input text refusal → text ≢ [] →
    (ring : List (List ℕ)) × (last : MarkedPolynomials) × EndsWith q input text ring last
    × ((file : NamedFile) (options : ListOptions) (workers : ℕ) (behind : List ℕ) → AreKept (length ring) last.items → file.bytes ≡ basis_file ring last →
    options.certified ≡ q.options.certified → IsBasesAnswer (continued q file options workers) input behind →
    (joined : List ℕ) × IsJoined ring text behind joined × IsBasesAnswer (without_limit q) input joined)
