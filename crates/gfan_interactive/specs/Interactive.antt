-- `_interactive`: its input, its session, and why it is cut off. The arguments are in this order: the input before and after, and the
-- output before and after.
use Rattle.std.specs.Prelude.{◌≡◌, ℕ, List, [], ◌∷◌, ◌++◌, length, Option}
use Rattle.std.specs.Io.KnownBytes.{Appends}
use Rattle.gf_poly.specs.Marking.{MarkedPolynomials, HaveVariables, polys}
use Rattle.gf_reduced.specs.declared.error.CheckError.{CheckError}
use Rattle.gf_reduced.specs.Refusals.{IsReducedRefusal}
use Rattle.gf_facets_theory.specs.Regions.{all_positive}
use Rattle.gf_tree.specs.TreeError.{TreeError}
use Rattle.gf_tree.specs.Ideals.{ideal_by}
use Rattle.gf_tree.specs.Refusals.{IsRefusedAtBasis, IsTreeWithinLimits}
use Rattle.gf_outside.specs.Faults.{Rose}
use Rattle.gf_outside.specs.Moved.{AppendsPrefix, TookAtMost}
use Rattle.gf_session.specs.declared.session.SessionError.{SessionError}
use Rattle.gf_session.specs.declared.session.SessionError.TheVariants as errors
use Rattle.gf_session.specs.Sessions.{Trail, IsEnded}
use Rattle.gf_session.specs.Endings.{IsCause, IsReadCalm, IsWithinInput}
use Rattle.gf_session.specs.Moves.{IsWriteCalm}
use Rattle.gf_basis_states.specs.BasisRules.{IsPrompt, IsStateRefusal, basis_rules}
use Rattle.gf_text.specs.RingText.{ring_text}
use Rattle.gf_front.specs.declared.refusal.Refusal.{Refusal}
use Rattle.gf_front.specs.declared.refusal.Refusal.TheVariants as refusals
use Rattle.gf_items.specs.Items.{IsTextOf}
use Rattle.gf_items.specs.Sources.{ring_marked_set}
use Rattle.gf_frame.specs.Seen.{InputSeen, OutputSeen}
use Rattle.gf_frame.specs.Loading.{Origin}
use Rattle.gf_frame.specs.Readings.{of_one}
use Rattle.gf_frame.specs.Commands.{Writing, Command, IsRefusedOn}
use Rattle.gfan_common.specs.Causes.{of_tree}
use Rattle.gfan_common.specs.CheckedSets.{of_check}
use Rattle.gfan_common.specs.ReducedSets.{IsReducedAsRead, IsCheckedWithin}

-- ---- where a session begins

-- the members of s are in its variables, and start is the reduced basis that s is, up to factors of its members and their order
pub record IsStart (s start : MarkedPolynomials) : Type 0 where
  pub variables : HaveVariables s.variables s.items
  pub read : IsReducedAsRead s start

-- the text is the ring in a line, and what is printed for the first basis
pub record IsOpening (ring : List (List ℕ)) (start : MarkedPolynomials) (text : List ℕ) : Type 0 where
  pub prompt : List ℕ
  pub told : IsPrompt ring start 0 prompt
  pub is_text : text ≡ ring_text ring ++ prompt

-- the set is refused as a reduced basis; or it is one, and a step of the system of a normal of the basis leaves its range; or memory runs
-- out
pub data IsUnopened (pairs : ℕ) (s : MarkedPolynomials) (r : Refusal) : Type 0 where
  at_set : (e : CheckError) → IsReducedRefusal 0 s e → r ≡ of_check e → IsUnopened pairs s r
  at_start : (start : MarkedPolynomials) (e : TreeError) → IsReducedAsRead s start → IsRefusedAtBasis (all_positive start.variables) pairs start e →
      r ≡ of_tree e → IsUnopened pairs s r
  no_memory : r ≡ refusals.Memory → IsUnopened pairs s r

-- ---- the session

-- the session that consists of its first basis
abbrev pub trail_from : MarkedPolynomials → Trail MarkedPolynomials
trail_from start = record { here = start; before = [] }

-- The opening was written, and the session from this basis ended: at the line `q` or at the end of the input, with the answers to all lines
-- that were read before. At most as many bytes were read as an input may have, and no fault was counted.
pub record IsSessionHeld (ring : List (List ℕ)) (start : MarkedPolynomials) (i j : InputSeen) (o k : OutputSeen) : Type 0 where
  pub text : List ℕ
  pub opening : IsOpening ring start text
  pub then : Option (List ℕ)
  pub opened : Appends o.held then text
  pub ended : IsEnded (basis_rules ring) (trail_from start) i.left j.left i.given j.given then k.held
  pub short : TookAtMost i.left j.left i.given j.given 67108864
  pub calm : j.faults ≡ i.faults

-- the refusal by which a session is cut off, as one of the run
abbrev pub of_session : SessionError TreeError → Refusal
of_session errors.ReadFault = refusals.ReadFault
of_session errors.InputTooLong = refusals.InputTooLong
of_session errors.WriteFault = refusals.WriteFault
of_session errors.Memory = refusals.Memory
of_session (errors.Refused e) = of_tree e

-- A write of the opening failed, a prefix of it was written, and no line was read. Or the opening was written, and the session was cut off,
-- with the answers to all lines before the last one; if a write failed, with a prefix of them.
pub data IsSessionCutOff (pairs : ℕ) (ring : List (List ℕ)) (start : MarkedPolynomials) (i j : InputSeen) (o k : OutputSeen) (r : Refusal) : Type 0 where
  in_opening : (text : List ℕ) → IsOpening ring start text → r ≡ refusals.WriteFault → Rose o.faults k.faults → AppendsPrefix o.held k.held text → j ≡ i →
      IsSessionCutOff pairs ring start i j o k r
  in_session : (text : List ℕ) (then : Option (List ℕ)) (e : SessionError TreeError) → IsOpening ring start text → Appends o.held then text →
      IsCause (basis_rules ring) (IsStateRefusal pairs) (trail_from start) i.left j.left i.given j.given then k.held i.faults j.faults o.faults k.faults e →
      IsWithinInput i.left j.left i.given j.given e → IsReadCalm i.faults j.faults e → IsWriteCalm o.faults k.faults e → r ≡ of_session e →
      IsSessionCutOff pairs ring start i j o k r

-- a session from the basis that the set is was held to its end
pub record IsHeldFrom (ring : List (List ℕ)) (s : MarkedPolynomials) (i j : InputSeen) (o k : OutputSeen) : Type 0 where
  pub start : MarkedPolynomials
  pub is_start : IsStart s start
  pub held : IsSessionHeld ring start i j o k

-- a session from the basis that the set is was cut off
pub record IsCutFrom (pairs : ℕ) (ring : List (List ℕ)) (s : MarkedPolynomials) (i j : InputSeen) (o k : OutputSeen) (r : Refusal) : Type 0 where
  pub start : MarkedPolynomials
  pub is_start : IsStart s start
  pub cut : IsSessionCutOff pairs ring start i j o k r

-- the set is a reduced basis, no operation of its checks leaves its limits, nor does one of the search over the bases of its ideal
pub record IsLedWithin (pairs n : ℕ) (s : MarkedPolynomials) : Type 0 where
  pub checked : IsCheckedWithin s
  pub same : s.variables ≡ n
  pub tree : IsTreeWithinLimits (ideal_by n (polys s.items)) pairs

-- ---- the command

-- the command `_interactive` on the file of this name
abbrev pub interactive_command : List ℕ → ℕ → Command
interactive_command name pairs = record {
  Value = List (List ℕ) × MarkedPolynomials;
  reads = Origin.a_file name ∷ [];
  reading = of_one ring_marked_set;
  checks = λ v. [];
  IsAnswer = λ v text. ⊥;
  IsCause = λ v r. IsUnopened pairs v.1 r;
  IsWithin = λ v. IsLedWithin pairs (length v.0) v.1;
  writing = Writing.in_turns (record {
    IsEnded = λ v i j o k. IsHeldFrom v.0 v.1 i j o k;
    IsCut = λ v i j o k r. IsCutFrom pairs v.0 v.1 i j o k r;
  });
}

-- ---- from the text of the file on

-- the input, by its parts
abbrev pub input_seen : Option (List ℕ) → ℕ → ℕ → InputSeen
input_seen left given faults = record { left = left; given = given; faults = faults }

-- the text is that of a ring and a set, and a session over it ended
pub record IsConversed (source : List ℕ) (i j : InputSeen) (o k : OutputSeen) : Type 0 where
  pub value : List (List ℕ) × MarkedPolynomials
  pub read : IsTextOf ring_marked_set source value
  pub held : IsHeldFrom value.0 value.1 i j o k
  pub calm : k.faults ≡ o.faults

-- the command is refused for the text, and neither the input nor the output has changed; or the session is cut off
pub data IsNotConversed (name : List ℕ) (pairs : ℕ) (source : List ℕ) (i j : InputSeen) (o k : OutputSeen) (r : Refusal) : Type 0 where
  on_text : IsRefusedOn (interactive_command name pairs) (source ∷ []) r → j ≡ i → k ≡ o → IsNotConversed name pairs source i j o k r
  in_turns : (v : List (List ℕ) × MarkedPolynomials) → IsTextOf ring_marked_set source v → IsCutFrom pairs v.0 v.1 i j o k r →
      IsNotConversed name pairs source i j o k r
