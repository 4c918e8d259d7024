use Rattle.std.proofs.Common.{◌++◌, List, ℕ, refl, ap, ◌∙◌}
use Rattle.gf_poly.specs.Marking.{MarkedPolynomials}
use Rattle.gf_text.specs.RingText.{ring_text}
use Rattle.gf_basis_states.specs.Prompts.{prompt_text}
use Rattle.gfan_interactive.proofs.interactive.opening.Goals as goal

pub returns : goal.returns
returns c =
    let ring = c.args.ring.now in
    let start = c.args.start.now in
    let ns = c.crossable.result.now in
    let shown : List ℕ = prompt_text ring start.items ns 0 in
    record {
      prompt = shown;
      told = record { normals = ns; crossable = c.crossable.ensures; is_text = refl };
      is_text = c.in_ok-push_prompt.ensures ∙ ap (λ (z : MarkedPolynomials). c.ring.new.out.items ++ prompt_text ring z.items ns 0) c.basis.ensures
          ∙ ap (λ (t : List ℕ). t ++ shown) (c.in_ok-ring.ensures.ok ∙ ap (λ (t : List ℕ). t ++ ring_text ring) c.new-text.ensures.items);
    }
