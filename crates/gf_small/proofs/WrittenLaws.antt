-- Lists of polynomials that may be zero, made one after another.
use Rattle.std.specs.Prelude.{◌≡◌, ℕ, ◌<◌, List, [], ◌∷◌, ◌++◌, length, get_or}
use Rattle.std.proofs.Common.{subst, sym}
use Rattle.gf_text.specs.declared.written.Written.{Written}
use Rattle.gf_text.specs.Sets.{IsIn, AreIn}
use Rattle.gf_text.proofs.SetsLaws.{in_at}

pub AreIn-push : (n : ℕ) (fs : List Written) (f : Written) → AreIn n fs → IsIn n f → AreIn n (fs ++ f ∷ [])
AreIn-push n [] f h i = (i, tt)
AreIn-push n (g ∷ fs) f h i = (h.0, AreIn-push n fs f h.1 i)

-- what stands at an index
pub in_read : (n : ℕ) (fs : List Written) (i : ℕ) (f : Written) → AreIn n fs → i < length fs → f ≡ get_or fs i f → IsIn n f
in_read n fs i f h l e = subst (IsIn n) (sym e) (in_at n fs i f h l)
