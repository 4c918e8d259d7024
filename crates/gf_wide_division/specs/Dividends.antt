-- A polynomial under reduction with wide coefficients, as `gf_division` sees one: all of its terms, with the index above them; and
-- what is taken from one of its terms.
-- Laws: proofs/DividendLaws.antt.
use Rattle.std.specs.Prelude.{◌≡◌, ℕ, [], take, drop}
use Rattle.gf_frac.specs.Fraction.{Fraction}
use Rattle.gf_poly.specs.Polynomial.{Terms}
use Rattle.gf_division.specs.Dividends.{Split, joined_terms, TakesFromFirst}
use Rattle.gf_wide_division.specs.declared.dividend.WideDividend.{WideDividend}
use Rattle.gf_wide_division.specs.Values.{value_terms}

-- all terms, below the index
abbrev pub uncut : Terms → Split
uncut f = record { above = []; below = f }

-- the index before the term at i
abbrev pub cut_at : ℕ → Terms → Split
cut_at i f = record { above = take i f; below = drop i f }

-- the polynomial
abbrev pub dividend_of : WideDividend → Split
dividend_of d = uncut (value_terms d.terms.items)

-- c is taken from the coefficient of the term at i of old; new has what is left
pub record TakesAt (c : Fraction) (i : ℕ) (old new : Terms) : Type 0 where
  pub left : Split
  pub taken : TakesFromFirst c (cut_at i old) left
  pub same : new ≡ joined_terms left
