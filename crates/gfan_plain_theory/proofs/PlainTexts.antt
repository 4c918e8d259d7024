-- Texts in which each polynomial is written as a difference of two monomials, without numbers: one set, two sets, a list of sets.
-- To cite: one_set_plainly, two_sets_plainly, listed_sets_plainly. The rest are steps.
use Rattle.std.specs.Prelude.{ℕ, Bool, true, false, List, [], ◌∷◌}
use Rattle.std.proofs.Common.{arith, refl, inl, inr}
use Rattle.gf_text.specs.declared.tree.WrittenTerm.{WrittenTerm}
use Rattle.gf_text.specs.Machine.{Reads}
use Rattle.gf_text.specs.Tokens.{lexemes, ring_more, lex_tokens}
use Rattle.gf_text.specs.Rings.{IsRingRead}
use Rattle.gf_text.specs.SetText.{IsSetText}
use Rattle.gf_text.specs.ListText.{IsListText}
use Rattle.gfan_fans.specs.Written.{ArePlainlyWritten}
use Rattle.gf_items.specs.Items.{from}
use Rattle.gfan_plain_theory.specs.PlainInputs.{BeginsPlainly, BeginsWithTwoPlainly, BeginsWithPlainSets}

-- ---- the ring and the set

abbrev two_names : List (List ℕ)
two_names = (97 ∷ []) ∷ (98 ∷ []) ∷ []

abbrev term_of : Bool → ℕ → WrittenTerm
term_of minus variable = record { minus = minus; numer = 1; denom = 1; factors = record { variable = variable; exponent = 1 } ∷ [] }

-- a-b
abbrev one_difference : List (List WrittenTerm)
one_difference = (term_of false 0 ∷ term_of true 1 ∷ []) ∷ []

its_text : IsSetText two_names ((123 ∷ []) ∷ (97 ∷ []) ∷ (45 ∷ []) ∷ (98 ∷ []) ∷ (125 ∷ []) ∷ []) one_difference
its_text = (
  (97 ∷ []) ∷ (45 ∷ []) ∷ (98 ∷ []) ∷ [],
  [],
  refl,
  (
    [],
    (97 ∷ []) ∷ [],
    (45 ∷ []) ∷ (98 ∷ []) ∷ [],
    refl,
    inr (refl, refl),
    inr (refl, refl, ((97 ∷ []) ∷ [], [], refl, (97 ∷ [], refl, inl (refl, refl)), refl)),
    ((98 ∷ []) ∷ [], [], refl, inr (refl, refl, ((98 ∷ []) ∷ [], [], refl, (98 ∷ [], refl, inl (refl, refl)), refl)), refl),
  ),
  refl,
)

its_terms : ArePlainlyWritten one_difference
its_terms = ((record { numerator = refl; denominator = refl }, record { numerator = refl; denominator = refl }, λ e. cc), tt)

-- ---- one set

-- Q[a,b]{a-b}
abbrev one_set : List ℕ
one_set = 81 ∷ 91 ∷ 97 ∷ 44 ∷ 98 ∷ 93 ∷ 123 ∷ 97 ∷ 45 ∷ 98 ∷ 125 ∷ []

ring_of_one : IsRingRead (from one_set 0) 6 two_names
unfolding lex_tokens
ring_of_one = record {
  text = record {
    front = record { text = 81 ∷ []; at = 0 } ∷ record { text = 91 ∷ []; at = 1 } ∷ record { text = 97 ∷ []; at = 2 } ∷
        record { text = 44 ∷ []; at = 3 } ∷ record { text = 98 ∷ []; at = 4 } ∷ record { text = 93 ∷ []; at = 5 } ∷ [];
    back = record { text = 123 ∷ []; at = 6 } ∷ record { text = 97 ∷ []; at = 7 } ∷ record { text = 45 ∷ []; at = 8 } ∷
        record { text = 98 ∷ []; at = 9 } ∷ record { text = 125 ∷ []; at = 10 } ∷ [];
    whole = refl;
    text = record { tokens = refl; some = omega arith; different = (refl, refl, (refl, refl, tt)) };
    end = refl;
  };
  ring = record { some = omega arith; few = omega arith; different = (refl, refl, (refl, refl, tt)) };
}

set_of_one : Reads (IsSetText two_names) (lexemes (ring_more two_names) one_set 6) one_difference 11
unfolding lex_tokens
set_of_one = record {
  front = record { text = 123 ∷ []; at = 6 } ∷ record { text = 97 ∷ []; at = 7 } ∷ record { text = 45 ∷ []; at = 8 } ∷
      record { text = 98 ∷ []; at = 9 } ∷ record { text = 125 ∷ []; at = 10 } ∷ [];
  back = [];
  whole = refl;
  text = its_text;
  end = refl;
}

pub one_set_plainly : BeginsPlainly one_set
one_set_plainly = record { ring = two_names; behind = 6; is_ring = ring_of_one; said = one_difference; place = 11; is_set = set_of_one; plain = its_terms }

-- ---- two sets

-- Q[a,b]{a-b}{a-b}
abbrev two_sets : List ℕ
two_sets = 81 ∷ 91 ∷ 97 ∷ 44 ∷ 98 ∷ 93 ∷ 123 ∷ 97 ∷ 45 ∷ 98 ∷ 125 ∷ 123 ∷ 97 ∷ 45 ∷ 98 ∷ 125 ∷ []

ring_of_two : IsRingRead (from two_sets 0) 6 two_names
unfolding lex_tokens
ring_of_two = record {
  text = record {
    front = record { text = 81 ∷ []; at = 0 } ∷ record { text = 91 ∷ []; at = 1 } ∷ record { text = 97 ∷ []; at = 2 } ∷
        record { text = 44 ∷ []; at = 3 } ∷ record { text = 98 ∷ []; at = 4 } ∷ record { text = 93 ∷ []; at = 5 } ∷ [];
    back = record { text = 123 ∷ []; at = 6 } ∷ record { text = 97 ∷ []; at = 7 } ∷ record { text = 45 ∷ []; at = 8 } ∷
        record { text = 98 ∷ []; at = 9 } ∷ record { text = 125 ∷ []; at = 10 } ∷ record { text = 123 ∷ []; at = 11 } ∷
        record { text = 97 ∷ []; at = 12 } ∷ record { text = 45 ∷ []; at = 13 } ∷ record { text = 98 ∷ []; at = 14 } ∷
        record { text = 125 ∷ []; at = 15 } ∷ [];
    whole = refl;
    text = record { tokens = refl; some = omega arith; different = (refl, refl, (refl, refl, tt)) };
    end = refl;
  };
  ring = record { some = omega arith; few = omega arith; different = (refl, refl, (refl, refl, tt)) };
}

first_of_two : Reads (IsSetText two_names) (lexemes (ring_more two_names) two_sets 6) one_difference 11
unfolding lex_tokens
first_of_two = record {
  front = record { text = 123 ∷ []; at = 6 } ∷ record { text = 97 ∷ []; at = 7 } ∷ record { text = 45 ∷ []; at = 8 } ∷
      record { text = 98 ∷ []; at = 9 } ∷ record { text = 125 ∷ []; at = 10 } ∷ [];
  back = record { text = 123 ∷ []; at = 11 } ∷ record { text = 97 ∷ []; at = 12 } ∷ record { text = 45 ∷ []; at = 13 } ∷
      record { text = 98 ∷ []; at = 14 } ∷ record { text = 125 ∷ []; at = 15 } ∷ [];
  whole = refl;
  text = its_text;
  end = refl;
}

second_of_two : Reads (IsSetText two_names) (lexemes (ring_more two_names) two_sets 11) one_difference 16
unfolding lex_tokens
second_of_two = record {
  front = record { text = 123 ∷ []; at = 11 } ∷ record { text = 97 ∷ []; at = 12 } ∷ record { text = 45 ∷ []; at = 13 } ∷
      record { text = 98 ∷ []; at = 14 } ∷ record { text = 125 ∷ []; at = 15 } ∷ [];
  back = [];
  whole = refl;
  text = its_text;
  end = refl;
}

pub two_sets_plainly : BeginsWithTwoPlainly two_sets
two_sets_plainly = record {
  first = record { ring = two_names; behind = 6; is_ring = ring_of_two; said = one_difference; place = 11; is_set = first_of_two; plain = its_terms };
  more = one_difference;
  end = 16;
  is_second = second_of_two;
  plain = its_terms;
}

-- ---- a list of sets

-- Q[a,b]{{a-b}}
abbrev listed_sets : List ℕ
listed_sets = 81 ∷ 91 ∷ 97 ∷ 44 ∷ 98 ∷ 93 ∷ 123 ∷ 123 ∷ 97 ∷ 45 ∷ 98 ∷ 125 ∷ 125 ∷ []

ring_of_listed : IsRingRead (from listed_sets 0) 6 two_names
unfolding lex_tokens
ring_of_listed = record {
  text = record {
    front = record { text = 81 ∷ []; at = 0 } ∷ record { text = 91 ∷ []; at = 1 } ∷ record { text = 97 ∷ []; at = 2 } ∷
        record { text = 44 ∷ []; at = 3 } ∷ record { text = 98 ∷ []; at = 4 } ∷ record { text = 93 ∷ []; at = 5 } ∷ [];
    back = record { text = 123 ∷ []; at = 6 } ∷ record { text = 123 ∷ []; at = 7 } ∷ record { text = 97 ∷ []; at = 8 } ∷
        record { text = 45 ∷ []; at = 9 } ∷ record { text = 98 ∷ []; at = 10 } ∷ record { text = 125 ∷ []; at = 11 } ∷
        record { text = 125 ∷ []; at = 12 } ∷ [];
    whole = refl;
    text = record { tokens = refl; some = omega arith; different = (refl, refl, (refl, refl, tt)) };
    end = refl;
  };
  ring = record { some = omega arith; few = omega arith; different = (refl, refl, (refl, refl, tt)) };
}

list_of_listed : Reads (IsListText (IsSetText two_names)) (lexemes (ring_more two_names) listed_sets 6) (one_difference ∷ []) 13
unfolding lex_tokens
list_of_listed = record {
  front = record { text = 123 ∷ []; at = 6 } ∷ record { text = 123 ∷ []; at = 7 } ∷ record { text = 97 ∷ []; at = 8 } ∷
      record { text = 45 ∷ []; at = 9 } ∷ record { text = 98 ∷ []; at = 10 } ∷ record { text = 125 ∷ []; at = 11 } ∷
      record { text = 125 ∷ []; at = 12 } ∷ [];
  back = [];
  whole = refl;
  text = ((123 ∷ []) ∷ (97 ∷ []) ∷ (45 ∷ []) ∷ (98 ∷ []) ∷ (125 ∷ []) ∷ [], [], refl, its_text, refl);
  end = refl;
}

pub listed_sets_plainly : BeginsWithPlainSets listed_sets
listed_sets_plainly = record {
  ring = two_names;
  behind = 6;
  is_ring = ring_of_listed;
  said = one_difference ∷ [];
  place = 13;
  are_sets = list_of_listed;
  plain = (its_terms, tt);
}
