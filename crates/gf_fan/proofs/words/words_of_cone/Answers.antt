use Rattle.std.proofs.Common.{◌∙◌, sym, subst, ℕ, List, ℤ, length}
use Rattle.gf_fan.specs.Words.{AreWordsOfRows, AreOwnWords, AreIndicesOf}
use Rattle.gf_fan.proofs.WordLaws.{own_words_of}
use Rattle.gf_fan.proofs.words.words_of_cone.Goals as goal

pub indices_of-requires : goal.indices_of-requires
indices_of-requires c = subst (λ (w : List (List ℤ)). AreWordsOfRows w c.args.items.now.keys c.args.known.now) (sym c.as_slice-rays.ensures) c.requires.known

pub returns : goal.returns
returns c =
    let rays : List (List ℤ) = c.args.numbering.now in
    let own : AreOwnWords (length rays) c.in_ok-numbers.numbers.items c.in_ok-own.own.items =
    subst (λ (w : List (List ℤ)). AreOwnWords (length w) c.in_ok-numbers.numbers.items c.in_ok-own.own.items) c.as_slice-rays.ensures
    (subst (λ (w : List ℕ). AreOwnWords (length c.as_slice-rays.result.now) w c.in_ok-own.own.items) c.as_slice.ensures.value c.in_ok-own.ensures) in
    let o = own_words_of rays c.args.c.now c.in_ok-numbers.numbers.items c.in_ok-own.own.items c.in_ok-numbers.ensures.0
    (c.in_ok-numbers.ensures.1 ∙ c.rays.ensures.value) own in
    record {
      long = own.long;
      each = o.0;
      every = o.1;
      rows = subst (λ (w : List (List ℤ)). AreIndicesOf rays c.args.known.now w c.in_ok-rows.rows.items) c.inequalities.ensures.value
          (subst (λ (w : List (List ℤ)). AreIndicesOf w c.args.known.now c.inequalities.result.now c.in_ok-rows.rows.items) c.as_slice-rays.ensures
          c.in_ok-rows.ensures);
    }
