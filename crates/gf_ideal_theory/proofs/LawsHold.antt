-- The laws that functions of this crate name.
use Rattle.std.proofs.Common.{[], Contains, refl}
use Rattle.gf_exponents_theory.specs.Exponents.{Exponents}
use Rattle.gf_exponents_theory.specs.Orders.{IsLexBelow, IsDeglexBelow, IsWeightedBelow}
use Rattle.gf_ideal_theory.specs.MonomialOrders.{below_of, IsOfGrade}
use Rattle.gf_ideal_theory.specs.Laws.{MembersAreSpanned, IdealsAreClosed, StepsKeepTheIdeal, GeneratorsMayBeExchanged, StepsLeaveLessWork, OrdersAreWeights}
use Rattle.gf_ideal_theory.specs.Laws.{MarksHaveWeights}
use Rattle.gf_ideal_theory.proofs.MembershipLaws.{member-equal, member-zero, member-generator, member-++, member-times, member-difference, spans_of_member}
use Rattle.gf_ideal_theory.proofs.MembershipLaws.{variables_of_member, member_of_spans, member-trans}
use Rattle.gf_ideal_theory.proofs.StepLaws.{member-reached, member-reached_back, member-s_polynomial}
use Rattle.gf_ideal_theory.proofs.GeneratorLaws.{dropped_generator, reduced_generator, monic_generator, member-monic, monic_list}
use Rattle.gf_ideal_theory.proofs.MeasureLaws.{work_left-smaller, work_left-smaller_at}
use Rattle.gf_ideal_theory.proofs.OrderWeights.{order-weights, lex-weights, deglex-weights, weighted-weights}
use Rattle.gf_ideal_theory.proofs.MarkWeights.{marked_positive, order-marks, list_traded, monic-weights}

-- any two monomials
abbrev AreAny : Exponents → Exponents → Type 0
AreAny x y = Unit {0}

pub members_are_spanned : MembersAreSpanned
members_are_spanned = record { spanned = spans_of_member; in_variables = variables_of_member; back = member_of_spans }

pub ideals_are_closed : IdealsAreClosed
ideals_are_closed = record {
  zero = member-zero;
  generator = member-generator;
  equal = member-equal;
  sum = member-++;
  difference = member-difference;
  multiple = member-times;
  generated = member-trans;
}

pub steps_keep_the_ideal : StepsKeepTheIdeal
steps_keep_the_ideal = record {
  forward = λ n fs bs f g v h r m. member-reached n fs (Contains bs) f g v h r m;
  back = λ n fs bs f g v w h r m. member-reached_back n fs (Contains bs) f g v w h r m;
  s_polynomial = member-s_polynomial;
  monic = member-monic;
}

pub generators_may_be_exchanged : GeneratorsMayBeExchanged
generators_may_be_exchanged = record {
  dropped = λ n xs ys f bs v h r. dropped_generator n xs ys f [] (Contains bs) v h r (λ x. refl);
  reduced = λ n xs ys f r bs v h s. reduced_generator n xs ys f r (Contains bs) v h s;
  monic = monic_generator;
  all_monic = monic_list;
}

pub steps_leave_less_work : StepsLeaveLessWork
steps_leave_less_work = record { step = work_left-smaller_at; fitting = work_left-smaller }

pub orders_are_weights : OrdersAreWeights
orders_are_weights o n grade ps a g b = list_traded (IsOfGrade n grade) (below_of o) n ps (order-weights o n grade a) g b

pub marks_have_weights : MarksHaveWeights
marks_have_weights = record {
  by_lex = λ n bs m. marked_positive AreAny IsLexBelow n bs (lex-weights AreAny) m (λ b c e k. tt);
  by_deglex = λ n bs m. marked_positive AreAny IsDeglexBelow n bs (deglex-weights AreAny) m (λ b c e k. tt);
  by_weighted = λ n w bs m. marked_positive AreAny (IsWeightedBelow w) n bs (weighted-weights AreAny w) m (λ b c e k. tt);
  by_order = order-marks;
  of_monic_forms = monic-weights;
}
