use Rattle.std.proofs.Common.{ℕ, List, get_or, sym, subst}
use Rattle.ab_grammar.specs.Grammar.{TypeText}
use Rattle.ab_language_laws.specs.NestingMarks.{type_marks, nestings}
use Rattle.ab_language_laws.specs.FirstDeepToken.{IsAllowed}
use Rattle.ab_language_laws.proofs.Agreeing.{type_alike}
use Rattle.ab_language_laws.proofs.Telling as telling
use Rattle.ab_language_laws.proofs.depths.a_type_is_accepted_where_no_token_is_too_deep.Goals as goal

pub returns : goal.returns
returns c = record {
  text = telling.accepted_text TypeText;
  allowed = telling.accepted_allowed TypeText (λ ts a d. nestings (type_marks d)) type_alike;
  accepted = telling.allowed_accepted TypeText (λ ts a d. nestings (type_marks d)) type_alike;
  before_a_fault = λ ts i q us zs a d e j h. subst (λ (w : List ℕ). IsAllowed (get_or w j 0)) (sym (telling.alike_same (type_alike us a d) (telling.type_other d))) (telling.depth_before TypeText ts i q us zs e j h);
}
