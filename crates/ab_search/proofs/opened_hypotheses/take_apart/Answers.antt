use Rattle.std.proofs.Common.{length, ◌∙◌, ap}
use Rattle.std.proofs.lemmas.Result.{on_ok_weaker}
use Rattle.std.proofs.lemmas.List.{length_push}
use Rattle.ab_search.proofs.opened_hypotheses.take_apart.Goals as goal

pub returns-in_ok-take_parts-in-Parts-clause-gave_way : goal.returns-in_ok-take_parts-in-Parts-clause-gave_way
returns-in_ok-take_parts-in-Parts-clause-gave_way g c = on_ok_weaker c.wait_for.result (λ more. (2, c.in_ok-take_parts-in-Parts.ensures.gave_way, more)) c.wait_for.ensures

pub returns-in_ok-take_names-in-Names-clause-gave_way : goal.returns-in_ok-take_names-in-Names-clause-gave_way
returns-in_ok-take_names-in-Names-clause-gave_way g c = on_ok_weaker c.wait_for-in-Names.result (λ more. (1, c.in_ok-take_names-in-Names.ensures.gave_way, more)) c.wait_for-in-Names.ensures

pub returns-in_ok-take_terms-in-Terms-clause-gave_way : goal.returns-in_ok-take_terms-in-Terms-clause-gave_way
returns-in_ok-take_terms-in-Terms-clause-gave_way g c = on_ok_weaker c.wait_for-in-Terms.result (λ more. (1, c.in_ok-take_terms-in-Terms.ensures.gave_way, more)) c.wait_for-in-Terms.ensures

pub returns-in_ok-take-in-Hypothesis-clause-gave_way : goal.returns-in_ok-take-in-Hypothesis-clause-gave_way
returns-in_ok-take-in-Hypothesis-clause-gave_way g c = on_ok_weaker c.wait_for-in-Hypothesis.result (λ more. (1, c.in_ok-take-in-Hypothesis.ensures.taken, more)) c.wait_for-in-Hypothesis.ensures

pub returns-in_ok-push-in-Conclusion-clause-gave_way : goal.returns-in_ok-push-in-Conclusion-clause-gave_way
returns-in_ok-push-in-Conclusion-clause-gave_way g c =
    (1, c.in_ok-take-in-Conclusion.ensures.taken, ap length c.in_ok-push-in-Conclusion.ensures.items ∙ length_push c.args.waiting.now.items c.args.name)
