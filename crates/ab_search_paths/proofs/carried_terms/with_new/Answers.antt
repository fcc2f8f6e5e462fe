use Rattle.std.proofs.Common.{List, ◌++◌, map, get_or, ◌∙◌, ap}
use Rattle.ab_unifiers.specs.Choices.{new_constant}
use Rattle.ab_norm.specs.ab_types.specs.Ids.{type_of}
use Rattle.ab_norm.specs.Nominals.{nominal_of}
use Rattle.ab_norm.specs.declared.nominal.Nominal.{Nominal}
use Rattle.ab_search_paths.proofs.Likenesses.{sent_none, sent_more}
use Rattle.ab_search_paths.proofs.carried_terms.with_new.Goals as goal

pub loop-a-init : goal.loop-a-init
loop-a-init c =
    let like = c.args.like.now in
    let held = c.args.held.now in
    sent_none c.args.types.now like.names.items like.targets.items held c.args.others.now c.extend_from_slice.new.self.items c.in_ok-names.names.items c.in_ok-targets.targets.items
    c.requires.like c.requires.others c.requires.held c.requires.once c.requires.apart
    (c.in_ok-extend_from_slice.ensures.items ∙ ap (λ (l : List Nominal). l ++ c.deref.result.now) c.in_ok-known.ensures.items ∙ ap (λ (l : List Nominal). held ++ l) c.deref.ensures.value)
    (c.in_ok-names.ensures.items ∙ c.deref-2.ensures.value) (c.in_ok-targets.ensures.items ∙ c.deref-3.ensures.value)

pub loop-a-preserved : goal.loop-a-preserved
loop-a-preserved c =
    let none : Nominal = record { number = 0; ty = record { 0 = 0 } } in
    let l = c.loop-a in
    let T = c.args.types.now in
    sent_more T l.names.items l.targets.items l.known.items c.args.others.now c.push-in-loop-a.new.self.items c.push-in-loop-a-2.new.self.items c.push.new.self.items c.in_ok-new.new l.a-index none c.loop-a-test.true
    l.invariant c.in_ok-new.ensures.held (c.in_ok-new.ensures.reads ∙ ap (λ (k : List Nominal). new_constant (map (nominal_of T) k) (type_of T (get_or c.args.others.now l.a-index none).ty)) c.deref-in-loop-a.ensures.value)
    c.in_ok-push-2.ensures.items c.in_ok-push-3.ensures.items c.in_ok-push.ensures.items
