use Rattle.std.proofs.Common.{◌++◌, ◌∙◌, ap}
use Rattle.std.proofs.lemmas.List.Elements.{All-same}
use Rattle.ab_norm.specs.ab_store.specs.Trees.{Holds}
use Rattle.ab_logic.specs.SequentReadings.{sequent_of}
use Rattle.ab_formulas.specs.Sequents.{goal_names}
use Rattle.ab_uses.specs.NamedTerms.{terms_named}
use Rattle.ab_uses.proofs.Parts.{terms_held, known_read}
use Rattle.ab_uses.proofs.first_choice.pose.Goals as goal

pub constants_of-requires-clause-arguments : goal.constants_of-requires-clause-arguments
constants_of-requires-clause-arguments c =
    let w = c.args.world.now in
    let ps = c.in_ok-parts.parts.items in
    All-same (Holds w.store) c.deref-2.result.now (terms_named ps) (c.deref-2.ensures.value ∙ c.in_ok-terms.ensures ∙ ap terms_named c.deref.ensures.value) (terms_held w.types w.store ps c.in_ok-parts.ensures.held)

pub returns-clause-known_names : goal.returns-clause-known_names
returns-clause-known_names c =
    let w = c.args.world.now in
    let held = c.in_ok-held.held.items in
    let more = c.in_ok-more.more.items in
    known_read w.types w.store held more c.extend_from_slice.new.self.items c.deref-2.result.now c.in_ok-parts.parts.items (goal_names (sequent_of w c.args.goal.now)) _
    (c.in_ok-extend_from_slice.ensures.items ∙ ap (λ l. l ++ c.deref-4.result.now) (c.in_ok-known.ensures.items ∙ c.deref-3.ensures.value) ∙ ap (λ l. held ++ l) c.deref-4.ensures.value)
    c.in_ok-held.ensures.list c.in_ok-more.ensures.list (c.deref-2.ensures.value ∙ c.in_ok-terms.ensures ∙ ap terms_named c.deref.ensures.value) c.in_ok-parts.ensures.parts
