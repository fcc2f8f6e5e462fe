use Rattle.std.proofs.Common.{◌≡◌, Some, None, option_map, sym, ◌∙◌, ap, subst}
use Rattle.ab_grammar.specs.CommandTrees as told
use Rattle.ab_formulas.specs.Declarations.{theorem_in}
use Rattle.ab_logic.specs.Worlds.{read, declarations_of}
use Rattle.ab_states.specs.ab_specification.specs.ab_declare.specs.declared.refusal.Refusal.TheVariants.{Unknown}
use Rattle.ab_states.specs.declared.reply.Reply.TheVariants.{Shown, Refused}
use Rattle.ab_session.specs.Contents.{contents}
use Rattle.ab_session.specs.SessionAnswers.{IsForwardAnswer}
use Rattle.ab_session.proofs.Carried.{on_error}
use Rattle.ab_session.proofs.Effects.{meant, shown_answer, missing_answer, stays_itself}
use Rattle.ab_session.proofs.session.Session.show.Goals as goal

pub returns-in-Some-clause-answer : goal.returns-in-Some-clause-answer
returns-in-Some-clause-answer c =
    let s = contents c.self.inside in
    let w = c.self.inside.world in
    let there : theorem_in (declarations_of w) c.args.name.now ≡ Some (read w c.in-Some.formula) = sym c.theorem.ensures.reads ∙ ap (option_map (read w)) c.in-Some.is in
    subst (λ o. IsForwardAnswer o c.args.bytes.now o (Shown c.in_ok-copy.copy c.in-Some.formula)) c.self.view_is
    (shown_answer s c.args.bytes.now c.args.name.now c.in_ok-copy.copy c.in-Some.formula c.in_ok-copy.ensures
    (meant s c.args.self.now c.args.bytes.now (told.show c.args.name.now) c.self.view_is c.requires)
    there c.in-Some.ensures.held (c.self.invariant.sound.world.sentences c.args.name.now (read w c.in-Some.formula) there).closed)

pub returns-in-None-clause-answer : goal.returns-in-None-clause-answer
returns-in-None-clause-answer c =
    let s = contents c.self.inside in
    let w = c.self.inside.world in
    let none : theorem_in (declarations_of w) c.args.name.now ≡ None = sym c.theorem.ensures.reads ∙ ap (option_map (read w)) c.in-None.is in
    subst (λ o. IsForwardAnswer o c.args.bytes.now o (Refused (Unknown c.in_ok-copy.copy None))) c.self.view_is
    (missing_answer s c.args.bytes.now c.args.name.now c.in_ok-copy.copy c.in_ok-copy.ensures
    (meant s c.args.self.now c.args.bytes.now (told.show c.args.name.now) c.self.view_is c.requires) none)

pub returns-in_err-copy-clause-err : goal.returns-in_err-copy-clause-err
returns-in_err-copy-clause-err c = on_error _ (stays_itself (contents c.self.inside) c.args.self.now c.self.view_is c.self.invariant)
