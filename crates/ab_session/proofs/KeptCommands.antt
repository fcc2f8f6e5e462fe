-- A command that is kept: the session behind it, and the answer.
use Rattle.std.proofs.Common.{◌≡◌, ℕ, Bool, List, [], ◌∷◌, ◌++◌, length, Option, Some, None, refl, sym, ◌∙◌, ap, subst}
use Rattle.ab_grammar.specs.Tree.{Tree}
use Rattle.ab_grammar.specs.CommandTrees as told
use Rattle.ab_grammar.specs.CommandTrees.{ProofCommand}
use Rattle.ab_store.specs.declared.node.TermId.{TermId}
use Rattle.ab_logic.specs.Worlds.{read}
use Rattle.ab_logic.specs.declared.world.World.{World}
use Rattle.ab_logic.proofs.Growing.{grows_not}
use Rattle.ab_theory.specs.Derivations.{proves, beginning}
use Rattle.ab_proofcmd.specs.ab_hypothesis.specs.ab_steps.specs.ab_kernel.specs.Layout.{Held, history_of, IsProof}
use Rattle.ab_proofcmd.specs.ab_hypothesis.specs.ab_steps.specs.ab_kernel.proofs.Earlier.{standing}
use Rattle.ab_states.specs.ab_specification.specs.ab_declare.specs.DeclarationAnswers.{IsStated}
use Rattle.ab_effects.specs.ProofCommands.{given_label}
use Rattle.ab_states.specs.State as plain
use Rattle.ab_states.specs.State.{Entry}
use Rattle.ab_states.specs.ForwardEffects.{Commands}
use Rattle.ab_states.specs.declared.reply.Reply.TheVariants.{Accepted}
use Rattle.ab_states.specs.declared.reply.Reply.{Reply}
use Rattle.ab_session.specs.declared.attempt.Attempt.{Attempt}
use Rattle.ab_session.specs.declared.command_history.Deed.{Deed}
use Rattle.ab_session.specs.declared.command_history.Deed.TheVariants.{Went, Began, Completed, GaveUp}
use Rattle.ab_session.specs.declared.command_history.Kept.{Kept}
use Rattle.ab_session.specs.Contents.{Contents, Past, past_of, entry_of, entries_of, state_of}
use Rattle.ab_session.specs.Origins.{WentOn, CameBy, CameFrom, IsSession}
use Rattle.ab_session.specs.ProofAttempts.{GoesOn, IsCompleted}
use Rattle.ab_session.specs.SessionAnswers.{IsForwardAnswer, steps_standing, IsBefore}
use Rattle.ab_session.proofs.Sayings.{none_tried}
use Rattle.ab_session.proofs.Origins.{came, went_nowhere}
use Rattle.ab_session.proofs.Effects.{made, seen, meant, session_after, session_kept, session_closed, session_stated, session_goes_on, session_completed, switched_answer, given_up_answer, stated_answer, led_answer, proved_answer}

module _ (s old : Contents) (bytes : List ℕ) (k : Kept) (ks : List Past) (same : s ≡ old) (is : IsSession s) (noted : IsBefore old k.before) (copy : entry_of (past_of k) ≡ plain.plain bytes) (past : ks ≡ past_of k ∷ s.past) where
  before : IsBefore s k.before
  before = subst (λ o. IsBefore o k.before) (sym same) noted

  more : entries_of ks ≡ entries_of s.past ++ plain.plain bytes ∷ []
  more = ap entries_of past ∙ ap (λ (e : Entry). entries_of s.past ++ e ∷ []) copy

  by : (d : Deed) (ps qs : List Held) (a b : Option Attempt) → k.deed ≡ d → CameBy d k.before.steps ps a qs b → CameBy k.deed k.before.steps ps a qs b
  by d ps qs a b e h = subst (λ x. CameBy x k.before.steps ps a qs b) (sym e) h

  -- how the goals are shown

  switched_from : (on : Bool) → k.deed ≡ Went → CameFrom s (made s.world s.proofs s.attempt on ks)
  switched_from on deed =
      came s (made s.world s.proofs s.attempt on ks) (past_of k) is before (grows_not s.world is.sound.world) past
      (by _ _ _ _ _ deed (refl, went_nowhere s.world s.attempt k.before.steps before.steps))

  switched : (on : Bool) → k.deed ≡ Went → Commands (state_of s) bytes (told.subgoals on) → IsForwardAnswer s bytes (made s.world s.proofs s.attempt on ks) Accepted
  switched on deed said = switched_answer s bytes is.sound ks more on said (switched_from on deed)

  pub session_switched : (on : Bool) → k.deed ≡ Went → Commands (state_of old) bytes (told.subgoals on) → IsSession (made s.world s.proofs s.attempt on ks)
  session_switched on deed said =
      session_after s (made s.world s.proofs s.attempt on ks) bytes Accepted is (session_kept s on ks is.sound) (switched_from on deed)
      (switched on deed (meant s old bytes (told.subgoals on) same said))

  pub switched_so : (on : Bool) → k.deed ≡ Went → Commands (state_of old) bytes (told.subgoals on) → IsForwardAnswer old bytes (made s.world s.proofs s.attempt on ks) Accepted
  switched_so on deed said =
      seen s old bytes (made s.world s.proofs s.attempt on ks) Accepted same (switched on deed (meant s old bytes (told.subgoals on) same said))

  -- a proof that is given up

  module _ (a : Attempt) (o : Option Attempt) (here : s.attempt ≡ Some a) (none : o ≡ None) (deed : k.deed ≡ GaveUp a) (said : Commands (state_of old) bytes told.abort) where
    given_up_from : CameFrom s (made s.world s.proofs None s.all_subgoals ks)
    given_up_from =
        came s (made s.world s.proofs None s.all_subgoals ks) (past_of k) is before (grows_not s.world is.sound.world) past (by _ _ _ _ _ deed (refl, here, refl))

    given_up : IsForwardAnswer s bytes (made s.world s.proofs None s.all_subgoals ks) Accepted
    given_up = given_up_answer s bytes is.sound ks more (meant s old bytes told.abort same said) given_up_from

    pub session_given_up : IsSession (made s.world s.proofs o s.all_subgoals ks)
    session_given_up =
        subst (λ p. IsSession (made s.world s.proofs p s.all_subgoals ks)) (sym none)
        (session_after s (made s.world s.proofs None s.all_subgoals ks) bytes Accepted is (session_closed s ks is.sound) given_up_from given_up)

    pub given_up_so : IsForwardAnswer old bytes (made s.world s.proofs o s.all_subgoals ks) Accepted
    given_up_so =
        subst (λ p. IsForwardAnswer old bytes (made s.world s.proofs p s.all_subgoals ks) Accepted) (sym none)
        (seen s old bytes (made s.world s.proofs None s.all_subgoals ks) Accepted same given_up)

  -- a theorem that is stated

  module _ (x y : List ℕ) (e : Tree) (t : TermId) (v : World) (p : Held) (copied : y ≡ x) (d : IsStated s.world v x e t) (proof : IsProof v p) (begins : history_of v p ≡ beginning (proves (read v t) 0))
      (deed : k.deed ≡ Began) (said : Commands (state_of old) bytes (told.theorem x e)) where
    abbrev stated : Contents
    stated = made v s.proofs (Some (record { name = y; formula = t; proof = p })) s.all_subgoals ks

    closed : s.attempt ≡ None
    closed = none_tried s bytes (told.theorem x e) (meant s old bytes (told.theorem x e) same said) refl

    stated_from : CameFrom s stated
    stated_from = came s stated (past_of k) is before d.grows past (by _ _ _ _ _ deed (refl, closed))

    stated_here : IsForwardAnswer s bytes stated Accepted
    stated_here = stated_answer s bytes is.sound ks more x y e t v p copied closed (meant s old bytes (told.theorem x e) same said) d begins stated_from

    pub session_stated_so : IsSession stated
    session_stated_so = session_after s stated bytes Accepted is (session_stated s x y e t v p ks is.sound copied d proof begins) stated_from stated_here

    pub stated_so : IsForwardAnswer old bytes stated Accepted
    stated_so = seen s old bytes stated Accepted same stated_here

  -- a proof command

  module _ (l : Option (List ℕ)) (c : ProofCommand) (a : Attempt) (here : s.attempt ≡ Some a) (said : Commands (state_of old) bytes (told.in_proof l c)) (v : World) (b : Attempt) (ps : List Held) where
    here_said : Commands (state_of s) bytes (told.in_proof l c)
    here_said = meant s old bytes (told.in_proof l c) same said

    counted : k.before.steps ≡ length a.proof.journal
    counted = before.steps ∙ ap (steps_standing s.world) here ∙ standing s.world a.proof

    module _ (kept : ps ≡ s.proofs) (g : GoesOn (given_label l) c s.world a v b) (deed : k.deed ≡ Went) where
      abbrev left : Contents
      left = made v s.proofs (Some b) s.all_subgoals ks

      led_from : CameFrom s left
      led_from =
          came s left (past_of k) is before g.advances.grows past
          (by _ _ _ _ _ deed (refl, subst (λ o. WentOn k.before.steps o (Some b)) (sym here) (record { name = g.name; formula = g.formula; beyond = g.advances.beyond; counted = counted })))

      led : IsForwardAnswer s bytes left Accepted
      led = led_answer s bytes l c a is.sound here here_said v b ks more g led_from

      pub session_led : IsSession (made v ps (Some b) s.all_subgoals ks)
      session_led =
          subst (λ qs. IsSession (made v qs (Some b) s.all_subgoals ks)) (sym kept)
          (session_after s left bytes Accepted is (session_goes_on s bytes l c a is.sound here here_said v b ks g) led_from led)

      pub led_so : IsForwardAnswer old bytes (made v ps (Some b) s.all_subgoals ks) Accepted
      led_so =
          subst (λ qs. IsForwardAnswer old bytes (made v qs (Some b) s.all_subgoals ks) Accepted) (sym kept)
          (seen s old bytes left Accepted same led)

    module _ (o : Option Attempt) (none : o ≡ None) (pushed : ps ≡ s.proofs ++ b.proof ∷ []) (r : Reply) (g : IsCompleted (given_label l) c s.world a v b r) (x : List ℕ) (named : x ≡ a.name) (deed : k.deed ≡ Completed x b.formula) where
      abbrev done : Contents
      done = made v ps None s.all_subgoals ks

      proved_from : CameFrom s done
      proved_from =
          came s done (past_of k) is before g.grows past
          (by _ _ _ _ _ deed (a, here, sym g.formula, record { proof = b.proof; named = sym named; beyond = g.beyond; counted = counted; pushed = pushed }, refl))

      proved : IsForwardAnswer s bytes done r
      proved = proved_answer s bytes l c a is.sound here here_said v b r g ks ps more proved_from

      pub session_proved : IsSession (made v ps o s.all_subgoals ks)
      session_proved =
          subst (λ q. IsSession (made v ps q s.all_subgoals ks)) (sym none)
          (session_after s done bytes r is (session_completed s bytes l c a is.sound here here_said v b r g ks ps pushed) proved_from proved)

      pub proved_so : IsForwardAnswer old bytes (made v ps o s.all_subgoals ks) r
      proved_so =
          subst (λ q. IsForwardAnswer old bytes (made v ps q s.all_subgoals ks) r) (sym none)
          (seen s old bytes done r same proved)
