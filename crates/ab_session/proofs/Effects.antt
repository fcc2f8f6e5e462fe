-- The effects of commands on a session, from what the calls below say.
use Rattle.std.specs.Prelude.{IfSome}
use Rattle.std.proofs.Common.{◌≡◌, ◌≢◌, ℕ, Bool, true, false, List, [], ◌∷◌, ◌++◌, length, map, Option, Some, None, option_map, is_some, refl, sym, ◌∙◌, ap, subst}
use Rattle.std.proofs.lemmas.List.{map-append}
use Rattle.ab_grammar.specs.Tree.{Tree}
use Rattle.ab_grammar.specs.declared.head.Stand.TheVariants.{Outside}
use Rattle.ab_grammar.specs.CommandTrees as told
use Rattle.ab_grammar.specs.CommandTable.{standing}
use Rattle.ab_grammar.specs.CommandTrees.{Command, ProofCommand}
use Rattle.ab_store.specs.declared.node.TermId.{TermId}
use Rattle.ab_term.specs.Variables.{variables}
use Rattle.ab_formulas.specs.Declarations.{Declarations, signature_in, theorem_in, theorems_in, assumed_in, names_at}
use Rattle.ab_formulas.proofs.TheoremPlaces.{theorem_new, assumed_new}
use Rattle.ab_formulas.specs.Formulas.{IsSentence}
use Rattle.ab_logic.specs.WorldGrowth.{Grows}
use Rattle.ab_logic.proofs.Growing.{grows_not}
use Rattle.ab_formulas.specs.Sequents.{Sequent}
use Rattle.ab_logic.specs.Worlds.{read, Holds, declarations_of}
use Rattle.ab_logic.specs.declared.world.World.{World}
use Rattle.ab_theory.specs.Derivations.{History, root, proves, open_goals, beginning}
use Rattle.ab_proofcmd.specs.ab_hypothesis.specs.ab_steps.specs.ab_kernel.specs.Layout.{Held, history_of, IsProof, goals_of}
use Rattle.ab_theory.specs.Assumptions.{assumed_by}
use Rattle.ab_theory.proofs.Assuming.{assumed_begun, assumed_more}
use Rattle.ab_proofcmd.specs.ab_hypothesis.specs.ab_steps.specs.ab_kernel.proofs.GoalSequents.{first_is_sequent}
use Rattle.ab_proofcmd.specs.ab_hypothesis.specs.ab_steps.proofs.Following.{one_at_least}
use Rattle.ab_proofcmd.specs.ab_hypothesis.specs.ab_steps.proofs.OwedJust.{just_owes}
use Rattle.ab_formulas.specs.NamedGoals.{named}
use Rattle.ab_states.specs.ab_specification.specs.ab_declare.specs.declared.refusal.Refusal.{Refusal}
use Rattle.ab_states.specs.ab_specification.specs.ab_declare.specs.declared.refusal.Refusal.TheVariants.{Unknown}
use Rattle.ab_states.specs.ab_specification.specs.ab_declare.specs.DeclarationAnswers.{IsDeclared, IsDeclined, IsStated}
use Rattle.ab_states.specs.ab_specification.specs.ab_declare.specs.DeclarationCommands.{no_theorem}
use Rattle.ab_states.specs.ab_specification.specs.ab_declare.specs.Moments.{IsRestored}
use Rattle.ab_states.specs.ab_specification.specs.ab_declare.proofs.Restoring.{restored_grows, restored_declares, restored_itself}
use Rattle.ab_effects.specs.ProofCommands.{given_label}
use Rattle.ab_effects.specs.Debts.{debts_at}
use Rattle.ab_proofcmd.specs.ab_hypothesis.specs.ab_steps.specs.ProofEffects.{OwesFor}
use Rattle.ab_states.specs.State as plain
use Rattle.ab_states.specs.State.{State, Entry}
use Rattle.ab_states.specs.Reply as reply
use Rattle.ab_states.proofs.Replaying.{done_kept, forward_replayed}
use Rattle.ab_states.proofs.Assumed.{are_proved}
use Rattle.ab_states.specs.ForwardEffects as effect
use Rattle.ab_states.specs.ForwardEffects.{Commands, Faces, GoesForward, declined, declared, stated, showed, ended, switched, given_up, denied, led, proved}
use Rattle.ab_states.specs.declared.reply.Reply.{Reply}
use Rattle.ab_states.specs.declared.reply.Reply.TheVariants.{Accepted, Completed, Admitted, Shown, Quit, Refused}
use Rattle.ab_session.specs.declared.attempt.Attempt.{Attempt}
use Rattle.ab_session.specs.declared.command_history.Kept.{Kept}
use Rattle.ab_session.specs.Contents.{Contents, Past, past_of, entry_of, attempt_of, entries_of, state_of}
use Rattle.ab_session.specs.Sessions.{IsTried, AreProofs, IsSound}
use Rattle.ab_session.specs.declared.command_history.Deed.TheVariants.{Went}
use Rattle.ab_session.specs.Origins.{CameBy, CameFrom, later, IsSession, IsSame}
use Rattle.ab_session.specs.Lasting.{Stays}
use Rattle.ab_session.specs.ProofAttempts.{IsUnchanged, GoesOn, IsCompleted, IsRefusedSo}
use Rattle.ab_session.specs.SessionAnswers.{IsDerivedLast, IsProvedLast, IsEntryAnswer, IsForwardAnswer, IsBefore}
use Rattle.ab_session.proofs.Replies.{done_completed, done_admitted, done_speaks, no_names}
use Rattle.ab_session.proofs.Sayings.{none_tried}
use Rattle.ab_session.proofs.Sessions.{as_many, later_proofs, same_proofs, proved_proofs, proofs_derive, same_session, same_state, in_world, one_more}
use Rattle.ab_session.proofs.Origins.{pasts, latest, attempt_is, came, went_nowhere, session_grown}
use Rattle.ab_session.proofs.Lasting.{same_itself}

abbrev pub made : World → List Held → Option Attempt → Bool → List Past → Contents
made w ps o all ks = record { world = w; proofs = ps; attempt = o; all_subgoals = all; past = ks }

-- one command more is kept

pub past_more : (xs ys zs : List Kept) (k : Kept) → ys ≡ xs → zs ≡ ys ++ k ∷ [] → pasts zs ≡ past_of k ∷ pasts xs
past_more xs ys zs k same more = ap pasts (more ∙ ap (λ us. us ++ k ∷ []) same) ∙ latest xs k

-- a session that is seen as another value

pub seen : (s old : Contents) (bytes : List ℕ) (new : Contents) (r : Reply) → s ≡ old → IsForwardAnswer s bytes new r → IsForwardAnswer old bytes new r
seen s old bytes new r same = subst (λ o. IsForwardAnswer o bytes new r) same

pub meant : (s old : Contents) (bytes : List ℕ) (c : Command) → s ≡ old → Commands (state_of old) bytes c → Commands (state_of s) bytes c
meant s old bytes c same = subst (λ o. Commands (state_of o) bytes c) (sym same)

-- Answers by their replies: what is accepted or shown proves no theorem, and what isn't kept leaves the session

accepted : (old : Contents) (bytes : List ℕ) (new : Contents) → GoesForward (state_of old) (plain.plain bytes) reply.accepted (state_of new) → CameFrom old new → IsForwardAnswer old bytes new Accepted
accepted old bytes new e from = record { effect = e; speaks = tt; completed = λ name bad. absurd (cc); admitted = λ name names bad. absurd (cc); unchanged = λ bad. absurd (cc); kept = λ yes. from }

refused : (old : Contents) (bytes : List ℕ) (new : Contents) (r : Refusal) → GoesForward (state_of old) (plain.plain bytes) (reply.refused r) (state_of new) → IsSame old new → IsForwardAnswer old bytes new (Refused r)
refused old bytes new r e same = record { effect = e; speaks = tt; completed = λ name bad. absurd (cc); admitted = λ name names bad. absurd (cc); unchanged = λ not_kept. same; kept = λ bad. absurd (cc) }

module _ (s : Contents) (bytes : List ℕ) where
  -- nothing changes

  pub quit_answer : Commands (state_of s) bytes told.quit → IsForwardAnswer s bytes s Quit
  quit_answer said = record { effect = ended said; speaks = tt; completed = λ name bad. absurd (cc); admitted = λ name names bad. absurd (cc); unchanged = λ not_kept. same_itself s; kept = λ bad. absurd (cc) }

  pub shown_answer : (x y : List ℕ) (t : TermId) → y ≡ x → Commands (state_of s) bytes (told.show x) → theorem_in (declarations_of s.world) x ≡ Some (read s.world t)
      → Holds s.world t → variables (read s.world t) ≡ [] → IsForwardAnswer s bytes s (Shown y t)
  shown_answer x y t copied said there held closed = record {
    effect = subst (λ z. GoesForward (state_of s) (plain.plain bytes) (reply.shown z (read s.world t)) (state_of s)) (sym copied) (showed x (read s.world t) said there);
    speaks = (held, closed);
    completed = λ name bad. absurd (cc);
    admitted = λ name names bad. absurd (cc);
    unchanged = λ not_kept. same_itself s;
    kept = λ bad. absurd (cc);
  }

  pub missing_answer : (x y : List ℕ) → y ≡ x → Commands (state_of s) bytes (told.show x) → theorem_in (declarations_of s.world) x ≡ None → IsForwardAnswer s bytes s (Refused (Unknown y None))
  missing_answer x y copied said none =
      refused s bytes s (Unknown y None)
      (subst (λ z. GoesForward (state_of s) (plain.plain bytes) (reply.refused (Unknown z None)) (state_of s)) (sym copied) (declined (told.show x) (Unknown x None) said (no_theorem none)))
      (same_itself s)

  -- one command more is kept, and nothing else changes but this
  module _ (is : IsSound s) (ks : List Past) (more : entries_of ks ≡ entries_of s.past ++ plain.plain bytes ∷ []) where
    pub switched_answer : (on : Bool) → Commands (state_of s) bytes (told.subgoals on) → CameFrom s (made s.world s.proofs s.attempt on ks) → IsForwardAnswer s bytes (made s.world s.proofs s.attempt on ks) Accepted
    switched_answer on said from = accepted s bytes (made s.world s.proofs s.attempt on ks)
        (subst (λ xs. GoesForward (state_of s) (plain.plain bytes) reply.accepted (record { declarations = declarations_of s.world; attempt = option_map (attempt_of s.world) s.attempt; all_subgoals = on; kept = xs })) (sym more) (switched on said)) from

    pub given_up_answer : Commands (state_of s) bytes told.abort → CameFrom s (made s.world s.proofs None s.all_subgoals ks) → IsForwardAnswer s bytes (made s.world s.proofs None s.all_subgoals ks) Accepted
    given_up_answer said from = accepted s bytes (made s.world s.proofs None s.all_subgoals ks)
        (subst (λ xs. GoesForward (state_of s) (plain.plain bytes) reply.accepted (record { declarations = declarations_of s.world; attempt = None; all_subgoals = s.all_subgoals; kept = xs })) (sym more) (given_up said)) from

    -- kinds, constants or a definition are declared
    pub declared_answer : (c : Command) (v : World) → s.attempt ≡ None → Commands (state_of s) bytes c → IsDeclared s.world v c → CameFrom s (made v s.proofs s.attempt s.all_subgoals ks) → IsForwardAnswer s bytes (made v s.proofs s.attempt s.all_subgoals ks) Accepted
    declared_answer c v none said d from = accepted s bytes (made v s.proofs s.attempt s.all_subgoals ks)
        (subst (λ (t : State). GoesForward (state_of s) (plain.plain bytes) reply.accepted t) same (declared c d.more said d.declares)) from
      where
        same : plain.keeping (plain.plain bytes) (plain.declaring d.more (state_of s)) ≡ state_of (made v s.proofs s.attempt s.all_subgoals ks)
        same =
            ap (λ D. record { declarations = D; attempt = option_map (attempt_of s.world) s.attempt; all_subgoals = s.all_subgoals; kept = entries_of s.past ++ plain.plain bytes ∷ [] }) (sym d.declared)
            ∙ ap (λ o. record { declarations = declarations_of v; attempt = o; all_subgoals = s.all_subgoals; kept = entries_of s.past ++ plain.plain bytes ∷ [] })
            (ap (option_map (attempt_of s.world)) none ∙ sym (ap (option_map (attempt_of v)) none))
            ∙ ap (λ xs. record { declarations = declarations_of v; attempt = option_map (attempt_of v) s.attempt; all_subgoals = s.all_subgoals; kept = xs }) (sym more)

    -- a theorem is stated, and its proof begins
    pub stated_answer : (x y : List ℕ) (e : Tree) (t : TermId) (v : World) (p : Held) → y ≡ x → s.attempt ≡ None → Commands (state_of s) bytes (told.theorem x e) → IsStated s.world v x e t
        → history_of v p ≡ beginning (proves (read v t) 0) → CameFrom s (made v s.proofs (Some (record { name = y; formula = t; proof = p })) s.all_subgoals ks) → IsForwardAnswer s bytes (made v s.proofs (Some (record { name = y; formula = t; proof = p })) s.all_subgoals ks) Accepted
    stated_answer x y e t v p copied none said d begins from = accepted s bytes (made v s.proofs (Some (record { name = y; formula = t; proof = p })) s.all_subgoals ks)
        (subst (λ (u : State). GoesForward (state_of s) (plain.plain bytes) reply.accepted u) same (stated x e (read v t) said d.new_name d.states)) from
      where
        nothing : assumed_by (declarations_of v) (history_of v p).tree ≡ []
        nothing = ap (λ (h : History). assumed_by (declarations_of v) h.tree) begins ∙ assumed_begun (declarations_of v) (proves (read v t) 0)

        same : plain.keeping (plain.plain bytes) (plain.proving (effect.beginning x (read v t)) (state_of s)) ≡ state_of (made v s.proofs (Some (record { name = y; formula = t; proof = p })) s.all_subgoals ks)
        same =
            ap (λ D. record { declarations = D; attempt = Some (effect.beginning x (read v t)); all_subgoals = s.all_subgoals; kept = entries_of s.past ++ plain.plain bytes ∷ [] }) (sym d.declared)
            ∙ ap (λ z. record { declarations = declarations_of v; attempt = Some (effect.beginning z (read v t)); all_subgoals = s.all_subgoals; kept = entries_of s.past ++ plain.plain bytes ∷ [] }) (sym copied)
            ∙ ap (λ (h : History). record { declarations = declarations_of v; attempt = Some (record { name = y; formula = read v t; goals = map named (open_goals h.tree); assumed = [] }); all_subgoals = s.all_subgoals; kept = entries_of s.past ++ plain.plain bytes ∷ [] }) (sym begins)
            ∙ ap (λ js. record { declarations = declarations_of v; attempt = Some (record { name = y; formula = read v t; goals = map named (goals_of v p); assumed = js }); all_subgoals = s.all_subgoals; kept = entries_of s.past ++ plain.plain bytes ∷ [] }) (sym nothing)
            ∙ ap (λ xs. record { declarations = declarations_of v; attempt = Some (attempt_of v (record { name = y; formula = t; proof = p })); all_subgoals = s.all_subgoals; kept = xs }) (sym more)

  -- what is declined leaves the session
  pub declined_answer : (c : Command) (v : World) (r : Refusal) → IsSound s → Commands (state_of s) bytes c → IsDeclined s.world v c r → IsForwardAnswer s bytes (in_world v s) (Refused r)
  declined_answer c v r is said d = refused s bytes (in_world v s) r
      (subst (λ (t : State). GoesForward (state_of s) (plain.plain bytes) (reply.refused r) t)
      (sym (same_state s v (restored_grows s.world v is.world d.restored) (restored_declares s.world v d.restored) is)) (declined c r said d.declines))
      (record { world = d.restored; proofs = refl; attempt = refl; all_subgoals = refl; past = refl })

-- Sessions

pub session_kept : (s : Contents) (all : Bool) (ks : List Past) → IsSound s → IsSound (made s.world s.proofs s.attempt all ks)
session_kept s all ks is = record { world = is.world; proofs = is.proofs; attempt = is.attempt }

pub session_closed : (s : Contents) (ks : List Past) → IsSound s → IsSound (made s.world s.proofs None s.all_subgoals ks)
session_closed s ks is = record { world = is.world; proofs = is.proofs; attempt = tt }

pub session_restored : (s : Contents) (v : World) → IsSound s → IsRestored s.world v → IsSound (in_world v s)
session_restored s v is restored = same_session s v (restored_grows s.world v is.world restored) (restored_declares s.world v restored) is

pub state_restored : (s : Contents) (v : World) → IsSound s → IsRestored s.world v → state_of (in_world v s) ≡ state_of s
state_restored s v is restored = same_state s v (restored_grows s.world v is.world restored) (restored_declares s.world v restored) is

pub no_attempt : (w : World) (o : Option Attempt) → o ≡ None → IfSome o (IsTried w)
no_attempt w o none = subst (λ p. IfSome p (IsTried w)) (sym none) tt

pub session_declared : (s : Contents) (c : Command) (v : World) (ks : List Past) → IsSound s → s.attempt ≡ None → IsDeclared s.world v c → IsSound (made v s.proofs s.attempt s.all_subgoals ks)
session_declared s c v ks is none d = record {
  world = d.grows.world;
  proofs = later_proofs s.world v s.proofs d.grows (as_many (declarations_of s.world) c d.more (declarations_of v) d.declares d.declared) is.proofs;
  attempt = no_attempt v s.attempt none;
}

pub session_stated : (s : Contents) (x y : List ℕ) (e : Tree) (t : TermId) (v : World) (p : Held) (ks : List Past) → IsSound s → y ≡ x → IsStated s.world v x e t → IsProof v p
    → history_of v p ≡ beginning (proves (read v t) 0) → IsSound (made v s.proofs (Some (record { name = y; formula = t; proof = p })) s.all_subgoals ks)
session_stated s x y e t v p ks is copied d proof begins = record {
  world = d.grows.world;
  proofs = same_proofs s.world v s.proofs d.grows d.declared is.proofs;
  attempt = record {
    proof = proof;
    begins = ap (λ (h : History). root h.tree) begins;
    held = d.held;
    sentence = rw d.declared d.sentence;
    new_name = ap (λ D. theorem_in D y) d.declared ∙ ap (theorem_in (declarations_of s.world)) copied ∙ d.new_name;
    goals = λ none. let bad : proves (read v t) 0 ∷ [] ≡ [] = sym (ap (λ (h : History). open_goals h.tree) begins) ∙ none in cc;
  };
}

-- Sessions behind what is kept, and behind what isn't

pub session_behind : (s t : Contents) (e : Entry) (r : Reply) → IsSession s → IsSound t → CameFrom s t → IsEntryAnswer s e t r → IsSession t
session_behind s t e r is sound from answer = record { sound = sound; replayed = forward_replayed answer.effect is.replayed; remembers = later s from is.remembers }

pub session_after : (s t : Contents) (bytes : List ℕ) (r : Reply) → IsSession s → IsSound t → CameFrom s t → IsForwardAnswer s bytes t r → IsSession t
session_after s t bytes r = session_behind s t (plain.plain bytes) r

-- a session in another world that says the same, and in which room was made

room_is : (s : Contents) (v : World) (ps : List Held) (o : Option Attempt) (ks : List Past) → ps ≡ s.proofs → o ≡ s.attempt → ks ≡ s.past → made v ps o s.all_subgoals ks ≡ in_world v s
room_is s v ps o ks a b c =
    ap (λ (qs : List Held). made v qs o s.all_subgoals ks) a ∙ ap (λ (p : Option Attempt). made v s.proofs p s.all_subgoals ks) b ∙ ap (λ (xs : List Past). made v s.proofs s.attempt s.all_subgoals xs) c

pub session_same : (s : Contents) (v : World) (ps : List Held) (o : Option Attempt) (ks : List Past) → ps ≡ s.proofs → o ≡ s.attempt → ks ≡ s.past → IsSession s → Grows s.world v
    → declarations_of v ≡ declarations_of s.world → IsSession (made v ps o s.all_subgoals ks)
session_same s v ps o ks a b c is grows declares = subst IsSession (sym (room_is s v ps o ks a b c)) (session_grown s v grows declares is)

pub state_same : (s old : Contents) (v : World) (ps : List Held) (o : Option Attempt) (ks : List Past) → s ≡ old → ps ≡ s.proofs → o ≡ s.attempt → ks ≡ s.past → IsSession s → Grows s.world v
    → declarations_of v ≡ declarations_of s.world → state_of (made v ps o s.all_subgoals ks) ≡ state_of old
state_same s old v ps o ks same a b c is grows declares = ap state_of (room_is s v ps o ks a b c) ∙ same_state s v grows declares is.sound ∙ ap state_of same

-- so it stays

pub stays_so : (s old : Contents) (v : World) (ps : List Held) (o : Option Attempt) (ks : List Past) → s ≡ old → ps ≡ s.proofs → o ≡ s.attempt → ks ≡ s.past → IsSession s → Grows s.world v
    → declarations_of v ≡ declarations_of s.world → Stays old (made v ps o s.all_subgoals ks)
stays_so s old v ps o ks same a b c is grows declares = record {
  state = state_same s old v ps o ks same a b c is grows declares;
  world = subst (λ (t : Contents). Grows t.world v) same grows;
  proofs = a ∙ ap (λ (t : Contents). t.proofs) same;
  attempt = b ∙ ap (λ (t : Contents). t.attempt) same;
  past = c ∙ ap (λ (t : Contents). t.past) same;
}

-- in its own world, where room was made
pub stays_there : (s old : Contents) (ps : List Held) (ks : List Past) → s ≡ old → ps ≡ s.proofs → ks ≡ s.past → IsSession s → Stays old (made s.world ps s.attempt s.all_subgoals ks)
stays_there s old ps ks same a c is = stays_so s old s.world ps s.attempt ks same a refl c is (grows_not s.world is.sound.world) refl

-- in a world that is as it was, but for room
pub stays_restored : (s old : Contents) (v : World) (ks : List Past) → s ≡ old → ks ≡ s.past → IsSession s → IsRestored s.world v → Stays old (made v s.proofs s.attempt s.all_subgoals ks)
stays_restored s old v ks same c is r = stays_so s old v s.proofs s.attempt ks same refl refl c is (restored_grows s.world v is.sound.world r) (restored_declares s.world v r)

-- or where that is the same
pub stays_unmoved : (s old : Contents) (v : World) (ks : List Past) → s ≡ old → ks ≡ s.past → IsSession s → v ≡ s.world → Stays old (made v s.proofs s.attempt s.all_subgoals ks)
stays_unmoved s old v ks same c is e = stays_restored s old v ks same c is (subst (IsRestored s.world) (sym e) (restored_itself s.world))

-- or where nothing was done
pub stays_itself : (s old : Contents) → s ≡ old → IsSession s → Stays old old
stays_itself s old same is = subst (Stays old) same (stays_there s old s.proofs s.past same refl refl is)

-- What is declared, in a session that made room

module _ (s old : Contents) (bytes : List ℕ) (c : Command) (v : World) (ks : List Past) (same : s ≡ old) (is : IsSession s) (said : Commands (state_of old) bytes c) where
  pub session_declined : (r : Refusal) → ks ≡ s.past → IsDeclined s.world v c r → IsSession (made v s.proofs s.attempt s.all_subgoals ks)
  session_declined r room d = session_same s v s.proofs s.attempt ks refl refl room is (restored_grows s.world v is.sound.world d.restored) (restored_declares s.world v d.restored)

  pub declined_so : (r : Refusal) → ks ≡ s.past → IsDeclined s.world v c r → IsForwardAnswer old bytes (made v s.proofs s.attempt s.all_subgoals ks) (Refused r)
  declined_so r room d =
      seen s old bytes (made v s.proofs s.attempt s.all_subgoals ks) (Refused r) same
      (subst (λ xs. IsForwardAnswer s bytes (made v s.proofs s.attempt s.all_subgoals xs) (Refused r)) (sym room) (declined_answer s bytes c v r is.sound (meant s old bytes c same said) d))

  module _ (outside : standing c ≡ Outside) (d : IsDeclared s.world v c) (k : Kept) (before : IsBefore old k.before) (deed : k.deed ≡ Went) (copy : entry_of (past_of k) ≡ plain.plain bytes) (past : ks ≡ past_of k ∷ s.past) where
    none : s.attempt ≡ None
    none = none_tried s bytes c (meant s old bytes c same said) outside

    abbrev declared_contents : Contents
    declared_contents = made v s.proofs s.attempt s.all_subgoals ks

    declared_from : CameFrom s declared_contents
    declared_from = came s declared_contents (past_of k) is (subst (λ o. IsBefore o k.before) (sym same) before) d.grows past
        (subst (λ deed. CameBy deed k.before.steps s.proofs s.attempt s.proofs s.attempt) (sym deed)
        (refl, went_nowhere s.world s.attempt k.before.steps (subst (λ o. IsBefore o k.before) (sym same) before).steps))

    declared_here : IsForwardAnswer s bytes declared_contents Accepted
    declared_here = declared_answer s bytes is.sound ks (ap entries_of past ∙ ap (λ (e : Entry). entries_of s.past ++ e ∷ []) copy) c v none (meant s old bytes c same said) d declared_from

    pub session_declared_so : IsSession declared_contents
    session_declared_so = session_after s declared_contents bytes Accepted is (session_declared s c v ks is.sound none d) declared_from declared_here

    pub declared_so : IsForwardAnswer old bytes declared_contents Accepted
    declared_so = seen s old bytes declared_contents Accepted same declared_here

-- Proof commands

module _ (s : Contents) (bytes : List ℕ) (l : Option (List ℕ)) (c : ProofCommand) (a : Attempt) (is : IsSound s) (here : s.attempt ≡ Some a) (said : Commands (state_of s) bytes (told.in_proof l c)) where
  pub tried : IsTried s.world a
  tried = subst (λ o. IfSome o (IsTried s.world)) here is.attempt

  there : (state_of s).attempt ≡ Some (attempt_of s.world a)
  there = ap (option_map (attempt_of s.world)) here

  faces : (t : Sequent) (rest : List Sequent) → goals_of s.world a.proof ≡ t ∷ rest → Faces (state_of s) bytes l c (attempt_of s.world a) t (map named rest)
  faces t rest e = record {
    says = said;
    attempt = there;
    current = named t;
    goals = ap (map named) e;
    numbered = record {
      is = refl;
      sequent =
          first_is_sequent s.world a.proof is.world tried.proof t rest e;
    };
  }

  -- the attempt as it is afterwards

  same_formula : (v : World) (b : Attempt) → Grows s.world v → b.formula ≡ a.formula → read v b.formula ≡ read s.world a.formula
  same_formula v b grows same = ap (read v) same ∙ grows.readings a.formula tried.held

  tried_by : (v : World) (b : Attempt) → Grows s.world v → declarations_of v ≡ declarations_of s.world → b.name ≡ a.name → b.formula ≡ a.formula → IsProof v b.proof
      → root (history_of v b.proof).tree ≡ root (history_of s.world a.proof).tree → goals_of v b.proof ≢ [] → IsTried v b
  tried_by v b grows declares name formula proof rooted left = record {
    proof = proof;
    begins = rooted ∙ tried.begins ∙ ap (λ F. proves F 0) (sym (same_formula v b grows formula));
    held = subst (Holds v) (sym formula) (grows.ids a.formula tried.held);
    sentence = subst (λ D. IsSentence (signature_in D) (read v b.formula)) (sym declares) (subst (IsSentence (signature_in (declarations_of s.world))) (sym (same_formula v b grows formula)) tried.sentence);
    new_name = ap (λ D. theorem_in D b.name) declares ∙ ap (theorem_in (declarations_of s.world)) name ∙ tried.new_name;
    goals = left;
  }

  state_by : (v : World) (b : Attempt) (ks : List Past) (js : List ℕ) → Grows s.world v → declarations_of v ≡ declarations_of s.world → b.name ≡ a.name → b.formula ≡ a.formula
      → assumed_by (declarations_of v) (history_of v b.proof).tree ≡ js
      → plain.proving (effect.left_with (map named (goals_of v b.proof)) js (attempt_of s.world a)) (record { declarations = declarations_of s.world; attempt = (state_of s).attempt; all_subgoals = s.all_subgoals; kept = entries_of ks })
      ≡ state_of (made v s.proofs (Some b) s.all_subgoals ks)
  state_by v b ks js grows declares name formula assumes =
      ap (λ D. record { declarations = D; attempt = Some (record { name = a.name; formula = read s.world a.formula; goals = map named (goals_of v b.proof); assumed = js }); all_subgoals = s.all_subgoals; kept = entries_of ks }) (sym declares)
      ∙ ap (λ n. record { declarations = declarations_of v; attempt = Some (record { name = n; formula = read s.world a.formula; goals = map named (goals_of v b.proof); assumed = js }); all_subgoals = s.all_subgoals; kept = entries_of ks }) (sym name)
      ∙ ap (λ F. record { declarations = declarations_of v; attempt = Some (record { name = b.name; formula = F; goals = map named (goals_of v b.proof); assumed = js }); all_subgoals = s.all_subgoals; kept = entries_of ks }) (sym (same_formula v b grows formula))
      ∙ ap (λ is. record { declarations = declarations_of v; attempt = Some (record { name = b.name; formula = read v b.formula; goals = map named (goals_of v b.proof); assumed = is }); all_subgoals = s.all_subgoals; kept = entries_of ks }) (sym assumes)

  -- nothing came of it

  pub state_unchanged : (v : World) (b : Attempt) (ks : List Past) → ks ≡ s.past → IsUnchanged s.world a v b → state_of (made v s.proofs (Some b) s.all_subgoals ks) ≡ state_of s
  state_unchanged v b ks room u =
      ap state_of (room_is s v s.proofs (Some b) ks refl (ap Some (attempt_is a b u.name u.formula u.proof) ∙ sym here) room) ∙ same_state s v u.grows u.declared is

  pub denied_answer : (v : World) (b : Attempt) (r : Refusal) (ks : List Past) → ks ≡ s.past → IsRefusedSo (given_label l) c s.world a v b r → IsForwardAnswer s bytes (made v s.proofs (Some b) s.all_subgoals ks) (Refused r)
  denied_answer v b r ks same d =
      let g = one_at_least (goals_of s.world a.proof) tried.goals in
      refused s bytes (made v s.proofs (Some b) s.all_subgoals ks) r
      (subst (λ (t : State). GoesForward (state_of s) (plain.plain bytes) (reply.refused r) t) (sym (state_unchanged v b ks same d.unchanged))
      (denied l c (attempt_of s.world a) g.0 (map named g.1) r (faces g.0 g.1 g.2) (d.denied g.0 g.1 g.2)))
      (record { world = d.restored; proofs = refl; attempt = ap Some (attempt_is a b d.unchanged.name d.unchanged.formula d.unchanged.proof) ∙ sym here; all_subgoals = refl; past = same })

  -- what it assumes then

  abbrev after : Sequent → List ℕ
  after t = effect.assumed_after (state_of s) (attempt_of s.world a) t c

  assumes : (v : World) (b : Attempt) (t : Sequent) (rest : List Sequent) → goals_of s.world a.proof ≡ t ∷ rest → OwesFor c s.world a.proof v b.proof
      → assumed_by (declarations_of s.world) (history_of v b.proof).tree ≡ after t
  assumes v b t rest e owes = assumed_more (declarations_of s.world) (debts_at t c) (history_of s.world a.proof).tree (history_of v b.proof).tree (just_owes (debts_at t c) (history_of s.world a.proof).tree (history_of v b.proof).tree (owes t rest e))

  -- goals are left

  pub session_goes_on : (v : World) (b : Attempt) (ks : List Past) → GoesOn (given_label l) c s.world a v b → IsSound (made v s.proofs (Some b) s.all_subgoals ks)
  session_goes_on v b ks g = record {
    world = g.advances.grows.world;
    proofs = same_proofs s.world v s.proofs g.advances.grows g.advances.declared is.proofs;
    attempt = tried_by v b g.advances.grows g.advances.declared g.name g.formula g.advances.proof g.advances.above.rooted g.goals;
  }

  pub led_answer : (v : World) (b : Attempt) (ks : List Past) → entries_of ks ≡ entries_of s.past ++ plain.plain bytes ∷ [] → GoesOn (given_label l) c s.world a v b → CameFrom s (made v s.proofs (Some b) s.all_subgoals ks)
      → IsForwardAnswer s bytes (made v s.proofs (Some b) s.all_subgoals ks) Accepted
  led_answer v b ks more g from =
      let t = one_at_least (goals_of s.world a.proof) tried.goals in
      let m = g.made t.0 t.1 t.2 in
      let n = one_at_least (goals_of v b.proof) g.goals in
      let goals : map named m.0 ++ map named t.1 ≡ map named (goals_of v b.proof) = sym (map-append named m.0 t.1) ∙ ap (map named) (sym m.2) in
      let some : map named m.0 ++ map named t.1 ≡ named n.0 ∷ map named n.1 = goals ∙ ap (map named) n.2 in
      let same : plain.keeping (plain.plain bytes) (plain.proving (effect.left_with (named n.0 ∷ map named n.1) (after t.0) (attempt_of s.world a)) (state_of s)) ≡ state_of (made v s.proofs (Some b) s.all_subgoals ks) =
      ap (λ gs. record { declarations = declarations_of s.world; attempt = Some (record { name = a.name; formula = read s.world a.formula; goals = gs; assumed = after t.0 }); all_subgoals = s.all_subgoals; kept = entries_of s.past ++ plain.plain bytes ∷ [] }) (sym (ap (map named) n.2))
      ∙ ap (λ xs. record { declarations = declarations_of s.world; attempt = Some (record { name = a.name; formula = read s.world a.formula; goals = map named (goals_of v b.proof); assumed = after t.0 }); all_subgoals = s.all_subgoals; kept = xs }) (sym more)
      ∙ state_by v b ks (after t.0) g.advances.grows g.advances.declared g.name g.formula
      (ap (λ D. assumed_by D (history_of v b.proof).tree) g.advances.declared ∙ assumes v b t.0 t.1 t.2 g.owes) in
      accepted s bytes (made v s.proofs (Some b) s.all_subgoals ks)
      (subst (λ (u : State). GoesForward (state_of s) (plain.plain bytes) reply.accepted u) same
      (led l c (attempt_of s.world a) t.0 (map named t.1) m.0 (named n.0) (map named n.1) (faces t.0 t.1 t.2) m.1 some)) from

  -- no goal is left

  module _ (v : World) (b : Attempt) (r : Reply) (g : IsCompleted (given_label l) c s.world a v b r) where
    abbrev D : Declarations
    D = declarations_of s.world

    abbrev places : List ℕ
    places = assumed_by D (history_of v b.proof).tree

    abbrev names : List (List ℕ)
    names = names_at (declarations_of v) places

    proofs_completed : (ps : List Held) → ps ≡ s.proofs ++ b.proof ∷ [] → AreProofs v ps
    proofs_completed ps pushed =
        subst (AreProofs v) (sym pushed) (proved_proofs s.world v s.proofs b.proof a.name (read s.world a.formula) places g.grows g.declared g.proof g.derives refl is.proofs)

    pub session_completed : (ks : List Past) (ps : List Held) → ps ≡ s.proofs ++ b.proof ∷ [] → IsSound (made v ps None s.all_subgoals ks)
    session_completed ks ps pushed = record { world = g.grows.world; proofs = proofs_completed ps pushed; attempt = tt }

    last_derived : IsDerivedLast (declarations_of v) a.name
    last_derived =
        subst (λ E. IsDerivedLast E a.name) (sym g.declared)
        (record {
          place = length (theorems_in D);
          derivation = (history_of v b.proof).tree;
          derived = record { name = a.name; formula = read s.world a.formula; assumed = places; before = D; behind = []; declared = refl; place_is = refl; derives = g.derives; assumes = refl };
          last = one_more D a.name (read s.world a.formula) places;
          named = refl;
        })

    -- where nothing is assumed, it is proved
    last_proved : names ≡ [] → IsProvedLast (declarations_of v) a.name
    last_proved none = record {
      derived_last = last_derived;
      proved =
          are_proved (declarations_of v) a.name (proofs_derive v (s.proofs ++ b.proof ∷ []) (proofs_completed (s.proofs ++ b.proof ∷ []) refl))
          (ap is_some (ap (λ E. theorem_in E a.name) g.declared ∙ theorem_new D [] a.name (read s.world a.formula) places tried.new_name))
          (ap (λ E. assumed_in E a.name) g.declared ∙ assumed_new D [] a.name (read s.world a.formula) places tried.new_name ∙ no_names (declarations_of v) places none);
    }

    completed_so : (name : List ℕ) → r ≡ Completed name → IsProvedLast (declarations_of v) name
    completed_so name e =
        let so = done_completed a.name names name (sym g.replied ∙ ap (reply.reply_of v) e) in
        subst (IsProvedLast (declarations_of v)) so.0 (last_proved so.1)

    admitted_so : (name : List ℕ) (ms : List (List ℕ)) → r ≡ Admitted name ms → IsDerivedLast (declarations_of v) name
    admitted_so name ms e = subst (IsDerivedLast (declarations_of v)) (done_admitted a.name names name ms (sym g.replied ∙ ap (reply.reply_of v) e)) last_derived

    closed : goals_of v b.proof ≡ []
    closed = g.derives.closed

    pub proved_answer : (ks : List Past) (ps : List Held) → entries_of ks ≡ entries_of s.past ++ plain.plain bytes ∷ [] → CameFrom s (made v ps None s.all_subgoals ks)
        → IsForwardAnswer s bytes (made v ps None s.all_subgoals ks) r
    proved_answer ks ps more from =
        let t = one_at_least (goals_of s.world a.proof) tried.goals in
        let m = g.made t.0 t.1 t.2 in
        let js = after t.0 in
        let none : map named m.0 ++ map named t.1 ≡ [] = sym (map-append named m.0 t.1) ∙ ap (map named) (sym m.2 ∙ closed) in
        let same : places ≡ js = assumes v b t.0 t.1 t.2 g.owes in
        let declares : D ++ effect.theorem_of js (attempt_of s.world a) ∷ [] ≡ declarations_of v =
        ap (λ is. D ++ effect.theorem_of is (attempt_of s.world a) ∷ []) (sym same) ∙ sym g.declared in
        record {
          effect =
              subst (λ q. GoesForward (state_of s) (plain.plain bytes) q (state_of (made v ps None s.all_subgoals ks)))
              (ap (λ E. reply.done a.name (names_at E js)) declares ∙ ap (λ is. reply.done a.name (names_at (declarations_of v) is)) (sym same) ∙ sym g.replied)
              (subst (λ (u : State). GoesForward (state_of s) (plain.plain bytes) (reply.done a.name (names_at (D ++ effect.theorem_of js (attempt_of s.world a) ∷ []) js)) u)
              (ap (λ E. record { declarations = E; attempt = None; all_subgoals = s.all_subgoals; kept = entries_of s.past ++ plain.plain bytes ∷ [] }) declares
              ∙ ap (λ xs. record { declarations = declarations_of v; attempt = None; all_subgoals = s.all_subgoals; kept = xs }) (sym more))
              (proved l c (attempt_of s.world a) t.0 (map named t.1) m.0 (faces t.0 t.1 t.2) m.1 none));
          speaks = done_speaks v r a.name names g.replied;
          completed = completed_so;
          admitted = admitted_so;
          unchanged = λ not_kept. let bad : true ≡ false = sym (done_kept a.name names) ∙ ap reply.is_kept (sym g.replied) ∙ not_kept in absurd (cc);
          kept = λ yes. from;
        }
