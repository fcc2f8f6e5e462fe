-- What is kept of each command leads back to the session before it, and what a kept command leaves leads back to where it was.
use Rattle.std.proofs.Common.{◌≡◌, ℕ, suc, ◌+◌, ◌≤◌, List, [], ◌∷◌, ◌++◌, map, reverse, length, Option, Some, None, refl, sym, ◌∙◌, ap, subst, arith, length-append}
use Rattle.std.proofs.lemmas.List.{reverse-append, map-append}
use Rattle.ab_logic.specs.WorldGrowth.{Grows}
use Rattle.ab_logic.specs.Worlds.{declarations_of, IsWorld}
use Rattle.ab_logic.specs.declared.world.World.{World}
use Rattle.ab_logic.proofs.Growing.{grows_on}
use Rattle.ab_proofcmd.specs.ab_hypothesis.specs.ab_steps.specs.ab_kernel.specs.Layout.{Held, Beyond}
use Rattle.ab_proofcmd.specs.ab_hypothesis.specs.ab_steps.specs.ab_kernel.proofs.Earlier.{standing, beyond_none}
use Rattle.ab_states.specs.ab_specification.specs.ab_declare.specs.declared.moment.Moment.{Moment}
use Rattle.ab_states.specs.ab_specification.specs.ab_declare.specs.Moments.{IsMoment, HasMore, IsRestored}
use Rattle.ab_states.specs.ab_specification.specs.ab_declare.proofs.Restoring.{restored_is, restored_grows, restored_declares}
use Rattle.ab_states.specs.State as plain
use Rattle.ab_states.specs.State.{State, Entry}
use Rattle.ab_states.specs.Replay as replay
use Rattle.ab_states.specs.Replay.{Replays, IsReplayed}
use Rattle.ab_states.specs.StateEffects.{IsBeforeLast}
use Rattle.ab_session.specs.declared.attempt.Attempt.{Attempt}
use Rattle.ab_session.specs.declared.command_history.Kept.{Kept}
use Rattle.ab_session.specs.Contents.{Contents, Past, past_of, entry_of, entries_of, state_of}
use Rattle.ab_session.specs.Origins.{WentOn, IsCompletion, CameBy, CameFrom, Remembers, begun, later, IsSession, Precedes, itself, further}
use Rattle.ab_session.specs.SessionAnswers.{steps_standing, IsBefore}
use Rattle.ab_session.proofs.Sessions.{in_world, same_session, same_state}

-- Lists

abbrev pub pasts : List Kept → List Past
pasts ks = reverse (map past_of ks)

-- the latest kept command, as it was put
pub latest : (ks : List Kept) (k : Kept) → pasts (ks ++ k ∷ []) ≡ past_of k ∷ pasts ks
latest ks k = ap reverse (map-append past_of ks (k ∷ [])) ∙ reverse-append (map past_of ks) (past_of k ∷ [])

-- as many entries as commands
pub length-entries : (ps : List Past) → length (entries_of ps) ≡ length ps
length-entries [] = refl
length-entries (p ∷ ps) =
    length-append (entries_of ps) (entry_of p ∷ [])
    ∙ ap (λ n. n + 1) (length-entries ps) ∙ (let same : length ps + 1 ≡ suc (length ps) = omega arith in same)

-- a list's last element
pub same_ends : {X : Type 0} (xs ys : List X) (x y : X) → xs ++ x ∷ [] ≡ ys ++ y ∷ [] → (xs ≡ ys) × (x ≡ y)
same_ends [] [] x y e = (refl, cc)
same_ends [] (z ∷ ys) x y e = absurd (omega (arith, ap length e, length-append ys (y ∷ [])))
same_ends (z ∷ xs) [] x y e = absurd (omega (arith, ap length e, length-append xs (x ∷ [])))
same_ends (z ∷ xs) (w ∷ ys) x y e =
    let head : z ≡ w = cc in
    let tail : xs ++ x ∷ [] ≡ ys ++ y ∷ [] = cc in
    let rest = same_ends xs ys x y tail in
    (ap (λ q. q ∷ xs) head ∙ ap (λ q. w ∷ q) rest.0, rest.1)

-- Worlds that are as they were, but for room

pub restored_back : (w u : World) → IsRestored w u → IsRestored u w
restored_back w u r = record { types = sym r.types; nodes = sym r.nodes; cells = sym r.cells; bindings = sym r.bindings; additions = sym r.additions }

pub grown_since : (w u v : World) → IsWorld w → IsRestored w u → Grows w v → Grows u v
grown_since w u v is r grows =
    let restored = restored_grows w u is r in
    grows_on u w v (restored_grows u w restored.world (restored_back w u r)) grows

pub moment_since : (w u : World) (m : Moment) → IsRestored w u → IsMoment w m → IsMoment u m
moment_since w u m r is = subst (λ x. IsMoment x m) (sym (restored_is w u r)) (record {
  types = is.types;
  begins = is.begins;
  table = is.table;
  mark = record { bindings = is.mark.bindings; nodes = is.mark.nodes; cells = is.mark.cells; nodes_name = is.mark.nodes_name; bindings_name = is.mark.bindings_name };
  bindings = is.bindings;
  nodes = is.nodes;
  cells = is.cells;
  additions = is.additions;
})

-- what grew has more
pub more_of : (w v : World) → Grows w v → HasMore w v
more_of w v g = record { types = g.types; marks = g.marks; additions = g.additions }

-- A world that grew

pub remembers_grown : (s : Contents) (v : World) → Grows s.world v → Remembers s → Remembers (in_world v s)
remembers_grown s v g (begun none closed) = begun none closed
remembers_grown s v g (later e from kept) =
    later e (record {
      last = from.last;
      past = from.past;
      sound = from.sound;
      replayed = from.replayed;
      moment = from.moment;
      grows = grows_on e.world s.world v from.grows g;
      all_subgoals = from.all_subgoals;
      by = from.by;
    }) kept

pub session_grown : (s : Contents) (v : World) → Grows s.world v → declarations_of v ≡ declarations_of s.world → IsSession s → IsSession (in_world v s)
session_grown s v g same is = record {
  sound = same_session s v g same is.sound;
  replayed = subst IsReplayed (sym (same_state s v g same is.sound)) is.replayed;
  remembers = remembers_grown s v g is.remembers;
}

-- A command that is kept

-- no step was taken
pub went_nowhere : (w : World) (o : Option Attempt) (n : ℕ) → n ≡ steps_standing w o → WentOn n o o
went_nowhere w None n e = tt
went_nowhere w (Some a) n e = record { name = refl; formula = refl; beyond = beyond_none a.proof; counted = e ∙ standing w a.proof }

pub came : (s t : Contents) (last : Past) → IsSession s → IsBefore s last.before → Grows s.world t.world → t.past ≡ last ∷ s.past
    → CameBy last.deed last.before.steps s.proofs s.attempt t.proofs t.attempt → CameFrom s t
came s t last is before grows past by = record {
  last = last;
  past = past;
  sound = is.sound;
  replayed = is.replayed;
  moment = before.moment;
  grows = grows;
  all_subgoals = before.all_subgoals;
  by = by;
}

-- Going back

-- where a session that keeps a command came from
pub record Whence (s : Contents) (last : Past) (rest : List Past) : Type 0 where
  pub from : Contents
  pub came : CameFrom from s
  pub kept : Remembers from
  pub is_last : came.last ≡ last
  pub is_rest : from.past ≡ rest

pub whence : (s : Contents) (last : Past) (rest : List Past) → Remembers s → s.past ≡ last ∷ rest → Whence s last rest
whence s last rest (begun none closed) e = let bad : last ∷ rest ≡ [] = sym e ∙ none in absurd (cc)
whence s last rest (later d source kept) e =
    let both : source.last ∷ d.past ≡ last ∷ rest = sym source.past ∙ e in
    record { from = d; came = source; kept = kept; is_last = cc; is_rest = cc }

-- where no command is kept, no proof is open
pub none_open : (s : Contents) → Remembers s → s.past ≡ [] → s.attempt ≡ None
none_open s (begun none closed) e = closed
none_open s (later d from kept) e = let bad : from.last ∷ d.past ≡ [] = sym from.past ∙ e in absurd (cc)

-- what reopening finds

pub nothing_open : (n : ℕ) (a : Option Attempt) → WentOn n a None → a ≡ None
nothing_open n None by = refl
nothing_open n (Some b) by = absurd by

pub attempt_is : (b c : Attempt) → c.name ≡ b.name → c.formula ≡ b.formula → c.proof ≡ b.proof → c ≡ b
attempt_is b c e f g = ap (λ x. record { name = x; formula = c.formula; proof = c.proof }) e ∙ ap (λ x. record { name = b.name; formula = x; proof = c.proof }) f ∙ ap (λ x. record { name = b.name; formula = b.formula; proof = x }) g

-- the attempt whose proof was taken back is the one before
pub went_back : (n : ℕ) (a : Option Attempt) (b c : Attempt) → WentOn n a (Some b) → c.name ≡ b.name → c.formula ≡ b.formula
    → ((p : Held) → Beyond p b.proof → n ≡ length p.journal → c.proof ≡ p) → Some c ≡ a
went_back n None b c by e f back = absurd by
went_back n (Some d) b c by e f back = ap Some (attempt_is d c (e ∙ by.name) (f ∙ by.formula) (back d.proof by.beyond by.counted))

pub completed_back : (n : ℕ) (x : List ℕ) (a : Attempt) (ps qs : List Held) (p : Held) (c : Attempt) → IsCompletion n x a ps (qs ++ p ∷ []) → c.name ≡ x → c.formula ≡ a.formula
    → ((q : Held) → Beyond q p → n ≡ length q.journal → c.proof ≡ q) → (qs ≡ ps) × (c ≡ a)
completed_back n x a ps qs p c done e f back =
    let ends = same_ends qs ps p done.proof done.pushed in
    (ends.0, attempt_is a c (e ∙ sym done.named) f (back a.proof (subst (Beyond a.proof) (sym ends.1) done.beyond) done.counted))

-- the state before the last kept command
pub state_before : (e s : Contents) → CameFrom e s → IsBeforeLast (state_of s) (state_of e)
state_before e s from = record { front = entries_of e.past; last = entry_of from.last; kept = ap entries_of from.past; replayed = from.replayed }

-- what was done with the open proof is undone, the world is cut back, and the rest is as it was noted
module _ (s : Contents) (k : Kept) (rest : List Past) (is : IsSession s) (past : s.past ≡ past_of k ∷ rest) where
  abbrev there : Whence s (past_of k) rest
  there = whence s (past_of k) rest is.remembers past

  pub deed_by : CameBy k.deed k.before.steps there.from.proofs there.from.attempt s.proofs s.attempt
  deed_by = subst (λ (p : Past). CameBy p.deed p.before.steps there.from.proofs there.from.attempt s.proofs s.attempt) there.is_last there.came.by

  pub moment_is : IsMoment there.from.world k.before.moment
  moment_is = subst (λ (p : Past). IsMoment there.from.world p.before.moment) there.is_last there.came.moment

  module _ (u : World) (ps : List Held) (o : Option Attempt) (restored : IsRestored there.from.world u) (proofs : ps ≡ there.from.proofs) (attempt : o ≡ there.from.attempt) where
    abbrev pub gone : Contents
    gone = record { world = u; proofs = ps; attempt = o; all_subgoals = k.before.all_subgoals; past = rest }

    flag : k.before.all_subgoals ≡ there.from.all_subgoals
    flag = ap (λ (p : Past). p.before.all_subgoals) (sym there.is_last) ∙ there.came.all_subgoals

    gone_is : gone ≡ in_world u there.from
    gone_is =
        ap (λ (qs : List Held). record { world = u; proofs = qs; attempt = o; all_subgoals = k.before.all_subgoals; past = rest }) proofs
        ∙ ap (λ (a : Option Attempt). record { world = u; proofs = there.from.proofs; attempt = a; all_subgoals = k.before.all_subgoals; past = rest }) attempt
        ∙ ap (λ b. record { world = u; proofs = there.from.proofs; attempt = there.from.attempt; all_subgoals = b; past = rest }) flag
        ∙ ap (λ (xs : List Past). record { world = u; proofs = there.from.proofs; attempt = there.from.attempt; all_subgoals = there.from.all_subgoals; past = xs }) (sym there.is_rest)

    grows : Grows there.from.world u
    grows = restored_grows there.from.world u there.came.sound.world restored

    declares : declarations_of u ≡ declarations_of there.from.world
    declares = restored_declares there.from.world u restored

    was : IsSession there.from
    was = record { sound = there.came.sound; replayed = there.came.replayed; remembers = there.kept }

    again : IsSession (in_world u there.from)
    again = session_grown there.from u grows declares was

    pub session_gone : IsSession gone
    session_gone = subst IsSession (sym gone_is) again

    pub came_again : CameFrom gone s
    came_again = subst (λ e. CameFrom e s) (sym gone_is) (record {
      last = there.came.last;
      past = there.came.past;
      sound = again.sound;
      replayed = again.replayed;
      moment = moment_since there.from.world u there.came.last.before.moment restored there.came.moment;
      grows = grown_since there.from.world u s.world there.came.sound.world restored there.came.grows;
      all_subgoals = there.came.all_subgoals;
      by = there.came.by;
    })

    pub state_gone : IsBeforeLast (state_of s) (state_of gone)
    state_gone = state_before gone s came_again

pub some_past : (e s : Contents) → CameFrom e s → entries_of s.past ≡ [] → ⊥
some_past e s from none = omega (arith, ap length (sym (ap entries_of from.past) ∙ none), length-append (entries_of e.past) (entry_of from.last ∷ []))

pub no_entries : (ps : List Past) → entries_of ps ≡ [] → ps ≡ []
no_entries [] e = refl
no_entries (p ∷ ps) e = absurd (omega (arith, ap length e, length-append (entries_of ps) (entry_of p ∷ [])))

-- a session that keeps nothing is the empty state

replays_nothing : {s t : State} (es : List Entry) → Replays s es t → es ≡ [] → t ≡ s
replays_nothing [] replay.none e = refl
replays_nothing (x ∷ xs) (replay.next reply h k p) e = absurd (cc)

pub state_empty : (t : State) → IsReplayed t → t.kept ≡ [] → t ≡ plain.empty
state_empty t is e = replays_nothing t.kept is e

-- an earlier session keeps fewer, or as many
pub fewer : (s t : Contents) → Precedes s t → length s.past ≤ length t.past
fewer s _ itself = omega arith
fewer s t (further {t = m} p from) = omega (arith, fewer s m p, ap length from.past)
