-- A session whose world is cut behind its latest kept command: all that it names stays.
use Rattle.std.specs.Prelude.{All, IfSome, slice_get}
use Rattle.std.proofs.Common.{◌≡◌, inl, inr, ℕ, ◌-◌, ◌≤◌, List, [], ◌∷◌, ◌++◌, length, Option, Some, None, refl, sym, ◌∙◌, ap, subst, arith, length-append}
use Rattle.std.proofs.lemmas.Option.{get_or_from_slice_get, slice_get_within}
use Rattle.ab_store.specs.ab_types.specs.Entries.{Table}
use Rattle.ab_store.specs.ab_types.specs.LastTypes.{HasEnough}
use Rattle.ab_store.specs.ab_types.specs.declared.ids.TypeId.{TypeId}
use Rattle.ab_store.specs.declared.mark.Mark.{Mark}
use Rattle.ab_formulas.specs.Declarations.{signature_in, theorem_in, theorems_in}
use Rattle.ab_formulas.specs.Formulas.{IsSentence}
use Rattle.ab_logic.specs.Worlds.{read, Holds, declarations_of, IsWorld}
use Rattle.ab_logic.specs.WorldGrowth.{Grows}
use Rattle.ab_logic.specs.declared.world.World.{World}
use Rattle.ab_logic.proofs.Growing.{grows_on}
use Rattle.ab_theory.specs.Derivations.{History, root, proves, open_goals, Valid}
use Rattle.ab_proofcmd.specs.ab_hypothesis.specs.ab_steps.specs.ab_kernel.specs.Layout.{Held, history_of, HoldsProof, IsProof}
use Rattle.ab_proofcmd.specs.ab_hypothesis.specs.ab_steps.specs.ab_kernel.proofs.Later.{same_read, still_holds}
use Rattle.ab_states.specs.ab_specification.specs.ab_declare.specs.declared.moment.Moment.{Moment}
use Rattle.ab_states.specs.ab_specification.specs.ab_declare.specs.Moments.{IsMoment}
use Rattle.ab_states.specs.DerivedTheorems.{IsDerived}
use Rattle.ab_states.specs.Replay.{IsReplayed}
use Rattle.ab_proof_marks.specs.ab_remains.specs.RaisedMarks.{Reaches, IsRaised}
use Rattle.ab_proof_marks.specs.ab_remains.specs.LeftWorlds.{IsCounted, IsLeft, IsNoLonger, HasAllTypes}
use Rattle.ab_proof_marks.specs.NamedInProofs.{HoldsNodes, HoldsBehind, KeepsBehind, nodes_standing}
use Rattle.ab_proof_marks.specs.NamedTypes.{HasTypesBehind, IsLastType}
use Rattle.ab_proof_marks.proofs.Holding.{held_whole, held_behind, named_from, types_named, types_held}
use Rattle.ab_session.specs.declared.attempt.Attempt.{Attempt}
use Rattle.ab_session.specs.declared.command_history.Deed.{Deed}
use Rattle.ab_session.specs.declared.command_history.Deed.TheVariants.{Went, Began, Completed, GaveUp}
use Rattle.ab_session.specs.declared.command_history.Kept.{Kept}
use Rattle.ab_session.specs.Contents.{Contents, Past, past_of, state_of}
use Rattle.ab_session.specs.Sessions.{IsTried, IsProofOf, AreProofs, IsSound}
use Rattle.ab_session.specs.Origins.{CameBy, CameFrom, later, IsSession}
use Rattle.ab_session.specs.LatestNames.{HoldsLatest, KeepsLatest, HasTypesLatest, IsFreed}
use Rattle.ab_session.proofs.Sessions.{pushed, in_world, same_state}
use Rattle.ab_session.proofs.Origins.{pasts, latest, Whence, whence}
use Rattle.ab_session.proofs.Began.{last_split}

-- Marks

-- the moment's mark counts what the world holds
pub counted : (e : World) (m : Moment) → IsMoment e m → IsCounted e m.mark m.additions
counted e m is = record { mark = is.mark; nodes = is.nodes; cells = is.cells; additions = is.additions }

-- each world that grew out of it reaches the mark
pub reaches : (e v : World) (m : Moment) → IsMoment e m → Grows e v → Reaches v m.mark
reaches e v m is grows = let has = (grows.marks m.mark is.mark).has in (has.nodes, has.cells)

-- the last of a list

behind : {X : Type 0} (xs : List X) (x : X) → slice_get (xs ++ x ∷ []) (length xs) ≡ Some x
behind [] x = refl
behind (y ∷ xs) x = behind xs x

last_at : {X : Type 0} (xs : List X) (x : X) → slice_get (xs ++ x ∷ []) (length (xs ++ x ∷ []) - 1) ≡ Some x
last_at xs x =
    let same : length (xs ++ x ∷ []) - 1 ≡ length xs = omega (arith, length-append xs (x ∷ [])) in
    ap (slice_get (xs ++ x ∷ [])) same ∙ behind xs x

-- the world that is left, beside the one that it is left of

module _ (w v : World) (left : IsLeft w v) where
  same_tree : (p : Held) → HoldsProof v p → history_of w p ≡ history_of v p
  same_tree p held = same_read v w left.reads p held

  left_proof : (place : ℕ) (p : Held) → HoldsProof v p → IsProofOf w place p → IsProofOf v place p
  left_proof place p held was = record {
    held = held;
    derived =
        subst (λ D. IsDerived D place (history_of v p).tree) (sym left.declared)
        (subst (λ (h : History). IsDerived (declarations_of w) place h.tree) (same_tree p held) was.derived);
  }

  left_valid : (p : Held) → HoldsProof v p → IsProof w p → IsProof v p
  left_valid p held was = record {
    held = held;
    valid =
        subst (λ D. Valid D (history_of v p).tree) (sym left.declared)
        (subst (λ (h : History). Valid (declarations_of w) h.tree) (same_tree p held) was.valid);
    was_valid =
        subst (λ D. All (Valid D) (history_of v p).earlier) (sym left.declared)
        (subst (λ (h : History). All (Valid (declarations_of w)) h.earlier) (same_tree p held) was.was_valid);
  }

  left_tried : (a : Attempt) → Holds v a.formula → HoldsProof v a.proof → IsTried w a → IsTried v a
  left_tried a there held was =
      let h = same_tree a.proof held in
      let F = left.reads.readings a.formula there in
      record {
        proof = left_valid a.proof held was.proof;
        begins = ap (λ (k : History). root k.tree) (sym h) ∙ was.begins ∙ ap (λ G. proves G 0) F;
        held = there;
        sentence =
            subst (λ D. IsSentence (signature_in D) (read v a.formula)) (sym left.declared)
            (subst (IsSentence (signature_in (declarations_of w))) F was.sentence);
        new_name = ap (λ D. theorem_in D a.name) left.declared ∙ was.new_name;
        goals = λ none. was.goals (ap (λ (k : History). open_goals k.tree) h ∙ none);
      }

-- what the open attempt names, and what the proofs do
module _ (e w v : World) (old : Grows e v) (left : IsLeft w v) (n : ℕ) where
  abbrev Named : Attempt → Type 0
  Named a = Holds v a.formula × HoldsProof v a.proof

  attempt_named : (d : Deed) (ps qs : List Held) (a b : Option Attempt) → CameBy d n ps a qs b → IfSome a (IsTried e) → IfSome b (IsTried w) → KeepsLatest w v d n b qs → HasTypesLatest v.types d n b qs → IfSome b Named
  attempt_named Went ps qs None None by was is there types = tt
  attempt_named Went ps qs None (Some b) by was is there types = absurd by.1
  attempt_named Went ps qs (Some a) None by was is there types = tt
  attempt_named Went ps qs (Some a) (Some b) by was is there types = (
    subst (Holds v) (sym by.1.formula) (old.ids a.formula was.held),
    held_behind v w b.proof left.reads (sym left.declared) is.proof.held e a.proof n old was.proof.held by.1.beyond by.1.counted there types,
  )
  attempt_named Began ps qs a None by was is there types = tt
  attempt_named Began ps qs a (Some b) by was is there types = (there.0 is.held, held_whole v w b.proof left.reads (sym left.declared) is.proof.held there.1 types)
  attempt_named (Completed x F) ps qs a b by was is there types = subst (λ o. IfSome o Named) (sym by.4) tt
  attempt_named (GaveUp c) ps qs a b by was is there types = subst (λ o. IfSome o Named) (sym by.2) tt

  old_named : (ps qs : List Held) → AreProofs e ps → qs ≡ ps → (place : ℕ) (p : Held) → slice_get qs place ≡ Some p → HoldsProof v p
  old_named ps qs are same place p at = still_holds e v old p (are.each place p (ap (λ xs. slice_get xs place) (sym same) ∙ at)).held

  proofs_named : (d : Deed) (ps qs : List Held) (a b : Option Attempt) → CameBy d n ps a qs b → IfSome a (IsTried e) → AreProofs e ps → AreProofs w qs → KeepsLatest w v d n b qs → HasTypesLatest v.types d n b qs
      → (place : ℕ) (p : Held) → slice_get qs place ≡ Some p → HoldsProof v p
  proofs_named Went ps qs a b by was are now there types place p at = old_named ps qs are by.0 place p at
  proofs_named Began ps qs a b by was are now there types place p at = old_named ps qs are by.0 place p at
  proofs_named (GaveUp c) ps qs a b by was are now there types place p at = old_named ps qs are by.0 place p at
  proofs_named (Completed x F) ps qs a b by was are now there types place p at =
      let done = by.3 in
      let tried : IsTried e by.0 = subst (λ o. IfSome o (IsTried e)) by.1 was in
      let end : slice_get qs (length qs - 1) ≡ Some done.proof = ap (λ xs. slice_get xs (length xs - 1)) done.pushed ∙ last_at ps done.proof in
      let keeps : KeepsBehind w v done.proof n = subst (λ o. IfSome o (λ q. KeepsBehind w v q n)) end there in
      let has : HasTypesBehind v.types done.proof n = subst (λ o. IfSome o (λ q. HasTypesBehind v.types q n)) end types in
      elim (pushed ps done.proof p place (ap (λ xs. slice_get xs place) (sym done.pushed) ∙ at)) [
        | inl f ↦ still_holds e v old p (are.each place p f).held
        | inr l ↦ subst (HoldsProof v) (sym l.1)
            (held_behind v w done.proof left.reads (sym left.declared) (now.each (length qs - 1) done.proof end).held e by.0.proof n old tried.proof.held done.beyond done.counted keeps has)
      ]

-- the session that is left

module _ (e s : Contents) (v : World) (is : IsSession s) (from : CameFrom e s) (old : Grows e.world v) (left : IsLeft s.world v)
    (there : KeepsLatest s.world v from.last.deed from.last.before.steps s.attempt s.proofs) (types : HasTypesLatest v.types from.last.deed from.last.before.steps s.attempt s.proofs) where
  sound_left : IsSound (in_world v s)
  sound_left = record {
    world = left.world;
    proofs = record {
      counted = is.sound.proofs.counted ∙ ap (λ D. length (theorems_in D)) (sym left.declared);
      each = λ place p at.
          left_proof s.world v left place p
          (proofs_named e.world s.world v old left from.last.before.steps from.last.deed e.proofs s.proofs e.attempt s.attempt from.by from.sound.attempt from.sound.proofs is.sound.proofs there types place p at)
          (is.sound.proofs.each place p at);
    };
    attempt =
        tried s.attempt
        (attempt_named e.world s.world v old left from.last.before.steps from.last.deed e.proofs s.proofs e.attempt s.attempt from.by from.sound.attempt is.sound.attempt there types)
        is.sound.attempt;
  }
    where
      tried : (o : Option Attempt) → IfSome o (λ a. Holds v a.formula × HoldsProof v a.proof) → IfSome o (IsTried s.world) → IfSome o (IsTried v)
      tried None named was = tt
      tried (Some a) named was = left_tried s.world v left a named.0 named.1 was

  pub state_left : state_of (in_world v s) ≡ state_of s
  state_left = sym (same_state (in_world v s) s.world left.reads (sym left.declared) sound_left)

  pub came_left : CameFrom e (in_world v s)
  came_left = record {
    last = from.last;
    past = from.past;
    sound = from.sound;
    replayed = from.replayed;
    moment = from.moment;
    grows = old;
    all_subgoals = from.all_subgoals;
    by = from.by;
  }

-- what the session names, the latest command's part names

latest_named : (u : World) (d : Deed) (n : ℕ) (o : Option Attempt) (ps : List Held) → All (HoldsNodes u) ps → IfSome o (λ a. Holds u a.formula × HoldsNodes u a.proof) → HoldsLatest u d n o ps
latest_named u Went n None ps proofs there = tt
latest_named u Went n (Some a) ps proofs there = named_from u a.proof (nodes_standing n a.proof) n there.1
latest_named u Began n None ps proofs there = tt
latest_named u Began n (Some a) ps proofs there = (there.0, named_from u a.proof 0 0 there.1)
latest_named u (Completed x F) n o ps proofs there = at_end (slice_get ps (length ps - 1)) refl
  where
    at_end : (q : Option Held) → slice_get ps (length ps - 1) ≡ q → IfSome q (λ p. HoldsBehind u p n)
    at_end None e = tt
    at_end (Some p) e =
        named_from u p (nodes_standing n p) n
        (subst (HoldsNodes u) (get_or_from_slice_get ps (length ps - 1) p p e) (proofs (length ps - 1) p (slice_get_within ps (length ps - 1) p e)))
latest_named u (GaveUp a) n o ps proofs there = tt

-- the types of the latest command's steps, where each proof gives its own

latest_types : (table : Table) (P : Held → Type 0) → ((p : Held) (n : ℕ) → P p → HasTypesBehind table p n) → (d : Deed) (n : ℕ) (o : Option Attempt) (ps : List Held)
    → ((place : ℕ) (p : Held) → slice_get ps place ≡ Some p → P p) → IfSome o (λ a. P a.proof) → HasTypesLatest table d n o ps
latest_types table P has Went n None ps each there = tt
latest_types table P has Went n (Some a) ps each there = has a.proof n there
latest_types table P has Began n None ps each there = tt
latest_types table P has Began n (Some a) ps each there = has a.proof 0 there
latest_types table P has (Completed x F) n o ps each there = at_end (slice_get ps (length ps - 1)) refl
  where
    at_end : (q : Option Held) → slice_get ps (length ps - 1) ≡ q → IfSome q (λ p. HasTypesBehind table p n)
    at_end None e = tt
    at_end (Some p) e = has p n (each (length ps - 1) p e)
latest_types table P has (GaveUp a) n o ps each there = tt

-- what the session names has them
named_types : (u : World) (d : Deed) (n : ℕ) (o : Option Attempt) (ps : List Held) → All (HoldsNodes u) ps → IfSome o (λ a. Holds u a.formula × HoldsNodes u a.proof) → HasTypesLatest u.types d n o ps
named_types u d n o ps proofs there =
    latest_types u.types (HoldsNodes u) (types_named u) d n o ps
    (λ place p e. subst (HoldsNodes u) (get_or_from_slice_get ps place p p e) (proofs place p (slice_get_within ps place p e)))
    (nodes_of o there)
  where
    nodes_of : (o : Option Attempt) → IfSome o (λ a. Holds u a.formula × HoldsNodes u a.proof) → IfSome o (λ a. HoldsNodes u a.proof)
    nodes_of None h = tt
    nodes_of (Some a) h = h.1

-- and so has the session's world
pub sound_types : (s : Contents) (d : Deed) (n : ℕ) → IsSound s → HasTypesLatest s.world.types d n s.attempt s.proofs
sound_types s d n is = latest_types s.world.types (HoldsProof s.world) (types_held s.world) d n s.attempt s.proofs (λ place p e. (is.proofs.each place p e).held) (proof_of s.attempt is.attempt)
  where
    proof_of : (o : Option Attempt) → IfSome o (IsTried s.world) → IfSome o (λ a. HoldsProof s.world a.proof)
    proof_of None h = tt
    proof_of (Some a) h = h.proof.held

-- THE SESSION IS FREED of what nothing names, by a mark that was raised for what the latest command's part of a proof does, and the last type that its steps name
module _ (s : Contents) (ks : List Kept) (k : Kept) (is : IsSession s) (past : s.past ≡ pasts ks) (at : slice_get ks (length ks - 1) ≡ Some k) where
  pub last_past : s.past ≡ past_of k ∷ pasts (last_split ks k at).0
  last_past = let split = last_split ks k at in past ∙ ap pasts split.1 ∙ latest split.0 k

  abbrev pub there : Whence s (past_of k) (pasts (last_split ks k at).0)
  there = whence s (past_of k) (pasts (last_split ks k at).0) is.remembers last_past

  pub latest_is : (e : Contents) (from : CameFrom e s) → from.last ≡ past_of k
  latest_is e from = let both : from.last ∷ e.past ≡ past_of k ∷ pasts (last_split ks k at).0 = sym from.past ∙ last_past in cc

  pub moment_of : (e : Contents) → CameFrom e s → IsMoment e.world k.before.moment
  moment_of e from = subst (λ (p : Past). IsMoment e.world p.before.moment) (latest_is e from) from.moment

  module _ (v : World) (named : Mark) (raised : IsRaised s.world (λ u. KeepsLatest s.world u k.deed k.before.steps s.attempt s.proofs) (λ u. HoldsLatest u k.deed k.before.steps s.attempt s.proofs) k.before.moment.mark named)
      (last : Option TypeId) (is_last : IsLastType (λ t. HasTypesLatest t k.deed k.before.steps s.attempt s.proofs) last)
      (left : IsLeft s.world v) (reached : Reaches v named) (enough : HasEnough k.before.moment.types last v.types)
      (before : (e : World) → IsWorld e → IsCounted e k.before.moment.mark k.before.moment.additions → k.before.moment.types ≡ length e.types → Grows e s.world → Grows e v)
      (least : (u : World) → IsWorld u → u.additions ≡ s.world.additions → Grows u s.world → Reaches u named → IsNoLonger v u)
      (least_types : (u : World) → IsWorld u → u.additions ≡ s.world.additions → Grows u s.world → Reaches u named → HasEnough k.before.moment.types last u.types → HasAllTypes v u) where
    pub old_grows : (e : Contents) → CameFrom e s → Grows e.world v
    old_grows e from = before e.world from.sound.world (counted e.world k.before.moment (moment_of e from)) (moment_of e from).types from.grows

    kept_for : (e : Contents) (from : CameFrom e s) → KeepsLatest s.world v from.last.deed from.last.before.steps s.attempt s.proofs
    kept_for e from = subst (λ (p : Past). KeepsLatest s.world v p.deed p.before.steps s.attempt s.proofs) (sym (latest_is e from)) (raised.enough v reached)

    types_for : (e : Contents) (from : CameFrom e s) → HasTypesLatest v.types from.last.deed from.last.before.steps s.attempt s.proofs
    types_for e from = subst (λ (p : Past). HasTypesLatest v.types p.deed p.before.steps s.attempt s.proofs) (sym (latest_is e from)) ((is_last v.types).0 enough.held)

    pub freed : (e : Contents) → CameFrom e s → IsFreed e s (in_world v s)
    freed e from =
        let keeps = kept_for e from in
        let types = types_for e from in
        record {
          state = state_left e s v is from (old_grows e from) left keeps types;
          came = came_left e s v is from (old_grows e from) left keeps types;
          none_over = λ u older younger same named_there.
              let grown = grows_on u v s.world younger left.reads in
              let is = moment_of e from in
              let reached = raised.least u (reaches e.world u k.before.moment is older) (latest_named u k.deed k.before.steps s.attempt s.proofs named_there.proofs named_there.open_proof) in (
                least u older.world (same ∙ left.additions) grown reached,
                least_types u older.world (same ∙ left.additions) grown reached (record {
                  long = omega (arith, is.types, ap length older.types.1, length-append e.world.types older.types.0);
                  held = (is_last u.types).1 (named_types u k.deed k.before.steps s.attempt s.proofs named_there.proofs named_there.open_proof);
                }),
              );
        }

    pub session_left : IsSession (in_world v s)
    session_left =
        let e = there.from in
        let from = there.came in
        let keeps = kept_for e from in
        let types = types_for e from in
        record {
          sound = sound_left e s v is from (old_grows e from) left keeps types;
          replayed = subst IsReplayed (sym (state_left e s v is from (old_grows e from) left keeps types)) is.replayed;
          remembers = later e (came_left e s v is from (old_grows e from) left keeps types) there.kept;
        }
