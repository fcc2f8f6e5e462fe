-- A specification: the session behind what its files declare, and the answers to the command.
use Rattle.std.specs.Prelude.{Result, Ok, Err, IfOk}
use Rattle.std.proofs.Common.{◌≡◌, ℕ, Bool, true, false, List, [], ◌∷◌, ◌++◌, length, None, option_map, refl, sym, ◌∙◌, ap, subst, append-nil}
use Rattle.ab_grammar.specs.CommandTrees as told
use Rattle.ab_formulas.specs.Declarations.{Declarations, theorems_in}
use Rattle.ab_formulas.proofs.Declaring.{theorems_in-append}
use Rattle.ab_grammar.specs.FileTrees.{Item}
use Rattle.ab_sigmod.specs.FileLoads.{FilesSeen, AreLoads, no_load}
use Rattle.ab_sigmod.specs.FileOrder as file
use Rattle.ab_sigmod.specs.FileOrder.{Fault, IsSpecification, IsRefused}
use Rattle.ab_sigmod.specs.declared.spec.Spec.{Spec}
use Rattle.ab_sigmod.specs.Outcomes.{files_of, WasRead, WasRefused}
use Rattle.ab_logic.specs.Worlds.{declarations_of}
use Rattle.ab_logic.specs.declared.world.World.{World}
use Rattle.ab_states.specs.ab_specification.specs.ab_declare.specs.declared.refusal.Refusal.{Refusal}
use Rattle.ab_states.specs.ab_specification.specs.ab_declare.specs.declared.refusal.Refusal.TheVariants.{Clash}
use Rattle.ab_states.specs.ab_specification.specs.ab_declare.proofs.Restoring.{restored_grows, restored_declares}
use Rattle.ab_states.specs.ab_specification.specs.ItemDeclarations.{ItemDeclares, new_kinds, new_constants, new_clause, no_declaration}
use Rattle.ab_states.specs.ab_specification.specs.FileDeclarations.{PlacedItem, items_of, AllDeclare, no_item, one_more}
use Rattle.ab_states.specs.ab_specification.specs.SpecificationAnswers.{IsSpecified, IsUnspecified}
use Rattle.ab_states.specs.State as plain
use Rattle.ab_states.specs.State.{State, Entry, with_files, is_specified}
use Rattle.ab_states.specs.Reply as reply
use Rattle.ab_states.specs.Reply.{files_unread_for}
use Rattle.ab_states.specs.ForwardEffects.{Commands, GoesForward, specified, item_declined, specified_twice}
use Rattle.ab_states.specs.StateEffects.{AsksFor, HasEffect, forward, by_files, unread_files, HasEffectOver}
use Rattle.ab_states.specs.declared.reply.Reply.{Reply}
use Rattle.ab_states.specs.declared.reply.Reply.TheVariants.{Accepted, Refused}
use Rattle.ab_session.specs.declared.command_history.Deed.TheVariants.{Went}
use Rattle.ab_session.specs.declared.command_history.Kept.{Kept}
use Rattle.ab_session.specs.Contents.{Contents, Past, past_of, entry_of, attempt_of, entries_of, state_of}
use Rattle.ab_session.specs.Sessions.{IsSound}
use Rattle.ab_session.specs.Origins.{CameBy, CameFrom, IsSession}
use Rattle.ab_session.specs.SessionAnswers.{IsEntryAnswer, IsFileAnswer, IsBefore}
use Rattle.ab_session.proofs.Sayings.{none_tried}
use Rattle.ab_session.proofs.Sessions.{later_proofs, in_world, no_theorem_more}
use Rattle.ab_session.proofs.Origins.{came, went_nowhere}
use Rattle.ab_session.proofs.Effects.{made, meant, no_attempt, session_same, state_restored, session_behind}
use Rattle.ab_session.proofs.Lasting.{same_itself}

-- what items declare are no theorems

item_no_theorem : (D : Declarations) (i : Item) (more : Declarations) → ItemDeclares D i more → theorems_in more ≡ []
item_no_theorem D _ more (new_kinds {xs = xs} d) = no_theorem_more D (told.kinds xs) more d
item_no_theorem D _ more (new_constants {xs = xs} {A = A} d) = no_theorem_more D (told.constants xs A) more d
item_no_theorem D _ _ (new_clause d) = refl
item_no_theorem D _ _ no_declaration = refl

items_no_theorem : (D : Declarations) (is : List PlacedItem) (more : Declarations) → AllDeclare D is more → theorems_in more ≡ []
items_no_theorem D _ _ no_item = refl
items_no_theorem D _ _ (one_more {more = more} {rest = rest} {i = i} {is = is} d a) =
    theorems_in-append more rest ∙ ap (λ ts. ts ++ theorems_in rest) (item_no_theorem D i.item more d) ∙ items_no_theorem (D ++ more) is rest a

as_many : (w v : World) (fs : List file.Read) → IsSpecified w v fs → length (theorems_in (declarations_of v)) ≡ length (theorems_in (declarations_of w))
as_many w v fs d =
    ap (λ D. length (theorems_in D)) d.declared ∙ ap length (theorems_in-append (declarations_of w) d.more)
    ∙ ap (λ ts. length (theorems_in (declarations_of w) ++ ts)) (items_no_theorem (declarations_of w) (items_of fs) d.more d.declares) ∙ ap length (append-nil (theorems_in (declarations_of w)))

-- What the files declare, in a session that made room

module _ (s old : Contents) (bytes x : List ℕ) (fs : List file.Read) (v : World) (ks : List Past) (same : s ≡ old) (is : IsSession s) (said : Commands (state_of old) bytes (told.specification x))
    (first : is_specified (state_of old) ≡ false) where
  said_here : Commands (state_of s) bytes (told.specification x)
  said_here = meant s old bytes (told.specification x) same said

  first_here : is_specified (state_of s) ≡ false
  first_here = subst (λ (o : Contents). is_specified (state_of o) ≡ false) (sym same) first

  abbrev entry : Entry
  entry = with_files fs bytes

  abbrev after : Contents
  after = made v s.proofs s.attempt s.all_subgoals ks

  module _ (r : Refusal) (room : ks ≡ s.past) (d : IsUnspecified s.world v fs r) where
    pub session_unspecified : IsSession after
    session_unspecified = session_same s v s.proofs s.attempt ks refl refl room is (restored_grows s.world v is.sound.world d.restored) (restored_declares s.world v d.restored)

    refused_here : IsEntryAnswer s entry (in_world v s) (Refused r)
    refused_here = record {
      effect = subst (λ (t : State). GoesForward (state_of s) entry (reply.refused r) t) (sym (state_restored s v is.sound d.restored)) (item_declined x fs r said_here first_here d.declines);
      speaks = tt;
      completed = λ name bad. absurd (cc);
      admitted = λ name names bad. absurd (cc);
      unchanged = λ not_kept. record { world = d.restored; proofs = refl; attempt = refl; all_subgoals = refl; past = refl };
      kept = λ bad. absurd (cc);
    }

    pub unspecified_so : IsEntryAnswer old entry after (Refused r)
    unspecified_so =
        subst (λ o. IsEntryAnswer o entry after (Refused r)) same
        (subst (λ xs. IsEntryAnswer s entry (made v s.proofs s.attempt s.all_subgoals xs) (Refused r)) (sym room) refused_here)

  module _ (d : IsSpecified s.world v fs) (k : Kept) (noted : IsBefore old k.before) (deed : k.deed ≡ Went) (copy : entry_of (past_of k) ≡ entry) (past : ks ≡ past_of k ∷ s.past) where
    before : IsBefore s k.before
    before = subst (λ o. IsBefore o k.before) (sym same) noted

    closed : s.attempt ≡ None
    closed = none_tried s bytes (told.specification x) said_here refl

    more : entries_of s.past ++ entry ∷ [] ≡ entries_of ks
    more = sym (ap entries_of past ∙ ap (λ (e : Entry). entries_of s.past ++ e ∷ []) copy)

    from : CameFrom s after
    from = came s after (past_of k) is before d.grows past
        (subst (λ deed. CameBy deed k.before.steps s.proofs s.attempt s.proofs s.attempt) (sym deed) (refl, went_nowhere s.world s.attempt k.before.steps before.steps))

    state_is : plain.keeping entry (plain.declaring d.more (state_of s)) ≡ state_of after
    state_is =
        ap (λ D. record { declarations = D; attempt = option_map (attempt_of s.world) s.attempt; all_subgoals = s.all_subgoals; kept = entries_of s.past ++ entry ∷ [] }) (sym d.declared)
        ∙ ap (λ o. record { declarations = declarations_of v; attempt = o; all_subgoals = s.all_subgoals; kept = entries_of s.past ++ entry ∷ [] })
        (ap (option_map (attempt_of s.world)) closed ∙ sym (ap (option_map (attempt_of v)) closed))
        ∙ ap (λ xs. record { declarations = declarations_of v; attempt = option_map (attempt_of v) s.attempt; all_subgoals = s.all_subgoals; kept = xs }) more

    declared_here : IsEntryAnswer s entry after Accepted
    declared_here = record {
      effect = subst (λ (t : State). GoesForward (state_of s) entry reply.accepted t) state_is (specified x fs d.more said_here first_here d.declares);
      speaks = tt;
      completed = λ name bad. absurd (cc);
      admitted = λ name names bad. absurd (cc);
      unchanged = λ bad. absurd (cc);
      kept = λ yes. from;
    }

    sound : IsSound after
    sound = record {
      world = d.grows.world;
      proofs = later_proofs s.world v s.proofs d.grows (as_many s.world v fs d) is.sound.proofs;
      attempt = no_attempt v s.attempt closed;
    }

    pub session_specified : IsSession after
    session_specified = session_behind s after entry Accepted is sound from declared_here

    pub specified_so : IsEntryAnswer old entry after Accepted
    specified_so = subst (λ o. IsEntryAnswer o entry after Accepted) same declared_here

-- What the whole command answers

module _ (f g : FilesSeen) (old : Contents) (bytes x : List ℕ) (said : Commands (state_of old) bytes (told.specification x)) where
  -- a refusal leaves the session
  unchanged : (r : Refusal) → HasEffectOver f g (state_of old) bytes (reply.refused r) (state_of old) → IsFileAnswer f g old bytes old (Refused r)
  unchanged r effect = record {
    effect = effect;
    speaks = tt;
    completed = λ name bad. absurd (cc);
    admitted = λ name names bad. absurd (cc);
    unchanged = λ not_kept. same_itself old;
    kept = λ bad. absurd (cc);
  }

  pub twice_answer : (y : List ℕ) → y ≡ x → f ≡ g → is_specified (state_of old) ≡ true → IsFileAnswer f g old bytes old (Refused (Clash y None))
  twice_answer y copied same kept =
      unchanged (Clash y None) (record {
        loads = [];
        asked = subst (λ h. AreLoads f [] h) same no_load;
        effect = forward (subst (λ z. GoesForward (state_of old) (plain.plain bytes) (reply.refused (Clash z None)) (state_of old)) (sym copied) (specified_twice x said kept));
      })

  module _ (first : is_specified (state_of old) ≡ false) where
    asks : AsksFor (state_of old) bytes x
    asks = record { says = said; first = first }

    pub unread_answer : (fault : Fault) (r : Refusal) → WasRefused x f g fault → r ≡ files_unread_for fault → IsFileAnswer f g old bytes old (Refused r)
    unread_answer fault r was e =
        unchanged r (record {
          loads = was.loads;
          asked = was.asked;
          effect = subst (λ q. HasEffect (state_of old) bytes was.loads (reply.refused q) (state_of old)) (sym e) (unread_files x fault asks was.is);
        })

    read_answer : (spec : Spec) (new : Contents) (r : Reply) → WasRead x f g spec → IsEntryAnswer old (with_files (files_of spec) bytes) new r → IsFileAnswer f g old bytes new r
    read_answer spec new r was a = record {
      effect = record { loads = was.loads; asked = was.asked; effect = by_files x (files_of spec) asks was.is a.effect };
      speaks = a.speaks;
      completed = a.completed;
      admitted = a.admitted;
      unchanged = a.unchanged;
      kept = a.kept;
    }

    pub if_read_answer : {E : Type 0} (spec : Spec) (new : Contents) (r : Result Reply E) → WasRead x f g spec → IfOk r (IsEntryAnswer old (with_files (files_of spec) bytes) new) → IfOk r (IsFileAnswer f g old bytes new)
    if_read_answer spec new (Ok r) was a = read_answer spec new r was a
    if_read_answer spec new (Err e) was a = tt

-- where no file is asked for, a specification is kept
pub kept_already : (s : State) (bytes x : List ℕ) → Commands s bytes (told.specification x) → ((y : List ℕ) → ¬ AsksFor s bytes y) → is_specified s ≡ true
kept_already s bytes x said none = by_case (is_specified s) refl
  where
    by_case : (b : Bool) → is_specified s ≡ b → is_specified s ≡ true
    by_case true e = e
    by_case false e = absurd (none x (record { says = said; first = e }))
