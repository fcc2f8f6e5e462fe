-- THE EFFECT OF ANY COMMAND ON A STATE: it goes forward, reading files where it is a specification, or it takes back what was kept.
use Rattle.std.specs.Prelude.{◌≡◌, ℕ, List, [], ◌∷◌, ◌++◌, true, false}
use Rattle.ab_grammar.specs.CommandTrees.{specification, back, reset, undo}
use Rattle.ab_sigmod.specs.FileLoads.{FilesSeen, Load, AreLoads}
use Rattle.ab_sigmod.specs.FileOrder as file
use Rattle.ab_sigmod.specs.FileOrder.{Fault, IsSpecification, IsRefused}
use Rattle.ab_specification.specs.ab_declare.specs.declared.refusal.Refusal.TheVariants.{NothingToUndo}
use Rattle.ab_states.specs.State.{State, Entry, plain, with_files, empty, is_open, is_specified}
use Rattle.ab_states.specs.Reply.{Reply, accepted, refused, files_unread_for}
use Rattle.ab_states.specs.ForwardEffects.{Commands, GoesForward}
use Rattle.ab_states.specs.Replay.{Replays}

-- THE STATE BEFORE THE LAST KEPT COMMAND: the one that replaying the others gives
pub record IsBeforeLast (s t : State) : Type 0 where
  pub front : List Entry
  pub last : Entry
  pub kept : s.kept ≡ front ++ last ∷ []
  pub replayed : Replays empty front t

-- THE COMMAND ASKS FOR THE FILES of the specification of that name: none is kept
pub record AsksFor (s : State) (bytes x : List ℕ) : Type 0 where
  pub says : Commands s bytes (specification x)
  pub first : is_specified s ≡ false

-- from a state, by the bytes of a command and the loads that it asked for, to the reply and the next state
pub data HasEffect (s : State) (bytes : List ℕ) : List Load → Reply → State → Type 0 where
  forward : {reply : Reply} {t : State} → GoesForward s (plain bytes) reply t → HasEffect s bytes [] reply t
  -- the files of a specification are read, and then the command goes forward by what they say
  by_files : {loads : List Load} {reply : Reply} {t : State} (x : List ℕ) (files : List file.Read) → AsksFor s bytes x → IsSpecification x loads files
      → GoesForward s (with_files files bytes) reply t → HasEffect s bytes loads reply t
  -- they can't be read
  unread_files : {loads : List Load} (x : List ℕ) (fault : Fault) → AsksFor s bytes x → IsRefused x loads fault → HasEffect s bytes loads (refused (files_unread_for fault)) s
  -- the last kept command is taken back
  took_back : {t : State} → Commands s bytes back → IsBeforeLast s t → HasEffect s bytes [] accepted t
  nothing_kept : Commands s bytes back → s.kept ≡ [] → HasEffect s bytes [] (refused NothingToUndo) s
  -- the same in a proof, but for the command that began it: before that no proof was open
  undid : {t : State} → Commands s bytes undo → IsBeforeLast s t → is_open t ≡ true → HasEffect s bytes [] accepted t
  began : {t : State} → Commands s bytes undo → IsBeforeLast s t → is_open t ≡ false → HasEffect s bytes [] (refused NothingToUndo) s
  -- all are taken back
  emptied : Commands s bytes reset → HasEffect s bytes [] accepted empty

-- THE COMMAND HAS THE EFFECT by loads from files of which this was told before, and that is told now
pub record HasEffectOver (before after : FilesSeen) (s : State) (bytes : List ℕ) (reply : Reply) (t : State) : Type 0 where
  pub loads : List Load
  pub asked : AreLoads before loads after
  pub effect : HasEffect s bytes loads reply t
