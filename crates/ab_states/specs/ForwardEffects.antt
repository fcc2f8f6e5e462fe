-- THE EFFECT OF A COMMAND THAT GOES FORWARD on a state: the reply, and the next state. A command that is refused leaves the state.
use Rattle.std.specs.Prelude.{◌≡◌, ℕ, List, [], ◌∷◌, ◌++◌, map, Bool, true, false, Option, Some, None}
use Rattle.ab_grammar.specs.Tree.{Tree}
use Rattle.ab_grammar.specs.CommandTrees.{Command, ProofCommand, theorem, specification, show, quit, subgoals, abort, in_proof}
use Rattle.ab_term.specs.Terms.{Read}
use Rattle.ab_formulas.specs.Declarations.{Declaration, Declarations, a_theorem, theorem_in, names_at}
use Rattle.ab_formulas.specs.NewNames.{Label}
use Rattle.ab_formulas.specs.Sequents as numbered
use Rattle.ab_formulas.specs.Sequents.{Sequent}
use Rattle.ab_theory.specs.Derivations.{proves}
use Rattle.ab_theory.specs.Assumptions.{with_debts}
use Rattle.ab_sigmod.specs.FileOrder as file
use Rattle.ab_command.specs.declared.fault.Cause.{Cause}
use Rattle.ab_command.specs.CommandReadings.{Says, Fails}
use Rattle.ab_specification.specs.ab_declare.specs.declared.refusal.Refusal.{Refusal}
use Rattle.ab_specification.specs.ab_declare.specs.declared.refusal.Refusal.TheVariants.{Clash}
use Rattle.ab_specification.specs.FileDeclarations.{SpecDeclares, SpecDeclines}
use Rattle.ab_formulas.specs.NamedGoals.{Goal, named, IsNumbered}
use Rattle.ab_states.specs.State.{Attempt, State, Entry, plain, with_files, is_open, is_specified, keeping, declaring, proving, closed, showing}
use Rattle.ab_states.specs.Reply as reply
use Rattle.ab_states.specs.Reply.{Reply, accepted, done, shown, refused, unread_for}
use Rattle.ab_specification.specs.ab_declare.specs.DeclarationCommands.{States, Declares, Declines}
use Rattle.ab_effects.specs.ProofCommands.{given_label}
use Rattle.ab_effects.specs.Debts.{debts_at}
use Rattle.ab_states.specs.ProofCommandEffects.{Makes, Denies}

-- the bytes say the command, and it stands here
abbrev pub Commands : State → List ℕ → Command → Type 0
Commands s bytes c = Says bytes (is_open s) c

-- THE BYTES SAY A PROOF COMMAND, and this is the current goal, with numbers for its variables, and the goals behind it
pub record Faces (s : State) (bytes : List ℕ) (l : Option (List ℕ)) (c : ProofCommand) (a : Attempt) (t : Sequent) (gs : List Goal) : Type 0 where
  pub says : Commands s bytes (in_proof l c)
  pub attempt : s.attempt ≡ Some a
  pub current : Goal
  pub goals : a.goals ≡ current ∷ gs
  pub numbered : IsNumbered s.declarations current t

-- a proof of the formula begins
abbrev pub beginning : List ℕ → Read → Attempt
beginning x F = record { name = x; formula = F; goals = named (proves F 0) ∷ []; assumed = [] }

-- these goals are left of it, and these places assumed
abbrev pub left_with : List Goal → List ℕ → Attempt → Attempt
left_with gs js a = record a { goals = gs; assumed = js }

-- what it assumes after the command at the goal
abbrev pub assumed_after : State → Attempt → Sequent → ProofCommand → List ℕ
assumed_after s a t c = with_debts s.declarations (debts_at t c) a.assumed

-- the theorem that it states, which assumes these
abbrev pub theorem_of : List ℕ → Attempt → Declaration
theorem_of js a = a_theorem a.name a.formula js

-- no proof is open, and the theorem stands
abbrev pub concluding : List ℕ → Attempt → State → State
concluding js a s = closed (declaring (theorem_of js a ∷ []) s)

-- what is told then
abbrev pub told_of : List ℕ → Attempt → State → Reply
told_of js a s = done a.name (names_at (concluding js a s).declarations js)

-- from a state, by the command as it would be kept, to the reply and the next state
pub data GoesForward (s : State) : Entry → Reply → State → Type 0 where
  -- the bytes say no command that is built and stands here
  unread : {bytes : List ℕ} (c : Cause) → Fails bytes (is_open s) c → GoesForward s (plain bytes) (refused (unread_for c)) s
  -- the command isn't one that what is declared admits
  declined : {bytes : List ℕ} (c : Command) (r : Refusal) → Commands s bytes c → Declines s.declarations c r → GoesForward s (plain bytes) (refused r) s
  -- kinds, constants or a definition are declared
  declared : {bytes : List ℕ} (c : Command) (more : Declarations) → Commands s bytes c → Declares s.declarations c more
      → GoesForward s (plain bytes) accepted (keeping (plain bytes) (declaring more s))
  -- the files of a specification declare these, where none is kept; it is kept with its files
  specified : {bytes : List ℕ} (x : List ℕ) (files : List file.Read) (more : Declarations) → Commands s bytes (specification x) → is_specified s ≡ false → SpecDeclares s.declarations files more
      → GoesForward s (with_files files bytes) accepted (keeping (with_files files bytes) (declaring more s))
  -- an item of them is refused
  item_declined : {bytes : List ℕ} (x : List ℕ) (files : List file.Read) (r : Refusal) → Commands s bytes (specification x) → is_specified s ≡ false → SpecDeclines s.declarations files r
      → GoesForward s (with_files files bytes) (refused r) s
  -- a specification is kept
  specified_twice : {bytes : List ℕ} (x : List ℕ) → Commands s bytes (specification x) → is_specified s ≡ true → GoesForward s (plain bytes) (refused (Clash x None)) s
  -- a theorem of a new name is stated: its formula is the one goal
  stated : {bytes : List ℕ} (x : List ℕ) (e : Tree) (F : Read) → Commands s bytes (theorem x e) → theorem_in s.declarations x ≡ None → States s.declarations e F
      → GoesForward s (plain bytes) accepted (keeping (plain bytes) (proving (beginning x F) s))
  -- a theorem is shown
  showed : {bytes : List ℕ} (x : List ℕ) (F : Read) → Commands s bytes (show x) → theorem_in s.declarations x ≡ Some F → GoesForward s (plain bytes) (shown x F) s
  -- the script ends here
  ended : {bytes : List ℕ} → Commands s bytes quit → GoesForward s (plain bytes) reply.quit s
  -- from now on the goals behind the current one are shown, or they aren't
  switched : {bytes : List ℕ} (on : Bool) → Commands s bytes (subgoals on) → GoesForward s (plain bytes) accepted (keeping (plain bytes) (showing on s))
  -- the open proof ends without a theorem
  given_up : {bytes : List ℕ} → Commands s bytes abort → GoesForward s (plain bytes) accepted (keeping (plain bytes) (closed s))
  -- a proof command is refused
  denied : {bytes : List ℕ} (l : Option (List ℕ)) (c : ProofCommand) (a : Attempt) (t : Sequent) (gs : List Goal) (r : Refusal) → Faces s bytes l c a t gs
      → Denies s.declarations (given_label l) c t r → GoesForward s (plain bytes) (refused r) s
  -- it leads to other goals in the place of the current one, and some goal is left
  led : {bytes : List ℕ} (l : Option (List ℕ)) (c : ProofCommand) (a : Attempt) (t : Sequent) (gs : List Goal) (ps : List Sequent) (h : Goal) (hs : List Goal) → Faces s bytes l c a t gs
      → Makes s.declarations (given_label l) c t ps → map named ps ++ gs ≡ h ∷ hs
      → GoesForward s (plain bytes) accepted (keeping (plain bytes) (proving (left_with (h ∷ hs) (assumed_after s a t c) a) s))
  -- no goal is left: the theorem stands, with what it assumes
  proved : {bytes : List ℕ} (l : Option (List ℕ)) (c : ProofCommand) (a : Attempt) (t : Sequent) (gs : List Goal) (ps : List Sequent) → Faces s bytes l c a t gs
      → Makes s.declarations (given_label l) c t ps → map named ps ++ gs ≡ []
      → GoesForward s (plain bytes) (told_of (assumed_after s a t c) a s) (keeping (plain bytes) (concluding (assumed_after s a t c) a s))
