-- Where commands stand that the bytes say.
use Rattle.std.proofs.Common.{◌≡◌, ◌≢◌, ℕ, Bool, true, false, List, Option, Some, None, is_some, option_map, refl, sym, ◌∙◌, subst}
use Rattle.ab_grammar.specs.declared.head.Stand.TheVariants.{Outside, Inside}
use Rattle.ab_grammar.specs.CommandTrees.{Command, specification}
use Rattle.ab_grammar.specs.CommandTable.{standing}
use Rattle.ab_syntax.specs.declared.command.Command.{Command as Said}
use Rattle.ab_syntax.specs.declared.command.Command.TheVariants as said
use Rattle.ab_syntax.specs.Commands.{command_of}
use Rattle.ab_command.specs.CommandReadings.{StandsHere}
use Rattle.ab_command.proofs.Sayings.{said_stands}
use Rattle.ab_states.specs.State.{is_open}
use Rattle.ab_states.specs.ForwardEffects.{Commands}
use Rattle.ab_session.specs.Contents.{Contents, attempt_of, state_of}

some_mapped : {X Y : Type 0} (f : X → Y) (o : Option X) → is_some (option_map f o) ≡ is_some o
some_mapped f None = refl
some_mapped f (Some x) = refl

-- whether a proof is open
pub open_as : (s : Contents) → is_open (state_of s) ≡ is_some s.attempt
open_as s = some_mapped (attempt_of s.world) s.attempt

none_there : {X : Type 0} (o : Option X) → is_some o ≡ false → o ≡ None
none_there None e = refl
none_there (Some x) e = cc

none_open : {X : Type 0} (o : Option X) → o ≡ None → is_some o ≡ true → ⊥
none_open None e h = cc
none_open (Some x) e h = cc

outside : (proving : Bool) → StandsHere Outside proving → proving ≡ false
outside true h = absurd h
outside false h = refl

inside : (proving : Bool) → StandsHere Inside proving → proving ≡ true
inside true h = refl
inside false h = absurd h

-- no proof is open where such a command stands
pub none_tried : (s : Contents) (bytes : List ℕ) (c : Command) → Commands (state_of s) bytes c → standing c ≡ Outside → s.attempt ≡ None
none_tried s bytes c said e =
    none_there s.attempt (sym (open_as s) ∙ outside (is_open (state_of s)) (subst (λ d. StandsHere d (is_open (state_of s))) e (said_stands bytes (is_open (state_of s)) c said)))

-- and one is where such a command stands

pub one_tried : (s : Contents) (bytes : List ℕ) (c : Command) → Commands (state_of s) bytes c → standing c ≡ Inside → is_some s.attempt ≡ true
one_tried s bytes c said e =
    sym (open_as s) ∙ inside (is_open (state_of s)) (subst (λ d. StandsHere d (is_open (state_of s))) e (said_stands bytes (is_open (state_of s)) c said))

pub some_tried : (s : Contents) (bytes : List ℕ) (c : Command) → Commands (state_of s) bytes c → standing c ≡ Inside → s.attempt ≡ None → ⊥
some_tried s bytes c said e none = none_open s.attempt none (one_tried s bytes c said e)

-- a command that isn't a specification says none
pub no_specification : (c : Said) → ((x : List ℕ) → c ≡ said.Specification x → ⊥) → (x : List ℕ) → command_of c ≢ specification x
no_specification (said.Kind xs) n x e = absurd (cc)
no_specification (said.Typed xs a) n x e = absurd (cc)
no_specification (said.Define inductive ds cs) n x e = absurd (cc)
no_specification (said.Theorem y f) n x e = absurd (cc)
no_specification (said.Specification y) n x e = n y refl
no_specification (said.Query f k m) n x e = absurd (cc)
no_specification (said.Show y) n x e = absurd (cc)
no_specification said.Quit n x e = absurd (cc)
no_specification (said.Subgoals on) n x e = absurd (cc)
no_specification said.Back n x e = absurd (cc)
no_specification said.Reset n x e = absurd (cc)
no_specification said.Undo n x e = absurd (cc)
no_specification said.Abort n x e = absurd (cc)
no_specification (said.InProof l c) n x e = absurd (cc)
