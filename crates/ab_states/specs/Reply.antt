-- What a session answers to a command, over plain terms.
use Rattle.std.specs.Prelude.{◌≡◌, ℕ, List, [], ◌∷◌, Bool, true, false}
use Rattle.ab_term.specs.Variables.{variables}
use Rattle.ab_term.specs.Terms.{Read}
use Rattle.ab_logic.specs.Worlds.{read, Holds}
use Rattle.ab_logic.specs.declared.world.World.{World}
use Rattle.ab_sigmod.specs.FileTexts.{TextFault, syntax, too_nested, wrong_title}
use Rattle.ab_sigmod.specs.FileOrder.{Fault, file_missing, file_fault, file_too_long, text_fault, circular, too_many_files}
use Rattle.ab_command.specs.declared.fault.Cause.{Cause}
use Rattle.ab_command.specs.declared.fault.Cause.TheVariants as cause
use Rattle.ab_specification.specs.ab_declare.specs.declared.refusal.Refusal.{Refusal}
use Rattle.ab_specification.specs.ab_declare.specs.declared.refusal.Refusal.TheVariants.{Syntax, TooNested, WrongPlace, NotBuilt, FileMissing, FileFault, FileTooLong, WrongTitle, Circular, TooManyFiles}
use Rattle.ab_specification.specs.ab_declare.specs.Refusals.{here}
use Rattle.ab_specification.specs.FileDeclarations.{place_in}
use Rattle.ab_states.specs.declared.reply.Reply.{Reply as Kept}
use Rattle.ab_states.specs.declared.reply.Reply.TheVariants.{Accepted, Completed, Admitted, Shown, Quit, Refused}

pub data Reply : Type 0 where
  accepted : Reply
  -- the last goal was closed: the theorem of this name is proved
  completed : List ℕ → Reply
  -- it was closed, and the theorem of this name stands on these, which are not proved
  admitted : List ℕ → List (List ℕ) → Reply
  -- the theorem of this name has this formula
  shown : List ℕ → Read → Reply
  quit : Reply
  refused : Refusal → Reply

-- the reply that the program's stands for
abbrev pub reply_of : World → Kept → Reply
reply_of w Accepted = accepted
reply_of w (Completed name) = completed name
reply_of w (Admitted name assumed) = admitted name assumed
reply_of w (Shown name formula) = shown name (read w formula)
reply_of w Quit = quit
reply_of w (Refused r) = refused r

-- the formula that the reply shows, if it shows one, is there and holds no variable
abbrev pub SpeaksOfNoGoal : World → Kept → Type 0
SpeaksOfNoGoal w (Shown name formula) = Holds w formula × (variables (read w formula) ≡ [])
SpeaksOfNoGoal w _ = Unit {0}

-- the theorem of this name is completed, or it assumes some of these names
abbrev pub done : List ℕ → List (List ℕ) → Reply
done x [] = completed x
done x (y ∷ ys) = admitted x (y ∷ ys)

abbrev pub is_refusal : Reply → Bool
is_refusal (refused r) = true
is_refusal _ = false

-- whether a command with this reply is kept
abbrev pub is_kept : Reply → Bool
is_kept accepted = true
is_kept (completed name) = true
is_kept (admitted name assumed) = true
is_kept _ = false

-- the bytes say no command
abbrev pub unread_for : Cause → Refusal
unread_for (cause.Syntax p) = Syntax (here p)
unread_for (cause.TooNested p) = TooNested (here p)
unread_for cause.WrongPlace = WrongPlace
unread_for cause.NotBuilt = NotBuilt

-- the text of the file of that name says nothing
abbrev pub text_unread_for : List ℕ → TextFault → Refusal
text_unread_for x (syntax p) = Syntax (place_in x (here p))
text_unread_for x (too_nested p) = TooNested (place_in x (here p))
text_unread_for x wrong_title = WrongTitle x

-- the files of a specification can't be read
abbrev pub files_unread_for : Fault → Refusal
files_unread_for (file_missing x) = FileMissing x
files_unread_for (file_fault x) = FileFault x
files_unread_for (file_too_long x) = FileTooLong x
files_unread_for (text_fault x f) = text_unread_for x f
files_unread_for (circular xs) = Circular xs
files_unread_for (too_many_files x) = TooManyFiles x
