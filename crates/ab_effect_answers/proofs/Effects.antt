-- EACH COMMAND HAS AN EFFECT on each whole state, by what it says.
use Rattle.std.proofs.Common.{◌≡◌, ◌⊎◌, inl, inr, ℕ, Bool, true, false, List, [], refl}
use Rattle.ab_grammar.specs.CommandTrees.{Command, kinds, constants, define, theorem, specification, query, show, quit, subgoals, back, reset, undo, abort, in_proof}
use Rattle.ab_sigmod.specs.FileLoads.{FilesSeen, Load, AreLoads, no_load}
use Rattle.ab_sigmod.specs.FileOrder.{Read, Fault, IsSpecification, IsRefused}
use Rattle.ab_states.specs.State.{State, plain, is_open, is_specified}
use Rattle.ab_states.specs.Reply.{Reply}
use Rattle.ab_states.specs.ForwardEffects.{Commands, GoesForward, unread, declined, declared, specified, item_declined, specified_twice, stated, showed, ended, switched, given_up}
use Rattle.ab_states.specs.StateEffects.{AsksFor, HasEffect, forward, by_files, unread_files}
use Rattle.ab_command_answers.proofs.Says.{says_or_fails}
use Rattle.ab_existence.specs.Certainty.{IsCertain}
use Rattle.ab_existence.proofs.Certain.{sure, and_so, and_also}
use Rattle.ab_effect_answers.specs.WholeStates.{IsWhole}
use Rattle.ab_effect_answers.specs.SomeEffects.{CommandFindsNames, HasSomeEffect}
use Rattle.ab_effect_answers.proofs.Declaring.{Answer, kinds_answered, constants_answered, define_answered, theorem_answered, show_answered, files_declare_or_not}
use Rattle.ab_effect_answers.proofs.Files.{specification_answered}
use Rattle.ab_effect_answers.proofs.Proving.{proof_command_answered}
use Rattle.ab_effect_answers.proofs.Taking.{back_answered, undo_answered, reset_answered}

module _ (before : FilesSeen) (s : State) (bytes : List ℕ) where
  abbrev pub Effect : Type 0
  Effect = HasSomeEffect before s bytes

  -- no file is asked for
  without_files : ((reply : Reply) × (t : State) × HasEffect s bytes [] reply t) → Effect
  without_files e = (before, e.0, e.1, record { loads = []; asked = no_load; effect = e.2 })

  goes : ((reply : Reply) × (t : State) × GoesForward s (plain bytes) reply t) → Effect
  goes e = without_files (e.0, e.1, forward e.2)

  -- a command that declares something
  declares : (c : Command) → Commands s bytes c → Answer s.declarations c → Effect
  declares c says (inl (more, h)) = goes (_, _, declared c more says h)
  declares c says (inr (r, h)) = goes (_, _, declined c r says h)

  -- a specification, where none is kept
  by_reading : (x : List ℕ) → AsksFor s bytes x → (loads : List Load) (after : FilesSeen) → AreLoads before loads after
      → ((files : List Read) × IsSpecification x loads files) ⊎ ((fault : Fault) × IsRefused x loads fault) → IsCertain Effect
  by_reading x asks loads after asked (inl (files, read)) =
      and_also (files_declare_or_not s.declarations files)
      (λ a. elim a [
        | inl more ↦ (after, _, _, record { loads = loads; asked = asked; effect = by_files x files asks read (specified x files more.0 asks.says asks.first more.1) })
        | inr r ↦ (after, _, _, record { loads = loads; asked = asked; effect = by_files x files asks read (item_declined x files r.0 asks.says asks.first r.1) })
      ])
  by_reading x asks loads after asked (inr (fault, refused)) = sure (after, _, _, record { loads = loads; asked = asked; effect = unread_files x fault asks refused })

  specifies : (x : List ℕ) → Commands s bytes (specification x) → (b : Bool) → is_specified s ≡ b → IsCertain Effect
  specifies x says true e = sure (goes (_, _, specified_twice x says e))
  specifies x says false e = and_so (specification_answered x before) (λ a. by_reading x (record { says = says; first = e }) a.0 a.1 a.2 a.3)

  module _ (whole : IsWhole s) (names : CommandFindsNames s bytes) where
    by_command : (c : Command) → Commands s bytes c → IsCertain Effect
    by_command (kinds xs) says = sure (declares (kinds xs) says (kinds_answered s.declarations xs))
    by_command (constants xs w) says = and_also (constants_answered s.declarations xs w) (declares (constants xs w) says)
    by_command (define inductive ds cs) says = and_also (define_answered s.declarations inductive ds cs) (declares (define inductive ds cs) says)
    by_command (theorem x e) says =
        and_also (theorem_answered s.declarations x e)
        (λ a. elim a [ inl F ↦ goes (_, _, stated x e F.0 says F.1 F.2) | inr r ↦ goes (_, _, declined (theorem x e) r.0 says r.1) ])
    by_command (specification x) says = specifies x says (is_specified s) refl
    by_command (query e n m) says = absurd says.built
    by_command (show x) says = sure (goes (elim (show_answered s.declarations x) [ inl F ↦ (_, _, showed x F.0 says F.1) | inr r ↦ (_, _, declined (show x) r.0 says r.1) ]))
    by_command quit says = sure (goes (_, _, ended says))
    by_command (subgoals on) says = sure (goes (_, _, switched on says))
    by_command back says = sure (without_files (back_answered s bytes whole.replayed says))
    by_command reset says = sure (without_files (reset_answered s bytes whole.replayed says))
    by_command undo says = sure (without_files (undo_answered s bytes whole.replayed says))
    by_command abort says = sure (goes (_, _, given_up says))
    by_command (in_proof l c) says = and_also (proof_command_answered s bytes whole names l c says) goes

    pub effect_answered : IsCertain Effect
    effect_answered =
        and_so (says_or_fails bytes (is_open s))
        (λ said. elim said [ inl c ↦ by_command c.0 c.1 | inr cause ↦ sure (goes (_, _, unread cause.0 cause.1)) ])
