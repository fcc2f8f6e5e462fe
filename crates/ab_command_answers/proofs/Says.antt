-- Each text says a command, or there is a cause why it says none.
use Rattle.std.proofs.Common.{◌⊎◌, inl, inr, ℕ, ◌-◌, ◌≤◌, Bool, true, false, List, refl, arith}
use Rattle.ab_lex.specs.declared.token.Token.{Token}
use Rattle.ab_lex.specs.declared.token.LexFault.{LexFault}
use Rattle.ab_lex.specs.Tokens.{TokensOf, FaultFrom, FaultOf, here, gap_before, token_before, BeginsFrom, begins, gap_first, place_of}
use Rattle.ab_lex.proofs.OneReading.{gap_no_token, stuck_no_gap}
use Rattle.ab_lex.proofs.Beginning.{begins_before_fault}
use Rattle.ab_lex.proofs.Readable.{reading_there}
use Rattle.ab_grammar.specs.declared.head.Stand.{Stand}
use Rattle.ab_grammar.specs.declared.head.Stand.TheVariants.{Outside, Inside, Anywhere}
use Rattle.ab_grammar.specs.CommandTrees.{Command}
use Rattle.ab_grammar.specs.CommandTable.{CommandText, StandsAt}
use Rattle.ab_syntax.specs.ab_expressions.specs.Tokens.{origin_of, tokens_in}
use Rattle.ab_syntax.specs.Faults.{place_past, nested_place, IsWordAlone}
use Rattle.ab_language_laws.specs.TextAnswers.{HasAnswer}
use Rattle.ab_language_laws.proofs.Commands.{command_answer}
use Rattle.ab_command.specs.declared.fault.Cause.{Cause}
use Rattle.ab_command.specs.declared.fault.Cause.TheVariants.{Syntax, WrongPlace, TooNested, NotBuilt}
use Rattle.ab_command.specs.CommandReadings.{StandsHere, Fits, Says, Fails}
use Rattle.ab_command.specs.Supported.{IsBuilt}
use Rattle.ab_existence.specs.Certainty.{IsCertain}
use Rattle.ab_existence.proofs.Certain.{sure, and_so, and_also, there_or_not}

-- a text that has a fault begins somewhere
begins_there : {place : ℕ} {s : List ℕ} {fault : LexFault} → FaultFrom place s fault → (start : ℕ) × BeginsFrom place s start
begins_there {place = place} (here f) = (place, begins (λ r g. stuck_no_gap f g))
begins_there (gap_before c e g rest) = let b = begins_there rest in (b.0, gap_first c e g b.1)
begins_there {place = place} (token_before {kind = k} {c = c} {r = r} e t rest) = (place, begins (λ q g. gap_no_token g k c r e t.form))

module _ (bytes : List ℕ) (proving : Bool) where
  abbrev Read : Type 0
  Read = ((c : Command) × Says bytes proving c) ⊎ ((cause : Cause) × Fails bytes proving cause)

  at_fault : (fault : LexFault) → FaultOf bytes fault → Read
  at_fault fault f =
      let b = begins_there f in
      let low : b.0 ≤ place_of fault = begins_before_fault b.1 f in
      inr (Syntax (place_of fault - b.0), Fails.no_token (place_of fault - b.0) (record { start = b.0; begins = b.1; fault = fault; fault_is = f; place_is = omega (arith, low) }))

  stands_or_not : (d : Stand) (open_proof : Bool) → StandsHere d open_proof ⊎ (StandsHere d open_proof → ⊥)
  stands_or_not Outside true = inr (λ h. h)
  stands_or_not Outside false = inl tt
  stands_or_not Inside true = inl tt
  stands_or_not Inside false = inr (λ h. h)
  stands_or_not Anywhere b = inl tt

  by_answer : (ts : List Token) → Fits bytes proving ts → HasAnswer CommandText (tokens_in bytes ts) → IsCertain Read
  by_answer ts fits (HasAnswer.accepted {a = c} spelt) =
      and_also (there_or_not (IsBuilt c))
      (λ built. elim built [
        | inl is ↦ inl (c, record { tokens = ts; fits = fits; spells = spelt; built = is })
        | inr out ↦ inr (NotBuilt, Fails.not_built ts c fits spelt out)
      ])
  by_answer ts fits (HasAnswer.refused {i = i} at) =
      and_also (there_or_not (IsWordAlone (tokens_in bytes ts) i))
      (λ word. elim word [
        | inl alone ↦ inr (Syntax (place_past bytes (origin_of ts) ts 0), Fails.ungrammatical ts i (place_past bytes (origin_of ts) ts 0) fits at (0, inl (alone, refl), refl))
        | inr other ↦ inr (Syntax (place_past bytes (origin_of ts) ts i), Fails.ungrammatical ts i (place_past bytes (origin_of ts) ts i) fits at (i, inr (other, refl), refl))
      ])
  by_answer ts fits (HasAnswer.too_nested {i = i} at) = sure (inr (TooNested (nested_place bytes ts i), Fails.too_nested ts i fits at))

  by_tokens : (ts : List Token) → TokensOf bytes ts → IsCertain Read
  by_tokens ts are =
      and_so (there_or_not ((d : Stand) × StandsAt (tokens_in bytes ts) d × (StandsHere d proving → ⊥)))
      (λ place. elim place [
        | inl out ↦ sure (inr (WrongPlace, Fails.out_of_place ts out.0 are out.1 out.2))
        | inr none ↦ by_answer ts
            (record { tokens_are = are; stands = λ d at. elim (stands_or_not d proving) [ inl h ↦ h | inr n ↦ absurd (none (d, at, n)) ] })
            (command_answer (tokens_in bytes ts))
      ])

  pub says_or_fails : IsCertain Read
  says_or_fails = elim (reading_there bytes) [ inl ts ↦ by_tokens ts.0 ts.1 | inr fault ↦ sure (at_fault fault.0 fault.1) ]
