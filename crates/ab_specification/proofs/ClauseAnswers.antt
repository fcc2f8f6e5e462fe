-- What is told of a clause of the program that is read and put in.
use Rattle.std.specs.Prelude.{Option, Some, None, Result, Ok, Err, IfOk, MatchOption}
use Rattle.std.specs.declared.alloc.AllocError.{AllocError}
use Rattle.std.proofs.Common.{◌≡◌, ◌⊎◌, inl, inr, ℕ, ◌+◌, List, [], ◌∷◌, ◌++◌, sym, ap, ◌∙◌, subst}
use Rattle.ab_grammar.specs.CommandTrees as written
use Rattle.ab_grammar.specs.FileTrees as file
use Rattle.ab_formulas.specs.Declarations.{a_program_clause, signature_in}
use Rattle.ab_formulas.specs.Programs.{IsProgramHead}
use Rattle.ab_meaning.specs.Terms.{kinds_in}
use Rattle.ab_typing.specs.DefinitionReadings.{clause_of}
use Rattle.ab_typing.specs.declared.definitions.ClauseTerm.{ClauseTerm}
use Rattle.ab_logic.specs.Additions.{IsMemory}
use Rattle.ab_logic.specs.Worlds.{read, clause_read, declarations_of}
use Rattle.ab_logic.specs.declared.world.World.{World}
use Rattle.ab_logic.specs.declared.world.DefineFault.{DefineFault}
use Rattle.ab_logic.specs.declared.world.DefineFault.TheVariants as define
use Rattle.ab_declare.specs.declared.refusal.Refusal.{Refusal}
use Rattle.ab_declare.specs.declared.refusal.Refusal.TheVariants.{BadHead}
use Rattle.ab_specification.specs.ItemDeclarations.{ItemDeclines, new_clause, bad_head}
use Rattle.ab_specification.specs.ItemAnswers.{ReadsAs, ItemAnswer}

-- a fault of a clause that isn't put in
abbrev pub IsFaultTold : Type 0 → ℕ → DefineFault → Type 0
IsFaultTold P number f = IsMemory f ⊎ ((P → ⊥) × (f ≡ define.BadHead number))

pub told_head : (P : Type 0) (number m : ℕ) → IsFaultTold P number (define.BadHead m) → (P → ⊥) × (BadHead m None ≡ BadHead number None)
told_head P number m (inl h) = absurd h
told_head P number m (inr (n, e)) = let same : m ≡ number = cc in (n, ap (λ k. BadHead k None) same)

pub no_clash : (P : Type 0) (number : ℕ) (x : List ℕ) → IsFaultTold P number (define.Clash x) → ⊥
no_clash P number x (inl h) = h
no_clash P number x (inr (n, e)) = absurd (cc)

pub no_stratification : (P : Type 0) (number : ℕ) (x : List ℕ) → IsFaultTold P number (define.NotStratified x) → ⊥
no_stratification P number x (inl h) = h
no_stratification P number x (inr (n, e)) = absurd (cc)

pub clause_answer : (old mid new : World) (n : ℕ) (c : written.Clause) (k : ClauseTerm) (r : Result (Option Refusal) AllocError) → declarations_of mid ≡ declarations_of old
    → ReadsAs (kinds_in (declarations_of old)) (signature_in (declarations_of old)) c (clause_of mid.types mid.store k)
    → IfOk r (λ o. MatchOption o (IsProgramHead (read mid k.head) × (declarations_of new ≡ declarations_of mid ++ a_program_clause (clause_read mid k) ∷ [])) (λ f. (¬ IsProgramHead (read mid k.head)) × (f ≡ BadHead (n + 1) None)))
    → IfOk r (ItemAnswer old new n (file.clause c))
clause_answer old mid new n c k (Ok None) same reads (head, e) = record {
  more = a_program_clause (clause_read mid k) ∷ [];
  fact = new_clause (record { means = reads.means; atom = reads.same_head.1 head });
  declared = e ∙ ap (λ D. D ++ a_program_clause (clause_read mid k) ∷ []) same;
}
clause_answer old mid new n c k (Ok (Some f)) same reads (other, e) =
    subst (ItemDeclines (declarations_of old) n (file.clause c)) (sym e) (bad_head (record { meant = clause_read mid k; means = reads.means; no_atom = λ h. other (reads.same_head.0 h) }))
clause_answer old mid new n c k (Err m) same reads h = tt
