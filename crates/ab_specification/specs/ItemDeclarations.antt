-- What an item of a specification file declares, where others were declared before it, and when it is refused. Kinds and
-- constants are declared as the commands declare them, and a clause is one of the program.
use Rattle.std.specs.Prelude.{ℕ, ◌+◌, List, [], ◌∷◌, None}
use Rattle.ab_term.specs.Types.{o}
use Rattle.ab_grammar.specs.Tree.{Ty}
use Rattle.ab_grammar.specs.CommandTrees as command
use Rattle.ab_grammar.specs.CommandTrees.{Clause}
use Rattle.ab_grammar.specs.FileTrees.{Item, kinds, constants, clause, accumulation}
use Rattle.ab_unifiers.specs.Clauses as cases
use Rattle.ab_formulas.specs.Declarations.{Declarations, a_program_clause, signature_in}
use Rattle.ab_formulas.specs.Programs.{IsProgramHead}
use Rattle.ab_meaning.specs.Terms.{kinds_in}
use Rattle.ab_inference.specs.declared.fault.InferFault.{InferFault}
use Rattle.ab_declare.specs.declared.refusal.Refusal.{Refusal}
use Rattle.ab_declare.specs.declared.refusal.Refusal.TheVariants.{BadHead}
use Rattle.ab_declare.specs.Refusals.{RefusedFor}
use Rattle.ab_declare.specs.ClauseMeanings.{ClauseMeans, ClauseMeansNothing}
use Rattle.ab_declare.specs.DeclarationCommands.{Declares, Declines}

module _ (D : Declarations) where
  -- THE CLAUSE IS THIS ONE OF THE PROGRAM: by its one reading its head is a formula of the specification logic, and so is its
  -- body, which is `true` where none is written; and the head is a constant with what it is given
  pub record IsInProgram (c : Clause) (k : cases.Clause (List ℕ)) : Type 0 where
    pub means : ClauseMeans (kinds_in D) (signature_in D) c o k
    pub atom : IsProgramHead means.kept.head

  -- it has such a reading, but its head is something else
  pub record HasBadHead (c : Clause) : Type 0 where
    pub meant : cases.Clause (List ℕ)
    pub means : ClauseMeans (kinds_in D) (signature_in D) c o meant
    pub no_atom : ¬ IsProgramHead means.kept.head

  -- THE ITEM DECLARES THESE
  pub data ItemDeclares : Item → Declarations → Type 0 where
    new_kinds : {xs : List (List ℕ)} {more : Declarations} → Declares D (command.kinds xs) more → ItemDeclares (kinds xs) more
    new_constants : {xs : List (List ℕ)} {A : Ty} {more : Declarations} → Declares D (command.constants xs A) more → ItemDeclares (constants xs A) more
    new_clause : {c : Clause} {k : cases.Clause (List ℕ)} → IsInProgram c k → ItemDeclares (clause c) (a_program_clause k ∷ [])
    -- an accumulation declares nothing itself
    no_declaration : {xs : List (List ℕ)} → ItemDeclares (accumulation xs) []

  -- THE ITEM IS REFUSED, where so many clauses of its file stand before it
  pub data ItemDeclines (clauses_before : ℕ) : Item → Refusal → Type 0 where
    no_kinds : {xs : List (List ℕ)} {r : Refusal} → Declines D (command.kinds xs) r → ItemDeclines clauses_before (kinds xs) r
    no_constants : {xs : List (List ℕ)} {A : Ty} {r : Refusal} → Declines D (command.constants xs A) r → ItemDeclines clauses_before (constants xs A) r
    -- a name of the clause stands for nothing, or it has no reading, or several
    clause_unread : {c : Clause} {r : Refusal} (f : InferFault) → ClauseMeansNothing (kinds_in D) (signature_in D) c o f → RefusedFor f r → ItemDeclines clauses_before (clause c) r
    -- clauses are counted from 1
    bad_head : {c : Clause} → HasBadHead c → ItemDeclines clauses_before (clause c) (BadHead (clauses_before + 1) None)
