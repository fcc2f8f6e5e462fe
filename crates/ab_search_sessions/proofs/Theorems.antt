-- What commands outside a proof declare, and the files of a specification, holds no theorem.
use Rattle.std.proofs.Common.{◌≡◌, ℕ, List, [], ◌∷◌, ◌++◌, map, Option, Some, None, bytes_eq, if◌then◌else◌, Bool, true, false, refl, sym, ◌∙◌, ap, subst}
use Rattle.ab_term.specs.Constants.{Constant}
use Rattle.ab_term.specs.Terms.{Read}
use Rattle.ab_term.specs.Types.{Ty}
use Rattle.ab_grammar.specs.CommandTrees.{Command}
use Rattle.ab_grammar.specs.FileTrees.{Item}
use Rattle.ab_formulas.specs.Declarations.{Declarations, Block, a_kind, a_constant, a_block, a_program_clause, a_theorem, theorem_in, theorems_in}
use Rattle.ab_formulas.proofs.Declaring.{or_else, theorem_in-append, theorems_in-append}
use Rattle.ab_logic.specs.Worlds.{declared, defined, member_block, first_declarations}
use Rattle.ab_logic.proofs.Declaring.{theorem-declared}
use Rattle.ab_types.specs.Entries.{first_entries}
use Rattle.ab_declare.specs.DefinitionCommands.{predicate_of, block_with}
use Rattle.ab_declare.specs.DeclarationCommands.{Declares, new_kinds, new_constants, new_predicates}
use Rattle.ab_specification.specs.ItemDeclarations.{ItemDeclares, new_clause, no_declaration}
use Rattle.ab_specification.specs.ItemDeclarations as item
use Rattle.ab_specification.specs.FileDeclarations.{PlacedItem, AllDeclare, no_item, one_more}
use Rattle.ab_search_answers.specs.Unmarked.{HasNoHash}
use Rattle.ab_unhashed_goals.specs.Unhashed.{NoTheoremIsHashed}

-- no theorem is among kinds, constants and predicates

no_kind : (xs : List (List ℕ)) → theorems_in (map a_kind xs) ≡ []
no_kind [] = refl
no_kind (x ∷ xs) = no_kind xs

no_constant : (A : Ty) (xs : List (List ℕ)) → theorems_in (map (λ x. a_constant x A) xs) ≡ []
no_constant A [] = refl
no_constant A (x ∷ xs) = no_constant A xs

no_predicate : (B : Block) (ps : List Constant) → theorems_in (map predicate_of ps ++ a_block B ∷ []) ≡ []
no_predicate B [] = refl
no_predicate B (p ∷ ps) = no_predicate B ps

pub none_declared : {D : Declarations} {c : Command} {more : Declarations} → Declares D c more → theorems_in more ≡ []
none_declared (new_kinds {xs = xs} e) = no_kind xs
none_declared (new_constants {xs = xs} {A = A} e t d) = no_constant A xs
none_declared (new_predicates {inductive = i} d) = ap theorems_in d.is ∙ no_predicate (defined (block_with i d.predicates d.clauses)) d.predicates

none_by_item : {D : Declarations} {i : Item} {more : Declarations} → ItemDeclares D i more → theorems_in more ≡ []
none_by_item (item.new_kinds d) = none_declared d
none_by_item (item.new_constants d) = none_declared d
none_by_item (new_clause m) = refl
none_by_item no_declaration = refl

pub none_by_items : {D : Declarations} {is : List PlacedItem} {more : Declarations} → AllDeclare D is more → theorems_in more ≡ []
none_by_items no_item = refl
none_by_items (one_more {more = more} {rest = rest} d r) = theorems_in-append more rest ∙ ap (λ ts. ts ++ theorems_in rest) (none_by_item d) ∙ none_by_items r

-- so none is found
no_theorem : (E : Declarations) → theorems_in E ≡ [] → (x : List ℕ) → theorem_in E x ≡ None
no_theorem [] none x = refl
no_theorem (a_kind k ∷ E) none x = no_theorem E none x
no_theorem (a_constant c A ∷ E) none x = no_theorem E none x
no_theorem (a_block b ∷ E) none x = no_theorem E none x
no_theorem (a_program_clause c ∷ E) none x = no_theorem E none x
no_theorem (a_theorem n F js ∷ E) none x = absurd (cc)

pub none_hashed : (E : Declarations) → theorems_in E ≡ [] → NoTheoremIsHashed E
none_hashed E none x F e = absurd (let clash : None ≡ Some F = sym (no_theorem E none x) ∙ e in cc)

-- what is declared behind
pub theorems_behind : (D E : Declarations) → NoTheoremIsHashed D → NoTheoremIsHashed E → NoTheoremIsHashed (D ++ E)
theorems_behind D E d e x F h = go (theorem_in D x) refl (sym (theorem_in-append D E x) ∙ h)
  where
    go : (f : Option Read) → theorem_in D x ≡ f → or_else f (theorem_in E x) ≡ Some F → HasNoHash F
    go None q r = e x F r
    go (Some G) q r = d x F (q ∙ r)

-- one theorem
pub one_theorem : (n : List ℕ) (G : Read) (js : List ℕ) → HasNoHash G → NoTheoremIsHashed (a_theorem n G js ∷ [])
one_theorem n G js none x F h = go (bytes_eq x n) h
  where
    go : (b : Bool) → (if b then Some G else None) ≡ Some F → HasNoHash F
    go true e = let same : G ≡ F = cc in subst HasNoHash same none
    go false e = absurd (cc)

-- what is built in has none
pub first_theorems : NoTheoremIsHashed first_declarations
first_theorems = theorems_behind (declared first_entries) (a_block member_block ∷ []) (λ x F e. absurd (let clash : None ≡ Some F = sym (theorem-declared first_entries x) ∙ e in cc)) (none_hashed (a_block member_block ∷ []) refl)
