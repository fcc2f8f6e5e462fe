-- A term that is a name up to eta.
use Rattle.std.proofs.Common.{◌≡◌, ℕ, List, [], ◌++◌, map, true, false, ◌&&◌, Option, Some, None, IfSome, codes, refl, sym, ◌∙◌, ap, subst}
use Rattle.std.specs.Prelude.{Contains}
use Rattle.std.proofs.lemmas.Bool.{false_from_ne_true, false≢true}
use Rattle.ab_term.specs.Types.{Ty}
use Rattle.ab_term.specs.Terms as tree
use Rattle.ab_term.specs.Terms.{Variable, Term, no_terms}
use Rattle.ab_term.specs.Variables.{variables, variables_of_head}
use Rattle.ab_term.specs.Expansion.{expansion}
use Rattle.ab_term.specs.Translation.{EqualPastHints}
use Rattle.ab_term.specs.Abstraction.{is_name}
use Rattle.ab_term.specs.EtaHeads.{inner_head, expands}
use Rattle.ab_term.proofs.Recognising.{expands-Decides}
use Rattle.ab_term.proofs.Lists.{Contains-none}
use Rattle.ab_term.proofs.Stands.{variables-expansion_of}
use Rattle.ab_norm.specs.ab_types.specs.Entries.{Table}
use Rattle.ab_norm.specs.ab_store.specs.declared.node.TermId.{TermId}
use Rattle.ab_norm.specs.ab_store.specs.Trees.{Contents, tree_of}
use Rattle.ab_norm.specs.ab_store.specs.Bindings.{IsResolved}
use Rattle.ab_norm.proofs.Clear.{resolved_by}
use Rattle.ab_unifiers.specs.Patterns.{tested_name, name_if, name_of}

pub if_some : {T : Type 0} {P Q : T → Type 0} (o : Option T) → ((v : T) → P v → Q v) → IfSome o P → IfSome o Q
if_some (Some v) f h = f v h
if_some None f h = h

-- no variable is a name's
no_variable : (h : tree.Head ℕ) → is_name h ≡ true → variables_of_head h ≡ []
no_variable (tree.constant c) e = refl
no_variable (tree.logical l) e = refl
no_variable (tree.nominal a) e = refl
no_variable (tree.variable y) e = absurd (false≢true e)
no_variable (tree.index i) e = refl

pub name_resolved : (types : Table) (s : Contents) (r : TermId) (x : List ℕ) (A : Ty) (h : tree.Head ℕ) → is_name h ≡ true → tree_of types s r ≡ expansion x A h → IsResolved s r
name_resolved types s r x A h name e =
    let none : variables (tree_of types s r) ≡ [] = ap variables e ∙ variables-expansion_of x A h no_terms ∙ ap (λ l. l ++ []) (no_variable h name) in
    resolved_by types s r (λ n m. absurd (Contains-none n (subst (λ l. Contains (map (λ (y : Variable ℕ). y.name) l) n) none m)))

module _ (A : Ty) (t u : Term ℕ (List ℕ)) (h : tree.Head ℕ) (form : u ≡ expansion (codes "x") A h) where
  same_then : EqualPastHints t u → expands A t h ≡ true
  same_then e = (expands-Decides (codes "x") A t h).1 (subst (EqualPastHints t) form e)

  other_then : (EqualPastHints t u → ⊥) → expands A t h ≡ false
  other_then n = false_from_ne_true (expands A t h) (λ e. n (subst (EqualPastHints t) (sym form) ((expands-Decides (codes "x") A t h).0 e)))

  module _ (s : Term ℕ (List ℕ)) (before : t ≡ s) (inner : Some h ≡ inner_head s) (name : true ≡ is_name h) where
    tested : name_of A s ≡ name_if (expands A s h) h
    tested = ap (tested_name A s) (sym inner) ∙ ap (λ b. name_if (b && expands A s h) h) (sym name)

    pub name_found : EqualPastHints t u → Some h ≡ name_of A s
    name_found e = sym (tested ∙ ap (λ r. name_if (expands A r h) h) (sym before) ∙ ap (λ b. name_if b h) (same_then e))

    pub name_missed : (EqualPastHints t u → ⊥) → None ≡ name_of A s
    name_missed n = sym (tested ∙ ap (λ r. name_if (expands A r h) h) (sym before) ∙ ap (λ b. name_if b h) (other_then n))
