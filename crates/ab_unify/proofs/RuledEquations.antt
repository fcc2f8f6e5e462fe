-- All rules, from those that replace no variable and the others.
use Rattle.std.proofs.Common.{◌≡◌, ℕ, List, Option, Some, None, codes, refl, ◌∙◌, ap, subst}
use Rattle.std.specs.Prelude.{All}
use Rattle.ab_term.specs.Terms.{Variable}
use Rattle.ab_norm.specs.ab_types.specs.Entries.{Table}
use Rattle.ab_norm.specs.ab_store.specs.declared.node.CellId.{CellId}
use Rattle.ab_norm.specs.ab_store.specs.Trees.{Contents}
use Rattle.ab_norm.specs.ab_store.specs.Naming.{IsTypedBy}
use Rattle.ab_norm.specs.NodeGrowth.{AddsTypedTerms}
use Rattle.ab_patterns.specs.ab_unifiers.specs.Replacements.{Cell}
use Rattle.ab_patterns.specs.ab_unifiers.specs.Unification.{Equation, Result, or_else, equal_sides, bodies, rigid_heads, rule}
use Rattle.ab_unify.specs.declared.flexible_rules.Step.{Step}
use Rattle.ab_unify.specs.Problem.{cells_read, variables_read}
use Rattle.ab_unify.specs.StoreChanges.{IsFree}
use Rattle.ab_unify.specs.Outcome.{still, Says, Tells, last_rules}
use Rattle.ab_unify.proofs.Pruned.{changed_on}
use Rattle.ab_unify.proofs.Keeping.{Keeps, keeps_itself, still_same, keeps_then}
use Rattle.ab_unify.proofs.Parts.{first_rules}

or_assoc : (a b c r : Option (Result (List ℕ))) → or_else a (or_else b (or_else c r)) ≡ or_else (or_else a (or_else b c)) r
or_assoc (Some x) b c r = refl
or_assoc None (Some x) c r = refl
or_assoc None None c r = refl

pub last_none : (a b c : Option (Result (List ℕ))) → or_else a (or_else b c) ≡ None → c ≡ None
last_none (Some x) b c e = absurd (cc)
last_none None (Some x) c e = absurd (cc)
last_none None None c e = e

module _ (cells : List (Cell (List ℕ))) (ys : List (Variable ℕ)) (e : Equation (List ℕ)) where
  rule_is : rule (codes "x") cells ys e ≡ or_else (first_rules ys e) (last_rules cells ys e.left e.right)
  rule_is = or_assoc (equal_sides e) (bodies e.place e.left e.right) (rigid_heads ys e.place e.left e.right) (last_rules cells ys e.left e.right)

  pub rule_some : (r : Result (List ℕ)) → first_rules ys e ≡ Some r → rule (codes "x") cells ys e ≡ Some r
  rule_some r is = rule_is ∙ ap (λ o. or_else o (last_rules cells ys e.left e.right)) is

  pub rule_rest : first_rules ys e ≡ None → rule (codes "x") cells ys e ≡ last_rules cells ys e.left e.right
  rule_rest is = rule_is ∙ ap (λ o. or_else o (last_rules cells ys e.left e.right)) is

module _ (types : Table) (store mid : Contents) (F : List CellId) (typed : IsTypedBy types store) (free : All (IsFree store) F) (adds : AddsTypedTerms types store mid) where
  pub keeps_terms : Keeps types store F types mid F
  keeps_terms = changed_on types store F (still types store F) types store mid F (keeps_itself types store F typed free) adds

  -- what is told of an equation once terms are added, for the store before
  pub tells_before : (more : Table) (now : Contents) (H : List CellId) (r : Step) (o q : Option (Result (List ℕ))) → o ≡ q → Tells types mid F more now H r o → Tells types store F more now H r q
  tells_before more now H r o q e t = record {
    change = t.change;
    changed = keeps_then types types store mid F F keeps_terms more now H t.change t.changed;
    says = subst (Says more now r (still types store F) t.change) e (subst (λ n. Says more now r n t.change o) (still_same types types store mid F F keeps_terms) t.says);
  }

  pub same_rule : (e f : Equation (List ℕ)) → e ≡ f → rule (codes "x") (cells_read types mid) (variables_read types mid F) e ≡ rule (codes "x") (cells_read types store) (variables_read types store F) f
  same_rule e f is =
      ap (λ l. rule (codes "x") l (variables_read types mid F) e) keeps_terms.cells
      ∙ ap (λ l. rule (codes "x") (cells_read types store) l e) keeps_terms.still
      ∙ ap (rule (codes "x") (cells_read types store) (variables_read types store F)) is
