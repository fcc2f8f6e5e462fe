-- Pruning a term is the same where a variable that doesn't stand in it may not be replaced.
use Rattle.std.proofs.Common.{◌≡◌, ◌≢◌, ℕ, List, Bool, true, false, ◌||◌, cond, codes, refl, sym, ◌∙◌, ap}
use Rattle.std.proofs.lemmas.Bool.{false≢true, false_from_ne_true}
use Rattle.ab_term.specs.Terms.{Variable, Head, constant, logical, nominal, variable, index, Term, Terms, lam, spine, no_terms, term}
use Rattle.ab_term.specs.Variables.{image}
use Rattle.ab_term.specs.Sameness.{same_number}
use Rattle.ab_term.specs.Abstraction.{under}
use Rattle.ab_term.proofs.Same.{same_numbered-Decides}
use Rattle.ab_norm.specs.ab_types.specs.Entries.{Table}
use Rattle.ab_norm.specs.ab_store.specs.declared.node.CellId.{CellId}
use Rattle.ab_norm.specs.ab_store.specs.Trees.{Contents}
use Rattle.ab_norm.specs.ab_store.specs.Reading.{cell_variable}
use Rattle.ab_patterns.specs.ab_unifiers.specs.Replacements.{Change, holds, without, is_flexible, occurs, pruned_here, pruned, pruned_all}
use Rattle.ab_patterns.specs.ab_unifiers.proofs.Avoiding.{HeadAvoids, Avoids, AllAvoid, head_avoids, avoids_if, without_held}
use Rattle.ab_patterns.specs.ab_unifiers.proofs.Falling.{holds_without}
use Rattle.ab_unify.specs.Problem.{variables_read}
use Rattle.ab_unify.specs.StoreChanges.{others_than}
use Rattle.ab_unify.proofs.Listed.{variables_without}

module _ (y : Variable ℕ) (ys : List (Variable ℕ)) where
  still_held : (z : Variable ℕ) → y ≢ z → holds (without y ys) z ≡ holds ys z
  still_held z n = go (holds ys z) refl
    where
      go : (b : Bool) → holds ys z ≡ b → holds (without y ys) z ≡ b
      go true e = holds_without y z n ys e
      go false e = false_from_ne_true (holds (without y ys) z) (λ f. false≢true (sym e ∙ without_held y ys z f))

  other : (z : Variable ℕ) → HeadAvoids y (variable z) → y ≢ z
  other z a e = false≢true (sym a ∙ ap (λ b. b || false) ((same_numbered-Decides z y).1 (sym e)))

  as_flexible : (h : Head ℕ) → HeadAvoids y h → is_flexible (without y ys) h ≡ is_flexible ys h
  as_flexible (constant c) a = refl
  as_flexible (logical l) a = refl
  as_flexible (nominal n) a = refl
  as_flexible (variable z) a = still_held z (other z a)
  as_flexible (index i) a = refl

  module _ (x : List ℕ) where
    mutual
      pub pruned_without : (names : List (Head ℕ)) (t : Term ℕ (List ℕ)) (c : Change (List ℕ)) → Avoids y t → pruned x (without y ys) names t c ≡ pruned x ys names t c
      pruned_without names (lam A z t) c a = pruned_without (under names) t c a
      pruned_without names (spine h ts) c a =
          ap (λ b. cond b (pruned_here x names (image same_number c.pairs (spine h ts)) c) (pruned_all x (without y ys) names ts c)) (as_flexible h (head_avoids y h a.0))
          ∙ ap (cond (is_flexible ys h) (pruned_here x names (image same_number c.pairs (spine h ts)) c)) (all_pruned_without names ts c a.1)

      all_pruned_without : (names : List (Head ℕ)) (ts : Terms ℕ (List ℕ)) (c : Change (List ℕ)) → AllAvoid y ts → pruned_all x (without y ys) names ts c ≡ pruned_all x ys names ts c
      all_pruned_without names no_terms c a = refl
      all_pruned_without names (term t ts) c a =
          ap (pruned_all x (without y ys) names ts) (pruned_without names t c a.0) ∙ all_pruned_without names ts (pruned x ys names t c) a.1

pub pruned_others : (types : Table) (store : Contents) (cell : CellId) (ds : List CellId) (names : List (Head ℕ)) (t : Term ℕ (List ℕ)) (c : Change (List ℕ)) → occurs (cell_variable types store cell) t ≡ false
    → pruned (codes "x") (variables_read types store (others_than cell ds)) names t c ≡ pruned (codes "x") (variables_read types store ds) names t c
pruned_others types store cell ds names t c absent =
    ap (λ ys. pruned (codes "x") ys names t c) (variables_without types store cell ds)
    ∙ pruned_without (cell_variable types store cell) (variables_read types store ds) (codes "x") names t c (avoids_if (cell_variable types store cell) t absent)
