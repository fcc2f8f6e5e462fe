-- THE SEARCH IS COMPLETE to its depth: where the first goal has a derivation by guesses, its tree has a leaf.
use Rattle.std.proofs.Common.{◌≡◌, ℕ, suc, List, ◌∷◌, true, false, Some}
use Rattle.std.specs.Prelude.{Contains}
use Rattle.std.proofs.lemmas.Bool.{false≢true}
use Rattle.ab_term.specs.Terms.{Read}
use Rattle.ab_formulas.specs.Declarations.{Declarations, signature_in}
use Rattle.ab_formulas.specs.Forms.{other, form_of}
use Rattle.ab_theory.specs.Atoms.{Defined, Choice, defined_atom, choices_of}
use Rattle.ab_search_trees.specs.Goals.{Goal, asking}
use Rattle.ab_search_trees.specs.Judgements.{opened_once}
use Rattle.ab_search_trees.specs.Ways.{unfolds}
use Rattle.ab_search_trees.specs.Guesses.{Guessed, by_truth, by_hypothesis, by_equality, by_both, by_left, by_right, by_assuming, by_constant, by_term, by_variable, by_layer, by_clause, by_rule, IsGuessedFor, unfolded_to}
use Rattle.ab_search_trees.proofs.Against.{Finds}
use Rattle.ab_search_trees.proofs.ByForm.{finds_truth, finds_equal, finds_both, finds_left, finds_right, finds_assuming}
use Rattle.ab_search_trees.proofs.Quantifiers.{finds_constant, finds_term, finds_variable}
use Rattle.ab_search_trees.proofs.Hypotheses.{finds_hypothesis}

module _ (D : Declarations) where
  -- what is asked of the way by a clause, and of that by a layer of a judgement
  abbrev pub ByClause : Type 0
  ByClause = (h : Goal) (depth : ℕ) (d : Defined) (c : Choice) (us : List Read) → h.depth ≡ suc depth → defined_atom D h.conclusion ≡ Some d → unfolds d.sign ≡ true → Contains (choices_of h.constants d) c → IsGuessedFor (signature_in D) d c us
      → (hs : List Goal) → Finds D (unfolded_to depth h d c us ∷ hs) → Finds D (h ∷ hs)

  abbrev pub ByLayer : Type 0
  ByLayer = (h : Goal) (n : ℕ) (F : Read) → form_of h.conclusion ≡ other → opened_once h.conclusion ≡ Some F → h.layers ≡ suc n
      → (hs : List Goal) → Finds D (record (asking F h) { layers = n } ∷ hs) → Finds D (h ∷ hs)

  module _ (clauses : ByClause) (layers : ByLayer) where
    pub guessed_finds : {h : Goal} → Guessed D false h → (hs : List Goal) → Finds D hs → Finds D (h ∷ hs)
    guessed_finds (by_truth {g = h} e) hs c = finds_truth D h e hs c
    guessed_finds (by_hypothesis {g = h} B ns there targets same serves) hs c = finds_hypothesis D h B ns there targets same serves hs c
    guessed_finds (by_equality {g = h} {A = A} {t = t} {u = u} e same) hs c = finds_equal D h A t u e same hs c
    guessed_finds (by_both {g = h} {A = A} {B = B} e p q) hs c = finds_both D h A B e hs (guessed_finds p (asking B h ∷ hs) (guessed_finds q hs c)) (guessed_finds q (asking A h ∷ hs) (guessed_finds p hs c))
    guessed_finds (by_left {g = h} {A = A} {B = B} e p) hs c = finds_left D h A B e hs (guessed_finds p hs c)
    guessed_finds (by_right {g = h} {A = A} {B = B} e p) hs c = finds_right D h A B e hs (guessed_finds p hs c)
    guessed_finds (by_assuming {g = h} {A = A} {B = B} e p) hs c = finds_assuming D h A B e hs (guessed_finds p hs c)
    guessed_finds (by_constant {g = h} {A = A} {F = F} e p) hs c = finds_constant D h A F e hs (guessed_finds p hs c)
    guessed_finds (by_term {g = h} {A = A} {F = F} t e typed of p) hs c = finds_term D h A F t e typed of hs (guessed_finds p hs c)
    guessed_finds (by_variable {g = h} {A = A} {F = F} e clean p) hs c = finds_variable D h A F e clean hs (λ n new. guessed_finds (p n new) hs c)
    guessed_finds (by_layer {g = h} {n = n} {F = F} e o l p) hs c = layers h n F e o l hs (guessed_finds p hs c)
    guessed_finds (by_rule j r n us allowed deep is may one above meets p) hs c = absurd (false≢true allowed)
    guessed_finds (by_clause {g = h} {depth = depth} d k us e atom may there guess p) hs c = clauses h depth d k us e atom may there guess hs (guessed_finds p hs c)
