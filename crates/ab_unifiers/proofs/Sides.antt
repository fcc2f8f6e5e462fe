-- The equations of an alternative, one for each argument.
use Rattle.std.proofs.Common.{◌≡◌, ℕ, suc, List, [], ◌∷◌}
use Rattle.std.specs.Prelude.{All}
use Rattle.std.proofs.lemmas.List.Elements.{All-cons, All-nil}
use Rattle.ab_term.specs.Types.{Ty, kind}
use Rattle.ab_term.specs.Terms.{Term, Terms, no_terms, term}
use Rattle.ab_term.specs.Typing.{Signature, TakeType, take_term}
use Rattle.ab_term.specs.Translation.{forget, forget_all}
use Rattle.ab_term.specs.Variables.{Substitution, image, image_all}
use Rattle.ab_term.specs.Sameness.{same_number}
use Rattle.ab_unifiers.specs.Unifiers.{sides, AreTyped, IsOver, AreOver, Unifies}
use Rattle.ab_unifiers.specs.Replacements.{Cell}
use Rattle.ab_unifiers.specs.Alternatives.{arguments_equal}

module _ (sg : Signature) {Hint : Type 0} (x : Hint) where
  pub arguments_typed : (p : ℕ) {A : Ty} {k l : List ℕ} (ts us : Terms ℕ Hint) → TakeType sg [] ts A (kind k) → TakeType sg [] us A (kind l) → AreTyped sg (arguments_equal x p ts us)
  arguments_typed p no_terms us d e = tt
  arguments_typed p (term t ts) no_terms d e = tt
  arguments_typed p (term t ts) (term u us) (take_term {A = A} d ds) (take_term e es) = (([], A, d, e), arguments_typed (suc p) ts us ds es)

  pub arguments_unify : (s : Substitution ℕ Hint) (p : ℕ) (ts us : Terms ℕ Hint) → forget_all (image_all same_number s ts) ≡ forget_all (image_all same_number s us) → Unifies s (arguments_equal x p ts us)
  arguments_unify s p no_terms us e = tt
  arguments_unify s p (term t ts) no_terms e = tt
  arguments_unify s p (term t ts) (term u us) e =
      let one : forget (image same_number s t) ≡ forget (image same_number s u) = cc in
      let more : forget_all (image_all same_number s ts) ≡ forget_all (image_all same_number s us) = cc in
      (one, arguments_unify s (suc p) ts us more)

  -- a property of all arguments
  module _ (Q : Term ℕ Hint → Type 0) where
    abbrev pub EachTerm : Terms ℕ Hint → Type 0
    EachTerm no_terms = Unit {0}
    EachTerm (term t ts) = Q t × EachTerm ts

    pub all_sides : (p : ℕ) (ts us : Terms ℕ Hint) → EachTerm ts → EachTerm us → All Q (sides (arguments_equal x p ts us))
    all_sides p no_terms us e f = All-nil Q
    all_sides p (term t ts) no_terms e f = All-nil Q
    all_sides p (term t ts) (term u us) e f = All-cons Q t (u ∷ sides (arguments_equal x (suc p) ts us)) e.0 (All-cons Q u (sides (arguments_equal x (suc p) ts us)) f.0 (all_sides (suc p) ts us e.1 f.1))

  -- equations of terms over the cells
  pub arguments_over : (cells : List (Cell Hint)) (p : ℕ) (ts us : Terms ℕ Hint) → EachTerm (IsOver cells) ts → EachTerm (IsOver cells) us → AreOver cells (arguments_equal x p ts us)
  arguments_over cells p no_terms us e f = tt
  arguments_over cells p (term t ts) no_terms e f = tt
  arguments_over cells p (term t ts) (term u us) e f = (e.0, f.0, arguments_over cells (suc p) ts us e.1 f.1)
