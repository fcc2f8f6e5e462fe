-- An alternative on the left: its parts are as `Parts` asks, whether constants are new or not.
use Rattle.std.proofs.Common.{◌≡◌, ◌⊎◌, ℕ, suc, List, [], ◌∷◌, ◌++◌, map, length, true, Some, refl, sym, ◌∙◌, ap, arith, length-append}
use Rattle.std.specs.Prelude.{Contains}
use Rattle.std.proofs.lemmas.Bool.{false≢true}
use Rattle.std.proofs.lemmas.List.Elements.{All-nil}
use Rattle.ab_term.specs.Types.{Ty, prop}
use Rattle.ab_term.specs.Terms.{Nominal, Variable, constant, variable, Term, spine, Terms}
use Rattle.ab_term.specs.Typing.{Signature, HasType}
use Rattle.ab_term.specs.Translation.{forget, EqualPastHints}
use Rattle.ab_term.specs.Names.{support_of_all}
use Rattle.ab_term.specs.Variables.{Substitution, variables, variables_of_all, value_in, image, image_by, IsTyped}
use Rattle.ab_term.proofs.Compositions.{image_typed}
use Rattle.ab_term.proofs.Expansions.{expansion_typed}
use Rattle.ab_term.specs.Sameness.{same_number}
use Rattle.ab_unifiers.specs.Replacements.{Cell, holds}
use Rattle.ab_unifiers.specs.Unification.{Answer, unified, apart, stuck, Solves}
use Rattle.ab_unifiers.specs.Unifiers.{AreDifferent, AreKnown, given}
use Rattle.ab_term.proofs.Depends.{image_nothing}
use Rattle.ab_unifiers.specs.Clauses.{Clause, Each, numbered, clause_variables, clause_names, put_together, name_term, filled, head_of, IsClause, AreFor}
use Rattle.ab_unifiers.specs.Choices.{outside, in_order}
use Rattle.ab_unifiers.specs.Alternatives.{Scope, Alternative, cells_over, cells_of, made_over, made_terms, on_left, analysed, alternative}
use Rattle.ab_unifiers.proofs.Past.{bare_own, own, bare, forget-image, forget-own}
use Rattle.ab_unifiers.proofs.Constants.{Has}
use Rattle.ab_unifiers.proofs.Variables.{Has as OverVars}
use Rattle.ab_unifiers.proofs.Rows.{each_any, each_held, found_each, found_has, found_none, nothing_found, together_typed, numbered_within, numbered_different}
use Rattle.ab_unifiers.proofs.Lifting.{Same, own_value, lifted, OfCells, lifted_each, made_terms_typed}
use Rattle.ab_unifiers.proofs.Core.{AreOver, made_are_over, Parts}
use Rattle.ab_unifiers.proofs.Unifier.{made_have, made_over_vars, append-none, gives}
use Rattle.ab_unifiers.proofs.Choosing.{in_or_outside, outside_contains, ordered_contains}

module _ (sg : Signature) {Hint : Type 0} (x : Hint) (cells : List (Cell Hint)) where
  old_over : (V : List (Variable ℕ)) → AreOver sg x [] V (cells_of x cells V)
  old_over [] = tt
  old_over (y ∷ V) = (refl, old_over V)

  pub targets_typed : (s : Substitution ℕ Hint) → IsTyped sg s → (V : List (Variable ℕ)) → OfCells sg x (cells_of x cells V) (map (λ y. image same_number s (own x y)) V)
  targets_typed s p [] = tt
  targets_typed s p (y ∷ V) = (image_typed sg same_number s p (expansion_typed sg x y.type [] (variable y) refl), targets_typed s p V)

  -- for the variables themselves in the place of their cells
  rekeyed : (Q : Term ℕ Hint → Type 0) (n : ℕ) (V : List (Variable ℕ)) (ts : List (Term ℕ Hint)) → Each (λ y t. Q t) (numbered n (cells_of x cells V)) ts → Each (λ y t. Q t) V ts
  rekeyed Q n [] [] e = tt
  rekeyed Q n [] (t ∷ ts) e = absurd e
  rekeyed Q n (y ∷ V) [] e = absurd e
  rekeyed Q n (y ∷ V) (t ∷ ts) e = (e.0, rekeyed Q (suc n) V ts e.1)

  pub own_typed : (V : List (Variable ℕ)) (ts : List (Term ℕ Hint)) → OfCells sg x (cells_of x cells V) ts → Each (λ y t. HasType sg [] t y.type) V ts
  own_typed [] [] e = tt
  own_typed [] (t ∷ ts) e = absurd e
  own_typed (y ∷ V) [] e = absurd e
  own_typed (y ∷ V) (t ∷ ts) e = (e.0, own_typed V ts e.1)

  -- nothing is raised: each variable is what s makes of it
  module _ (s u : Substitution ℕ Hint) (u_typed : IsTyped sg u) where
    unraised : (V : List (Variable ℕ)) → Each (λ z v. value_in same_number u z ≡ Some v) V (lifted sg x [] (cells_of x cells V) (map (λ y. image same_number s (own x y)) V))
        → Each (λ y t. Same (bare {Hint = Hint} []) (bare u) (bare s) y) V (map (λ y. image same_number s (own x y)) V)
    unraised [] e = tt
    unraised (y ∷ V) e = (
      ap (image_by (bare u)) (image_nothing (bare_own y))
          ∙ own_value sg u u_typed y (image same_number s (own x y)) e.0
          ∙ forget-image s (own x y) ∙ ap (image_by (bare s)) (forget-own x y),
      unraised V e.1,
    )

    targets_met : (a : Substitution ℕ Hint) (V : List (Variable ℕ)) → Each (λ y t. image_by (bare u) (image_by (bare a) (bare_own y)) ≡ forget t) V (map (λ y. image same_number s (own x y)) V)
        → Each (λ y t. Same (bare a) (bare u) (bare s) y) V (map (λ y. image same_number s (own x y)) V)
    targets_met a [] e = tt
    targets_met a (y ∷ V) e = (e.0 ∙ forget-image s (own x y) ∙ ap (image_by (bare s)) (forget-own x y), targets_met a V e.1)

module _ (sg : Signature) {Hint : Type 0} (x : Hint) (sequent : Scope Hint) (ts : Terms ℕ Hint) (c : Clause Hint) (ns : List Nominal) (us : List (Term ℕ Hint)) (s : Substitution ℕ Hint)
    (different : AreDifferent sequent.variables) (in_cells : AreKnown sequent.cells sequent.variables) (is_clause : IsClause sg c)
    (atom_typed : HasType sg [] (spine (constant c.predicate) ts) prop) (atom_variables : (y : Variable ℕ) → holds (variables_of_all ts) y ≡ true → holds sequent.variables y ≡ true)
    (us_for : AreFor sg (clause_variables c) us) (us_hold : Each (λ k u. Has (λ a. ¬ (Contains ns a)) u) c.variables us) (names_for : AreFor sg (clause_names c) (map (name_term x) ns))
    (s_typed : IsTyped sg s) (s_holds : (y : Variable ℕ) (t : Term ℕ Hint) → value_in same_number s y ≡ Some t → Has (λ a. ¬ (Contains (in_order (support_of_all ts)) a)) t)
    (guessed : EqualPastHints (image same_number (filled x c us ns) (head_of c)) (image same_number s (spine (constant c.predicate) ts))) where
  abbrev S : List Nominal
  S = in_order (support_of_all ts)

  abbrev left : List Nominal
  left = outside S ns

  abbrev V : List (Variable ℕ)
  V = sequent.variables

  abbrev cs : List (Cell Hint)
  cs = cells_of x sequent.cells V

  abbrev targets : List (Term ℕ Hint)
  targets = map (λ y. image same_number s (own x y)) V

  plain_parts : ((a : Nominal) → Contains ns a → Contains S a ⊎ Contains [] a) → Parts sg Hint x V cs ts c us ns S [] left (length sequent.cells) V [] s
  plain_parts chosen = record {
    is_clause = is_clause;
    atom_typed = atom_typed;
    atom_variables = atom_variables;
    us_for = us_for;
    us_hold = us_hold;
    names_for = names_for;
    s_typed = s_typed;
    s_holds = s_holds;
    guessed = guessed;
    chosen = chosen;
    fresh_chosen = λ a m. absurd (omega (arith, m.1));
    others = λ a m. in_or_outside S ns a m;
    left_in = λ a m. (outside_contains S ns a m).0;
    atom_in = λ a m. ordered_contains (support_of_all ts) a m;
    olds_over = old_over sg x sequent.cells V;
    old_many = targets_typed sg x sequent.cells s s_typed V;
    olds_different = different;
    olds_below = in_cells;
    raised_typed = All-nil (λ p. HasType sg [] p.1 p.0.type);
    raised_hold = λ y t e. nothing_found (Has (λ a. Contains [] a)) y t e;
    raised_known = λ y t e. nothing_found (OverVars (λ z. holds V z ≡ true)) y t e;
    raised_stays = λ y e h. h;
    raised_same = λ u p found y h. each_held (λ y t. Same (bare {Hint = Hint} []) (bare u) (bare s) y) (Same (bare {Hint = Hint} []) (bare u) (bare s)) (λ z t r. r) V targets (unraised sg x sequent.cells s u p V found) y h;
  }

  module _ (fresh : List Nominal) (chosen : (a : Nominal) → Contains ns a → Contains S a ⊎ Contains fresh a) (fresh_chosen : (a : Nominal) → Contains fresh a → Contains ns a) where
    abbrev n : ℕ
    n = length sequent.cells

    abbrev olds : List (Variable ℕ)
    olds = made_over x n fresh cs

    abbrev new_terms : List (Term ℕ Hint)
    new_terms = made_terms x n fresh cs

    abbrev raised : Substitution ℕ Hint
    raised = put_together V new_terms

    new_typed : Each (λ y t. HasType sg [] t y.type) V new_terms
    new_typed = own_typed sg x sequent.cells V new_terms (made_terms_typed sg x n fresh cs)

    raising_typed : IsTyped sg raised
    raising_typed = together_typed sg V new_terms new_typed

    all_found : (Q : Term ℕ Hint → Type 0) → Each (λ y t. Q t) V new_terms → (y : Variable ℕ) (t : Term ℕ Hint) → value_in same_number raised y ≡ Some t → Q t
    all_found Q e y t f = found_has Q V new_terms [] e (nothing_found Q) y t (ap (λ q. value_in same_number q y) (append-none raised) ∙ f)

    raised_parts : Parts sg Hint x V cs ts c us ns S fresh left (length (sequent.cells ++ cells_over x fresh cs)) olds raised s
    raised_parts = record {
      is_clause = is_clause;
      atom_typed = atom_typed;
      atom_variables = atom_variables;
      us_for = us_for;
      us_hold = us_hold;
      names_for = names_for;
      s_typed = s_typed;
      s_holds = s_holds;
      guessed = guessed;
      chosen = chosen;
      fresh_chosen = fresh_chosen;
      others = λ a m. in_or_outside S ns a m;
      left_in = λ a m. (outside_contains S ns a m).0;
      atom_in = λ a m. ordered_contains (support_of_all ts) a m;
      olds_over = made_are_over sg x n fresh cs;
      old_many = targets_typed sg x sequent.cells s s_typed V;
      olds_different = numbered_different n (cells_over x fresh cs);
      olds_below = λ y h. let within = (numbered_within n (cells_over x fresh cs) y h).1 in let long = length-append sequent.cells (cells_over x fresh cs) in omega (arith, within, long);
      raised_typed = raising_typed;
      raised_hold = all_found (Has (λ a. Contains fresh a)) (rekeyed sg x sequent.cells (Has (λ a. Contains fresh a)) n V new_terms (made_have sg x (λ a. Contains fresh a) n n fresh cs (λ a m. m)));
      raised_known = all_found (OverVars (λ z. holds olds z ≡ true)) (rekeyed sg x sequent.cells (OverVars (λ z. holds olds z ≡ true)) n V new_terms (made_over_vars sg x (λ z. holds olds z ≡ true) n n fresh cs (λ z h. h)));
      raised_stays = λ y e h. absurd (false≢true (sym (found_none V new_terms [] (each_any (λ y t. HasType sg [] t y.type) V new_terms new_typed) y (ap (λ q. value_in same_number q y) (append-none raised) ∙ e)).0 ∙ h));
      raised_same = λ u p found y h. each_held (λ y t. Same (bare raised) (bare u) (bare s) y) (Same (bare raised) (bare u) (bare s)) (λ z t r. r) V targets
          (targets_met sg x sequent.cells s u p raised V (lifted_each sg x raised u raising_typed p fresh n cs V targets (targets_typed sg x sequent.cells s s_typed V)
          (found_each raised V new_terms different (λ y h t e. e) (each_any (λ y t. HasType sg [] t y.type) V new_terms new_typed)) found)) y h;
    }

  -- what the alternative's answer gives
  abbrev pub LeftGives : Alternative Hint → Answer Hint → Type 0
  LeftGives alt apart = ⊥
  LeftGives alt (stuck i) = Unit {0}
  LeftGives alt (unified more q) = (r : Substitution ℕ Hint) × IsTyped sg r × IsTyped sg q × EqualPastHints (image same_number r (image same_number q alt.body)) (image same_number (filled x c us ns) c.body)
      × ((t : Term ℕ Hint) (A : Ty) → HasType sg [] t A → ((y : Variable ℕ) → holds (variables t) y ≡ true → holds V y ≡ true)
      → EqualPastHints (image same_number r (image same_number q (image same_number alt.raised t))) (image same_number s t))

  by_fresh : (fresh : List Nominal) → ((a : Nominal) → Contains ns a → Contains S a ⊎ Contains fresh a) → ((a : Nominal) → Contains fresh a → Contains ns a)
      → (a : Answer Hint) → Solves x (given (analysed x sequent ts c ns fresh).equations (analysed x sequent ts c ns fresh).cells (analysed x sequent ts c ns fresh).flexible) a → LeftGives (analysed x sequent ts c ns fresh) a
  by_fresh [] chosen back apart e = gives sg x V cs ts c us ns S [] left sequent.cells V [] s (plain_parts chosen) apart e
  by_fresh [] chosen back (stuck i) e = tt
  by_fresh [] chosen back (unified more q) e = gives sg x V cs ts c us ns S [] left sequent.cells V [] s (plain_parts chosen) (unified more q) e
  by_fresh (b ∷ bs) chosen back apart e = gives sg x V cs ts c us ns S (b ∷ bs) left (sequent.cells ++ cells_over x (b ∷ bs) cs) (olds (b ∷ bs) chosen back) (raised (b ∷ bs) chosen back) s (raised_parts (b ∷ bs) chosen back) apart e
  by_fresh (b ∷ bs) chosen back (stuck i) e = tt
  by_fresh (b ∷ bs) chosen back (unified more q) e = gives sg x V cs ts c us ns S (b ∷ bs) left (sequent.cells ++ cells_over x (b ∷ bs) cs) (olds (b ∷ bs) chosen back) (raised (b ∷ bs) chosen back) s (raised_parts (b ∷ bs) chosen back) (unified more q) e

  pub left_gives : (a : Answer Hint) → Solves x (given (alternative x sequent ts c ns on_left).equations (alternative x sequent ts c ns on_left).cells (alternative x sequent ts c ns on_left).flexible) a → LeftGives (alternative x sequent ts c ns on_left) a
  left_gives a e = by_fresh (outside ns S) (λ b m. in_or_outside ns S b m) (λ b m. (outside_contains ns S b m).0) a e
