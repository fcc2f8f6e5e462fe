-- The rows of the commands that remove hypotheses or name them anew.
use Rattle.std.specs.Prelude.{if◌then◌else◌, is_some}
use Rattle.std.specs.Option.{IsSome}
use Rattle.std.proofs.Common.{◌≡◌, ◌≢◌, ℕ, ◌+◌, ◌<◌, List, [], ◌∷◌, ◌++◌, true, false, Option, Some, None, take, length, get_or, refl, sym, ◌∙◌, ap, subst}
use Rattle.std.proofs.lemmas.List.{take_more}
use Rattle.ab_term.specs.Terms.{Read}
use Rattle.ab_formulas.specs.NewNames.{given, Names}
use Rattle.ab_formulas.specs.Sequents.{Sequent, formula_of, IsUsed, assuming, without}
use Rattle.ab_effects.specs.ProofCommands.{cleared, clashing}
use Rattle.ab_meaning.specs.Refusals.{clash}
use Rattle.ab_hypothesis.proofs.Hypotheses.{others_none}
use Rattle.ab_hypothesis.proofs.Owned.{dressed, without_past}

pub some_formula : (s : Sequent) (x : List ℕ) → IsUsed s x → (F : Read) × (formula_of s x ≡ Some F)
some_formula s x used = go (formula_of s x) used
  where
    go : (o : Option Read) → IsSome o → (F : Read) × (o ≡ Some F)
    go (Some F) some = (F, refl)
    go None some = let clash : false ≡ true = some in cc

pub no_formula : (s : Sequent) (x : List ℕ) → (IsUsed s x → ⊥) → formula_of s x ≡ None
no_formula s x unused = go (formula_of s x) unused
  where
    go : (o : Option Read) → (IsSome o → ⊥) → o ≡ None
    go (Some F) none = absurd (none refl)
    go None none = refl

cleared_last : (xs : List (List ℕ)) (x : List ℕ) (s : Sequent) → cleared (xs ++ x ∷ []) s ≡ without x (cleared xs s)
cleared_last [] x s = refl
cleared_last (y ∷ xs) x s = cleared_last xs x (without y s)

pub cleared_more : (xs : List (List ℕ)) (i : ℕ) (d : List ℕ) (s : Sequent) → i < length xs → cleared (take (i + 1) xs) s ≡ without (get_or xs i d) (cleared (take i xs) s)
cleared_more xs i d s l = ap (λ ys. cleared ys s) (take_more xs i d l) ∙ cleared_last (take i xs) (get_or xs i d) s

pub without_none : (s : Sequent) (x : List ℕ) → formula_of s x ≡ None → without x s ≡ s
without_none s x none = ap (λ hs. dressed hs s) (others_none s.hypotheses x none)

pub no_clash : (s : Sequent) (x : List ℕ) → formula_of s x ≡ None → clashing (given x) s ≡ None
no_clash s x none = ap (λ (o : Option Read). if is_some o then Some (clash x) else None) none

pub a_clash : (s : Sequent) (x : List ℕ) (F : Read) → formula_of s x ≡ Some F → clashing (given x) s ≡ Some (clash x)
a_clash s x F some = ap (λ (o : Option Read). if is_some o then Some (clash x) else None) some

pub renamed : (s t : Sequent) (H x L : List ℕ) (F : Read) → formula_of s H ≡ Some F → Names (given x) s L t → without H (assuming L F t) ≡ assuming x F (without H s)
renamed s t H x L F has n =
    let apart : x ≢ H = λ (e : x ≡ H). n.0 (subst (λ (o : Option Read). IsSome o) (sym (ap (formula_of s) e ∙ has)) refl) in
    ap (λ y. without H (assuming y F t)) n.1 ∙ ap (λ k. without H (assuming x F k)) n.2 ∙ without_past s H x F apart
