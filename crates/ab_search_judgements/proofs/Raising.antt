-- A RULE'S SIDES AS RAISED TERMS: the atom's arguments over fresh variables, which are raised over the constants of each judgement.
use Rattle.std.proofs.Common.{◌≡◌, ℕ, suc, ◌+◌, ◌-◌, ◌<◌, ◌≤◌, inl, inr, List, [], ◌∷◌, map, codes, Bool, true, false, cond, ◌||◌, if◌then◌else◌, Some, None, option_map, refl, sym, ◌∙◌, ap, subst, arith}
use Rattle.std.specs.Prelude.{Contains}
use Rattle.std.proofs.lemmas.Bool.{false_from_ne_true}
use Rattle.ab_term.specs.Types.{Ty, kind}
use Rattle.ab_term.specs.Terms.{Nominal, Variable, Terms, no_terms, term}
use Rattle.ab_term.specs.Typing.{Signature, HasType, TakeType, take_none, take_term}
use Rattle.ab_term.specs.Abstraction.{given_names}
use Rattle.ab_term.specs.Names.{rename, rename_all, support, support_of_all}
use Rattle.ab_term.specs.Translation.{forget, forget_all}
use Rattle.ab_term.specs.Variables.{variables, variables_of_all, value_in, image_by, image_all_by}
use Rattle.ab_term.specs.Sameness.{same_number, same_numbered}
use Rattle.ab_term.proofs.Depends.{image_agrees}
use Rattle.ab_term.proofs.Lists.{Contains-none, Contains-cases}
use Rattle.ab_term.proofs.Raising.{new_over, forget-given}
use Rattle.ab_term.proofs.Same.{same_numbered-Decides}
use Rattle.std.proofs.lemmas.List.Elements.{Contains-append_left, Contains-append_right}
use Rattle.ab_unifiers.specs.Replacements.{Cell, holds}
use Rattle.ab_unifiers.specs.Clauses.{numbered, put_together}
use Rattle.ab_unifiers.specs.Alternatives.{made_terms, arguments_equal}
use Rattle.ab_unifiers.proofs.Agreeing.{holds_front, holds_behind}
use Rattle.ab_unifiers.proofs.Following.{plain}
use Rattle.ab_pattern_matching.specs.Raising.{Bare, Raising, raised_term, raising, AreRaised}
use Rattle.ab_pattern_matching.specs.Reading.{LeftsWithout}
use Rattle.ab_pattern_matching.proofs.OfClauses.{from_to}
use Rattle.ab_search_clauses.proofs.Atoms.{not_both}

-- raising puts the new terms in
module _ (N n : ℕ) (left : List Nominal) where
  raised_from : (j : ℕ) (cs : List (Cell (List ℕ))) (y : Variable ℕ) → option_map forget (value_in same_number (put_together (numbered (N + j) cs) (made_terms (codes "x") (n + j) left cs)) y) ≡ raising (from_to N n left) (numbered (N + j) cs) y
  raised_from j [] y = refl
  raised_from j (c ∷ cs) y =
      let first : N + suc j ≡ suc (N + j) = omega arith in
      let second : n + suc j ≡ suc (n + j) = omega arith in
      let later = subst (λ i. option_map forget (value_in same_number (put_together (numbered i cs) (made_terms (codes "x") (suc (n + j)) left cs)) y) ≡ raising (from_to N n left) (numbered i cs) y) first
      (subst (λ i. option_map forget (value_in same_number (put_together (numbered (N + suc j) cs) (made_terms (codes "x") i left cs)) y) ≡ raising (from_to N n left) (numbered (N + suc j) cs) y) second (raised_from (suc j) cs y)) in
      go (same_numbered (record { name = N + j; type = c.type }) y) refl later
    where
      go : (b : Bool) → same_numbered (record { name = N + j; type = c.type }) y ≡ b
          → option_map forget (value_in same_number (put_together (numbered (suc (N + j)) cs) (made_terms (codes "x") (suc (n + j)) left cs)) y) ≡ cond (holds (numbered (suc (N + j)) cs) y) (Some (raised_term (from_to N n left) y)) None
          → option_map forget (if b then Some (given_names (codes "x") (new_over (n + j) left c.type) left c.type) else value_in same_number (put_together (numbered (suc (N + j)) cs) (made_terms (codes "x") (suc (n + j)) left cs)) y)
          ≡ cond (b || holds (numbered (suc (N + j)) cs) y) (Some (raised_term (from_to N n left) y)) None
      go true q e =
          let same : record { name = N + j; type = c.type } ≡ y = (same_numbered-Decides (record { name = N + j; type = c.type }) y).0 q in
          let number : n + j ≡ ((N + j) - N) + n = omega arith in
          ap Some (forget-given (codes "x") (new_over (n + j) left c.type) left c.type ∙ ap (λ i. given_names tt (new_over i left c.type) left c.type) number)
          ∙ ap (λ (w : Variable ℕ). Some (raised_term (from_to N n left) w)) same
      go false q e = e

  pub raising_is : (cs : List (Cell (List ℕ))) (t : Bare) → image_by (raising (from_to N n left) (numbered N cs)) t ≡ image_by (plain (put_together (numbered N cs) (made_terms (codes "x") n left cs))) t
  raising_is cs t = image_agrees (raising (from_to N n left) (numbered N cs)) (plain (put_together (numbered N cs) (made_terms (codes "x") n left cs))) t (λ y m.
      let first : N + 0 ≡ N = omega arith in
      let second : n + 0 ≡ n = omega arith in
      sym (subst (λ i. option_map forget (value_in same_number (put_together (numbered i cs) (made_terms (codes "x") n left cs)) y) ≡ raising (from_to N n left) (numbered i cs) y) first
      (subst (λ i. option_map forget (value_in same_number (put_together (numbered (N + 0) cs) (made_terms (codes "x") i left cs)) y) ≡ raising (from_to N n left) (numbered (N + 0) cs) y) second (raised_from 0 cs y))))

-- the arguments, as a list
abbrev pub listed : Terms ℕ (Unit {0}) → List Bare
listed no_terms = []
listed (term t ts) = t ∷ listed ts

-- what is said of all arguments is said of each
pub listed_typed : (sg : Signature) {D C : Ty} (ts : Terms ℕ (Unit {0})) → TakeType sg [] ts D C → (t : Bare) → Contains (listed ts) t → (G : List Ty) × (A : Ty) × HasType sg G t A
listed_typed sg no_terms take_none t m = absurd (Contains-none t m)
listed_typed sg (term u ts) (take_term {A = A} d ds) t m = elim (Contains-cases u (listed ts) t m) [
  | inl e ↦ ([], A, subst (λ v. HasType sg [] v A) e d)
  | inr i ↦ listed_typed sg ts ds t i
]

pub listed_variables : (ts : Terms ℕ (Unit {0})) (t : Bare) → Contains (listed ts) t → (y : Variable ℕ) → holds (variables t) y ≡ true → holds (variables_of_all ts) y ≡ true
listed_variables no_terms t m y h = absurd (Contains-none t m)
listed_variables (term u ts) t m y h = elim (Contains-cases u (listed ts) t m) [
  | inl e ↦ holds_front (variables u) (variables_of_all ts) y (subst (λ v. holds (variables v) y ≡ true) (sym e) h)
  | inr i ↦ holds_behind (variables u) (variables_of_all ts) y (listed_variables ts t i y h)
]

pub listed_support : (ts : Terms ℕ (Unit {0})) (t : Bare) → Contains (listed ts) t → (a : Nominal) → Contains (support t) a → Contains (support_of_all ts) a
listed_support no_terms t m a i = absurd (Contains-none t m)
listed_support (term u ts) t m a i = elim (Contains-cases u (listed ts) t m) [
  | inl e ↦ Contains-append_left (support u) (support_of_all ts) a (subst (λ v. Contains (support v) a) (sym e) i)
  | inr n ↦ Contains-append_right (support u) (support_of_all ts) a (listed_support ts t n a i)
]

pub listed_renamed : (m : Nominal → Nominal) (ts : Terms ℕ (Unit {0})) → map (rename m) (listed ts) ≡ listed (rename_all m ts)
listed_renamed m no_terms = refl
listed_renamed m (term t ts) = ap (λ l. rename m t ∷ l) (listed_renamed m ts)

-- EQUATIONS between arguments, of which the right ones are raised
pub each_raised : (sg : Signature) {D : Ty} {l l2 : List ℕ} (r : Raising) (ws : List (Variable ℕ)) (p : ℕ) (As Us : Terms ℕ (List ℕ)) (Ts : Terms ℕ (Unit {0})) → TakeType sg [] As D (kind l) → TakeType sg [] Us D (kind l2)
    → forget_all Us ≡ image_all_by (raising r ws) Ts → AreRaised r ws (listed Ts) (arguments_equal (codes "x") p As Us)
each_raised sg r ws p no_terms no_terms no_terms take_none take_none q = tt
each_raised sg r ws p no_terms no_terms (term t Ts) d e q = absurd (cc)
each_raised sg {l = l} r ws p no_terms (term u Us) Ts d e q = absurd (not_both sg l d e)
each_raised sg {l2 = l2} r ws p (term a As) no_terms Ts d e q = absurd (not_both sg l2 e d)
each_raised sg r ws p (term a As) (term u Us) no_terms d e q = absurd (cc)
each_raised sg r ws p (term a As) (term u Us) (term t Ts) (take_term d ds) (take_term e es) q =
    let one : forget u ≡ image_by (raising r ws) t = cc in
    let rest : forget_all Us ≡ image_all_by (raising r ws) Ts = cc in
    (one, each_raised sg r ws (suc p) As Us Ts ds es rest)

-- left sides over older variables hold none of the newer
pub lefts_old : (zs : List (Variable ℕ)) (n : ℕ) → ((y : Variable ℕ) → holds zs y ≡ true → n ≤ y.name) → (p : ℕ) (As Us : Terms ℕ (List ℕ)) → ((y : Variable ℕ) → holds (variables_of_all As) y ≡ true → y.name < n) → LeftsWithout zs (arguments_equal (codes "x") p As Us)
lefts_old zs n new p no_terms Us old = tt
lefts_old zs n new p (term a As) no_terms old = tt
lefts_old zs n new p (term a As) (term u Us) old = (
  (λ y h. false_from_ne_true (holds (variables a) y) (λ i. let low = old y (holds_front (variables a) (variables_of_all As) y i) in let high = new y h in absurd (omega (arith, low, high)))),
  lefts_old zs n new (suc p) As Us (λ y h. old y (holds_behind (variables a) (variables_of_all As) y h)),
)
