-- What is put for bound names is there: the constants of a formula in order, a new constant for the name of a `nabla`, and names
-- for new variables, where each hint gives one.
use Rattle.std.proofs.Common.{◌≡◌, ◌⊎◌, inl, inr, ℕ, suc, ◌+◌, ◌<◌, ◌≤◌, List, [], ◌∷◌, ◌++◌, map, length, codes, refl, subst, arith}
use Rattle.std.specs.Prelude.{Contains}
use Rattle.ab_term.specs.Types.{Ty}
use Rattle.ab_term.specs.Terms.{Nominal, Read}
use Rattle.ab_term.specs.Names.{support, IsSupport}
use Rattle.ab_term.specs.Variables.{Substitution}
use Rattle.ab_term.proofs.Lists.{Contains-none, Contains-cases, All-from_contains}
use Rattle.ab_unifiers.specs.Choices.{in_order}
use Rattle.ab_unifiers.specs.Replacements.{Cell}
use Rattle.ab_unifiers.specs.Unification.{Answer, unified, apart, stuck, Solves}
use Rattle.ab_unifiers.proofs.Choosing.{ordered_pairs, ordered_contains, contains_ordered}
use Rattle.ab_unifiers.proofs.Ordered.{ordered_sorted}
use Rattle.ab_unifiers.proofs.Ending.{answered}
use Rattle.ab_formulas.specs.Sequents.{Variable, Sequent, goal_names, over}
use Rattle.ab_formulas.specs.NewNames.{IsLeast}
use Rattle.ab_theory.specs.Equations.{Naming, Named, made, under, problem, Becomes, AreApart, AreStuck}
use Rattle.ab_theory.specs.Splits.{CaseOver, problem_of, cell_for, Arises, Split, done, never, arises, IsUnsplit, here, past_never, past_goal}
use Rattle.ab_theory.specs.Rules.{MayName}
use Rattle.ab_theory.proofs.One.{one_place}
use Rattle.ab_existence.specs.Certainty.{IsCertain}
use Rattle.ab_existence.proofs.Certain.{sure, and_so, and_also, least}

pub support_there : (F : Read) → IsSupport F (in_order (support F))
support_there F =
    let xs = support F in
    record { same = λ a. (contains_ordered xs a, ordered_contains xs a); once = ordered_pairs xs; order = ordered_sorted xs }

-- more than each of the numbers
abbrev pub above : List Nominal → ℕ
above [] = 1
above (a ∷ names) = a.number + above names

pub number_below : (names : List Nominal) (a : Nominal) → Contains names a → a.number < above names
number_below [] a c = absurd (Contains-none a c)
number_below (b ∷ names) a c =
    elim (Contains-cases b names a c) [
      | inl same ↦ subst (λ (x : Nominal). x.number < above (b ∷ names)) same (let some = above_none names in omega (arith, some))
      | inr there ↦ (let l = number_below names a there in omega (arith, l))
    ]
  where
    above_none : (xs : List Nominal) → 1 ≤ above xs
    above_none [] = omega arith
    above_none (x ∷ xs) = let l = above_none xs in omega (arith, l)

pub above_some : (names : List Nominal) → 1 ≤ above names
above_some [] = omega arith
above_some (x ∷ xs) = let l = above_some xs in omega (arith, l)

-- A NEW CONSTANT IS THERE, outside some constants, and its number at no other type among some
pub constant_there : (s : Sequent) (F : Read) (A : Ty) → IsCertain ((n : ℕ) × IsLeast (MayName s F A) n)
constant_there s F A =
    let n = above (support F) + above (goal_names s) in
    let some = above_some (support F) in
    least (MayName s F A) n (record {
      positive = omega (arith, some);
      outside = λ c. let l = number_below (support F) (record { number = n; type = A }) c in omega (arith, l, above_some (goal_names s));
      one_type = All-from_contains (λ (b : Nominal). b.number ≡ n → b.type ≡ A) (goal_names s) (λ b c e. absurd (let l = number_below (goal_names s) b c in omega (arith, l, e)));
    })

-- WHERE A HINT GIVES A NAME in a goal that has room, and there is room for one less then
module _ (IsName : Naming) (HasRoom : ℕ → Sequent → Type 0)
    (finds : (n : ℕ) (s : Sequent) (hint : List ℕ) → HasRoom (suc n) s → IsCertain ((name : List ℕ) × IsName s hint name))
    (less : (n : ℕ) (s : Sequent) (y : Variable) → HasRoom (suc n) s → HasRoom n (over y s)) where
  pub named_there : (s : Sequent) (n : ℕ) (xs : List Variable) → HasRoom (length xs) s → IsCertain ((ys : List Variable) × Named IsName s n xs ys)
  named_there s n [] room = sure ([], tt)
  named_there s n (x ∷ xs) room =
      and_so (finds (length xs) s x.name room)
      (λ name.
      let y : Variable = record { number = n; type = x.type; name = name.0 } in
      and_also (named_there (over y s) (n + 1) xs (less (length xs) s y room)) (λ rest. (y ∷ rest.0, (refl, refl, name.1, rest.1))))

  abbrev Solved : List (Cell (List ℕ)) → Sequent → Read → Read → Type 0
  Solved cells s t u = ((g : Sequent) × Becomes IsName cells s t u g) ⊎ (AreApart cells s t u ⊎ AreStuck cells s t u)

  pub solved_there : (cells : List (Cell (List ℕ))) (s : Sequent) (t u : Read)
      → ((more : List (Cell (List ℕ))) (r : Substitution ℕ (List ℕ)) → Solves (codes "x") (problem cells s t u) (unified more r) → HasRoom (length (made cells more r)) s) → IsCertain (Solved cells s t u)
  solved_there cells s t u room = let a = answered (codes "x") (problem cells s t u) in by_case a.0 a.1
    where
      by_case : (a : Answer (List ℕ)) → Solves (codes "x") (problem cells s t u) a → IsCertain (Solved cells s t u)
      by_case (unified more r) p = and_also (named_there s (length more) (made cells more r) (room more r p)) (λ names. inl (under cells more r names.0 s, (more, r, p, (names.0, names.1, refl))))
      by_case apart p = sure (inr (inl p))
      by_case (stuck i) p = sure (inr (inr (one_place cells s t u i p)))

  -- in each case, over whatever cells there are then
  abbrev pub AllHaveRoom : List CaseOver → Type 0
  AllHaveRoom [] = Unit {0}
  AllHaveRoom (c ∷ cs) =
      ((cells more : List (Cell (List ℕ))) (r : Substitution ℕ (List ℕ)) → Solves (codes "x") (problem_of (c cells)) (unified more r) → HasRoom (length (made (c cells).before more r)) (c cells).goal)
      × AllHaveRoom cs

  abbrev SplitOrNot : List (Cell (List ℕ)) → List CaseOver → Type 0
  SplitOrNot cells cs = ((gs : List Sequent) × Split IsName cells cs gs) ⊎ ((i : ℕ) × IsUnsplit IsName cells cs i)

  pub split_there : (cells : List (Cell (List ℕ))) (cs : List CaseOver) → AllHaveRoom cs → IsCertain (SplitOrNot cells cs)
  split_there cells [] room = sure (inl ([], done))
  split_there cells (c ∷ cs) room = let a = answered (codes "x") (problem_of (c cells)) in by_case (λ after. split_there after cs room.1) a.0 a.1
    where
      by_case : ((after : List (Cell (List ℕ))) → IsCertain (SplitOrNot after cs)) → (a : Answer (List ℕ)) → Solves (codes "x") (problem_of (c cells)) a → IsCertain (SplitOrNot cells (c ∷ cs))
      by_case others_split (unified more r) p =
          and_so (named_there (c cells).goal (length more) (made (c cells).before more r) (room.0 cells more r p))
          (λ names.
          let after = more ++ map cell_for names.0 in
          let g = under (c cells).before more r names.0 (c cells).goal in
          let arising : Arises IsName (c cells) after g = record { more = more; answer = r; new = names.0; solved = p; named = names.1; all = refl; goal = refl } in
          and_also (others_split after)
          (λ rest. elim rest [ inl gs ↦ inl (g ∷ gs.0, arises arising gs.1) | inr i ↦ inr (i.0, past_goal arising i.1) ]))
      by_case others_split apart p =
          and_also (others_split cells) (λ rest. elim rest [ inl gs ↦ inl (gs.0, never p gs.1) | inr i ↦ inr (i.0, past_never p i.1) ])
      by_case others_split (stuck i) p = sure (inr (i, here p))
