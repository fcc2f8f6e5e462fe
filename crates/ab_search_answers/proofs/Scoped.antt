-- GOALS WITH THEIR SCOPES: which variables each may hold, and that its branch's constants are held; and that none of its judgements is marked `#`. It stays so on the way down.
use Rattle.std.proofs.Common.{◌≡◌, inl, inr, ℕ, ◌<◌, ◌≤◌, List, [], ◌∷◌, ◌++◌, map, length, codes, Bool, true, None, ◌∙◌, subst, arith}
use Rattle.std.specs.Prelude.{Contains}
use Rattle.ab_term.specs.Terms.{Nominal, Variable, Read}
use Rattle.ab_term.specs.Typing.{Signature}
use Rattle.ab_term.specs.Variables.{Substitution, image}
use Rattle.ab_term.specs.Sameness.{same_number}
use Rattle.ab_term.proofs.Lists.{Contains-none, Contains-here, Contains-there, Contains-cases, Contains-from_map}
use Rattle.ab_unifiers.specs.Replacements.{Cell, holds}
use Rattle.ab_unifiers.specs.Unification.{Equation, unified, Solves}
use Rattle.ab_unifiers.specs.Unifiers.{given, AreTyped, HoldsCells, AllHoldCells}
use Rattle.ab_pattern_matching.specs.Reading.{Every}
use Rattle.ab_search_trees.specs.Goals.{Goal, Now, goal_under}
use Rattle.ab_search_trees.specs.Lifting.{left_of}
use Rattle.ab_search_trees.proofs.Lifts.{known_cell}
use Rattle.ab_search_trees.proofs.Facts.{IsPart, AllParts, IsTask, AllTasks}
use Rattle.ab_search_trees.proofs.Growing.{IsGrown}
use Rattle.ab_search_trees.proofs.Carried.{AreFlexible}
use Rattle.ab_search_answers.proofs.Final.{Scopes, IsIn, InScope, from_on, scope_before}
use Rattle.ab_search_answers.specs.Unmarked.{HasNoHash}
use Rattle.ab_search_answers.proofs.Signs.{image_none}
use Rattle.ab_search_answers.proofs.Under.{BothIn, in_under}

pub record IsScoped (now : Now) (S : Scopes) (g : Goal) (ys : List (Variable ℕ)) : Type 0 where
  pub conclusion : InScope now S ys g.conclusion
  pub hypotheses : (H : Read) → Contains g.hypotheses H → InScope now S ys H
  pub branch : (a : Nominal) → Contains g.constants a → Contains now.held a
  pub low : (y : Variable ℕ) → Contains ys y → y.name < length now.cells
  pub unmarked : HasNoHash g.conclusion

abbrev pub AllScoped : Now → Scopes → List Goal → List (List (Variable ℕ)) → Type 0
AllScoped now S [] [] = Unit {0}
AllScoped now S [] (ys ∷ yss) = ⊥
AllScoped now S (g ∷ gs) [] = ⊥
AllScoped now S (g ∷ gs) (ys ∷ yss) = IsScoped now S g ys × AllScoped now S gs yss

-- some goals of one scope, in front of others
abbrev pub each_in : List (Variable ℕ) → List Goal → List (List (Variable ℕ))
each_in ys gs = map (λ (g : Goal). ys) gs

pub all_scoped_both : (now : Now) (S : Scopes) (gs hs : List Goal) (ys : List (Variable ℕ)) (yss : List (List (Variable ℕ))) → ((g : Goal) → Contains gs g → IsScoped now S g ys) → AllScoped now S hs yss → AllScoped now S (gs ++ hs) (each_in ys gs ++ yss)
all_scoped_both now S [] hs ys yss a b = b
all_scoped_both now S (g ∷ gs) hs ys yss a b = (a g (Contains-here g gs), all_scoped_both now S gs hs ys yss (λ k m. a k (Contains-there g gs k m)) b)

-- a hypothesis is a part
pub part_there : (sg : Signature) (now : Now) (branch : List Nominal) (u : Bool) (Hs : List Read) → AllParts sg now branch u Hs → (H : Read) → Contains Hs H → IsPart sg now branch u H
part_there sg now branch u [] p H m = absurd (Contains-none H m)
part_there sg now branch u (F ∷ Hs) p H m = elim (Contains-cases F Hs H m) [ inl e ↦ subst (IsPart sg now branch u) e p.0 | inr n ↦ part_there sg now branch u Hs p.1 H n ]

-- WITH MORE VARIABLES, behind the others
module _ (sg : Signature) (now mid : Now) (grown : IsGrown now mid (λ y. None) (λ y. None)) (keeps : (y : Variable ℕ) → holds now.flexible y ≡ true → holds mid.flexible y ≡ true) (longer : length now.cells ≤ length mid.cells)
    (held : (a : Nominal) → Contains now.held a → Contains mid.held a) (S : Scopes) (ys : List (Variable ℕ)) where
  pub in_grown : (zs : List (Variable ℕ)) (t : Read) → HoldsCells now.cells t → InScope now S zs t → InScope mid (from_on (length now.cells) ys S) zs t
  in_grown zs t over k y m = go (known_cell now.cells y.name y.type (over y m)) (k y m)
    where
      go : y.name < length now.cells → IsIn now S zs y → IsIn mid (from_on (length now.cells) ys S) zs y
      go low (inl a) = inl (keeps y a.0, scope_before (length now.cells) ys S y low ∙ a.1)
      go low (inr a) = inr (grown.fixed y low a.0, a.1)

  pub scoped_grown : (g : Goal) (zs : List (Variable ℕ)) → IsTask sg now g → IsScoped now S g zs → IsScoped mid (from_on (length now.cells) ys S) g zs
  scoped_grown g zs t k = record {
    conclusion = in_grown zs g.conclusion t.conclusion.facts.over k.conclusion;
    hypotheses = λ H m. in_grown zs H (part_there sg now g.constants g.untouched g.hypotheses t.hypotheses H m).facts.over (k.hypotheses H m);
    branch = λ a m. held a (k.branch a m);
    low = λ y m. (let low = k.low y m in omega (arith, low, longer));
    unmarked = k.unmarked;
  }

  pub all_scoped_grown : (gs : List Goal) (yss : List (List (Variable ℕ))) → AllTasks sg now gs → AllScoped now S gs yss → AllScoped mid (from_on (length now.cells) ys S) gs yss
  all_scoped_grown [] [] t k = tt
  all_scoped_grown [] (zs ∷ yss) t k = absurd k
  all_scoped_grown (g ∷ gs) [] t k = absurd k
  all_scoped_grown (g ∷ gs) (zs ∷ yss) t k = (scoped_grown g zs t.0 k.0, all_scoped_grown gs yss t.1 k.1)

-- UNDER AN ANSWER
module _ (sg : Signature) (mid : Now) (flexible : AreFlexible mid) (es : List (Equation (List ℕ))) (typed : AreTyped sg es) (over : AllHoldCells mid.cells es)
    (more : List (Cell (List ℕ))) (q : Substitution ℕ (List ℕ)) (solves : Solves (codes "x") (given es mid.cells mid.flexible) (unified more q)) (answer : Substitution ℕ (List ℕ)) (longer : length mid.cells ≤ length more)
    (S : Scopes) (ys : List (Variable ℕ)) (newer : (y : Variable ℕ) → length mid.cells ≤ y.name → S y ≡ ys) (both : Every (BothIn mid S ys) es) where
  abbrev after : Now
  after = record { cells = more; flexible = left_of mid.cells mid.flexible more q; answer = answer; held = mid.held }

  still : (zs : List (Variable ℕ)) (t : Read) → HoldsCells mid.cells t → InScope mid S zs t → InScope after S zs (image same_number q t)
  still = in_under sg mid flexible es typed over more q solves answer S ys newer both

  pub scoped_under : (g : Goal) (zs : List (Variable ℕ)) → IsTask sg mid g → IsScoped mid S g zs → IsScoped after S (goal_under q g) zs
  scoped_under g zs t k = record {
    conclusion = still zs g.conclusion t.conclusion.facts.over k.conclusion;
    hypotheses = λ H m. (let from = Contains-from_map (image same_number q) g.hypotheses H m in
        subst (InScope after S zs) from.2 (still zs from.0 (part_there sg mid g.constants g.untouched g.hypotheses t.hypotheses from.0 from.1).facts.over (k.hypotheses from.0 from.1)));
    branch = k.branch;
    low = λ y m. (let low = k.low y m in omega (arith, low, longer));
    unmarked = image_none q g.conclusion t.conclusion.formula.stands k.unmarked;
  }

  pub all_scoped_under : (gs : List Goal) (yss : List (List (Variable ℕ))) → AllTasks sg mid gs → AllScoped mid S gs yss → AllScoped after S (map (goal_under q) gs) yss
  all_scoped_under [] [] t k = tt
  all_scoped_under [] (zs ∷ yss) t k = absurd k
  all_scoped_under (g ∷ gs) [] t k = absurd k
  all_scoped_under (g ∷ gs) (zs ∷ yss) t k = (scoped_under g zs t.0 k.0, all_scoped_under gs yss t.1 k.1)
