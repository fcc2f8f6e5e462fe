-- VARIABLES ARE ADDED behind the others: what is known of terms and guesses stays.
use Rattle.std.proofs.Common.{◌≡◌, ℕ, ◌<◌, List, [], ◌∷◌, map, Bool, false, ◌∙◌, subst, arith, length}
use Rattle.std.specs.Prelude.{Contains}
use Rattle.ab_term.specs.Types.{Ty}
use Rattle.ab_term.specs.Terms.{Nominal, Variable, nominal, Term, Read}
use Rattle.ab_term.specs.Typing.{Signature, HasType}
use Rattle.ab_term.specs.Names.{support}
use Rattle.ab_term.specs.Translation.{forget}
use Rattle.ab_term.specs.Abstraction.{Only, abstracted, over}
use Rattle.ab_term.proofs.Depends.{image_agrees}
use Rattle.ab_term.proofs.Hinted.{named_over}
use Rattle.ab_term.proofs.Closing.{abstracted_typed}
use Rattle.ab_term.proofs.PastHints.{variables-forget}
use Rattle.ab_unifiers.specs.Replacements.{holds}
use Rattle.ab_unifiers.proofs.Cells.{Grows, cell_kept}
use Rattle.ab_unifiers.proofs.Following.{Put}
use Rattle.ab_unifiers.proofs.Constants as names
use Rattle.ab_search_trees.proofs.Guessed.{support_only, contained}
use Rattle.ab_search_trees.specs.Goals.{Goal, Now}
use Rattle.ab_search_trees.proofs.Lifts.{known_cell}
use Rattle.ab_search_trees.proofs.Forms.{Makes}
use Rattle.ab_search_trees.proofs.Facts.{Facts, IsPart, AllParts, AllTasks}
use Rattle.ab_search_trees.proofs.Against.{MakesEach, AllGuess}

-- the second has variables behind those of the first, and the guess for it does the same on these
pub record IsGrown (now mid : Now) (f k : Put) : Type 0 where
  pub cells : Grows now.cells mid.cells
  pub fixed : (y : Variable ℕ) → y.name < length now.cells → holds now.flexible y ≡ false → holds mid.flexible y ≡ false
  pub same : (y : Variable ℕ) → y.name < length now.cells → k y ≡ f y

module _ (sg : Signature) (now mid : Now) (f k : Put) (grown : IsGrown now mid f k) where
  pub facts_grown : {branch : List Nominal} {u : Bool} {t : Read} → Facts now branch u t → Facts mid branch u t
  facts_grown p = record {
    over = λ y m. cell_kept now.cells mid.cells grown.cells y (p.over y m);
    constants = p.constants;
    fixed = λ e y m. grown.fixed y (known_cell now.cells y.name y.type (p.over y m)) (p.fixed e y m);
  }

  pub part_grown : {branch : List Nominal} {u : Bool} {t : Read} → IsPart sg now branch u t → IsPart sg mid branch u t
  part_grown p = record { formula = p.formula; facts = facts_grown p.facts }

  pub parts_grown : (branch : List Nominal) (u : Bool) (ts : List Read) → AllParts sg now branch u ts → AllParts sg mid branch u ts
  parts_grown branch u [] p = tt
  parts_grown branch u (t ∷ ts) p = (part_grown p.0, parts_grown branch u ts p.1)

  pub tasks_grown : (gs : List Goal) → AllTasks sg now gs → AllTasks sg mid gs
  tasks_grown [] t = tt
  tasks_grown (g ∷ gs) t = (record { conclusion = part_grown (t.0).conclusion; hypotheses = parts_grown g.constants g.untouched g.hypotheses (t.0).hypotheses }, tasks_grown gs t.1)

  pub makes_grown : {branch : List Nominal} {u : Bool} (t v : Read) → Facts now branch u t → Makes f t v → Makes k t v
  makes_grown t v p m = image_agrees k f (forget t) (λ y c. grown.same y (known_cell now.cells y.name y.type (p.over y (subst (λ l. Contains l y) (variables-forget t) c)))) ∙ m

  pub each_grown : (branch : List Nominal) (u : Bool) (ts vs : List Read) → AllParts sg now branch u ts → MakesEach f ts vs → MakesEach k ts vs
  each_grown branch u [] [] p m = tt
  each_grown branch u [] (v ∷ vs) p m = absurd m
  each_grown branch u (t ∷ ts) [] p m = absurd m
  each_grown branch u (t ∷ ts) (v ∷ vs) p m = (makes_grown t v (p.0).facts m.0, each_grown branch u ts vs p.1 m.1)

  pub guesses_grown : (gs hs : List Goal) → AllTasks sg now gs → AllGuess f gs hs → AllGuess k gs hs
  guesses_grown [] [] t a = tt
  guesses_grown [] (h ∷ hs) t a = absurd a
  guesses_grown (g ∷ gs) [] t a = absurd a
  guesses_grown (g ∷ gs) (h ∷ hs) t a = (
    record {
      conclusion = makes_grown g.conclusion h.conclusion (t.0).conclusion.facts (a.0).conclusion;
      hypotheses = each_grown g.constants g.untouched g.hypotheses h.hypotheses (t.0).hypotheses (a.0).hypotheses;
      depth = (a.0).depth;
      constants = (a.0).constants;
      untouched = (a.0).untouched;
      layers = (a.0).layers;
    },
    guesses_grown gs hs t.1 a.1,
  )

-- A TERM ABSTRACTED over all its constants is one of the guess's
module _ (sg : Signature) (ns : List Nominal) (A : Ty) (t : Term ℕ (Unit {0})) (typed : HasType sg [] t A) (of : (a : Nominal) → Contains (support t) a → Contains ns a) where
  abbrev pub lifted_over : Term ℕ (Unit {0})
  lifted_over = abstracted tt (over ns A) (map nominal ns) t

  pub lifted_over_typed : HasType sg [] lifted_over (over ns A)
  lifted_over_typed = abstracted_typed sg tt (named_over sg [] ns A) typed

  no_constant : (a : Nominal) → Contains (support lifted_over) a → ⊥
  no_constant a m = let p = names.has_support (names.ButAll (λ b. Contains ns b) ns) lifted_over (names.abstracted_has (λ b. Contains ns b) tt ns A t (names.support_has (λ b. Contains ns b) t of)) a m in p.1 p.0

  pub lifted_over_only : Only [] lifted_over
  lifted_over_only = support_only sg [] [] lifted_over lifted_over_typed (λ i l. absurd (omega (arith, l))) (λ a m. absurd (no_constant a (contained (support lifted_over) a m)))
