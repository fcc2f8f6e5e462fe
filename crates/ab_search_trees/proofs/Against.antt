-- A LIST OF GOALS AGAINST GUESSES: where each goal becomes, by a guess for the variables, one that has a derivation by guesses, the
-- tree has a leaf. What becomes of goals and guesses on one way.
use Rattle.std.proofs.Common.{◌≡◌, ◌≢◌, inl, inr, ℕ, ◌<◌, List, [], ◌∷◌, ◌++◌, map, length, drop, codes, Bool, true, false, not, None, refl, sym, ◌∙◌, subst, arith}
use Rattle.std.specs.Prelude.{Contains}
use Rattle.std.proofs.lemmas.Bool.{false≢true, false_from_ne_true}
use Rattle.ab_term.specs.Terms.{Nominal, Variable, Read}
use Rattle.ab_term.specs.Typing.{Signature}
use Rattle.ab_term.specs.Variables.{Substitution, variables, value_in, image, IsTyped}
use Rattle.ab_term.specs.Sameness.{same_number}
use Rattle.ab_term.proofs.Lists.{Contains-none, Contains-cases}
use Rattle.ab_term.proofs.Depends.{image_agrees}
use Rattle.ab_term.proofs.Stands.{support-image}
use Rattle.ab_unifiers.specs.Replacements.{Cell, holds}
use Rattle.ab_unifiers.specs.Unification.{Equation, unified, apart, Solves}
use Rattle.ab_unifiers.specs.Unifiers.{given, AreTyped, AreKnown, IsCell, AllHoldCells, keys}
use Rattle.ab_unifiers.proofs.Ruling.{image_none}
use Rattle.ab_unifiers.proofs.Avoiding.{not_held}
use Rattle.ab_unifiers.proofs.Once.{answer_once}
use Rattle.ab_unifiers.proofs.Problems.{answer_typed, answer_clean}
use Rattle.ab_unifiers.proofs.Following.{Put, Fits}
use Rattle.ab_unifiers.proofs.General.{AllAlike}
use Rattle.ab_unifiers.specs.Clauses.{numbered}
use Rattle.ab_unifiers.proofs.Rows.{numbered_within}
use Rattle.ab_formulas.specs.Declarations.{Declarations, signature_in}
use Rattle.ab_formulas.proofs.Images.{image_formula}
use Rattle.ab_search_trees.proofs.Guessed.{lifts}
use Rattle.ab_search_trees.specs.Goals.{Goal, Now, goal_under}
use Rattle.ab_search_trees.specs.Lifting.{left_of}
use Rattle.ab_search_trees.specs.Ways.{Way}
use Rattle.ab_search_trees.specs.Tree.{Leaf, Serve, now_after, Leaves, LeavesBy, LeavesOn, no_goal, a_way, are_apart, are_stuck, dont_serve, go_on}
use Rattle.ab_search_trees.proofs.Forms.{Makes}
use Rattle.ab_search_trees.proofs.Facts.{Facts, IsPart, AllParts, AllTasks}
use Rattle.ab_search_trees.proofs.Lifts.{known_cell, cells_all_over, filter_from, no_value, left_cells, rest, rest_fits, lifted, image_cells}

-- the variables that may be replaced are cells, and the guess is one for each of them
pub record IsState (sg : Signature) (now : Now) (f : Put) : Type 0 where
  pub cells : (y : Variable ℕ) → holds now.flexible y ≡ true → IsCell now.cells y
  pub fits : Fits sg [] now.flexible f

abbrev pub MakesEach : Put → List Read → List Read → Type 0
MakesEach f [] [] = Unit {0}
MakesEach f [] (u ∷ us) = ⊥
MakesEach f (t ∷ ts) [] = ⊥
MakesEach f (t ∷ ts) (u ∷ us) = Makes f t u × MakesEach f ts us

-- THE GUESS makes of the first goal the second
pub record IsGuess (f : Put) (g h : Goal) : Type 0 where
  pub conclusion : Makes f g.conclusion h.conclusion
  pub hypotheses : MakesEach f g.hypotheses h.hypotheses
  pub depth : h.depth ≡ g.depth
  pub constants : h.constants ≡ g.constants
  pub untouched : h.untouched ≡ g.untouched
  pub layers : h.layers ≡ g.layers

abbrev pub AllGuess : Put → List Goal → List Goal → Type 0
AllGuess f [] [] = Unit {0}
AllGuess f [] (h ∷ hs) = ⊥
AllGuess f (g ∷ gs) [] = ⊥
AllGuess f (g ∷ gs) (h ∷ hs) = IsGuess f g h × AllGuess f gs hs

pub all_guess_both : (f : Put) (gs ks hs js : List Goal) → AllGuess f gs hs → AllGuess f ks js → AllGuess f (gs ++ ks) (hs ++ js)
all_guess_both f [] ks [] js a b = b
all_guess_both f [] ks (h ∷ hs) js a b = absurd a
all_guess_both f (g ∷ gs) ks [] js a b = absurd a
all_guess_both f (g ∷ gs) ks (h ∷ hs) js a b = (a.0, all_guess_both f gs ks hs js a.1 b)

-- what is left is not nothing
pub some_front : {X : Type 0} {xs : List X} (ys : List X) → xs ≢ [] → xs ++ ys ≢ []
some_front {xs = []} ys n e = n refl
some_front {xs = x ∷ xs} ys n e = absurd (cc)

pub some_behind : {X : Type 0} (xs : List X) {ys : List X} → ys ≢ [] → xs ++ ys ≢ []
some_behind [] n e = n e
some_behind (x ∷ xs) n e = absurd (cc)

module _ (sg : Signature) (mid : Now) (f : Put) (state : IsState sg mid f) (es : List (Equation (List ℕ))) (typed : AreTyped sg es) (over : AllHoldCells mid.cells es) (alike : AllAlike f es)
    (more : List (Cell (List ℕ))) (q : Substitution ℕ (List ℕ)) (solves : Solves (codes "x") (given es mid.cells mid.flexible) (unified more q)) (answer : Substitution ℕ (List ℕ)) (held : List Nominal) where
  known : AreKnown mid.cells mid.flexible
  known y h = known_cell mid.cells y.name y.type (state.cells y h)

  abbrev left : List (Variable ℕ)
  left = left_of mid.cells mid.flexible more q

  abbrev after : Now
  after = record { cells = more; flexible = left; answer = answer; held = held }

  abbrev then_rest : Put
  then_rest = rest sg (codes "x") es mid.cells mid.flexible typed known state.cells over more q solves f state.fits alike

  after_state : IsState sg after then_rest
  after_state = record {
    cells = left_cells sg (codes "x") es mid.cells mid.flexible typed known state.cells over more q solves;
    fits = rest_fits sg (codes "x") es mid.cells mid.flexible typed known state.cells over more q solves f state.fits alike;
  }

  q_typed : IsTyped sg q
  q_typed = answer_typed sg (codes "x") es mid.cells mid.flexible typed known more q solves

  -- a variable that was there and may not be replaced isn't
  not_replaced : (y : Variable ℕ) → holds mid.flexible y ≡ false → y.name < length mid.cells → value_in same_number q y ≡ None
  not_replaced y n l = no_value q y (false_from_ne_true (holds (keys q) y) (λ k. elim ((answer_once (codes "x") es mid.cells mid.flexible known more q solves).1 y k) [
    | inl a ↦ false≢true (sym n ∙ a)
    | inr a ↦ (let low = a.0 in absurd (omega (arith, low, l)))
  ]))

  not_left : (y : Variable ℕ) → holds mid.flexible y ≡ false → y.name < length mid.cells → holds left y ≡ false
  not_left y n l = false_from_ne_true (holds left y) (λ h. elim (not_held mid.flexible (numbered (length mid.cells) (drop (length mid.cells) more)) y (filter_from (λ z. not (holds (keys q) z)) (mid.flexible ++ numbered (length mid.cells) (drop (length mid.cells) more)) y h)) [
    | inl a ↦ false≢true (sym n ∙ a)
    | inr a ↦ (let low = (numbered_within (length mid.cells) (drop (length mid.cells) more) y a).0 in absurd (omega (arith, low, l)))
  ])

  facts_under : (branch : List Nominal) (u : Bool) (t : Read) → Facts mid branch u t → Facts after branch u (image same_number q t)
  facts_under branch u t k = record {
    over = image_cells sg (codes "x") es mid.cells mid.flexible typed known state.cells over more q solves t k.over;
    constants = λ a m. elim (support-image (value_in same_number q) t a m) [
      | inl b ↦ k.constants a b
      | inr b ↦ absurd (Contains-none a (subst (λ l. Contains l a) (answer_clean sg (codes "x") es mid.cells mid.flexible typed known more q solves b.0 b.1 (b.2).1) b.3))
    ];
    fixed = λ e y m.
        let none : (z : Variable ℕ) → Contains (variables t) z → value_in same_number q z ≡ None = λ z c. not_replaced z (k.fixed e z c) (known_cell mid.cells z.name z.type (k.over z c)) in
        let same : image same_number q t ≡ t = image_agrees (value_in same_number q) (value_in same_number []) t (λ z c. none z c) ∙ image_none t in
        let there = subst (λ v. Contains (variables v) y) same m in
        not_left y (k.fixed e y there) (known_cell mid.cells y.name y.type (k.over y there));
  }

  part_under : (branch : List Nominal) (u : Bool) (F : Read) → IsPart sg mid branch u F → IsPart sg after branch u (image same_number q F)
  part_under branch u F p = record { formula = image_formula sg q q_typed F p.formula; facts = facts_under branch u F p.facts }

  parts_under : (branch : List Nominal) (u : Bool) (Fs : List Read) → AllParts sg mid branch u Fs → AllParts sg after branch u (map (image same_number q) Fs)
  parts_under branch u [] p = tt
  parts_under branch u (F ∷ Fs) p = (part_under branch u F p.0, parts_under branch u Fs p.1)

  tasks_under : (gs : List Goal) → AllTasks sg mid gs → AllTasks sg after (map (goal_under q) gs)
  tasks_under [] t = tt
  tasks_under (g ∷ gs) t = (record { conclusion = part_under g.constants g.untouched g.conclusion (t.0).conclusion; hypotheses = parts_under g.constants g.untouched g.hypotheses (t.0).hypotheses }, tasks_under gs t.1)

  makes_under : (branch : List Nominal) (u : Bool) (F H : Read) → IsPart sg mid branch u F → Makes f F H → Makes then_rest (image same_number q F) H
  makes_under branch u F H p m = lifted sg (codes "x") es mid.cells mid.flexible typed known state.cells over more q solves f state.fits alike F p.formula.typed p.facts.over ∙ m

  each_under : (branch : List Nominal) (u : Bool) (Fs Hs : List Read) → AllParts sg mid branch u Fs → MakesEach f Fs Hs → MakesEach then_rest (map (image same_number q) Fs) Hs
  each_under branch u [] [] p m = tt
  each_under branch u [] (H ∷ Hs) p m = absurd m
  each_under branch u (F ∷ Fs) [] p m = absurd m
  each_under branch u (F ∷ Fs) (H ∷ Hs) p m = (makes_under branch u F H p.0 m.0, each_under branch u Fs Hs p.1 m.1)

  guesses_under : (gs hs : List Goal) → AllTasks sg mid gs → AllGuess f gs hs → AllGuess then_rest (map (goal_under q) gs) hs
  guesses_under [] [] t a = tt
  guesses_under [] (h ∷ hs) t a = absurd a
  guesses_under (g ∷ gs) [] t a = absurd a
  guesses_under (g ∷ gs) (h ∷ hs) t a = (
    record {
      conclusion = makes_under g.constants g.untouched g.conclusion h.conclusion (t.0).conclusion (a.0).conclusion;
      hypotheses = each_under g.constants g.untouched g.hypotheses h.hypotheses (t.0).hypotheses (a.0).hypotheses;
      depth = (a.0).depth;
      constants = (a.0).constants;
      untouched = (a.0).untouched;
      layers = (a.0).layers;
    },
    guesses_under gs hs t.1 a.1,
  )

module _ (D : Declarations) where
  -- goals that become these by a guess have a leaf
  abbrev pub Finds : List Goal → Type 0
  Finds hs = (now : Now) (f : Put) (gs : List Goal) → IsState (signature_in D) now f → AllTasks (signature_in D) now gs → AllGuess f gs hs → (ls : List Leaf) → Leaves D now gs ls → ls ≢ []

  pub none_finds : Finds []
  none_finds now f [] s t a ls no_goal e = absurd (cc)
  none_finds now f (g ∷ gs) s t a ls l e = absurd a

  -- the variables where a way begins
  abbrev pub amid : Now → Way → Now
  amid now w = record now { cells = w.cells; flexible = w.flexible }

  -- ON ONE WAY
  pub on_way : (now : Now) (w : Way) (gs hs : List Goal) (f : Put) → IsState (signature_in D) (amid now w) f → AreTyped (signature_in D) w.equations → AllHoldCells w.cells w.equations → AllAlike f w.equations → Serve w
      → AllTasks (signature_in D) (amid now w) (w.goals ++ gs) → AllGuess f (w.goals ++ gs) hs → Finds hs → (ls : List Leaf) → LeavesOn D now w gs ls → ls ≢ []
  on_way now w gs hs f s d o a v t k finds ls (are_apart p) e = lifts (signature_in D) (codes "x") w.equations w.cells w.flexible d (λ y h. known_cell w.cells y.name y.type (s.cells y h)) (cells_all_over w.cells w.equations o) f s.fits a apart p
  on_way now w gs hs f s d o a v t k finds ls (are_stuck p) e = absurd (cc)
  on_way now w gs hs f s d o a v t k finds ls (dont_serve more q p n) e = n v
  on_way now w gs hs f s d o a v t k finds ls (go_on more q p u l) e =
      let now2 = now_after now w more q in
      finds now2
      (then_rest (signature_in D) (amid now w) f s w.equations d o a more q p now2.answer now2.held)
      (map (goal_under q) (w.goals ++ gs))
      (after_state (signature_in D) (amid now w) f s w.equations d o a more q p now2.answer now2.held)
      (tasks_under (signature_in D) (amid now w) f s w.equations d o a more q p now2.answer now2.held (w.goals ++ gs) t)
      (guesses_under (signature_in D) (amid now w) f s w.equations d o a more q p now2.answer now2.held (w.goals ++ gs) hs t k)
      ls l e

  -- A WAY AMONG THE OTHERS
  pub among_ways : (now : Now) (ws : List Way) (gs : List Goal) (w : Way) → Contains ws w → ((ls : List Leaf) → LeavesOn D now w gs ls → ls ≢ []) → (ls : List Leaf) → LeavesBy D now ws gs ls → ls ≢ []
  among_ways now [] gs w m c ls l = absurd (Contains-none w m)
  among_ways now (v ∷ ws) gs w m c ls (a_way {ls = as_} {ms = bs} p r) = elim (Contains-cases v ws w m) [
    | inl e ↦ some_front bs (c as_ (subst (λ k. LeavesOn D now k gs as_) e p))
    | inr n ↦ some_behind as_ (among_ways now ws gs w n c bs r)
  ]
