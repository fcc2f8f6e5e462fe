-- What a solved case makes of a goal: from the answer on cells to the answer in plain words.
use Rattle.std.specs.List.{All}
use Rattle.std.specs.Prelude.{AllPairs, Contains, filter, is_none, ◌↔◌}
use Rattle.std.proofs.Common.{◌≡◌, ◌⊎◌, inl, inr, ℕ, zero, suc, ◌+◌, ◌<◌, ◌≤◌, List, [], ◌∷◌, ◌++◌, map, take, drop, length, get_or, Bool, true, false, cond, not, Option, Some, None, codes, refl, sym, ◌∙◌, ap, subst, arith, take_all, take-append-drop, length-take-le}
use Rattle.std.proofs.lemmas.Bool.{cases_order, false≢true, false_from_ne_true}
use Rattle.std.proofs.lemmas.List.{drop_all}
use Rattle.std.proofs.lemmas.List.Elements.{All-nil, All-cons, All-head, All-tail, All-contains, All-map, All-filter, All-weaker, Contains-append_left, Contains-append_right, Contains-append_cases}
use Rattle.std.proofs.lemmas.List.Kept.{AllPairs-cons}
use Rattle.ab_term.specs.Types.{Ty, prop}
use Rattle.ab_term.specs.Terms as tree
use Rattle.ab_term.specs.Typing.{Signature, HasType}
use Rattle.ab_term.specs.Variables.{Substitution, image, one_by_one, IsTyped}
use Rattle.ab_term.specs.Sameness.{same_number}
use Rattle.ab_term.proofs.Lists.{Contains-none, Contains-here, Contains-there, Contains-cases, Contains-map, Contains-from_map, All-from_contains, AllPairs-none, AllPairs-parts}
use Rattle.ab_term.specs.Constants.{type_in}
use Rattle.ab_norm.specs.ab_types.specs.Entries.{Table, signature}
use Rattle.ab_norm.specs.ab_store.specs.declared.node.TermId.{TermId}
use Rattle.ab_norm.specs.ab_store.specs.declared.node.CellId.{CellId}
use Rattle.ab_norm.specs.ab_store.specs.declared.node.CellEntry.{CellEntry}
use Rattle.ab_norm.specs.ab_store.specs.declared.node.Equation.{Equation as Given}
use Rattle.ab_term.specs.Terms.{Read}
use Rattle.ab_norm.specs.ab_store.specs.Trees.{Contents, HoldsCell, tree_of}
use Rattle.ab_norm.specs.ab_store.specs.Reading.{cell_variable, binding_of, reading}
use Rattle.ab_norm.specs.ab_store.specs.Bindings.{IsUnbound}
use Rattle.ab_norm.specs.ab_store.specs.Naming.{IsTerm}
use Rattle.ab_norm.specs.ab_store.proofs.Growing.{unbound_reads}
use Rattle.ab_norm.specs.ab_store.proofs.Putting.{read_typed}
use Rattle.ab_unifiers.specs.Replacements.{Cell, holds}
use Rattle.ab_unifiers.specs.Unification.{Equation, unified, Solves}
use Rattle.ab_unifiers.specs.Unifiers.{given, keys}
use Rattle.ab_unifiers.proofs.Falling.{map_length}
use Rattle.ab_unifiers.proofs.Once.{answer_once}
use Rattle.ab_unifiers.proofs.Agreeing.{contains_holds}
use Rattle.ab_unify.specs.Problem as shared
use Rattle.ab_unify.specs.Problem.{cell_read, cells_read}
use Rattle.ab_unify.specs.StoreChanges.{Grows, IsFree}
use Rattle.ab_unify.proofs.Growth.{grown_term, grown_variable}
use Rattle.ab_unify.proofs.RigidSolutions.{known_cells}
use Rattle.ab_unify.specs.UnifyAnswers.{AreNewCells, AreInAge, AreLeft}
use Rattle.ab_formulas.specs.Formulas.{IsFormula}
use Rattle.ab_formulas.specs.Declarations.{signature_in}
use Rattle.ab_formulas.specs.Sequents.{Variable, Hypothesis, Sequent, formulas_of, in_terms, formulas as formulas_in}
use Rattle.ab_logic.specs.Worlds.{read, Holds, variable_of, declarations_of, IsWorld}
use Rattle.ab_logic.specs.SequentReadings.{hypothesis_of, sequent_of, HoldsSequent}
use Rattle.ab_formulas.specs.NewNames.{IsNamedFor}
use Rattle.ab_logic.specs.declared.world.World.{World}
use Rattle.ab_logic.specs.declared.sequent.Sequent.{Sequent as Kept}
use Rattle.ab_logic.specs.declared.sequent.Hypothesis.{Hypothesis as KeptHypothesis}
use Rattle.ab_logic.proofs.Declaring.{constants_are}
use Rattle.ab_theory.specs.Equations.{stays, variables_from, made, Named, renaming, changed}
use Rattle.ab_theory.specs.Splits.{Case, cell_for, Arises}
use Rattle.ab_equations.specs.Meanwhile.{IsMeanwhile, AreFrom, count_before, hypothesis_read, goal_read, case_read, is_left, put_in, IsCarried}
use Rattle.ab_theory.proofs.Renaming.{renaming_typed, renamed_numbers}
use Rattle.ab_theory.proofs.Naming.{named_alike}
use Rattle.ab_theory.proofs.Carried.{holds_contains, pairs_both, one_equation}
use Rattle.ab_theory.proofs.AtOnce.{all_at_once}

-- the cells from some number on, in order of age
dropped : (types : Table) (cells : List CellEntry) (n : ℕ) (d : CellEntry) → n < length cells → drop n (map (cell_read types) cells) ≡ cell_read types (get_or cells n d) ∷ drop (suc n) (map (cell_read types) cells)
dropped types [] n d l = absurd (omega (arith, l))
dropped types (c ∷ cells) zero d l = refl
dropped types (c ∷ cells) (suc n) d l = dropped types cells n d (omega (arith, l))

made_in_order : (w : World) (n : ℕ) (cs : List CellId) → AllPairs (λ (a b : CellId). a.0 < b.0) cs → ((c : CellId) → Contains cs c ↔ ((c.0 < length w.store.cells) × (n ≤ c.0)))
    → map (variable_of w) cs ≡ variables_from n (drop n (cells_read w.types w.store))
made_in_order w n [] in_age which =
    let size = map_length (cell_read w.types) w.store.cells in
    let none : n < length w.store.cells → ⊥ = λ l. Contains-none (record { 0 = n }) ((which (record { 0 = n })).1 (l, omega arith)) in
    ap (variables_from n) (sym (drop_all n (cells_read w.types w.store) (subst (λ k. k ≤ n) (sym size) (high n (length w.store.cells) none))))
  where
    high : (k m : ℕ) → (k < m → ⊥) → m ≤ k
    high k zero h = omega arith
    high zero (suc m) h = absurd (h (omega arith))
    high (suc k) (suc m) h = let l = high k m (λ l. h (omega (arith, l))) in omega (arith, l)
made_in_order w n (c ∷ cs) in_age which =
    let both = AllPairs-parts (λ (a b : CellId). a.0 < b.0) c cs in_age in
    let there = (which c).0 (Contains-here c cs) in
    let d : CellEntry = record { hint = []; ty = record { 0 = 0 } } in
    let first : c.0 ≡ n = elim (Contains-cases c cs (record { 0 = n }) ((which (record { 0 = n })).1 (let a = there.0 in let b = there.1 in omega (arith, a, b), omega arith))) [
      | inl e ↦ ap (λ (k : CellId). k.0) e
      | inr m ↦ (let less = All-contains (λ (b : CellId). c.0 < b.0) cs (record { 0 = n }) both.0 m in let b = there.1 in absurd (omega (arith, less, b)))
    ] in
    let rest = made_in_order w (n + 1) cs both.1 (λ e. (
      λ m. (let p = (which e).0 (Contains-there c cs e m) in (p.0, (let less = All-contains (λ (b : CellId). c.0 < b.0) cs e both.0 m in omega (arith, less, first)))),
      λ p. elim (Contains-cases c cs e ((which e).1 (p.0, let more = p.1 in omega (arith, more)))) [
        | inl same ↦ (let number : c.0 ≡ e.0 = ap (λ (k : CellId). k.0) same in let more = p.1 in absurd (omega (arith, number, more, first)))
        | inr m ↦ m
      ],
    )) in
    let next : n + 1 ≡ suc n = omega arith in
    ap (λ l. variable_of w c ∷ l) rest
    ∙ ap (λ m. record { number = m; type = (variable_of w c).type; name = (variable_of w c).name } ∷ variables_from (n + 1) (drop (n + 1) (cells_read w.types w.store))) first
    ∙ ap (λ m. record { number = n; type = (cell_read w.types (get_or w.store.cells m d)).type; name = (cell_read w.types (get_or w.store.cells m d)).hint } ∷ variables_from (n + 1) (drop (n + 1) (cells_read w.types w.store))) first
    ∙ ap (λ m. record { number = n; type = (cell_read w.types (get_or w.store.cells n d)).type; name = (cell_read w.types (get_or w.store.cells n d)).hint } ∷ variables_from (n + 1) (drop m (cells_read w.types w.store))) next
    ∙ ap (variables_from n) (sym (dropped w.types w.store.cells n d (let a = there.0 in omega (arith, a, first))))

-- the two tests agree
test_same : (b : Bool) (o : Option TermId) → (o ≡ None) ↔ (b ≡ false) → is_none o ≡ not b
test_same true None iff = let clash : true ≡ false = iff.0 refl in absurd (cc)
test_same true (Some t) iff = refl
test_same false None iff = refl
test_same false (Some t) iff = let clash : Some t ≡ None = iff.1 refl in absurd (cc)

filter_alike : {X : Type 0} (p q : X → Bool) (xs : List X) → All (λ x. p x ≡ q x) xs → filter p xs ≡ filter q xs
filter_alike p q [] all = refl
filter_alike p q (x ∷ xs) all =
    ap (λ b. cond b (x ∷ filter p xs) (filter p xs)) (All-head (λ x. p x ≡ q x) x xs all)
    ∙ ap (λ l. cond (q x) (x ∷ l) l) (filter_alike p q xs (All-tail (λ x. p x ≡ q x) x xs all))

-- the formulas of a sequent are terms
same_signature : (w : World) → IsMeanwhile w → signature_in (declarations_of w) ≡ signature w.types
same_signature w is = ap type_in (constants_are w 0 w.additions is.order)

formula_term : (w : World) → IsMeanwhile w → (t : TermId) → Holds w t → IsFormula (signature_in (declarations_of w)) (read w t) → IsTerm w.types w.store [] t prop
formula_term w is t h f = (h, subst (λ sg. HasType sg [] (read w t) prop) (same_signature w is) f.typed)

hypotheses_terms : (w : World) → IsMeanwhile w → (hs : List KeptHypothesis) → All (λ (h : KeptHypothesis). Holds w h.formula) hs → All (IsFormula (signature_in (declarations_of w))) (formulas_in (map (hypothesis_of w) hs))
    → All (λ (h : KeptHypothesis). IsTerm w.types w.store [] h.formula prop) hs
hypotheses_terms w is [] held all = All-nil (λ (h : KeptHypothesis). IsTerm w.types w.store [] h.formula prop)
hypotheses_terms w is (h ∷ hs) held all =
    let P : Read → Type 0 = IsFormula (signature_in (declarations_of w)) in
    All-cons (λ (h : KeptHypothesis). IsTerm w.types w.store [] h.formula prop) h hs
    (formula_term w is h.formula (All-head (λ (h : KeptHypothesis). Holds w h.formula) h hs held) (All-head (IsFormula (signature_in (declarations_of w))) (read w h.formula) (formulas_in (map (hypothesis_of w) hs)) all))
    (hypotheses_terms w is hs (All-tail (λ (h : KeptHypothesis). Holds w h.formula) h hs held) (All-tail (IsFormula (signature_in (declarations_of w))) (read w h.formula) (formulas_in (map (hypothesis_of w) hs)) all))

-- changes that are the same on the formulas of the goal
abbrev with : (Read → Read) → List Hypothesis → List Hypothesis
with f hs = map (λ (h : Hypothesis). record { name = h.name; formula = f h.formula }) hs

hypotheses_changed : (w : World) (f g : Read → Read) (P : TermId → Type 0) → ((t : TermId) → P t → f (read w t) ≡ g (reading w.types w.store t)) → (hs : List KeptHypothesis) → All (λ (h : KeptHypothesis). P h.formula) hs
    → with f (map (hypothesis_of w) hs) ≡ with g (map (hypothesis_read w.types w.store) hs)
hypotheses_changed w f g P same [] all = refl
hypotheses_changed w f g P same (h ∷ hs) all =
    let name : Read → Hypothesis = λ F. record { name = h.name; formula = F } in
    ap (λ F. name F ∷ with f (map (hypothesis_of w) hs)) (same h.formula (All-head (λ (h : KeptHypothesis). P h.formula) h hs all))
    ∙ ap (λ l. name (g (reading w.types w.store h.formula)) ∷ l) (hypotheses_changed w f g P same hs (All-tail (λ (h : KeptHypothesis). P h.formula) h hs all))

changed_alike : (w : World) (f g : Read → Read) (P : TermId → Type 0) → ((t : TermId) → P t → f (read w t) ≡ g (reading w.types w.store t)) → (s : Kept) → All (λ (h : KeptHypothesis). P h.formula) s.hypotheses → P s.conclusion
    → (xs : List Variable) → changed f xs (sequent_of w s) ≡ changed g xs (goal_read w s)
changed_alike w f g P same s hs c xs =
    ap (λ l. record { variables = xs; hypotheses = l; conclusion = f (read w s.conclusion); counter = s.counter }) (hypotheses_changed w f g P same s.hypotheses hs)
    ∙ ap (λ F. record { variables = xs; hypotheses = with g (map (hypothesis_read w.types w.store) s.hypotheses); conclusion = F; counter = s.counter }) (same s.conclusion c)

high : (k m : ℕ) → (k < m → ⊥) → m ≤ k
high k zero h = omega arith
high zero (suc m) h = absurd (h (omega arith))
high (suc k) (suc m) h = let l = high k m (λ l. h (omega (arith, l))) in omega (arith, l)

-- THE CELLS FROM SOME NUMBER ON
pub from_count : (store : Contents) (n : ℕ) (cs : List CellId) → AreFrom store n cs → n + length cs ≡ length store.cells
from_count store n [] f = omega (arith, f)
from_count store n (c ∷ cs) f = let rest = from_count store (n + 1) cs f.1 in omega (arith, rest)

from_which : (store : Contents) (n : ℕ) (cs : List CellId) → AreFrom store n cs → (c : CellId) → Contains cs c ↔ ((c.0 < length store.cells) × (n ≤ c.0))
from_which store n [] f c = (λ m. absurd (Contains-none c m), λ p. let low = p.0 in let from = p.1 in absurd (omega (arith, low, from, f)))
from_which store n (d ∷ cs) f c =
    let count = from_count store n (d ∷ cs) f in
    let number = f.0 in
    let rest = from_which store (n + 1) cs f.1 c in (
      λ m. elim (Contains-cases d cs c m) [
        | inl same ↦ (let equal : d.0 ≡ c.0 = ap (λ (e : CellId). e.0) same in (omega (arith, count, number, equal), omega (arith, number, equal)))
        | inr there ↦ (let p = rest.0 there in let from = p.1 in (p.0, omega (arith, from)))
      ],
      λ p. let low = p.0 in let from = p.1 in elim (cases_order n c.0) [
        | inl e ↦ subst (Contains (d ∷ cs)) (ap (λ k. record { 0 = k }) (number ∙ e)) (Contains-here d cs)
        | inr o ↦ elim o [
          | inl less ↦ Contains-there d cs c (rest.1 (low, omega (arith, less)))
          | inr less ↦ absurd (omega (arith, less, from))
        ]
      ],
    )

from_age : (store : Contents) (n : ℕ) (cs : List CellId) → AreFrom store n cs → AllPairs (λ (a b : CellId). a.0 < b.0) cs
from_age store n [] f = AllPairs-none (λ (a b : CellId). a.0 < b.0)
from_age store n (c ∷ cs) f =
    let number = f.0 in
    AllPairs-cons (λ (a b : CellId). a.0 < b.0) c cs
    (All-from_contains (λ (b : CellId). c.0 < b.0) cs (λ b m. let from = ((from_which store (n + 1) cs f.1 b).0 m).1 in omega (arith, from, number)))
    (from_age store (n + 1) cs f.1)

-- with those that are new behind them
module _ (old new : Contents) (longer : (c : CellId) → HoldsCell old c → HoldsCell new c) (n : ℕ) (own cs : List CellId) (from : AreFrom old n own) (are_new : AreNewCells old new cs) (in_age : AreInAge cs) where
  pub behind_which : (c : CellId) → Contains (own ++ cs) c ↔ ((c.0 < length new.cells) × (n ≤ c.0))
  behind_which c = (
    λ m. elim (Contains-append_cases own cs c m) [
      | inl a ↦ (let p = (from_which old n own from c).0 a in (longer c p.0, p.1))
      | inr a ↦ (let p = (are_new c).0 a in let young = high c.0 (length old.cells) p.1 in let count = from_count old n own from in (p.0, omega (arith, young, count)))
    ],
    λ p. elim (cases_order c.0 (length old.cells)) [
      | inl e ↦ Contains-append_right own cs c ((are_new c).1 (p.0, λ l. omega (arith, l, e)))
      | inr o ↦ elim o [
        | inl less ↦ Contains-append_left own cs c ((from_which old n own from c).1 (less, p.1))
        | inr less ↦ Contains-append_right own cs c ((are_new c).1 (p.0, λ l. omega (arith, l, less)))
      ]
    ],
  )

  pub behind_age : AllPairs (λ (a b : CellId). a.0 < b.0) (own ++ cs)
  behind_age =
      pairs_both (λ (a b : CellId). a.0 < b.0) own cs (from_age old n own from) in_age
      (All-from_contains (λ (a : CellId). All (λ (b : CellId). a.0 < b.0) cs) own
      (λ a m. All-from_contains (λ (b : CellId). a.0 < b.0) cs
      (λ b k. let low = ((from_which old n own from a).0 m).0 in let young = high b.0 (length old.cells) ((are_new b).0 k).1 in omega (arith, low, young))))

-- from the world w to the world u, in which the cells are bound to the answer
module _ (w u : World) (is : IsMeanwhile w) (g : Grows w.types w.store u.types u.store) (more : List (Cell (List ℕ))) (answer : Substitution ℕ (List ℕ))
    (reads : (G : List Ty) (t : TermId) (A : Ty) → IsTerm w.types w.store G t A → reading u.types u.store t ≡ image same_number answer (reading w.types w.store t))
    (cells : cells_read u.types u.store ≡ more) (es : List Given) (ys own : List CellId)
    (free : All (IsFree w.store) ys) (from : AreFrom w.store (count_before w own) own) (flexible : All (Contains ys) own)
    (solves : Solves (codes "x") (shared.problem w.types w.store es ys) (unified more answer))
    (left : AreLeft w.store ys u.types u.store answer) (others : (c : CellId) → IsFree w.store c → ¬ Contains ys c → IsFree u.store c) where
  abbrev there : List (Cell (List ℕ))
  there = cells_read w.types w.store

  abbrev n : ℕ
  n = count_before w own

  abbrev before : List (Cell (List ℕ))
  before = take n there

  there_count : length there ≡ length w.store.cells
  there_count = map_length (cell_read w.types) w.store.cells

  before_count : length before ≡ n
  before_count = let count = from_count w.store n own from in length-take-le n there (omega (arith, count, there_count))

  count : length u.store.cells ≡ length more
  count = sym (map_length (cell_read u.types) u.store.cells) ∙ ap length cells

  -- a cell is unbound where its variable stays
  stays_so : (c : CellId) → Contains ys c ⊎ (¬ HoldsCell w.store c) → HoldsCell u.store c → is_left u.store (variable_of u c) ≡ stays answer (variable_of u c)
  stays_so c which held = test_same (holds (keys answer) (cell_variable u.types u.store c)) (binding_of u.store c) (left c which held)

  made_so : (cs : List CellId) → AreNewCells w.store u.store cs → AreInAge cs → filter (is_left u.store) (map (variable_of u) (own ++ cs)) ≡ made before more answer
  made_so cs new in_age =
      let longer : (c : CellId) → HoldsCell w.store c → HoldsCell u.store c = λ c h. (g.cells c h).0 in
      let which = behind_which w.store u.store longer n own cs from new in_age in
      filter_alike (is_left u.store) (stays answer) (map (variable_of u) (own ++ cs))
      (All-map (λ (x : Variable). is_left u.store x ≡ stays answer x) (variable_of u) (own ++ cs)
      (All-from_contains (λ (c : CellId). is_left u.store (variable_of u c) ≡ stays answer (variable_of u c)) (own ++ cs) (λ c m. elim (Contains-append_cases own cs c m) [
        | inl a ↦ stays_so c (inl (All-contains (Contains ys) own c flexible a)) ((which c).0 m).0
        | inr a ↦ stays_so c (inr ((new c).0 a).1) ((which c).0 m).0
      ])))
      ∙ ap (filter (stays answer)) (made_in_order u n (own ++ cs) (behind_age w.store u.store longer n own cs from new in_age) which)
      ∙ ap (λ k. filter (stays answer) (variables_from k (drop k (cells_read u.types u.store)))) (sym before_count)
      ∙ ap (λ l. filter (stays answer) (variables_from (length before) (drop (length before) l))) cells

  -- a variable of the goal that may not be replaced stays
  rigid_stays : (c : CellId) → IsFree w.store c → holds (shared.variables_read w.types w.store ys) (cell_variable w.types w.store c) ≡ false → is_left u.store (variable_of w c) ≡ stays answer (variable_of w c)
  rigid_stays c is_free not_listed =
      let not_flexible : ¬ Contains ys c = λ m. false≢true (sym not_listed ∙ contains_holds (shared.variables_read w.types w.store ys) (cell_variable w.types w.store c) (Contains-map (cell_variable w.types w.store) ys c m)) in
      let kept : holds (keys answer) (cell_variable w.types w.store c) ≡ false =
      false_from_ne_true (holds (keys answer) (cell_variable w.types w.store c))
      (λ k. elim ((answer_once (codes "x") (shared.equations_read w.types w.store es) there (shared.variables_read w.types w.store ys) (known_cells w.types w.store ys free) more answer solves).1 (cell_variable w.types w.store c) k) [
        | inl a ↦ false≢true (sym not_listed ∙ a)
        | inr a ↦ (let young = a.0 in let old = is_free.0 in absurd (omega (arith, young, old, there_count)))
      ]) in
      ap is_none (others c is_free not_flexible).1 ∙ sym (ap not kept)

  variable_stays : (c : CellId) → IsFree w.store c → is_left u.store (variable_of w c) ≡ stays answer (variable_of w c)
  variable_stays c is_free = go (holds (shared.variables_read w.types w.store ys) (cell_variable w.types w.store c)) refl
    where
      go : (b : Bool) → holds (shared.variables_read w.types w.store ys) (cell_variable w.types w.store c) ≡ b → is_left u.store (variable_of w c) ≡ stays answer (variable_of w c)
      go false e = rigid_stays c is_free e
      go true e =
          let found = Contains-from_map (cell_variable w.types w.store) ys (cell_variable w.types w.store c) (holds_contains (shared.variables_read w.types w.store ys) (cell_variable w.types w.store c) e) in
          let same : found.0 ≡ c = ap (λ (y : tree.Variable ℕ). record { 0 = y.name }) found.2 in
          test_same (holds (keys answer) (cell_variable w.types w.store c)) (binding_of u.store c)
          (subst (λ y. IsUnbound u.store c ↔ (holds (keys answer) y ≡ false)) (grown_variable w.types u.types w.store u.store g is.typed c is_free.0)
          (left c (inl (subst (Contains ys) same found.1)) (g.cells c is_free.0).0))

  formula_so : (xs zs : List Variable) → All (λ (x : Variable). x.number < length more) xs → All (λ (z : Variable). length more ≤ z.number) zs
      → ((sg : Signature) → IsTyped sg (renaming xs zs)) → (t : TermId) → IsTerm w.types w.store [] t prop
      → one_by_one same_number (renaming xs zs) (put_in u (read w t)) ≡ image same_number (renaming xs zs) (image same_number answer (reading w.types w.store t))
  formula_so xs zs low high typed t term =
      let there = grown_term w.types u.types w.store u.store g [] t prop term in
      let tree : read w t ≡ tree_of u.types u.store t = sym (g.trees t term.0).1 in
      ap (λ F. one_by_one same_number (renaming xs zs) (put_in u F)) tree
      ∙ all_at_once (signature u.types) (length more) xs zs low high (typed (signature u.types)) (reading u.types u.store t) prop (read_typed u.types u.store g.typed [] t prop there.1)
      ∙ ap (image same_number (renaming xs zs)) (reads [] t prop term)

  -- THE CASE ARISES, AS THE GOAL THAT IS CARRIED OVER
  pub arises_so : (s k : Kept) (v : World) (cs : List CellId) → HoldsSequent w s → All (IsFormula (signature_in (declarations_of w))) (formulas_of (sequent_of w s)) → All (IsFree w.store) s.variables
      → AreNewCells w.store u.store cs → AreInAge cs → declarations_of u ≡ declarations_of w → sequent_of u s ≡ sequent_of w s → IsCarried u (own ++ cs) s v k
      → Arises (IsNamedFor (declarations_of w)) (case_read w es ys own s) (cells_read v.types v.store) (sequent_of v k)
  arises_so s k v cs held formulas unbound new in_age declared goal carried =
      let S = sequent_of w s in
      let xs = filter (is_left u.store) (map (variable_of u) (own ++ cs)) in
      let zs = carried.0 in
      let IsName = IsNamedFor (declarations_of w) in
      let named : Named IsName S (length more) xs zs =
      subst (λ n. Named IsName S n xs zs) count
      (subst (λ q. Named IsName q (length u.store.cells) xs zs) goal
      (subst (λ D. Named (IsNamedFor D) (sequent_of u s) (length u.store.cells) xs zs) declared carried.1)) in
      let listed : xs ≡ made before more answer = made_so cs new in_age in
      let low : All (λ (x : Variable). x.number < length more) xs =
      All-filter (is_left u.store) (λ (x : Variable). x.number < length more) (map (variable_of u) (own ++ cs))
      (All-map (λ (x : Variable). x.number < length more) (variable_of u) (own ++ cs)
      (All-from_contains (λ (c : CellId). c.0 < length more) (own ++ cs)
      (λ c m. let p = ((behind_which w.store u.store (λ c h. (g.cells c h).0) n own cs from new in_age c).0 m).0 in omega (arith, p, count)))) in
      let high = (renamed_numbers IsName S (length more) xs zs named).0 in
      let kept : filter (is_left u.store) S.variables ≡ filter (stays answer) S.variables =
      filter_alike (is_left u.store) (stays answer) S.variables
      (All-map (λ (x : Variable). is_left u.store x ≡ stays answer x) (variable_of w) s.variables
      (All-weaker (IsFree w.store) (λ (c : CellId). is_left u.store (variable_of w c) ≡ stays answer (variable_of w c)) variable_stays s.variables unbound)) in
      let P : TermId → Type 0 = λ t. IsTerm w.types w.store [] t prop in
      let Formula : Read → Type 0 = IsFormula (signature_in (declarations_of w)) in
      let hypotheses = hypotheses_terms w is s.hypotheses held.hypotheses (All-tail Formula (read w s.conclusion) (formulas_in S.hypotheses) formulas) in
      let conclusion = formula_term w is s.conclusion held.conclusion (All-head Formula (read w s.conclusion) (formulas_in S.hypotheses) formulas) in
      let f : Read → Read = λ F. one_by_one same_number (renaming xs zs) (put_in u F) in
      let image_of : List Variable → Read → Read = λ ms F. image same_number (renaming ms zs) (image same_number answer F) in
      record {
        more = more;
        answer = answer;
        new = zs;
        solved = subst (λ cs. Solves (codes "x") (given (shared.equations_read w.types w.store es) cs (shared.variables_read w.types w.store ys)) (unified more answer)) (sym (take-append-drop n there)) solves;
        named = named_alike (declarations_of w) S (goal_read w s) (length more) (made before more answer) zs refl (subst (λ ms. Named IsName S (length more) ms zs) listed named);
        all = carried.3 ∙ ap (λ l. l ++ map cell_for zs) cells;
        goal =
            carried.2
            ∙ ap (λ q. changed f (filter (is_left u.store) q.variables ++ zs) q) goal
            ∙ ap (λ l. changed f (l ++ zs) S) kept
            ∙ changed_alike w f (image_of xs) P (formula_so xs zs low high (λ sg. renaming_typed IsName sg S (length more) xs zs named)) s hypotheses conclusion (filter (stays answer) S.variables ++ zs)
            ∙ ap (λ ms. changed (image_of ms) (filter (stays answer) S.variables ++ zs) (goal_read w s)) listed;
      }

-- A WORLD WHERE NO CELL IS BOUND: one equation in which each variable of the goal may be replaced is such a case
module _ (w : World) (is : IsWorld w) (l r : TermId) (s : Kept) where
  abbrev es : List Given
  es = record { left = l; right = r } ∷ []

  variables_same : (cs : List CellId) → map (cell_variable w.types w.store) cs ≡ map in_terms (map (variable_of w) cs)
  variables_same [] = refl
  variables_same (c ∷ cs) = ap (λ l. cell_variable w.types w.store c ∷ l) (variables_same cs)

  hypotheses_same : (hs : List KeptHypothesis) → map (hypothesis_read w.types w.store) hs ≡ map (hypothesis_of w) hs
  hypotheses_same [] = refl
  hypotheses_same (h ∷ hs) =
      ap (λ F. record { name = h.name; formula = F } ∷ map (hypothesis_read w.types w.store) hs) (unbound_reads w.store is.unbound w.types h.formula)
      ∙ ap (λ l. hypothesis_of w h ∷ l) (hypotheses_same hs)

  goal_same : goal_read w s ≡ sequent_of w s
  goal_same =
      ap (λ hs. record { variables = map (variable_of w) s.variables; hypotheses = hs; conclusion = reading w.types w.store s.conclusion; counter = s.counter }) (hypotheses_same s.hypotheses)
      ∙ ap (λ F. record { variables = map (variable_of w) s.variables; hypotheses = map (hypothesis_of w) s.hypotheses; conclusion = F; counter = s.counter }) (unbound_reads w.store is.unbound w.types s.conclusion)

  pub same_case : case_read w es s.variables [] s ≡ one_equation (cells_read w.types w.store) (sequent_of w s) (read w l) (read w r)
  same_case =
      let cells = cells_read w.types w.store in
      let ys = map (cell_variable w.types w.store) s.variables in
      let size : length cells ≡ length w.store.cells = map_length (cell_read w.types) w.store.cells in
      let sides : Read → Read → List (Equation (List ℕ)) = λ t u. record { place = 0; left = t; right = u } ∷ [] in
      let case : List (Cell (List ℕ)) → List (Cell (List ℕ)) → List (Equation (List ℕ)) → List (tree.Variable ℕ) → Sequent → Case = λ before own es ys s. record { before = before; own = own; equations = es; flexible = ys; goal = s } in
      let left = reading w.types w.store l in
      let right = reading w.types w.store r in
      let all = count_before w [] in
      ap (λ b. case b (drop all cells) (sides left right) ys (goal_read w s)) (take_all all cells (omega (arith, size)))
      ∙ ap (λ o. case cells o (sides left right) ys (goal_read w s)) (drop_all all cells (omega (arith, size)))
      ∙ ap (λ t. case cells [] (sides t right) ys (goal_read w s)) (unbound_reads w.store is.unbound w.types l)
      ∙ ap (λ t. case cells [] (sides (read w l) t) ys (goal_read w s)) (unbound_reads w.store is.unbound w.types r)
      ∙ ap (λ zs. case cells [] (sides (read w l) (read w r)) zs (goal_read w s)) (variables_same s.variables)
      ∙ ap (λ q. case cells [] (sides (read w l) (read w r)) (map in_terms (map (variable_of w) s.variables)) q) goal_same
