-- The variables that an answer leaves open are the unbound ones among those that are new.
use Rattle.std.specs.List.{All}
use Rattle.std.specs.Prelude.{AllPairs, Contains, filter, is_none, ◌↔◌}
use Rattle.std.proofs.Common.{◌≡◌, inl, inr, ℕ, zero, suc, ◌+◌, ◌<◌, ◌≤◌, List, [], ◌∷◌, ◌++◌, map, take, drop, length, get_or, Bool, true, false, cond, not, Option, Some, None, refl, sym, ◌∙◌, ap, subst, arith, length-take-le}
use Rattle.std.proofs.lemmas.List.{drop_all}
use Rattle.std.proofs.lemmas.List.Elements.{All-nil, All-cons, All-head, All-tail, All-contains, Contains-append_cases}
use Rattle.ab_term.specs.Variables.{Substitution}
use Rattle.ab_term.proofs.Lists.{Contains-none, Contains-here, Contains-there, Contains-cases, All-from_contains, AllPairs-parts}
use Rattle.ab_norm.specs.ab_types.specs.Entries.{Table}
use Rattle.ab_norm.specs.ab_store.specs.declared.node.TermId.{TermId}
use Rattle.ab_norm.specs.ab_store.specs.declared.node.CellId.{CellId}
use Rattle.ab_norm.specs.ab_store.specs.declared.node.CellEntry.{CellEntry}
use Rattle.ab_norm.specs.ab_store.specs.Trees.{Contents, HoldsCell}
use Rattle.ab_norm.specs.ab_store.specs.Reading.{cell_variable, binding_of}
use Rattle.ab_unifiers.specs.Replacements.{Cell, holds}
use Rattle.ab_unifiers.specs.Unifiers.{keys}
use Rattle.ab_unifiers.proofs.Falling.{map_length}
use Rattle.ab_unify.specs.Problem.{cell_read, cells_read}
use Rattle.ab_unify.specs.StoreChanges.{Grows}
use Rattle.ab_unify.specs.UnifyAnswers.{AreNewCells, AreInAge, AreLeft}
use Rattle.ab_theory.specs.Equations.{stays, variables_from, made}
use Rattle.ab_equations.specs.Meanwhile.{AreFrom, unbound_of}
use Rattle.ab_equations.proofs.Answering.{from_count, behind_which, behind_age}
use Rattle.ab_logic.specs.Worlds.{variable_at}

dropped : (types : Table) (cells : List CellEntry) (n : ℕ) (d : CellEntry) → n < length cells → drop n (map (cell_read types) cells) ≡ cell_read types (get_or cells n d) ∷ drop (suc n) (map (cell_read types) cells)
dropped types [] n d l = absurd (omega (arith, l))
dropped types (c ∷ cells) zero d l = refl
dropped types (c ∷ cells) (suc n) d l = dropped types cells n d (omega (arith, l))

high : (k m : ℕ) → (k < m → ⊥) → m ≤ k
high k zero h = omega arith
high zero (suc m) h = absurd (h (omega arith))
high (suc k) (suc m) h = let l = high k m (λ l. h (omega (arith, l))) in omega (arith, l)

-- the cells from some number on, in order of age
in_order : (T : Table) (S : Contents) (n : ℕ) (cs : List CellId) → AllPairs (λ (a b : CellId). a.0 < b.0) cs → ((c : CellId) → Contains cs c ↔ ((c.0 < length S.cells) × (n ≤ c.0)))
    → map (variable_at T S) cs ≡ variables_from n (drop n (cells_read T S))
in_order T S n [] in_age which =
    let size = map_length (cell_read T) S.cells in
    let none : n < length S.cells → ⊥ = λ l. Contains-none (record { 0 = n }) ((which (record { 0 = n })).1 (l, omega arith)) in
    ap (variables_from n) (sym (drop_all n (cells_read T S) (subst (λ k. k ≤ n) (sym size) (high n (length S.cells) none))))
in_order T S n (c ∷ cs) in_age which =
    let both = AllPairs-parts (λ (a b : CellId). a.0 < b.0) c cs in_age in
    let there = (which c).0 (Contains-here c cs) in
    let d : CellEntry = record { hint = []; ty = record { 0 = 0 } } in
    let first : c.0 ≡ n = elim (Contains-cases c cs (record { 0 = n }) ((which (record { 0 = n })).1 (let a = there.0 in let b = there.1 in omega (arith, a, b), omega arith))) [
      | inl e ↦ ap (λ (k : CellId). k.0) e
      | inr m ↦ (let less = All-contains (λ (b : CellId). c.0 < b.0) cs (record { 0 = n }) both.0 m in let b = there.1 in absurd (omega (arith, less, b)))
    ] in
    let rest = in_order T S (n + 1) cs both.1 (λ e. (
      λ m. (let p = (which e).0 (Contains-there c cs e m) in (p.0, (let less = All-contains (λ (b : CellId). c.0 < b.0) cs e both.0 m in omega (arith, less, first)))),
      λ p. elim (Contains-cases c cs e ((which e).1 (p.0, let more = p.1 in omega (arith, more)))) [
        | inl same ↦ (let number : c.0 ≡ e.0 = ap (λ (k : CellId). k.0) same in let more = p.1 in absurd (omega (arith, number, more, first)))
        | inr m ↦ m
      ],
    )) in
    let next : n + 1 ≡ suc n = omega arith in
    ap (λ l. variable_at T S c ∷ l) rest
    ∙ ap (λ m. record { number = m; type = (variable_at T S c).type; name = (variable_at T S c).name } ∷ variables_from (n + 1) (drop (n + 1) (cells_read T S))) first
    ∙ ap (λ m. record { number = n; type = (cell_read T (get_or S.cells m d)).type; name = (cell_read T (get_or S.cells m d)).hint } ∷ variables_from (n + 1) (drop (n + 1) (cells_read T S))) first
    ∙ ap (λ m. record { number = n; type = (cell_read T (get_or S.cells n d)).type; name = (cell_read T (get_or S.cells n d)).hint } ∷ variables_from (n + 1) (drop m (cells_read T S))) next
    ∙ ap (variables_from n) (sym (dropped T S.cells n d (let a = there.0 in omega (arith, a, first))))

-- the two tests agree
test_same : (b : Bool) (o : Option TermId) → (o ≡ None) ↔ (b ≡ false) → is_none o ≡ not b
test_same true None iff = let clash : true ≡ false = iff.0 refl in absurd (cc)
test_same true (Some t) iff = refl
test_same false None iff = refl
test_same false (Some t) iff = let clash : Some t ≡ None = iff.1 refl in absurd (cc)

map_filter : {X Y : Type 0} (f : X → Y) (p : X → Bool) (q : Y → Bool) (xs : List X) → All (λ x. p x ≡ q (f x)) xs → map f (filter p xs) ≡ filter q (map f xs)
map_filter f p q [] all = refl
map_filter f p q (x ∷ xs) all =
    go (map_filter f p q xs (All-tail (λ x. p x ≡ q (f x)) x xs all)) (p x) ∙ ap (λ b. cond b (f x ∷ filter q (map f xs)) (filter q (map f xs))) (All-head (λ x. p x ≡ q (f x)) x xs all)
  where
    go : map f (filter p xs) ≡ filter q (map f xs) → (b : Bool) → map f (cond b (x ∷ filter p xs) (filter p xs)) ≡ cond b (f x ∷ filter q (map f xs)) (filter q (map f xs))
    go e true = ap (λ l. f x ∷ l) e
    go e false = e

-- the cells from some number on are there, and so are those that are new behind them
pub from_held : (S : Contents) (n : ℕ) (cs : List CellId) → AreFrom S n cs → All (HoldsCell S) cs
from_held S n [] f = All-nil (HoldsCell S)
from_held S n (c ∷ cs) f = let count = from_count S n (c ∷ cs) f in let number = f.0 in All-cons (HoldsCell S) c cs (omega (arith, count, number)) (from_held S (n + 1) cs f.1)

pub all_there : (S V : Contents) → ((c : CellId) → HoldsCell S c → HoldsCell V c) → (n : ℕ) (own cs : List CellId) → AreFrom S n own → AreNewCells S V cs → AreInAge cs → All (HoldsCell V) (own ++ cs)
all_there S V longer n own cs from new in_age = All-from_contains (HoldsCell V) (own ++ cs) (λ d m. ((behind_which S V longer n own cs from new in_age d).0 m).0)

module _ (T U : Table) (S V : Contents) (g : Grows T S U V) (more : List (Cell (List ℕ))) (answer : Substitution ℕ (List ℕ)) (cells : cells_read U V ≡ more)
    (n : ℕ) (own : List CellId) (from : AreFrom S n own) (left : AreLeft S own U V answer) (cs : List CellId) (new : AreNewCells S V cs) (in_age : AreInAge cs) where
  longer : (c : CellId) → HoldsCell S c → HoldsCell V c
  longer c h = (g.cells c h).0

  which : (c : CellId) → Contains (own ++ cs) c ↔ ((c.0 < length V.cells) × (n ≤ c.0))
  which = behind_which S V longer n own cs from new in_age

  before_count : length (take n (cells_read T S)) ≡ n
  before_count = let count = from_count S n own from in let there = map_length (cell_read T) S.cells in length-take-le n (cells_read T S) (omega (arith, count, there))

  -- a cell is unbound where its variable stays
  stays_so : (c : CellId) → Contains (own ++ cs) c → is_none (binding_of V c) ≡ stays answer (variable_at U V c)
  stays_so c m = test_same (holds (keys answer) (cell_variable U V c)) (binding_of V c) (left c (elim (Contains-append_cases own cs c m) [
    | inl a ↦ inl a
    | inr a ↦ inr ((new c).0 a).1
  ]) ((which c).0 m).0)

  pub left_open : map (variable_at U V) (unbound_of V (own ++ cs)) ≡ made (take n (cells_read T S)) more answer
  left_open =
      map_filter (variable_at U V) (λ c. is_none (binding_of V c)) (stays answer) (own ++ cs) (All-from_contains (λ (c : CellId). is_none (binding_of V c) ≡ stays answer (variable_at U V c)) (own ++ cs) stays_so)
      ∙ ap (filter (stays answer)) (in_order U V n (own ++ cs) (behind_age S V longer n own cs from new in_age) which)
      ∙ ap (λ k. filter (stays answer) (variables_from k (drop k (cells_read U V)))) (sym before_count)
      ∙ ap (λ l. filter (stays answer) (variables_from (length (take n (cells_read T S))) (drop (length (take n (cells_read T S))) l))) cells
