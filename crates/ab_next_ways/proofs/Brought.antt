-- Cells that a way brings, behind those that might be replaced before.
use Rattle.std.specs.List.{All}
use Rattle.std.specs.Prelude.{Contains}
use Rattle.std.proofs.Common.{◌≡◌, inl, inr, ℕ, suc, ◌+◌, ◌≤◌, List, [], ◌∷◌, ◌++◌, length, ◌∙◌, ap, subst, arith}
use Rattle.std.proofs.lemmas.List.{map-append}
use Rattle.std.proofs.lemmas.List.Elements.{All-nil, All-cons, All-append, All-weaker, All-contains, Contains-append_cases}
use Rattle.ab_term.specs.Terms.{Variable}
use Rattle.ab_term.specs.Variables.{variables}
use Rattle.ab_norm.specs.ab_types.specs.Entries.{Table}
use Rattle.ab_norm.specs.ab_store.specs.declared.node.CellId.{CellId}
use Rattle.ab_norm.specs.ab_store.specs.declared.node.TermId.{TermId}
use Rattle.ab_norm.specs.ab_store.specs.Trees.{Contents, HoldsCell}
use Rattle.ab_norm.specs.ab_store.specs.Reading.{cell_variable, bound_in}
use Rattle.ab_unifiers.specs.Replacements.{Cell}
use Rattle.ab_unifiers.specs.Clauses.{numbered}
use Rattle.ab_unify.specs.Problem.{variables_read}
use Rattle.ab_unify.specs.StoreChanges.{IsFree}
use Rattle.ab_logic.specs.WorldGrowth as world
use Rattle.ab_logic.specs.Worlds.{IsWorld, read}
use Rattle.ab_logic.specs.declared.world.World.{World}
use Rattle.ab_search_ways.specs.GoalReadings.{IsAside}
use Rattle.ab_search_ways.proofs.LaterWorlds.{all_free, later_variables, later_formula}
use Rattle.ab_search_ways.proofs.Opened.{cell_there}

-- the last cells, as variables numbered from there on
last_cells : (T : Table) (S : Contents) (n : ℕ) (post : List (Cell (List ℕ))) (cs : List CellId) → variables_read T S cs ≡ numbered n post → length S.cells ≡ n + length post → All (λ c. (n ≤ c.0) × HoldsCell S c) cs
last_cells T S n post [] e l = All-nil (λ c. (n ≤ c.0) × HoldsCell S c)
last_cells T S n [] (c ∷ cs) e l = absurd (cc)
last_cells T S n (p ∷ post) (c ∷ cs) e l =
    let first : cell_variable T S c ≡ record { name = n; type = p.type } = cc in
    let rest : variables_read T S cs ≡ numbered (suc n) post = cc in
    let number : c.0 ≡ n = ap (λ (y : Variable ℕ). y.name) first in
    All-cons (λ c. (n ≤ c.0) × HoldsCell S c) c cs (omega (arith, number), omega (arith, number, l))
    (All-weaker (λ c. (suc n ≤ c.0) × HoldsCell S c) (λ c. (n ≤ c.0) × HoldsCell S c) (λ d b. (let low = b.0 in omega (arith, low), b.1)) cs (last_cells T S (suc n) post cs rest (omega (arith, l))))

module _ (w v : World) (is : IsWorld w) (g : world.Grows w v) (flexible own : List CellId) (n : ℕ) (post : List (Cell (List ℕ)))
    (behind : length w.store.cells ≤ n) (own_are : variables_read v.types v.store own ≡ numbered n post) (size : length v.store.cells ≡ n + length post) where
  abbrev IsBrought : CellId → Type 0
  IsBrought c = (n ≤ c.0) × HoldsCell v.store c

  own_cells : All IsBrought own
  own_cells = last_cells v.types v.store n post own own_are size

  one_aside : (t : TermId) → IsAside w flexible t → IsAside v (flexible ++ own) t
  one_aside t a = record {
    formula = later_formula w v g t a.formula;
    apart = λ y m e.
        let old : Contains (variables (read w t)) y = subst (λ r. Contains (variables r) y) (g.readings t a.formula.0) m in
        let less = cell_there w is t a.formula.0 y old in
        elim (Contains-append_cases flexible own (record { 0 = y.name }) e) [
          | inl f ↦ a.apart y old f
          | inr f ↦ (let more = (All-contains IsBrought own (record { 0 = y.name }) own_cells f).0 in absurd (omega (arith, less, behind, more)))
        ];
  }

  pub brought_aside : (base : List TermId) → All (IsAside w flexible) base → All (IsAside v (flexible ++ own)) base
  brought_aside base all = All-weaker (IsAside w flexible) (IsAside v (flexible ++ own)) one_aside base all

  module _ (free : All (IsFree w.store) flexible) where
    pub brought_free : All (IsFree v.store) (flexible ++ own)
    brought_free =
        All-append (IsFree v.store) flexible own (all_free w v g flexible free)
        (All-weaker IsBrought (IsFree v.store) (λ c b. (b.1, ap (λ bs. bound_in bs c) g.world.unbound)) own own_cells)

    pub brought_variables : variables_read v.types v.store (flexible ++ own) ≡ variables_read w.types w.store flexible ++ numbered n post
    brought_variables =
        map-append (cell_variable v.types v.store) flexible own
        ∙ ap (λ l. l ++ variables_read v.types v.store own) (later_variables w v g flexible free)
        ∙ ap (λ l. variables_read w.types w.store flexible ++ l) own_are
