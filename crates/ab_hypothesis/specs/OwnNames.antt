-- Hypotheses that a command makes for itself and removes again. The contracts of commands don't speak of this.
use Rattle.std.specs.Prelude.{◌≡◌, ◌≢◌, ℕ, ◌+◌, ◌*◌, ◌≤◌, List, [], ◌∷◌, ◌++◌, Some, codes}
use Rattle.std.specs.Fmt.{decimal}
use Rattle.ab_formulas.specs.Sequents.{Hypothesis, Sequent, IsUsed, formula_of, without}
use Rattle.ab_formulas.specs.NewNames.{Label, given, automatic, IsLeast}
use Rattle.ab_steps.proofs.Connectives.{connectives}

-- the name is neither automatic nor the label
pub record IsOwn (l : Label) (x : List ℕ) : Type 0 where
  pub no_automatic : (n : ℕ) → x ≢ automatic n
  pub no_label : l ≢ given x

-- the names that a command may make: `_1`, `_2`, ..
abbrev pub own_numbered : ℕ → List ℕ
own_numbered n = codes "_" ++ decimal n

-- no hypothesis of the goal has the name, and it isn't the label
abbrev pub IsFreeBeside : Label → Sequent → List ℕ → Type 0
IsFreeBeside l s x = (¬ IsUsed s x) × (l ≢ given x)

-- THE NAME IS THE FIRST of these that is free
abbrev pub IsFirstOwn : Label → Sequent → List ℕ → Type 0
IsFirstOwn l s x = (n : ℕ) × IsLeast (λ m. (1 ≤ m) × IsFreeBeside l s (own_numbered m)) n × (x ≡ own_numbered n)

abbrev pub AreOwn : Label → List Hypothesis → Type 0
AreOwn l [] = Unit {0}
AreOwn l (h ∷ hs) = IsOwn l h.name × AreOwn l hs

-- the goal has these hypotheses, of which no two have one name
abbrev pub HasAll : List Hypothesis → Sequent → Type 0
HasAll [] k = Unit {0}
HasAll (h ∷ hs) k = (formula_of k h.name ≡ Some h.formula) × HasAll hs (without h.name k)

-- the goal without them
abbrev pub besides : List Hypothesis → Sequent → Sequent
besides [] k = k
besides (h ∷ hs) k = besides hs (without h.name k)

-- how much there is to open
abbrev pub weight : List Hypothesis → ℕ
weight [] = 0
weight (h ∷ hs) = (2 * connectives h.formula + 1) + weight hs
