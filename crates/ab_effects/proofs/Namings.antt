-- How new variables are named depends on the names of the others alone: by a hint, or by any name that is free.
use Rattle.std.proofs.Common.{◌≡◌, ◌≢◌, inl, inr, ℕ, List, [], ◌∷◌, map, sym, subst}
use Rattle.std.specs.Prelude.{All}
use Rattle.std.proofs.lemmas.List.Elements.{All-nil, All-cons, All-head, All-tail}
use Rattle.ab_term.specs.Terms as tree
use Rattle.ab_formulas.specs.Declarations.{Declarations}
use Rattle.ab_formulas.specs.Sequents.{Variable, Sequent}
use Rattle.ab_formulas.specs.NewNames.{IsNoVariable, IsFreeName, IsNamedFor}
use Rattle.ab_formulas.specs.NamedGoals.{variable_named}
use Rattle.ab_theory.specs.Equations.{Naming}

-- the goals' variables have the same names, in order
abbrev pub HaveSameNames : Sequent → Sequent → Type 0
HaveSameNames s u = map variable_named s.variables ≡ map variable_named u.variables

-- how a new variable is named depends on the names of the others alone
abbrev pub IsByNames : Naming → Type 0
IsByNames IsName = (s u : Sequent) (hint name : List ℕ) → HaveSameNames s u → IsName s hint name → IsName u hint name

-- and it gets one name
abbrev pub IsSettled : Naming → Type 0
IsSettled IsName = (s : Sequent) (hint name other : List ℕ) → IsName s hint name → IsName s hint other → name ≡ other

module _ (name : List ℕ) where
  abbrev Other : tree.Variable (List ℕ) → Type 0
  Other v = v.name ≢ name

  abbrev Another : Variable → Type 0
  Another x = x.name ≢ name

  onto : (xs : List Variable) → All Another xs → All Other (map variable_named xs)
  onto [] all = All-nil Other
  onto (x ∷ xs) all = All-cons Other (variable_named x) (map variable_named xs) (All-head Another x xs all) (onto xs (All-tail Another x xs all))

  back : (xs : List Variable) → All Other (map variable_named xs) → All Another xs
  back [] all = All-nil Another
  back (x ∷ xs) all = All-cons Another x xs (All-head Other (variable_named x) (map variable_named xs) all) (back xs (All-tail Other (variable_named x) (map variable_named xs) all))

pub no_variable : (s u : Sequent) (name : List ℕ) → HaveSameNames s u → IsNoVariable s name → IsNoVariable u name
no_variable s u name same none = back name u.variables (subst (All (Other name)) same (onto name s.variables none))

module _ (D : Declarations) where
  free : (s u : Sequent) (name : List ℕ) → HaveSameNames s u → IsFreeName D s name → IsFreeName D u name
  free s u name same f = record { no_variable = no_variable s u name same f.no_variable; no_constant = f.no_constant; no_nominal = f.no_nominal }

  pub named_for : (s u : Sequent) (hint name : List ℕ) → HaveSameNames s u → IsNamedFor D s hint name → IsNamedFor D u hint name
  named_for s u hint name same (inl a) = inl (free s u hint same a.0, a.1)
  named_for s u hint name same (inr a) =
      inr (
        λ h. a.0 (free u s hint (sym same) h),
        (
          a.1.0,
          a.1.1,
          a.1.2,
          record {
            has = (a.1.3.has.0, free s u _ same a.1.3.has.1);
            first = λ m l p. a.1.3.first m l (p.0, free u s _ (sym same) p.1);
          },
          a.1.4,
        ),
      )
