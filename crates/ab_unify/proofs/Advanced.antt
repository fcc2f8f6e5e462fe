-- One step, from the rule that was carried out.
use Rattle.std.proofs.Common.{◌≡◌, ℕ, List, [], ◌∷◌, ◌++◌, map, Some, None, sym, ◌∙◌, ap, subst, append_assoc}
use Rattle.std.specs.Prelude.{Vec}
use Rattle.std.specs.Global.{Global}
use Rattle.std.proofs.lemmas.List.{map-append}
use Rattle.ab_term.specs.Variables.{Substitution, composition}
use Rattle.ab_term.specs.Sameness.{same_number}
use Rattle.ab_norm.specs.ab_types.specs.Entries.{Table}
use Rattle.ab_norm.specs.ab_store.specs.declared.node.CellId.{CellId}
use Rattle.ab_norm.specs.ab_store.specs.Trees.{Contents}
use Rattle.ab_patterns.specs.declared.equation.Numbered.{Numbered}
use Rattle.ab_patterns.specs.ab_unifiers.specs.Unification.{State, Equation, unified, image_of, Next, finished, goes_on, next_by, ending, carried}
use Rattle.ab_unify.specs.declared.flexible_rules.Step.TheVariants.{NoRule, Clash, Parts, Replaced}
use Rattle.ab_unify.specs.Problem.{cells_read, variables_read}
use Rattle.ab_unify.specs.StoreChanges.{Changed}
use Rattle.ab_unify.specs.Outcome.{equation_read}
use Rattle.ab_unify.specs.declared.verdict.Verdict.TheVariants.{Apart}
use Rattle.ab_unify.specs.States.{state_of, found_in, Settles, IsStep, verdict_on, Advances}
use Rattle.ab_unify.proofs.Keeping.{Keeps, reaches_then, reaches_on}

abbrev Equations : Type 0
Equations = List (Equation (List ℕ))

module _ (types : Table) (store : Contents) (begun : List CellId) (es : List Numbered) (more : Table) (now : Contents) (flexible : List CellId) (waiting rest : List Numbered) where
  abbrev before : Substitution ℕ (List ℕ) → State (List ℕ)
  before s = state_of types store es begun s

  -- no rule applies
  at_rest : (left : List Numbered) (s : Substitution ℕ (List ℕ)) (ws : List Numbered) → map (equation_read more now) ws ≡ map (equation_read types store) es → cells_read more now ≡ cells_read types store → found_in types store es begun ≡ None → variables_read more now flexible ≡ variables_read types store begun
      → IsStep (Some (verdict_on ws)) (before s) (state_of more now left flexible s)
  at_rest left s [] same cells none still = (
    ap (next_by (before s)) none
        ∙ ap (λ l. finished (ending (before s) l)) (sym same)
        ∙ ap (λ l. finished (unified l s)) (sym cells),
    still,
  )
  at_rest left s (w ∷ ws) same cells none still =
      ap (next_by (before s)) none
      ∙ ap (λ l. finished (ending (before s) l)) (sym same)

  pub advances_none : Settles types store begun es more now flexible waiting rest NoRule → Advances types store begun es more now flexible (waiting ++ rest) (Some (verdict_on waiting))
  advances_none d T S F s r =
      let k : Keeps types store begun more now flexible = subst (λ c. Changed types store begun c more now flexible) d.says.1 d.changed in
      (s, reaches_on T types more S store now F begun flexible s r k, at_rest (waiting ++ rest) s waiting d.says.3 k.cells d.says.0 k.still)

  pub advances_clash : (left : List Numbered) → Settles types store begun es more now flexible waiting rest Clash → Advances types store begun es more now flexible left (Some Apart)
  advances_clash left d T S F s r =
      let k : Keeps types store begun more now flexible = subst (λ c. Changed types store begun c more now flexible) d.says.3 d.changed in
      (s, reaches_on T types more S store now F begun flexible s r k, ap (next_by (before s)) d.says.1 ∙ ap (carried (before s) d.says.0) d.says.2)

  pub advances_parts : (ps : Vec Numbered Global) → Settles types store begun es more now flexible waiting rest (Parts ps) → Advances types store begun es more now flexible (waiting ++ (ps.items ++ rest)) None
  advances_parts ps d T S F s r =
      let k : Keeps types store begun more now flexible = subst (λ c. Changed types store begun c more now flexible) d.says.1 d.changed in
      let read = equation_read more now in
      let goes : Equations → Next (List ℕ) = λ l. goes_on (record { equations = l; cells = cells_read more now; flexible = variables_read more now flexible; pairs = s }) in
      let whole : map read waiting ++ map read ps.items ++ map read rest ≡ map read (waiting ++ (ps.items ++ rest)) =
      append_assoc (map read waiting) (map read ps.items) (map read rest)
      ∙ ap (λ l. map read waiting ++ l) (sym (map-append read ps.items rest))
      ∙ sym (map-append read waiting (ps.items ++ rest)) in (
        s,
        reaches_on T types more S store now F begun flexible s r k,
        ap (next_by (before s)) d.says.0
            ∙ ap (λ l. goes_on (record { equations = map read waiting ++ map read ps.items ++ map read rest; cells = l; flexible = variables_read types store begun; pairs = s })) (sym k.cells)
            ∙ ap (λ l. goes_on (record { equations = map read waiting ++ map read ps.items ++ map read rest; cells = cells_read more now; flexible = l; pairs = s })) (sym k.still)
            ∙ ap goes whole,
      )

  pub advances_replaced : Settles types store begun es more now flexible waiting rest Replaced → Advances types store begun es more now flexible (waiting ++ rest) None
  advances_replaced d T S F s r =
      let c = d.change in
      let pairs = composition same_number s c.pairs in
      let read = equation_read more now in
      let f = d.says.0 in
      let whole : map (image_of c.pairs) (f.before ++ f.behind) ≡ map read (waiting ++ rest) =
      map-append (image_of c.pairs) f.before f.behind
      ∙ ap (λ l. l ++ map (image_of c.pairs) f.behind) (sym d.says.3)
      ∙ ap (λ l. map read waiting ++ l) (sym d.says.4)
      ∙ sym (map-append read waiting rest) in (
        pairs,
        reaches_then T types more S store now F begun flexible s r c d.changed,
        ap (next_by (before s)) d.says.1
            ∙ ap (carried (before s) f) d.says.2
            ∙ ap (λ l. goes_on (record { equations = l; cells = c.cells; flexible = c.flexible; pairs = pairs })) whole
            ∙ ap (λ l. goes_on (record { equations = map read (waiting ++ rest); cells = l; flexible = c.flexible; pairs = pairs })) (sym d.changed.cells)
            ∙ ap (λ l. goes_on (record { equations = map read (waiting ++ rest); cells = cells_read more now; flexible = l; pairs = pairs })) (sym d.changed.still),
      )
