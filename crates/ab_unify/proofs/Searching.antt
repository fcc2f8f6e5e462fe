-- The search for the first equation to which a rule applies.
use Rattle.std.proofs.Common.{◌≡◌, ℕ, suc, List, [], ◌∷◌, ◌++◌, map, drop, length, arith, Option, Some, None, codes, refl, sym, ◌∙◌, ap, subst, append_assoc, append-nil}
use Rattle.std.specs.Prelude.{All, Vec}
use Rattle.std.specs.Global.{Global}
use Rattle.std.proofs.lemmas.List.{map-append}
use Rattle.std.proofs.lemmas.List.Elements.{All-contains, All-append, All-map, All-push, Contains-append_left, Contains-append_right}
use Rattle.ab_term.proofs.Lists.{Contains-here, All-from_contains}
use Rattle.ab_norm.specs.ab_types.specs.Entries.{Table}
use Rattle.ab_norm.specs.ab_store.specs.declared.node.CellId.{CellId}
use Rattle.ab_norm.specs.ab_store.specs.Trees.{Contents}
use Rattle.ab_norm.specs.ab_store.specs.Naming.{IsTypedBy}
use Rattle.ab_patterns.specs.declared.equation.Numbered.{Numbered}
use Rattle.ab_patterns.specs.ab_unifiers.specs.Unification.{Equation, Result, clash, parts, replaced, rule, Found, first_found}
use Rattle.ab_unify.specs.declared.flexible_rules.Step.{Step}
use Rattle.ab_unify.specs.declared.flexible_rules.Step.TheVariants.{NoRule, Clash, Parts, Replaced}
use Rattle.ab_unify.specs.Problem.{cells_read, variables_read}
use Rattle.ab_unify.specs.StoreChanges.{IsFree, Changed}
use Rattle.ab_unify.specs.Outcome.{equation_read, IsTypedEquation, still, Tells}
use Rattle.ab_unify.specs.States.{IsAtRest, found_in, Settles}
use Rattle.ab_unify.proofs.Keeping.{Keeps, keeps_itself, still_same, keeps_then, keeps_on, keeps_equations, rest_on, all_rest_on, typed_equations, changed_equations}
use Rattle.ab_unify.proofs.Finding.{found_first, found_none}

-- no rule was found so far: these equations wait, and those are left
pub record IsSearch (types : Table) (store : Contents) (begun : List CellId) (es : List Numbered) (more : Table) (now : Contents) (flexible : List CellId) (waiting rest : List Numbered) : Type 0 where
  pub keeps : Keeps types store begun more now flexible
  pub same : map (equation_read more now) (waiting ++ rest) ≡ map (equation_read types store) es
  pub typed : All (IsTypedEquation more now) (waiting ++ rest)
  pub at_rest : All (IsAtRest more now flexible) waiting

pub search_begins : (types : Table) (store : Contents) (F : List CellId) (waiting rest : List Numbered) → IsTypedBy types store → All (IsFree store) F → All (IsTypedEquation types store) (waiting ++ rest) → All (IsAtRest types store F) waiting
    → IsSearch types store F (waiting ++ rest) types store F waiting rest
search_begins types store F waiting rest typed free equations at_rest = record { keeps = keeps_itself types store F typed free; same = refl; typed = equations; at_rest = at_rest }

-- what has nothing in front of its rest is empty
pub none_left : {X : Type 0} (xs ys : List X) → xs ≡ ys → ys ≡ drop 1 xs → ys ≡ []
none_left xs [] e f = refl
none_left xs (y ∷ ys) e f = absurd (let longer : suc (length ys) ≡ length ys = ap length (f ∙ ap (drop 1) e) in omega (arith, longer))

pub all_left : {X : Type 0} (P : X → Type 0) (xs ys : List X) → All P (xs ++ ys) → All P xs
all_left P xs ys all = All-from_contains P xs (λ x m. All-contains P (xs ++ ys) x all (Contains-append_left xs ys x m))

pub all_right : {X : Type 0} (P : X → Type 0) (xs ys : List X) → All P (xs ++ ys) → All P ys
all_right P xs ys all = All-from_contains P ys (λ y m. All-contains P (xs ++ ys) y all (Contains-append_right xs ys y m))

module _ (types : Table) (store : Contents) (begun : List CellId) (es : List Numbered) (T : Table) (S : Contents) (F : List CellId) (waiting : List Numbered) where
  -- nothing is left
  pub settles_none : IsSearch types store begun es T S F waiting [] → Settles types store begun es T S F waiting [] NoRule
  settles_none s =
      let rules = rule (codes "x") (cells_read T S) (variables_read T S F) in
      let same : map (equation_read T S) waiting ≡ map (equation_read types store) es = sym (ap (map (equation_read T S)) (append-nil waiting)) ∙ s.same in
      record {
        change = still types store begun;
        changed = s.keeps;
        says = (
          ap (λ l. first_found (rule (codes "x") l (variables_read types store begun)) (map (equation_read types store) es)) (sym s.keeps.cells)
              ∙ ap (λ l. first_found (rule (codes "x") (cells_read T S) l) (map (equation_read types store) es)) (sym s.keeps.still)
              ∙ ap (first_found rules) (sym same)
              ∙ found_none rules (map (equation_read T S) waiting) (All-map (λ f. rules f ≡ None) (equation_read T S) waiting s.at_rest),
          refl,
          refl,
          same,
        );
        at_rest = s.at_rest;
      }

  module _ (e : Numbered) (rest : List Numbered) (s : IsSearch types store begun es T S F waiting (e ∷ rest)) where
    pub here_typed : IsTypedEquation T S e
    here_typed = All-contains (IsTypedEquation T S) (waiting ++ e ∷ rest) e s.typed (Contains-append_right waiting (e ∷ rest) e (Contains-here e rest))

    waiting_typed : All (IsTypedEquation T S) waiting
    waiting_typed = all_left (IsTypedEquation T S) waiting (e ∷ rest) s.typed

    rest_typed : All (IsTypedEquation T S) rest
    rest_typed = all_right (IsTypedEquation T S) (e ∷ []) rest (all_right (IsTypedEquation T S) waiting (e ∷ rest) s.typed)

    others_typed : All (IsTypedEquation T S) (waiting ++ rest)
    others_typed = All-append (IsTypedEquation T S) waiting rest waiting_typed rest_typed

    -- the first equation to which the rule applies is this one
    found_here : (r : Result (List ℕ)) → rule (codes "x") (cells_read T S) (variables_read T S F) (equation_read T S e) ≡ Some r
        → found_in types store es begun ≡ Some (record { before = map (equation_read T S) waiting; result = r; behind = map (equation_read T S) rest })
    found_here r is =
        let rules = rule (codes "x") (cells_read T S) (variables_read T S F) in
        ap (λ l. first_found (rule (codes "x") l (variables_read types store begun)) (map (equation_read types store) es)) (sym s.keeps.cells)
        ∙ ap (λ l. first_found (rule (codes "x") (cells_read T S) l) (map (equation_read types store) es)) (sym s.keeps.still)
        ∙ ap (first_found rules) (sym s.same ∙ map-append (equation_read T S) waiting (e ∷ rest))
        ∙ found_first rules (map (equation_read T S) waiting) (equation_read T S e) (map (equation_read T S) rest) r (All-map (λ f. rules f ≡ None) (equation_read T S) waiting s.at_rest) is

    module _ (U : Table) (V : Contents) (H : List CellId) where
      abbrev here : Option (Result (List ℕ))
      here = rule (codes "x") (cells_read T S) (variables_read T S F) (equation_read T S e)

      -- one equation more waits
      pub search_on : Tells T S F U V H NoRule here → IsSearch types store begun es U V H (waiting ++ e ∷ []) rest
      search_on t =
          let k : Keeps T S F U V H = subst (λ c. Changed T S F c U V H) t.says.1 t.changed in
          record {
            keeps = keeps_on types T store S begun F s.keeps U V H k;
            same = ap (map (equation_read U V)) (append_assoc waiting (e ∷ []) rest) ∙ keeps_equations T U S V F H k (waiting ++ e ∷ rest) s.typed ∙ s.same;
            typed = typed_equations T U S V k.grows ((waiting ++ e ∷ []) ++ rest) (subst (All (IsTypedEquation T S)) (sym (append_assoc waiting (e ∷ []) rest)) s.typed);
            at_rest = All-push (IsAtRest U V H) waiting e (all_rest_on T U S V F H k waiting waiting_typed s.at_rest) (rest_on T U S V F H k e here_typed t.says.0);
          }

      pub settles_clash : Tells T S F U V H Clash here → Settles types store begun es U V H waiting rest Clash
      settles_clash t =
          let k : Keeps T S F U V H = subst (λ c. Changed T S F c U V H) t.says.1 t.changed in
          record {
            change = t.change;
            changed = keeps_then types T store S begun F s.keeps U V H t.change t.changed;
            says = (record { before = map (equation_read T S) waiting; result = clash; behind = map (equation_read T S) rest }, found_here clash t.says.0, refl, t.says.1 ∙ still_same types T store S begun F s.keeps);
            at_rest = all_rest_on T U S V F H k waiting waiting_typed s.at_rest;
          }

      pub settles_parts : (ps : Vec Numbered Global) → Tells T S F U V H (Parts ps) here → Settles types store begun es U V H waiting rest (Parts ps)
      settles_parts ps t =
          let k : Keeps T S F U V H = subst (λ c. Changed T S F c U V H) t.says.1 t.changed in
          let found : List (Equation (List ℕ)) → List (Equation (List ℕ)) → Option (Found (List ℕ)) = λ w r. Some (record { before = w; result = parts (map (equation_read U V) ps.items); behind = r }) in
          record {
            change = t.change;
            changed = keeps_then types T store S begun F s.keeps U V H t.change t.changed;
            says = (
              found_here (parts (map (equation_read U V) ps.items)) t.says.0
                  ∙ ap (λ w. found w (map (equation_read T S) rest)) (sym (keeps_equations T U S V F H k waiting waiting_typed))
                  ∙ ap (λ r. found (map (equation_read U V) waiting) r) (sym (keeps_equations T U S V F H k rest rest_typed)),
              t.says.1 ∙ still_same types T store S begun F s.keeps,
              t.says.2,
            );
            at_rest = all_rest_on T U S V F H k waiting waiting_typed s.at_rest;
          }

      pub settles_replaced : Tells T S F U V H Replaced here → Settles types store begun es U V H waiting rest Replaced
      settles_replaced t = record {
        change = t.change;
        changed = keeps_then types T store S begun F s.keeps U V H t.change t.changed;
        says = (
          record { before = map (equation_read T S) waiting; result = replaced t.change; behind = map (equation_read T S) rest },
          found_here (replaced t.change) t.says,
          refl,
          changed_equations T U S V F H t.change t.changed waiting waiting_typed,
          changed_equations T U S V F H t.change t.changed rest rest_typed,
        );
        at_rest = tt;
      }

      pub settles_typed : (r : Step) → Tells T S F U V H r here → All (IsTypedEquation U V) (waiting ++ rest)
      settles_typed r t = typed_equations T U S V t.changed.grows (waiting ++ rest) others_typed
