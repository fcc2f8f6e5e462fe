-- What is kept of a head and a body that may be proposed may be proposed.
use Rattle.std.proofs.Common.{◌≡◌, ◌≢◌, ◌⊎◌, inl, inr, ℕ, zero, suc, Bool, true, false, cond, ◌||◌, ◌&&◌, List, [], ◌∷◌, ◌++◌, map, refl, sym, ap, ◌∙◌, subst}
use Rattle.std.specs.Prelude.{not, filter, Contains}
use Rattle.ab_term.proofs.Lists.{Contains-here, Contains-there, Contains-cases, Contains-none}
use Rattle.ab_term.specs.Types.{prop}
use Rattle.ab_term.specs.Terms.{Nominal, Variable, constant, logical, nominal, variable, index, lam, spine, Terms, no_terms, term, Read}
use Rattle.ab_term.specs.Typing.{Signature, HasType, typed_lam, typed_spine, take_none, take_term}
use Rattle.ab_term.specs.Names.{support}
use Rattle.ab_term.specs.Variables.{variables}
use Rattle.ab_term.specs.Abstraction.{close, close_all}
use Rattle.ab_term.specs.Sameness.{same_numbered}
use Rattle.ab_term.proofs.Same.{same_numbered-Decides}
use Rattle.ab_term.proofs.Preservation.{here}
use Rattle.ab_term.proofs.Closing.{close_typed}
use Rattle.ab_term.proofs.ClosingImages.{support-close, variables-close}
use Rattle.ab_formulas.specs.Formulas.{Place, a_formula, a_scope, a_marked, any, places_of_constant, StandsIn, AllStandIn, IsFormula}
use Rattle.ab_unifiers.specs.Replacements.{holds, occurs}
use Rattle.ab_unifiers.specs.Unifiers.{AreDifferent}
use Rattle.ab_unifiers.proofs.Agreeing.{contains_holds}
use Rattle.ab_unifiers.specs.Clauses.{Within}
use Rattle.ab_unifiers.proofs.Variables.{holds_contains}
use Rattle.ab_formulas.specs.Clauses.{ClauseVariable}
use Rattle.ab_formulas.specs.CaseClauses.{in_terms}
use Rattle.ab_formulas.specs.ProposedClauses.{IsProposed}
use Rattle.ab_declare.specs.Existentials.{exists_over, exists_all}
use Rattle.ab_declare.specs.KeptClauses.{stands_in_body_alone, kept_clause}

-- A FORMULA STAYS ONE where a variable becomes a bound name

mutual
  close_stands : (p : Place) (k : ℕ) (y : Variable ℕ) (t : Read) → StandsIn p t → StandsIn p (close k (variable y) t)
  close_stands any k y t h = tt
  close_stands a_formula k y (lam A x t) h = absurd h
  close_stands a_formula k y (spine (constant c) ts) h = (tt, close_all_stand any k y ts h.1)
  close_stands a_formula k y (spine (logical l) ts) h = (tt, close_all_stand (places_of_constant l) k y ts h.1)
  close_stands a_formula k y (spine (nominal a) ts) h = (tt, close_all_stand any k y ts h.1)
  close_stands a_formula k y (spine (variable z) ts) h = absurd h.0
  close_stands a_formula k y (spine (index i) ts) h = absurd h.0
  close_stands a_scope k y (lam A x t) h = close_stands a_formula (suc k) y t h
  close_stands a_scope k y (spine g ts) h = absurd h
  close_stands a_marked k y (lam A x t) h = absurd h
  close_stands a_marked k y (spine (constant c) ts) h = h
  close_stands a_marked k y (spine (logical l) ts) h = h
  close_stands a_marked k y (spine (nominal a) ts) h = h
  close_stands a_marked k y (spine (variable z) ts) h = absurd h
  close_stands a_marked k y (spine (index i) ts) h = absurd h

  close_all_stand : (p : Place) (k : ℕ) (y : Variable ℕ) (ts : Terms ℕ (List ℕ)) → AllStandIn p ts → AllStandIn p (close_all k (variable y) ts)
  close_all_stand p k y no_terms h = tt
  close_all_stand p k y (term t ts) h = (close_stands p k y t h.0, close_all_stand p k y ts h.1)

empty_of : {X : Type 0} (xs : List X) → ((x : X) → Contains xs x → ⊥) → xs ≡ []
empty_of [] none = refl
empty_of (x ∷ xs) none = absurd (none x (Contains-here x xs))

module _ (sg : Signature) where
  over_formula : (v : ClauseVariable) (t : Read) → IsFormula sg t → IsFormula sg (exists_over v t)
  over_formula v t f = record {
    typed = typed_spine refl (take_term (typed_lam (close_typed sg (variable (in_terms v)) here refl f.typed)) take_none);
    stands = (tt, (close_stands a_formula zero (in_terms v) t f.stands, tt));
  }

  all_formula : (vs : List ClauseVariable) (t : Read) → IsFormula sg t → IsFormula sg (exists_all vs t)
  all_formula [] t f = f
  all_formula (v ∷ vs) t f = over_formula v (exists_all vs t) (all_formula vs t f)

-- WHAT STANDS IN IT stood there before

append_none : {X : Type 0} (xs : List X) → xs ++ [] ≡ xs
append_none [] = refl
append_none (x ∷ xs) = ap (λ l. x ∷ l) (append_none xs)

over_nameless : (v : ClauseVariable) (t : Read) → support t ≡ [] → support (exists_over v t) ≡ []
over_nameless v t e =
    append_none (support (close zero (variable (in_terms v)) t))
    ∙ empty_of (support (close zero (variable (in_terms v)) t)) (λ a c. let h = subst (λ ns. Contains ns a) e (support-close zero (variable (in_terms v)) t a c).0 in none a h)
  where
    none : (a : Nominal) → Contains [] a → ⊥
    none a h = Contains-none a h

all_nameless : (vs : List ClauseVariable) (t : Read) → support t ≡ [] → support (exists_all vs t) ≡ []
all_nameless [] t e = e
all_nameless (v ∷ vs) t e = over_nameless v (exists_all vs t) (all_nameless vs t e)

over_variables : (v : ClauseVariable) (t : Read) (y : Variable ℕ) → Contains (variables (exists_over v t)) y → Contains (variables t) y × (variable y ≢ variable (in_terms v))
over_variables v t y c = variables-close zero (variable (in_terms v)) t y (subst (λ ys. Contains ys y) (append_none (variables (close zero (variable (in_terms v)) t))) c)

same_head : {y z : Variable ℕ} → y ≡ z → variable y ≡ variable z
same_head e = ap variable e

all_variables : (vs : List ClauseVariable) (t : Read) (y : Variable ℕ) → Contains (variables (exists_all vs t)) y → Contains (variables t) y × ((v : ClauseVariable) → Contains vs v → in_terms v ≡ y → ⊥)
all_variables [] t y c = (c, λ v h e. Contains-none v h)
all_variables (v ∷ vs) t y c =
    let here = over_variables v (exists_all vs t) y c in
    let rest = all_variables vs t y here.0 in
    (rest.0, λ w h e. go w h e here.1 rest.1)
  where
    go : (w : ClauseVariable) → Contains (v ∷ vs) w → in_terms w ≡ y → (variable y ≢ variable (in_terms v)) → ((u : ClauseVariable) → Contains vs u → in_terms u ≡ y → ⊥) → ⊥
    go w h e other rest = at (Contains-cases v vs w h)
      where
        at : (v ≡ w) ⊎ Contains vs w → ⊥
        at (inl s) = other (same_head (sym e ∙ ap in_terms (sym s)))
        at (inr m) = rest w m e

-- VARIABLES THAT ARE KEPT

kept_held : (p : ClauseVariable → Bool) (vs : List ClauseVariable) (y : Variable ℕ) → holds (map in_terms vs) y ≡ true → ((v : ClauseVariable) → Contains vs v → in_terms v ≡ y → p v ≡ true) → holds (map in_terms (filter p vs)) y ≡ true
kept_held p [] y h all = h
kept_held p (v ∷ vs) y h all = go (p v) refl (same_numbered (in_terms v) y) refl h (λ g. kept_held p vs y g (λ w m e. all w (Contains-there v vs w m) e))
  where
    go : (b : Bool) → p v ≡ b → (c : Bool) → same_numbered (in_terms v) y ≡ c → (c || holds (map in_terms vs) y) ≡ true → (holds (map in_terms vs) y ≡ true → holds (map in_terms (filter p vs)) y ≡ true)
        → holds (map in_terms (cond b (v ∷ filter p vs) (filter p vs))) y ≡ true
    go true e true s g rest = ap (λ c. c || holds (map in_terms (filter p vs)) y) s
    go true e false s g rest = ap (λ c. c || holds (map in_terms (filter p vs)) y) s ∙ rest g
    go false e true s g rest = let t : p v ≡ true = all v (Contains-here v vs) ((same_numbered-Decides (in_terms v) y).0 s) in absurd (false_true (sym e ∙ t))
      where
        false_true : false ≡ true → ⊥
        false_true q = absurd (cc)
    go false e false s g rest = rest g

not_kept : (p : ClauseVariable → Bool) (vs : List ClauseVariable) (y : Variable ℕ) → holds (map in_terms vs) y ≡ false → holds (map in_terms (filter p vs)) y ≡ false
not_kept p [] y h = h
not_kept p (v ∷ vs) y h = go (p v) (same_numbered (in_terms v) y) refl h (not_kept p vs y)
  where
    go : (b c : Bool) → same_numbered (in_terms v) y ≡ c → (c || holds (map in_terms vs) y) ≡ false → (holds (map in_terms vs) y ≡ false → holds (map in_terms (filter p vs)) y ≡ false)
        → holds (map in_terms (cond b (v ∷ filter p vs) (filter p vs))) y ≡ false
    go b true s g rest = absurd (cc)
    go true false s g rest = ap (λ c. c || holds (map in_terms (filter p vs)) y) s ∙ rest g
    go false false s g rest = rest g

kept_different : (p : ClauseVariable → Bool) (vs : List ClauseVariable) → AreDifferent (map in_terms vs) → AreDifferent (map in_terms (filter p vs))
kept_different p [] h = h
kept_different p (v ∷ vs) h = go (p v) (kept_different p vs h.1)
  where
    go : (b : Bool) → AreDifferent (map in_terms (filter p vs)) → AreDifferent (map in_terms (cond b (v ∷ filter p vs) (filter p vs)))
    go true d = (not_kept p vs (in_terms v) h.0, d)
    go false d = d

module _ (head body : Read) where
  abbrev alone : ClauseVariable → Bool
  alone = stands_in_body_alone head body

  -- what stands in the head isn't closed
  in_head : (v : ClauseVariable) → holds (variables head) (in_terms v) ≡ true → not (alone v) ≡ true
  in_head v h = ap (λ b. not (occurs (in_terms v) body && not b)) h ∙ go (occurs (in_terms v) body)
    where
      go : (b : Bool) → not (b && not true) ≡ true
      go true = refl
      go false = refl

  passed : (vs : List ClauseVariable) (v : ClauseVariable) → Contains vs v → alone v ≡ true → Contains (filter alone vs) v
  passed [] v h e = absurd (Contains-none v h)
  passed (w ∷ ws) v h e = go (alone w) refl (Contains-cases w ws v h) (λ m. passed ws v m e)
    where
      go : (b : Bool) → alone w ≡ b → (w ≡ v) ⊎ Contains ws v → (Contains ws v → Contains (filter alone ws) v) → Contains (cond b (w ∷ filter alone ws) (filter alone ws)) v
      go true s (inl same) rest = subst (λ u. Contains (w ∷ filter alone ws) u) same (Contains-here w (filter alone ws))
      go true s (inr m) rest = Contains-there w (filter alone ws) v (rest m)
      go false s (inl same) rest = absurd (bad (sym s ∙ (ap alone same ∙ e)))
        where
          bad : false ≡ true → ⊥
          bad q = absurd (cc)
      go false s (inr m) rest = rest m

  left_or_not : (vs : List ClauseVariable) (v : ClauseVariable) → Contains vs v → (Contains (filter alone vs) v → ⊥) → not (alone v) ≡ true
  left_or_not vs v h n = go (alone v) refl
    where
      go : (b : Bool) → alone v ≡ b → not b ≡ true
      go true e = absurd (n (passed vs v h e))
      go false e = refl

-- WHAT IS KEPT
pub kept_within : (closes : Bool) (vs : List ClauseVariable) (head body : Read) → Within (variables head) (map in_terms vs) → Within (variables body) (map in_terms vs)
    → Within (variables (kept_clause closes vs head body).head) (map in_terms (kept_clause closes vs head body).variables)
    × Within (variables (kept_clause closes vs head body).body) (map in_terms (kept_clause closes vs head body).variables)
kept_within false vs head body wh wb = (wh, wb)
kept_within true vs head body wh wb = (
  λ y g. kept_held (λ v. not (alone head body v)) vs y (wh y g) (λ v m e. in_head head body v (subst (λ z. holds (variables head) z ≡ true) (sym e) g)),
  λ y g.
      let was = all_variables (filter (alone head body) vs) body y (holds_contains (variables (exists_all (filter (alone head body) vs) body)) y g) in
      kept_held (λ v. not (alone head body v)) vs y (wb y (contains_holds (variables body) y was.0)) (λ v m e. left_or_not head body vs v m (λ c. was.1 v c e)),
)

pub proposed_kept : (sg : Signature) (closes : Bool) (vs : List ClauseVariable) (head body : Read) → AreDifferent (map in_terms vs) → HasType sg [] head prop → IsFormula sg body → support head ≡ [] → support body ≡ []
    → Within (variables head) (map in_terms vs) → Within (variables body) (map in_terms vs) → IsProposed sg (kept_clause closes vs head body)
proposed_kept sg false vs head body d h f nh nb wh wb =
    record { different = d; head = h; body = f; head_without_constants = nh; body_without_constants = nb; head_variables = wh; body_variables = wb }
proposed_kept sg true vs head body d h f nh nb wh wb = record {
  different = kept_different (λ v. not (alone head body v)) vs d;
  head = h;
  body = all_formula sg (filter (alone head body) vs) body f;
  head_without_constants = nh;
  body_without_constants = all_nameless (filter (alone head body) vs) body nb;
  head_variables = (kept_within true vs head body wh wb).0;
  body_variables = (kept_within true vs head body wh wb).1;
}
