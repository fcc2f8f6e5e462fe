-- BY INDUCTION on steps that close goals: each goal is proved layer by layer, and the first goals are closed by the first steps.
use Rattle.std.proofs.Common.{◌≡◌, List, [], ◌∷◌, ◌++◌, Bool, true, false, refl, sym, ◌∙◌, ap, subst, append_assoc}
use Rattle.std.specs.Prelude.{All}
use Rattle.std.proofs.lemmas.List.Elements.{All-nil, All-cons, All-head, All-tail}
use Rattle.ab_theory.proofs.SubjectParts.{listed_at}
use Rattle.ab_term.specs.Terms.{Read}
use Rattle.ab_formulas.specs.Declarations.{Declarations}
use Rattle.ab_search_layers.specs.Layered as layered
use Rattle.ab_search_layers.specs.Closed.{Open, to_show, in_turn, Closes, none, by_truth, by_hypothesis, by_equality, by_both, by_left, by_right, by_assuming, by_constant, by_term, by_variable, by_layer, by_clause, by_rule, by_empty_list, IsShown, CloseInTurn}
use Rattle.ab_search_layers.specs.Taken as way
use Rattle.ab_search_layers.specs.Taken.{Taking}

module _ (D : Declarations) where
  abbrev Shown : List Open → Type 0
  Shown gs = All (IsShown D) gs

  -- a goal more, which is proved from the one that takes its place
  behind : (g h : Open) (gs : List Open) → (IsShown D h → IsShown D g) → Shown (h ∷ gs) → Shown (g ∷ gs)
  behind g h gs f all = All-cons (IsShown D) g gs (f (All-head (IsShown D) h gs all)) (All-tail (IsShown D) h gs all)

  of_both : (right_first : Bool) (g h : Open) (gs : List Open) → Shown (in_turn right_first g h ++ gs) → IsShown D g × IsShown D h × Shown gs
  of_both true g h gs all =
      let rest = All-tail (IsShown D) h (g ∷ gs) all in
      (All-head (IsShown D) g gs rest, All-head (IsShown D) h (g ∷ gs) all, All-tail (IsShown D) g gs rest)
  of_both false g h gs all =
      let rest = All-tail (IsShown D) g (h ∷ gs) all in
      (All-head (IsShown D) g (h ∷ gs) all, All-head (IsShown D) h gs rest, All-tail (IsShown D) h gs rest)

  -- EACH GOAL IS PROVED
  pub all_shown : {gs : List Open} {es : List (Read × Taking)} → Closes D gs es → Shown gs
  all_shown none = All-nil (IsShown D)
  all_shown (by_truth {ys = ys} {Hs = Hs} {C = C} {gs = gs} e p) = All-cons (IsShown D) (to_show ys Hs C) gs (layered.by_truth e) (all_shown p)
  all_shown (by_hypothesis {ys = ys} {Hs = Hs} {C = C} {gs = gs} i B m e serves p) = All-cons (IsShown D) (to_show ys Hs C) gs (layered.by_hypothesis B (listed_at Hs i B m) e serves) (all_shown p)
  all_shown (by_equality {ys = ys} {Hs = Hs} {C = C} {gs = gs} e same p) = All-cons (IsShown D) (to_show ys Hs C) gs (layered.by_equality e same) (all_shown p)
  all_shown (by_both {ys = ys} {Hs = Hs} {C = C} {A = A} {B = B} {gs = gs} right_first e p) =
      let parts = of_both right_first (to_show ys Hs A) (to_show ys Hs B) gs (all_shown p) in
      All-cons (IsShown D) (to_show ys Hs C) gs (layered.by_both e parts.0 parts.1) parts.2
  all_shown (by_left {ys = ys} {Hs = Hs} {C = C} {A = A} {gs = gs} e p) = behind (to_show ys Hs C) (to_show ys Hs A) gs (λ a. layered.by_left e a) (all_shown p)
  all_shown (by_right {ys = ys} {Hs = Hs} {C = C} {B = B} {gs = gs} e p) = behind (to_show ys Hs C) (to_show ys Hs B) gs (λ b. layered.by_right e b) (all_shown p)
  all_shown (by_assuming {ys = ys} {Hs = Hs} {C = C} {gs = gs} e p) = behind (to_show ys Hs C) _ gs (λ b. layered.by_assuming e b) (all_shown p)
  all_shown (by_constant {ys = ys} {Hs = Hs} {C = C} {gs = gs} a e t out p) = behind (to_show ys Hs C) _ gs (λ s. layered.by_constant a e t out s) (all_shown p)
  all_shown (by_term {ys = ys} {Hs = Hs} {C = C} {gs = gs} t e typed known p) = behind (to_show ys Hs C) _ gs (λ s. layered.by_term t e typed known s) (all_shown p)
  all_shown (by_variable {ys = ys} {Hs = Hs} {C = C} {gs = gs} n e new p) = behind (to_show ys Hs C) _ gs (λ s. layered.by_variable n e new s) (all_shown p)
  all_shown (by_layer {ys = ys} {Hs = Hs} {C = C} {F = F} {gs = gs} e once p) = behind (to_show ys Hs C) (to_show ys Hs F) gs (λ s. layered.by_layer e once s) (all_shown p)
  all_shown (by_clause {ys = ys} {Hs = Hs} {C = C} {gs = gs} d c us ns i p) = behind (to_show ys Hs C) _ gs (λ s. layered.by_clause d c us ns i s) (all_shown p)
  all_shown (by_rule {ys = ys} {Hs = Hs} {C = C} {gs = gs} i ts closed us B F e r down p) = behind (to_show ys Hs C) (to_show ys Hs F) gs (λ s. layered.by_rule us B F e r down s) (all_shown p)
  all_shown (by_empty_list {ys = ys} {Hs = Hs} {C = C} {gs = gs} i j e unfocused nil p) = behind (to_show ys Hs C) _ gs (λ s. layered.by_empty_list j e unfocused nil s) (all_shown p)

  -- ONE STEP MORE in front of those that close the first goals
  one_more : {g : Open} {gs : List Open} {es : List (Read × Taking)} (left : List Open) (e : Read × Taking) → ((fs : List Open) (ds : List (Read × Taking)) → Closes D (left ++ fs) ds → Closes D (g ∷ fs) (e ∷ ds))
      → Closes D (left ++ gs) es → ((hs ks : List Open) → left ++ gs ≡ hs ++ ks → CloseInTurn D hs ks es) → (hs ks : List Open) → g ∷ gs ≡ hs ++ ks → CloseInTurn D hs ks (e ∷ es)
  one_more {gs = gs} {es = es} left e build p rest [] ks q = record { own = []; rest = e ∷ es; all = refl; first = none; others = subst (λ l. Closes D l (e ∷ es)) q (build gs es p) }
  one_more {g = g} {gs = gs} {es = es} left e build p rest (h ∷ hs) ks q =
      let same : g ≡ h = cc in
      let tail : gs ≡ hs ++ ks = cc in
      let r = rest (left ++ hs) ks (ap (λ l. left ++ l) tail ∙ sym (append_assoc left hs ks)) in
      record { own = e ∷ r.own; rest = r.rest; all = ap (λ l. e ∷ l) r.all; first = subst (λ z. Closes D (z ∷ hs) (e ∷ r.own)) same (build hs r.own r.first); others = r.others }

  -- THE FIRST GOALS BY THE FIRST STEPS
  in_order : {gs : List Open} {es : List (Read × Taking)} → Closes D gs es → (hs ks : List Open) → gs ≡ hs ++ ks → CloseInTurn D hs ks es
  in_order none [] ks q = record { own = []; rest = []; all = refl; first = none; others = subst (λ l. Closes D l []) q none }
  in_order none (h ∷ hs) ks q = absurd (cc)
  in_order (by_truth {C = C} e p) hs ks q = one_more [] (C, way.truth) (λ fs ds s. by_truth e s) p (in_order p) hs ks q
  in_order (by_hypothesis {C = C} i B m e serves p) hs ks q = one_more [] (C, way.hypothesis i) (λ fs ds s. by_hypothesis i B m e serves s) p (in_order p) hs ks q
  in_order (by_equality {C = C} e same p) hs ks q = one_more [] (C, way.equality) (λ fs ds s. by_equality e same s) p (in_order p) hs ks q
  in_order (by_both {ys = ys} {Hs = Hs} {C = C} {A = A} {B = B} m e p) hs ks q = one_more (in_turn m (to_show ys Hs A) (to_show ys Hs B)) (C, way.both m) (λ fs ds s. by_both m e s) p (in_order p) hs ks q
  in_order (by_left {ys = ys} {Hs = Hs} {C = C} {A = A} e p) hs ks q = one_more (to_show ys Hs A ∷ []) (C, way.left) (λ fs ds s. by_left e s) p (in_order p) hs ks q
  in_order (by_right {ys = ys} {Hs = Hs} {C = C} {B = B} e p) hs ks q = one_more (to_show ys Hs B ∷ []) (C, way.right) (λ fs ds s. by_right e s) p (in_order p) hs ks q
  in_order (by_assuming {C = C} e p) hs ks q = one_more (_ ∷ []) (C, way.assuming) (λ fs ds s. by_assuming e s) p (in_order p) hs ks q
  in_order (by_constant {C = C} a e t out p) hs ks q = one_more (_ ∷ []) (C, way.constant a) (λ fs ds s. by_constant a e t out s) p (in_order p) hs ks q
  in_order (by_term {C = C} t e typed known p) hs ks q = one_more (_ ∷ []) (C, way.term t) (λ fs ds s. by_term t e typed known s) p (in_order p) hs ks q
  in_order (by_variable {C = C} n e new p) hs ks q = one_more (_ ∷ []) (C, way.variable n _) (λ fs ds s. by_variable n e new s) p (in_order p) hs ks q
  in_order (by_layer {ys = ys} {Hs = Hs} {C = C} {F = F} e once p) hs ks q = one_more (to_show ys Hs F ∷ []) (C, way.layer) (λ fs ds s. by_layer e once s) p (in_order p) hs ks q
  in_order (by_clause {C = C} d c us ns i p) hs ks q = one_more (_ ∷ []) (C, way.clause c ns us) (λ fs ds s. by_clause d c us ns i s) p (in_order p) hs ks q
  in_order (by_rule {ys = ys} {Hs = Hs} {C = C} i ts closed us B F e r down p) hs ks q = one_more (to_show ys Hs F ∷ []) (C, way.rule i ts closed) (λ fs ds s. by_rule i ts closed us B F e r down s) p (in_order p) hs ks q
  in_order (by_empty_list {C = C} i j e unfocused nil p) hs ks q = one_more (_ ∷ []) (C, way.rule i [] []) (λ fs ds s. by_empty_list i j e unfocused nil s) p (in_order p) hs ks q

  pub first_steps : (gs hs : List Open) (es : List (Read × Taking)) → Closes D (gs ++ hs) es → CloseInTurn D gs hs es
  first_steps gs hs es p = in_order p gs hs refl
