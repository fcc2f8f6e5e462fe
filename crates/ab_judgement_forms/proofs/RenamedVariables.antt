-- Other variables for the variables of a term, one for each: which of them stand where.
use Rattle.std.proofs.Common.{◌≡◌, ℕ, List, [], ◌∷◌, ◌++◌, map, Bool, true, false, cond, not, ◌&&◌, ◌||◌, Option, Some, option_map, refl, sym, ◌∙◌, ap, subst}
use Rattle.std.specs.Prelude.{Contains}
use Rattle.std.specs.List.{list_any}
use Rattle.std.proofs.lemmas.List.{map-append}
use Rattle.std.proofs.lemmas.Bool.{false≢true, false_from_ne_true}
use Rattle.std.proofs.lemmas.List.Elements.{Contains-append_left, Contains-append_right}
use Rattle.ab_term.specs.Types.{Ty, kind, o}
use Rattle.ab_term.specs.Terms as tree
use Rattle.ab_term.specs.Terms.{Head, constant, logical, nominal, variable, index, spine, Terms, no_terms, Read}
use Rattle.ab_term.specs.Typing.{Signature, head_type, HasType, TakeType, typed_lam, typed_spine, take_none, take_term}
use Rattle.ab_term.specs.Substitution.{reduce}
use Rattle.ab_term.specs.Expansion.{expansion}
use Rattle.ab_term.specs.Translation.{forget}
use Rattle.ab_term.specs.Variables.{Substitution, variables_of_head, variables, variables_of_all, put_for, put_at, image_by, image_all_by, value_in, image, IsTyped}
use Rattle.ab_term.specs.Sameness.{same_number, same_numbered}
use Rattle.ab_term.proofs.Expansions.{reduce-expansion_of}
use Rattle.ab_term.proofs.Images.{IsTypedMap, image_all_by_typed}
use Rattle.ab_term.proofs.Lists.{Contains-here, Contains-there, Contains-map}
use Rattle.ab_term.proofs.PastHints.{variables-forget}
use Rattle.ab_term.proofs.Same.{same_numbered-Decides}
use Rattle.ab_term.proofs.Translations.{translate_typed}
use Rattle.ab_unifiers.specs.Replacements.{holds, occurs}
use Rattle.ab_unifiers.specs.Unifiers.{AreDifferent}
use Rattle.ab_unifiers.specs.Clauses.{Each, Within, put_together}
use Rattle.ab_unifiers.specs.Prefixes.{own_terms}
use Rattle.ab_unifiers.proofs.Agreeing.{contains_holds}
use Rattle.ab_unifiers.proofs.Past.{Bare, bare_own, own, bare, forget-image, forget-own, bare_typed}
use Rattle.ab_formulas.specs.Sequents.{Variable, in_terms}
use Rattle.ab_theory.specs.SpecRules.{stands_in_goals_alone}

abbrev pub V : Type 0
V = tree.Variable ℕ

-- THE PARTNER of a variable in two rows
abbrev partner : List V → List V → V → V
partner [] zs y = y
partner (a ∷ ys) [] y = y
partner (a ∷ ys) (b ∷ zs) y = cond (same_numbered a y) b (partner ys zs y)

abbrev pub SameTypes : List V → List V → Type 0
SameTypes = Each (λ (y z : V). y.type ≡ z.type)

partner_value : (x : List ℕ) (ys zs : List V) → SameTypes ys zs → (y : V) → holds ys y ≡ true → value_in same_number (put_together ys (own_terms x zs)) y ≡ Some (own x (partner ys zs y))
partner_value x [] zs e y h = absurd (false≢true h)
partner_value x (a ∷ ys) [] e y h = absurd e
partner_value x (a ∷ ys) (b ∷ zs) e y h = go (same_numbered a y) h (partner_value x ys zs e.1 y)
  where
    go : (c : Bool) → (c || holds ys y) ≡ true → (holds ys y ≡ true → value_in same_number (put_together ys (own_terms x zs)) y ≡ Some (own x (partner ys zs y)))
        → cond c (Some (own x b)) (value_in same_number (put_together ys (own_terms x zs)) y) ≡ Some (own x (cond c b (partner ys zs y)))
    go true h rest = refl
    go false h rest = rest h

partner_type : (ys zs : List V) → SameTypes ys zs → (y : V) → holds ys y ≡ true → (partner ys zs y).type ≡ y.type
partner_type [] zs e y h = absurd (false≢true h)
partner_type (a ∷ ys) [] e y h = absurd e
partner_type (a ∷ ys) (b ∷ zs) e y h = go (same_numbered a y) refl h (partner_type ys zs e.1 y)
  where
    go : (c : Bool) → same_numbered a y ≡ c → (c || holds ys y) ≡ true → (holds ys y ≡ true → (partner ys zs y).type ≡ y.type) → (cond c b (partner ys zs y)).type ≡ y.type
    go true f h rest = sym e.0 ∙ ap (λ (v : V). v.type) ((same_numbered-Decides a y).0 f)
    go false f h rest = rest h

partner_held : (ys zs : List V) → SameTypes ys zs → (y : V) → holds ys y ≡ true → holds zs (partner ys zs y) ≡ true
partner_held [] zs e y h = absurd (false≢true h)
partner_held (a ∷ ys) [] e y h = absurd e
partner_held (a ∷ ys) (b ∷ zs) e y h = go (same_numbered a y) h (partner_held ys zs e.1 y)
  where
    either_way : (c d : Bool) → d ≡ true → (c || d) ≡ true
    either_way true d f = refl
    either_way false d f = f

    go : (c : Bool) → (c || holds ys y) ≡ true → (holds ys y ≡ true → holds zs (partner ys zs y) ≡ true) → (same_numbered b (cond c b (partner ys zs y)) || holds zs (cond c b (partner ys zs y))) ≡ true
    go true h rest = ap (λ c. c || holds zs b) ((same_numbered-Decides b b).1 refl)
    go false h rest = either_way (same_numbered b (partner ys zs y)) (holds zs (partner ys zs y)) (rest h)

one_partner : (ys zs : List V) → SameTypes ys zs → AreDifferent zs → (v y : V) → holds ys v ≡ true → holds ys y ≡ true → partner ys zs v ≡ partner ys zs y → v ≡ y
one_partner [] zs e d v y g h p = absurd (false≢true g)
one_partner (a ∷ ys) [] e d v y g h p = absurd e
one_partner (a ∷ ys) (b ∷ zs) e d v y g h p = go (same_numbered a v) (same_numbered a y) refl refl g h p (one_partner ys zs e.1 d.1 v y) (partner_held ys zs e.1 v) (partner_held ys zs e.1 y)
  where
    go : (c k : Bool) → same_numbered a v ≡ c → same_numbered a y ≡ k → (c || holds ys v) ≡ true → (k || holds ys y) ≡ true → cond c b (partner ys zs v) ≡ cond k b (partner ys zs y)
        → (holds ys v ≡ true → holds ys y ≡ true → partner ys zs v ≡ partner ys zs y → v ≡ y)
        → (holds ys v ≡ true → holds zs (partner ys zs v) ≡ true) → (holds ys y ≡ true → holds zs (partner ys zs y) ≡ true) → v ≡ y
    go true true m n g h p rest held_v held_y = sym ((same_numbered-Decides a v).0 m) ∙ (same_numbered-Decides a y).0 n
    go true false m n g h p rest held_v held_y = absurd (false≢true (sym d.0 ∙ ap (holds zs) p ∙ held_y h))
    go false true m n g h p rest held_v held_y = absurd (false≢true (sym d.0 ∙ ap (holds zs) (sym p) ∙ held_v g))
    go false false m n g h p rest held_v held_y = rest g h p

partner_same : (ys zs : List V) → SameTypes ys zs → AreDifferent zs → (v y : V) → holds ys v ≡ true → holds ys y ≡ true → same_numbered (partner ys zs v) (partner ys zs y) ≡ same_numbered v y
partner_same ys zs e d v y g h = go (same_numbered v y) refl
  where
    go : (c : Bool) → same_numbered v y ≡ c → same_numbered (partner ys zs v) (partner ys zs y) ≡ c
    go true m = (same_numbered-Decides (partner ys zs v) (partner ys zs y)).1 (ap (partner ys zs) ((same_numbered-Decides v y).0 m))
    go false m = false_from_ne_true (same_numbered (partner ys zs v) (partner ys zs y))
        (λ t. false≢true (sym m ∙ (same_numbered-Decides v y).1 (one_partner ys zs e d v y g h ((same_numbered-Decides (partner ys zs v) (partner ys zs y)).0 t))))

partners_held : (ys zs : List V) → SameTypes ys zs → AreDifferent zs → (vs : List V) → ((v : V) → Contains vs v → holds ys v ≡ true) → (y : V) → holds ys y ≡ true → holds (map (partner ys zs) vs) (partner ys zs y) ≡ holds vs y
partners_held ys zs e d [] w y h = refl
partners_held ys zs e d (v ∷ vs) w y h =
    ap (λ c. c || holds (map (partner ys zs) vs) (partner ys zs y)) (partner_same ys zs e d v y (w v (Contains-here v vs)) h)
    ∙ ap (λ c. same_numbered v y || c) (partners_held ys zs e d vs (λ u m. w u (Contains-there v vs u m)) y h)

-- each has the partner that stands beside it
beside : (p : V → V) (ys zs : List V) → SameTypes ys zs → AreDifferent ys → ((y : V) → holds ys y ≡ true → p y ≡ partner ys zs y) → Each (λ y z. p y ≡ z) ys zs
beside p [] [] e d w = tt
beside p [] (z ∷ zs) e d w = absurd e
beside p (y ∷ ys) [] e d w = absurd e
beside p (y ∷ ys) (z ∷ zs) e d w = (
  w y (ap (λ c. c || holds ys y) ((same_numbered-Decides y y).1 refl)) ∙ ap (λ c. cond c z (partner ys zs y)) ((same_numbered-Decides y y).1 refl),
  beside p ys zs e.1 d.1 (λ v h. later v h (same_numbered y v) refl),
)
  where
    either_way : (c d : Bool) → d ≡ true → (c || d) ≡ true
    either_way true d f = refl
    either_way false d f = f

    later : (v : V) → holds ys v ≡ true → (c : Bool) → same_numbered y v ≡ c → p v ≡ partner ys zs v
    later v h true m = absurd (false≢true (sym d.0 ∙ ap (holds ys) ((same_numbered-Decides y v).0 m) ∙ h))
    later v h false m = w v (either_way (same_numbered y v) (holds ys v) h) ∙ ap (λ c. cond c z (partner ys zs v)) m

-- WITH OTHER VARIABLES, past hints
module _ (sg : Signature) (f : V → Option Bare) (typed : IsTypedMap sg f) (r : V → V) where
  abbrev IsRenamed : V → Type 0
  IsRenamed y = (f y ≡ Some (bare_own (r y))) × ((r y).type ≡ y.type)

  variable_renamed : (G : List Ty) (y : V) (c : List ℕ) (ts : Terms ℕ (Unit {0})) → IsRenamed y → TakeType sg G ts y.type (kind c) → put_for y (f y) ts ≡ spine (variable (r y)) ts
  variable_renamed G y c ts w ds =
      ap (λ o. put_for y o ts) w.0
      ∙ ap (λ A. reduce y.type (expansion tt A (variable (r y))) ts) w.1
      ∙ reduce-expansion_of sg ℕ y.type G (variable (r y)) no_terms ts c ds

  head_renamed : (G : List Ty) (h : Head ℕ) (D : Ty) (c : List ℕ) (ts : Terms ℕ (Unit {0})) → head_type sg G h ≡ Some D → TakeType sg G ts D (kind c) → ((y : V) → Contains (variables_of_head h) y → IsRenamed y) → (vs : List V) → variables_of_all ts ≡ map r vs
      → variables (put_at f h ts) ≡ map r (variables_of_head h ++ vs)
  head_renamed G (constant b) D c ts e ds w vs ih = ih
  head_renamed G (logical l) D c ts e ds w vs ih = ih
  head_renamed G (nominal a) D c ts e ds w vs ih = ih
  head_renamed G (variable y) D c ts e ds w vs ih =
      let same : D ≡ y.type = cc in
      ap variables (variable_renamed G y c ts (w y (Contains-here y [])) (subst (λ E. TakeType sg {Var = ℕ} {Hint = Unit {0}} G ts E (kind c)) same ds)) ∙ ap (λ l. r y ∷ l) ih
  head_renamed G (index i) D c ts e ds w vs ih = ih

  mutual
    renamed : {G : List Ty} {t : Bare} {A : Ty} → HasType sg G t A → ((y : V) → Contains (variables t) y → IsRenamed y) → variables (image_by f t) ≡ map r (variables t)
    renamed (typed_lam d) w = renamed d w
    renamed {G = G} (typed_spine {A = D} {h = h} {ts = ts} {k = c} e ds) w =
        head_renamed G h D c (image_all_by f ts) e (image_all_by_typed sg ℕ (Unit {0}) f typed ds) (λ y m. w y (Contains-append_left (variables_of_head h) (variables_of_all ts) y m)) (variables_of_all ts)
        (all_renamed ds (λ y m. w y (Contains-append_right (variables_of_head h) (variables_of_all ts) y m)))

    all_renamed : {G : List Ty} {ts : Terms ℕ (Unit {0})} {A B : Ty} → TakeType sg G ts A B → ((y : V) → Contains (variables_of_all ts) y → IsRenamed y) → variables_of_all (image_all_by f ts) ≡ map r (variables_of_all ts)
    all_renamed take_none w = refl
    all_renamed (take_term {t = t} {ts = ts} d ds) w =
        ap (λ l. l ++ variables_of_all (image_all_by f ts)) (renamed d (λ y m. w y (Contains-append_left (variables t) (variables_of_all ts) y m)))
        ∙ ap (λ l. map r (variables t) ++ l) (all_renamed ds (λ y m. w y (Contains-append_right (variables t) (variables_of_all ts) y m)))
        ∙ sym (map-append r (variables t) (variables_of_all ts))

-- formulas over these variables
abbrev pub AllWithin : Signature → List V → List Read → Type 0
AllWithin sg ys [] = Unit {0}
AllWithin sg ys (G ∷ Gs) = (HasType sg [] G o × Within (variables G) ys) × AllWithin sg ys Gs

-- IN TWO ROWS
module _ (sg : Signature) (x : List ℕ) (ys zs : List V) (types : SameTypes ys zs) (typed : IsTyped sg (put_together ys (own_terms x zs))) (different : AreDifferent zs) where
  abbrev rho : Substitution ℕ (List ℕ)
  rho = put_together ys (own_terms x zs)

  abbrev r : V → V
  r = partner ys zs

  row_renamed : (y : V) → holds ys y ≡ true → IsRenamed sg (bare rho) (bare_typed sg rho typed) r y
  row_renamed y h = (ap (option_map forget) (partner_value x ys zs types y h) ∙ ap Some (forget-own x (r y)), partner_type ys zs types y h)

  occurs_renamed : {A : Ty} (t : Read) → HasType sg [] t A → Within (variables t) ys → (y : V) → holds ys y ≡ true → occurs (r y) (image same_number rho t) ≡ occurs y t
  occurs_renamed t d w y h =
      let within : (v : V) → Contains (variables t) v → holds ys v ≡ true = (λ v m. w v (contains_holds (variables t) v m)) in
      ap (λ l. holds l (r y))
      (sym (variables-forget (image same_number rho t))
      ∙ ap variables (forget-image rho t)
      ∙ renamed sg (bare rho) (bare_typed sg rho typed) r (translate_typed sg (λ v. v) (λ h. tt) d) (λ v m. row_renamed v (within v (subst (λ l. Contains l v) (variables-forget t) m)))
      ∙ ap (map r) (variables-forget t))
      ∙ partners_held ys zs types different (variables t) within y h

  any_renamed : (Gs : List Read) → AllWithin sg ys Gs → (y : V) → holds ys y ≡ true → list_any (occurs (r y)) (map (image same_number rho) Gs) ≡ list_any (occurs y) Gs
  any_renamed [] a y h = refl
  any_renamed (G ∷ Gs) a y h =
      ap (λ b. b || list_any (occurs (r y)) (map (image same_number rho) Gs)) (occurs_renamed G (a.0).0 (a.0).1 y h)
      ∙ ap (λ b. occurs y G || b) (any_renamed Gs a.1 y h)

  alone_renamed : (A : Read) (Gs : List Read) → HasType sg [] A o → Within (variables A) ys → AllWithin sg ys Gs → (y z : Variable) → holds ys (in_terms y) ≡ true → r (in_terms y) ≡ in_terms z
      → stands_in_goals_alone (image same_number rho A) (map (image same_number rho) Gs) z ≡ stands_in_goals_alone A Gs y
  alone_renamed A Gs d w a y z h e =
      ap (λ v. list_any (occurs v) (map (image same_number rho) Gs) && not (occurs v (image same_number rho A))) (sym e)
      ∙ ap (λ b. b && not (occurs (r (in_terms y)) (image same_number rho A))) (any_renamed Gs a (in_terms y) h)
      ∙ ap (λ b. list_any (occurs (in_terms y)) Gs && not b) (occurs_renamed A d w (in_terms y) h)

  all_alone : (A : Read) (Gs : List Read) → HasType sg [] A o → Within (variables A) ys → AllWithin sg ys Gs → (us vs : List Variable) → ((y : Variable) → Contains us y → holds ys (in_terms y) ≡ true) → Each (λ y z. r y ≡ z) (map in_terms us) (map in_terms vs)
      → map (stands_in_goals_alone (image same_number rho A) (map (image same_number rho) Gs)) vs ≡ map (stands_in_goals_alone A Gs) us
  all_alone A Gs d w a [] [] h e = refl
  all_alone A Gs d w a [] (v ∷ vs) h e = absurd e
  all_alone A Gs d w a (u ∷ us) [] h e = absurd e
  all_alone A Gs d w a (u ∷ us) (v ∷ vs) h e =
      ap (λ b. b ∷ map (stands_in_goals_alone (image same_number rho A) (map (image same_number rho) Gs)) vs) (alone_renamed A Gs d w a u v (h u (Contains-here u us)) e.0)
      ∙ ap (λ l. stands_in_goals_alone A Gs u ∷ l) (all_alone A Gs d w a us vs (λ y m. h y (Contains-there u us y m)) e.1)

-- THE SAME stand in goals alone
pub alone_same : (sg : Signature) (x : List ℕ) (us vs : List Variable) (types : SameTypes (map in_terms us) (map in_terms vs)) (typed : IsTyped sg (put_together (map in_terms us) (own_terms x (map in_terms vs)))) (different : AreDifferent (map in_terms vs))
    → AreDifferent (map in_terms us) → (A : Read) (Gs : List Read) → HasType sg [] A o → Within (variables A) (map in_terms us) → AllWithin sg (map in_terms us) Gs
    → map (stands_in_goals_alone (image same_number (put_together (map in_terms us) (own_terms x (map in_terms vs))) A) (map (image same_number (put_together (map in_terms us) (own_terms x (map in_terms vs)))) Gs)) vs ≡ map (stands_in_goals_alone A Gs) us
alone_same sg x us vs types typed different own_different A Gs d w a =
    all_alone sg x (map in_terms us) (map in_terms vs) types typed different A Gs d w a us vs (λ y m. contains_holds (map in_terms us) (in_terms y) (Contains-map in_terms us y m))
    (beside (partner (map in_terms us) (map in_terms vs)) (map in_terms us) (map in_terms vs) types own_different (λ y h. refl))
