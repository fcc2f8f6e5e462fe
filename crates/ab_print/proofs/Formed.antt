-- What is printed of a well-typed term has all its parts.
use Rattle.std.proofs.Common.{◌≡◌, ℕ, suc, ◌-◌, List, [], ◌∷◌, Bool, true, false, Option, Some, None, codes, refl, sym, ◌∙◌, ap, subst}
use Rattle.std.specs.Prelude.{bytes_eq, if◌then◌else◌, nat_lt}
use Rattle.std.specs.Cmp.Lexicographic.{bytes_decides}
use Rattle.ab_grammar.specs.declared.Infix.{Infix}
use Rattle.ab_grammar.specs.declared.Infix.TheVariants.{Arrow, Or, And, Equal, Imply, With, Cons}
use Rattle.ab_grammar.specs.declared.Quant.{Quant}
use Rattle.ab_grammar.specs.declared.Quant.TheVariants.{Forall, Exists, Nabla}
use Rattle.ab_term.specs.Types.{Ty, kind, arrow, o, olist}
use Rattle.ab_term.specs.Logical.{Logical, logical_type}
use Rattle.ab_term.specs.Logical as logic
use Rattle.ab_term.specs.Terms.{Head, constant, logical, nominal, variable, index, Term, lam, spine, Terms, no_terms, term}
use Rattle.ab_term.specs.Typing.{Signature, head_type, HasType, typed_lam, typed_spine, TakeType, take_none, take_term}
use Rattle.ab_print.specs.Shapes.{Shape, word, truth, empty, applied, abstraction, join, bind, pi, judge, focus, marked, broken, Shapes, no_shapes, shape}
use Rattle.ab_print.specs.ShapeTrees.{IsFormed, AreFormed}
use Rattle.ab_print.specs.NameAssignment.{are_last, outside, alone, same_quantifier, joined_to, quantified, with_pi, constant_of, judged, judged_in_focus, between, with_mark, written_from, guarded, ends_empty, written, logical_form, name_form, constant_form, takes_binder, logical_binds, head_form, bound_name, contracted, named, named_all, printed}
use Rattle.ab_print.specs.NameScopes.{HasLists}

module _ {Var : Type 0} (sg : Signature) (lists : HasLists sg) (name : Var → List ℕ) where
  -- Arguments, by the type that takes them

  data NoArgument (ts : Terms Var (List ℕ)) : Type 0 where
    none : ts ≡ no_terms → NoArgument ts

  data OneArgument (G : List Ty) (A : Ty) (ts : Terms Var (List ℕ)) : Type 0 where
    one : (t : Term Var (List ℕ)) → ts ≡ term t no_terms → HasType sg G t A → OneArgument G A ts

  data TwoArguments (ts : Terms Var (List ℕ)) : Type 0 where
    two : (t u : Term Var (List ℕ)) → ts ≡ term t (term u no_terms) → TwoArguments ts

  data ThreeArguments (ts : Terms Var (List ℕ)) : Type 0 where
    three : (t u v : Term Var (List ℕ)) → ts ≡ term t (term u (term v no_terms)) → ThreeArguments ts

  takes_none : {G : List Ty} {ts : Terms Var (List ℕ)} {k l : List ℕ} → TakeType sg G ts (kind k) (kind l) → NoArgument ts
  takes_none take_none = none refl

  takes_one : {G : List Ty} {A : Ty} {ts : Terms Var (List ℕ)} {k l : List ℕ} → TakeType sg G ts (arrow A (kind k)) (kind l) → OneArgument G A ts
  takes_one (take_term d take_none) = one _ refl d

  takes_two : {G : List Ty} {A B : Ty} {ts : Terms Var (List ℕ)} {k l : List ℕ} → TakeType sg G ts (arrow A (arrow B (kind k))) (kind l) → TwoArguments ts
  takes_two (take_term d (take_term e take_none)) = two _ _ refl

  takes_three : {G : List Ty} {A B C : Ty} {ts : Terms Var (List ℕ)} {k l : List ℕ} → TakeType sg G ts (arrow A (arrow B (arrow C (kind k)))) (kind l) → ThreeArguments ts
  takes_three (take_term d (take_term e (take_term f take_none))) = three _ _ _ refl

  data Abstracts (t : Term Var (List ℕ)) : Type 0 where
    abstracts : (A : Ty) (x : List ℕ) (u : Term Var (List ℕ)) → t ≡ lam A x u → Abstracts t

  takes_names : {G : List Ty} {A B : Ty} {t : Term Var (List ℕ)} → HasType sg G t (arrow A B) → Abstracts t
  takes_names (typed_lam d) = abstracts _ _ _ refl

  -- Forms

  not_none : (s : Shape) (ss : Shapes) → shape s ss ≡ no_shapes → ⊥
  not_none s ss e = cc

  joined_formed : (q : Quant) (x : List ℕ) (s : Shape) → IsFormed s → IsFormed (joined_to q x s)
  joined_formed q x (bind p ys s) f = elim (same_quantifier q p) as (λ (w : Bool). IsFormed (if w then (bind q (x ∷ ys) s) else (bind q (x ∷ []) (bind p ys s)))) [ true ↦ ((λ e. cc), f.1) | false ↦ ((λ e. cc), f) ]
  joined_formed q x (word y) f = ((λ e. cc), f)
  joined_formed q x (truth y) f = ((λ e. cc), f)
  joined_formed q x empty f = ((λ e. cc), f)
  joined_formed q x (applied g ss) f = ((λ e. cc), f)
  joined_formed q x (abstraction y s) f = ((λ e. cc), f)
  joined_formed q x (join o s u) f = ((λ e. cc), f)
  joined_formed q x (pi y s) f = ((λ e. cc), f)
  joined_formed q x (judge cs g) f = ((λ e. cc), f)
  joined_formed q x (focus cs b g) f = ((λ e. cc), f)
  joined_formed q x (marked m s) f = ((λ e. cc), f)
  joined_formed q x broken f = absurd f

  from_formed : (cs : Shapes) (s : Shape) → AreFormed cs → IsFormed s → AreFormed (written_from cs s)
  from_formed cs (join Cons s u) c f = from_formed (shape s cs) u (f.0, c) f.1
  from_formed cs (join Arrow s u) c f = (f, c)
  from_formed cs (join Or s u) c f = (f, c)
  from_formed cs (join And s u) c f = (f, c)
  from_formed cs (join Equal s u) c f = (f, c)
  from_formed cs (join Imply s u) c f = (f, c)
  from_formed cs (join With s u) c f = (f, c)
  from_formed cs empty c f = c
  from_formed cs (word y) c f = (f, c)
  from_formed cs (truth y) c f = (f, c)
  from_formed cs (applied g ss) c f = (f, c)
  from_formed cs (abstraction y s) c f = (f, c)
  from_formed cs (bind q ys s) c f = (f, c)
  from_formed cs (pi y s) c f = (f, c)
  from_formed cs (judge ds g) c f = (f, c)
  from_formed cs (focus ds b g) c f = (f, c)
  from_formed cs (marked m s) c f = (f, c)
  from_formed cs broken c f = absurd f

  guarded_formed : (b : Bool) (cs : Shapes) → AreFormed cs → AreFormed (guarded b cs)
  guarded_formed b no_shapes c = c
  guarded_formed true (shape (word x) cs) c = (tt, c)
  guarded_formed false (shape (word x) cs) c = c
  guarded_formed b (shape (truth y) cs) c = c
  guarded_formed b (shape empty cs) c = c
  guarded_formed b (shape (applied g ss) cs) c = c
  guarded_formed b (shape (abstraction y s) cs) c = c
  guarded_formed b (shape (join o s u) cs) c = c
  guarded_formed b (shape (bind q ys s) cs) c = c
  guarded_formed b (shape (pi y s) cs) c = c
  guarded_formed b (shape (judge ds g) cs) c = c
  guarded_formed b (shape (focus ds e g) cs) c = c
  guarded_formed b (shape (marked m s) cs) c = c
  guarded_formed b (shape broken cs) c = c

  written_formed : (s : Shape) → IsFormed s → AreFormed (written s)
  written_formed s f = guarded_formed (ends_empty s) (written_from no_shapes s) (from_formed no_shapes s tt f)

  name_formed : (x : List ℕ) (ss : Shapes) → AreFormed ss → IsFormed (name_form x ss)
  name_formed x no_shapes f = tt
  name_formed x (shape s ss) f = (not_none s ss, f)

  nil_formed : (b : Bool) (c : List ℕ) → IsFormed (if b then empty else (word c))
  nil_formed true c = tt
  nil_formed false c = tt

  -- a name alone
  not_by : (b : Bool) (h : Head Var) (l : Logical) → (h ≡ logical l → ⊥) → (if b then None else (Some h)) ≡ Some (logical l) → ⊥
  not_by true h l other e = cc
  not_by false h l other e = let same : h ≡ logical l = cc in other same

  no_index : (i : ℕ) (l : Logical) → (let h : Head Var = index i in h) ≡ logical l → ⊥
  no_index i l e = cc

  never_logical : (n : ℕ) (h : Head Var) (l : Logical) → outside n h ≡ Some (logical l) → ⊥
  never_logical n (constant d) l e = cc
  never_logical n (logical m) l e = cc
  never_logical n (nominal a) l e = cc
  never_logical n (variable x) l e = cc
  never_logical n (index i) l e = not_by (nat_lt i n) (index (i - n)) l (no_index (i - n) l) e

  lone_formed : (names : List (List ℕ)) (n : ℕ) (h g : Head Var) → outside n h ≡ Some g → IsFormed (head_form name names g no_shapes)
  lone_formed names n h (constant c) e = nil_formed (bytes_eq c (codes "nil")) c
  lone_formed names n h (nominal a) e = tt
  lone_formed names n h (variable x) e = tt
  lone_formed names n h (index i) e = tt
  lone_formed names n h (logical l) e = absurd (never_logical n h l e)

  by_last : (names : List (List ℕ)) (n : ℕ) (h g : Head Var) (b : Bool) → (if b then (outside n h) else None) ≡ Some g → IsFormed (head_form name names g no_shapes)
  by_last names n h g true e = lone_formed names n h g e
  by_last names n h g false e = absurd (cc)

  alone_formed : (names : List (List ℕ)) (n : ℕ) (t : Term Var (List ℕ)) (g : Head Var) → alone n t ≡ Some g → IsFormed (head_form name names g no_shapes)
  alone_formed names n (lam A x t) g e = alone_formed names (suc n) t g e
  alone_formed names n (spine h ts) g e = by_last names n h g (are_last n ts) e

  contracted_formed : (names : List (List ℕ)) (a : Option (Head Var)) (s : Shape) → ((g : Head Var) → a ≡ Some g → IsFormed (head_form name names g no_shapes)) → IsFormed s → IsFormed (contracted name names a s)
  contracted_formed names None s alone f = f
  contracted_formed names (Some g) s alone f = alone g refl

  argument_formed : (binds : Bool) (names : List (List ℕ)) (t : Term Var (List ℕ)) → IsFormed (named name names t) → IsFormed (contracted name names (if binds then None else (alone 0 t)) (named name names t))
  argument_formed true names t f = f
  argument_formed false names t f = contracted_formed names (alone 0 t) (named name names t) (alone_formed names 0 t) f

  -- Heads with their arguments

  two_formed : (q : Infix) (names : List (List ℕ)) (ts : Terms Var (List ℕ)) → TwoArguments ts → AreFormed (named_all name false names ts) → IsFormed (between q (named_all name false names ts))
  two_formed q names ts (two t u e) f =
      let g : AreFormed (named_all name false names (term t (term u no_terms))) = subst (λ (w : Terms Var (List ℕ)). AreFormed (named_all name false names w)) e f in
      subst (λ (w : Terms Var (List ℕ)). IsFormed (between q (named_all name false names w))) (sym e) (g.0, g.1.0)

  judged_formed : (names : List (List ℕ)) (ts : Terms Var (List ℕ)) → TwoArguments ts → AreFormed (named_all name false names ts) → IsFormed (judged (named_all name false names ts))
  judged_formed names ts (two t u e) f =
      let g : AreFormed (named_all name false names (term t (term u no_terms))) = subst (λ (w : Terms Var (List ℕ)). AreFormed (named_all name false names w)) e f in
      subst (λ (w : Terms Var (List ℕ)). IsFormed (judged (named_all name false names w))) (sym e) (written_formed (contracted name names (alone 0 t) (named name names t)) g.0, g.1.0)

  focused_formed : (names : List (List ℕ)) (ts : Terms Var (List ℕ)) → ThreeArguments ts → AreFormed (named_all name false names ts) → IsFormed (judged_in_focus (named_all name false names ts))
  focused_formed names ts (three t u v e) f =
      let g : AreFormed (named_all name false names (term t (term u (term v no_terms)))) = subst (λ (w : Terms Var (List ℕ)). AreFormed (named_all name false names w)) e f in
      subst (λ (w : Terms Var (List ℕ)). IsFormed (judged_in_focus (named_all name false names w))) (sym e) (written_formed (contracted name names (alone 0 t) (named name names t)) g.0, g.1.0, g.1.1.0)

  marked_formed : (sign level : ℕ) (names : List (List ℕ)) {G : List Ty} {A : Ty} (ts : Terms Var (List ℕ)) → OneArgument G A ts → AreFormed (named_all name false names ts) → IsFormed (with_mark sign level (named_all name false names ts))
  marked_formed sign level names ts (one t e d) f =
      let g : AreFormed (named_all name false names (term t no_terms)) = subst (λ (w : Terms Var (List ℕ)). AreFormed (named_all name false names w)) e f in
      subst (λ (w : Terms Var (List ℕ)). IsFormed (with_mark sign level (named_all name false names w))) (sym e) g.0

  truth_formed : (x : List ℕ) (names : List (List ℕ)) (ts : Terms Var (List ℕ)) → NoArgument ts → IsFormed (constant_of x (named_all name false names ts))
  truth_formed x names ts (none e) = subst (λ (w : Terms Var (List ℕ)). IsFormed (constant_of x (named_all name false names w))) (sym e) tt

  quantifies : (q : Quant) (names : List (List ℕ)) (ts : Terms Var (List ℕ)) (t : Term Var (List ℕ)) → ts ≡ term t no_terms → Abstracts t → AreFormed (named_all name true names ts) → IsFormed (quantified q (named_all name true names ts))
  quantifies q names ts t e (abstracts A x u e2) f =
      let same : ts ≡ term (lam A x u) no_terms = e ∙ ap (λ (w : Term Var (List ℕ)). term w no_terms) e2 in
      let g : AreFormed (named_all name true names (term (lam A x u) no_terms)) = subst (λ (w : Terms Var (List ℕ)). AreFormed (named_all name true names w)) same f in
      subst (λ (w : Terms Var (List ℕ)). IsFormed (quantified q (named_all name true names w))) (sym same) (joined_formed q (bound_name name names x u) (named name (bound_name name names x u ∷ names) u) g.0)

  quantified_formed : (q : Quant) (names : List (List ℕ)) {G : List Ty} {A B : Ty} (ts : Terms Var (List ℕ)) → OneArgument G (arrow A B) ts → AreFormed (named_all name true names ts) → IsFormed (quantified q (named_all name true names ts))
  quantified_formed q names ts (one t e d) f = quantifies q names ts t e (takes_names d) f

  pi_formed : (names : List (List ℕ)) (ts : Terms Var (List ℕ)) (t : Term Var (List ℕ)) → ts ≡ term t no_terms → Abstracts t → AreFormed (named_all name true names ts) → IsFormed (with_pi (named_all name true names ts))
  pi_formed names ts t e (abstracts A x u e2) f =
      let same : ts ≡ term (lam A x u) no_terms = e ∙ ap (λ (w : Term Var (List ℕ)). term w no_terms) e2 in
      let g : AreFormed (named_all name true names (term (lam A x u) no_terms)) = subst (λ (w : Terms Var (List ℕ)). AreFormed (named_all name true names w)) same f in
      subst (λ (w : Terms Var (List ℕ)). IsFormed (with_pi (named_all name true names w))) (sym same) g.0

  pi_one : (names : List (List ℕ)) {G : List Ty} {A B : Ty} (ts : Terms Var (List ℕ)) → OneArgument G (arrow A B) ts → AreFormed (named_all name true names ts) → IsFormed (with_pi (named_all name true names ts))
  pi_one names ts (one t e d) f = pi_formed names ts t e (takes_names d) f

  logical_formed : (names : List (List ℕ)) {G : List Ty} {k : List ℕ} (l : Logical) (ts : Terms Var (List ℕ)) → TakeType sg G ts (logical_type l) (kind k)
      → AreFormed (named_all name (logical_binds l) names ts) → IsFormed (logical_form l (named_all name (logical_binds l) names ts))
  logical_formed names logic.truth ts d f = truth_formed (codes "true") names ts (takes_none d)
  logical_formed names logic.falsity ts d f = truth_formed (codes "false") names ts (takes_none d)
  logical_formed names logic.conjunction ts d f = two_formed And names ts (takes_two d) f
  logical_formed names logic.disjunction ts d f = two_formed Or names ts (takes_two d) f
  logical_formed names logic.implication ts d f = two_formed Arrow names ts (takes_two d) f
  logical_formed names (logic.equality A) ts d f = two_formed Equal names ts (takes_two d) f
  logical_formed names (logic.universal A) ts d f = quantified_formed Forall names ts (takes_one d) f
  logical_formed names (logic.existential A) ts d f = quantified_formed Exists names ts (takes_one d) f
  logical_formed names (logic.nabla A) ts d f = quantified_formed Nabla names ts (takes_one d) f
  logical_formed names logic.judgement ts d f = judged_formed names ts (takes_two d) f
  logical_formed names logic.focused_judgement ts d f = focused_formed names ts (takes_three d) f
  logical_formed names (logic.star i) ts d f = marked_formed 42 i names ts (takes_one d) f
  logical_formed names (logic.at_sign i) ts d f = marked_formed 64 i names ts (takes_one d) f
  logical_formed names (logic.plus i) ts d f = marked_formed 43 i names ts (takes_one d) f
  logical_formed names (logic.hash i) ts d f = marked_formed 35 i names ts (takes_one d) f
  logical_formed names (logic.spec_universal A) ts d f = pi_one names ts (takes_one d) f
  logical_formed names logic.spec_implication ts d f = two_formed Imply names ts (takes_two d) f
  logical_formed names logic.spec_conjunction ts d f = two_formed With names ts (takes_two d) f

  cons_formed : (names : List (List ℕ)) {G : List Ty} {A : Ty} {k : List ℕ} (c : List ℕ) (ts : Terms Var (List ℕ)) → sg c ≡ Some A → bytes_eq c (codes "::") ≡ true → TakeType sg G ts A (kind k)
      → AreFormed (named_all name false names ts) → IsFormed (between Cons (named_all name false names ts))
  cons_formed names {G = G} {A = A} {k = k} c ts e same d f =
      let is_cons : c ≡ codes "::" = (bytes_decides c (codes "::")).0 same in
      let typed : Some A ≡ Some (arrow o (arrow olist olist)) = sym e ∙ ap sg is_cons ∙ lists in
      let type : A ≡ arrow o (arrow olist olist) = cc in
      two_formed Cons names ts (takes_two (subst (λ (B : Ty). TakeType sg G ts B (kind k)) type d)) f

  constant_by : (names : List (List ℕ)) {G : List Ty} {A : Ty} {k : List ℕ} (c : List ℕ) (t : Term Var (List ℕ)) (ts : Terms Var (List ℕ)) (b : Bool) → sg c ≡ Some A → bytes_eq c (codes "::") ≡ b → TakeType sg G (term t ts) A (kind k)
      → AreFormed (named_all name false names (term t ts)) → IsFormed (if b then (between Cons (named_all name false names (term t ts))) else (applied c (named_all name false names (term t ts))))
  constant_by names c t ts true e same d f = cons_formed names c (term t ts) e same d f
  constant_by names c t ts false e same d f = (not_none _ _, f)

  constant_formed : (names : List (List ℕ)) {G : List Ty} {A : Ty} {k : List ℕ} (c : List ℕ) (ts : Terms Var (List ℕ)) → sg c ≡ Some A → TakeType sg G ts A (kind k)
      → AreFormed (named_all name false names ts) → IsFormed (constant_form c (named_all name false names ts))
  constant_formed names c no_terms e d f = nil_formed (bytes_eq c (codes "nil")) c
  constant_formed names c (term t ts) e d f = constant_by names c t ts (bytes_eq c (codes "::")) e refl d f

  spine_formed : (names : List (List ℕ)) {G : List Ty} {A : Ty} {k : List ℕ} (h : Head Var) (ts : Terms Var (List ℕ)) → head_type sg G h ≡ Some A → TakeType sg G ts A (kind k)
      → AreFormed (named_all name (takes_binder h) names ts) → IsFormed (head_form name names h (named_all name (takes_binder h) names ts))
  spine_formed names (constant c) ts e d f = constant_formed names c ts e d f
  spine_formed names {G = G} {A = A} {k = k} (logical l) ts e d f =
      let type : A ≡ logical_type l = cc in
      logical_formed names l ts (subst (λ (B : Ty). TakeType sg G ts B (kind k)) type d) f
  spine_formed names (nominal a) ts e d f = name_formed _ (named_all name false names ts) f
  spine_formed names (variable x) ts e d f = name_formed _ (named_all name false names ts) f
  spine_formed names (index i) ts e d f = name_formed _ (named_all name false names ts) f

  mutual
    formed : (names : List (List ℕ)) {G : List Ty} {A : Ty} {t : Term Var (List ℕ)} → HasType sg G t A → IsFormed (named name names t)
    formed names (typed_lam {x = x} {t = t} d) = formed (bound_name name names x t ∷ names) d
    formed names (typed_spine {h = h} {ts = ts} e d) = spine_formed names h ts e d (all_formed (takes_binder h) names d)

    all_formed : (binds : Bool) (names : List (List ℕ)) {G : List Ty} {A B : Ty} {ts : Terms Var (List ℕ)} → TakeType sg G ts A B → AreFormed (named_all name binds names ts)
    all_formed binds names take_none = tt
    all_formed binds names (take_term {t = t} d rest) = (argument_formed binds names t (formed names d), all_formed binds names rest)

  pub printed_formed : {G : List Ty} {A : Ty} {t : Term Var (List ℕ)} → HasType sg G t A → IsFormed (printed name t)
  printed_formed {t = t} d = contracted_formed [] (alone 0 t) (named name [] t) (alone_formed [] 0 t) (formed [] d)
