-- WHAT A TEXT STATES has no marks: no judgement of it is one that coinduction marked.
use Rattle.std.proofs.Common.{ℕ, List, [], ◌∷◌, Bool, true, false, ◌==◌, Option, Some, None, option_map, Result, Ok, Err, if◌then◌else◌, bytes_eq, codes, sym, subst}
use Rattle.ab_term.specs.Types.{Ty, prop}
use Rattle.ab_term.specs.Logical as plain
use Rattle.ab_term.specs.Logical.{Logical}
use Rattle.ab_term.specs.Beta.{atom, abstraction, application}
use Rattle.ab_term.specs.Substitution.{instance}
use Rattle.ab_term.specs.Terms.{Nominal, Head, constant, logical, nominal, variable, index, lam, spine, Terms, no_terms, term, Read}
use Rattle.ab_term.specs.Typing.{Signature, head_type}
use Rattle.ab_term.proofs.Standing.{HeadHas, Has, AllHave, expansion_of_has, instance_has}
use Rattle.ab_grammar.specs.Tree as tree
use Rattle.ab_grammar.specs.Tree.{Tree, Trees, no_trees, Focus}
use Rattle.ab_grammar.specs.declared.Infix.{Infix}
use Rattle.ab_grammar.specs.declared.Infix.TheVariants.{Arrow, Or, And, Equal, Imply, With, Cons}
use Rattle.ab_grammar.specs.declared.Quant.{Quant}
use Rattle.ab_grammar.specs.declared.Quant.TheVariants.{Forall, Exists, Nabla}
use Rattle.ab_formulas.specs.Declarations.{Declarations, signature_in}
use Rattle.ab_formulas.specs.Marks.{star_of, at_of, plus_of, marked}
use Rattle.ab_meaning.specs.Normal.{given_all, long_form, left_type, normal_given}
use Rattle.ab_meaning.specs.Readings.{Raw, Making, Reads, reads_bound, reads_known, reads_free, reads_apply, reads_behind, reads_abs, reads_equal, reads_bind}
use Rattle.ab_meaning.specs.ResolvedNames.{Name, Resolved, bound, known, free, apply, behind, abs, equal, bind, Binding, quantified, pi, binding_head}
use Rattle.ab_meaning.specs.Scopes as scopes
use Rattle.ab_meaning.specs.Scopes.{Entry, Place, in_proof, in_clause, elsewhere, Scope, Found, or_else, or_unknown, made_of, made_of_both, after, pi_over, index_of, truth_named, variable_named, constant_at, settled_nominal, nominal_at, nominal_named, nominal_number, clause_variable, begins_with_capital, head_named, is_pi, is_list, first_list, put_before, joined, with_binder, with_binders, written, under, empty_list, with_goal, with_focus_and_goal, resolved, applied, pi_applied, context, items_before, judgement}
use Rattle.ab_meaning.specs.Terms.{constant_named, made, MeansIn}
use Rattle.ab_search_answers.specs.Unmarked.{HoldNoHash, HasNoHash}

-- the head is no mark of coinduction
abbrev pub NoHash : Head ℕ → Type 0
NoHash (logical (plain.hash i)) = ⊥
NoHash _ = Unit {0}

-- so is each head whose type is known
abbrev pub NoneIn : Resolved → Type 0
NoneIn (bound i) = Unit {0}
NoneIn (known h A) = HeadHas NoHash h
NoneIn (free x p) = Unit {0}
NoneIn (apply e f) = NoneIn e × NoneIn f
NoneIn (behind e f) = NoneIn e × NoneIn f
NoneIn (abs x p e) = NoneIn e
NoneIn (equal e f) = NoneIn e × NoneIn f
NoneIn (bind q x p w e) = NoneIn e

abbrev pub NoneFound : Found → Type 0
NoneFound (Ok r) = NoneIn r
NoneFound (Err x) = Unit {0}

abbrev NoneNamed : Option Resolved → Type 0
NoneNamed None = Unit {0}
NoneNamed (Some r) = NoneIn r

-- NAMES
either_named : (a b : Option Resolved) → NoneNamed a → NoneNamed b → NoneNamed (or_else a b)
either_named None b p q = q
either_named (Some r) b p q = p

bound_named : (o : Option ℕ) → NoneNamed (option_map bound o)
bound_named None = tt
bound_named (Some i) = tt

truths_named : (a b : Bool) → NoneNamed (if a then Some (known (logical plain.truth) prop) else (if b then Some (known (logical plain.falsity) prop) else None))
truths_named true b = tt
truths_named false true = tt
truths_named false false = tt

variables_named : (es : List Entry) (x : Name) → NoneNamed (variable_named es x)
variables_named [] x = tt
variables_named (e ∷ es) x = go (bytes_eq e.name x) (variables_named es x)
  where
    go : (b : Bool) → NoneNamed (variable_named es x) → NoneNamed (if b then Some (known (variable (record { name = e.number; type = e.type })) e.type) else variable_named es x)
    go true n = tt
    go false n = n

constants_named : (x : Name) (o : Option Ty) → NoneNamed (constant_at x o)
constants_named x None = tt
constants_named x (Some A) = tt

settled_named : (ns : List Nominal) (n : ℕ) → NoneNamed (settled_nominal ns n)
settled_named [] n = tt
settled_named (a ∷ ns) n = go (a.number == n) (settled_named ns n)
  where
    go : (b : Bool) → NoneNamed (settled_nominal ns n) → NoneNamed (if b then Some (known (nominal a) a.type) else settled_nominal ns n)
    go true k = tt
    go false k = k

nominals_named : (place : Place) (ns : List Nominal) (x : Name) (p : ℕ) → NoneNamed (nominal_named place ns x p)
nominals_named in_proof ns x p = go (nominal_number x)
  where
    go : (o : Option ℕ) → NoneNamed (nominal_at ns x p o)
    go None = tt
    go (Some n) = either_named (settled_nominal ns n) (Some (free x p)) (settled_named ns n) tt
nominals_named in_clause ns x p = tt
nominals_named elsewhere ns x p = tt

clauses_named : (place : Place) (x : Name) (p : ℕ) → NoneNamed (clause_variable place x p)
clauses_named in_clause x p = go (begins_with_capital x)
  where
    go : (b : Bool) → NoneNamed (if b then Some (free x p) else None)
    go true = tt
    go false = tt
clauses_named in_proof x p = tt
clauses_named elsewhere x p = tt

heads_named : (s : Scope) (bs : List Name) (x : Name) (p : ℕ) → NoneNamed (head_named s bs x p)
heads_named s bs x p =
    let last = or_else (constant_at x (s.constants x)) (nominal_named s.place s.nominals x p) in
    let fourth = or_else (variable_named s.variables x) last in
    let third = or_else (clause_variable s.place x p) fourth in
    either_named (option_map bound (index_of bs x)) (or_else (truth_named x) third) (bound_named (index_of bs x))
    (either_named (truth_named x) third (truths_named (bytes_eq x (codes "true")) (bytes_eq x (codes "false")))
    (either_named (clause_variable s.place x p) fourth (clauses_named s.place x p)
    (either_named (variable_named s.variables x) last (variables_named s.variables x)
    (either_named (constant_at x (s.constants x)) (nominal_named s.place s.nominals x p) (constants_named x (s.constants x)) (nominals_named s.place s.nominals x p)))))

found_named : (x : Name) (o : Option Resolved) → NoneNamed o → NoneFound (or_unknown x o)
found_named x None n = tt
found_named x (Some r) n = n

-- WHAT IS MADE of parts
of_one : (f : Resolved → Resolved) → ((e : Resolved) → NoneIn e → NoneIn (f e)) → (r : Found) → NoneFound r → NoneFound (made_of f r)
of_one f k (Ok e) n = k e n
of_one f k (Err x) n = tt

of_both : (f : Resolved → Resolved → Resolved) → ((a b : Resolved) → NoneIn a → NoneIn b → NoneIn (f a b)) → (a b : Found) → NoneFound a → NoneFound b → NoneFound (made_of_both f a b)
of_both f k (Ok a) b n m = of_one (f a) (λ e l. k a e n l) b m
of_both f k (Err x) b n m = tt

of_either : (b : Bool) (u v : Found) → NoneFound u → NoneFound v → NoneFound (if b then u else v)
of_either true u v n m = n
of_either false u v n m = m

of_pi : (r : Resolved) → NoneIn r → NoneFound (pi_over r)
of_pi (abs x p e) n = n
of_pi (bound i) n = tt
of_pi (known h A) n = tt
of_pi (free x p) n = tt
of_pi (apply e f) n = tt
of_pi (behind e f) n = tt
of_pi (equal e f) n = tt
of_pi (bind q x p w e) n = tt

of_after : (u : Found) → NoneFound u → NoneFound (after pi_over u)
of_after (Ok e) n = of_pi e n
of_after (Err x) n = tt

of_joined : (s : Scope) (o : Infix) (a b : Found) → NoneFound a → NoneFound b → NoneFound (joined s o a b)
of_joined s Arrow a b n m = of_both (scopes.connective plain.implication) (λ e f k l. ((tt, k), l)) a b n m
of_joined s Or a b n m = of_both (scopes.connective plain.disjunction) (λ e f k l. ((tt, k), l)) a b n m
of_joined s And a b n m = of_both (scopes.connective plain.conjunction) (λ e f k l. ((tt, k), l)) a b n m
of_joined s Equal a b n m = of_both equal (λ e f k l. (k, l)) a b n m
of_joined s Imply a b n m = of_both (scopes.connective plain.spec_implication) (λ e f k l. ((tt, k), l)) a b n m
of_joined s With a b n m = of_both (scopes.connective plain.spec_conjunction) (λ e f k l. ((tt, k), l)) a b n m
of_joined s Cons a b n m = of_both (λ t u. apply (apply scopes.before_list t) u) (λ e f k l. ((tt, k), l)) a b n m

of_binders : (kinds : List Name) (q : Quant) (bs : List tree.Binder) (e : Found) → NoneFound e → NoneFound (with_binders kinds q bs e)
of_binders kinds q [] e n = n
of_binders kinds q (b ∷ bs) e n = go (written kinds b.type_of) (of_binders kinds q bs e n)
  where
    go : (w : Result (Option Ty) Name) → NoneFound (with_binders kinds q bs e) → NoneFound (with_binder q b w (with_binders kinds q bs e))
    go (Ok w) k = of_one (bind (quantified q) b.name b.place w) (λ r l. l) (with_binders kinds q bs e) k
    go (Err x) k = tt

of_list : (c : Tree) (u : Found) → NoneFound u → NoneFound (first_list c u)
of_list c u n = of_either (is_list c) u (made_of_both put_before (Ok empty_list) u) n (of_both put_before (λ e f k l. (k, (tt, l))) (Ok empty_list) u tt n)

of_goal : (l g : Found) → NoneFound l → NoneFound g → NoneFound (with_goal l g)
of_goal l g n m = of_both apply (λ e f k l. (k, l)) (made_of (apply (known (logical plain.judgement) (plain.logical_type plain.judgement))) l) g (of_one (apply (known (logical plain.judgement) (plain.logical_type plain.judgement))) (λ e k. (tt, k)) l n) m

of_focus : (l f g : Found) → NoneFound l → NoneFound f → NoneFound g → NoneFound (with_focus_and_goal l f g)
of_focus l f g n k m =
    let head = apply (known (logical plain.focused_judgement) (plain.logical_type plain.focused_judgement)) in
    of_both apply (λ a b c d. (c, d)) (made_of_both apply (made_of head l) f) g (of_both apply (λ a b c d. (c, d)) (made_of head l) f (of_one head (λ e i. (tt, i)) l n) k) m

-- AN EXPRESSION
mutual
  pub tree_none : (s : Scope) (bs : List Name) (e : Tree) → NoneFound (resolved s bs e)
  tree_none s bs (tree.name x p) = found_named x (head_named s bs x p) (heads_named s bs x p)
  tree_none s bs (tree.apply f vs p) = of_either (is_pi f) (pi_applied s bs vs) (applied s bs (resolved s bs f) vs) (pi_none s bs vs) (applied_none s bs (resolved s bs f) vs (tree_none s bs f))
  tree_none s bs (tree.abs x e p) = of_one (abs x p) (λ r n. n) (resolved s (x ∷ bs) e) (tree_none s (x ∷ bs) e)
  tree_none s bs (tree.join o t u p) = of_joined s o (resolved s bs t) (resolved s bs u) (tree_none s bs t) (tree_none s bs u)
  tree_none s bs (tree.bind q xs e p) = of_binders s.kinds q xs (resolved s (under xs bs) e) (tree_none s (under xs bs) e)
  tree_none s bs (tree.judge cs f g p) = focus_none s bs (context s bs cs) f (resolved s bs g) (context_none s bs cs) (tree_none s bs g)

  applied_none : (s : Scope) (bs : List Name) (f : Found) (vs : Trees) → NoneFound f → NoneFound (applied s bs f vs)
  applied_none s bs f no_trees n = n
  applied_none s bs f (tree.tree v vs) n = applied_none s bs (made_of_both apply f (resolved s bs v)) vs (of_both apply (λ e k a b. (a, b)) f (resolved s bs v) n (tree_none s bs v))

  pi_none : (s : Scope) (bs : List Name) (vs : Trees) → NoneFound (pi_applied s bs vs)
  pi_none s bs no_trees = tt
  pi_none s bs (tree.tree v no_trees) = of_after (resolved s bs v) (tree_none s bs v)
  pi_none s bs (tree.tree v (tree.tree w vs)) = tt

  context_none : (s : Scope) (bs : List Name) (cs : Trees) → NoneFound (context s bs cs)
  context_none s bs no_trees = tt
  context_none s bs (tree.tree c cs) = items_none s bs (first_list c (resolved s bs c)) cs (of_list c (resolved s bs c) (tree_none s bs c))

  items_none : (s : Scope) (bs : List Name) (l : Found) (cs : Trees) → NoneFound l → NoneFound (items_before s bs l cs)
  items_none s bs l no_trees n = n
  items_none s bs l (tree.tree c cs) n = items_none s bs (made_of_both put_before l (resolved s bs c)) cs (of_both put_before (λ e f a b. (a, (tt, b))) l (resolved s bs c) n (tree_none s bs c))

  focus_none : (s : Scope) (bs : List Name) (l : Found) (f : Focus) (g : Found) → NoneFound l → NoneFound g → NoneFound (judgement s bs l f g)
  focus_none s bs l tree.unfocused g n m = of_goal l g n m
  focus_none s bs l (tree.focused f) g n m = of_focus l (resolved s bs f) g n (tree_none s bs f) m

-- A READING
abbrev pub NoneRaw : Raw → Type 0
NoneRaw (atom h) = HeadHas NoHash h
NoneRaw (abstraction A x t) = NoneRaw t
NoneRaw (application t u) = NoneRaw t × NoneRaw u

made_none : (x : Name) (A : Ty) → HeadHas NoHash (made x A)
made_none x A = go (nominal_number x)
  where
    go : (o : Option ℕ) → HeadHas NoHash (constant_named x o A)
    go None = tt
    go (Some n) = tt

binding_none : (q : Binding) (A : Ty) → HeadHas NoHash (logical (binding_head q A))
binding_none (quantified Forall) A = tt
binding_none (quantified Exists) A = tt
binding_none (quantified Nabla) A = tt
binding_none pi A = tt

-- whatever free names stand for, but for such a head
pub reads_none : (m : Making) → ((x : Name) (A : Ty) → HeadHas NoHash (m x A)) → (types : Name → Ty) {G : List Ty} {r : Resolved} {t : Raw} {A : Ty} {As : List Ty} → Reads m types G r t A As → NoneIn r → NoneRaw t
reads_none m k types (reads_bound e) n = tt
reads_none m k types reads_known n = n
reads_none m k types (reads_free {x = x} f) n = k x (types x)
reads_none m k types (reads_apply a b) n = (reads_none m k types a n.0, reads_none m k types b n.1)
reads_none m k types (reads_behind a b) n = (reads_none m k types b n.1, reads_none m k types a n.0)
reads_none m k types (reads_abs f a) n = reads_none m k types a n
reads_none m k types (reads_equal a b) n = ((tt, reads_none m k types a n.0), reads_none m k types b n.1)
reads_none m k types (reads_bind {q = q} {A = A} f w a) n = (binding_none q A, reads_none m k types a n)

-- THE NORMAL FORM
given_none : (t : Read) (ts : Terms ℕ (List ℕ)) → Has NoHash t → AllHave NoHash ts → Has NoHash (given_all t ts)
given_none t no_terms p q = p
given_none t (term u us) p q = given_none (instance t u) us (instance_has NoHash t u p q.0) q.1

long_none : (o : Option Ty) (h : Head ℕ) (ts : Terms ℕ (List ℕ)) → HeadHas NoHash h → AllHave NoHash ts → Has NoHash (long_form o h ts)
long_none None h ts p q = (p, q)
long_none (Some A) h ts p q = expansion_of_has NoHash (codes "x") (left_type A ts) h ts p q

pub normal_none : (sg : Signature) (G : List Ty) (t : Raw) (ts : Terms ℕ (List ℕ)) → NoneRaw t → AllHave NoHash ts → Has NoHash (normal_given sg G t ts)
normal_none sg G (atom h) ts n q = long_none (head_type sg G h) h ts n q
normal_none sg G (abstraction A x t) ts n q = given_none (lam A x (normal_given sg (A ∷ G) t no_terms)) ts (normal_none sg (A ∷ G) t no_terms n tt) q
normal_none sg G (application t u) ts n q = normal_none sg G t (term (normal_given sg G u no_terms) ts) n.0 (normal_none sg G u no_terms n.1 tt, q)

-- WITHOUT SUCH A HEAD no judgement is marked so
star_none : (i : ℕ) (t : Read) → HoldNoHash (marked (star_of i) t)
star_none i (lam A x t) = tt
star_none i (spine (logical plain.judgement) ts) = tt
star_none i (spine (logical plain.focused_judgement) ts) = tt
star_none i (spine h ts) = tt

at_none : (i : ℕ) (t : Read) → HoldNoHash (marked (at_of i) t)
at_none i (lam A x t) = tt
at_none i (spine (logical plain.judgement) ts) = tt
at_none i (spine (logical plain.focused_judgement) ts) = tt
at_none i (spine h ts) = tt

plus_none : (i : ℕ) (t : Read) → HoldNoHash (marked (plus_of i) t)
plus_none i (lam A x t) = tt
plus_none i (spine (logical plain.judgement) ts) = tt
plus_none i (spine (logical plain.focused_judgement) ts) = tt
plus_none i (spine h ts) = tt

pub formula_none : (F : Read) → Has NoHash F → HasNoHash F
formula_none (lam A x t) p = formula_none t p
formula_none (spine (constant c) ts) p = tt
formula_none (spine (nominal a) ts) p = tt
formula_none (spine (variable y) ts) p = tt
formula_none (spine (index i) ts) p = tt
formula_none (spine (logical plain.conjunction) (term t (term u no_terms))) p = (formula_none t p.1.0, formula_none u p.1.1.0)
formula_none (spine (logical plain.disjunction) (term t (term u no_terms))) p = (formula_none t p.1.0, formula_none u p.1.1.0)
formula_none (spine (logical plain.implication) (term t (term u no_terms))) p = (formula_none t p.1.0, formula_none u p.1.1.0)
formula_none (spine (logical (plain.universal A)) (term t no_terms)) p = formula_none t p.1.0
formula_none (spine (logical (plain.existential A)) (term t no_terms)) p = formula_none t p.1.0
formula_none (spine (logical (plain.nabla A)) (term t no_terms)) p = formula_none t p.1.0
formula_none (spine (logical (plain.star i)) (term t ts)) p = star_none i t
formula_none (spine (logical (plain.at_sign i)) (term t ts)) p = at_none i t
formula_none (spine (logical (plain.plus i)) (term t ts)) p = plus_none i t
formula_none (spine (logical (plain.hash i)) ts) p = absurd p.0
formula_none (spine (logical plain.conjunction) no_terms) p = tt
formula_none (spine (logical plain.conjunction) (term t no_terms)) p = tt
formula_none (spine (logical plain.conjunction) (term t (term u (term v ts)))) p = tt
formula_none (spine (logical plain.disjunction) no_terms) p = tt
formula_none (spine (logical plain.disjunction) (term t no_terms)) p = tt
formula_none (spine (logical plain.disjunction) (term t (term u (term v ts)))) p = tt
formula_none (spine (logical plain.implication) no_terms) p = tt
formula_none (spine (logical plain.implication) (term t no_terms)) p = tt
formula_none (spine (logical plain.implication) (term t (term u (term v ts)))) p = tt
formula_none (spine (logical (plain.universal A)) no_terms) p = tt
formula_none (spine (logical (plain.universal A)) (term t (term u ts))) p = tt
formula_none (spine (logical (plain.existential A)) no_terms) p = tt
formula_none (spine (logical (plain.existential A)) (term t (term u ts))) p = tt
formula_none (spine (logical (plain.nabla A)) no_terms) p = tt
formula_none (spine (logical (plain.nabla A)) (term t (term u ts))) p = tt
formula_none (spine (logical l) ts) p = tt

-- WHAT A TEXT MEANS
pub means_none : (D : Declarations) (s : Scope) (e : Tree) (A : Ty) (F : Read) → MeansIn D s e A F → HasNoHash F
means_none D s e A F m =
    let found : NoneIn m.named = subst NoneFound m.names (tree_none s [] e) in
    let reading = m.reading.reading in
    let raw : NoneRaw m.raw = subst NoneRaw m.reading.is (reads_none made made_none reading.types reading.reads found) in
    subst HasNoHash (sym m.normal) (formula_none (normal_given (signature_in D) [] m.raw no_terms) (normal_none (signature_in D) [] m.raw no_terms raw tt))
